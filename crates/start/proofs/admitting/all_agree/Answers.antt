-- `start::admitting::all_agree` meets its contract.
use mathlib.Core.Path.{sym, ◌∙◌}
use Rattle.start.proofs.admitting.Chunks.{agree-next, agree-stop, agree-end}
use Rattle.form_laws.specs.Good.{chunk_no}
use Rattle.definition.specs.Module.{module_of}
use mathlib.Core.Path.{◌≡◌, refl}
use native.Mathlib.Omega.{arith}
use Rattle.start.proofs.admitting.all_agree.Goals as goal

pub loop-k-init : goal.loop-k-init
loop-k-init c = refl

pub agrees-requires : goal.agrees-requires
agrees-requires c = record { good = c.requires.good; c_in_bounds = c.requires.c_in_bounds; numbers_of = c.requires.numbers_of; k_in_bounds = (omega arith, omega arith) }

pub returns-then-not-agrees : goal.returns-then-not-agrees
returns-then-not-agrees c =
    let a = c.args in
    let m = chunk_no (module_of a.s.now) a.c in
    let k = c.loop-k.k in
    let inv = c.loop-k.invariant in
    sym (sym inv ∙ agree-stop m.tags m.params k (omega arith) (omega arith) _ c.agrees.ensures (c.if-not-agrees.true))

pub loop-k-preserved : goal.loop-k-preserved
loop-k-preserved c =
    let a = c.args in
    let m = chunk_no (module_of a.s.now) a.c in
    let k = c.loop-k.k in
    let inv = c.loop-k.invariant in
    agree-next m.tags m.params k (omega arith) (omega arith) _ c.agrees.ensures (c.if-not-agrees.false) ∙ inv

pub returns : goal.returns
returns c = let e : c.loop-k.k ≡ c.args.n = omega arith in sym (agree-end _ _ _ c.requires.least) ∙ (rw e at c.loop-k.invariant)
