-- `index::entries::snapshot` meets its contract.
use native.Mathlib.Omega.{arith}
use mathlib.Core.Path.{sym, ap, ◌∙◌}
use Rattle.layout.proofs.Read.{native-small, native-is}
use Rattle.definition.specs.Module.{Native, native_of}
use Prim.Native.Nat.{ℕ}
use lib.Dec.{eqb}
use Rattle.index.proofs.entries.snapshot.Goals as goal

pub overflow_mul-i : goal.overflow_mul-i
overflow_mul-i c =
    let a = c.args in
    let p = c.requires in
    omega (arith, p.good.long, native-small a.s.now a.t p.t_value _ p.good a.i p.i_lt_natives)

pub overflow_add-t : goal.overflow_add-t
overflow_add-t c =
    let a = c.args in
    let p = c.requires in
    omega (arith, p.good.long, native-small a.s.now a.t p.t_value _ p.good a.i p.i_lt_natives)

pub overflow_add-t-2 : goal.overflow_add-t-2
overflow_add-t-2 c =
    let a = c.args in
    let p = c.requires in
    omega (arith, p.good.long, native-small a.s.now a.t p.t_value _ p.good a.i p.i_lt_natives)

pub u8_at-requires : goal.u8_at-requires
u8_at-requires c = tt

pub returns : goal.returns
unfolding native_of
returns c =
    let a = c.args in
    let p = c.requires in
    ap (λ (n : ℕ). eqb n 1) c.u8_at.ensures
    ∙ sym (ap (λ (x : Native). x.snapshot) (native-is a.s.now a.t p.t_value _ p.good a.i p.i_lt_natives))
