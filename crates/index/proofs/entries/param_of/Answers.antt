-- `index::entries::param_of` meets its contract.
use native.Mathlib.Omega.{arith}
use mathlib.Core.Path.{sym, ap, ◌∙◌}
use Rattle.layout.proofs.Read.{place-small, param_is}
use Rattle.description.specs.Fields.{param_of}
use Prim.Native.Nat.{ℕ}
use Rattle.index.proofs.entries.param_of.Goals as goal

pub param_at-requires : goal.param_at-requires
param_at-requires c =
    let a = c.args in
    let p = c.requires in
    (omega (arith, p.good.long, p.at_value, place-small a.s.now a.c p.c_in_bounds), omega (arith, p.k_in_bounds, (p.good.each_chunk a.c p.c_in_bounds).params))

pub returns : goal.returns
returns c =
    let a = c.args in
    let p = c.requires in
    c.param_at.ensures
    ∙ ap (λ (q : ℕ). param_of a.s.now q a.k) p.at_value
    ∙ sym (param_is a.s.now a.c p.c_in_bounds a.k p.k_in_bounds)
