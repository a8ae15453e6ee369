-- `index::entries::result_of` meets its contract.
use native.Mathlib.Omega.{arith}
use mathlib.Core.Path.{sym, ap, ◌∙◌}
use Rattle.layout.proofs.Read.{place-small, declared-is}
use Rattle.description.specs.Fields.{result_of}
use Rattle.index.proofs.entries.result_of.Goals as goal

pub declared_result-requires : goal.declared_result-requires
declared_result-requires c =
    let a = c.args in
    let p = c.requires in
    omega (arith, p.good.long, p.at_value, place-small a.s.now a.c p.c_in_bounds)

pub returns : goal.returns
returns c =
    let a = c.args in
    let p = c.requires in
    c.declared_result.ensures ∙ ap (result_of a.s.now) p.at_value ∙ sym (declared-is a.s.now a.c p.c_in_bounds)
