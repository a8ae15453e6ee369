-- `visit::operands::visit_at` meets its contract.
use Prim.Native.Nat.{ℕ}
use mathlib.Core.Path.{refl, ap, ◌∙◌}
use native.Mathlib.Omega.{arith}
use lib.ListN.{get_or}
use Rattle.layout.proofs.Read.{row-known, stack_is}
use Rattle.visit.proofs.operands.visit_at.Goals as goal

pub row_at-row-requires : goal.row_at-row-requires
row_at-row-requires c =
    let a = c.args in
    let p = c.requires in
    let r = row-known a.s.now a.ws.now a.c a.ch a.at p.indexed p.c_in_bounds p.ch_value p.at_lt_count in
    omega arith

pub row_height-requires : goal.row_height-requires
row_height-requires c =
    let a = c.args in
    let p = c.requires in
    let r = row-known a.s.now a.ws.now a.c a.ch a.at p.indexed p.c_in_bounds p.ch_value p.at_lt_count in
    omega arith

pub returns : goal.returns
returns c =
    let a = c.args in
    let p = c.requires in
    let r = row-known a.s.now a.ws.now a.c a.ch a.at p.indexed p.c_in_bounds p.ch_value p.at_lt_count in
    let w = c.row_at-row.ensures ∙ r.at in
    let h = c.row_height.ensures ∙ ap (λ (k : ℕ). get_or a.ws.now k 0) w in (
      record {
        indexed = p.indexed;
        chunk = p.c_in_bounds;
        at = r.there;
        row = w;
        height = omega arith;
        low = omega (arith, stack_is a.s.now a.ws.now a.c a.ch p.ch_value);
        ins = c.instr_of-ins.ensures;
        rule = c.rule_of.ensures;
        field = c.field_of.ensures;
        start = c.less.ensures;
      },
      refl,
      refl,
    )
