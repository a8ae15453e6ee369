-- The parts of the definition's visit that the code has as they are.
use Prim.Native.Nat.{ℕ, ◌%◌}
use mathlib.Core.Path.{◌≡◌, refl, sym, ap, ◌∙◌}
use mathlib.Core.List.{List}
use lib.ListN.{get_or}
use Rattle.cells.specs.declared.Cell.{Cell}
use Rattle.packing.specs.Packing.{packed_extent, constructed}
use Rattle.description.specs.declared.Instr.{Instr}
use Rattle.ops.specs.Ops.{rule_of}
use Rattle.definition.specs.Module.{module_of}
use Rattle.definition.specs.Outputs.{no_cell, arg, instr, constructed_extent}
use Rattle.definition.specs.Leaves.{visit_of}
use Rattle.layout.specs.declared.Tables.{Tables}
use Rattle.layout.specs.Indexed.{tables_of}
use Rattle.visit.specs.declared.RowVisit.{RowVisit}
use Rattle.visit.specs.Held.{Looking, args_in, facts_in, known_in, visit_in}
use Rattle.visit.proofs.Visits.{args_are}
use Rattle.layout.proofs.Read.{float_is, handle-is}

module _ (s ws : List ℕ) (v : RowVisit) where
  pub code_is : (visit_in s ws v).code ≡ module_of s
  unfolding visit_in visit_of known_in
  code_is = refl

  pub facts-are : (visit_in s ws v).facts ≡ facts_in s ws
  unfolding visit_in visit_of
  facts-are = refl

  module _ (x : Looking s ws v) where
    pub ins-is : v.ins ≡ instr (visit_in s ws v)
    unfolding visit_in visit_of
    ins-is = x.ins

    pub rule-is : v.rule ≡ (visit_in s ws v).rule
    unfolding visit_in visit_of
    rule-is = x.rule ∙ ap (λ (i : Instr). rule_of i.op) x.ins

    pub operand-is : (k : ℕ) → get_or (args_in ws v) k no_cell ≡ arg (visit_in s ws v) k
    operand-is k = sym (ap (λ (l : List Cell). get_or l k no_cell) (args_are s ws v x))

    pub constructed-is : (t : Tables) → t ≡ tables_of s
        → constructed (packed_extent (args_in ws v) t.float t.handle) (v.ins.b % 256) v.ins.c ≡ constructed_extent (visit_in s ws v)
    unfolding constructed_extent
    constructed-is t e =
        ap (λ (f : ℕ). constructed (packed_extent (args_in ws v) f t.handle) (v.ins.b % 256) v.ins.c) (float_is s t e)
        ∙ ap (λ (h : ℕ). constructed (packed_extent (args_in ws v) (module_of s).float h) (v.ins.b % 256) v.ins.c) (handle-is s t e)
        ∙ ap (λ (i : Instr). constructed (packed_extent (args_in ws v) (module_of s).float (module_of s).handle) (i.b % 256) i.c) ins-is
        ∙ rw (args_are s ws v x, code_is) refl
