-- The first output of a visit, from what the code has: a case for each of its arms.
use Rattle.std.specs.Prelude.{Some}
use Prim.Native.Nat.{ℕ, zero, suc, ◌+◌, ◌%◌, ◌<◌, ◌≤◌}
use native.Mathlib.Omega.{arith}
use mathlib.Core.Path.{◌≡◌, refl, sym, ap, ◌∙◌}
use mathlib.Core.Bool.{true}
use mathlib.Core.Option.{none, some}
use mathlib.Core.List.{List, [], ◌∷◌}
use lib.ListN.{length, get_or}
use borrow.Author.Tests.{eq-eqb, ne_eqb}
use Rattle.masks.specs.declared.Mask.{Mask}
use Rattle.masks.specs.Mask.{of, body, common, immediate}
use Rattle.masks.specs.Names.{UNKNOWN}
use Rattle.flows.specs.Flow.{negated}
use Rattle.cells.specs.declared.Cell.{Cell}
use Rattle.cells.specs.Cell.{made}
use Rattle.packing.specs.Packing.{construction}
use Rattle.description.specs.declared.Instr.{Instr}
use Rattle.description.specs.Fields.{reply_of}
use Rattle.ops.specs.declared.Rule.{Rule}
use Rattle.ops.specs.declared.Makes.TheVariants.{Anything, Constant, Immediate, Local as NamedLocal, Operand, OperandMask, Reply, Result, Common, Kind, Negation, OneKind, Slots, Composite, Part, NativeValue}
use Rattle.words.specs.Layout.{cell_at}
use Rattle.definition.specs.declared.Made.{Made}
use Rattle.definition.specs.Module.{Native, row, module_of}
use Rattle.definition.specs.Data.{slot_count, slots_from, read_slots}
use Rattle.definition.specs.Outputs.{no_cell, value, common_kinds, bits_mask, negation, with_predicate, with_origin, constant_cell, field_cell, native_cell, at, reply_shape, constructed_extent, composite_cell, first_output, outputs, second_output, rest_output}
use Rattle.definition.specs.Leaves.{always}
use Rattle.layout.specs.declared.Chunk.{Chunk as ChunkNumbers}
use Rattle.layout.specs.declared.Tables.{Tables}
use Rattle.layout.specs.Layout.{result_at, local_at}
use Rattle.layout.specs.Indexed.{tables_of, chunk_at, no_native}
use Rattle.layout.proofs.Read.{locals-is, slots-are, natives-are, float_is}
use Rattle.visit.specs.declared.RowVisit.{RowVisit}
use Rattle.visit.specs.Held.{Looking, args_in, facts_in, visit_in}
use Rattle.visit.proofs.Visits.{args_are}
use Rattle.new_values.specs.Making.{native_by}
use Rattle.new_values.proofs.Making.{native-by}
use Rattle.new_values.proofs.results.Made.{outputs-by}
use Rattle.new_values.proofs.results.Made.{first-local as first-named}
use Rattle.visit.proofs.operands.Parts.{code_is, facts-are, ins-is, rule-is}
use Rattle.rule_laws.proofs.Told.{names_slots, makes-slots}
use Rattle.rule_laws.proofs.Faults.{always-parts, named_end}
use Rattle.outputs.proofs.Parts.{named_in, callee-made, reply-made, result-is, local-there}

-- ---- a native of the table, and one past it
native-there : (ns : List Native) (n : ℕ) → n < length ns → at ns n ≡ some (get_or ns n no_native)
unfolding at
native-there [] n h = absurd (omega arith)
native-there (x ∷ xs) zero h = refl
native-there (x ∷ xs) (suc n) h = native-there xs n (omega arith)

native-past : (ns : List Native) (n : ℕ) → length ns ≤ n → at ns n ≡ none
unfolding at
native-past [] n h = refl
native-past (x ∷ xs) zero h = absurd (omega arith)
native-past (x ∷ xs) (suc n) h = native-past xs n (omega arith)

module _ (s : List ℕ) (t : Tables) (e : t ≡ tables_of s) (n : ℕ) where
  pub native-is : n < t.natives
      → native_by (get_or (module_of s).natives n no_native).shape (get_or (module_of s).natives n no_native).snapshot ≡ native_cell (at (module_of s).natives n) (module_of s).float
  native-is h =
      let l : n < length (module_of s).natives = omega (arith, natives-are s t e) in
      rw (native-there (module_of s).natives n l) (sym (native-by (get_or (module_of s).natives n no_native) (module_of s).float))

  pub native-none : t.natives ≤ n → made UNKNOWN t.float ≡ native_cell (at (module_of s).natives n) (module_of s).float
  unfolding native_cell
  native-none h =
      let l : length (module_of s).natives ≤ n = omega (arith, natives-are s t e) in
      rw (native-past (module_of s).natives n l, float_is s t e)

-- ---- slots that no fault refuses are there
module _ (s ws : List ℕ) (v : RowVisit) (x : Looking s ws v) (t : Tables) (e : t ≡ tables_of s) where
  float-there : (visit_in s ws v).code.float ≡ t.float
  float-there = rw (code_is s ws v) (sym (float_is s t e))

  -- a value that is no more than a mask
  value-is : (m : Mask) → made m t.float ≡ value (visit_in s ws v) m
  value-is m = rw float-there

  pub first-anything : made UNKNOWN t.float ≡ first_output (visit_in s ws v) Anything
  unfolding first_output
  first-anything = value-is UNKNOWN

  pub first-constant : constant_cell v.ins t.float ≡ first_output (visit_in s ws v) Constant
  unfolding first_output
  first-constant = rw (← ins-is s ws v x, float-there)

  pub first-immediate : made (immediate (v.ins.a % 256)) t.float ≡ first_output (visit_in s ws v) Immediate
  unfolding first_output
  first-immediate = rw (← ins-is s ws v x, float-there)

  pub first-operand : get_or (args_in ws v) 0 no_cell ≡ first_output (visit_in s ws v) Operand
  unfolding first_output
  first-operand = rw (args_are s ws v x)

  pub first-operand-mask : made (get_or (args_in ws v) 0 no_cell).mask t.float ≡ first_output (visit_in s ws v) OperandMask
  unfolding first_output
  first-operand-mask = rw (args_are s ws v x, float-there)

  pub first-reply : v.rule.makes ≡ Reply → reply_shape (reply_of s v.field) ≡ first_output (visit_in s ws v) Reply
  unfolding first_output
  first-reply m = reply-made s ws v x m

  pub first-result : v.rule.makes ≡ Result → cell_at ws (result_at (module_of s) v.ins.a) ≡ first_output (visit_in s ws v) Result
  unfolding first_output
  first-result m = rw (← ins-is s ws v x) (result-is s ws v x v.ins.a (callee-made s ws v x m))

  pub first-common : (k : Mask) → made (common (common_kinds (of 65535) (args_in ws v)) k) t.float ≡ first_output (visit_in s ws v) (Common k)
  unfolding first_output
  first-common k = rw (args_are s ws v x, float-there)

  pub first_kind : (k : Mask) → made k t.float ≡ first_output (visit_in s ws v) (Kind k)
  unfolding first_output
  first_kind k = value-is k

  pub first-negation : with_predicate (made (negation (get_or (args_in ws v) 0 no_cell).mask) t.float) (negated (get_or (args_in ws v) 0 no_cell).flow.predicate)
      ≡ first_output (visit_in s ws v) Negation
  unfolding first_output
  first-negation = rw (args_are s ws v x, float-there)

  pub first-one-kind : made (bits_mask (get_or (args_in ws v) 0 no_cell).mask (common_kinds (of 65535) (args_in ws v))) t.float
      ≡ first_output (visit_in s ws v) OneKind
  unfolding first_output
  first-one-kind = rw (args_are s ws v x, float-there)

  pub first_part : field_cell v.ins (get_or (args_in ws v) 0 no_cell).flow.owned t.float ≡ first_output (visit_in s ws v) Part
  unfolding first_output
  first_part = rw (args_are s ws v x, ← ins-is s ws v x, float-there)

  pub first-native : native_cell (at (module_of s).natives v.ins.a) (module_of s).float ≡ first_output (visit_in s ws v) NativeValue
  unfolding first_output
  first-native = rw (← ins-is s ws v x, code_is s ws v)

  -- ---- composites
  pub flat-is : v.ins.a ≡ 0 → construction (v.ins.b % 256) (constructed_extent (visit_in s ws v)) ≡ composite_cell (visit_in s ws v)
  unfolding composite_cell
  flat-is h = rw (← ins-is s ws v x, eq-eqb v.ins.a 0 h)

  pub boxed-is : (v.ins.a ≡ 0 → ⊥) → made (body (v.ins.b % 256)) t.float ≡ composite_cell (visit_in s ws v)
  unfolding composite_cell
  boxed-is h = rw (← ins-is s ws v x, ne_eqb v.ins.a 0 h, float-there)

  pub first-composite : composite_cell (visit_in s ws v) ≡ first_output (visit_in s ws v) Composite
  unfolding first_output
  first-composite = refl

  -- ---- locals
  pub first-local : (ch : ChunkNumbers) → ch ≡ chunk_at s ws v.chunk → v.rule.makes ≡ NamedLocal
      → with_origin (cell_at ws (local_at v.row ch.stack v.ins.a)) (Some (v.ins.a % 65536)) ≡ first_output (visit_in s ws v) NamedLocal
  first-local ch q m =
      let h = named_in s ws v x ch q m in
      let few : v.ins.a < 65535 = omega (arith, locals-is s ws v.chunk ch q, (x.indexed.good.each_chunk v.chunk x.chunk).locals) in
      rw (local-there s ws v x ch q v.ins.a h)
      (ap (λ (i : Instr). with_origin (get_or (visit_in s ws v).locals i.a no_cell) (Some (i.a % 65536))) (ins-is s ws v x)
      ∙ sym (first-named (visit_in s ws v) (rw (← ins-is s ws v x) few)))

  -- ---- slots
  pub slots-there : v.rule.makes ≡ Slots → always (visit_in s ws v) ≡ 0 → v.ins.a + slot_count v.ins v.rule.slots ≤ t.slots
  slots-there m h =
      let f = rw (code_is s ws v, ← ins-is s ws v x, ← rule-is s ws v x) at (always-parts (visit_in s ws v) h).1 in
      omega (arith, slots-are s t e, named_end (module_of s) v.ins v.rule.slots named f)
    where
      named : names_slots v.rule.slots ≡ true
      named = rw x.rule (makes-slots v.ins.op (ap (λ (r : Rule). r.makes) (sym x.rule) ∙ m))

  pub first-slots : read_slots (module_of s) (facts_in s ws) v.ins.a (slots_from v.ins v.rule.slots) ≡ first_output (visit_in s ws v) Slots
  unfolding first_output
  first-slots = rw (← ins-is s ws v x, ← rule-is s ws v x, code_is s ws v, facts-are s ws v)

  -- ---- all outputs
  pub made-is : (first : Cell) → first ≡ first_output (visit_in s ws v) v.rule.makes
      → ◌≡◌ {A = Made}
      (record {
        first = first;
        second = second_output v.rule.others v.ins first t.float;
        rest = rest_output v.rule.others first t.float;
      })
      (outputs (visit_in s ws v))
  made-is first h =
      sym (outputs-by (visit_in s ws v) first (h ∙ ap (λ (r : Rule). first_output (visit_in s ws v) r.makes) (rule-is s ws v x))
      ∙ rw (← rule-is s ws v x, ← ins-is s ws v x, float-there))
