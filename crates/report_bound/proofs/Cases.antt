-- One instruction and one field, case by case.
use Prim.Native.Nat.{ℕ, ◌+◌, ◌*◌, ◌≤◌}
use mathlib.Core.Path.{◌≡◌, refl}
use mathlib.Core.Bool.{Bool, true, false, cond, ◌&&◌}
use mathlib.Core.List.{List}
use lib.Dec.{eqb, ltb}
use borrow.Author.Tests.{eq-eqb, ne_eqb, ltb-false}
use Rattle.masks.proofs.Both.{both, or_left, or_right}
use Rattle.description.specs.declared.Header.{Header}
use Rattle.description.specs.declared.Instr.{Instr}
use Rattle.description.specs.Fields.{tag_at, instr_of}
use Rattle.ops.specs.declared.Rule.{Rule}
use Rattle.ops.specs.Ops.{rule_of}
use Rattle.definition.specs.Module.{signed_params}
use Rattle.definition.specs.Ways.{is_reset}
use Rattle.definition.specs.Report.{is_test}
use Rattle.report_bound.specs.declared.Within.{Within}
use Rattle.report_bound.specs.Most.{least, highest, most_guards, inspection_most, unrecorded, record_most, instr_most, signature_most}
use Rattle.report_bound.specs.Walk.{field_most}

module _ (locals stack height : ℕ) (entry : Bool) (i : Instr) (rule : Rule) (e : rule ≡ rule_of i.op) where
  pub record_is : (b : Bool) (n h g : ℕ) → b ≡ is_reset rule.acts → n ≡ highest b stack i.taken i.given → h ≡ least height n
      → g ≡ most_guards rule.asks rule.slots i.taken entry
      → 15 + 49 * (h + locals) + 51 * i.given + 4 * g ≡ record_most locals stack height entry i
  unfolding record_most
  record_is b n h g eb en eh eg = rw (eh, en, eg, eb, e)

  pub instr-is : (r a t : ℕ) (b : Bool) → unrecorded stack i ≡ false → r ≡ record_most locals stack height entry i → a ≡ inspection_most rule.others
      → b ≡ is_test rule.exit → t ≡ cond b 8 0 → r + a + t ≡ instr_most locals stack height entry i
  unfolding instr_most
  instr-is r a t b f er ea eb et = rw (f, et, eb, ea, er, e)

pub instr-none : (locals stack height : ℕ) (entry : Bool) (i : Instr) → unrecorded stack i ≡ true → ◌≡◌ {A = ℕ} 0 (instr_most locals stack height entry i)
unfolding instr_most
instr-none locals stack height entry i f = rw f

pub given-fits : (stack : ℕ) (i : Instr) → unrecorded stack i ≡ false → i.given ≤ stack
unfolding unrecorded
given-fits stack i f = ltb-false stack i.given (search (or_left, or_right))

pub taken-fits : (stack : ℕ) (i : Instr) → unrecorded stack i ≡ false → i.taken ≤ stack
unfolding unrecorded
taken-fits stack i f = ltb-false stack i.taken (search (or_left, or_right))

module _ (s : List ℕ) (p : ℕ) (h : Header) (w : Within) where
  pub field-chunk : (b : Bool) (n r : ℕ) → tag_at s p ≡ 2 → b ≡ ltb w.seen h.signatures → n ≡ signed_params s p b → r ≡ signature_most n b
      → r ≡ field_most s p h w
  unfolding field_most
  field-chunk b n r e eb en er = rw (eq-eqb (tag_at s p) 2 e, er, en, eb)

  pub field-instr : (i : Instr) (r : ℕ) → (eqb (tag_at s p) 3 && w.reachable) ≡ true → (tag_at s p ≡ 2 → ⊥) → i ≡ instr_of s p
      → r ≡ instr_most w.locals w.stack w.height w.entry i → r ≡ field_most s p h w
  unfolding field_most
  field-instr i r e n ei er = rw (ne_eqb (tag_at s p) 2 n, e, er, ei)

  pub field-other : (eqb (tag_at s p) 3 && w.reachable) ≡ false → (tag_at s p ≡ 2 → ⊥) → ◌≡◌ {A = ℕ} 0 (field_most s p h w)
  unfolding field_most
  field-other e n = rw (ne_eqb (tag_at s p) 2 n, e)
