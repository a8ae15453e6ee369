-- What an instruction adds for a tag, by the tests that the code makes.
use Prim.Native.Nat.{ℕ}
use mathlib.Core.Path.{◌≡◌, refl, sym, ap, ◌∙◌}
use mathlib.Core.Bool.{Bool, true, false, cond, ◌&&◌}
use mathlib.Core.List.{List, [], ◌∷◌}
use lib.Dec.{eqb}
use lib.ListN.{get_or}
use borrow.Author.Tests.{eqb-true, not-false}
use Rattle.masks.proofs.Both.{both}
use Rattle.definition.specs.Module.{module_of}
use Rattle.definition.specs.Report.{record_of, record_bytes, inspection_bytes, branch_bytes}
use Rattle.form_laws.specs.Good.{chunk_no}
use Rattle.layout.specs.Layout.{row_at}
use Rattle.visit.specs.Held.{facts_in}
use Rattle.run_state.specs.Course.{known_as}
use Rattle.report_size.specs.Adds.{record_at, inspection_at, branch_at, added_for}
use Rattle.report_size.specs.recorded.Told.{recorded, false_in, decided_in, way_in}
use Rattle.report_size.proofs.Beside.{inspection-told, branch-told}
use Rattle.report_size.proofs.Measured.{added_none}
use Rattle.definition.specs.Leaves.{line_at}

module _ (s ws : List ℕ) (c i : ℕ) (number : (chunk_no (module_of s) c).number ≡ c) (row : ℕ) (e : row ≡ row_at (module_of s) c i) (op : ℕ)
    (o : op ≡ (line_at (chunk_no (module_of s) c) i).instr.op) (tag : ℕ) where
  told-false : inspection_at s ws c i ≡ cond (false_in ws row op) (inspection_bytes (record { chunk = c; instruction = i })) []
  told-false = rw (e, o) (inspection-told s ws c i number)

  told-way : branch_at s ws c i ≡ cond (decided_in ws row op) (branch_bytes (record { chunk = c; instruction = i; value = way_in ws row })) []
  told-way = rw (e, o) (branch-told s ws c i number)

  for-record : eqb tag 19 ≡ true → added_for s ws tag c i ≡ record_at s ws c i
  unfolding added_for
  for-record h = ap (λ (k : ℕ). added_for s ws k c i) (eqb-true tag 19 h)

  for-inspection : eqb tag 20 ≡ true → added_for s ws tag c i ≡ inspection_at s ws c i
  unfolding added_for
  for-inspection h = ap (λ (k : ℕ). added_for s ws k c i) (eqb-true tag 20 h)

  for-branch : eqb tag 21 ≡ true → added_for s ws tag c i ≡ branch_at s ws c i
  unfolding added_for
  for-branch h = ap (λ (k : ℕ). added_for s ws k c i) (eqb-true tag 21 h)

  pub as-record : (eqb tag 19 && recorded ws row) ≡ true → record_at s ws c i ≡ added_for s ws tag c i
  as-record h = sym (for-record (both (eqb tag 19) (recorded ws row) h).0)

  pub as-inspection : (eqb tag 20 && false_in ws row op) ≡ true → inspection_bytes (record { chunk = c; instruction = i }) ≡ added_for s ws tag c i
  as-inspection h =
      let b = both (eqb tag 20) (false_in ws row op) h in
      sym (for-inspection b.0 ∙ told-false ∙ ap (λ (t : Bool). cond t (inspection_bytes (record { chunk = c; instruction = i })) []) b.1)

  pub as-branch : (eqb tag 21 && decided_in ws row op) ≡ true
      → branch_bytes (record { chunk = c; instruction = i; value = way_in ws row }) ≡ added_for s ws tag c i
  as-branch h =
      let b = both (eqb tag 21) (decided_in ws row op) h in
      sym (for-branch b.0 ∙ told-way ∙ ap (λ (t : Bool). cond t (branch_bytes (record { chunk = c; instruction = i; value = way_in ws row })) []) b.1)

  -- no test holds
  no_record : recorded ws row ≡ false → record_at s ws c i ≡ []
  unfolding record_at
  no_record h =
      let z : get_or ws (row_at (module_of s) c i) 0 ≡ 0 = ap (λ (p : ℕ). get_or ws p 0) (sym e) ∙ eqb-true (get_or ws row 0) 0 (not-false _ h) in
      added_none record_bytes (λ c i x. record_of (known_as s) c (facts_in s ws) i x ∷ []) s ws c i z

  no-inspection : false_in ws row op ≡ false → inspection_at s ws c i ≡ []
  no-inspection h = told-false ∙ ap (λ (t : Bool). cond t (inspection_bytes (record { chunk = c; instruction = i })) []) h

  no-branch : decided_in ws row op ≡ false → branch_at s ws c i ≡ []
  no-branch h = told-way ∙ ap (λ (t : Bool). cond t (branch_bytes (record { chunk = c; instruction = i; value = way_in ws row })) []) h

  pub as-nothing : (eqb tag 19 && recorded ws row) ≡ false → (eqb tag 20 && false_in ws row op) ≡ false → (eqb tag 21 && decided_in ws row op) ≡ false
      → [] ≡ added_for s ws tag c i
  unfolding added_for
  as-nothing a b d = sym (go (eqb tag 19) (eqb tag 20) (eqb tag 21) a b d)
    where
      go : (x y z : Bool) → (x && recorded ws row) ≡ false → (y && false_in ws row op) ≡ false → (z && decided_in ws row op) ≡ false
          → cond x (record_at s ws c i) (cond y (inspection_at s ws c i) (cond z (branch_at s ws c i) [])) ≡ []
      go true y z a b d = no_record a
      go false true z a b d = no-inspection b
      go false false true a b d = no-branch d
      go false false false a b d = refl
