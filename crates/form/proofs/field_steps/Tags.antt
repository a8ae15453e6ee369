-- Which step the tag of a field picks.
use mathlib.Core.Path.{◌≡◌}
use mathlib.Core.Bool.{Bool, true, false, cond, ◌&&◌}
use mathlib.Core.List.{List}
use Prim.Native.Nat.{ℕ, ◌<◌, ◌≤◌}
use native.Mathlib.Omega.{arith}
use borrow.Author.Tests.{lt-ltb, le-ltb, ltb-true, ne_eqb}
use lib.Dec.{ltb}
use lib.ListN.{length}
use Rattle.std.proofs.Common.{Err}
use Rattle.masks.proofs.Both.{both}
use Rattle.description.specs.Fields.{tag_at, next_at}
use Rattle.definition.specs.declared.Scan.{Scan}
use Rattle.answers.specs.Answers.{nowhere}
use Rattle.definition.specs.Form.{header_step, chunk_step, instr_step, site_step, table_step, field_step}

pub overrun : (s : List ℕ) (p : ℕ) (t : Scan) → length s < next_at s p → field_step s p t ≡ Err (nowhere 1 0)
unfolding field_step
overrun s p t h = rw (lt-ltb (length s) (next_at s p) h)

module _ (s : List ℕ) (p : ℕ) (t : Scan) (fit : next_at s p ≤ length s) where
  pub tag-header : tag_at s p ≡ 1 → field_step s p t ≡ header_step s p t
  unfolding field_step
  tag-header e = rw (le-ltb (length s) (next_at s p) fit, e)

  pub tag-chunk : tag_at s p ≡ 2 → field_step s p t ≡ chunk_step s p t
  unfolding field_step
  tag-chunk e = rw (le-ltb (length s) (next_at s p) fit, e)

  pub tag-instr : tag_at s p ≡ 3 → field_step s p t ≡ instr_step s p t
  unfolding field_step
  tag-instr e = rw (le-ltb (length s) (next_at s p) fit, e)

  pub tag-site : tag_at s p ≡ 4 → field_step s p t ≡ site_step s p t
  unfolding field_step
  tag-site e = rw (le-ltb (length s) (next_at s p) fit, e)

  -- the last test, after the four before it
  last : (tag_at s p ≡ 1 → ⊥) → (tag_at s p ≡ 2 → ⊥) → (tag_at s p ≡ 3 → ⊥) → (tag_at s p ≡ 4 → ⊥)
      → (x : Bool) → (ltb 4 (tag_at s p) && ltb (tag_at s p) 9) ≡ x
      → field_step s p t ≡ cond x (table_step s p (tag_at s p) t) (Err (nowhere 1 0))
  unfolding field_step
  last one two three four x e =
      rw (le-ltb (length s) (next_at s p) fit, ne_eqb (tag_at s p) 1 one, ne_eqb (tag_at s p) 2 two, ne_eqb (tag_at s p) 3 three, ne_eqb (tag_at s p) 4 four, e)

  pub tag-table : (ltb 4 (tag_at s p) && ltb (tag_at s p) 9) ≡ true → field_step s p t ≡ table_step s p (tag_at s p) t
  tag-table e =
      let big : 4 < tag_at s p = ltb-true 4 (tag_at s p) (both (ltb 4 (tag_at s p)) (ltb (tag_at s p) 9) e).0 in
      last (λ h. omega arith) (λ h. omega arith) (λ h. omega arith) (λ h. omega arith) true e

  pub tag-none : (tag_at s p ≡ 1 → ⊥) → (tag_at s p ≡ 2 → ⊥) → (tag_at s p ≡ 3 → ⊥) → (tag_at s p ≡ 4 → ⊥)
      → (ltb 4 (tag_at s p) && ltb (tag_at s p) 9) ≡ false → field_step s p t ≡ Err (nowhere 1 0)
  tag-none one two three four e = last one two three four false e
