-- The walk over the fields, one field more.
use mathlib.Core.Path.{◌≡◌, refl, sym, ◌∙◌}
use mathlib.Core.Bool.{true}
use mathlib.Core.List.{List}
use Prim.Native.Nat.{ℕ, ◌<◌, ◌≤◌}
use native.Mathlib.Omega.{arith}
use borrow.Author.Tests.{le-ltb}
use lib.ListN.{length}
use Rattle.std.proofs.Common.{Result, Ok, Err}
use Rattle.answers.specs.declared.Refusal.{Refusal}
use Rattle.description.specs.Fields.{next_at, fields_from}
use Rattle.description.proofs.Walk.{fields-turn, fields-end}
use Rattle.description.specs.reader.Reading.{after}
use Rattle.description.proofs.reader.Laws.{after_next}
use Rattle.definition.specs.declared.Scan.{Scan}
use Rattle.definition.specs.Form.{field_step, finished, on_step, scan_from, unscanned, form_of}
use Rattle.form.specs.late_checks.Counted.{counted}
use Rattle.form.specs.code_steps.Bounds.{Bounded}
use Rattle.form.proofs.Within.{After, go-after, go-inside}

-- from the field at p on the walk gives w, nothing passes its bound, and what the late looks count is what they count from here on
pub record Walking (s : List ℕ) (p : ℕ) (t : Scan) (w : Result ℕ Refusal) : Type 0 where
  pub inside : p ≤ length s
  pub bound : Bounded t p
  pub gives : scan_from s (fields_from s p) t ≡ w
  pub counts : counted s t.seen t.instrs (fields_from s p) ≡ counted s 0 0 (fields_from s 0)

pub walk_start : (s : List ℕ) → length s ≤ 1048576 → Walking s 0 unscanned (form_of s)
unfolding form_of
walk_start s h =
    record {
      inside = omega arith;
      bound =
          record {
            chunks = omega arith;
            signatures = omega arith;
            seen = omega arith;
            unseen = omega arith;
            instrs = omega arith;
            uncoded = omega arith;
            locals = omega arith;
            stack = omega arith;
            count = omega arith;
            cells = omega arith;
          };
      gives = rw (le-ltb 1048576 (length s) h);
      counts = refl;
    }

module _ (s : List ℕ) (p : ℕ) (t : Scan) (w : Result ℕ Refusal) (k : Walking s p t w) where
  pub walk-go : (u : Scan) → p < length s → field_step s p t ≡ Ok u → Walking s (after s p) u w
  unfolding scan_from on_step
  walk-go u h e =
      let a : After s p t u = go-after s p t u k.bound e in
      rw (after_next s p (go-inside s p t u e))
      (record {
        inside = go-inside s p t u e;
        bound = a.bound;
        gives = rw (fields-turn s p h, e) at k.gives;
        counts = sym (a.count (fields_from s (next_at s p))) ∙ (rw (fields-turn s p h) at k.counts);
      })

  pub walk-stop : (r : Refusal) → p < length s → field_step s p t ≡ Err r → Err r ≡ w
  unfolding scan_from on_step
  walk-stop r h e = rw (fields-turn s p h, e) at k.gives

  pub walk_end : length s ≤ p → finished s t ≡ w
  unfolding scan_from
  walk_end h = rw (fields-end s p h) at k.gives

  pub walk-counted : length s ≤ p → counted s 0 0 (fields_from s 0) ≡ true
  unfolding counted
  walk-counted h = sym (rw (fields-end s p h) at k.counts)
