-- The sizes of a description, by its form.
use Prim.Native.Nat.{ℕ, ◌+◌, ◌<◌, ◌≤◌}
use native.Mathlib.Omega.{arith}
use mathlib.Core.Path.{◌≡◌, sym, ◌∙◌}
use mathlib.Core.List.{List}
use lib.ListN.{length}
use Rattle.std.proofs.Common.{Ok, Err}
use Rattle.masks.proofs.Both.{never}
use Rattle.answers.specs.declared.Refusal.{Refusal}
use Rattle.answers.specs.Answers.{accepts}
use Rattle.definition.specs.Module.{module_of}
use Rattle.definition.specs.Form.{form_of}
use Rattle.definition.specs.Call.{call}
use Rattle.form_laws.proofs.Theorem.{good-form}
use Rattle.refusal_laws.proofs.Indexed.{indexed-accepted}
use Rattle.consistent.proofs.Decided.{of-decide}
use Rattle.consistent.proofs.Accepted.{accepted-left}
use Rattle.report_bound.specs.Most.{most_report}
use Rattle.report_bound.specs.Sizes.{enough_by, report_room, NoLonger, SizesFor}
use Rattle.report_bound.proofs.Theorem.{accepted-within}

-- with an index it is the same report
for-both : (s : List ℕ) (n : ℕ) → ((ws buf : List ℕ) (limit long steps : ℕ) → (call s ws buf limit).answer ≡ accepts long steps → long ≤ n) → NoLonger s n
for-both s n h =
    record { plain = h; indexed = λ ws buf idx limit long steps k e. h ws buf limit long steps (indexed-accepted s ws buf idx limit long steps k e).0 }

module _ (s : List ℕ) (w : ℕ) (e : form_of s ≡ Ok w) where
  pub short : length s ≤ 1048576
  short = (good-form s w e).long

  pub small : w < 4294967296
  small = (good-form s w e).small

  pub lends : (n : ℕ) → n ≡ most_report (module_of s) → SizesFor s (Ok (record { words = w + 1; report = n }))
  unfolding enough_by report_room
  lends n q = record { answer = rw (e, q); longest = rw q (for-both s _ (accepted-within s)) }

-- nothing that is not of good form is accepted
pub lends_nothing : (s : List ℕ) (r : Refusal) → form_of s ≡ Err r → SizesFor s (Err r)
unfolding enough_by report_room
lends_nothing s r e =
    record {
      answer = rw e;
      longest = for-both s 0 (λ ws buf limit long steps h.
          let d = accepted-left s ws buf limit long steps h in
          let (w, cap, f, x) = of-decide s (length ws) limit d.report steps d.decides in
          never (cc));
    }
