-- What each case of an answer comes to.
use Prim.Native.Nat.{ℕ, ◌+◌, ◌<◌}
use native.Mathlib.Omega.{arith}
use mathlib.Core.Path.{◌≡◌, refl, sym, ap, ◌∙◌}
use mathlib.Core.Bool.{true, cond}
use mathlib.Core.List.{List, [], ◌∷◌}
use lib.Dec.{eqb}
use lib.ListN.{length, take, get_or}
use Rattle.std.specs.Prelude.{Result, Ok, Err}
use Rattle.masks.proofs.Both.{never}
use Rattle.answers.specs.declared.Refusal.{Refusal}
use Rattle.answers.specs.Answers.{numbers, indexed_numbers, accepts, accepts_with}
use Rattle.answers.specs.declared.Accepted.{Accepted}
use Rattle.answers.specs.declared.AcceptedIndexed.{AcceptedIndexed}
use Rattle.definition.specs.Form.{form_of}
use Rattle.definition.specs.Module.{module_of}
use Rattle.definition.specs.Report.{report_bytes}
use Rattle.definition.specs.Call.{call}
use Rattle.definition.specs.CallIndexed.{call_indexed}
use Rattle.report_laws.specs.Read.{read_report}
use Rattle.consistent.specs.Consistent.{Consistent}
use Rattle.consistent.specs.OneReport.{OneReport}
use Rattle.form_laws.proofs.Theorem.{good-form}
use Rattle.lookup.specs.declared.Part.{Part}
use Rattle.lookup.specs.Find.{at_end}
use Rattle.report_index.specs.Index.{agrees, sought, Answered}
use Rattle.refusal_laws.proofs.Calls.{refused-numbers}
use Rattle.refusal_laws.proofs.Indexed.{indexed-numbers}
use Rattle.report_bound.specs.declared.Room.{Room}
use Rattle.report_bound.specs.Most.{most_report}
use Rattle.report_bound.specs.Sizes.{enough_by, report_room, SizesFor}
use Rattle.call.specs.Checked.{Checked}
use Rattle.call.specs.CheckedIndexed.{CheckedIndexed}
use Rattle.facts_c.specs.Called.{CallOf, IndexedCallOf, form_number, least_words, longest_report, WordsOf, SizesOf, PartOf, sought_number, sought_part, SoughtOf}

pub in-accepted : (a : Result Accepted Refusal) (x : Accepted) → a ≡ Ok x → 0 ∷ (65535 ∷ (65535 ∷ (x.steps ∷ (x.length ∷ [])))) ≡ numbers a
unfolding numbers
in-accepted a x e = rw e

pub in-refused : (a : Result Accepted Refusal) (r : Refusal) → a ≡ Err r → r.number ∷ (r.chunk ∷ (r.instruction ∷ (r.steps ∷ (0 ∷ [])))) ≡ numbers a
unfolding numbers
in-refused a r e = rw e

-- a length of 32 bits
pub short-length : (a : Result Accepted Refusal) (x : Accepted) → a ≡ Ok x → get_or (numbers a) 4 0 < 4294967296 → x.length < 4294967296
unfolding numbers
short-length a x e h = rw e at h

-- the call with its answer in numbers
module _ (s ws buf : List ℕ) (limit : ℕ) where
  accepted-by : (a : Result Accepted Refusal) (buf' ws' : List ℕ) → Checked s ws buf limit a buf' ws' → get_or (numbers a) 0 0 ≡ 0
      → (long : ℕ) × (steps : ℕ) × ((call s ws buf limit).answer ≡ accepts long steps) × Consistent (module_of s) (read_report (take long buf'))
      × (report_bytes (read_report (take long buf')) ≡ take long buf') × OneReport s long steps (take long buf')
  unfolding numbers
  accepted-by (Ok a) buf' ws' k z =
      (a.length, a.steps, sym k.answer, k.consistent a.length a.steps refl, k.exact a.length a.steps refl, k.one-report a.length a.steps refl)
  accepted-by (Err r) buf' ws' k z = absurd (omega (arith, (refused-numbers s ws buf limit r (sym k.answer)).0))

  pub called : (a : Result Accepted Refusal) (r : ℕ) (out buf' ws' : List ℕ) → Checked s ws buf limit a buf' ws' → out ≡ numbers a → r ≡ get_or (numbers a) 0 0
      → CallOf s ws buf limit r out buf' ws'
  called a r out buf' ws' k e n =
      rw e
      (record {
        answer = k.said;
        number = n;
        report = k.report;
        workspace = k.workspace;
        accepted = λ z. accepted-by a buf' ws' k (sym n ∙ z);
      })

pub words-turned : (f : Result ℕ Refusal) (r : Refusal) → f ≡ Err r → WordsOf f r.number (0 ∷ [])
unfolding form_number least_words
words-turned f r e = rw e (record { number = refl; words = refl })

pub words-fine : (f : Result ℕ Refusal) (w : ℕ) → f ≡ Ok w → WordsOf f 0 ((w + 1) ∷ [])
unfolding form_number least_words
words-fine f w e = rw e (record { number = refl; words = refl })

pub words_small : (s : List ℕ) (w : ℕ) → form_of s ≡ Ok w → w < 4294967296
words_small s w e = (good-form s w e).small

-- the sizes of a description, by its form
module _ (s : List ℕ) where
  lent-room : (f : Result ℕ Refusal) (x : Room) → enough_by s f ≡ Ok x → (form_number f ≡ 0) × (least_words f ≡ x.words) × (longest_report s f ≡ x.report)
  unfolding enough_by form_number least_words longest_report
  lent-room (Ok w) x e =
      let q : ◌≡◌ {A = Room} (record { words = w + 1; report = most_report (module_of s) }) x = cc in
      (refl, ap (λ (r : Room). r.words) q, ap (λ (r : Room). r.report) q)
  lent-room (Err r) x e = never (cc)

  lent_none : (f : Result ℕ Refusal) (r : Refusal) → enough_by s f ≡ Err r → (form_number f ≡ r.number) × (least_words f ≡ 0) × (longest_report s f ≡ 0)
  unfolding enough_by form_number least_words longest_report
  lent_none (Ok w) r e = never (cc)
  lent_none (Err q) r e = ((cc), refl, refl)

  pub sizes-fine : (x : Result Room Refusal) (room : Room) → SizesFor s x → x ≡ Ok room → SizesOf s 0 (room.words ∷ room.report ∷ [])
  unfolding report_room
  sizes-fine x room k e =
      let (n, w, l) = lent-room (form_of s) room (sym k.answer ∙ e) in
      record { number = sym n; sizes = rw (w, l); longest = rw e at k.longest }

  pub sizes-turned : (x : Result Room Refusal) (r : Refusal) → SizesFor s x → x ≡ Err r → SizesOf s r.number (0 ∷ 0 ∷ [])
  unfolding report_room
  sizes-turned x r k e =
      let (n, w, l) = lent_none (form_of s) r (sym k.answer ∙ e) in
      record { number = sym n; sizes = rw (w, l); longest = rw e at k.longest }

pub part-found : (p x : Part) (r : ℕ) (out : List ℕ) → p ≡ x → r ≡ cond (eqb p.size 0) 0 1 → out ≡ p.first ∷ (p.size ∷ []) → PartOf x r out
part-found p x r out e n o = rw (← e) (record { there = n; part = o })

-- ---- with an index
pub in-accepted-with : (a : Result AcceptedIndexed Refusal) (x : AcceptedIndexed) → a ≡ Ok x
    → 0 ∷ (65535 ∷ (65535 ∷ (x.steps ∷ (x.length ∷ (x.index ∷ []))))) ≡ indexed_numbers a
unfolding indexed_numbers
in-accepted-with a x e = rw e

pub in-refused-with : (a : Result AcceptedIndexed Refusal) (r : Refusal) → a ≡ Err r
    → r.number ∷ (r.chunk ∷ (r.instruction ∷ (r.steps ∷ (0 ∷ (0 ∷ []))))) ≡ indexed_numbers a
unfolding indexed_numbers
in-refused-with a r e = rw e

-- lengths of 32 bits
pub short_lengths : (a : Result AcceptedIndexed Refusal) (x : AcceptedIndexed) → a ≡ Ok x
    → (get_or (indexed_numbers a) 4 0 < 4294967296) × (get_or (indexed_numbers a) 5 0 < 4294967296) → (x.length < 4294967296) × (x.index < 4294967296)
unfolding indexed_numbers
short_lengths a x e h = rw e at h

module _ (s ws buf idx : List ℕ) (limit : ℕ) where
  accepted-with-by : (a : Result AcceptedIndexed Refusal) (buf' idx' ws' : List ℕ) → CheckedIndexed s ws buf idx limit a buf' idx' ws' → get_or (indexed_numbers a) 0 0 ≡ 0
      → (long : ℕ) × (steps : ℕ) × (n : ℕ) × ((call_indexed s ws buf idx limit).answer ≡ accepts_with long steps n)
      × Consistent (module_of s) (read_report (take long buf')) × (report_bytes (read_report (take long buf')) ≡ take long buf') × OneReport s long steps (take long buf')
      × (agrees (take long buf') (take n idx') ≡ true)
  unfolding indexed_numbers
  accepted-with-by (Ok a) buf' idx' ws' k z =
      (a.length, a.steps, a.index, sym k.answer, k.consistent a.length a.steps a.index refl, k.exact a.length a.steps a.index refl, k.one-report a.length a.steps a.index refl, k.own-index a.length a.steps a.index refl)
  accepted-with-by (Err r) buf' idx' ws' k z = absurd (omega (arith, (indexed-numbers s ws buf idx limit r (sym k.answer)).0))

  pub called-with : (a : Result AcceptedIndexed Refusal) (r : ℕ) (out buf' idx' ws' : List ℕ) → CheckedIndexed s ws buf idx limit a buf' idx' ws' → out ≡ indexed_numbers a
      → r ≡ get_or out 0 0 → IndexedCallOf s ws buf idx limit r out buf' idx' ws'
  called-with a r out buf' idx' ws' k e n =
      record {
        answer = e ∙ k.said;
        number = n;
        report = k.report;
        index = k.index;
        workspace = k.workspace;
        accepted = λ z. accepted-with-by a buf' idx' ws' k (ap (λ (l : List ℕ). get_or l 0 0) (sym e) ∙ sym n ∙ z);
      }

-- the lookup through an index
module _ (s x : List ℕ) (c i : ℕ) (a : Result Part Refusal) (h : Answered s x c i a) where
  pub sought-refused : (f : Refusal) → a ≡ Err f → SoughtOf s (sought s x c i) f.number (length s ∷ (0 ∷ []))
  unfolding sought_number sought_part at_end
  sought-refused f e = rw (← h.same, e) (record { number = refl; part = refl })

  pub sought-found : (p : Part) (r : ℕ) (out : List ℕ) → a ≡ Ok p → r ≡ cond (eqb p.size 0) 0 1 → out ≡ p.first ∷ (p.size ∷ [])
      → SoughtOf s (sought s x c i) r out
  unfolding sought_number sought_part
  sought-found p r out e n o = rw (← h.same, e) (record { number = n; part = o })
