-- Demand 1 of the call with an index, by the call without: it refuses as that one does, or by 19, and else writes the index besides.
use Prim.Native.Nat.{ℕ, ◌<◌, ◌≤◌}
use native.Mathlib.Omega.{arith}
use mathlib.Core.Path.{◌≡◌, refl, sym, ◌∙◌, ap}
use mathlib.Core.Logic.{◌⊎◌, inl, inr, ⊎_elim}
use mathlib.Core.Bool.{Bool, true, false, cond}
use mathlib.Core.List.{List, ◌++◌}
use lib.Dec.{ltb}
use lib.ListN.{length, take, drop, replicate}
use lib.Seq.{take_at}
use borrow.Author.Tests.{ltb-true, ltb-false}
use Rattle.std.specs.Prelude.{Err}
use Rattle.masks.proofs.Both.{never}
use Rattle.answers.specs.Answers.{nowhere, accepts, accepts_with}
use Rattle.answers.proofs.Told.{accepts-same, accepts_with-same}
use Rattle.answers.specs.declared.Refusal.{Refusal}
use Rattle.definition.specs.Module.{Module}
use Rattle.definition.specs.Report.{report_bytes}
use Rattle.definition.specs.Call.{Decided, reported, turned, decided, decide, Outcome, left_words, turned_back, delivered, outcome_of, call}
use Rattle.definition.specs.CallIndexed.{IndexedOutcome, turned_back_with, delivered_with, index_of, outcome_with, call_indexed}
use Rattle.refusal_laws.specs.Indexed.{TooLong}
use Rattle.refusal_laws.proofs.Left.{decided-zero}
use Rattle.refusal_laws.proofs.Calls.{refused-numbers, untouched-exactly, accepted-zero}

-- what is left with an index, beside what is left without: the same refusal; 19, the index being too long; the same report, and the index x
data Beside (buf idx : List ℕ) (o : Outcome) : IndexedOutcome → Type 0 where
  same : (r : Refusal) → o.answer ≡ Err r → Beside buf idx o (record { answer = Err r; report = o.report; index = idx; workspace = o.workspace })
  short : (long steps : ℕ) → o.answer ≡ accepts long steps → length idx < length (index_of (take long o.report))
      → Beside buf idx o (record { answer = Err (nowhere 19 steps); report = buf; index = idx; workspace = o.workspace })
  whole : (long steps : ℕ) (x : List ℕ) → o.answer ≡ accepts long steps → index_of (take long o.report) ≡ x → length x ≤ length idx
      → Beside buf idx o (record { answer = accepts_with long steps (length x); report = o.report; index = x ++ drop (length x) idx; workspace = o.workspace })

outcome-beside : (d : Decided) (ws buf idx : List ℕ) → Beside buf idx (outcome_of d ws buf) (outcome_with d ws buf idx)
unfolding outcome_of outcome_with delivered delivered_with turned_back turned_back_with left_words
outcome-beside (turned r) ws buf idx = same r refl
outcome-beside (reported q steps) ws buf idx = go (ltb (length buf) (length bs)) (ltb (length idx) (length x)) refl
  where
    bs : List ℕ
    bs = report_bytes q

    x : List ℕ
    x = index_of bs

    sent : Outcome
    sent = record { answer = accepts (length bs) steps; report = bs ++ drop (length bs) buf; workspace = replicate (length ws) 0 }

    both : IndexedOutcome
    both = record { answer = accepts_with (length bs) steps (length x); report = sent.report; index = x ++ drop (length x) idx; workspace = sent.workspace }

    own : index_of (take (length bs) (bs ++ drop (length bs) buf)) ≡ x
    own = ap index_of (take_at bs (drop (length bs) buf) (length bs) refl)

    go : (a b : Bool) → ltb (length idx) (length x) ≡ b
        → Beside buf idx (cond a (turned_back (nowhere 6 steps) ws buf) sent)
        (cond a (turned_back_with (nowhere 6 steps) ws buf idx) (cond b (turned_back_with (nowhere 19 steps) ws buf idx) both))
    go true b e = same (nowhere 6 steps) refl
    go false true e = short (length bs) steps refl (rw own (ltb-true (length idx) (length x) e))
    go false false e = whole (length bs) steps x refl own (ltb-false (length idx) (length x) e)

module _ {buf idx : List ℕ} {o : Outcome} where
  -- a refusal is that of the call without an index, or 19
  refused-by : {w : IndexedOutcome} → Beside buf idx o w → (r : Refusal) → w.answer ≡ Err r
      → (w.index ≡ idx) × (((o.answer ≡ Err r) × (w.report ≡ o.report)) ⊎ ((r ≡ nowhere 19 r.steps) × (w.report ≡ buf) × TooLong o idx r.steps))
  refused-by (same q e) r h = let z : q ≡ r = cc in (refl, inl (e ∙ ap Err z, refl))
  refused-by (short long steps e l) r h = let z : nowhere 19 steps ≡ r = cc in rw (← z) (refl, inr (refl, refl, (long, e, l)))
  refused-by (whole long steps x e i l) r h = never (cc)

  workspace-by : {w : IndexedOutcome} → Beside buf idx o w → w.workspace ≡ o.workspace
  workspace-by (same r e) = refl
  workspace-by (short long steps e l) = refl
  workspace-by (whole long steps x e i l) = refl

  refused-too : {w : IndexedOutcome} → Beside buf idx o w → (r : Refusal) → o.answer ≡ Err r → w.answer ≡ Err r
  refused-too (same q e) r h = cc
  refused-too (short long steps e l) r h = never (cc)
  refused-too (whole long steps x e i l) r h = never (cc)

  too_long : {w : IndexedOutcome} → Beside buf idx o w → (steps : ℕ) → TooLong o idx steps → w.answer ≡ Err (nowhere 19 steps)
  too_long (same r e) steps (long, h, k) = never (cc)
  too_long (short m n e l) steps (long, h, k) = ap (λ (i : ℕ). Err (nowhere 19 i)) (accepts-same (sym e ∙ h)).1
  too_long (whole m n x e i l) steps (long, h, k) =
      let z : m ≡ long = (accepts-same (sym e ∙ h)).0 in
      absurd (omega (arith, ap length (sym i ∙ ap (λ (j : ℕ). index_of (take j o.report)) z)))

-- beside what an accepted call with an index leaves: what the call without leaves, and the index of its report
pub record LeftWith (o : Outcome) (w : IndexedOutcome) (idx : List ℕ) (long steps n : ℕ) : Type 0 where
  pub answer : o.answer ≡ accepts long steps
  pub report : o.report ≡ w.report
  pub size : length (index_of (take long o.report)) ≡ n
  pub index : w.index ≡ index_of (take long o.report) ++ drop n idx

left_by : {buf idx : List ℕ} {o : Outcome} {w : IndexedOutcome} → Beside buf idx o w → (long steps n : ℕ) → w.answer ≡ accepts_with long steps n → LeftWith o w idx long steps n
left_by (same r e) long steps n h = never (cc)
left_by (short k j e l) long steps n h = never (cc)
left_by {idx = idx} {o = o} (whole k j x e i l) long steps n h =
    let (a, c, b) = accepts_with-same h in
    let z : index_of (take long o.report) ≡ x = rw (← a) i in
    record { answer = rw (← a, ← c) e; report = refl; size = ap length z ∙ b; index = rw (z, ← b) }

pub outcome-with-zero : (m : Module) (cap limit : ℕ) (ws buf idx : List ℕ) → (outcome_with (decided m cap limit) ws buf idx).workspace ≡ replicate (length ws) 0
outcome-with-zero m cap limit ws buf idx = workspace-by (outcome-beside (decided m cap limit) ws buf idx) ∙ decided-zero m cap limit ws buf

module _ (s ws buf idx : List ℕ) (limit : ℕ) where
  beside : Beside buf idx (call s ws buf limit) (call_indexed s ws buf idx limit)
  unfolding call call_indexed
  beside = outcome-beside (decide s (length ws) limit) ws buf idx

  -- THEOREM
  pub indexed-numbers : (r : Refusal) → (call_indexed s ws buf idx limit).answer ≡ Err r → (0 < r.number) × (r.number ≤ 19)
  indexed-numbers r e =
      ⊎_elim (λ a. let n = refused-numbers s ws buf limit r a.0 in (n.0, omega (arith, n.1))) (λ a. rw a.0 (omega arith, omega arith)) (refused-by beside r e).1

  -- THEOREM
  pub indexed-untouched : (r : Refusal) → (call_indexed s ws buf idx limit).answer ≡ Err r
      → ((call_indexed s ws buf idx limit).report ≡ buf)
      × ((call_indexed s ws buf idx limit).index ≡ idx)
      × ((r.number ≤ 5 → (call_indexed s ws buf idx limit).workspace ≡ ws)
      × (6 ≤ r.number → (call_indexed s ws buf idx limit).workspace ≡ replicate (length ws) 0))
  indexed-untouched r e =
      let (i, b) = refused-by beside r e in
      let w = workspace-by beside in
      ⊎_elim (λ a. let u = untouched-exactly s ws buf limit r a.0 in (a.1 ∙ u.0, i, (λ l. w ∙ u.1.0 l, λ l. w ∙ u.1.1 l)))
      (λ a. (a.1, i, (λ l. absurd (omega (arith, ap (λ (q : Refusal). q.number) a.0)), λ l. w ∙ accepted-zero s ws buf limit a.2.0 r.steps a.2.1))) b

  -- THEOREM: what the call without an index refuses, the call with one refuses alike
  pub indexed-refused : (r : Refusal) → (call s ws buf limit).answer ≡ Err r → (call_indexed s ws buf idx limit).answer ≡ Err r
  indexed-refused = refused-too beside

  -- THEOREM: and nothing else, except by 19
  pub indexed-as : (r : Refusal) → (call_indexed s ws buf idx limit).answer ≡ Err r → r.number ≤ 18 → (call s ws buf limit).answer ≡ Err r
  indexed-as r e l = ⊎_elim (λ a. a.0) (λ a. absurd (omega (arith, ap (λ (q : Refusal). q.number) a.0))) (refused-by beside r e).1

  -- THEOREM: 19 names nothing, has the steps of the run, and is found only where the index does not fit
  pub nineteen-nowhere : (r : Refusal) → (call_indexed s ws buf idx limit).answer ≡ Err r → r.number ≡ 19
      → (r ≡ nowhere 19 r.steps) × TooLong (call s ws buf limit) idx r.steps
  nineteen-nowhere r e h =
      ⊎_elim (λ a. absurd (omega (arith, (refused-numbers s ws buf limit r a.0).1))) (λ a. (a.0, a.2)) (refused-by beside r e).1

  -- THEOREM: and there it is the answer
  pub nineteen-exactly : (steps : ℕ)
      → ((call_indexed s ws buf idx limit).answer ≡ Err (nowhere 19 steps) → TooLong (call s ws buf limit) idx steps)
      × (TooLong (call s ws buf limit) idx steps → (call_indexed s ws buf idx limit).answer ≡ Err (nowhere 19 steps))
  nineteen-exactly steps = (λ e. (nineteen-nowhere (nowhere 19 steps) e refl).1, λ t. too_long beside steps t)

  module _ (long steps n : ℕ) (e : (call_indexed s ws buf idx limit).answer ≡ accepts_with long steps n) where
    pub indexed-left : LeftWith (call s ws buf limit) (call_indexed s ws buf idx limit) idx long steps n
    indexed-left = left_by beside long steps n e

    -- THEOREM
    pub indexed-accepted : ((call s ws buf limit).answer ≡ accepts long steps) × ((call s ws buf limit).report ≡ (call_indexed s ws buf idx limit).report)
    indexed-accepted = (indexed-left.answer, indexed-left.report)

    -- THEOREM
    pub indexed-zero : (call_indexed s ws buf idx limit).workspace ≡ replicate (length ws) 0
    indexed-zero = workspace-by beside ∙ accepted-zero s ws buf limit long steps indexed-left.answer
