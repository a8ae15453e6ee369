-- Each way through the call comes to what the definition says.
use Prim.Native.Nat.{ℕ, ◌-◌, ◌<◌, ◌≤◌}
use native.Mathlib.Omega.{arith}
use mathlib.Core.Path.{◌≡◌, refl, sym, ap, ◌∙◌}
use mathlib.Core.Bool.{Bool, true, false, cond}
use mathlib.Core.List.{List}
use lib.Dec.{leb}
use lib.ListN.{length, get_or, replicate}
use Rattle.std.specs.Prelude.{Result, Ok, Err}
use Rattle.answers.specs.declared.Refusal.{Refusal}
use Rattle.answers.specs.declared.Accepted.{Accepted}
use Rattle.answers.specs.declared.AcceptedIndexed.{AcceptedIndexed}
use Rattle.answers.specs.Answers.{numbers, indexed_numbers, nowhere}
use Rattle.definition.specs.Form.{form_of}
use Rattle.definition.specs.Module.{module_of}
use Rattle.definition.specs.Call.{turned, decided, decide, left_words, turned_back, outcome_of, call}
use Rattle.definition.specs.CallIndexed.{turned_back_with, outcome_with, call_indexed}
use Rattle.form_laws.specs.Good.{Good, words_of}
use Rattle.form_laws.proofs.Theorem.{good-form}
use Rattle.run_state.specs.Course.{room_in}
use Rattle.consistent.proofs.Accepted.{one-report}
use Rattle.consistent.proofs.Bytes.{demand-3, exact_bytes}
use Rattle.refusal_laws.proofs.Forms.{form-numbers}
use Rattle.refusal_laws.proofs.Left.{left-as-was, decided-zero}
use Rattle.refusal_laws.proofs.Indexed.{outcome-with-zero, indexed-accepted}
use Rattle.lookup_laws.proofs.Own.{accepted-own, accepted-entries}
use Rattle.form.specs.room.Room.{room_by, with_room, room_of, on_room}
use Rattle.form.proofs.room.Decides.{room-decides, room-fine}
use Rattle.words.specs.clearing.Clearing.{cleared}
use Rattle.words.proofs.clearing.Clearing.{cleared-all}
use Rattle.call.specs.delivering.Told.{Told, ToldIndexed}
use Rattle.call.proofs.delivering.Laws.{short-refused, short-refused-with}
use Rattle.call.specs.Checked.{Checked}
use Rattle.call.specs.CheckedIndexed.{CheckedIndexed}

-- ---- the whole call
-- what there is to work with
pub good-room : (s ws : List ℕ) (f : Result ℕ Refusal) (w : ℕ) → f ≡ room_of s (length ws) → f ≡ Ok w → Good s w × (w < length ws) × (words_of (module_of s) < length ws)
good-room s ws f w h e =
    let q = room-fine s (length ws) w (sym h ∙ e) in
    let g = good-form s w q.0 in
    (g, q.1, omega (arith, g.words, q.1))

module _ (s ws : List ℕ) (limit : ℕ) where
  -- refusals 1 to 5
  few : (words : ℕ) (f : Result ℕ Refusal) (r : Refusal) → ((q : Refusal) → f ≡ Err q → q.number ≤ 4) → room_by f words ≡ Err r → r.number < 6
  unfolding room_by with_room
  few words (Err q) r h e = let z : q ≡ r = cc in omega (arith, h q refl, ap (λ (x : Refusal). x.number) z)
  few words (Ok w) r h e = go (leb words w) e
    where
      go : (b : Bool) → cond b (Err (nowhere 5 0)) (Ok w) ≡ Err r → r.number < 6
      go true e = let z : nowhere 5 0 ≡ r = cc in omega (arith, ap (λ (x : Refusal). x.number) z)
      go false e = absurd (let z : ◌≡◌ {A = ℕ} 0 1 = cc in omega arith)

  room-number : (r : Refusal) → room_of s (length ws) ≡ Err r → r.number < 6
  unfolding room_of
  room-number r e = few (length ws) (form_of s) r (λ q h. (form-numbers s q h).1) e

  module _ (f : Result ℕ Refusal) (h : f ≡ room_of s (length ws)) where
    -- what is decided: a refusal that leaves the workspace, or what the run comes to
    decides-refused : (r : Refusal) → f ≡ Err r → decide s (length ws) limit ≡ turned r
    unfolding on_room
    decides-refused r e = room-decides s (length ws) limit ∙ ap (on_room s (length ws) limit) (sym h ∙ e)

    left_here : (r : Refusal) → f ≡ Err r → ws ≡ left_words r.number ws
    left_here r e = sym (left-as-was r.number ws (room-number r (sym h ∙ e)))

    decides-ran : (w : ℕ) (v : List ℕ) → f ≡ Ok w → length v ≡ length ws → decide s (length ws) limit ≡ decided (module_of s) (room_in s v) limit
    unfolding on_room
    decides-ran w v e l =
        let g = (good-room s ws f w h e).0 in
        let z : room_in s v ≡ length ws - w = omega (arith, g.words) in
        room-decides s (length ws) limit ∙ ap (on_room s (length ws) limit) (sym h ∙ e) ∙ ap (λ (n : ℕ). decided (module_of s) n limit) (sym z)

  zero-here : (u ws' : List ℕ) → length u ≡ length ws → ws' ≡ cleared u (length ws) → ws' ≡ replicate (length ws) 0
  zero-here u ws' k c = c ∙ ap (cleared u) (sym k) ∙ cleared-all u ∙ ap (λ (n : ℕ). replicate n 0) k

  -- ---- without an index
  module _ (buf : List ℕ) where
    -- demand 3, and that there is one report, follow from the rest
    checked : (r : Result Accepted Refusal) (buf' ws' : List ℕ) → r ≡ (call s ws buf limit).answer → buf' ≡ (call s ws buf limit).report → ws' ≡ (call s ws buf limit).workspace → get_or (numbers r) 4 0 < 4294967296
        → Checked s ws buf limit r buf' ws'
    checked r buf' ws' a b w n =
        record {
          answer = a;
          said = ap numbers a;
          report = b;
          workspace = w;
          short = n;
          consistent = λ long steps e. rw b (demand-3 s ws buf limit long steps (sym a ∙ e));
          exact = λ long steps e. rw b (exact_bytes s ws buf limit long steps (sym a ∙ e));
          one-report = λ long steps e. rw b (one-report s ws buf limit long steps (sym a ∙ e));
        }

    pub checked_refused : (f : Result ℕ Refusal) (r : Refusal) → f ≡ room_of s (length ws) → f ≡ Err r → Checked s ws buf limit (Err r) buf ws
    unfolding call outcome_of turned_back
    checked_refused f r h e =
        let d = decides-refused f h r e in
        checked (Err r) buf ws (rw d) (rw d) (rw d (left_here f h r e)) (short-refused r)

    pub checked-ran : (f : Result ℕ Refusal) (w : ℕ) (v ws' buf' : List ℕ) (r : Result Accepted Refusal) → f ≡ room_of s (length ws) → f ≡ Ok w → length v ≡ length ws
        → Told (decided (module_of s) (room_in s v) limit) buf r buf' → (u : List ℕ) → length u ≡ length ws → ws' ≡ cleared u (length ws) → Checked s ws buf limit r buf' ws'
    unfolding call
    checked-ran f w v ws' buf' r h e l t u k c =
        let d = decides-ran f h w v e l in
        checked r buf' ws' (rw d (t.same ws).0) (rw d (t.same ws).1)
        (rw d (zero-here u ws' k c ∙ sym (decided-zero (module_of s) (room_in s v) limit ws buf)))
        t.short

  -- ---- with an index
  module _ (buf idx : List ℕ) where
    -- what holds of an accepted report follows from the call without an index, what holds of its index from the definition
    checked-with : (r : Result AcceptedIndexed Refusal) (buf' idx' ws' : List ℕ) → r ≡ (call_indexed s ws buf idx limit).answer → buf' ≡ (call_indexed s ws buf idx limit).report
        → idx' ≡ (call_indexed s ws buf idx limit).index → ws' ≡ (call_indexed s ws buf idx limit).workspace
        → (get_or (indexed_numbers r) 4 0 < 4294967296) × (get_or (indexed_numbers r) 5 0 < 4294967296) → CheckedIndexed s ws buf idx limit r buf' idx' ws'
    checked-with r buf' idx' ws' a b i w n =
        record {
          answer = a;
          said = ap indexed_numbers a;
          report = b;
          index = i;
          workspace = w;
          short = n;
          consistent = λ long steps k e.
              let x = indexed-accepted s ws buf idx limit long steps k (sym a ∙ e) in
              rw (b ∙ sym x.1) (demand-3 s ws buf limit long steps x.0);
          exact = λ long steps k e.
              let x = indexed-accepted s ws buf idx limit long steps k (sym a ∙ e) in
              rw (b ∙ sym x.1) (exact_bytes s ws buf limit long steps x.0);
          one-report = λ long steps k e.
              let x = indexed-accepted s ws buf idx limit long steps k (sym a ∙ e) in
              rw (b ∙ sym x.1) (one-report s ws buf limit long steps x.0);
          entries = λ long steps k e. rw (b, i) (accepted-entries s ws buf idx limit long steps k (sym a ∙ e));
          own-index = λ long steps k e. rw (b, i) (accepted-own s ws buf idx limit long steps k (sym a ∙ e));
        }

    pub refused-with-index : (f : Result ℕ Refusal) (r : Refusal) → f ≡ room_of s (length ws) → f ≡ Err r → CheckedIndexed s ws buf idx limit (Err r) buf idx ws
    unfolding call_indexed outcome_with turned_back_with
    refused-with-index f r h e =
        let d = decides-refused f h r e in
        checked-with (Err r) buf idx ws (rw d) (rw d) (rw d) (rw d (left_here f h r e)) (short-refused-with r)

    pub ran-with-index : (f : Result ℕ Refusal) (w : ℕ) (v ws' buf' idx' : List ℕ) (r : Result AcceptedIndexed Refusal) → f ≡ room_of s (length ws) → f ≡ Ok w → length v ≡ length ws
        → ToldIndexed (decided (module_of s) (room_in s v) limit) buf idx r buf' idx' → (u : List ℕ) → length u ≡ length ws → ws' ≡ cleared u (length ws)
        → CheckedIndexed s ws buf idx limit r buf' idx' ws'
    unfolding call_indexed
    ran-with-index f w v ws' buf' idx' r h e l t u k c =
        let d = decides-ran f h w v e l in
        checked-with r buf' idx' ws' (rw d (t.same ws).0) (rw d (t.same ws).1) (rw d (t.same ws).2)
        (rw d (zero-here u ws' k c ∙ sym (outcome-with-zero (module_of s) (room_in s v) limit ws buf idx)))
        t.short
