-- The turn of a description is that of its module, and an accepted report of a turn meets demand 3.
use Prim.Native.Nat.{ℕ, ◌-◌, ◌<◌}
use native.Mathlib.Omega.{arith}
use mathlib.Core.Path.{◌≡◌, refl, sym, ap, ◌∙◌}
use mathlib.Core.Bool.{Bool, true, false, cond, ◌&&◌}
use mathlib.Core.List.{List}
use lib.Dec.{ltb}
use lib.ListN.{length, take}
use Rattle.std.specs.Prelude.{Ok, Result, Err}
use Rattle.answers.specs.declared.Refusal.{Refusal}
use Rattle.answers.specs.declared.Accepted.{Accepted}
use Rattle.answers.specs.declared.AcceptedIndexed.{AcceptedIndexed}
use Rattle.answers.specs.Answers.{accepts, accepts_with}
use Rattle.definition.specs.Module.{module_of}
use Rattle.definition.specs.Call.{Decided, decided, decide, call}
use Rattle.definition.specs.CallIndexed.{call_indexed}
use Rattle.form_laws.specs.Good.{words_of}
use Rattle.form_laws.proofs.Theorem.{good-form}
use Rattle.form.specs.room.Room.{room_of, on_room}
use Rattle.form.proofs.room.Decides.{room-decides, room-fine}
use Rattle.consistent.proofs.Accepted.{one-report}
use Rattle.consistent.proofs.Bytes.{demand-3, exact_bytes}
use Rattle.refusal_laws.proofs.Indexed.{indexed-accepted}
use Rattle.lookup_laws.proofs.Own.{accepted-own}
use Rattle.run_state.specs.Course.{room_in}
use Rattle.pause_laws.specs.Turn.{most_steps, Turn, pauses_at, ends_as, is_seven, capped, turn_at, turn_of}
use Rattle.pausing.specs.declared.Turn.{Turn as TurnAnswer}
use Rattle.pausing.specs.declared.Turn.TheVariants.{Paused as PausedAnswer, Refused as RefusedAnswer, Accepted as AcceptedAnswer}
use Rattle.pausing.specs.Turned.{alone, beside, outcome_for, TurnAs, AcceptedTurn}
use Rattle.pausing.specs.reaching.Stages.{turn_in}

-- ---- the turn of a description
turn-same : (d d' : ℕ → Decided) (total : ℕ) → ((n : ℕ) → d n ≡ d' n) → turn_at d total ≡ turn_at d' total
unfolding turn_at
turn-same d d' total e =
    (λ i. cond (ltb total most_steps && is_seven (e total i)) (pauses_at total) (ends_as (e (capped total) i)))

pub turn-of : (s v : List ℕ) (words w total : ℕ) → room_of s words ≡ Ok w → length v ≡ words → turn_in s v total ≡ turn_of s words total
unfolding turn_of on_room
turn-of s v words w total h l =
    let g = good-form s w (room-fine s words w h).0 in
    let z : room_in s v ≡ words - w = omega (arith, g.words, l) in
    turn-same (decided (module_of s) (room_in s v)) (decide s words) total
    (λ n. ap (λ (k : ℕ). decided (module_of s) k n) z ∙ sym (room-decides s words n ∙ ap (on_room s words n) h))

-- ---- accepted
alone-back : (x : Result Accepted Refusal) (long steps n : ℕ) → alone x ≡ AcceptedAnswer long steps n → x ≡ accepts long steps
unfolding alone
alone-back (Ok a) long steps n e = let z : accepts a.length a.steps ≡ accepts long steps = cc in z
alone-back (Err f) long steps n e = absurd (let z : ◌≡◌ {A = ℕ} 0 1 = cc in omega arith)

beside_back : (x : Result AcceptedIndexed Refusal) (long steps n : ℕ) → beside x ≡ AcceptedAnswer long steps n → x ≡ accepts_with long steps n
unfolding beside
beside_back (Ok a) long steps n e = let z : accepts_with a.length a.steps a.index ≡ accepts_with long steps n = cc in z
beside_back (Err f) long steps n e = absurd (let z : ◌≡◌ {A = ℕ} 0 1 = cc in omega arith)

module _ (s ws buf idx : List ℕ) (limit : ℕ) (r : TurnAnswer) (buf' idx' : List ℕ) where
  accepted-alone : r ≡ alone (call s ws buf limit).answer → buf' ≡ (call s ws buf limit).report → AcceptedTurn s false r buf' idx'
  accepted-alone a b =
      record {
        consistent = λ long steps n e. rw b (demand-3 s ws buf limit long steps (alone-back _ long steps n (sym a ∙ e)));
        exact = λ long steps n e. rw b (exact_bytes s ws buf limit long steps (alone-back _ long steps n (sym a ∙ e)));
        one-report = λ long steps n e. rw b (one-report s ws buf limit long steps (alone-back _ long steps n (sym a ∙ e)));
        own-index = λ long steps n e q. absurd (let z : ◌≡◌ {A = ℕ} 0 1 = cc in omega arith);
      }

  accepted-beside : r ≡ beside (call_indexed s ws buf idx limit).answer → buf' ≡ (call_indexed s ws buf idx limit).report → idx' ≡ (call_indexed s ws buf idx limit).index
      → AcceptedTurn s true r buf' idx'
  accepted-beside a b i =
      record {
        consistent = λ long steps n e.
            let x = indexed-accepted s ws buf idx limit long steps n (beside_back _ long steps n (sym a ∙ e)) in
            rw (b ∙ sym x.1) (demand-3 s ws buf limit long steps x.0);
        exact = λ long steps n e.
            let x = indexed-accepted s ws buf idx limit long steps n (beside_back _ long steps n (sym a ∙ e)) in
            rw (b ∙ sym x.1) (exact_bytes s ws buf limit long steps x.0);
        one-report = λ long steps n e.
            let x = indexed-accepted s ws buf idx limit long steps n (beside_back _ long steps n (sym a ∙ e)) in
            rw (b ∙ sym x.1) (one-report s ws buf limit long steps x.0);
        own-index = λ long steps n e q. rw (b, i) (accepted-own s ws buf idx limit long steps n (beside_back _ long steps n (sym a ∙ e)));
      }

-- a pause is no report
not-accepted : (s : List ℕ) (indexed : Bool) (k : ℕ) (r : TurnAnswer) (buf' idx' : List ℕ) → r ≡ PausedAnswer k → AcceptedTurn s indexed r buf' idx'
not-accepted s indexed k r buf' idx' a =
    record {
      consistent = λ long steps n e. never long steps n e;
      exact = λ long steps n e. never long steps n e;
      one-report = λ long steps n e. never long steps n e;
      own-index = λ long steps n e q. never long steps n e;
    }
  where
    never : {A : Type 0} (long steps n : ℕ) → r ≡ AcceptedAnswer long steps n → A
    never long steps n e = absurd (let q = sym a ∙ e in let z : ◌≡◌ {A = ℕ} 0 1 = cc in omega arith)

-- the parts of a turn
module _ (s ws buf idx : List ℕ) (total : ℕ) (r : TurnAnswer) (buf' idx' ws' : List ℕ) where
  paused-turn : (indexed : Bool) → TurnAs s ws buf idx indexed (pauses_at total) r buf' idx' ws' → AcceptedTurn s indexed r buf' idx'
  unfolding TurnAs
  paused-turn indexed t = not-accepted s indexed total r buf' idx' t.0

  ended-turn : (indexed : Bool) (limit : ℕ) → TurnAs s ws buf idx indexed (ends_as (decide s (length ws) limit)) r buf' idx' ws' → AcceptedTurn s indexed r buf' idx'
  unfolding TurnAs outcome_for call call_indexed
  ended-turn false limit t = accepted-alone s ws buf idx limit r buf' idx' t.0 t.1
  ended-turn true limit t = accepted-beside s ws buf idx limit r buf' idx' t.0 t.1 t.2

  by_turn : (indexed b : Bool) (limit : ℕ) → TurnAs s ws buf idx indexed (cond b (pauses_at total) (ends_as (decide s (length ws) limit))) r buf' idx' ws'
      → AcceptedTurn s indexed r buf' idx'
  by_turn indexed true limit t = paused-turn indexed t
  by_turn indexed false limit t = ended-turn indexed limit t

  pub accepted-turn : (indexed : Bool) → TurnAs s ws buf idx indexed (turn_of s (length ws) total) r buf' idx' ws' → AcceptedTurn s indexed r buf' idx'
  unfolding turn_of turn_at
  accepted-turn indexed t = by_turn indexed (ltb total most_steps && is_seven (decide s (length ws) total)) (capped total) t
