-- Each way through the two calls comes to what they promise.
use Rattle.std.proofs.Common.{Result, Ok, Err}
use Rattle.answers.specs.Answers.{indexed_numbers}
use Prim.Native.Nat.{ℕ, ◌+◌, ◌*◌, ◌<◌, ◌≤◌}
use native.Mathlib.Omega.{arith}
use mathlib.Core.Path.{◌≡◌, refl, sym, ap, ◌∙◌}
use mathlib.Core.Bool.{Bool, true, false, cond}
use mathlib.Core.List.{List}
use lib.Dec.{eqb, ltb, leb}
use lib.ListN.{length, get_or, length-replicate}
use borrow.Author.Tests.{eqb-true, ltb-true, ltb-false}
use Rattle.answers.specs.declared.Refusal.{Refusal}
use Rattle.answers.specs.Answers.{nowhere}
use Rattle.definition.specs.Module.{module_of}
use Rattle.definition.specs.Call.{Decided, turned, decide, left_words, outcome_of, turned_back}
use Rattle.definition.specs.CallIndexed.{outcome_with, turned_back_with}
use Rattle.definition.specs.Form.{form_of}
use Rattle.form.specs.room.Room.{room_by, with_room, room_of, on_room}
use Rattle.form.proofs.room.Decides.{room-decides, room-fine}
use Rattle.form_laws.specs.Good.{Good, words_of}
use Rattle.form_laws.proofs.Theorem.{good-form}
use Rattle.layout.specs.Layout.{head_words, numbers_at, word_suspends}
use Rattle.words.specs.clearing.Clearing.{cleared}
use Rattle.words.proofs.clearing.Clearing.{cleared-all}
use Rattle.mark.specs.Marks.{marked}
use Rattle.refusal_laws.proofs.Forms.{form-numbers}
use Rattle.refusal_laws.proofs.Left.{left-as-was}
use Rattle.index_fill.specs.Refilled.{Refilled}
use Rattle.start.specs.Starting.{SitesSuspend}
use Rattle.pause_laws.specs.Turn.{most_steps, Turn, ends_as, is_seven, turn_at, turn_of}
use Rattle.pausing.specs.declared.Turn.{Turn as TurnAnswer}
use Rattle.pausing.specs.declared.Turn.TheVariants.{Refused as RefusedAnswer}
use Rattle.pausing.specs.declared.reaching.Stage.{Stage}
use Rattle.pausing.specs.Paused.{Paused}
use Rattle.pausing.specs.Turned.{alone, beside, outcome_for, turn_numbers, TurnAs, AcceptedTurn}
use Rattle.pausing.specs.Resumed.{StartedRun, ResumedRun}
use Rattle.pausing.specs.reaching.Stages.{SameRun, Begun, TakenUp}
use Rattle.pausing.specs.closing.Closed.{Closed}
use Rattle.pausing.proofs.reaching.Staging.{turn_last, turn-ends}
use Rattle.pausing.proofs.Turning.{closed-turn, closed-short}
use Rattle.pausing.proofs.Accepting.{turn-of, accepted-turn}

-- ---- refused whatever the limit, by no 7
turn-const : (d : ℕ → Decided) (total : ℕ) (f : Refusal) → f.number < 6 → ((n : ℕ) → d n ≡ turned f) → turn_at d total ≡ ends_as (turned f)
unfolding is_seven
turn-const d total f l e = go (ltb total most_steps) refl
  where
    no : (b : Bool) → eqb f.number 7 ≡ b → b ≡ false
    no true q = absurd (let z = eqb-true f.number 7 q in omega arith)
    no false q = refl

    go : (b : Bool) → ltb total most_steps ≡ b → turn_at d total ≡ ends_as (turned f)
    go true q = let k = ltb-true total most_steps q in turn-ends d total (omega arith) (ap is_seven (e total) ∙ no (eqb f.number 7) refl) ∙ ap ends_as (e total)
    go false q = turn_last d total (ltb-false total most_steps q) ∙ ap ends_as (e most_steps)

-- 1 to 5 leave all as it was
refused-turn : (s ws buf idx : List ℕ) (indexed : Bool) (f : Refusal) → f.number < 6 → TurnAs s ws buf idx indexed (ends_as (turned f)) (RefusedAnswer f) buf idx ws
unfolding TurnAs outcome_for outcome_of outcome_with turned_back turned_back_with alone beside
refused-turn s ws buf idx false f l = (refl, refl, refl, sym (left-as-was f.number ws l))
refused-turn s ws buf idx true f l = (refl, refl, refl, sym (left-as-was f.number ws l))

-- what there is to work with
pub good-room : (s : List ℕ) (n : ℕ) (f : Result ℕ Refusal) (w : ℕ) → f ≡ room_of s n → f ≡ Ok w → Good s w × (w < n) × (words_of (module_of s) < n)
good-room s n f w h e =
    let q = room-fine s n w (sym h ∙ e) in
    let g = good-form s w q.0 in
    (g, q.1, omega (arith, g.words, q.1))

-- words cleared are as many
pub cleared-long : (ws v : List ℕ) → v ≡ cleared ws (length ws) → length v ≡ length ws
cleared-long ws v e = ap length (e ∙ cleared-all ws) ∙ length-replicate {A = ℕ} (length ws) 0

-- the number of a refusal 1 to 5
pub room-early : (s : List ℕ) (n : ℕ) (x : Result ℕ Refusal) (f : Refusal) → x ≡ room_of s n → x ≡ Err f → f.number < 6
unfolding room_of room_by with_room
room-early s n x f h e = by_form (form_of s) refl (sym h ∙ e)
  where
    by-room : (w : ℕ) (b : Bool) → cond b (Err (nowhere 5 0)) (Ok w) ≡ Err f → f.number < 6
    by-room w true q = let z : nowhere 5 0 ≡ f = cc in omega (arith, ap (λ (y : Refusal). y.number) z)
    by-room w false q = absurd (let o : ◌≡◌ {A = ℕ} 0 1 = cc in omega arith)

    by_form : (y : Result ℕ Refusal) → form_of s ≡ y → room_by y n ≡ Err f → f.number < 6
    by_form (Err g) k q = let z : g ≡ f = cc in omega (arith, (form-numbers s g k).1, ap (λ (y : Refusal). y.number) z)
    by_form (Ok w) k q = by-room w (leb n w) q

-- ---- begun
module _ (s ws buf idx : List ℕ) (indexed : Bool) (a : ℕ) (x : Result ℕ Refusal) (h : x ≡ room_of s (length ws)) where
  pub started-refused : (f : Refusal) → x ≡ Err f → f.number < 6 → StartedRun s ws buf idx indexed a (RefusedAnswer f) buf idx ws
  unfolding turn_of on_room turn_numbers indexed_numbers
  started-refused f e l =
      let t : turn_of s (length ws) a ≡ ends_as (turned f) = turn-const (decide s (length ws)) a f l (λ n. room-decides s (length ws) n ∙ ap (on_room s (length ws) n) (sym h ∙ e)) in
      let turn : TurnAs s ws buf idx indexed (turn_of s (length ws) a) (RefusedAnswer f) buf idx ws = rw t (refused-turn s ws buf idx indexed f l) in
      record { turn = turn; accepted = accepted-turn s ws buf idx a (RefusedAnswer f) buf idx ws indexed turn; short = (omega arith, omega arith) }

  pub started-ran : (w : ℕ) (v u buf' idx' ws' : List ℕ) (y : Stage) (r : TurnAnswer) → x ≡ Ok w → length v ≡ length ws → Begun s v u a y
      → Closed s u buf idx indexed y r buf' idx' ws' → StartedRun s ws buf idx indexed a r buf' idx' ws'
  started-ran w v u buf' idx' ws' y r e l b c =
      let t = closed-turn s u ws buf idx indexed r buf' idx' ws' v a y (b.long ∙ l) b.stage c in
      let turn : TurnAs s ws buf idx indexed (turn_of s (length ws) a) r buf' idx' ws' = rw (turn-of s v (length ws) w a (sym h ∙ e) l) at t in
      record {
        turn = turn;
        accepted = accepted-turn s ws buf idx a r buf' idx' ws' indexed turn;
        short = closed-short s u ws buf idx indexed r buf' idx' ws' y c;
      }

-- ---- taken up
module _ (s ws buf idx : List ℕ) (indexed : Bool) (a : ℕ) where
  pub resumed-early : (f : Refusal) → room_of s (length ws) ≡ Err f → f.number < 6 → ResumedRun s ws buf idx indexed a (RefusedAnswer f) buf idx ws
  unfolding turn_numbers indexed_numbers
  resumed-early f e l =
      record {
        early = λ g q. (ap RefusedAnswer (let z : Err f ≡ Err g = sym e ∙ q in cc), (refl, refl, refl));
        unmarked = λ w q m. absurd (let z : Err f ≡ Ok w = sym e ∙ q in let o : ◌≡◌ {A = ℕ} 0 1 = cc in omega arith);
        turn = λ n w q p. absurd (let z : Err f ≡ Ok w = sym e ∙ q in let o : ◌≡◌ {A = ℕ} 0 1 = cc in omega arith);
        accepted = λ n w q p. absurd (let z : Err f ≡ Ok w = sym e ∙ q in let o : ◌≡◌ {A = ℕ} 0 1 = cc in omega arith);
        short = (omega arith, omega arith);
      }

  pub resumed-unmarked : (w : ℕ) → room_of s (length ws) ≡ Ok w → marked ws ≡ false → ResumedRun s ws buf idx indexed a (RefusedAnswer (nowhere 21 0)) buf idx ws
  unfolding turn_numbers indexed_numbers
  resumed-unmarked w e m =
      record {
        early = λ f q. absurd (let z : Ok w ≡ Err f = sym e ∙ q in let o : ◌≡◌ {A = ℕ} 0 1 = cc in omega arith);
        unmarked = λ v q k. (refl, (refl, refl, refl));
        turn = λ n v q p. absurd (let z : true ≡ false = sym p.marked ∙ m in let o : ◌≡◌ {A = ℕ} 0 1 = cc in omega arith);
        accepted = λ n v q p. absurd (let z : true ≡ false = sym p.marked ∙ m in let o : ◌≡◌ {A = ℕ} 0 1 = cc in omega arith);
        short = (omega arith, omega arith);
      }

  -- what is written anew leaves the run
  refilled-run : (v : List ℕ) (n : ℕ) → Paused s ws n → Refilled s ws v → SameRun s ws v
  refilled-run v n p q =
      record {
        long = q.long;
        front = λ j x y. q.same p.between.prepared.indexed j (λ m l e. omega arith);
        behind = λ j x. q.same p.between.prepared.indexed j (λ m l e. omega arith);
      }

  pub resumed-ran : (w : ℕ) (v u buf' idx' ws' : List ℕ) (y : Stage) (r : TurnAnswer) → room_of s (length ws) ≡ Ok w → marked ws ≡ true → Refilled s ws v
      → TakenUp s v u a y → Closed s u buf idx indexed y r buf' idx' ws' → ResumedRun s ws buf idx indexed a r buf' idx' ws'
  resumed-ran w v u buf' idx' ws' y r e m q t c =
      record {
        early = λ f z. absurd (let k : Ok w ≡ Err f = sym e ∙ z in let o : ◌≡◌ {A = ℕ} 0 1 = cc in omega arith);
        unmarked = λ k z b. absurd (let x : true ≡ false = sym m ∙ b in let o : ◌≡◌ {A = ℕ} 0 1 = cc in omega arith);
        turn = λ n k z p. turn n p;
        accepted = λ n k z p. accepted-turn s ws buf idx (n + a) r buf' idx' ws' indexed (turn n p);
        short = closed-short s u ws buf idx indexed r buf' idx' ws' y c;
      }
    where
      turn : (n : ℕ) → Paused s ws n → TurnAs s ws buf idx indexed (turn_of s (length ws) (n + a)) r buf' idx' ws'
      turn n p =
          rw (turn-of s v (length ws) w (n + a) e q.long) at
          (closed-turn s u ws buf idx indexed r buf' idx' ws' v (n + a) y (t.long ∙ q.long) (t.stage ws n p (refilled-run v n p q)) c)

-- the sites, as taking up asks for them
pub sites-suspend : (s ws v : List ℕ) → Refilled s ws v → SitesSuspend s v
unfolding SitesSuspend
sites-suspend s ws v q = q.suspends
