-- A refusal by 7 or 8 is one of the run: what stands between a call and its run refuses by other numbers.
use Prim.Native.Nat.{ℕ, ◌-◌, ◌<◌, ◌≤◌}
use native.Mathlib.Omega.{arith}
use mathlib.Core.Path.{◌≡◌, refl}
use mathlib.Core.Logic.{◌⊎◌, inl, inr}
use mathlib.Core.Bool.{Bool, true, false, cond}
use mathlib.Core.Option.{Option, none, some}
use mathlib.Core.List.{List, ◌++◌}
use lib.Dec.{ltb, leb}
use lib.ListN.{length, drop, replicate}
use borrow.Author.Tests.{leb-true, leb-false, lt-leb}
use Rattle.std.specs.Prelude.{Ok, Err}
use Rattle.answers.specs.declared.Refusal.{Refusal}
use Rattle.answers.specs.Answers.{nowhere, accepts}
use Rattle.definition.specs.Machine.{Ran, accepted, refused}
use Rattle.definition.specs.Module.{Module, module_of}
use Rattle.definition.specs.State.{State, Facts}
use Rattle.definition.specs.Leaves.{Known}
use Rattle.definition.specs.Form.{form_of}
use Rattle.definition.specs.Start.{admitted, first_facts, overfull, reply_maximum, known_of}
use Rattle.definition.specs.Report.{Report, report_bytes}
use Rattle.definition.specs.Call.{Decided, reported, turned, run_of, on_ran, admitted_run, on_reply, known, on_admitted, decided, on_form, decide, Outcome, turned_back, delivered, outcome_of, call}
use Rattle.refusal_laws.proofs.Only.{OfPlace}
use Rattle.refusal_laws.proofs.Rules.{admitted_of}

turned-inj : {r q : Refusal} → turned r ≡ turned q → r ≡ q
turned-inj h = cc

reported≢turned : {x : Report} {n : ℕ} {r : Refusal} → reported x n ≡ turned r → ⊥
reported≢turned h = let z : ◌≡◌ {A = ℕ} 0 1 = cc in omega arith

-- the run of a module
abbrev pub run_for : Module → ℕ → ℕ → Ran Facts State
run_for m cap limit = run_of (known_of m (first_facts m)) cap limit (first_facts m)

-- 9 to 12, before the run
abbrev pub Before : ℕ → Type 0
Before n = (9 ≤ n) × (n ≤ 12)

module _ (m : Module) (cap limit : ℕ) where
  -- what lets a module come to its run
  pub record Runs : Type 0 where
    pub chunks : admitted m m.chunks ≡ none
    pub reply : (n : ℕ) × (reply_maximum (known_of m (first_facts m)).reply ≡ some n)
    pub inits : overfull m ≡ false

  abbrev pub Stopped : Refusal → Type 0
  Stopped r = Before r.number ⊎ (Runs × (run_for m cap limit ≡ refused r))

  ran-turned : (k : Known) (reply : ℕ) (x : Ran Facts State) (r : Refusal) → on_ran k reply x ≡ turned r → x ≡ refused r
  unfolding on_ran
  ran-turned k reply (accepted x n) r e = absurd (reported≢turned e)
  ran-turned k reply (refused q) r e = cc

  -- THEOREM: what is decided refuses by 9 to 12, or as its run does
  pub decided-run : (r : Refusal) → decided m cap limit ≡ turned r → Stopped r
  unfolding decided on_admitted known on_reply admitted_run known_of
  decided-run r e = at-chunks (admitted m m.chunks) refl e
    where
      at-inits : admitted m m.chunks ≡ none → (n : ℕ) → reply_maximum (known_of m (first_facts m)).reply ≡ some n → (b : Bool) → overfull m ≡ b
          → cond b (turned (nowhere 12 0)) (on_ran (known_of m (first_facts m)) n (run_for m cap limit)) ≡ turned r → Stopped r
      at-inits a n o true b e = inl (let q = turned-inj e in rw (← q) (omega arith, omega arith))
      at-inits a n o false b e = inr (record { chunks = a; reply = (n, o); inits = b }, ran-turned _ n (run_for m cap limit) r e)

      at-reply : admitted m m.chunks ≡ none → (o : Option ℕ) → reply_maximum (known_of m (first_facts m)).reply ≡ o
          → on_reply (known_of m (first_facts m)) cap limit (first_facts m) o ≡ turned r → Stopped r
      at-reply a none o e = inl (let q = turned-inj e in rw (← q) (omega arith, omega arith))
      at-reply a (some n) o e = at-inits a n o (overfull m) refl e

      at-chunks : (o : Option (ℕ × ℕ)) → admitted m m.chunks ≡ o → on_admitted m cap limit o ≡ turned r → Stopped r
      at-chunks (some x) a e =
          let p : OfPlace Before (admitted m m.chunks) = admitted_of Before (omega arith, omega arith) (omega arith, omega arith) m m.chunks in
          inl (let q = turned-inj e in rw (← q) (rw a at p))
      at-chunks none a e = at-reply a (reply_maximum (known_of m (first_facts m)).reply) refl e

  pub run-decided : (r : Refusal) → Runs → run_for m cap limit ≡ refused r → decided m cap limit ≡ turned r
  unfolding decided on_admitted known on_reply admitted_run on_ran known_of
  run-decided r h e = rw (h.chunks, h.reply.1, h.inits, e)

-- ---- a call
module _ (ws buf : List ℕ) (r : Refusal) where
  delivered-six : (bytes : List ℕ) (steps : ℕ) → (delivered bytes steps ws buf).answer ≡ Err r → r.number ≡ 6
  unfolding delivered turned_back
  delivered-six bytes steps e = go (ltb (length buf) (length bytes)) e
    where
      done : Outcome
      done = record { answer = accepts (length bytes) steps; report = bytes ++ drop (length bytes) buf; workspace = replicate (length ws) 0 }

      go : (b : Bool) → (cond b (turned_back (nowhere 6 steps) ws buf) done).answer ≡ Err r → r.number ≡ 6
      go true e = let q : nowhere 6 steps ≡ r = cc in rw (← q)
      go false e = absurd (let z : ◌≡◌ {A = ℕ} 0 1 = cc in omega arith)

  outcome-turned : (d : Decided) → (outcome_of d ws buf).answer ≡ Err r → (r.number ≡ 6) ⊎ (d ≡ turned r)
  unfolding outcome_of turned_back
  outcome-turned (reported x n) e = inl (delivered-six (report_bytes x) n e)
  outcome-turned (turned q) e = inr (cc)

module _ (s : List ℕ) (w : ℕ) (fine : form_of s ≡ Ok w) (ws buf : List ℕ) (limit : ℕ) (r : Refusal) where
  abbrev pub Answered : Type 0
  Answered = ((length ws ≤ w) × (r.number ≡ 5)) ⊎ ((r.number ≡ 6) ⊎ ((w < length ws) × (decided (module_of s) (length ws - w) limit ≡ turned r)))

  -- THEOREM: a call for a description of good form is refused by 5 or 6, or as is decided
  pub call-decided : (call s ws buf limit).answer ≡ Err r → Answered
  unfolding call decide on_form
  call-decided e = go (leb (length ws) w) refl (outcome-turned ws buf r _ (rw fine at e))
    where
      go : (b : Bool) → leb (length ws) w ≡ b
          → (r.number ≡ 6) ⊎ (cond b (turned (nowhere 5 0)) (decided (module_of s) (length ws - w) limit) ≡ turned r) → Answered
      go b t (inl h) = inr (inl h)
      go true t (inr h) = inl (leb-true (length ws) w t, let q = turned-inj h in rw (← q))
      go false t (inr h) = inr (inr (leb-false (length ws) w t, h))

  pub decided-call : w < length ws → decided (module_of s) (length ws - w) limit ≡ turned r → (call s ws buf limit).answer ≡ Err r
  unfolding call decide on_form outcome_of turned_back
  decided-call l e = rw (fine, lt-leb (length ws) w l, e)
