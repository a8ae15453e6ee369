-- T1: what a chunk's run leaves is settled, where its facts end quiet.
use Prim.Native.Nat.{ℕ}
use mathlib.Core.Path.{◌≡◌, refl, sym, ◌∙◌}
use mathlib.Core.Logic.{◌⊎◌, inl, inr}
use mathlib.Core.Option.{Option, none}
use mathlib.Core.List.Memᴰ
use mathlib.Core.List.{List, ◌∷◌, Memᴰ}
use lib.ListN.{get_or}
use Rattle.definition.specs.Res.{Res, ok}
use Rattle.definition.specs.Machine.{Joined, Effect, Work}
use Rattle.machine_laws.proofs.Bind.{none≢some, some_inj}
use Rattle.machine_laws.proofs.Moves.{Grown, Moved, Via, AllIn, grown-refl, grown-trans, taken-grown, puts-inv}
use Rattle.machine_laws.proofs.Steps.{Steps, stay, drop, step}
use Rattle.machine_laws.proofs.Asked.{Laws, Recorded}
pub use Rattle.machine_laws.proofs.Asked.{Frame}

module _ {F R S G : Type 0} (join : S → S → Res (Joined S)) (cap : ℕ) (view : F → R) (absorb : F → G → F) (leaves : R → ℕ → S → Res (Effect S G)) where
  -- what the facts keep whatever they take in, they keep in a run
  pub steps-carry : (P : F → Type 0) → ((f : F) (g : G) → P f → P (absorb f g)) → {f f' : F} {st st' : List (Option S)} {q q' : List ℕ}
      → Steps join cap view absorb leaves f st q f' st' q' → P f → P f'
  steps-carry P up stay a = a
  steps-carry P up (drop e s) a = steps-carry P up s a
  steps-carry P up (step {f = f} {e = e} r l p s) a = steps-carry P up s (up f e.gives a)

module _ {F R S G : Type 0} (join : S → S → Res (Joined S)) (laws : Laws join) (cap : ℕ) (view : F → R) (absorb : F → G → F) (frame : Frame view absorb)
    (leaves : R → ℕ → S → Res (Effect S G)) where
  abbrev Run : F → List (Option S) → List ℕ → F → List (Option S) → List ℕ → Type 0
  Run = Steps join cap view absorb leaves

  -- what the rules read never changed in a run that ends quiet
  pub steps-still : {f f' : F} {st st' : List (Option S)} {q q' : List ℕ} → Run f st q f' st' q' → frame.Quiet f' → frame.Quiet f × (view f' ≡ view f)
  steps-still stay z = (z, refl)
  steps-still (drop e s) z = steps-still s z
  steps-still (step {f = f} {e = e} r l p s) z =
      let (z₁, e₁) = steps-still s z in
      let (z₂, e₂) = frame.still f e.gives z₁ in
      (z₂, e₁ ∙ e₂)

  -- an instruction is settled: its rule accepts its recorded state, each way's place takes in what comes, and the facts have what it gives
  pub record Settled (f : F) (st : List (Option S)) (i : ℕ) (s : S) : Type 0 where
    pub out : Effect S G
    pub leaving : leaves (view f) i s ≡ ok out
    pub taken : AllIn join st out.ways
    pub had : frame.Has f out.gives

  -- the invariant: what is recorded is in the queue or settled
  abbrev pub Inv : F → List (Option S) → List ℕ → Type 0
  Inv f st q = (i : ℕ) (s : S) → Recorded st i s → Memᴰ i q ⊎ Settled f st i s

  -- a settled instruction stays settled, whatever the facts take in
  settled-grown : (f : F) (g : G) (a b : List (Option S)) (i : ℕ) (s : S) → view (absorb f g) ≡ view f → Grown join a b → Settled f a i s
      → Settled (absorb f g) b i s
  settled-grown f g a b i s e gr h = record {
    out = h.out;
    leaving = rw e h.leaving;
    taken = λ o m. taken-grown join o.0 o.1 gr (h.taken o m);
    had = frame.keeps f h.out.gives g h.had;
  }

  drop-inv : (f : F) (st : List (Option S)) (q : List ℕ) (i : ℕ) → get_or st i none ≡ none → Inv f st (i ∷ q) → Inv f st q
  drop-inv f st q i e h j s r = elim (h j s r) [ inl m ↦ old m | inr g ↦ inr g ]
    where
      old : Memᴰ j (i ∷ q) → Memᴰ j q ⊎ Settled f st j s
      old m = elim (Memᴰ.cases_cons m) [ inl n ↦ absurd (none≢some (sym e ∙ (rw n at r))) | inr m' ↦ inl m' ]

  -- a visit keeps the invariant
  step-inv : (f : F) (st : List (Option S)) (q : List ℕ) (i : ℕ) (x : S) (e : Effect S G) (w : Work S) → Recorded st i x → leaves (view f) i x ≡ ok e
      → Moved join (Via e.ways) (record { states = st; queue = q }) w → AllIn join w.states e.ways → view (absorb f e.gives) ≡ view f
      → Inv f st (i ∷ q) → Inv (absorb f e.gives) w.states w.queue
  step-inv f st q i x e w was leaving moved taken u h j s rec = elim (moved.fresh j s rec) [ inr m ↦ inl m.0 | inl r ↦ old r (h j s r) ]
    where
      self : j ≡ i → Recorded st j s → Settled (absorb f e.gives) w.states j s
      self n r =
          let es : x ≡ s = some_inj (sym was ∙ (rw n at r)) in
          record { out = e; leaving = rw (u, n, ← es) leaving; taken = taken; had = frame.has f e.gives }

      old : Recorded st j s → Memᴰ j (i ∷ q) ⊎ Settled f st j s → Memᴰ j w.queue ⊎ Settled (absorb f e.gives) w.states j s
      old r (inl m) = elim (Memᴰ.cases_cons m) [ inl n ↦ inr (self n r) | inr m' ↦ inl (moved.keeps j m') ]
      old r (inr g) = inr (settled-grown f e.gives st w.states j s u moved.grown g)

  -- T1: what is recorded is settled or still queued; and nothing recorded is lost
  pub steps-settle : {f f' : F} {st st' : List (Option S)} {q q' : List ℕ} → Run f st q f' st' q' → frame.Quiet f' → Inv f st q
      → Inv f' st' q' × Grown join st st'
  steps-settle (stay {st = st}) z inv = (inv, grown-refl join st)
  steps-settle (drop {f = f} {st = st} {i = i} {q = q} e s) z inv = steps-settle s z (drop-inv f st q i e inv)
  steps-settle (step {f = f} {st = st} {i = i} {q = q} {s = x} {e = e} {w = w} r l p s) z inv =
      let (m, a) = puts-inv join laws cap (record { states = st; queue = q }) w e.ways p in
      let (_, u) = frame.still f e.gives (steps-still s z).0 in
      let (inv', g) = steps-settle s z (step-inv f st q i x e w r l m a u inv) in
      (inv', grown-trans join m.grown g)
