-- Two runs of a chunk from one place, whose rules agree where both accept, end in the same states.
use Prim.Native.Nat.{ℕ}
use mathlib.Core.Path.{◌≡◌, refl, sym, ◌∙◌}
use mathlib.Core.Option.{Option}
use mathlib.Core.List.{List, []}
use Rattle.definition.specs.Res.{Res, ok}
use Rattle.definition.specs.Machine.{Joined, Effect, Work, puts}
use Rattle.machine_laws.proofs.Bind.{ok-inj, none≢some, some_inj}
use Rattle.machine_laws.proofs.Moves.{Laws, Recorded}
use Rattle.machine_laws.proofs.Steps.{Steps, stay, drop, step}
use Rattle.machine_laws.proofs.Settle.{Frame, steps-still}

module _ {F R S G : Type 0} (join : S → S → Res (Joined S)) (laws : Laws join) (cap : ℕ) (view : F → R)
    (absorb : F → G → F) (frame : Frame view absorb) (leaves : R → ℕ → S → Res (Effect S G))
    (absorb' : F → G → F) (frame' : Frame view absorb') (leaves' : R → ℕ → S → Res (Effect S G))
    (agree : (r : R) (i : ℕ) (s : S) (e e' : Effect S G) → leaves r i s ≡ ok e → leaves' r i s ≡ ok e' → e ≡ e') where
  visits-agree : (f g : F) (st : List (Option S)) (q : List ℕ) (i : ℕ) (s s' : S) (e e' : Effect S G) (w w' : Work S) → view f ≡ view g
      → Recorded st i s → Recorded st i s' → leaves (view f) i s ≡ ok e → leaves' (view g) i s' ≡ ok e'
      → puts join cap (record { states = st; queue = q }) e.ways ≡ ok w → puts join cap (record { states = st; queue = q }) e'.ways ≡ ok w' → w ≡ w'
  visits-agree f g st q i s s' e e' w w' u r r' l l' p p' =
      let es : s' ≡ s = some_inj (sym r' ∙ r) in
      let ee : e ≡ e' = agree (view f) i s e e' l (rw (u, ← es) l') in
      ok-inj (sym p ∙ (rw ee p'))

  pub steps-agree : {f f' g g' : F} {st st₁ st₂ : List (Option S)} {q : List ℕ} → view f ≡ view g → Steps join cap view absorb leaves f st q f' st₁ []
      → Steps join cap view absorb' leaves' g st q g' st₂ [] → frame.Quiet f' → frame'.Quiet g' → st₁ ≡ st₂
  steps-agree u stay stay z z' = refl
  steps-agree u (drop e a) (drop e' b) z z' = steps-agree u a b z z'
  steps-agree u (drop e a) (step r l p b) z z' = absurd (none≢some (sym e ∙ r))
  steps-agree u (step r l p a) (drop e b) z z' = absurd (none≢some (sym e ∙ r))
  steps-agree u (step {f = f} {st = st} {i = i} {q = q} {s = s} {e = e} {w = w} r l p a) (step {f = g} {s = s'} {e = e'} {w = w'} r' l' p' b) z z' =
      let ew : w ≡ w' = visits-agree f g st q i s s' e e' w w' u r r' l l' p p' in
      let (_, v) = frame.still f e.gives (steps-still join laws cap view absorb frame leaves a z).0 in
      let (_, v') = frame'.still g e'.gives (steps-still join laws cap view absorb' frame' leaves' b z').0 in
      steps-agree (v ∙ (u ∙ sym v')) a (rw (← ew) at b) z z'
