-- An admitted chunk that is reachable has an instruction, a signature and its parameters.
use Prim.Native.Nat.{ℕ, zero, suc, ◌<◌}
use native.Mathlib.Omega.{arith}
use mathlib.Core.Path.{◌≡◌, refl, ap}
use mathlib.Core.Bool.{Bool, true, false, not, cond, ◌&&◌}
use mathlib.Core.Option.{none, some}
use mathlib.Core.List.{List, [], ◌∷◌, Memᴰ}
use lib.Dec.{eqb, leb}
use lib.ListN.{length, get_or}
use borrow.Author.Tests.{eqb-true, leb-false, not-false}
use Rattle.definition.specs.Module.{Module, Chunk}
use Rattle.definition.specs.Start.{agree, admission, admitted}
use Rattle.masks.proofs.Both.{or_left, or_right}
use Rattle.form_laws.specs.Good.{no_chunk}
pub use Rattle.form_laws.specs.Admitted.{Admitted}
use Rattle.form_laws.proofs.Each.{mem-at}

not-empty : (n : ℕ) → eqb n 0 ≡ false → 0 < n
not-empty zero h = let z : ◌≡◌ {A = ℕ} 0 1 = ap (λ (b : Bool). cond b 0 1) h in absurd (omega arith)
not-empty (suc n) h = omega arith

says : (m : Module) (c : Chunk) → admission m c ≡ 0 → Admitted m c
unfolding admission
says m c h =
    let p = go _ (agree c.tags c.params) h in
    let q = or_right (leb m.signatures c.number) _ p in
    record {
      code = not-empty (length c.code) (or_left _ _ q);
      signed = leb-false m.signatures c.number (or_left _ _ p);
      params = eqb-true (length c.params) c.arity (not-false _ (or_right (eqb (length c.code) 0) _ q));
    }
  where
    go : (a b : Bool) → ◌≡◌ {A = ℕ} (cond a 9 (cond b 0 10)) 0 → a ≡ false
    go true b h = absurd (omega arith)
    go false b h = refl

others : (m : Module) (c : Chunk) (cs : List Chunk) → admitted m (c ∷ cs) ≡ none → admitted m cs ≡ none
unfolding admitted
others m c cs h = go (c.reachable && not (eqb (admission m c) 0)) h
  where
    go : (b : Bool) → cond b (some (admission m c, c.number)) (admitted m cs) ≡ none → admitted m cs ≡ none
    go true h = let z : ◌≡◌ {A = ℕ} 0 1 = cc in absurd (omega arith)
    go false h = h

here : (m : Module) (c : Chunk) (cs : List Chunk) → admitted m (c ∷ cs) ≡ none → c.reachable ≡ true → admission m c ≡ 0
unfolding admitted admission
here m c cs h r = go (eqb (admission m c) 0) refl (rw r at h)
  where
    go : (b : Bool) → eqb (admission m c) 0 ≡ b → cond (not b) (some (admission m c, c.number)) (admitted m cs) ≡ none → admission m c ≡ 0
    go true e h = eqb-true (admission m c) 0 e
    go false e h = let z : ◌≡◌ {A = ℕ} 0 1 = cc in absurd (omega arith)

pub chunk-admitted : (m : Module) (cs : List Chunk) (n : ℕ) → admitted m cs ≡ none → n < length cs → (get_or cs n no_chunk).reachable ≡ true
    → Admitted m (get_or cs n no_chunk)
unfolding admitted
chunk-admitted m [] n h l r = absurd (omega arith)
chunk-admitted m (c ∷ cs) zero h l r = says m c (here m c cs h r)
chunk-admitted m (c ∷ cs) (suc n) h l r = chunk-admitted m cs n (others m c cs h) (omega arith) r

pub all-admitted : (m : Module) (cs : List Chunk) → admitted m cs ≡ none → (c : Chunk) → Memᴰ c cs → c.reachable ≡ true → Admitted m c
all-admitted m cs h c k r = let (n, l, e) = mem-at no_chunk cs k in rw (← e) (chunk-admitted m cs n h l (rw e r))
