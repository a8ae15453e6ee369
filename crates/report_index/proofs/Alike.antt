-- What the walk finds in a report stands in an index that agrees: the lookup through the index answers as the walk does.
use Prim.Native.Nat.{ℕ, ◌+◌, ◌*◌, ◌<◌, ◌≤◌, ◌/◌, ◌%◌}
use native.Mathlib.Omega.{arith}
use mathlib.Core.Path.{◌≡◌, refl, sym, ◌∙◌, ap}
use mathlib.Core.Bool.{Bool, true, false, cond, ◌&&◌, true≢false}
use mathlib.Core.List.{List, [], ◌∷◌, Memᴰ}
use lib.Dec.{eqb, ltb}
use lib.ListN.{length}
use borrow.Author.Tests.{eqb-true, ltb-true, ltb-false}
use Rattle.std.specs.Prelude.{Ok, Err}
use Rattle.masks.proofs.Both.{both}
use Rattle.le.specs.Le.{at8, at32}
use Rattle.answers.specs.Answers.{nowhere}
use Rattle.lookup.specs.declared.Entry.{Entry}
use Rattle.lookup.specs.declared.Part.{Part}
use Rattle.lookup.specs.Find.{at_end, entries_in, names, part_of, first_of, found}
use Rattle.report_index.specs.Index.{entry_no, entries_of, is_before, rises, matched, agrees, sought, Answered}
use Rattle.report_index.specs.entries.Split.{Split}
use Rattle.report_index.proofs.entries.Laws.{before-before, before-own}
use Rattle.report_index.proofs.agreement.Laws.{among-where, among-here, among-found, among-past}
use Rattle.report_index.proofs.Match.{is_same, same-is, among-mem, mem-among}
use Rattle.report_index.proofs.Laid.{one-for-one, entries_fit}

-- ---- entries that rise: one at most has a chunk and an instruction
rises-head : {f : Entry} (e : Entry) {fs : List Entry} → rises (e ∷ fs) ≡ true → Memᴰ f fs → is_before f.chunk f.instruction e ≡ true
unfolding rises
rises-head e {fs = g ∷ fs} h (Memᴰ.head k) = rw k (both (is_before g.chunk g.instruction e) (rises (g ∷ fs)) h).0
rises-head {f = f} e {fs = g ∷ fs} h (Memᴰ.tail m) =
    let b = both (is_before g.chunk g.instruction e) (rises (g ∷ fs)) h in
    before-before f.chunk f.instruction g e b.0 (rises-head g b.1 m)
rises-head {f = f} e {fs = []} h x5 = elim x5 [ ]

rises-tail : (e : Entry) (fs : List Entry) → rises (e ∷ fs) ≡ true → rises fs ≡ true
unfolding rises
rises-tail e [] h = refl
rises-tail e (f ∷ fs) h = (both (is_before f.chunk f.instruction e) (rises (f ∷ fs)) h).1

pub rises-one : {e f : Entry} (fs : List Entry) → rises fs ≡ true → Memᴰ e fs → Memᴰ f fs
    → e.chunk ≡ f.chunk → e.instruction ≡ f.instruction → e ≡ f
rises-one (g ∷ fs) h (Memᴰ.head a) (Memᴰ.head b) c i = a ∙ sym b
rises-one {e = e} {f = f} (g ∷ fs) h (Memᴰ.head a) (Memᴰ.tail n) c i =
    absurd (before-own f.chunk f.instruction e c i (rw (← a) at (rises-head g h n)))
rises-one {e = e} {f = f} (g ∷ fs) h (Memᴰ.tail m) (Memᴰ.head b) c i =
    absurd (before-own e.chunk e.instruction f (sym c) (sym i) (rw (← b) at (rises-head g h m)))
rises-one (g ∷ fs) h (Memᴰ.tail m) (Memᴰ.tail n) c i = rises-one fs (rises-tail g fs h) m n c i
rises-one {e = e} {f = f} [] h x5 _ c i = elim x5 [ ]

-- ---- the walk's first record of a chunk and an instruction
module _ (other : Part) (c i : ℕ) where
  pub first-is : (p : Part) (es : List Entry) {f : Entry} → ((e : Entry) → Memᴰ e es → names c i e ≡ true → part_of e ≡ p)
      → Memᴰ f es → names c i f ≡ true → first_of other c i es ≡ p
  unfolding first_of
  first-is p (e ∷ es) {f} h m n = go (names c i e) refl m (λ j. first-is p es (λ g k. h g (Memᴰ.tail k)) j n)
    where
      go : (b : Bool) → names c i e ≡ b → Memᴰ f (e ∷ es) → (Memᴰ f es → first_of other c i es ≡ p)
          → cond b (part_of e) (first_of other c i es) ≡ p
      go true k m below = h e (Memᴰ.head refl) k
      go false k (Memᴰ.head j) below = absurd (true≢false (sym n ∙ ap (names c i) j ∙ k))
      go false k (Memᴰ.tail j) below = below j
  first-is p [] {f = f} h m n = elim m [ ]

  pub first-none : (es : List Entry) → ((e : Entry) → Memᴰ e es → names c i e ≡ true → ⊥) → first_of other c i es ≡ other
  unfolding first_of
  first-none [] h = refl
  first-none (e ∷ es) h = go (names c i e) refl (first-none es (λ g k. h g (Memᴰ.tail k)))
    where
      go : (b : Bool) → names c i e ≡ b → first_of other c i es ≡ other → cond b (part_of e) (first_of other c i es) ≡ other
      go true k below = absurd (h e (Memᴰ.head refl) k)
      go false k below = below

names-is : (c i : ℕ) (e : Entry) → names c i e ≡ true → (e.chunk ≡ c) × (e.instruction ≡ i)
unfolding names
names-is c i e h =
    let b = both (eqb e.chunk c) (eqb e.instruction i) h in
    (eqb-true e.chunk c b.0, eqb-true e.instruction i b.1)

-- ---- an index that agrees
module _ (s x : List ℕ) (h : agrees s x ≡ true) where
  parts : (rises (entries_of x) ≡ true) × (matched (entries_in s) (entries_of x) ≡ true)
  unfolding agrees
  parts =
      let b = both (eqb (length x % 12) 0 && rises (entries_of x)) (matched (entries_in s) (entries_of x)) h in
      ((both (eqb (length x % 12) 0) (rises (entries_of x)) b.0).1, b.1)

  pub agreed-rise : rises (entries_of x) ≡ true
  agreed-rise = parts.0

  pub agreed-match : (e : Entry) → (Memᴰ e (entries_in s) → Memᴰ e (entries_of x)) × (Memᴰ e (entries_of x) → Memᴰ e (entries_in s))
  agreed-match = one-for-one s (entries_of x) parts.1

  -- so no two records name one chunk and instruction
  pub agreed-once : {e f : Entry} → Memᴰ e (entries_in s) → Memᴰ f (entries_in s) → e.chunk ≡ f.chunk → e.instruction ≡ f.instruction → e ≡ f
  agreed-once {e} {f} m n = rises-one (entries_of x) agreed-rise ((agreed-match e).0 m) ((agreed-match f).0 n)

  -- and none begins past 2^32: of bytes no entry has such a number
  pub agreed-near : ((k : ℕ) → at8 x k < 256) → {e : Entry} → Memᴰ e (entries_in s) → e.first < 4294967296
  unfolding entries_of entry_no at32
  agreed-near bytes {e} m =
      let w = among-where x e (length x / 12) 0 (mem-among ((agreed-match e).0 m)) in
      let p : ℕ = 12 * w.0 + 4 in
      let q : e.first ≡ at32 x p = ap (λ (f : Entry). f.first) (same-is e (entry_no x w.0) w.1.2) in
      omega (arith, q, bytes p, bytes (p + 1), bytes (p + 2), bytes (p + 3))

  module _ (c i : ℕ) where
    pub looked-alike : (f : Entry) → Memᴰ f (entries_of x) → names c i f ≡ true → found s c i ≡ part_of f
    unfolding found
    looked-alike f m n =
        let b = names-is c i f n in
        first-is (at_end s) c i (part_of f) (entries_in s)
        (λ e k j. let a = names-is c i e j in
        ap part_of (rises-one (entries_of x) agreed-rise ((agreed-match e).0 k) m (a.0 ∙ sym b.0) (a.1 ∙ sym b.1)))
        ((agreed-match f).1 m) n

    pub looked-nowhere : ((f : Entry) → Memᴰ f (entries_of x) → names c i f ≡ true → ⊥) → found s c i ≡ at_end s
    unfolding found
    looked-nowhere none = first-none (at_end s) c i (entries_in s) (λ e k. none e ((agreed-match e).0 k))

    answered : (p : Part) → found s c i ≡ p → p.first + p.size ≤ length s → Answered s x c i (Ok p)
    unfolding sought
    answered p e l = record { same = rw h (ap Ok (sym e)); fits = λ q k. let r : p ≡ q = cc in rw (← r) l }

    module _ (r : ℕ) (split : Split x (length x / 12) c i r) where
      pub answers-entry : r < length x / 12 → names c i (entry_no x r) ≡ true → Answered s x c i (Ok (part_of (entry_no x r)))
      unfolding entries_of
      answers-entry l n =
          let e = entry_no x r in
          let m = among-mem e (entries_of x) (among-here x e (length x / 12) r l (is_same e e refl)) in
          answered (part_of e) (looked-alike e m n) (entries_fit s ((agreed-match e).1 m))

      -- an entry of this chunk and instruction is the one at the split
      at_split : (f : Entry) → Memᴰ f (entries_of x) → names c i f ≡ true → (r < length x / 12) × (f ≡ entry_no x r)
      unfolding entries_of
      at_split f m n = go (ltb r (length x / 12)) refl
        where
          there : Split x (length x / 12) f.chunk f.instruction r
          there = let a = names-is c i f n in rw (a.0, a.1) split

          go : (b : Bool) → ltb r (length x / 12) ≡ b → (r < length x / 12) × (f ≡ entry_no x r)
          go true t =
              let l = ltb-true r (length x / 12) t in
              (l, same-is f (entry_no x r) (among-found x f (length x / 12) agreed-rise r there l ∙ mem-among m))
          go false t =
              absurd (true≢false (sym (mem-among m) ∙ sym (among-past x f (length x / 12) agreed-rise r there (ltb-false r (length x / 12) t))))

      pub answers-end : (r < length x / 12 → names c i (entry_no x r) ≡ false) → Answered s x c i (Ok (at_end s))
      unfolding at_end
      answers-end other =
          answered (at_end s)
          (looked-nowhere (λ f m n. let k = at_split f m n in true≢false (sym n ∙ ap (names c i) k.1 ∙ other k.0)))
          (omega arith)

pub answers-disagree : (s x : List ℕ) (c i : ℕ) → agrees s x ≡ false → Answered s x c i (Err (nowhere 20 0))
unfolding sought
answers-disagree s x c i h = record { same = rw h; fits = λ p e. absurd (let z : ◌≡◌ {A = ℕ} 0 1 = cc in omega arith) }
