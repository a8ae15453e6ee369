-- One entry among those of an index; and the records of a report, one after the other, against them.
use Prim.Native.Nat.{ℕ, zero, suc, ◌+◌, ◌<◌, ◌≤◌}
use native.Mathlib.Nat.{add-zero, zero-add}
use native.Mathlib.Omega.{arith}
use mathlib.Core.Path.{◌≡◌, refl, sym, ap, ◌∙◌}
use mathlib.Core.Bool.{Bool, true, false, ◌||◌, or-true, and-true, and-false}
use mathlib.Core.List.{List, [], ◌∷◌}
use lib.Dec.{eqb}
use lib.ListN.{length}
use Rattle.masks.proofs.Both.{never}
use Rattle.lookup.specs.declared.Entry.{Entry}
use Rattle.description.specs.Fields.{next_at}
use Rattle.lookup.specs.Find.{is_record, entry_at, entries_in}
use Rattle.lookup.proofs.Turns.{entries_from, entries-start, entries-record, entries-other}
use Rattle.report_index.specs.Index.{entry_no, entries_no, rises, same, among, all_among, matched}
use Rattle.report_index.specs.entries.Split.{Split}
use Rattle.report_index.proofs.Match.{same-is}
use Rattle.report_index.proofs.entries.Laws.{entry-at}

-- two tests that pass together are one
agreed : (a b : Bool) → (a ≡ true → b ≡ true) → (b ≡ true → a ≡ true) → a ≡ b
agreed true b f g = sym (f refl)
agreed false true f g = g refl
agreed false false f g = refl

module _ (x : List ℕ) (e : Entry) where
  among-at : (n k j : ℕ) → j < n → same e (entry_no x (k + j)) ≡ true → among e (entries_no x k n) ≡ true
  unfolding among entries_no
  among-at zero k j l h = absurd (omega arith)
  among-at (suc n) k zero l h = let h' : same e (entry_no x k) ≡ true = rw add-zero at h in rw h'
  among-at (suc n) k (suc j) l h =
      let m : k + suc j ≡ suc k + j = omega arith in
      rw (among-at n (suc k) j (omega arith) (rw m at h)) (or-true (same e (entry_no x k)))

  abbrev pub Somewhere : ℕ → ℕ → Type 0
  Somewhere n k = (j : ℕ) × ((k ≤ j) × (j < k + n) × (same e (entry_no x j) ≡ true))

  pub among-where : (n k : ℕ) → among e (entries_no x k n) ≡ true → Somewhere n k
  unfolding among entries_no
  among-where zero k h = never h
  among-where (suc n) k h = go (among-where n (suc k)) (same e (entry_no x k)) refl h
    where
      go : (among e (entries_no x (suc k) n) ≡ true → Somewhere n (suc k)) → (b : Bool) → same e (entry_no x k) ≡ b
          → (b || among e (entries_no x (suc k) n)) ≡ true → Somewhere (suc n) k
      go f true q h = (k, (omega arith, omega arith, q))
      go f false q h = let r = f h in (r.0, (omega arith, omega arith, r.1.2))

  pub among-here : (n k : ℕ) → k < n → same e (entry_no x k) ≡ true → among e (entries_no x 0 n) ≡ true
  among-here n k l h = among-at n 0 k l (rw zero-add h)

  module _ (n : ℕ) (up : rises (entries_no x 0 n) ≡ true) (r : ℕ) (s : Split x n e.chunk e.instruction r) where
    -- it is the one that is found, if any
    only : among e (entries_no x 0 n) ≡ true → (r < n) × (same e (entry_no x r) ≡ true)
    only h =
        let w = among-where n 0 h in
        let p : entry_no x w.0 ≡ e = sym (same-is e (entry_no x w.0) w.1.2) in
        let k : w.0 ≡ r = entry-at x n up e.chunk e.instruction r w.0 s (omega arith) (ap (λ (f : Entry). f.chunk) p) (ap (λ (f : Entry). f.instruction) p) in
        (omega arith, rw k at w.1.2)

    pub among-found : r < n → same e (entry_no x r) ≡ among e (entries_no x 0 n)
    among-found l = agreed (same e (entry_no x r)) (among e (entries_no x 0 n)) (among-here n r l) (λ h. (only h).1)

    pub among-past : n ≤ r → false ≡ among e (entries_no x 0 n)
    among-past l = agreed false (among e (entries_no x 0 n)) (λ h. never h) (λ h. absurd (let q = (only h).0 in omega arith))

-- ---- the records of a report against these entries
pub length-entries : (x : List ℕ) (n k : ℕ) → length (entries_no x k n) ≡ n
unfolding entries_no
length-entries x zero k = refl
length-entries x (suc n) k = ap suc (length-entries x n (suc k))

-- t records stand before p, and each is among the entries
pub record Tallied (s : List ℕ) (fs : List Entry) (p t : ℕ) : Type 0 where
  pub count : t + length (entries_from s p) ≡ length (entries_in s)
  pub rest : all_among (entries_from s p) fs ≡ all_among (entries_in s) fs

module _ (s : List ℕ) (fs : List Entry) where
  pub tally-start : Tallied s fs 0 0
  tally-start = record { count = rw (entries-start, zero-add); rest = rw entries-start }

  module _ (p t : ℕ) (h : Tallied s fs p t) where
    pub tally-end : (n : ℕ) → length fs ≡ n → entries_from s p ≡ [] → eqb t n ≡ matched (entries_in s) fs
    unfolding matched all_among
    tally-end n l e =
        let c : length (entries_in s) ≡ t = sym (rw (e, add-zero) at h.count) in
        let a : all_among (entries_in s) fs ≡ true = sym (rw e at h.rest) in
        rw (c, l, a) (sym (and-true (eqb t n)))

    -- one field on
    module _ (l : p < length s) (q : ℕ) (e : q ≡ next_at s p) (fits : q ≤ length s) (b : Bool) (i : b ≡ is_record s p) where
      pub tally-other : b ≡ false → Tallied s fs q t
      tally-other o =
          let k : entries_from s p ≡ entries_from s q = rw e (entries-other s p l (rw e at fits) (sym i ∙ o)) in
          record { count = rw k at h.count; rest = rw k at h.rest }

      module _ (o : b ≡ true) (f : Entry) (j : f ≡ entry_at s p) (d : Bool) (a : d ≡ among f fs) where
        next : entries_from s p ≡ f ∷ entries_from s q
        next = rw (e, j) (entries-record s p l (rw e at fits) (sym i ∙ o))

        pub tally-record : d ≡ true → Tallied s fs q (t + 1)
        unfolding all_among
        tally-record y = record { count = omega (arith, rw next at h.count); rest = rw (next, ← a, y) at h.rest }

        pub tally-missing : d ≡ false → false ≡ matched (entries_in s) fs
        unfolding matched all_among
        tally-missing y =
            let m : all_among (entries_in s) fs ≡ false = sym (rw (next, ← a, y) at h.rest) in
            rw m (sym (and-false (eqb (length (entries_in s)) (length fs))))
