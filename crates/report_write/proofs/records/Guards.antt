-- The guards of a visit as bytes, place by place.
use Prim.Native.Nat.{ℕ, zero, suc, ◌-◌, ◌≤◌}
use native.Mathlib.Omega.{arith}
use mathlib.Core.Path.{◌≡◌, refl, sym, ap, ◌∙◌}
use mathlib.Core.List.{List, [], ◌++◌, append_assoc, append-nil}
use lib.ListN.{length}
use Rattle.masks.specs.declared.Mask.{Mask}
use Rattle.le.specs.Le.{le16}
use Rattle.definition.specs.declared.Ask.{Ask}
use Rattle.definition.specs.declared.Ask.TheVariants.{Nothing, First, Both, Every, Below, Writes, WritesIndexed, Never}
use Rattle.definition.specs.declared.Want.{Want}
use Rattle.definition.specs.declared.Check.{Check}
use Rattle.definition.specs.declared.Check.TheVariants.{Fine, Guard, Unproven}
use Rattle.definition.specs.Module.{row}
use Rattle.definition.specs.Wants.{Guarded, guard_of, guards_in, guards}
use Rattle.definition.specs.Report.{guards_bytes}
use Rattle.visit.specs.declared.RowVisit.{RowVisit}
use Rattle.visit.specs.Held.{visit_in}
use Rattle.checks.specs.asked.Proving.{Asking, places_by, found_in, asked_from, asked_in}
use Rattle.checks.proofs.asked.Checked.{guards-are}
use Rattle.report_size.specs.Span.{spread, span}

-- ---- one guard
pub guard-bytes : (p : ℕ) (m : Mask) → le16 p ++ le16 m.bits ≡ guards_bytes (guard_of p (Guard m) [])
unfolding guards_bytes guard_of
guard-bytes p m = ap (λ (l : List ℕ). le16 p ++ l) (sym (append-nil (le16 m.bits)))

pub guard-long : (p : ℕ) (m : Mask) → length (guards_bytes (guard_of p (Guard m) [])) ≡ 4
unfolding guards_bytes guard_of le16
guard-long p m = refl

pub fine-bytes : (p : ℕ) → [] ≡ guards_bytes (guard_of p Fine [])
unfolding guards_bytes guard_of
fine-bytes p = refl

pub unproven-bytes : (p : ℕ) → [] ≡ guards_bytes (guard_of p Unproven [])
unfolding guards_bytes guard_of
unproven-bytes p = refl

-- ---- all of them
unfoldable pub guard_at : List ℕ → List ℕ → RowVisit → Want → ℕ → List ℕ
guard_at s ws v w p = guards_bytes (guard_of p (found_in s ws v w p) [])

one-guard : (p : ℕ) (c : Check) (gs : List Guarded) → guards_bytes (guard_of p c gs) ≡ guards_bytes (guard_of p c []) ++ guards_bytes gs
unfolding guards_bytes guard_of
one-guard p Fine gs = refl
one-guard p Unproven gs = refl
one-guard p (Guard m) gs =
    ap (λ (l : List ℕ). le16 p ++ l) (ap (λ (l : List ℕ). l ++ guards_bytes gs) (sym (append-nil (le16 m.bits))))
    ∙ sym (append_assoc (le16 p) (le16 m.bits ++ []) (guards_bytes gs))

module _ (s ws : List ℕ) (v : RowVisit) (w : Want) where
  guards-spread : (i n : ℕ) → guards_bytes (guards_in (row (λ k. record { place = k; found = found_in s ws v w k }) i n)) ≡ spread (guard_at s ws v w) i n
  unfolding guards_in row spread guard_at guards_bytes
  guards-spread i zero = refl
  guards-spread i (suc n) =
      one-guard i (found_in s ws v w i) _ ∙ ap (λ (l : List ℕ). guards_bytes (guard_of i (found_in s ws v w i) []) ++ l) (guards-spread (suc i) n)

  pub guards-span : Asking s ws v w
      → span (guard_at s ws v w) (places_by v w.ask).from (places_by v w.ask).end ≡ guards_bytes (guards (visit_in s ws v))
  unfolding span asked_in asked_from
  guards-span a =
      let i = (places_by v w.ask).from in
      sym (ap guards_bytes (guards-are s ws v w a) ∙ guards-spread i ((places_by v w.ask).end - i))

-- the places are a stretch that ends at the height or below it
pub places-low : (v : RowVisit) (a : Ask) → v.start ≤ v.height → ((places_by v a).from ≤ (places_by v a).end) × ((places_by v a).end ≤ v.height)
unfolding places_by
places-low v Below h = (omega arith, h)
places-low v Nothing h = (h, omega arith)
places-low v First h = (h, omega arith)
places-low v Both h = (h, omega arith)
places-low v Every h = (h, omega arith)
places-low v Writes h = (h, omega arith)
places-low v WritesIndexed h = (h, omega arith)
places-low v Never h = (h, omega arith)

-- a walk that has come to the end
pub span-stop : (f : ℕ → List ℕ) (i p e : ℕ) → p - i ≡ e - i → span f i p ≡ span f i e
unfolding span
span-stop f i p e h = ap (spread f i) h
