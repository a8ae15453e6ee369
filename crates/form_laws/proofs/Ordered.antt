-- The fields of a description of good form stand in order.
use Prim.Native.Nat.{ℕ, ◌<◌, ◌≤◌}
use native.Mathlib.Omega.{arith}
use mathlib.Core.Path.{◌≡◌, refl}
use mathlib.Core.Bool.{Bool, true, false, cond, ◌&&◌}
use mathlib.Core.List.{List}
use lib.Dec.{eqb, ltb, leb}
use borrow.Author.Tests.{eqb-true, eq-eqb, ne_eqb, lt-ltb, le-leb}
use Rattle.description.specs.Fields.{fields_from}
use Rattle.definition.specs.declared.Scan.{Scan}
use Rattle.form_laws.specs.Order.{follows, ordered}
use Rattle.form_laws.proofs.Walk.{Walk, end, chunk, instr, other, Starts}

follows-other : (last k : ℕ) → 4 ≤ k → k < 9 → 0 < last → last ≤ k → (k ≡ 4 → last ≡ 3) → follows last k ≡ true
unfolding follows
follows-other last k a b l o site =
    rw (ne_eqb k 1 (omega arith), ne_eqb k 2 (omega arith), ne_eqb k 3 (omega arith)) (go (eqb k 4) refl)
  where
    go : (c : Bool) → eqb k 4 ≡ c → cond c (eqb last 3) (ltb 0 last && leb last k && ltb k 9) ≡ true
    go true e = eq-eqb last 3 (site (eqb-true k 4 e))
    go false e = rw (lt-ltb 0 last l, le-leb last k o, lt-ltb k 9 b)

walk-ordered : {s : List ℕ} {w p : ℕ} {ps : List ℕ} {t : Scan} → Walk s w p ps t → ordered s t.place ps ≡ true
unfolding ordered follows
walk-ordered (end h) = refl
walk-ordered (chunk {t = t} c k) = rw (c.tag, lt-ltb 0 t.place c.past, lt-ltb t.place 5 c.early) (walk-ordered k)
walk-ordered (instr {t = t} c k) = rw (c.tag, lt-ltb 1 t.place c.past, lt-ltb t.place 5 c.early) (walk-ordered k)
walk-ordered (other {t = t} j n c k) = rw (c.tag, follows-other t.place j c.past c.known c.later c.order c.site) (walk-ordered k)

pub all-ordered : (s : List ℕ) (w : ℕ) → Starts s w → ordered s 0 (fields_from s 0) ≡ true
unfolding ordered follows
all-ordered s w st = rw (st.fields, st.tag) (walk-ordered st.walk)
