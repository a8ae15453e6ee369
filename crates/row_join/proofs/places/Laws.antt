-- Laws of cells that arrive: in two parts, one by one, and where nothing in them is touched.
use Rattle.std.specs.Prelude.{Option, None}
use Prim.Native.Nat.{ℕ, zero, suc, ◌+◌, ◌*◌, ◌-◌, ◌<◌, ◌≤◌}
use mathlib.Core.Path.{◌≡◌, refl, sym, ap, ap₂, ◌∙◌}
use mathlib.Core.Bool.{Bool, true, false, not, cond, ◌&&◌, ◌||◌, and_assoc, and-true}
use mathlib.Core.Logic.{◌⊎◌, inl, inr}
use mathlib.Core.List.{List, [], ◌∷◌, ◌++◌, map}
use native.Mathlib.Omega.{arith}
use borrow.Author.Tests.{lt-ltb}
use lib.Dec.{eqb, ltb}
use lib.ListN.{length, length-append}
use Rattle.masks.proofs.Both.{both, never}
use Rattle.flows.specs.declared.Predicate.{Predicate}
use Rattle.flows.specs.declared.Predicate.TheVariants.{Nothing as Untested}
use Rattle.flows.specs.Flow.{origin_without, predicate_without, invalidated}
use Rattle.cells.specs.declared.Cell.{Cell}
use Rattle.cells.specs.declared.JoinedCell.{JoinedCell}
use Rattle.cells.specs.Cell.{join_cell, same_cell, invalidated_cell, narrow_enum}
use Rattle.join_laws.proofs.Cells.{cell-joins, cell-equals, cell-still}
use Rattle.definition.specs.Module.{row}
use Rattle.definition.specs.State.{join_cells, same_cells}
use Rattle.definition.specs.Ways.{narrow_stack, is_from}
use Rattle.words.specs.Layout.{cell_at, put_cell, copy_n, same_n, plain_at, Storable}
use Rattle.words.proofs.Laws.{cell_at-put, cell_at-copy, same-cells, plain-says}
use Rattle.words.specs.Rows.{cells_at, Outside}
use Rattle.words.proofs.RowLaws.{cells_at-length, cells_at-append, cells_at-one, cell_at-outside, cells_at-outside, outside_refl, outside_trans, outside-widen, outside-put, outside-copy}
use Rattle.form_laws.proofs.Each.{join_cells-length}
use Rattle.row_join.specs.places.Arrive.{no_local, kept_cell, untouched_at, arrive, moves, met_cell, PlacesApart, Arrived}

-- ---- cells joined and compared one by one
pub join_cells-append : (os xs bs ys : List Cell) → length os ≡ length xs → join_cells (os ++ bs) (xs ++ ys) ≡ join_cells os xs ++ join_cells bs ys
unfolding join_cells
join_cells-append [] [] bs ys h = refl
join_cells-append [] (x ∷ xs) bs ys h = absurd (omega arith)
join_cells-append (a ∷ os) [] bs ys h = absurd (omega arith)
join_cells-append (a ∷ os) (x ∷ xs) bs ys h = ap (λ (l : List Cell). join_cell a x ∷ l) (join_cells-append os xs bs ys (omega arith))

pub same_cells-append : (os xs bs ys : List Cell) → length os ≡ length xs → same_cells (os ++ bs) (xs ++ ys) ≡ same_cells os xs && same_cells bs ys
unfolding same_cells
same_cells-append [] [] bs ys h = refl
same_cells-append [] (x ∷ xs) bs ys h = absurd (omega arith)
same_cells-append (a ∷ os) [] bs ys h = absurd (omega arith)
same_cells-append (a ∷ os) (x ∷ xs) bs ys h =
    ap (λ (b : Bool). same_cell a x && b) (same_cells-append os xs bs ys (omega arith))
    ∙ sym (and_assoc (same_cell a x) (same_cells os xs) (same_cells bs ys))

pub join_cells-idem : (xs : List Cell) → join_cells xs xs ≡ xs
unfolding join_cells
join_cells-idem [] = refl
join_cells-idem (x ∷ xs) = ap₂ ◌∷◌ (cell-joins.idem x) (join_cells-idem xs)

pub same_cells-whole : (xs : List Cell) → same_cells xs xs ≡ true
unfolding same_cells
same_cells-whole [] = refl
same_cells-whole (x ∷ xs) = rw (cell-equals.whole x) (same_cells-whole xs)

pub same_cells-sound : (xs ys : List Cell) → same_cells xs ys ≡ true → xs ≡ ys
unfolding same_cells
same_cells-sound [] [] h = refl
same_cells-sound [] (y ∷ ys) h = never h
same_cells-sound (x ∷ xs) [] h = never h
same_cells-sound (x ∷ xs) (y ∷ ys) h =
    let (p, q) = both (same_cell x y) (same_cells xs ys) h in
    ap₂ ◌∷◌ (cell-equals.sound x y p) (same_cells-sound xs ys q)

-- ---- what arrives in two parts
pub arrive-append : (fresh : Bool) (os xs bs ys : List Cell) → length os ≡ length xs → arrive fresh (os ++ bs) (xs ++ ys) ≡ arrive fresh os xs ++ arrive fresh bs ys
unfolding arrive
arrive-append true os xs bs ys h = refl
arrive-append false os xs bs ys h = join_cells-append os xs bs ys h

not-and : (a b : Bool) → not (a && b) ≡ not a || not b
not-and true b = refl
not-and false b = refl

some-append : (xs ys : List Cell) → ltb 0 (length (xs ++ ys)) ≡ ltb 0 (length xs) || ltb 0 (length ys)
some-append [] ys = refl
some-append (x ∷ xs) ys =
    let z : ltb 0 (suc (length xs)) ≡ true = lt-ltb 0 (suc (length xs)) (omega arith) in
    lt-ltb 0 (suc (length (xs ++ ys))) (omega arith) ∙ sym (ap (λ (t : Bool). t || ltb 0 (length ys)) z)

pub moves-append : (fresh : Bool) (os xs bs ys : List Cell) → length os ≡ length xs → moves fresh (os ++ bs) (xs ++ ys) ≡ moves fresh os xs || moves fresh bs ys
unfolding moves
moves-append true os xs bs ys h = some-append xs ys
moves-append false os xs bs ys h =
    ap not (ap (same_cells (os ++ bs)) (join_cells-append os xs bs ys h) ∙ same_cells-append os (join_cells os xs) bs (join_cells bs ys) (sym (join_cells-length os xs)))
    ∙ not-and (same_cells os (join_cells os xs)) (same_cells bs (join_cells bs ys))

-- ---- no cell, one cell, some cells and some more
pub arrived-none : (fresh : Bool) (to : ℕ) (w : List ℕ) → Arrived fresh to 0 [] w w false
unfolding cells_at arrive join_cells moves same_cells
arrived-none fresh to w =
    record { count = refl; cells = none fresh; changed = still fresh; out = outside_refl to (to + 16 * 0) w }
  where
    none : (f : Bool) → [] ≡ arrive f [] []
    none true = refl
    none false = refl

    still : (f : Bool) → false ≡ moves f [] []
    still true = refl
    still false = refl

pub arrived-more : {fresh : Bool} {to m n : ℕ} {xs ys : List Cell} {w v u : List ℕ} {a b : Bool} → Arrived fresh to m xs w v a → Arrived fresh (to + 16 * m) n ys v u b → Arrived fresh to (m + n) (xs ++ ys) w u (a || b)
arrived-more {fresh} {to} {m} {n} {xs} {ys} {w} {v} {u} {a} {b} p q =
    record {
      count = length-append xs ys ∙ ap₂ ◌+◌ p.count q.count;
      cells = cells_at-append u to m n ∙ ap₂ ◌++◌ low high ∙ sym whole;
      changed = ap₂ ◌||◌ p.changed (q.changed ∙ ap (λ (l : List Cell). moves fresh l ys) old) ∙ sym moved;
      out = outside_trans (outside-widen to (to + 16 * (m + n)) p.out (omega arith) (omega arith)) (outside-widen to (to + 16 * (m + n)) q.out (omega arith) (omega arith));
    }
  where
    olds : List Cell
    olds = cells_at w to m

    olds2 : List Cell
    olds2 = cells_at w (to + 16 * m) n

    same : length olds ≡ length xs
    same = cells_at-length w to m ∙ sym p.count

    old : cells_at v (to + 16 * m) n ≡ olds2
    old = cells_at-outside p.out (to + 16 * m) n (inr (omega arith))

    low : cells_at u to m ≡ arrive fresh olds xs
    low = cells_at-outside q.out to m (inl (omega arith)) ∙ p.cells

    high : cells_at u (to + 16 * m) n ≡ arrive fresh olds2 ys
    high = q.cells ∙ ap (λ (l : List Cell). arrive fresh l ys) old

    whole : arrive fresh (cells_at w to (m + n)) (xs ++ ys) ≡ arrive fresh olds xs ++ arrive fresh olds2 ys
    whole = ap (λ (l : List Cell). arrive fresh l (xs ++ ys)) (cells_at-append w to m n) ∙ arrive-append fresh olds xs olds2 ys same

    moved : moves fresh (cells_at w to (m + n)) (xs ++ ys) ≡ moves fresh olds xs || moves fresh olds2 ys
    moved = ap (λ (l : List Cell). moves fresh l (xs ++ ys)) (cells_at-append w to m n) ∙ moves-append fresh olds xs olds2 ys same

-- ---- one cell
pub arrived-one : (fresh : Bool) (to : ℕ) (c : Cell) (w v : List ℕ) (b : Bool) → cell_at v to ≡ (met_cell fresh (cell_at w to) c).cell → b ≡ (met_cell fresh (cell_at w to) c).changed → Outside to (to + 15) w v → Arrived fresh to 1 (c ∷ []) w v b
unfolding cells_at arrive join_cells moves same_cells
arrived-one true to c w v b e q o =
    record { count = refl; cells = ap (λ (x : Cell). x ∷ []) e; changed = q; out = outside-widen to (to + 16 * 1) o (omega arith) (omega arith) }
arrived-one false to c w v b e q o =
    record {
      count = refl;
      cells = ap (λ (x : Cell). x ∷ []) e;
      changed = q ∙ ap not (sym (and-true (same_cell (cell_at w to) (join_cell (cell_at w to) c))));
      out = outside-widen to (to + 16 * 1) o (omega arith) (omega arith);
    }

-- a cell that is stored, copied, or there already
pub arrived-stored : (fresh : Bool) (to : ℕ) (c : Cell) (w v : List ℕ) (j : JoinedCell) → to + 16 ≤ length w → j ≡ met_cell fresh (cell_at w to) c → v ≡ put_cell w to j.cell → Storable j.cell → Arrived fresh to 1 (c ∷ []) w v j.changed
arrived-stored fresh to c w v j l q e f =
    arrived-one fresh to c w v j.changed
    (ap (λ (x : List ℕ). cell_at x to) e ∙ cell_at-put w to j.cell (omega arith) f ∙ ap (λ (x : JoinedCell). x.cell) q)
    (ap (λ (x : JoinedCell). x.changed) q)
    (rw e (outside-put w to j.cell))

pub arrived-copied : (from to : ℕ) (w v : List ℕ) → PlacesApart w from to 1 → v ≡ copy_n w from to 15 → Arrived true to 1 (cell_at w from ∷ []) w v true
arrived-copied from to w v s e =
    arrived-one true to (cell_at w from) w v true
    (ap (λ (x : List ℕ). cell_at x to) e ∙ cell_at-copy w from to (omega (arith, s.target)))
    refl
    (rw e (outside-copy w from to 15))

pub arrived-there : (from to : ℕ) (w : List ℕ) → same_n w from to 15 ≡ true → Arrived false to 1 (cell_at w from ∷ []) w w false
arrived-there from to w e =
    arrived-one false to (cell_at w from) w w false
    (sym takes)
    (sym (cell-still (cell_at w to) (cell_at w from) takes))
    (outside_refl to (to + 15) w)
  where
    takes : join_cell (cell_at w to) (cell_at w from) ≡ cell_at w to
    takes = ap (join_cell (cell_at w to)) (same-cells w from to e) ∙ cell-joins.idem (cell_at w to)

-- ---- a cell that nothing touches
plain-kept : (c : Cell) (forget narrow : ℕ) → c.flow.origin ≡ None → c.flow.predicate ≡ Untested → kept_cell forget narrow c ≡ c
unfolding kept_cell narrow_stack is_from invalidated_cell invalidated
plain-kept c forget narrow o p = go (eqb forget no_local) (eqb narrow no_local)
  where
    stays : narrow_stack narrow c ≡ c
    stays = ap (λ (x : Option ℕ). cond (is_from x narrow) (narrow_enum c) c) o

    without : invalidated_cell c forget ≡ c
    without =
        λ i. record {
          mask = c.mask;
          width = c.width;
          flow =
              record {
                bodies = c.flow.bodies;
                owned = c.flow.owned;
                origin = (ap (λ (x : Option ℕ). origin_without x forget) o ∙ sym o) i;
                predicate = (ap (λ (x : Predicate). predicate_without x forget) p ∙ sym p) i;
              };
        }

    go : (s t : Bool) → cond s (cond t c (narrow_stack narrow c)) (invalidated_cell c forget) ≡ c
    go true true = refl
    go true false = stays
    go false t = without

pub untouched-kept : (w : List ℕ) (from forget narrow : ℕ) → untouched_at w from forget narrow ≡ true → kept_cell forget narrow (cell_at w from) ≡ cell_at w from
unfolding kept_cell
untouched-kept w from forget narrow h = go (eqb forget no_local) (eqb narrow no_local) (plain_at w from) refl refl refl h
  where
    c : Cell
    c = cell_at w from

    plain : plain_at w from ≡ true → kept_cell forget narrow c ≡ c
    plain p = let (o, q) = plain-says w from p in plain-kept c forget narrow o q

    go : (s t u : Bool) → eqb forget no_local ≡ s → eqb narrow no_local ≡ t → plain_at w from ≡ u → (s && t) || u ≡ true → kept_cell forget narrow c ≡ c
    go true true u p q r e = rw (p, q)
    go true false true p q r e = plain r
    go true false false p q r e = never e
    go false t true p q r e = plain r
    go false t false p q r e = never e

-- ---- cells that are kept, one by one
pub map-append : (f : Cell → Cell) (xs ys : List Cell) → map f (xs ++ ys) ≡ map f xs ++ map f ys
map-append f [] ys = refl
map-append f (x ∷ xs) ys = ap (λ (l : List Cell). f x ∷ l) (map-append f xs ys)

pub places-at : (w v : List ℕ) (from to n p : ℕ) → PlacesApart w from to n → p < n → length v ≡ length w → PlacesApart v (from + 16 * p) (to + 16 * p) 1
places-at w v from to n p s l e =
    record { source = omega (arith, s.source); target = omega (arith, s.target); apart = still s.apart }
  where
    still : (to ≤ from) ⊎ (from + 16 * n ≤ to) → (to + 16 * p ≤ from + 16 * p) ⊎ (from + 16 * p + 16 * 1 ≤ to + 16 * p)
    still (inl h) = inl (omega arith)
    still (inr h) = inr (omega arith)

-- the first k of them, and those behind the next
pub places-first : (w : List ℕ) (from to n k : ℕ) → PlacesApart w from to n → k ≤ n → PlacesApart w from to k
places-first w from to n k s l =
    record { source = omega (arith, s.source); target = omega (arith, s.target); apart = still s.apart }
  where
    still : (to ≤ from) ⊎ (from + 16 * n ≤ to) → (to ≤ from) ⊎ (from + 16 * k ≤ to)
    still (inl h) = inl h
    still (inr h) = inr (omega arith)

pub places_behind : (w v : List ℕ) (from to n k : ℕ) → PlacesApart w from to n → k < n → length v ≡ length w → PlacesApart v (from + 16 * (k + 1)) (to + 16 * (k + 1)) (n - k - 1)
places_behind w v from to n k s l e =
    record { source = omega (arith, s.source); target = omega (arith, s.target); apart = still s.apart }
  where
    still : (to ≤ from) ⊎ (from + 16 * n ≤ to) → (to + 16 * (k + 1) ≤ from + 16 * (k + 1)) ⊎ (from + 16 * (k + 1) + 16 * (n - k - 1) ≤ to + 16 * (k + 1))
    still (inl h) = inl (omega arith)
    still (inr h) = inr (omega arith)

pub kept_more : (f : Cell → Cell) (fresh : Bool) (from to n p : ℕ) (w v u : List ℕ) (a b : Bool) → PlacesApart w from to n → p < n → Arrived fresh to p (map f (cells_at w from p)) w v a → Arrived fresh (to + 16 * p) 1 (f (cell_at v (from + 16 * p)) ∷ []) v u b → Arrived fresh to (p + 1) (map f (cells_at w from (p + 1))) w u (a || b)
kept_more f fresh from to n p w v u a b s l x y =
    rw (cells_at-append w from p 1, cells_at-one w (from + 16 * p), map-append f (cells_at w from p) (cell_at w (from + 16 * p) ∷ []))
    (arrived-more x (rw (unread s.apart) at y))
  where
    unread : (to ≤ from) ⊎ (from + 16 * n ≤ to) → cell_at v (from + 16 * p) ≡ cell_at w (from + 16 * p)
    unread (inl h) = cell_at-outside x.out (from + 16 * p) (inr (omega arith))
    unread (inr h) = cell_at-outside x.out (from + 16 * p) (inl (omega arith))

-- ---- cells by their number
pub row-length : (f : ℕ → Cell) (i n : ℕ) → length (row f i n) ≡ n
unfolding row
row-length f i zero = refl
row-length f i (suc n) = ap suc (row-length f (suc i) n)

row_last : (f : ℕ → Cell) (i n : ℕ) → row f i (n + 1) ≡ row f i n ++ (f (i + n) ∷ [])
unfolding row
row_last f i zero = let e : i ≡ i + 0 = omega arith in ap (λ (k : ℕ). f k ∷ []) e
row_last f i (suc n) =
    let e : suc i + n ≡ i + suc n = omega arith in
    let s : suc n + 1 ≡ suc (n + 1) = omega arith in
    ap (row f i) s ∙ ap (λ (l : List Cell). f i ∷ l) (row_last f (suc i) n ∙ ap (λ (k : ℕ). row f (suc i) n ++ (f k ∷ [])) e)

pub row_more : (f : ℕ → Cell) (fresh : Bool) (to p : ℕ) (w v u : List ℕ) (a b : Bool) → Arrived fresh to p (row f 0 p) w v a → Arrived fresh (to + 16 * p) 1 (f p ∷ []) v u b → Arrived fresh to (p + 1) (row f 0 (p + 1)) w u (a || b)
row_more f fresh to p w v u a b x y =
    let z : 0 + p ≡ p = omega arith in
    rw (row_last f 0 p, z) (arrived-more x y)
