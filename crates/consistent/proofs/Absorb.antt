-- The facts take in what visits give: what `absorb` keeps, and what a round that did not move has.
use Prim.Native.Nat.{ℕ, ◌<◌}
use native.Mathlib.Omega.{arith}
use native.Mathlib.Decide.{ℕ_discrete, dec_lt}
use mathlib.Core.Path.{◌≡◌, refl, sym, ◌∙◌, ap}
use mathlib.Core.Logic.{◌⊎◌, inl, inr}
use mathlib.Core.Bool.{Bool, true, false, cond, ◌&&◌, ◌||◌, true≢false}
use mathlib.Core.List.Memᴰ
use mathlib.Core.List.{List, [], ◌∷◌, Memᴰ}
use lib.Dec.{leb}
use lib.ListN.{length, get_or, set, length-map}
use lib.Seq.{get_or-set_same, get_or-set_other, set_out}
use borrow.Author.Tests.{not-false}
use Rattle.masks.specs.declared.Mask.{Mask}
use Rattle.masks.specs.Mask.{union}
use Rattle.masks.specs.Mask.{same as same_mask}
use Rattle.masks.specs.Names.{NONE}
use Rattle.flows.specs.Flow.{join_flow, no_flow}
use Rattle.cells.specs.declared.Cell.{Cell}
use Rattle.cells.specs.Cell.{join_cell}
use Rattle.join_laws.proofs.Join.{takes-trans}
use Rattle.join_laws.proofs.Lists.{each_same, each-equals}
use Rattle.join_laws.proofs.Masks.{union-joins, mask-equals}
use Rattle.join_laws.proofs.Flows.{flow-joins, flow-equals}
use Rattle.join_laws.proofs.Cells.{cell-equals}
use Rattle.definition.specs.Module.{Module}
use Rattle.definition.specs.State.{Facts, Live, Gift, nothing, arguments, returned, written, join_cells}
use Rattle.definition.specs.Data.{is_body}
use Rattle.definition.specs.Outputs.{no_cell}
use Rattle.definition.specs.Leaves.{join_at, stored_flow, with_flows, write_flow, write_mask, write_slot, write_slots, absorb, union_masks, same_masks, opened, closed, moved}
use Rattle.definition.specs.Start.{first_facts}
use Rattle.masks.proofs.Both.{or_left, or_right}
use Rattle.form_laws.proofs.Each.{join_cells-length}
use Rattle.consistent.proofs.Rows.{Grows, grows-of, over, over-wider, taken_at, In, Wider, wider-refl, wider-trans, at-still, at_has, at-wider}
use Rattle.consistent.proofs.States.{cell-grows, cells-grows, cells-equals}
use Rattle.consistent.specs.Consistent.{Private}

or-true : (a b : Bool) → a ≡ true → (a || b) ≡ true
or-true a b e = rw e

union-grows : Grows union
union-grows = grows-of union-joins

flow-grows : Grows join_flow
flow-grows = grows-of flow-joins

-- a row that takes more in stays as long
at_rows : (l : List (List Cell)) (i : ℕ) (cs : List Cell) (n : ℕ) → length (get_or (join_at join_cells [] l i cs) n []) ≡ length (get_or l n [])
unfolding join_at
at_rows l i cs n = go (ℕ_discrete n i) (dec_lt i (length l))
  where
    go : Dec (n ≡ i) → Dec (i < length l) → length (get_or (set l i (join_cells (get_or l i []) cs)) n []) ≡ length (get_or l n [])
    go (yes e) (yes h) = rw (e, get_or-set_same l i (join_cells (get_or l i []) cs) [] h) (join_cells-length (get_or l i []) cs)
    go (yes e) (no h) = rw (set_out l i (join_cells (get_or l i []) cs) (omega arith))
    go (no e) d = rw (get_or-set_other l i n (join_cells (get_or l i []) cs) [] e)

-- ---- facts that took more in: every table is as long, and takes in what it did
pub record Grown (f f' : Live) : Type 0 where
  pub inputs : Wider join_cells [] f.known.inputs f'.known.inputs
  pub results : Wider join_cell no_cell f.known.results f'.known.results
  pub flows : Wider join_flow no_flow f.known.flows f'.known.flows
  pub writes : Wider union NONE f.writes f'.writes
  pub masks : f'.known.masks ≡ f.known.masks
  -- a chunk has as many inputs as before
  pub rows : (n : ℕ) → length (get_or f'.known.inputs n []) ≡ length (get_or f.known.inputs n [])

grown-refl : (f : Live) → Grown f f
grown-refl f =
    record {
      inputs = wider-refl join_cells [] f.known.inputs;
      results = wider-refl join_cell no_cell f.known.results;
      flows = wider-refl join_flow no_flow f.known.flows;
      writes = wider-refl union NONE f.writes;
      masks = refl;
      rows = λ n. refl;
    }

grown-trans : (a b c : Live) → Grown a b → Grown b c → Grown a c
grown-trans a b c u v =
    record {
      inputs = wider-trans join_cells [] a.known.inputs b.known.inputs c.known.inputs u.inputs v.inputs;
      results = wider-trans join_cell no_cell a.known.results b.known.results c.known.results u.results v.results;
      flows = wider-trans join_flow no_flow a.known.flows b.known.flows c.known.flows u.flows v.flows;
      writes = wider-trans union NONE a.writes b.writes c.writes u.writes v.writes;
      masks = v.masks ∙ u.masks;
      rows = λ n. v.rows n ∙ u.rows n;
    }

-- ---- one slot
-- what a slot keeps of a value written to it
pub record Wrote (m : Module) (f : Live) (n : ℕ) (c : Cell) : Type 0 where
  pub mask : Private m n → In union NONE f.writes n c.mask
  pub flow : is_body m n ≡ true → In join_flow no_flow f.known.flows n (stored_flow c.flow)

mask-grown : (f : Live) (n : ℕ) (c : Cell) → Grown f (write_mask f n c)
unfolding write_mask
mask-grown f n c =
    record {
      inputs = wider-refl join_cells [] f.known.inputs;
      results = wider-refl join_cell no_cell f.known.results;
      flows = wider-refl join_flow no_flow f.known.flows;
      writes = at-wider union NONE union-grows f.writes n c.mask;
      masks = refl;
      rows = λ n. refl;
    }

flow-grown : (f : Live) (n : ℕ) (c : Cell) → Grown f (write_flow f n c)
unfolding write_flow with_flows
flow-grown f n c =
    record {
      inputs = wider-refl join_cells [] f.known.inputs;
      results = wider-refl join_cell no_cell f.known.results;
      flows = at-wider join_flow no_flow flow-grows f.known.flows n (stored_flow c.flow);
      writes = wider-refl union NONE f.writes;
      masks = refl;
      rows = λ n. refl;
    }

-- a body, a private scalar, a shared slot
slot_cases : (P : Live → Type 0) (m : Module) (f : Live) (n : ℕ) (c : Cell)
    → (is_body m n ≡ true → P (write_flow (write_mask f n c) n c))
    → (is_body m n ≡ false → P (write_mask f n c))
    → ((is_body m n || leb (length m.shared) n) ≡ false → P f)
    → P (write_slot m f n c)
unfolding write_slot
slot_cases P m f n c p q r = go (is_body m n) (leb (length m.shared) n) refl refl
  where
    go : (a b : Bool) → is_body m n ≡ a → leb (length m.shared) n ≡ b
        → P (cond a (write_flow (write_mask f n c) n c) (cond b (write_mask f n c) f))
    go true b e h = p e
    go false true e h = q e
    go false false e h = r (rw (e, h))

slot-grown : (m : Module) (f : Live) (n : ℕ) (c : Cell) → Grown f (write_slot m f n c)
slot-grown m f n c =
    slot_cases (λ (x : Live). Grown f x) m f n c
    (λ e. grown-trans f (write_mask f n c) _ (mask-grown f n c) (flow-grown (write_mask f n c) n c))
    (λ e. mask-grown f n c)
    (λ e. grown-refl f)

slot_has : (m : Module) (f : Live) (n : ℕ) (c : Cell) → Wrote m (write_slot m f n c) n c
unfolding write_flow with_flows write_mask
slot_has m f n c =
    slot_cases (λ (x : Live). Wrote m x n c) m f n c
    (λ e.
    record {
      mask = λ p. at_has union NONE union-grows f.writes n c.mask;
      flow = λ p. at_has join_flow no_flow flow-grows f.known.flows n (stored_flow c.flow);
    })
    (λ e. record { mask = λ p. at_has union NONE union-grows f.writes n c.mask; flow = λ p. absurd (true≢false (sym p ∙ e)) })
    (λ e. record { mask = λ p. absurd (true≢false (sym p ∙ e)); flow = λ p. absurd (true≢false (sym (or-true _ _ p) ∙ e)) })

-- what the rules read stays while nothing is marked as changed
abbrev Still : Live → Live → Type 0
Still f f' = f'.changed ≡ false → (f.changed ≡ false) × (f'.known ≡ f.known)

slot-still : (m : Module) (f : Live) (n : ℕ) (c : Cell) → Still f (write_slot m f n c)
unfolding write_flow with_flows write_mask
slot-still m f n c =
    slot_cases (λ (x : Live). Still f x) m f n c
    (λ e q. (
      or_left f.changed _ q,
      λ i.
          record {
            inputs = f.known.inputs;
            results = f.known.results;
            masks = f.known.masks;
            flows = at-still join_flow no_flow flow-equals f.known.flows n (stored_flow c.flow) (or_right f.changed _ q) i;
          },
    ))
    (λ e q. (q, refl))
    (λ e q. (q, refl))

-- ---- the slots of a write, one after another
slots-grown : (m : Module) (f : Live) (ns : List ℕ) (c : Cell) → Grown f (write_slots m f ns c)
unfolding write_slots
slots-grown m f [] c = grown-refl f
slots-grown m f (n ∷ ns) c = grown-trans f (write_slot m f n c) _ (slot-grown m f n c) (slots-grown m (write_slot m f n c) ns c)

slots-still : (m : Module) (f : Live) (ns : List ℕ) (c : Cell) → Still f (write_slots m f ns c)
unfolding write_slots
slots-still m f [] c q = (q, refl)
slots-still m f (n ∷ ns) c q =
    let (p, e) = slots-still m (write_slot m f n c) ns c q in
    let (p', e') = slot-still m f n c p in
    (p', e ∙ e')

wrote-grown : (m : Module) (f f' : Live) (n : ℕ) (c : Cell) → Grown f f' → Wrote m f n c → Wrote m f' n c
wrote-grown m f f' n c g w =
    record {
      mask = λ p. g.writes.keeps n c.mask (w.mask p);
      flow = λ p. g.flows.keeps n (stored_flow c.flow) (w.flow p);
    }

slots-has : (m : Module) (f : Live) (ns : List ℕ) (c : Cell) (n : ℕ) → Memᴰ n ns → Wrote m (write_slots m f ns c) n c
unfolding write_slots
slots-has m f [] c n h = absurd (Memᴰ.not-nil h)
slots-has m f (k ∷ ks) c n h = go (slots-has m (write_slot m f k c) ks c n) (Memᴰ.cases_cons h)
  where
    go : (Memᴰ n ks → Wrote m (write_slots m (write_slot m f k c) ks c) n c) → (n ≡ k) ⊎ Memᴰ n ks
        → Wrote m (write_slots m (write_slot m f k c) ks c) n c
    go below (inl e) = rw e (wrote-grown m (write_slot m f k c) _ k c (slots-grown m (write_slot m f k c) ks c) (slot_has m f k c))
    go below (inr h) = below h

-- ---- any gift
pub absorb-grown : (m : Module) (f : Live) (g : Gift) → Grown f (absorb m f g)
unfolding absorb
absorb-grown m f nothing = grown-refl f
absorb-grown m f (arguments n cs) =
    record {
      inputs = at-wider join_cells [] cells-grows f.known.inputs n cs;
      results = wider-refl join_cell no_cell f.known.results;
      flows = wider-refl join_flow no_flow f.known.flows;
      writes = wider-refl union NONE f.writes;
      masks = refl;
      rows = at_rows f.known.inputs n cs;
    }
absorb-grown m f (returned n c) =
    record {
      inputs = wider-refl join_cells [] f.known.inputs;
      results = at-wider join_cell no_cell cell-grows f.known.results n c;
      flows = wider-refl join_flow no_flow f.known.flows;
      writes = wider-refl union NONE f.writes;
      masks = refl;
      rows = λ n. refl;
    }
absorb-grown m f (written ns c) = slots-grown m f ns c

-- the round's facts took in what was given; a chunk, result or slot past the end excepted
abbrev pub Has : Module → Live → Gift → Type 0
Has m f nothing = Unit {0}
Has m f (arguments n cs) = In join_cells [] f.known.inputs n cs
Has m f (returned n c) = In join_cell no_cell f.known.results n c
Has m f (written ns c) = (n : ℕ) → Memᴰ n ns → Wrote m f n c

has-grown : (m : Module) (f f' : Live) (g : Gift) → Grown f f' → Has m f g → Has m f' g
has-grown m f f' nothing u h = tt
has-grown m f f' (arguments n cs) u h = u.inputs.keeps n cs h
has-grown m f f' (returned n c) u h = u.results.keeps n c h
has-grown m f f' (written ns c) u h = λ n k. wrote-grown m f f' n c u (h n k)

pub absorb-has : (m : Module) (f : Live) (g : Gift) → Has m (absorb m f g) g
unfolding absorb
absorb-has m f nothing = tt
absorb-has m f (arguments n cs) = at_has join_cells [] cells-grows f.known.inputs n cs
absorb-has m f (returned n c) = at_has join_cell no_cell cell-grows f.known.results n c
absorb-has m f (written ns c) = slots-has m f ns c

pub absorb-keeps : (m : Module) (f : Live) (g h : Gift) → Has m f g → Has m (absorb m f h) g
absorb-keeps m f g h a = has-grown m f (absorb m f h) g (absorb-grown m f h) a

pub absorb-still : (m : Module) (f : Live) (g : Gift) → Still f (absorb m f g)
unfolding absorb
absorb-still m f nothing q = (q, refl)
absorb-still m f (arguments n cs) q = (
  or_left f.changed _ q,
  λ i.
      record {
        inputs = at-still join_cells [] cells-equals f.known.inputs n cs (or_right f.changed _ q) i;
        results = f.known.results;
        masks = f.known.masks;
        flows = f.known.flows;
      },
)
absorb-still m f (returned n c) q = (
  or_left f.changed _ q,
  λ i.
      record {
        inputs = f.known.inputs;
        results = at-still join_cell no_cell cell-equals f.known.results n c (or_right f.changed _ q) i;
        masks = f.known.masks;
        flows = f.known.flows;
      },
)
absorb-still m f (written ns c) q = slots-still m f ns c q

-- ---- the end of a round
masks-over : (xs ys : List Mask) → union_masks xs ys ≡ over union xs ys
unfolding union_masks
masks-over [] ys = refl
masks-over (x ∷ xs) [] = refl
masks-over (x ∷ xs) (y ∷ ys) = ap (λ (l : List Mask). union x y ∷ l) (masks-over xs ys)

sames-each : (xs ys : List Mask) → same_masks xs ys ≡ each_same same_mask xs ys
unfolding same_masks
sames-each [] [] = refl
sames-each [] (y ∷ ys) = refl
sames-each (x ∷ xs) [] = refl
sames-each (x ∷ xs) (y ∷ ys) = ap (λ (b : Bool). same_mask x y && b) (sames-each xs ys)

-- a writes' place for each private mask
abbrev pub Good : Live → Type 0
Good f = length f.writes ≡ length f.known.masks

pub absorb-good : (m : Module) (f : Live) (g : Gift) → Good f → Good (absorb m f g)
absorb-good m f g e =
    let u = absorb-grown m f g in
    u.writes.size ∙ e ∙ ap (λ (l : List Mask). length l) (sym u.masks)

pub opened-good : (r : Facts) → Good (opened r)
unfolding opened
opened-good r = length-map r.masks (λ m. NONE)

pub calm : (f : Live) → moved f ≡ false → f.changed ≡ false
unfolding moved
calm f e = or_left f.changed _ e

no_more : (f : Live) → moved f ≡ false → union_masks f.known.masks f.writes ≡ f.known.masks
unfolding moved
no_more f e =
    let all = union_masks f.known.masks f.writes in
    let h = not-false (same_masks f.known.masks all) (or_right f.changed _ e) in
    sym ((each-equals mask-equals).sound f.known.masks all (sym (sames-each f.known.masks all) ∙ h))

pub reopened : (f : Live) → moved f ≡ false → (opened (closed f)).known ≡ f.known
unfolding opened closed
reopened f e i =
    record { inputs = f.known.inputs; results = f.known.results; masks = no_more f e i; flows = f.known.flows }

-- what the rules read takes in what was given
pub record Written (m : Module) (r : Facts) (n : ℕ) (c : Cell) : Type 0 where
  pub mask : Private m n → In union NONE r.masks n c.mask
  pub flow : is_body m n ≡ true → In join_flow no_flow r.flows n (stored_flow c.flow)

abbrev pub Fits : Module → Facts → Gift → Type 0
Fits m r nothing = Unit {0}
Fits m r (arguments n cs) = In join_cells [] r.inputs n cs
Fits m r (returned n c) = In join_cell no_cell r.results n c
Fits m r (written ns c) = (n : ℕ) → Memᴰ n ns → Written m r n c

-- a slot's mask takes in the round's writes, and those the mask written
mask_fits : (f : Live) (n : ℕ) (x : Mask) → Good f → moved f ≡ false → In union NONE f.writes n x → In union NONE f.known.masks n x
mask_fits f n x gd e h l =
    let l' : n < length f.writes = rw gd l in
    takes-trans union-joins (get_or f.known.masks n NONE) (get_or f.writes n NONE) x
    (taken_at union NONE f.known.masks f.writes n l l' (sym (masks-over f.known.masks f.writes) ∙ no_more f e))
    (h l')

pub fitting : (m : Module) (f : Live) (g : Gift) → Good f → moved f ≡ false → Has m f g → Fits m f.known g
fitting m f nothing gd e h = tt
fitting m f (arguments n cs) gd e h = h
fitting m f (returned n c) gd e h = h
fitting m f (written ns c) gd e h = λ n k.
    record { mask = λ p. mask_fits f n c.mask gd e ((h n k).mask p); flow = (h n k).flow }

-- ---- in every round the tables are as long as the declared ones, and take them in
pub record Declared (m : Module) (r : Facts) : Type 0 where
  pub inputs : Wider join_cells [] (first_facts m).inputs r.inputs
  pub rows : (n : ℕ) → length (get_or r.inputs n []) ≡ length (get_or (first_facts m).inputs n [])
  pub results : Wider join_cell no_cell (first_facts m).results r.results
  pub masks : Wider union NONE (first_facts m).masks r.masks
  pub flows : Wider join_flow no_flow (first_facts m).flows r.flows

pub absorb-declared : (m : Module) (f : Live) (g : Gift) → Declared m f.known → Declared m (absorb m f g).known
absorb-declared m f g s =
    let u = absorb-grown m f g in
    record {
      inputs = wider-trans join_cells [] _ _ _ s.inputs u.inputs;
      rows = λ n. u.rows n ∙ s.rows n;
      results = wider-trans join_cell no_cell _ _ _ s.results u.results;
      masks = rw u.masks s.masks;
      flows = wider-trans join_flow no_flow _ _ _ s.flows u.flows;
    }

pub closed-declared : (m : Module) (f : Live) → Declared m f.known → Declared m (closed f)
unfolding closed
closed-declared m f s =
    record {
      inputs = s.inputs;
      rows = s.rows;
      results = s.results;
      masks = rw (masks-over f.known.masks f.writes)
          (wider-trans union NONE _ _ _ s.masks (over-wider union NONE union-grows f.known.masks f.writes));
      flows = s.flows;
    }
