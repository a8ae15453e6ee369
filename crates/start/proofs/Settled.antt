-- What is settled before the rounds: the facts, the reply and which chunks suspend, or a refusal; the last two again where a run is taken up.
use Rattle.std.specs.Prelude.{Option as Maybe, None, Some}
use Prim.Native.Nat.{ℕ, zero, suc, ◌+◌, ◌*◌, ◌%◌, ◌<◌, ◌≤◌}
use native.Mathlib.Omega.{arith}
use mathlib.Core.Path.{◌≡◌, refl, sym, ap, ap₂, ◌∙◌}
use mathlib.Core.Bool.{Bool, true, false, ◌&&◌}
use mathlib.Core.Option.{Option, none, some}
use mathlib.Core.List.{List, [], ◌∷◌, map}
use mathlib.Core.Logic.{◌⊎◌, inl, inr}
use lib.Dec.{ltb}
use lib.ListN.{length, get_or, take, replicate}
use lib.Seq.{take-length}
use Rattle.masks.specs.Mask.{of}
use Rattle.masks.specs.Names.{NONE}
use Rattle.answers.specs.declared.Refusal.{Refusal}
use Rattle.flows.specs.Flow.{no_flow, maximum_of}
use Rattle.cells.specs.declared.Cell.{Cell}
use Rattle.cells.specs.Cell.{declared}
use Rattle.words.specs.Layout.{cell_at, put_cell, Storable}
use Rattle.words.proofs.Laws.{cell_at-put}
use Rattle.words.specs.Rows.{Outside}
use Rattle.words.proofs.RowLaws.{outside-put, cell_at-outside, cells_at-outside}
use Rattle.definition.specs.Module.{Module, Chunk, row, module_of}
use Rattle.definition.specs.Leaves.{opened}
use Rattle.definition.specs.Start.{admitted, declared_params, init_mask, first_facts, overfull, reply_cell, bounded, reply_maximum, has_site, suspend_loop, suspends, known_of}
use Rattle.definition.specs.Call.{turned, admitted_run, on_reply, known, on_admitted, decided}
use Rattle.form_laws.proofs.Each.{row-length}
use Rattle.form_laws.specs.Good.{no_chunk, chunk_no, words_of}
use Rattle.layout.specs.declared.Tables.{Tables}
use Rattle.layout.specs.Layout.{area_of, slot_at, input_at, result_at, head_words}
use Rattle.layout.specs.Indexed.{Indexed, Fresh, tables_of, suspends_at}
use Rattle.layout.proofs.Apart.{areas-behind, slots-behind, slots-first, inputs-begin, result-begins, reply-in}
use Rattle.layout.proofs.Read.{shared-are}
use Rattle.layout.specs.Kept.{Steady}
use Rattle.layout.proofs.Kept.{kept_trans, steady-put, reply-free, indexed-keep, indexed-put, suspends-steady}
use Rattle.visit.specs.Held.{facts_in, writes_in, live_in, known_in}
use Rattle.run_state.specs.Course.{Prepared, known_as}
use Rattle.run_state.proofs.Rows.{row_same}
use Rattle.start.specs.admitting.Admitting.{found}
use Rattle.start.specs.suspending.Suspending.{suspends_in, NumbersOnly}
use Rattle.start.specs.Starting.{SitesSuspend, Reknown, StartedAs, RebuiltAs}
use Rattle.start.specs.Inputs.{ChunksDeclared}
use Rattle.start.specs.Settled.{ended}
use Rattle.std.specs.Prelude.{Result, Ok, Err}

-- ---- lists built element by element
row-map : {A : Type 0} (f : ℕ → A) (g : Chunk → A) (cs : List Chunk) (i k : ℕ) → k ≤ length cs → ((n : ℕ) → n < k → f (i + n) ≡ g (get_or cs n no_chunk)) → row f i k ≡ map g (take k cs)
unfolding row
row-map f g cs i zero l e = refl
row-map f g [] i (suc k) l e = absurd (omega arith)
row-map f g (c ∷ cs) i (suc k) l e =
    let z : i ≡ i + 0 = omega arith in
    ap₂ ◌∷◌ (ap f z ∙ e 0 (omega arith))
    (row-map f g cs (suc i) k (omega arith) (λ n h.
    let q : suc i + n ≡ i + suc n = omega arith in
    ap f q ∙ e (suc n) (omega arith)))

row-all : {A : Type 0} (f : ℕ → A) (a : A) (i k : ℕ) → ((n : ℕ) → n < i + k → f n ≡ a) → row f i k ≡ replicate k a
unfolding row
row-all f a i zero e = refl
row-all f a i (suc k) e = ap₂ ◌∷◌ (e i (omega arith)) (row-all f a (suc i) k (λ n h. e n (omega arith)))

map-all : {A B : Type 0} (a : B) (xs : List A) → map (λ x. a) xs ≡ replicate (length xs) a
map-all a [] = refl
map-all a (x ∷ xs) = ap (λ (l : List _). a ∷ l) (map-all a xs)

-- ---- the workspace: the reply, and which chunks suspend
pub record Writes (s ws : List ℕ) (reply : Cell) (v2 v3 : List ℕ) : Type 0 where
  pub is : reply ≡ reply_cell (module_of s) (first_facts (module_of s))
  pub puts : v2 ≡ put_cell ws 0 reply
  pub fit : Storable reply
  pub marked : NumbersOnly s v2 v3
  pub suspends : suspends_in s v3 ≡ suspend_loop (length (module_of s).chunks) (module_of s).chunks (suspends_in s v2)

module _ (s ws : List ℕ) (x : Indexed s ws) (sites : SitesSuspend s ws) (room : words_of (module_of s) < length ws) (reply : Cell) (v2 v3 : List ℕ) (w : Writes s ws reply v2 v3) where
  put : Outside 0 15 ws v2
  put = rw w.puts (outside-put ws 0 reply)

  steady : Steady (module_of s) ws v2
  steady = rw w.puts (steady-put (module_of s) ws 0 reply (reply-free (module_of s)))

  pub reknown : Reknown s ws v3
  reknown =
      record {
        kept = kept_trans (module_of s) ws v2 v3 steady.kept w.marked.kept;
        front = λ j a b. w.marked.outside.word j (inl b) ∙ put.word j (inr a);
        behind = λ j h. w.marked.outside.word j (inr h) ∙ put.word j (inr (omega arith));
      }

  sites-hold : suspends_in s v2 ≡ map (λ c. has_site c.code) (module_of s).chunks
  unfolding chunk_no SitesSuspend
  sites-hold =
      row-map (suspends_at v2) (λ c. has_site c.code) (module_of s).chunks 0 (length (module_of s).chunks) (omega arith)
      (λ n h.
      let z : 0 + n ≡ n = omega arith in
      rw z (suspends-steady s ws v2 n steady h ∙ sites n h))
      ∙ ap (map (λ c. has_site c.code)) (take-length (module_of s).chunks)

  reply-holds : cell_at v3 0 ≡ reply
  reply-holds =
      cell_at-outside w.marked.outside 0 (inl (omega arith))
      ∙ rw w.puts (cell_at-put ws 0 reply (omega (arith, reply-in (module_of s), room)) w.fit)

  known-holds : known_in s v3 ≡ known_of (module_of s) (first_facts (module_of s))
  unfolding known_in known_of suspends
  known-holds =
      let a = w.suspends ∙ ap (suspend_loop (length (module_of s).chunks) (module_of s).chunks) sites-hold in
      let b = reply-holds ∙ w.is in
      λ i. record { code = module_of s; suspends = a i; reply = b i }

  pub prepared : admitted (module_of s) (module_of s).chunks ≡ none → Prepared s v3
  prepared a =
      record {
        indexed = indexed-keep s ws v3 reknown.kept x;
        room = omega (arith, reknown.kept.long);
        admitted = a;
        known = known-holds;
      }

-- ---- the facts: declared, and not touched by what follows
module _ (s ws v1 v3 : List ℕ) (x : Indexed s ws) (fresh : Fresh s ws) (d : ChunksDeclared s ws v1 (module_of s).signatures) (k : Reknown s v1 v3) where
  behind : Outside 0 (head_words + 16 * length (module_of s).chunks) v1 v3
  behind = record { length = k.kept.long; word = λ j h. back j h }
    where
      back : (j : ℕ) → (j < 0) ⊎ (head_words + 16 * length (module_of s).chunks ≤ j) → get_or v3 j 0 ≡ get_or v1 j 0
      back j (inl h) = absurd (omega arith)
      back j (inr h) = k.behind j h

  pub long : length v3 ≡ length ws
  long = k.kept.long ∙ d.outside.length

  -- the slots stay
  slot-word : (j : ℕ) → head_words + 16 * length (module_of s).chunks ≤ j → j < 16 * area_of (module_of s) 0 → get_or v3 j 0 ≡ get_or ws j 0
  slot-word j l h = k.behind j l ∙ d.outside.word j (inl h)

  slot-cell : (n : ℕ) → n < (module_of s).slots → cell_at v3 (slot_at (module_of s) n) ≡ cell_at ws (slot_at (module_of s) n)
  slot-cell n h =
      cell_at-outside behind (slot_at (module_of s) n) (inr (slots-behind (module_of s) n))
      ∙ cell_at-outside d.outside (slot_at (module_of s) n) (inl (omega (arith, slots-first (module_of s) n 0 h)))

  inputs-hold : (facts_in s v3).inputs ≡ (first_facts (module_of s)).inputs
  unfolding facts_in first_facts chunk_no
  inputs-hold =
      row-map _ (declared_params (module_of s)) (module_of s).chunks 0 (module_of s).signatures x.good.signatures
      (λ n h.
      let z : 0 + n ≡ n = omega arith in
      rw z
      (cells_at-outside behind (input_at (module_of s) n 0) _ (inr (omega (arith, areas-behind (module_of s) n, inputs-begin (module_of s) n 0)))
      ∙ d.inputs n h))

  results-hold : (facts_in s v3).results ≡ (first_facts (module_of s)).results
  unfolding facts_in first_facts chunk_no
  results-hold =
      row-map _ (λ c. declared c.result (module_of s).owns) (module_of s).chunks 0 (module_of s).signatures x.good.signatures
      (λ n h.
      let z : 0 + n ≡ n = omega arith in
      rw z
      (cell_at-outside behind (result_at (module_of s) n) (inr (omega (arith, areas-behind (module_of s) n, result-begins (module_of s) n)))
      ∙ d.results n h))

  masks-hold : (facts_in s v3).masks ≡ (first_facts (module_of s)).masks
  unfolding facts_in first_facts
  masks-hold =
      row_same _ _ 0 (module_of s).slots
      (λ n a b. ap (λ (c : Cell). c.mask) (slot-cell n (omega arith) ∙ fresh.slots n (omega arith)))

  flows-hold : (facts_in s v3).flows ≡ (first_facts (module_of s)).flows
  unfolding facts_in first_facts
  flows-hold =
      row-all _ no_flow 0 (module_of s).slots
      (λ n b. ap (λ (c : Cell). c.flow) (slot-cell n (omega arith) ∙ fresh.slots n (omega arith)))

  writes-hold : writes_in s v3 ≡ map (λ m. NONE) (first_facts (module_of s)).masks
  unfolding writes_in first_facts
  writes-hold =
      row-all _ NONE 0 (module_of s).slots
      (λ n b.
      let h : n < (module_of s).slots = omega arith in
      ap of
      (ap (λ (k : ℕ). k % 65536)
      (slot-word (slot_at (module_of s) n + 15) (omega (arith, slots-behind (module_of s) n)) (omega (arith, slots-first (module_of s) n 0 h)))
      ∙ fresh.unwritten n h))
      ∙ sym (map-all NONE (row (init_mask (module_of s)) 0 (module_of s).slots) ∙ ap (λ (k : ℕ). replicate k NONE) (row-length (init_mask (module_of s)) 0 (module_of s).slots))

  pub live-holds : live_in s v3 false ≡ opened (first_facts (module_of s))
  unfolding live_in opened
  live-holds =
      λ i. record {
        known = record { inputs = inputs-hold i; results = results-hold i; masks = masks-hold i; flows = flows-hold i };
        writes = writes-hold i;
        changed = false;
      }

full_is : (s : List ℕ) (t : Tables) → t ≡ tables_of s → (ltb 0 t.inits && ltb t.slots (t.shared + t.inits)) ≡ overfull (module_of s)
unfolding tables_of overfull
full_is s t e = ap (λ (y : Tables). ltb 0 y.inits && ltb y.slots (y.shared + y.inits)) e

-- admitted, the call goes on with the reply
decided-known : (m : Module) (cap limit : ℕ) → admitted m m.chunks ≡ none
    → decided m cap limit ≡ on_reply (known_of m (first_facts m)) cap limit (first_facts m) (bounded (maximum_of (reply_cell m (first_facts m)).flow))
unfolding decided on_admitted known known_of reply_maximum
decided-known m cap limit a = rw a

rebuilt : (s ws v : List ℕ) (full : Bool) (size : Maybe ℕ) → full ≡ overfull (module_of s) → size ≡ maximum_of (reply_cell (module_of s) (first_facts (module_of s))).flow
    → admitted (module_of s) (module_of s).chunks ≡ none → Prepared s v → Reknown s ws v → RebuiltAs s ws v (ended full size)
unfolding RebuiltAs ended on_reply bounded admitted_run known_of
rebuilt s ws v full None f e a p k =
    λ cap limit. decided-known (module_of s) cap limit a ∙ ap (λ (k : Maybe ℕ). on_reply (known_as s) cap limit (first_facts (module_of s)) (bounded k)) (sym e)
rebuilt s ws v true (Some n) f e a p k =
    λ cap limit. decided-known (module_of s) cap limit a ∙ ap (λ (k : Maybe ℕ). on_reply (known_as s) cap limit (first_facts (module_of s)) (bounded k)) (sym e) ∙ rw (← f)
rebuilt s ws v false (Some n) f e a p k = (
  p,
  k,
  λ cap limit.
      decided-known (module_of s) cap limit a ∙ ap (λ (k : Maybe ℕ). on_reply (known_as s) cap limit (first_facts (module_of s)) (bounded k)) (sym e) ∙ rw (← f),
)

-- ---- what the code asks on the way, and what it ends with
pub few-slots : (s ws : List ℕ) (t : Tables) → Indexed s ws → t ≡ tables_of s → t.shared + t.inits < 4294967296
unfolding tables_of
few-slots s ws t x e =
    omega (arith, x.good.shared, x.good.inits, shared-are s t e, ap (λ (y : Tables). y.inits) e)

module _ (s ws : List ℕ) (x : Indexed s ws) where
  pub reply-room : 0 + 15 ≤ length ws
  reply-room = omega (arith, reply-in (module_of s), x.room)

  pub put-indexed : (v2 : List ℕ) (reply : Cell) → (v2 ≡ put_cell ws 0 reply) × Storable reply → Indexed s v2
  put-indexed v2 reply (e, f) = rw e (indexed-put s ws x 0 reply (reply-free (module_of s)))

pub all-rebuilt : (s ws v2 v3 : List ℕ) (t : Tables) (reply : Cell) (size : Maybe ℕ) (r : Result ℕ Refusal) → Indexed s ws → SitesSuspend s ws → words_of (module_of s) < length ws
    → t ≡ tables_of s → admitted (module_of s) (module_of s).chunks ≡ none
    → reply ≡ reply_cell (module_of s) (first_facts (module_of s)) → (v2 ≡ put_cell ws 0 reply) × Storable reply
    → NumbersOnly s v2 v3 × (suspends_in s v3 ≡ suspend_loop (length (module_of s).chunks) (module_of s).chunks (suspends_in s v2))
    → size ≡ maximum_of reply.flow → r ≡ ended (ltb 0 t.inits && ltb t.slots (t.shared + t.inits)) size → RebuiltAs s ws v3 r
all-rebuilt s ws v2 v3 t reply size r x sites room et a er (ep, f) (m, es) ez e =
    let w : Writes s ws reply v2 v3 = record { is = er; puts = ep; fit = f; marked = m; suspends = es } in
    rw e
    (rebuilt s ws v3 _ size (full_is s t et) (ez ∙ ap (λ (c : Cell). maximum_of c.flow) er) a
    (prepared s ws x sites room reply v2 v3 w a)
    (reknown s ws x sites room reply v2 v3 w))

-- declaring keeps which chunks have a site
pub sites-suspend : (s ws v1 : List ℕ) → Fresh s ws → ChunksDeclared s ws v1 (module_of s).signatures → SitesSuspend s v1
unfolding SitesSuspend
sites-suspend s ws v1 fresh d n h = suspends-steady s ws v1 n d.steady h ∙ fresh.suspends n h

pub all_settled : (s ws v1 v3 : List ℕ) (r : Result ℕ Refusal) → Indexed s ws → Fresh s ws → ChunksDeclared s ws v1 (module_of s).signatures → RebuiltAs s v1 v3 r
    → StartedAs s ws v3 r
unfolding StartedAs RebuiltAs
all_settled s ws v1 v3 (Ok n) x fresh d (p, k, c) = (p, live-holds s ws v1 v3 x fresh d k, long s ws v1 v3 x fresh d k, c)
all_settled s ws v1 v3 (Err f) x fresh d c = c

-- not admitted
module _ (s ws v : List ℕ) (f : Refusal) (e : Err f ≡ found (admitted (module_of s) (module_of s).chunks)) where
  turns : (cap limit : ℕ) → decided (module_of s) cap limit ≡ turned f
  unfolding decided found on_admitted
  turns cap limit = go (admitted (module_of s) (module_of s).chunks) e
    where
      go : (o : Option (ℕ × ℕ)) → Err f ≡ found o → on_admitted (module_of s) cap limit o ≡ turned f
      go none q = cc
      go (some y) q = cc

  pub turned-back : StartedAs s ws v (Err f)
  unfolding StartedAs
  turned-back = turns

  pub turned-again : RebuiltAs s ws v (Err f)
  unfolding RebuiltAs
  turned-again = turns
