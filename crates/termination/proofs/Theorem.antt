-- THEOREM: for every description of good form there are a room and a limit from which on it is refused neither by 7 nor by 8.
use Prim.Native.Nat.{ℕ, suc, ◌+◌, ◌-◌, ◌<◌, ◌≤◌}
use native.Mathlib.Omega.{arith}
use mathlib.Core.Path.{◌≡◌, refl, ap, ◌∙◌}
use mathlib.Core.Logic.{inl, inr}
use mathlib.Core.Bool.{Bool, true, false, not}
use mathlib.Core.Option.{none}
use mathlib.Core.List.{List, [], ◌∷◌}
use lib.ListN.{length, get_or, length-set, length-map, length-take, length-replicate}
use borrow.Author.Tests.{not-true}
use Rattle.std.specs.Prelude.{Ok, Err}
use Rattle.answers.specs.declared.Refusal.{Refusal}
use Rattle.definition.specs.Res.{ok}
use Rattle.definition.specs.Machine.{Joined}
use Rattle.definition.specs.Module.{Module, Chunk, module_of}
use Rattle.definition.specs.State.{State, Facts, join_states, same_states, join_if, join}
use Rattle.definition.specs.Leaves.{Known}
use Rattle.definition.specs.Form.{form_of}
use Rattle.definition.specs.Start.{first_facts, known_of, start, admitted}
use Rattle.definition.specs.Call.{analysis_of, run_of, call}
use Rattle.form_laws.specs.Good.{no_chunk}
use Rattle.form_laws.proofs.Admitted.{chunk-admitted}
use Rattle.form_laws.proofs.Theorem.{good-form}
use Rattle.machine_laws.proofs.All.{All, nil, cons}
use Rattle.machine_laws.proofs.Bind.{bad≢ok, ok-inj}
use Rattle.refusal_laws.proofs.Only.{OfRan}
use Rattle.refusal_laws.proofs.Rules.{decided-numbers}
use Rattle.refusal_laws.proofs.Indexed.{indexed-as}
use Rattle.report_laws.proofs.Carried.{ModuleHas, ChunkHas, first-facts, reply-has}
use Rattle.termination.specs.Left.{total}
use Rattle.termination.specs.Measure.{state_left, changes_left}
use Rattle.termination.specs.Enough.{Otherwise, size_most, state_most, room_for, limit_for, Enough, EnoughWords, EnoughIndexed}
use Rattle.termination.proofs.Totals.{total-each}
use Rattle.termination.proofs.Ends.{Ends, check-ends}
use Rattle.termination.proofs.Small.{SmallMask, SmallWidth, SmallFlow, SmallCell, small-laws}
use Rattle.termination.proofs.Drops.{state-drop}
use Rattle.termination.proofs.Fades.{round-moves, round-stays, absorb-fades}
use Rattle.termination.proofs.Fits.{StateFits, FactsFit, LiveFits, GiftFits, ChunkFits, gift-inside, fits-keep}
use Rattle.termination.proofs.Late.{join-late, leaves-late, after-late}
use Rattle.termination.proofs.Turned.{Stopped, Answered, decided-run, call-decided}
use Rattle.termination.proofs.Bounds.{state-most, size-whole, module-small, inits-small}

-- what holds at each place holds of each element
all-places : {A : Type 0} (P : A → Type 0) (d : A) (xs : List A) → ((n : ℕ) → n < length xs → P (get_or xs n d)) → All P xs
all-places P d [] h = nil
all-places P d (x ∷ xs) h = cons (h 0 (omega arith)) (all-places P d xs (λ n l. h (suc n) (omega arith)))

chunks-all : (most height width results slots : ℕ) {cs : List Chunk} → All (ChunkHas (SmallCell most) (SmallFlow most) SmallMask (SmallWidth most)) cs
    → All (λ c. c.stack ≤ height) cs → All (λ c. c.locals ≤ width) cs → All (λ c. c.reachable ≡ true → c.number < results) cs
    → All (ChunkFits most height width results slots) cs
chunks-all most height width results slots nil nil nil nil = nil
chunks-all most height width results slots (cons p a) (cons q b) (cons r c) (cons s d) =
    cons (record { cells = p; stack = q; locals = r; number = s }) (chunks-all most height width results slots a b c d)

joined-falls : (most : ℕ) (b : Bool) (s x : State) (j : Joined State) → join_if b s x ≡ ok j
    → All (SmallCell most) s.stack → All (SmallCell most) s.locals → All (SmallCell most) x.stack → All (SmallCell most) x.locals
    → j.changed ≡ true → state_left most j.value < state_left most s
unfolding join_if
joined-falls most true s x j e p q u v c =
    let t : not (same_states s (join_states s x)) ≡ true = ap (λ (y : Joined State). y.changed) (ok-inj e) ∙ c in
    let l = (state-drop most s x p q u v).less (not-true _ t) in
    rw (← ok-inj e) l
joined-falls most false s x j e p q u v c = absurd (bad≢ok e)

module _ (m : Module) (inits : All SmallMask m.inits) (signed : m.signatures ≤ length m.chunks) (fine : admitted m m.chunks ≡ none) where
  abbrev most : ℕ
  most = size_most m

  abbrev height : ℕ
  height = total (λ c. c.stack) m.chunks

  abbrev width : ℕ
  width = total (λ c. c.locals) m.chunks

  abbrev results : ℕ
  results = m.signatures

  abbrev slots : ℕ
  slots = m.slots

  abbrev facts : Facts
  facts = first_facts m

  abbrev k : Known
  k = known_of m facts

  small : ModuleHas (SmallCell most) (SmallFlow most) SmallMask (SmallWidth most) m
  small = module-small m inits

  chunks_fit : All (ChunkFits most height width results slots) m.chunks
  chunks_fit =
      chunks-all most height width results slots small.chunks (total-each (λ c. c.stack) m.chunks) (total-each (λ c. c.locals) m.chunks)
      (all-places (λ c. c.reachable ≡ true → c.number < results) no_chunk m.chunks (λ n l r. (chunk-admitted m m.chunks n fine l r).signed))

  facts-fit : FactsFit most height width results slots facts
  unfolding first_facts
  facts-fit = record {
    cells = first-facts (SmallCell most) (SmallFlow most) SmallMask (SmallWidth most) (small-laws most (size-whole m)) m small;
    results-are = simp (length-map, length-take) (omega arith);
    flows-are = simp length-replicate;
  }

  reply-small : SmallCell most k.reply
  reply-small = reply-has (SmallCell most) (SmallFlow most) SmallMask (SmallWidth most) (small-laws most (size-whole m)) m facts small facts-fit.cells

  other : (n : ℕ) → 13 ≤ n → Otherwise n
  other n l = (λ e. omega arith, λ e. omega arith)

  ends : (cap : ℕ) → Ends (analysis_of k cap)
      (StateFits most height width results slots) (FactsFit most height width results slots) (LiveFits most height width results slots)
      (GiftFits most height width results slots) (ChunkFits most height width results slots)
      (state_left most) (state_most m) (changes_left most) (λ c. length c.code)
  unfolding join start state_most known_of
  ends cap = record {
    keeps = fits-keep most height width results slots (size-whole m) k cap reply-small small refl;
    falls = λ s x j e p q c. joined-falls most _ s x j e p.cells.stack p.cells.locals q.cells.stack q.cells.locals c;
    small = λ s p. state-most most height width s p.cells p.long.stack p.long.locals;
    places-are = λ c r. simp (length-set, length-replicate) (omega arith);
    fades = λ f g p q. absorb-fades most (size-whole m) m f g p.cells (gift-inside most height width results slots f g p q);
    moves = λ f p e. round-moves most f e;
    stays = λ f p. round-stays most f;
    joins = join-late Otherwise other;
    rules = leaves-late Otherwise other k;
    follows = after-late Otherwise other;
  }

  pub run_ends : (cap limit : ℕ) → room_for m ≤ cap → limit_for m ≤ limit → OfRan Otherwise (run_of k cap limit facts)
  unfolding run_of room_for limit_for known_of
  run_ends cap limit r l =
      check-ends (analysis_of k cap)
      (StateFits most height width results slots) (FactsFit most height width results slots) (LiveFits most height width results slots)
      (GiftFits most height width results slots) (ChunkFits most height width results slots)
      (state_left most) (state_most m) (changes_left most) (λ c. length c.code) (ends cap) chunks_fit r limit facts facts-fit l

-- THEOREM: from this room and limit on, what is decided of a description of good form is refused neither by 7 nor by 8
pub enough-here : (s : List ℕ) (w : ℕ) → form_of s ≡ Ok w → Enough (module_of s) (room_for (module_of s)) (limit_for (module_of s))
enough-here s w h cap n c l r e = go (decided-run (module_of s) cap n r e)
  where
    go : Stopped (module_of s) cap n r → Otherwise r.number
    go (inl p) = (λ z. omega arith, λ z. omega arith)
    go (inr (a, q)) = rw q at (run_ends (module_of s) (inits-small s) (good-form s w h).signatures a.chunks cap n c l)

-- THEOREM: such a room and limit exist
pub enough : (s : List ℕ) (w : ℕ) → form_of s ≡ Ok w → (room : ℕ) × (limit : ℕ) × Enough (module_of s) room limit
enough s w h = (room_for (module_of s), limit_for (module_of s), enough-here s w h)

-- THEOREM: so do words enough for a call, which is then not refused by 5 either
pub enough-words : (s : List ℕ) (w : ℕ) → form_of s ≡ Ok w → (words : ℕ) × (limit : ℕ) × EnoughWords s words limit
enough-words s w h = (
  suc (w + room_for (module_of s)),
  limit_for (module_of s),
  λ ws buf n c l r e. go ws buf n c l r (call-decided s w h ws buf n r e),
)
  where
    go : (ws buf : List ℕ) (n : ℕ) → suc (w + room_for (module_of s)) ≤ length ws → limit_for (module_of s) ≤ n → (r : Refusal) → Answered s w h ws buf n r
        → Otherwise r.number × (r.number ≡ 5 → ⊥)
    go ws buf n c l r (inl (a, b)) = absurd (omega arith)
    go ws buf n c l r (inr (inl z)) = ((λ y. omega arith, λ y. omega arith), λ y. omega arith)
    go ws buf n c l r (inr (inr (u, e))) =
        (enough-here s w h (length ws - w) n (omega arith) l r e, λ y. let k = decided-numbers (module_of s) (length ws - w) n r e in omega arith)

-- THEOREM: the same words and limit are enough for a call with an index
pub enough-indexed : (s : List ℕ) (words limit : ℕ) → EnoughWords s words limit → EnoughIndexed s words limit
enough-indexed s words limit h ws buf idx n c l r e = (
  (λ z. (h ws buf n c l r (alone (omega arith))).0.0 z, λ z. (h ws buf n c l r (alone (omega arith))).0.1 z),
  λ z. (h ws buf n c l r (alone (omega arith))).1 z,
)
  where
    alone : r.number ≤ 18 → (call s ws buf n).answer ≡ Err r
    alone u = indexed-as s ws buf idx n r e u
