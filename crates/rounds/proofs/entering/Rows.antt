-- The rows that a chunk begins with have no state; the locals of the first are filled one by one.
use Prim.Native.Nat.{ℕ, zero, ◌+◌, ◌*◌, ◌<◌, ◌≤◌}
use native.Mathlib.Omega.{arith}
use mathlib.Core.Path.{◌≡◌, refl, ◌∙◌}
use mathlib.Core.Bool.{Bool, true, false, cond}
use mathlib.Core.List.{List}
use mathlib.Core.Logic.{inl}
use borrow.Author.Count.{below_more}
use borrow.Author.Tests.{ltb-true, lt-ltb, le-ltb}
use lib.Dec.{ltb}
use lib.ListN.{length, get_or, set, length-set}
use lib.Seq.{get_or-set_same, get_or-set_other}
use Rattle.cells.specs.declared.Cell.{Cell}
use Rattle.cells.specs.Cell.{unit_cell}
use Rattle.words.specs.Layout.{cell_at, put_cell, copy_n, Storable}
use Rattle.words.proofs.Laws.{cell_at-put, cell_at-copy}
use Rattle.words.proofs.RowLaws.{outside_refl, outside_trans, outside-widen, outside-put, outside-copy, cell_at-outside}
use Rattle.layout.specs.declared.Chunk.{Chunk}
use Rattle.layout.specs.Layout.{local_at}
use Rattle.layout.proofs.Apart.{by_order}
use Rattle.rounds.specs.entering.Rows.{Cleared, Filled, FilledAt, LocalsThere, first_cell}

pub cleared-none : (ch : Chunk) (ws : List ℕ) → Cleared ch 0 ws ws
cleared-none ch ws = record { long = refl; zero = λ i l. absurd (omega arith); other = λ j d. refl }

pub cleared_more : (ch : Chunk) (i : ℕ) (ws v : List ℕ) → ch.rows + i * ch.size < length ws → Cleared ch i ws v
    → Cleared ch (i + 1) ws (set v (ch.rows + i * ch.size) 0)
cleared_more ch i ws v h x =
    record {
      long = length-set v at 0 ∙ x.long;
      zero = λ k l. below_more (λ (j : ℕ). get_or (set v at 0) (ch.rows + j * ch.size) 0 ≡ 0) i (λ j o. stays (ch.rows + j * ch.size) (x.zero j o)) here k l;
      other = λ j d. get_or-set_other v at j 0 0 (d i (omega arith)) ∙ x.other j (λ k l. d k (omega arith));
    }
  where
    at : ℕ
    at = ch.rows + i * ch.size

    here : get_or (set v at 0) at 0 ≡ 0
    here = get_or-set_same v at 0 0 (omega (arith, x.long))

    stays : (j : ℕ) → get_or v j 0 ≡ 0 → get_or (set v at 0) j 0 ≡ 0
    stays j e =
        by_order j at (λ l. get_or-set_other v at j 0 0 (λ q. omega arith) ∙ e) (λ q. rw q here) (λ l. get_or-set_other v at j 0 0 (λ q. omega arith) ∙ e)

pub local-room : (ws : List ℕ) (ch : Chunk) (i : ℕ) → LocalsThere ws ch → i < ch.locals → local_at ch.rows ch.stack i + 15 ≤ length ws
local-room ws ch i t l = omega (arith, t.room)

module _ (ch : Chunk) (i : ℕ) (ws : List ℕ) (there : LocalsThere ws ch) (less : i < ch.locals) (to : ℕ) (e : to ≡ local_at ch.rows ch.stack i) where
  pub filled_copy : (from : ℕ) (v : List ℕ) → i < ch.params → from ≡ ch.inputs + 16 * i → v ≡ copy_n ws from to 15 → FilledAt ch i ws v
  filled_copy from v l f q =
      rw (q, f, e)
      (record {
        out = outside-copy ws _ _ 15;
        cell = cell_at-copy ws _ _ (local-room ws ch i there less) ∙ rw (lt-ltb i ch.params l);
      })

  pub filled-unit : (c : Cell) (v : List ℕ) → ch.params ≤ i → c ≡ unit_cell → Storable c → v ≡ put_cell ws to c → FilledAt ch i ws v
  filled-unit c v l u f q =
      rw (q, e)
      (record {
        out = outside-put ws _ c;
        cell = cell_at-put ws _ c (local-room ws ch i there less) f ∙ u ∙ rw (le-ltb i ch.params l);
      })

pub filled_none : (ch : Chunk) (ws : List ℕ) → Filled ch 0 ws ws
filled_none ch ws = record { out = outside_refl _ _ ws; cell = λ k l. absurd (omega arith) }

module _ (ch : Chunk) (i : ℕ) (ws v u : List ℕ) (there : LocalsThere ws ch) (x : Filled ch i ws v) (y : FilledAt ch i v u) where
  same_first : i < ch.locals → first_cell v ch i ≡ first_cell ws ch i
  same_first less = go (ltb i ch.params) refl
    where
      go : (b : Bool) → ltb i ch.params ≡ b → cond b (cell_at v (ch.inputs + 16 * i)) unit_cell ≡ cond b (cell_at ws (ch.inputs + 16 * i)) unit_cell
      go true e = cell_at-outside x.out (ch.inputs + 16 * i) (inl (omega (arith, there.inputs, ltb-true i ch.params e)))
      go false e = refl

  pub filled_more : i < ch.locals → Filled ch (i + 1) ws u
  filled_more less =
      record {
        out = outside_trans (outside-widen _ _ x.out (omega arith) (omega arith)) (outside-widen _ _ y.out (omega arith) (omega arith));
        cell =
            below_more (λ (k : ℕ). cell_at u (local_at ch.rows ch.stack k) ≡ first_cell ws ch k) i
            (λ k l. cell_at-outside y.out _ (inl (omega arith)) ∙ x.cell k l)
            (y.cell ∙ same_first less);
      }

-- the words are as many
pub locals-there : (ch : Chunk) (i : ℕ) (ws v : List ℕ) → Filled ch i ws v → LocalsThere ws ch → LocalsThere v ch
locals-there ch i ws v x t = record { room = omega (arith, t.room, x.out.length); small = t.small; inputs = t.inputs }
