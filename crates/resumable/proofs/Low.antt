-- The rows of a reachable chunk are low exactly where those that may be recorded are, as its numbers have them.
use Prim.Native.Nat.{ℕ, ◌+◌, ◌*◌, ◌<◌, ◌≤◌}
use native.Mathlib.Omega.{arith}
use mathlib.Core.Path.{◌≡◌, refl, ap}
use mathlib.Core.Bool.{Bool, true, false, cond}
use mathlib.Core.List.{List}
use lib.ListN.{length, get_or}
use Rattle.definition.specs.Bounds.{most_stack}
use Rattle.definition.specs.Module.{module_of}
use Rattle.form_laws.specs.Good.{chunk_no}
use Rattle.layout.specs.declared.Chunk.{Chunk as ChunkNumbers}
use Rattle.layout.specs.Layout.{row_at}
use Rattle.layout.specs.Indexed.{Indexed, chunk_at}
use Rattle.layout.proofs.Read.{Row, row-known, row_is, count-is, stack_is}
use Rattle.run_state.specs.Course.{Low}
use Rattle.report_size.specs.Adds.{recordable}
use Rattle.report_size.proofs.Here.{count-recordable, counted-here}
use Rattle.resumable.specs.Resumable.{LowReached}

-- all instructions of a reachable chunk may be recorded
pub reached-recordable : (s : List ℕ) (n : ℕ) → (chunk_no (module_of s) n).reachable ≡ true → recordable s n ≡ length (chunk_no (module_of s) n).code
unfolding recordable
reached-recordable s n e = ap (λ (b : Bool). cond b (length (chunk_no (module_of s) n).code) 0) e

-- none of any other
pub recordable-reached : (s : List ℕ) (n i : ℕ) → i < recordable s n → (chunk_no (module_of s) n).reachable ≡ true
unfolding recordable
recordable-reached s n i l = go (chunk_no (module_of s) n).reachable l
  where
    go : (b : Bool) → i < cond b (length (chunk_no (module_of s) n).code) 0 → b ≡ true
    go true l = refl
    go false l = absurd (omega arith)

pub stack-small : (s ws : List ℕ) (c : ℕ) (ch : ChunkNumbers) → ch ≡ chunk_at s ws c → Indexed s ws → c < length (module_of s).chunks → ch.stack ≤ most_stack
stack-small s ws c ch e x h = omega (arith, stack_is s ws c ch e, (x.good.each_chunk c h).stack)

module _ (s ws : List ℕ) (c : ℕ) (ch : ChunkNumbers) (e : ch ≡ chunk_at s ws c) (count : ℕ) (q : count ≡ cond ch.reachable ch.count 0) where
  pub row-counted : Indexed s ws → c < length (module_of s).chunks → (i : ℕ) → i < count → Row s ws c ch i
  row-counted x h i l = row-known s ws c ch i x h e (counted-here s ws c ch e count q h i l).at

  height-is : (i : ℕ) → get_or ws (ch.rows + i * ch.size) 0 ≡ get_or ws (row_at (module_of s) c i) 0
  height-is i = ap (λ (p : ℕ). get_or ws p 0) (row_is s ws c ch e i)

  pub low_rows : c < length (module_of s).chunks → LowReached s ws c → (i : ℕ) → i < count → get_or ws (ch.rows + i * ch.size) 0 ≤ ch.stack + 1
  unfolding LowReached Low
  low_rows h low i l =
      let d = counted-here s ws c ch e count q h i l in
      omega (arith, height-is i, stack_is s ws c ch e, low d.reachable i (omega (arith, d.at, count-is s ws c ch e)))

  pub rows-low : ((i : ℕ) → i < count → get_or ws (ch.rows + i * ch.size) 0 ≤ ch.stack + 1) → LowReached s ws c
  unfolding LowReached Low
  rows-low all r i l =
      omega (arith, height-is i, stack_is s ws c ch e, all i (omega (arith, count-recordable s ws c ch e count q, reached-recordable s c r)))
