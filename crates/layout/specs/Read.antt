-- A chunk as the code reads it in the index.
use Rattle.std.specs.Prelude.{ℕ, ◌+◌, ◌*◌, not, List, eqb, get_or}
use Rattle.definition.specs.Leaves.{streams}
use Rattle.layout.specs.Layout.{word_rows, word_count, word_locals, word_stack, word_reachable, word_suspends, word_inputs, word_params, word_streams}
use Rattle.layout.specs.declared.Chunk.{Chunk as ChunkNumbers}

-- ---- the numbers of a chunk, read word by word from n on
unfoldable pub chunk_read : List ℕ → ℕ → ChunkNumbers
chunk_read ws n =
    record {
      at = get_or ws n 0;
      rows = get_or ws (n + word_rows) 0;
      count = get_or ws (n + word_count) 0;
      locals = get_or ws (n + word_locals) 0;
      stack = get_or ws (n + word_stack) 0;
      reachable = not (eqb (get_or ws (n + word_reachable) 0) 0);
      suspends = not (eqb (get_or ws (n + word_suspends) 0) 0);
      inputs = get_or ws (n + word_inputs) 0;
      params = get_or ws (n + word_params) 0;
      streams = not (eqb (get_or ws (n + word_streams) 0) 0);
      size = 16 * (get_or ws (n + word_locals) 0 + get_or ws (n + word_stack) 0 + 6);
    }
