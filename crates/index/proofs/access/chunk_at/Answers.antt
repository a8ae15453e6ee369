-- `index::chunk_at` meets its contract.
use Rattle.layout.proofs.Read.{numbers-room, chunk_read_lem}
use native.Mathlib.Omega.{arith}
use Rattle.index.proofs.access.chunk_at.Goals as goal

pub read_chunk-requires : goal.read_chunk-requires
read_chunk-requires c = omega (arith, numbers-room _ _ c.requires.indexed c.args.c c.requires.c_in_bounds)

pub returns : goal.returns
returns c =
    let p = c.requires in
    cc (chunk_read_lem _ _ c.args.c (p.indexed.numbers c.args.c p.c_in_bounds))
