-- `index::read_chunk` meets its contract.
use Rattle.layout.specs.Read.{chunk_read}
use Rattle.index.proofs.access.read_chunk.Goals as goal

pub returns : goal.returns
unfolding chunk_read
returns c = cc
