-- `packing::Packed::and_then` meets its contract.
use Rattle.packing.proofs.Packed.and_then.Goals as goal

pub returns-in-Bytes-next : goal.returns-in-Bytes-next
returns-in-Bytes-next c = rw (c.in-Bytes.is, c.in-Bytes-next.is) c.sums.ensures
