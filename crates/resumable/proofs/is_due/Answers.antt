-- `resumable::is_due` meets its contract.
use Rattle.resumable.proofs.Decides.{no, refuted, reworded, both, lt-decided}
use Rattle.resumable.proofs.is_due.Goals as goal

pub entries_below-requires : goal.entries_below-requires
entries_below-requires c = c.is_ready.ensures.sound c.if-is_ready.true

pub returns-then-is_ready : goal.returns-then-is_ready
returns-then-is_ready c =
    reworded (λ p. record { ready = c.is_ready.ensures.sound c.if-is_ready.true; some = p.0; entries = p.1 }) (λ d. (d.some, d.entries))
    (both (lt-decided 0 c.args.q.count) c.entries_below.ensures)

pub returns : goal.returns
returns c = no (λ d. refuted c.is_ready.ensures c.if-is_ready.false d.ready)
