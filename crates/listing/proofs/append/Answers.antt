-- `listing::append` meets its contract.
use Rattle.listing.proofs.Laid.{rest_all, rest-on, rest-none}
use Rattle.listing.proofs.Turns.{bytes-turn, bytes-end}
use borrow.Author.Rules.{rules}
use Rattle.listing.proofs.append.Goals as goal

pub loop-byte-init : goal.loop-byte-init
loop-byte-init c = rest_all _ _ _ c.requires

pub loop-byte-preserved : goal.loop-byte-preserved
loop-byte-preserved c = rest-on c.loop-byte.invariant c.push-to.ensures (bytes-turn c.args.from.now c.loop-byte.byte-index (search rules))

pub returns : goal.returns
returns c = rest-none (rw (bytes-end c.args.from.now c.loop-byte.byte-index (search rules)) at c.loop-byte.invariant)
