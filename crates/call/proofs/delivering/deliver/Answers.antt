-- `call::delivering::deliver` meets its contract.
use native.Mathlib.Omega.{arith}
use Rattle.call.proofs.delivering.Laws.{told-long, told-written}
use Rattle.call.proofs.delivering.deliver.Goals as goal

pub returns-then-buf-length : goal.returns-then-buf-length
returns-then-buf-length c = rw c.nowhere.ensures (told-long _ _ _ _ (c.measure-length.ensures.0 c.args.reply) c.if-buf-length.true)

pub write-requires : goal.write-requires
write-requires c =
    record { ended = c.requires.ended; faultless = c.requires.faultless; t_value = c.requires.t_value; reply_in_bounds = omega (arith, c.measure-length.ensures.0 c.args.reply, c.if-buf-length.false) }

pub returns : goal.returns
returns c =
    told-written _ _ _ _ _ (c.measure-length.ensures.0 c.args.reply) c.measure-length.ensures.1 (omega (arith, c.if-buf-length.false)) c.write.ensures
