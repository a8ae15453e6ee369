-- `start::reply_of` meets its contract.
use Rattle.start.proofs.Replies.{owns-is, replies-next, replies-end}
use Rattle.layout.proofs.Read.{chunks-are}
use Rattle.definition.specs.Module.{module_of}
use mathlib.Core.Path.{refl}
use native.Mathlib.Omega.{arith}
use Rattle.start.proofs.reply_of.Goals as goal

pub loop-c-init : goal.loop-c-init
loop-c-init c = refl

pub chunk_at-requires : goal.chunk_at-requires
chunk_at-requires c = record { indexed = c.requires.indexed; c_in_bounds = omega (arith, chunks-are _ _ c.requires.t_value) }

pub with_chunk-reply-requires : goal.with_chunk-reply-requires
with_chunk-reply-requires c = record { indexed = c.requires.indexed; c_in_bounds = omega (arith, chunks-are _ _ c.requires.t_value); ch_value = c.chunk_at.ensures; owns_value = owns-is _ _ c.requires.t_value }

pub loop-c-preserved : goal.loop-c-preserved
loop-c-preserved c = replies-next (module_of c.args.s.now) c.loop-c.c (omega (arith, chunks-are _ _ c.requires.t_value)) _ _ _ c.with_chunk-reply.ensures c.loop-c.invariant

pub returns : goal.returns
returns c = replies-end _ _ c.requires.indexed.good _ c.requires.t_value _ c.loop-c-test.false _ _ c.first_reply-reply.ensures c.loop-c.invariant
