-- `start::admitting::admitted` meets its contract.
use Rattle.layout.proofs.Read.{chunks-are}
use Rattle.start.proofs.admitting.Chunks.{stands, turn-next, turn-stop, turn_end}
use Rattle.definition.specs.Module.{module_of}
use mathlib.Core.Path.{refl, ap, ◌∙◌}
use Rattle.std.specs.Prelude.{Err}
use native.Mathlib.Omega.{arith}
use Rattle.start.proofs.admitting.admitted.Goals as goal

pub loop-c-init : goal.loop-c-init
loop-c-init c = refl

pub chunk_at-requires : goal.chunk_at-requires
chunk_at-requires c = record { indexed = c.requires.indexed; c_in_bounds = omega (arith, chunks-are _ _ c.requires.t_value) }

pub fault-n-requires : goal.fault-n-requires
fault-n-requires c = record { good = c.requires.indexed.good; t_value = c.requires.t_value; c_in_bounds = omega (arith, chunks-are _ _ c.requires.t_value); numbers_of = stands _ _ _ _ c.chunk_at.ensures }

pub refuse-requires : goal.refuse-requires
refuse-requires c = omega (arith, chunks-are _ _ c.requires.t_value, c.requires.indexed.good.chunks_most)

pub returns-then-n-ne0 : goal.returns-then-n-ne0
returns-then-n-ne0 c = ap Err c.refuse.ensures ∙ turn-stop _ _ c.requires.indexed _ c.requires.t_value _ c.loop-c-test.true _ c.chunk_at.ensures _ c.fault-n.ensures c.loop-c.invariant c.if-n-ne0.true

pub loop-c-preserved : goal.loop-c-preserved
loop-c-preserved c = turn-next _ _ c.requires.indexed _ c.requires.t_value _ c.loop-c-test.true _ c.chunk_at.ensures _ c.fault-n.ensures c.loop-c.invariant c.if-n-ne0.false

pub returns : goal.returns
returns c = turn_end (module_of c.args.s.now) c.loop-c.c (omega (arith, chunks-are _ _ c.requires.t_value)) c.loop-c.invariant
