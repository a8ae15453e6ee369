-- `start::declare` meets its contract.
use Rattle.start.proofs.Inputs.{declared-none, declared-more}
use Rattle.start.proofs.Replies.{owns-is}
use Rattle.layout.proofs.Kept.{indexed-steady}
use Rattle.definition.specs.Module.{module_of}
use mathlib.Core.Path.{◌≡◌}
use native.Mathlib.Omega.{arith}
use Rattle.layout.proofs.Read.{signatures-are}
use Rattle.start.proofs.declare.Goals as goal

pub loop-c-init : goal.loop-c-init
loop-c-init c = declared-none _ _

pub chunk_at-ch-requires : goal.chunk_at-ch-requires
chunk_at-ch-requires c = record { indexed = indexed-steady _ _ _ c.loop-c.invariant.steady c.requires.indexed; c_in_bounds = omega (arith, signatures-are _ _ c.requires.t_value, c.requires.indexed.good.signatures) }

pub declare_chunk-requires : goal.declare_chunk-requires
declare_chunk-requires c = record { indexed = indexed-steady _ _ _ c.loop-c.invariant.steady c.requires.indexed; c_in_bounds = omega (arith, signatures-are _ _ c.requires.t_value, c.requires.indexed.good.signatures); ch_value = c.chunk_at-ch.ensures; owns_value = owns-is _ _ c.requires.t_value }

pub loop-c-preserved : goal.loop-c-preserved
loop-c-preserved c = declared-more _ _ _ _ _ (omega (arith, signatures-are _ _ c.requires.t_value, c.requires.indexed.good.signatures)) c.loop-c.invariant c.declare_chunk.ensures

pub returns : goal.returns
returns c = let e : c.loop-c.c ≡ (module_of c.args.s.now).signatures = omega (arith, signatures-are _ _ c.requires.t_value) in rw (← e) c.loop-c.invariant
