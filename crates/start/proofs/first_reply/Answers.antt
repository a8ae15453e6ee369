-- `start::first_reply` meets its contract.
use Rattle.start.proofs.Replies.{entry-there, reply-param, reply-unit}
use Rattle.layout.proofs.Read.{place_is, params_is}
use mathlib.Core.Path.{◌∙◌}
use native.Mathlib.Omega.{arith}
use Rattle.start.proofs.first_reply.Goals as goal

pub chunk_at-ch-requires : goal.chunk_at-ch-requires
chunk_at-ch-requires c = record { indexed = c.requires.indexed; c_in_bounds = entry-there _ _ _ c.requires.indexed c.requires.t_value }

pub param_of-requires : goal.param_of-requires
param_of-requires c = record { good = c.requires.indexed.good; c_in_bounds = entry-there _ _ _ c.requires.indexed c.requires.t_value; at_value = place_is _ _ _ _ c.chunk_at-ch.ensures; k_in_bounds = omega (arith, params_is _ _ _ _ c.chunk_at-ch.ensures) }

pub returns-then-ch-gt0 : goal.returns-then-ch-gt0
returns-then-ch-gt0 c = c.declared.ensures ∙ reply-param _ _ _ c.requires.t_value _ c.chunk_at-ch.ensures c.if-ch-gt0.true _ c.param_of.ensures

pub returns : goal.returns
returns c = c.unit.ensures ∙ reply-unit _ _ _ c.requires.t_value _ c.chunk_at-ch.ensures c.if-ch-gt0.false
