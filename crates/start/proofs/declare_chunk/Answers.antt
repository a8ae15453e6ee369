-- `start::declare_chunk` meets its contract.
use Rattle.start.proofs.Inputs.{result-known, chunk_in}
use Rattle.layout.proofs.Read.{place_is}
use native.Mathlib.Omega.{arith}
use Rattle.start.proofs.declare_chunk.Goals as goal

pub result_of-shape-requires : goal.result_of-shape-requires
result_of-shape-requires c = record { good = c.requires.indexed.good; c_in_bounds = c.requires.c_in_bounds; at_value = place_is _ _ _ _ c.requires.ch_value }

pub result_at-requires : goal.result_at-requires
result_at-requires c = let r = result-known _ _ c.requires.indexed _ c.requires.c_in_bounds _ c.requires.ch_value in omega arith

pub store-requires : goal.store-requires
store-requires c = let r = result-known _ _ c.requires.indexed _ c.requires.c_in_bounds _ c.requires.ch_value in omega (arith, r.room, r.at, c.result_at.ensures, c.declare_inputs.ensures.outside.length)

pub returns : goal.returns
returns c = chunk_in _ _ _ _ _ _ _ _ _ _ c.requires.indexed c.requires.c_in_bounds c.requires.ch_value c.requires.owns_value c.declare_inputs.ensures c.result_of-shape.ensures c.result_at.ensures c.declared.ensures c.store.ensures
