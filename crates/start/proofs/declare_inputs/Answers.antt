-- `start::declare_inputs` meets its contract.
use Rattle.start.proofs.Inputs.{inputs-none, input-known, inputs-more}
use Rattle.layout.proofs.Read.{place_is, params_is}
use Rattle.form_laws.specs.Good.{chunk_no}
use Rattle.definition.specs.Module.{module_of}
use lib.ListN.{length}
use mathlib.Core.Path.{◌≡◌}
use native.Mathlib.Omega.{arith}
use Rattle.start.proofs.declare_inputs.Goals as goal

pub loop-k-init : goal.loop-k-init
loop-k-init c = inputs-none _ _ _

pub param_of-shape-requires : goal.param_of-shape-requires
param_of-shape-requires c = let i = input-known _ _ c.requires.indexed _ c.requires.c_in_bounds _ c.requires.ch_value _ c.loop-k-test.true in record { good = c.requires.indexed.good; c_in_bounds = c.requires.c_in_bounds; at_value = place_is _ _ _ _ c.requires.ch_value; k_in_bounds = i.there }

pub input_at-requires : goal.input_at-requires
input_at-requires c = let i = input-known _ _ c.requires.indexed _ c.requires.c_in_bounds _ c.requires.ch_value _ c.loop-k-test.true in omega arith

pub store-requires : goal.store-requires
store-requires c = let i = input-known _ _ c.requires.indexed _ c.requires.c_in_bounds _ c.requires.ch_value _ c.loop-k-test.true in omega (arith, i.room, i.at, c.input_at.ensures, c.loop-k.invariant.outside.length)

pub loop-k-preserved : goal.loop-k-preserved
loop-k-preserved c = let i = input-known _ _ c.requires.indexed _ c.requires.c_in_bounds _ c.requires.ch_value _ c.loop-k-test.true in inputs-more _ _ _ _ _ _ _ _ _ _ _ c.loop-k.invariant i c.requires.owns_value c.param_of-shape.ensures c.input_at.ensures c.declared.ensures c.store.ensures

pub returns : goal.returns
returns c = let e : c.loop-k.k ≡ length (chunk_no (module_of c.args.s.now) c.args.c).params = omega (arith, params_is _ _ _ _ c.requires.ch_value) in rw (← e) c.loop-k.invariant
