-- `outputs::assigning::set_by_call` meets its contract.
use native.Mathlib.Omega.{arith}
use mathlib.Core.Path.{refl}
use mathlib.Core.Bool.{true, false}
use Rattle.definition.specs.Module.{module_of}
use Rattle.layout.proofs.Apart.{reply-in}
use Rattle.outputs.proofs.assigning.Set.{set_first, set-none, set-call}
use Rattle.outputs.proofs.assigning.set_by_call.Goals as goal

pub load-requires : goal.load-requires
load-requires c = omega (arith, c.requires.looking.indexed.room, reply-in (module_of c.args.s.now))

pub returns-then-ch-callee : goal.returns-then-ch-callee
returns-then-ch-callee c = set-call _ _ _ c.requires.looking _ _ c.requires.ch_value true c.requires.a_in_bounds (cc) (set_first _ _ refl (cc))

pub returns : goal.returns
returns c = set-call _ _ _ c.requires.looking _ _ c.requires.ch_value false c.requires.a_in_bounds (cc) (set-none _ c.set_none.ensures)
