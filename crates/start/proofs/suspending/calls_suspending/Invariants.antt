use Rattle.start.specs.suspending.Suspending.{suspends_in}
use Rattle.form_laws.specs.Good.{chunk_no}
use Rattle.definition.specs.Start.{calls_one}
use Rattle.definition.specs.Module.{module_of}
use lib.ListN.{drop}
use mathlib.Core.Path.{◌≡◌}
use Rattle.start.proofs.suspending.calls_suspending.Given as goal

abbrev pub invariant-loop-i : goal.invariant-loop-i
invariant-loop-i l = calls_one (suspends_in l.s l.ws) (drop l.i (chunk_no (module_of l.s) l.c).code) ≡ calls_one (suspends_in l.s l.ws) (chunk_no (module_of l.s) l.c).code
