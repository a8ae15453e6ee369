use Rattle.definition.specs.Start.{admitted}
use Rattle.definition.specs.Module.{module_of}
use lib.ListN.{drop}
use mathlib.Core.Path.{◌≡◌}
use Rattle.start.proofs.admitting.admitted.Given as goal

abbrev pub invariant-loop-c : goal.invariant-loop-c
invariant-loop-c l = admitted (module_of l.s) (drop l.c (module_of l.s).chunks) ≡ admitted (module_of l.s) (module_of l.s).chunks
