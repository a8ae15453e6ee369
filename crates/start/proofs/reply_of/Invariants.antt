use Rattle.definition.specs.Start.{replies}
use Rattle.definition.specs.Module.{module_of}
use lib.ListN.{drop}
use mathlib.Core.Path.{◌≡◌}
use Rattle.start.proofs.reply_of.Given as goal

abbrev pub invariant-loop-c : goal.invariant-loop-c
invariant-loop-c l = replies (module_of l.s) l.reply (drop l.c (module_of l.s).chunks) ≡ replies (module_of l.s) l.initial.reply (module_of l.s).chunks
