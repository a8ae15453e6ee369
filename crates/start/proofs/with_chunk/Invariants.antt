use Rattle.form_laws.specs.Good.{chunk_no}
use Rattle.definition.specs.Start.{reply_in}
use Rattle.definition.specs.Module.{module_of}
use lib.ListN.{drop}
use mathlib.Core.Path.{◌≡◌}
use Rattle.start.proofs.with_chunk.Given as goal

abbrev pub invariant-loop-i : goal.invariant-loop-i
invariant-loop-i l = reply_in (module_of l.s) l.reply (drop l.i (chunk_no (module_of l.s) l.c).code) ≡ reply_in (module_of l.s) l.initial.reply (chunk_no (module_of l.s) l.c).code
