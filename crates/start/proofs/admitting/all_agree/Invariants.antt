use Rattle.form_laws.specs.Good.{chunk_no}
use Rattle.definition.specs.Start.{agree}
use Rattle.definition.specs.Module.{module_of}
use lib.ListN.{drop}
use mathlib.Core.Path.{◌≡◌}
use Rattle.start.proofs.admitting.all_agree.Given as goal

abbrev pub invariant-loop-k : goal.invariant-loop-k
invariant-loop-k l =
    agree (drop l.k (chunk_no (module_of l.s) l.c).tags) (drop l.k (chunk_no (module_of l.s) l.c).params) ≡ agree (chunk_no (module_of l.s) l.c).tags (chunk_no (module_of l.s) l.c).params
