use Prim.Native.Nat.{◌+◌, ◌*◌, ◌≤◌}
use mathlib.Core.Path.{◌≡◌}
use lib.ListN.{length, take}
use Rattle.definition.specs.Module.{module_of}
use Rattle.form_laws.specs.Good.{instrs_in}
use Rattle.report_size.specs.Span.{span, cut}
use Rattle.report_size.specs.Adds.{signature_at}
use Rattle.report_size.specs.Measured.{all_in}
use Rattle.report_size.proofs.measure.Given as goal

abbrev pub invariant-loop-c : goal.invariant-loop-c
invariant-loop-c l =
    (l.n ≡ 7 + 52 * l.t.slots + length (span (cut (signature_at l.s l.ws) l.t.signatures) 0 l.c) + length (span (all_in l.s l.ws) 0 l.c))
    × (l.n ≤ 65536 + 1024 * l.c + 16170 * instrs_in (take l.c (module_of l.s).chunks))
