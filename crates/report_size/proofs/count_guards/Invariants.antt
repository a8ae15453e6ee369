use Prim.Native.Nat.{◌+◌, ◌≤◌}
use mathlib.Core.Path.{◌≡◌}
use lib.ListN.{length}
use Rattle.definition.specs.Wants.{guards_in}
use Rattle.checks.specs.asked.Proving.{asked_from, asked_in}
use Rattle.report_size.proofs.count_guards.Given as goal

abbrev pub invariant-loop-p : goal.invariant-loop-p
invariant-loop-p l =
    (l.n + length (guards_in (asked_from l.s l.ws l.v l.want l.p l.p-end)) ≡ length (guards_in (asked_in l.s l.ws l.v l.want)))
    × (length (guards_in (asked_in l.s l.ws l.v l.want)) ≤ 64)
