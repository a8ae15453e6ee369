use Rattle.step.proofs.Steps.{signed, took-faulty, ready-to-go, took-stopped, took-on}
use Rattle.step.proofs.Faults.{place-small, faultless}
use mathlib.Core.Path.{sym, ◌∙◌}
use native.Mathlib.Omega.{arith}
use Rattle.step.proofs.visited.Goals as goal

pub overflow_add-steps : goal.overflow_add-steps
overflow_add-steps c = omega (arith, c.requires.steps)

pub fault-n-requires : goal.fault-n-requires
fault-n-requires c = c.requires.visiting

pub refuse-requires : goal.refuse-requires
refuse-requires c =
    let z = place-small _ _ _ c.requires.visiting.looking in record { chunk_bound = omega (arith, z.0, c.requires.same); at_bound = z.1 }

pub returns-then-n-ne0 : goal.returns-then-n-ne0
returns-then-n-ne0 c =
    took-faulty _ _ _ _ _ c.requires.between c.requires.visiting.looking c.requires.same _ _ c.fault-n.ensures c.if-n-ne0.true _ c.refuse.ensures

pub leaving-l-requires : goal.leaving-l-requires
leaving-l-requires c =
    record { visiting = c.requires.visiting; v_value = (faultless _ _ (sym c.fault-n.ensures ∙ c.if-n-ne0.false)).0 }

pub give_in_rounds-changed-requires : goal.give_in_rounds-changed-requires
give_in_rounds-changed-requires c =
    record { visiting = c.requires.visiting; chunk_bound = signed _ _ _ _ c.args.q c.requires.between c.requires.visiting.looking c.requires.same; v_value = (faultless _ _ (sym c.fault-n.ensures ∙ c.if-n-ne0.false)).0 }

pub go_all-requires : goal.go_all-requires
go_all-requires c =
    ready-to-go _ _ _ _ _ c.requires.between c.requires.visiting.looking c.requires.same _ c.requires.visiting.chunk _ c.leaving-l.ensures (sym c.fault-n.ensures ∙ c.if-n-ne0.false) _ c.give_in_rounds-changed.ensures.0 _ c.requires.visiting.tables c.requires.queued

pub refuse-requires-in-Err : goal.refuse-requires-in-Err
refuse-requires-in-Err c =
    let z = place-small _ _ _ c.requires.visiting.looking in record { chunk_bound = omega (arith, z.0, c.requires.same); at_bound = z.1 }

pub returns-in-Err : goal.returns-in-Err
returns-in-Err c =
    took-stopped _ _ _ _ _ c.requires.between c.requires.visiting.looking c.requires.same _ c.requires.visiting.chunk _ c.leaving-l.ensures (sym c.fault-n.ensures ∙ c.if-n-ne0.false) _ c.give_in_rounds-changed.ensures.0 _ c.in-Err.n (rw c.in-Err.is at c.go_all.ensures) _ c.refuse-in-Err.ensures

pub returns-in-Ok : goal.returns-in-Ok
returns-in-Ok c =
    took-on _ _ _ _ _ c.requires.between c.requires.visiting.looking c.requires.same _ c.requires.visiting.chunk _ c.leaving-l.ensures (sym c.fault-n.ensures ∙ c.if-n-ne0.false) _ c.give_in_rounds-changed.ensures.0 _ c.in-Ok.queue _ c.give_in_rounds-changed.ensures.1 (rw c.in-Ok.is at c.go_all.ensures)
