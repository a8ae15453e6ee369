use Rattle.step.proofs.Steps.{took-at, took-dropped, ready_at, due-is, popped-is, popped-queued, due-row, visit-ready}
use Rattle.layout.specs.Indexed.{chunk_at}
use native.Mathlib.Omega.{arith}
use mathlib.Core.Path.{sym, ap, ◌∙◌}
use Rattle.step.proofs.take.Goals as goal

pub peek-at-requires : goal.peek-at-requires
peek-at-requires c =
    ready_at _ _ _ _ c.requires.between c.requires.count_nonzero c.requires.t_value

pub popped-q-requires : goal.popped-q-requires
popped-q-requires c =
    record { queue_ready = ready_at _ _ _ _ c.requires.between c.requires.count_nonzero c.requires.t_value; count_nonzero = c.requires.count_nonzero }

pub row_at-requires : goal.row_at-requires
row_at-requires c =
    let x = due-row _ _ _ _ c.requires.between c.requires.count_nonzero c.requires.t_value _ c.chunk_at-ch.ensures _ c.peek-at.ensures in omega (arith, x.at, x.small)

pub row_height-requires : goal.row_height-requires
row_height-requires c =
    let x = due-row _ _ _ _ c.requires.between c.requires.count_nonzero c.requires.t_value _ c.chunk_at-ch.ensures _ c.peek-at.ensures in omega (arith, c.row_at.ensures, x.at, x.room)

pub returns-then-row_height-eq0 : goal.returns-then-row_height-eq0
returns-then-row_height-eq0 c =
    let a = c.args in
    let x = due-row _ _ _ _ c.requires.between c.requires.count_nonzero c.requires.t_value _ c.chunk_at-ch.ensures _ c.peek-at.ensures in
    took-at _ _ _ _ _ _ _ _ _ (popped-is _ _ _ _ c.requires.between c.requires.count_nonzero c.requires.t_value _ c.popped-q.ensures) (due-is _ _ _ _ c.requires.between c.requires.count_nonzero c.requires.t_value _ c.peek-at.ensures)
    (took-dropped _ _ _ _ _ c.requires.between (popped-queued _ _ _ _ c.requires.between c.requires.count_nonzero c.requires.t_value _ c.popped-q.ensures) x.there
    (rw (c.row_at.ensures ∙ x.at) at (sym c.row_height.ensures ∙ c.if-row_height-eq0.true)) _ c.dropped.ensures)

pub visit_at-v-requires : goal.visit_at-v-requires
visit_at-v-requires c =
    let x = due-row _ _ _ _ c.requires.between c.requires.count_nonzero c.requires.t_value _ c.chunk_at-ch.ensures _ c.peek-at.ensures in
    let r = visit-ready _ _ _ _ c.requires.between c.requires.count_nonzero c.requires.t_value _ c.chunk_at-ch.ensures _ c.peek-at.ensures
    (rw (c.row_at.ensures ∙ x.at) at (rw c.row_height.ensures at c.if-row_height-eq0.false)) in
    record { indexed = r.0; c_in_bounds = r.1.0; ch_value = r.1.1.0; at_lt_count = r.1.1.1.0; nonzero = r.1.1.1.1.0; at_bound = r.1.1.1.1.1 }

pub visited-requires : goal.visited-requires
visited-requires c =
    let v = c.visit_at-v.ensures in
    record {
      between = c.requires.between;
      visiting = record { looking = v.0; tables = c.requires.t_value; chunk = c.chunk_at-ch.ensures ∙ ap (chunk_at _ _) (sym v.1) };
      same = v.1;
      queued = rw v.1 (popped-queued _ _ _ _ c.requires.between c.requires.count_nonzero c.requires.t_value _ c.popped-q.ensures);
      steps = c.requires.steps_bound;
    }

pub returns : goal.returns
returns c =
    took-at _ _ _ _ _ _ _ _ _ (popped-is _ _ _ _ c.requires.between c.requires.count_nonzero c.requires.t_value _ c.popped-q.ensures)
    (c.visit_at-v.ensures.2 ∙ due-is _ _ _ _ c.requires.between c.requires.count_nonzero c.requires.t_value _ c.peek-at.ensures) c.visited.ensures
