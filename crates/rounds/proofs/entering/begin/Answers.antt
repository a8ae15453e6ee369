-- `begin` meets its contract: what its four writers leave is the machine that enters the chunk.
use mathlib.Core.Path.{◌∙◌}
use Rattle.rounds.proofs.entering.Began.{rows-there, first-locals-there, first-row-there, queue-there, began}
use Rattle.rounds.proofs.entering.begin.Goals as goal

pub clear_rows-requires : goal.clear_rows-requires
clear_rows-requires c =
    rows-there c.args.s.now c.args.ws.now c.args.c c.requires.prepared c.requires.c_in_bounds c.requires.c_value c.chunk_at-ch.result c.chunk_at-ch.ensures

pub first_locals-requires : goal.first_locals-requires
first_locals-requires c =
    first-locals-there c.args.s.now c.args.ws.now c.args.c c.requires.prepared c.requires.c_in_bounds c.requires.c_value c.chunk_at-ch.result c.chunk_at-ch.ensures
    c.clear_rows.new.ws c.clear_rows.ensures.long

pub set_row-requires : goal.set_row-requires
set_row-requires c =
    first-row-there c.args.s.now c.args.ws.now c.args.c c.requires.prepared c.requires.c_in_bounds c.requires.c_value c.chunk_at-ch.result c.chunk_at-ch.ensures
    c.first_locals.new.ws (c.first_locals.ensures.out.length ∙ c.clear_rows.ensures.long)

pub push-queue-requires : goal.push-queue-requires
push-queue-requires c =
    let r = queue-there c.args.s.now c.args.ws.now c.args.c c.requires.prepared c.requires.c_in_bounds c.requires.c_value c.chunk_at-ch.result c.chunk_at-ch.ensures
    c.args.t c.requires.t_value c.clear_rows.new.ws c.first_locals.new.ws c.set_row.new.ws c.clear_rows.ensures c.first_locals.ensures c.set_row.ensures in
    record { queue_ready = r.0; count_in_bounds = r.1 }

pub returns : goal.returns
returns c =
    began c.args.s.now c.args.ws.now c.args.c c.requires.prepared c.requires.c_in_bounds c.requires.c_value c.chunk_at-ch.result c.chunk_at-ch.ensures
    c.args.t c.requires.t_value c.clear_rows.new.ws c.first_locals.new.ws c.set_row.new.ws c.clear_rows.ensures c.first_locals.ensures c.set_row.ensures
    c.push-queue.new.ws c.push-queue.result c.push-queue.ensures.0 c.push-queue.ensures.1 c.requires.low_before c.args.validating c.args.changed c.args.steps
