-- `report_size::counting::count_records` meets its contract. Invariant: n is the number of the records of the chunks before c.
use Prim.Native.Nat.{ℕ}
use native.Mathlib.Omega.{arith}
use mathlib.Core.Path.{◌≡◌, sym, ap, ◌∙◌}
use lib.ListN.{length}
use Rattle.definition.specs.Module.{module_of}
use Rattle.layout.proofs.Read.{chunks-are}
use Rattle.report_size.specs.Span.{span}
use Rattle.report_size.proofs.Span.{span_none, long-more}
use Rattle.report_size.specs.counting.Marks.{marks_in}
use Rattle.report_size.proofs.counting.Laws.{records-counted}
use Rattle.report_size.proofs.counting.count_records.Goals as goal

pub loop-c-init : goal.loop-c-init
loop-c-init c =
    (sym (ap length (span_none (marks_in c.args.s.now c.args.ws.now) 0)), omega arith)

pub chunk_records-n-requires : goal.chunk_records-n-requires
chunk_records-n-requires c =
    let a = c.args in
    record { indexed = c.requires.indexed; c_in_bounds = omega (arith, c.loop-c-test.true, chunks-are a.s.now a.t c.requires.t_value) }

pub overflow_add-n : goal.overflow_add-n
overflow_add-n c =
    let a = c.args in
    omega (arith, c.chunk_records-n.ensures.1, c.loop-c.invariant.1, c.loop-c-test.true, chunks-are a.s.now a.t c.requires.t_value, c.requires.indexed.good.chunks_most)

pub loop-c-preserved : goal.loop-c-preserved
loop-c-preserved c =
    let a = c.args in
    let i = c.loop-c.invariant in
    let g = long-more (marks_in a.s.now a.ws.now) 0 c.loop-c.c (omega arith) in
    (omega (arith, i.0, g, c.chunk_records-n.ensures.0), omega (arith, i.1, c.chunk_records-n.ensures.1))

pub returns : goal.returns
returns c =
    let a = c.args in
    let i = c.loop-c.invariant in
    let e : c.loop-c.c ≡ length (module_of a.s.now).chunks = omega (arith, c.loop-c.auto.c-end, c.loop-c-test.false, chunks-are a.s.now a.t c.requires.t_value) in (
      λ reply. i.0 ∙ ap (λ (k : ℕ). length (span (marks_in a.s.now a.ws.now) 0 k)) e ∙ sym (records-counted a.s.now a.ws.now reply),
      omega (arith, e, i.1, c.requires.indexed.good.chunks_most),
    )
