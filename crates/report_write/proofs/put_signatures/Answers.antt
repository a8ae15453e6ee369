-- `report_write::put_signatures` meets its contract. Invariant: the signatures of the chunks before c are written.
use native.Mathlib.Omega.{arith}
use mathlib.Core.Path.{◌≡◌, ap}
use Rattle.report_size.specs.Span.{span}
use Rattle.report_size.specs.Adds.{signature_at}
use Rattle.report_write.proofs.records.Writes.{said-exact, span-start, span_fits, span-turn}
use Rattle.layout.proofs.Read.{signatures-are}
use Rattle.report_write.proofs.put_signatures.Goals as goal

pub loop-c-init : goal.loop-c-init
loop-c-init c =
    let a = c.args in
    span-start (signature_at a.s.now a.ws.now) 0 _ a.at

pub put_signature-to-requires : goal.put_signature-to-requires
put_signature-to-requires c =
    let a = c.args in
    let i = c.loop-c.invariant in record { indexed = c.requires.indexed; c_in_bounds = omega (arith, c.loop-c-test.true, signatures-are a.s.now a.t c.requires.t_value, c.requires.indexed.good.signatures); c_in_bounds_2 = span_fits (signature_at a.s.now a.ws.now) 0 _ a.at c.loop-c.c (omega arith) _ _ i a.t.signatures c.loop-c-test.true c.requires.signatures_in_bounds }

pub loop-c-preserved : goal.loop-c-preserved
loop-c-preserved c =
    let a = c.args in
    let i = c.loop-c.invariant in
    span-turn (signature_at a.s.now a.ws.now) 0 _ a.at c.loop-c.c (omega arith) _ _ i _ _ c.put_signature-to.ensures

pub returns : goal.returns
returns c =
    let a = c.args in
    let i = c.loop-c.invariant in
    let e : c.loop-c.c ≡ a.t.signatures = omega (arith, c.loop-c.auto.c-end, c.loop-c-test.false) in
    said-exact i (ap (span (signature_at a.s.now a.ws.now) 0) e)
