-- `report_size::measure` meets its contract. Invariant: n is the length of the reply, the slots and what the chunks before c add.
use Prim.Native.Nat.{ℕ, ◌<◌}
use native.Mathlib.Omega.{arith}
use mathlib.Core.Path.{◌≡◌, ap}
use lib.ListN.{length}
use Rattle.definition.specs.Module.{module_of}
use Rattle.layout.proofs.Read.{chunks-are, slots-are, signatures-are}
use Rattle.report_size.proofs.Few.{few-first, few-with, next-first}
use Rattle.report_size.specs.Span.{span, cut}
use Rattle.report_size.proofs.Span.{span_none, long-more}
use Rattle.report_size.specs.Adds.{signature_at}
use Rattle.report_size.specs.Measured.{all_in}
use Rattle.report_size.proofs.Measured.{report-long}
use Rattle.report_size.proofs.measure.Goals as goal

pub overflow_mul-n : goal.overflow_mul-n
overflow_mul-n c = let a = c.args in omega (arith, slots-are a.s.now a.t c.requires.t_value, c.requires.ended.prepared.indexed.good.slots)

pub overflow_add-n : goal.overflow_add-n
overflow_add-n c = let a = c.args in omega (arith, slots-are a.s.now a.t c.requires.t_value, c.requires.ended.prepared.indexed.good.slots)

pub loop-c-init : goal.loop-c-init
loop-c-init c =
    let a = c.args in (
      omega (
        arith,
        ap length (span_none (cut (signature_at a.s.now a.ws.now) a.t.signatures) 0),
        ap length (span_none (all_in a.s.now a.ws.now) 0),
      ),
      omega (arith, slots-are a.s.now a.t c.requires.t_value, c.requires.ended.prepared.indexed.good.slots),
    )

pub signature_bytes-requires : goal.signature_bytes-requires
signature_bytes-requires c =
    let a = c.args in
    record { indexed = c.requires.ended.prepared.indexed; t_value = c.requires.t_value; c_in_bounds = omega (arith, c.loop-c-test.true, chunks-are a.s.now a.t c.requires.t_value) }

pub chunk_bytes-requires : goal.chunk_bytes-requires
chunk_bytes-requires c =
    let a = c.args in record { finished = record { ended = c.requires.ended; faultless = c.requires.faultless; tables = c.requires.t_value }; c_in_bounds = omega (arith, c.loop-c-test.true, chunks-are a.s.now a.t c.requires.t_value) }

pub overflow_add-n-in-loop-c : goal.overflow_add-n-in-loop-c
overflow_add-n-in-loop-c c =
    let a = c.args in
    let here : c.loop-c.c < length (module_of a.s.now).chunks = omega (arith, c.loop-c-test.true, chunks-are a.s.now a.t c.requires.t_value) in
    omega (arith, c.chunk_bytes.ensures.1, c.signature_bytes.ensures.1, few-with a.s.now c.requires.ended.prepared.indexed.good c.loop-c.c here)

pub overflow_add-n-in-loop-c-2 : goal.overflow_add-n-in-loop-c-2
overflow_add-n-in-loop-c-2 c =
    let a = c.args in
    let i = c.loop-c.invariant in
    let here : c.loop-c.c < length (module_of a.s.now).chunks = omega (arith, c.loop-c-test.true, chunks-are a.s.now a.t c.requires.t_value) in
    omega (arith, c.chunk_bytes.ensures.1, c.signature_bytes.ensures.1, i.1, c.requires.ended.prepared.indexed.good.chunks_most, few-with a.s.now c.requires.ended.prepared.indexed.good c.loop-c.c here)

pub loop-c-preserved : goal.loop-c-preserved
loop-c-preserved c =
    let a = c.args in
    let i = c.loop-c.invariant in
    let k = c.loop-c.c in
    let here : c.loop-c.c < length (module_of a.s.now).chunks = omega (arith, c.loop-c-test.true, chunks-are a.s.now a.t c.requires.t_value) in (
      omega (
        arith,
        i.0,
        c.chunk_bytes.ensures.0,
        c.signature_bytes.ensures.0,
        long-more (cut (signature_at a.s.now a.ws.now) a.t.signatures) 0 k (omega arith),
        long-more (all_in a.s.now a.ws.now) 0 k (omega arith),
      ),
      omega (arith, i.1, c.chunk_bytes.ensures.1, c.signature_bytes.ensures.1, next-first a.s.now c.requires.ended.prepared.indexed.good k here),
    )

pub returns : goal.returns
returns c =
    let a = c.args in
    let i = c.loop-c.invariant in
    let e : c.loop-c.c ≡ length (module_of a.s.now).chunks = omega (arith, c.loop-c.auto.c-end, c.loop-c-test.false, chunks-are a.s.now a.t c.requires.t_value) in
    let g = report-long a.s.now a.ws.now c.requires.ended.prepared.indexed in (
      λ reply.
          omega (
            arith,
            i.0,
            g reply,
            slots-are a.s.now a.t c.requires.t_value,
            ap (λ (k : ℕ). length (span (cut (signature_at a.s.now a.ws.now) a.t.signatures) 0 k)) e,
            ap (λ (k : ℕ). length (span (cut (signature_at a.s.now a.ws.now) k) 0 (length (module_of a.s.now).chunks))) (signatures-are a.s.now a.t c.requires.t_value),
            ap (λ (k : ℕ). length (span (all_in a.s.now a.ws.now) 0 k)) e,
          ),
      omega (arith, e, i.1, c.requires.ended.prepared.indexed.good.chunks_most, few-first a.s.now c.requires.ended.prepared.indexed.good c.loop-c.c),
    )
