-- `call::delivering::deliver_indexed` meets its contract.
use Prim.Native.Nat.{ℕ, ◌*◌}
use native.Mathlib.Omega.{arith}
use mathlib.Core.Path.{◌≡◌, sym, ap, ◌∙◌}
use lib.ListN.{length}
use Rattle.report_size.specs.Reporting.{report_in}
use Rattle.call.proofs.delivering.Laws.{long-with, index-over, read_again, may-index, written-with}
use Rattle.call.proofs.delivering.deliver_indexed.Goals as goal

pub returns-then-buf-report : goal.returns-then-buf-report
returns-then-buf-report c =
    let a = c.args in
    rw c.nowhere.ensures (long-with _ _ _ _ _ (c.measure-report.ensures.0 a.reply) c.if-buf-report.true)

pub returns-then-idx-index : goal.returns-then-idx-index
returns-then-idx-index c =
    let a = c.args in
    let e = c.measure-report.ensures in
    let k : 12 * c.count_records-index.result ≡ 12 * length (report_in a.s.now a.ws.now a.reply).records = ap (λ (n : ℕ). 12 * n) (c.count_records-index.ensures.0 a.reply) in
    rw c.nowhere-then-idx-index.ensures (index-over _ _ _ _ _ (e.0 a.reply) (omega (arith, c.if-buf-report.false)) _ k c.if-idx-index.true)

pub write-requires : goal.write-requires
write-requires c =
    let a = c.args in
    record { ended = c.requires.ended; faultless = c.requires.faultless; t_value = c.requires.t_value; reply_in_bounds = omega (arith, c.measure-report.ensures.0 a.reply, c.if-buf-report.false) }

pub slice_bounds-write_index-end-2 : goal.slice_bounds-write_index-end-2
slice_bounds-write_index-end-2 c =
    let a = c.args in
    let e = c.measure-report.ensures in
    let k : 12 * c.count_records-index.result ≡ 12 * length (report_in a.s.now a.ws.now a.reply).records = ap (λ (n : ℕ). 12 * n) (c.count_records-index.ensures.0 a.reply) in
    e.0 a.reply ∙ sym (ap length (read_again _ a.steps _ _ a.idx.now (e.0 a.reply) (omega (arith, c.if-buf-report.false)) _ k _ c.write.ensures))

pub write_index-requires : goal.write_index-requires
write_index-requires c =
    let a = c.args in
    let e = c.measure-report.ensures in
    let k : 12 * c.count_records-index.result ≡ 12 * length (report_in a.s.now a.ws.now a.reply).records = ap (λ (n : ℕ). 12 * n) (c.count_records-index.ensures.0 a.reply) in
    let r = may-index _ a.steps _ _ a.idx.now (e.0 a.reply) (omega (arith, c.if-buf-report.false)) _ k _ c.write.ensures e.1 (omega (arith, c.if-idx-index.false)) in
    record { report_len_bound = r.0; report_in_bounds = r.1 }

pub returns : goal.returns
returns c =
    let a = c.args in
    let e = c.measure-report.ensures in
    let k : 12 * c.count_records-index.result ≡ 12 * length (report_in a.s.now a.ws.now a.reply).records = ap (λ (n : ℕ). 12 * n) (c.count_records-index.ensures.0 a.reply) in
    written-with _ _ _ _ _ (e.0 a.reply) (omega (arith, c.if-buf-report.false)) _ k _ c.write.ensures e.1 (omega (arith, c.if-idx-index.false)) _ _ c.write_index.ensures
