-- `le::put` meets its contract: so far the first k bytes are written.
use Rattle.std.proofs.Common.{◌≡◌, refl, sym, ◌∙◌}
use lib.ListN.{length}
use lib.Seq.{paste}
use native.Mathlib.Omega.{arith}
use Rattle.std.proofs.lemmas.List.Edits.{paste_more, paste_all}
use Rattle.le.proofs.Laws.{put-parts}
use Rattle.le.proofs.put.Goals as goal

pub loop-k-preserved : goal.loop-k-preserved
loop-k-preserved g c =
    let long : length c.args.bytes.now ≡ g.row.N = c.told-bytes in
    rw c.loop-k.invariant (paste_more c.args.buf.now c.args.at c.args.bytes.now c.loop-k.k 0 (omega arith) (omega arith))

pub returns : goal.returns
returns g c =
    let long : length c.args.bytes.now ≡ g.row.N = c.told-bytes in
    let all : c.loop-k.k ≡ g.row.N = omega arith in
    let pasted : c.loop-k.buf ≡ paste c.args.buf.now c.args.at c.args.bytes.now g.row.N = rw (← all) c.loop-k.invariant in
    let parts = paste_all c.args.buf.now c.args.at c.args.bytes.now g.row.N (sym long) in
    let whole = put-parts c.args.buf.now c.args.at c.args.bytes.now (omega arith) in
    record { bytes = pasted ∙ parts ∙ sym (rw long at whole); size = long; next = refl }
