-- `call::check` meets its contract.
use native.Mathlib.Omega.{arith}
use Rattle.std.proofs.Common.{◌≡◌, Err, rules}
use Rattle.call.proofs.Laws.{good-room, checked_refused, checked-ran}
use Rattle.call.proofs.check.Goals as goal

pub fill-t-requires : goal.fill-t-requires
fill-t-requires c =
    let g = good-room _ c.args.workspace.now _ _ c.check_room.ensures c.in_ok-words.was in record { good = g.0; queue_in_bounds = omega (arith, g.1) }

pub analyze-answer-requires : goal.analyze-answer-requires
analyze-answer-requires c =
    let g = good-room _ c.args.workspace.now _ _ c.check_room.ensures c.in_ok-words.was in
    let f = c.fill-t.ensures in
    record { indexed = f.1; fresh = f.2; s_in_bounds = omega (arith, g.2, f.3); t_value = f.0 }

pub returns-in_err-words : goal.returns-in_err-words
returns-in_err-words c =
    let e : c.from_residual.result ≡ Err c.in_err-words.field-0.0 = search rules in
    rw e (checked_refused _ _ _ _ _ _ c.check_room.ensures c.in_err-words.was)

pub returns : goal.returns
returns c =
    checked-ran _ _ _ _ _ _ c.fill-t.new.ws _ _ _ c.check_room.ensures c.in_ok-words.was c.fill-t.ensures.3 c.analyze-answer.ensures _ (omega (arith, c.analyze-answer.auto, c.fill-t.auto)) c.clear.ensures
