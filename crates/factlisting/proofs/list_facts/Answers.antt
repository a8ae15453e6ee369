-- `factlisting::list_facts` meets its contract.
use Rattle.factlisting.proofs.Listed.{listed-long, listed-call, laid-whole}
use Rattle.factlisting.proofs.list_facts.Goals as goal

pub returns-then-description-gt16384 : goal.returns-then-description-gt16384
returns-then-description-gt16384 c =
    laid-whole _ c.requires (listed-long _ _ c.if-description-gt16384.true c.nowhere.ensures) c.list.ensures

pub returns : goal.returns
returns c =
    laid-whole _ c.requires
    (listed-call _ _ _ _ _ c.if-description-gt16384.false c.word_room-words.ensures.0 c.report_room-report.ensures.0 c.check-answer.ensures.answer c.check-answer.ensures.report)
    c.list-2.ensures
