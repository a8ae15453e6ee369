-- `pausing::reaching::pause` meets its contract.
use native.Mathlib.Omega.{arith}
use Rattle.pausing.proofs.reaching.Functions.{run_fits, last-total, run-stored}
use Rattle.pausing.proofs.reaching.pause.Goals as goal

pub returns-then-r-eq-MOST_STEPS : goal.returns-then-r-eq-MOST_STEPS
returns-then-r-eq-MOST_STEPS c =
    last-total _ _ _ _ c.if-r-eq-MOST_STEPS.true c.spent.ensures

pub put_run-requires : goal.put_run-requires
put_run-requires c =
    let r = run_fits _ _ _ c.requires.between in
    record { head_words_in_bounds = r.0; chunk_lt_word_range = r.1 }

pub put_mark-requires : goal.put_mark-requires
put_mark-requires c =
    omega (arith, (run_fits _ _ _ c.requires.between).0, c.put_run.auto)

pub returns : goal.returns
returns c =
    run-stored _ _ _ _ _ c.if-r-eq-MOST_STEPS.false c.put_run.ensures c.put_mark.ensures
