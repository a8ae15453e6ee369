-- `fact_join::give_result` meets its contract. One cell arrives at the result.
use Rattle.fact_join.proofs.give_result.Goals as goal

pub returns : goal.returns
returns c = rw (c.bare.ensures, c.load-c.ensures, c.place_at.ensures, c.result_at.ensures) at c.join_one.ensures
