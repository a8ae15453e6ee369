-- `facts_c::facts_lookup_indexed` meets its contract.
use mathlib.Core.Path.{◌≡◌}
use Rattle.std.specs.Prelude.{Ok, Err}
use Rattle.facts_c.proofs.Cases.{sought-refused, sought-found}
use Rattle.facts_c.proofs.facts_lookup_indexed.Goals as goal

pub returns-in-Err : goal.returns-in-Err
returns-in-Err c =
    let e : c.lookup_indexed.result ≡ Err c.in-Err.r = cc in
    sought-refused _ _ _ _ _ c.lookup_indexed.ensures _ e

pub returns-in-Ok : goal.returns-in-Ok
returns-in-Ok c =
    let e : c.lookup_indexed.result ≡ Ok c.in-Ok.found = cc in
    sought-found _ _ _ _ _ c.lookup_indexed.ensures _ _ _ e c.is_there.ensures c.in_two_words.ensures
