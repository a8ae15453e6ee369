-- `definition::params_in` meets its contract.
use Rattle.definition.specs.Module.{signed_params}
use Rattle.definition.proofs.params_in.Goals as goal

pub returns-then-not-signed : goal.returns-then-not-signed
unfolding signed_params
returns-then-not-signed c = rw (c.if-not-signed.true)

pub returns : goal.returns
unfolding signed_params
returns c = rw (c.if-not-signed.false) c.params_of.ensures
