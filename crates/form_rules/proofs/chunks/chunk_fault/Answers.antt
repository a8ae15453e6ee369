-- `form_rules::chunks::chunk_fault` meets its contract.
use Rattle.definition.specs.Form.{chunk_fault}
use Rattle.form_rules.proofs.chunks.chunk_fault.Goals as goal

pub returns : goal.returns
unfolding chunk_fault
returns c = cc
