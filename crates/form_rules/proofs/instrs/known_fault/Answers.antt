-- `form_rules::instrs::known_fault` meets its contract.
use Rattle.form_rules.proofs.instrs.known_fault.Goals as goal

pub returns : goal.returns
returns c = cc
