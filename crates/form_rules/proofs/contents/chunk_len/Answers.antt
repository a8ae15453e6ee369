-- `form_rules::contents::chunk_len` meets its contract.
use Rattle.definition.specs.Form.{chunk_len}
use Rattle.form_rules.proofs.contents.chunk_len.Goals as goal

pub returns-then-signed : goal.returns-then-signed
unfolding chunk_len
returns-then-signed c = rw c.if-signed.true (cc)

pub returns : goal.returns
unfolding chunk_len
returns c = rw c.if-signed.false (cc)
