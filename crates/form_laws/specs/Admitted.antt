-- What 9 asks of a reachable chunk: an instruction, a signature and its parameters.
use Rattle.std.specs.Prelude.{ℕ, ◌<◌, ◌≡◌, length}
use Rattle.definition.specs.Module.{Module, Chunk}

pub record Admitted (m : Module) (c : Chunk) : Type 0 where
  pub code : 0 < length c.code
  pub signed : c.number < m.signatures
  pub params : length c.params ≡ c.arity
