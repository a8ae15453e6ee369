-- Whether a check leaves a guard.
use Rattle.std.specs.Prelude.{Bool, true, false}
use Rattle.definition.specs.declared.Check.{Check}
use Rattle.definition.specs.declared.Check.TheVariants.{Fine, Guard, Unproven}

unfoldable pub is_guard : Check → Bool
is_guard (Guard m) = true
is_guard Fine = false
is_guard Unproven = false
