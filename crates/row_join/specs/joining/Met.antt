-- The local that the definition sets, as the code has it.
use Rattle.std.specs.Prelude.{◌≡◌}
use Rattle.std.proofs.Math.Option.{Option, none, some}
use Rattle.definition.specs.Outputs.{Setting}
use Rattle.row_join.specs.places.Arrive.{no_local}
use Rattle.row_join.specs.declared.joining.SetLocal.{SetLocal}

-- the local that the definition sets, as the code has it
unfoldable pub SetAs : Option Setting → SetLocal → Type 0
SetAs none s = s.local ≡ no_local
SetAs (some x) s = (s.local ≡ x.local) × (s.cell ≡ x.cell) × (x.local ≡ no_local → ⊥)
