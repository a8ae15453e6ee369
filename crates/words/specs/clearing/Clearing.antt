-- Words of which the first n are 0.
use Rattle.std.specs.Prelude.{ℕ, List, ◌++◌, drop, replicate}

unfoldable pub cleared : List ℕ → ℕ → List ℕ
cleared ws n = replicate n 0 ++ drop n ws
