-- The numbers that the form of a description, and a module, are refused by.
use Prim.Native.Nat.{ℕ, ◌<◌, ◌≤◌}

abbrev pub Early : ℕ → Type 0
Early n = (0 < n) × (n ≤ 4)

abbrev pub Late : ℕ → Type 0
Late n = (7 ≤ n) × (n ≤ 18)
