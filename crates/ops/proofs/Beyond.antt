-- A number from k on that is none of n numbers from k on is past them.
use mathlib.Core.Path.{◌≡◌}
use Prim.Native.Nat.{ℕ, zero, suc, ◌+◌, ◌≤◌}
use native.Mathlib.Omega.{arith}
use Prim.{Unit}

-- op is none of the n numbers from k on, as a match has it
abbrev pub NoneOf : ℕ → ℕ → ℕ → Type 0
NoneOf op k zero = Unit
NoneOf op k (suc n) = NoneOf op k n × (op ≡ k + n → ⊥)

pub beyond : (op k n : ℕ) → k ≤ op → NoneOf op k n → k + n ≤ op
beyond op k zero h rest = omega arith
beyond op k (suc n) h rest = let l : k + n ≤ op = beyond op k n h rest.0 in omega (arith, rest.1)
