-- Answers that may be refusals, by number.
use Rattle.std.specs.Prelude.{ℕ}

pub data Res (A : Type 0) : Type 0 where
  ok : A → Res A
  bad : ℕ → Res A

abbrev pub bind : {A B : Type 0} → Res A → (A → Res B) → Res B
bind (ok a) f = f a
bind (bad n) f = bad n
