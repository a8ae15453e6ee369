-- Answers of calls that accept, compared: equal ones have equal lengths and steps.
use Prim.Native.Nat.{ℕ}
use mathlib.Core.Path.{◌≡◌, ap}
use Rattle.answers.specs.declared.Accepted.{Accepted}
use Rattle.answers.specs.declared.AcceptedIndexed.{AcceptedIndexed}
use Rattle.answers.specs.Answers.{accepts, accepts_with}

pub accepts-same : {long steps long' steps' : ℕ} → accepts long steps ≡ accepts long' steps' → (long ≡ long') × (steps ≡ steps')
accepts-same {long} {steps} {long'} {steps'} e =
    let a : Accepted = record { length = long; steps = steps } in
    let b : Accepted = record { length = long'; steps = steps' } in
    let z : a ≡ b = cc in (ap (λ (x : Accepted). x.length) z, ap (λ (x : Accepted). x.steps) z)

pub accepts_with-same : {long steps n long' steps' n' : ℕ} → accepts_with long steps n ≡ accepts_with long' steps' n'
    → (long ≡ long') × (steps ≡ steps') × (n ≡ n')
accepts_with-same {long} {steps} {n} {long'} {steps'} {n'} e =
    let a : AcceptedIndexed = record { length = long; steps = steps; index = n } in
    let b : AcceptedIndexed = record { length = long'; steps = steps'; index = n' } in
    let z : a ≡ b = cc in (ap (λ (x : AcceptedIndexed). x.length) z, ap (λ (x : AcceptedIndexed). x.steps) z, ap (λ (x : AcceptedIndexed). x.index) z)
