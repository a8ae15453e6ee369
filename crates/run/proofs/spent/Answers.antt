-- `run::spent` meets its contract.
use Prim.Native.Nat.{ℕ}
use mathlib.Core.Path.{ap, ◌∙◌}
use native.Mathlib.Omega.{arith}
use Rattle.answers.specs.Answers.{refusal}
use Rattle.run.proofs.Ways.{spent-ready, spent-is, spent-small}
use Rattle.run.proofs.spent.Goals as goal

pub peek-at-requires : goal.peek-at-requires
peek-at-requires c = spent-ready _ _ _ c.requires.between c.requires.count_nonzero _ c.requires.t_value

pub refuse-requires : goal.refuse-requires
refuse-requires c =
    let q = spent-small _ _ _ c.requires.between c.requires.count_nonzero _ c.requires.t_value in
    record { chunk_bound = q.0; at_bound = omega (arith, q.1, c.peek-at.ensures, spent-is _ _ _ c.requires.between c.requires.count_nonzero _ c.requires.t_value) }

pub returns : goal.returns
returns c =
    let a = c.args in
    c.refuse.ensures ∙ ap (λ (k : ℕ). refusal 7 a.r.chunk k a.r.steps) (c.peek-at.ensures ∙ spent-is _ _ _ c.requires.between c.requires.count_nonzero _ c.requires.t_value)
