-- `definition::output` meets its contract, by the cases of the number.
use Prim.Native.Nat.{ℕ, zero, suc}
use mathlib.Core.Path.{◌≡◌, refl, sym, ap}
use Rattle.definition.specs.declared.Made.{Made}
use Rattle.definition.specs.Outputs.{output}
use Rattle.definition.proofs.output.Goals as goal

rest : (m : Made) (k : ℕ) → (k ≡ 0 → ⊥) → (k ≡ 1 → ⊥) → m.rest ≡ output m k
unfolding output
rest m zero p q = absurd (p refl)
rest m (suc zero) p q = absurd (q refl)
rest m (suc (suc k)) p q = refl

pub returns-then-k-eq0 : goal.returns-then-k-eq0
unfolding output
returns-then-k-eq0 c = sym (ap (output c.args.m) c.if-k-eq0.true)

pub returns-then-k-eq1 : goal.returns-then-k-eq1
unfolding output
returns-then-k-eq1 c = sym (ap (output c.args.m) c.if-k-eq1.true)

pub returns : goal.returns
returns c = rest _ _ c.if-k-eq0.false c.if-k-eq1.false
