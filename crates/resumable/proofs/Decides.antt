-- Answers: of a loop that stops where it finds a fault, of two tests together.
use Prim.Native.Nat.{ℕ, ◌<◌, ◌≤◌}
use mathlib.Core.Path.{◌≡◌, refl, sym, ap₂, ◌∙◌}
use mathlib.Core.Bool.{Bool, true, false, true≢false, ◌&&◌}
use lib.Dec.{ltb, leb, eqb}
use borrow.Author.Tests.{ltb-true, leb-true, eqb-true, lt-ltb, le-leb, eq-eqb}
use Rattle.masks.proofs.Both.{both as and_both}
use Rattle.resumable.specs.Decides.{Decides}

pub yes : {P : Type 0} → P → Decides true P
yes p = record { sound = λ e. p; complete = λ q. refl }

pub no : {P : Type 0} → (P → ⊥) → Decides false P
no n = record { sound = λ e. absurd (true≢false (sym e)); complete = λ p. absurd (n p) }

-- the answer no, to a question that another test has answered
pub refuted : {b : Bool} {P : Type 0} → Decides b P → b ≡ false → P → ⊥
refuted d e p = true≢false (sym (d.complete p) ∙ e)

-- the same question in other words
pub reworded : {b : Bool} {P Q : Type 0} → (P → Q) → (Q → P) → Decides b P → Decides b Q
reworded f g d = record { sound = λ e. f (d.sound e); complete = λ q. d.complete (g q) }

pub both : {a b : Bool} {P Q : Type 0} → Decides a P → Decides b Q → Decides (a && b) (P × Q)
both {a} {b} d f =
    record {
      sound = λ e. let p = and_both a b e in (d.sound p.0, f.sound p.1);
      complete = λ p. ap₂ ◌&&◌ (d.complete p.0) (f.complete p.1);
    }

-- ---- a flag, tests of numbers
pub flag-decided : (b : Bool) → Decides b (b ≡ true)
flag-decided b = record { sound = λ e. e; complete = λ e. e }

pub lt-decided : (m n : ℕ) → Decides (ltb m n) (m < n)
lt-decided m n = record { sound = ltb-true m n; complete = lt-ltb m n }

pub le_decided : (m n : ℕ) → Decides (leb m n) (m ≤ n)
le_decided m n = record { sound = leb-true m n; complete = le-leb m n }

pub eq_decided : (m n : ℕ) → Decides (eqb m n) (m ≡ n)
eq_decided m n = record { sound = eqb-true m n; complete = eq-eqb m n }
