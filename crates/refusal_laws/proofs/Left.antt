-- What a call leaves in the workspace, by the number of its refusal.
use Prim.Native.Nat.{ℕ, ◌<◌, ◌≤◌}
use native.Mathlib.Omega.{arith}
use mathlib.Core.Path.{◌≡◌, refl}
use mathlib.Core.List.{List}
use lib.Dec.{ltb}
use lib.ListN.{length, replicate}
use borrow.Author.Tests.{lt-ltb, le-ltb}
use Rattle.definition.specs.Module.{Module}
use Rattle.definition.specs.Report.{report_bytes}
use Rattle.definition.specs.Call.{Decided, reported, turned, decided, Outcome, left_words, turned_back, delivered, outcome_of}
use Rattle.refusal_laws.proofs.Only.{either, OfDecided}
use Rattle.refusal_laws.proofs.Numbers.{Late}
use Rattle.refusal_laws.proofs.Rules.{decided-late}

pub left-as-was : (n : ℕ) (ws : List ℕ) → n < 6 → left_words n ws ≡ ws
unfolding left_words
left-as-was n ws l = rw (lt-ltb n 6 l)

pub left-zero : (n : ℕ) (ws : List ℕ) → 6 ≤ n → left_words n ws ≡ replicate (length ws) 0
unfolding left_words
left-zero n ws l = rw (le-ltb n 6 l)

-- a report leaves zeros, delivered or too long
pub delivered-zero : (bytes : List ℕ) (steps : ℕ) (ws buf : List ℕ) → (delivered bytes steps ws buf).workspace ≡ replicate (length ws) 0
unfolding delivered turned_back
delivered-zero bytes steps ws buf =
    either (λ (o : Outcome). o.workspace ≡ replicate (length ws) 0) (ltb (length buf) (length bytes)) (left-zero 6 ws (omega arith)) refl

pub decided-zero : (m : Module) (cap limit : ℕ) (ws buf : List ℕ) → (outcome_of (decided m cap limit) ws buf).workspace ≡ replicate (length ws) 0
unfolding outcome_of turned_back
decided-zero m cap limit ws buf = go (decided m cap limit) (decided-late m cap limit)
  where
    go : (d : Decided) → OfDecided Late d → (outcome_of d ws buf).workspace ≡ replicate (length ws) 0
    go (reported r steps) h = delivered-zero (report_bytes r) steps ws buf
    go (turned r) h = left-zero r.number ws (omega arith)
