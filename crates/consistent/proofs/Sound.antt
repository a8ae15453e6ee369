-- The rules of the definition keep what the worklist's theorem asks: an accepted run is a fixed point.
use Prim.Native.Nat.{ℕ}
use mathlib.Core.Path.{◌≡◌}
use mathlib.Core.Bool.{true, false}
use mathlib.Core.List.{List, []}
use mathlib.Core.Option.{Option}
use Rattle.definition.specs.Machine.{Final, accepted}
use Rattle.definition.specs.Module.{Module, Chunk}
use Rattle.definition.specs.State.{State, Facts, Live, Gift, join}
use Rattle.definition.specs.Leaves.{Known, leaves, absorb, opened}
use Rattle.definition.specs.Start.{start, after_chunk}
use Rattle.definition.specs.Call.{analysis_of, run_of}
use Rattle.machine_laws.proofs.Settle.{Frame}
use Rattle.machine_laws.proofs.Sweep.{Each}
use Rattle.machine_laws.proofs.Sound.{Fixed, Rules, check_sound}
use Rattle.consistent.proofs.States.{join-laws}
use Rattle.consistent.proofs.Absorb.{Has, Good, Fits, absorb-still, absorb-has, absorb-keeps, absorb-good, opened-good, calm, reopened, fitting, Declared, absorb-declared, closed-declared}
use Rattle.consistent.proofs.Visits.{agree, first-only}
use Rattle.consistent.proofs.Trails.{Trails, check-trails}
use Rattle.consistent.proofs.Carries.{check-carries}

-- passes are looked at by their states, below
abbrev pub Pass : Chunk → ℕ → ℕ → Type 0
Pass c i t = Unit {0}

abbrev known : Live → Facts
known f = f.known

abbrev frame : (m : Module) → Frame {F = Live} {R = Facts} {G = Gift} known (absorb m)
frame m =
    record {
      Quiet = λ f. f.changed ≡ false;
      still = absorb-still m;
      Has = Has m;
      has = absorb-has m;
      keeps = absorb-keeps m;
      Good = Good;
      good = absorb-good m;
    }

rules : (k : Known) (cap : ℕ) → Rules (analysis_of k cap) (frame k.code) (Fits k.code) Pass
rules k cap =
    record {
      agree = agree k;
      passes = λ v c r i s e h t x m. tt;
      calm = calm;
      reopened = reopened;
      fitting = fitting k.code;
      good_start = opened-good;
      first-only = first-only;
    }

-- a reachable chunk's states are fixed under the facts; an unreachable one has none
abbrev pub Fixes : Known → Facts → Chunk → List (Option State) → Type 0
Fixes k f = Fixed join start after_chunk (leaves k true) (Fits k.code) Pass f

pub run_sound : (k : Known) (cap limit : ℕ) (f : Facts) (x : Final Facts State) (n : ℕ) → run_of k cap limit f ≡ accepted x n
    → Each (λ c st. (c.reachable ≡ true → Fixes k x.facts c st) × (c.reachable ≡ false → st ≡ [])) k.code.chunks x.states
unfolding run_of
run_sound k cap limit f x n h =
    check_sound (analysis_of k cap) join-laws (frame k.code) (Fits k.code) Pass (rules k cap) limit f x n h

-- what is recorded of a reachable chunk is reached along ways, from states that the recorded ones have taken in
pub run-trails : (k : Known) (cap limit : ℕ) (f : Facts) (x : Final Facts State) (n : ℕ) → run_of k cap limit f ≡ accepted x n
    → Each (λ c st. c.reachable ≡ true → Trails join (leaves k true c x.facts) st) k.code.chunks x.states
unfolding run_of
run-trails k cap limit f x n h = check-trails (analysis_of k cap) join-laws first-only limit f x n h

-- the tables keep their sizes and what they took in, through every round
pub run-declared : (k : Known) (cap limit : ℕ) (f : Facts) (x : Final Facts State) (n : ℕ) → run_of k cap limit f ≡ accepted x n → Declared k.code f → Declared k.code x.facts
unfolding run_of opened
run-declared k cap limit f x n h s =
    let (g, p, e) =
    check-carries (analysis_of k cap) (λ g. Declared k.code g.known) (absorb-declared k.code) (closed-declared k.code) limit f x n s h in
    rw e at p
