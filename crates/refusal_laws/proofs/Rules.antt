-- What a module is refused by: 7 to 18.
use Prim.Native.Nat.{ℕ, ◌≤◌}
use native.Mathlib.Omega.{arith}
use mathlib.Core.Path.{◌≡◌, refl}
use mathlib.Core.Bool.{Bool, true, false, not, cond, ◌&&◌, ◌||◌}
use mathlib.Core.Option.{Option, none, some}
use mathlib.Core.List.{List, [], ◌∷◌}
use lib.Dec.{eqb, leb}
use lib.ListN.{length}
use Rattle.answers.specs.declared.Refusal.{Refusal}
use Rattle.definition.specs.Machine.{Ran, accepted, refused}
use Rattle.definition.specs.Module.{Module, Chunk}
use Rattle.definition.specs.State.{State, Facts, join}
use Rattle.definition.specs.Leaves.{Known, leaves}
use Rattle.definition.specs.Start.{agree, admission, admitted, overfull, after_chunk}
use Rattle.definition.specs.Call.{analysis_of, run_of, turned, on_ran, admitted_run, on_reply, known, on_admitted, decided}
use Rattle.refusal_laws.proofs.Only.{either, OfFault, OfRes, OfPlace, OfRan, OfDecided, there}
use Rattle.refusal_laws.proofs.Visits.{leaves_of, join-of, after-of}
use Rattle.refusal_laws.proofs.Runs.{check-only}
use Rattle.refusal_laws.proofs.Numbers.{Late}

-- ---- the rules
leaves-late : (k : Known) (b : Bool) (c : Chunk) (f : Facts) (i : ℕ) (s : State) → OfRes Late (leaves k b c f i s)
leaves-late = leaves_of Late (omega arith, omega arith) (omega arith, omega arith) (omega arith, omega arith) (omega arith, omega arith) (omega arith, omega arith) (omega arith, omega arith)

join-late : (x y : State) → OfRes Late (join x y)
join-late = join-of Late (omega arith, omega arith) (omega arith, omega arith) (omega arith, omega arith) (omega arith, omega arith) (omega arith, omega arith) (omega arith, omega arith)

after-late : (c : Chunk) (ss : List (Option State)) → OfPlace Late (after_chunk c ss)
after-late = after-of Late (omega arith, omega arith) (omega arith, omega arith) (omega arith, omega arith) (omega arith, omega arith) (omega arith, omega arith) (omega arith, omega arith)

-- ---- admission: 9 and 10
module _ (P : ℕ → Type 0) (p9 : P 9) (p10 : P 10) where
  admission-of : (m : Module) (c : Chunk) → OfFault P (admission m c)
  unfolding admission
  admission-of m c =
      either (OfFault P) (leb m.signatures c.number || (eqb (length c.code) 0 || not (eqb (length c.params) c.arity))) p9
      (either (OfFault P) (agree c.tags c.params) tt p10)

  pub admitted_of : (m : Module) (cs : List Chunk) → OfPlace P (admitted m cs)
  unfolding admitted
  admitted_of m [] = tt
  admitted_of m (c ∷ cs) = go c.reachable (eqb (admission m c) 0) refl (admitted_of m cs)
    where
      go : (a b : Bool) → eqb (admission m c) 0 ≡ b → OfPlace P (admitted m cs)
          → OfPlace P (cond (a && not b) (some (admission m c, c.number)) (admitted m cs))
      go true true e h = h
      go true false e h = there P _ (admission-of m c) e
      go false b e h = h

-- ---- the whole
run-late : (k : Known) (cap limit : ℕ) (f : Facts) → OfRan Late (run_of k cap limit f)
unfolding run_of
run-late k cap limit f =
    check-only (analysis_of k cap) Late (omega arith, omega arith) join-late after-late (leaves-late k) (omega arith, omega arith) limit f

on-ran : (k : Known) (reply : ℕ) (x : Ran Facts State) → OfRan Late x → OfDecided Late (on_ran k reply x)
unfolding on_ran
on-ran k reply (accepted x steps) h = tt
on-ran k reply (refused r) h = h

on-reply : (k : Known) (cap limit : ℕ) (f : Facts) (o : Option ℕ) → OfDecided Late (on_reply k cap limit f o)
unfolding on_reply admitted_run
on-reply k cap limit f none = (omega arith, omega arith)
on-reply k cap limit f (some reply) =
    either (OfDecided Late) (overfull k.code) (omega arith, omega arith) (on-ran k reply (run_of k cap limit f) (run-late k cap limit f))

on-admitted : (m : Module) (cap limit : ℕ) (o : Option (ℕ × ℕ)) → OfPlace Late o → OfDecided Late (on_admitted m cap limit o)
unfolding on_admitted known
on-admitted m cap limit (some x) h = h
on-admitted m cap limit none h = on-reply _ cap limit _ _

pub decided-late : (m : Module) (cap limit : ℕ) → OfDecided Late (decided m cap limit)
unfolding decided
decided-late m cap limit = on-admitted m cap limit _ (admitted_of Late (omega arith, omega arith) (omega arith, omega arith) m m.chunks)

-- THEOREM
pub decided-numbers : (m : Module) (cap limit : ℕ) (r : Refusal) → decided m cap limit ≡ turned r → (7 ≤ r.number) × (r.number ≤ 18)
decided-numbers m cap limit r e = rw e at (decided-late m cap limit)
