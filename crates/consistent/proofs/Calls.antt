-- A description of good form: no call takes more than its callee has parameters, and what is read is a local of the chunk.
use Prim.Native.Nat.{ℕ, ◌<◌, ◌≤◌}
use native.Mathlib.Omega.{arith}
use mathlib.Core.Path.{◌≡◌, refl, ap, ◌∙◌}
use mathlib.Core.Bool.{Bool, true, false}
use mathlib.Core.List.{List, [], Memᴰ}
use lib.Dec.{ltb}
use lib.ListN.{length, get_or, take, length-map, length-take, get_or-eq_default}
use lib.Seq.{get_or-take}
use borrow.Author.Tests.{ltb-true, ltb-false}
use Rattle.std.proofs.Common.{Ok}
use Rattle.definition.specs.Module.{Module, Chunk, Line, module_of}
use Rattle.definition.specs.Leaves.{line_at, no_line}
use Rattle.definition.specs.Start.{declared_params, first_facts}
use Rattle.definition.specs.Form.{local, callee, form_of}
use Rattle.form_laws.specs.Good.{no_chunk, chunk_no, LineGood, ChunkGood}
use Rattle.form_laws.proofs.Each.{mem-at, map_at}
use Rattle.form_laws.proofs.Theorem.{good-form}
use Rattle.ops.specs.declared.Makes.TheVariants.{Local}
use Rattle.ops.specs.Ops.{rule_of}
use Rattle.rule_laws.proofs.Told.{call-callee, get_local, makes-local}
use Rattle.consistent.specs.Calls.{CallsFit, LocalsFit}
use Rattle.ops.specs.Numbers.{op_call}

-- the declared inputs of a callee are its parameters
inputs-of : (m : Module) (a : ℕ) → m.signatures ≤ length m.chunks → a < m.signatures
    → length (get_or (first_facts m).inputs a []) ≡ length (chunk_no m a).params
unfolding first_facts declared_params chunk_no
inputs-of m a l h =
    let signed = take m.signatures m.chunks in
    let k : a < length signed = omega (arith, length-take m.signatures m.chunks) in
    ap length (map_at (declared_params m) signed a no_chunk [] k) ∙ rw (get_or-take m.signatures m.chunks a no_chunk h, length-map)

-- an instruction that calls is one of the code
in_code : (c : Chunk) (i : ℕ) → (line_at c i).instr.op ≡ op_call → i < length c.code
unfolding line_at
in_code c i e = go (ltb i (length c.code)) refl
  where
    go : (b : Bool) → ltb i (length c.code) ≡ b → i < length c.code
    go true t = ltb-true i (length c.code) t
    go false t =
        let l = ltb-false i (length c.code) t in
        absurd (omega (arith, ap (λ (x : Line). x.instr.op) (get_or-eq_default c.code no_line l)))

-- the lines of a chunk are good
lines-good : (s : List ℕ) (w : ℕ) → form_of s ≡ Ok w → (c : Chunk) → Memᴰ c (module_of s).chunks → (i : ℕ) → i < length c.code
    → LineGood (module_of s) c (line_at c i)
unfolding chunk_no
lines-good s w h c k i l =
    let (n, l', q) = mem-at no_chunk (module_of s).chunks k in
    let chunk : ChunkGood (module_of s) n c = rw q at ((good-form s w h).each_chunk n l') in
    chunk.lines i l

-- THEOREM: a call takes no more than its callee's parameters
pub calls-fit : (s : List ℕ) (w : ℕ) → form_of s ≡ Ok w → CallsFit (module_of s)
calls-fit s w h c k i e =
    let line = lines-good s w h c k i (in_code c i e) in
    let a = inputs-of (module_of s) (line_at c i).instr.a (good-form s w h).signatures (line.callee (call-callee (line_at c i).instr.op e)) in
    omega (arith, a, line.call e)

-- THEOREM: a value is read from a local that the chunk has
pub locals-fit : (s : List ℕ) (w : ℕ) → form_of s ≡ Ok w → LocalsFit (module_of s)
locals-fit s w h c k i l e =
    let op = (line_at c i).instr.op in
    (lines-good s w h c k i l).local (get_local op (makes-local op e))
