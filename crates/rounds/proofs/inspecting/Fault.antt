-- What the code looks for after a chunk's validation is the definition's.
use Prim.Native.Nat.{ℕ, zero, suc, ◌+◌, ◌*◌, ◌-◌, ◌<◌, ◌≤◌}
use native.Mathlib.Omega.{arith}
use native.Mathlib.Numerals.{add-one}
use mathlib.Core.Path.{◌≡◌, refl, sym, ap, ◌∙◌}
use mathlib.Core.Bool.{Bool, true, false, not, cond, ◌&&◌, ◌||◌}
use mathlib.Core.Option.{Option, none, some}
use mathlib.Core.List.{List}
use borrow.Author.Tests.{eqb-true, eq-eqb, ne_eqb, ltb-false, le-ltb}
use lib.Dec.{eqb, ltb}
use lib.ListN.{length, get_or}
use Rattle.answers.specs.declared.Refusal.{Refusal}
use Rattle.std.specs.Prelude.{Ok, Err}
use Rattle.masks.proofs.Both.{never, or_left, or_right}
use Rattle.masks.specs.Mask.{has, same}
use Rattle.masks.specs.Names.{STRUCT, ENUM}
use Rattle.extents.specs.Extent.{extent_minimum}
use Rattle.flows.specs.Flow.{absent}
use Rattle.cells.specs.declared.Cell.{Cell}
use Rattle.cells.specs.Cell.{made}
use Rattle.description.specs.declared.Instr.{Instr}
use Rattle.ops.specs.declared.Others.{Others}
use Rattle.ops.specs.declared.Others.TheVariants.{Unknowns, Words, Checked, Copies, Tested, Status}
use Rattle.ops.specs.Ops.{rules, no_rule, rule_of}
use Rattle.words.specs.Layout.{cell_at}
use Rattle.words.specs.Rows.{cells_at}
use Rattle.definition.specs.Module.{Line, row, module_of}
use Rattle.definition.specs.State.{State}
use Rattle.definition.specs.Outputs.{no_cell}
use Rattle.definition.specs.Leaves.{line_at}
use Rattle.answers.specs.Answers.{refusal}
use Rattle.definition.specs.Start.{last, under_eight, inspection_fault, state_fault, inspected, after_chunk}
use Rattle.form_laws.specs.Good.{chunk_no}
use Rattle.layout.specs.declared.Chunk.{Chunk as ChunkNumbers}
use Rattle.layout.specs.Layout.{place_at, stack_at}
use Rattle.layout.specs.Indexed.{Indexed, chunk_at}
use Rattle.layout.proofs.Read.{row_is, row-known}
use Rattle.row_join.specs.joining.Leave.{state_by, state_in}
use Rattle.run_state.specs.Course.{states_in, Low, state_at}
use Rattle.rule_laws.proofs.Table.{every-rule}
use Rattle.rounds.specs.inspecting.Fault.{fault_told, Inspected, RowRead, enum_fault, op_fault, receiver_fault, struct_fault}
use Rattle.ops.specs.Numbers.{op_is_enum, op_is_struct}

pub fault-struct : (op : ℕ) (c : Cell) (h k b : Bool) → op ≡ op_is_struct → h ≡ has c.mask STRUCT → k ≡ same c.mask STRUCT → (h && not k) ≡ b
    → cond b 17 0 ≡ receiver_fault op c
unfolding receiver_fault
fault-struct op c h k b e p q t = rw (eq-eqb op op_is_struct e, ← p, ← q, t)

pub fault-enum : (op : ℕ) (c : Cell) (h k b : Bool) → (op ≡ op_is_struct → ⊥) → h ≡ has c.mask ENUM
    → k ≡ under_eight (extent_minimum (get_or c.flow.bodies 3 absent)) → (h && k) ≡ b → cond b 16 0 ≡ receiver_fault op c
unfolding receiver_fault
fault-enum op c h k b e p q t = rw (ne_eqb op op_is_struct e, ← p, ← q, t)

-- 1 and 2 for the two
abbrev kind_of : Others → ℕ
kind_of (Tested k) = cond (same k ENUM) 1 2
kind_of Unknowns = 0
kind_of Words = 0
kind_of Checked = 0
kind_of Copies = 0
kind_of Status = 0

abbrev kind_at : ℕ → ℕ
kind_at op = cond (eqb op op_is_enum) 1 (cond (eqb op op_is_struct) 2 0)

kind-is : (op : ℕ) → kind_of (rule_of op).others ≡ kind_at op
unfolding rules
kind-is op = eqb-true _ _ (every-rule (λ n r. eqb (kind_of r.others) (kind_at n)) past refl op)
  where
    past : (n : ℕ) → 66 ≤ n → eqb (kind_of no_rule.others) (kind_at n) ≡ true
    past n l = rw (ne_eqb n 40 (λ e. omega arith), ne_eqb n 41 (λ e. omega arith))

abbrev by_kind : ℕ → Cell → ℕ
by_kind zero c = 0
by_kind (suc zero) c = enum_fault c
by_kind (suc (suc n)) c = struct_fault c

by-kind : (o : Others) (c : Cell) → inspection_fault o c ≡ by_kind (kind_of o) c
unfolding inspection_fault
by-kind (Tested k) c = go (same k ENUM)
  where
    go : (b : Bool) → cond b (enum_fault c) (struct_fault c) ≡ by_kind (cond b 1 2) c
    go true = refl
    go false = refl
by-kind Unknowns c = refl
by-kind Words c = refl
by-kind Checked c = refl
by-kind Copies c = refl
by-kind Status c = refl

fault-is : (op : ℕ) (c : Cell) → inspection_fault (rule_of op).others c ≡ by_kind (kind_at op) c
fault-is op c = by-kind (rule_of op).others c ∙ ap (λ (k : ℕ). by_kind k c) (kind-is op)

pub op-fault : (x : Line) (o : Option State) → state_fault x o ≡ op_fault x.instr.op o
unfolding state_fault op_fault
op-fault x none = refl
op-fault x (some s) = refl

last-cell : (ws : List ℕ) (at n : ℕ) → last (cells_at ws at (suc n)) ≡ cell_at ws (at + 16 * n)
unfolding last cells_at
last-cell ws at zero = let z : at ≡ at + 16 * 0 = omega arith in ap (cell_at ws) z
last-cell ws at (suc n) = let z : at + 16 + 16 * n ≡ at + 16 * suc n = omega arith in last-cell ws (at + 16) n ∙ ap (cell_at ws) z

nothing_known : (k : ℕ) → by_kind k no_cell ≡ 0
unfolding no_cell made
nothing_known zero = refl
nothing_known (suc zero) = refl
nothing_known (suc (suc n)) = refl

or_off : (a b : Bool) → b ≡ false → (a || b) ≡ true → a ≡ true
or_off true b e f = refl
or_off false b e f = sym e ∙ f

-- the code's test: no inspection, or nothing on the stack
pub fault-none : (ws : List ℕ) (row op : ℕ) → ((not (eqb op op_is_enum) && not (eqb op op_is_struct)) || ltb (get_or ws row 0) 2) ≡ true → (stack locals : ℕ)
    → 0 ≡ op_fault op (state_in ws row stack locals)
unfolding state_in state_by op_fault last cells_at
fault-none ws row op t stack locals = go (get_or ws row 0) t
  where
    other : (a b : Bool) → (not a && not b) ≡ true → by_kind (cond a 1 (cond b 2 0)) ≡ (λ c. 0)
    other true b e = let z : ◌≡◌ {A = ℕ} 0 1 = cc in absurd (omega arith)
    other false true e = let z : ◌≡◌ {A = ℕ} 0 1 = cc in absurd (omega arith)
    other false false e = refl

    go : (h : ℕ) → ((not (eqb op op_is_enum) && not (eqb op op_is_struct)) || ltb h 2) ≡ true → 0 ≡ op_fault op (state_by ws row stack locals h)
    go zero t = refl
    go (suc zero) t = sym (fault-is op no_cell ∙ nothing_known (kind_at op))
    go (suc (suc h)) t =
        let e : (not (eqb op op_is_enum) && not (eqb op op_is_struct)) ≡ true = or_off (not (eqb op op_is_enum) && not (eqb op op_is_struct)) (ltb (suc (suc h)) 2) (le-ltb (suc (suc h)) 2 (omega arith)) t in
        sym (fault-is op _ ∙ ap (λ (f : Cell → ℕ). f (last (cells_at ws (stack_at row) (suc h)))) (other (eqb op op_is_enum) (eqb op op_is_struct) e))

pub stack-high : (op h : ℕ) → ((not (eqb op op_is_enum) && not (eqb op op_is_struct)) || ltb h 2) ≡ false → 2 ≤ h
stack-high op h t = ltb-false h 2 (or_right (not (eqb op op_is_enum) && not (eqb op op_is_struct)) (ltb h 2) t)

pub fault-read : (ws : List ℕ) (row op : ℕ) → ((not (eqb op op_is_enum) && not (eqb op op_is_struct)) || ltb (get_or ws row 0) 2) ≡ false → (stack locals : ℕ)
    → receiver_fault op (cell_at ws (place_at row (get_or ws row 0 - 2))) ≡ op_fault op (state_in ws row stack locals)
unfolding state_in state_by op_fault receiver_fault
fault-read ws row op t stack locals = go (get_or ws row 0) t
  where
    which : (a b : Bool) (c : Cell) → ((not a && not b) ≡ false) → (a ≡ true → b ≡ false) → cond b (struct_fault c) (enum_fault c) ≡ by_kind (cond a 1 (cond b 2 0)) c
    which true b c e f = rw (f refl)
    which false true c e f = refl
    which false false c e f = let z : ◌≡◌ {A = ℕ} 0 1 = cc in absurd (omega arith)

    go : (h : ℕ) → ((not (eqb op op_is_enum) && not (eqb op op_is_struct)) || ltb h 2) ≡ false
        → cond (eqb op op_is_struct) (struct_fault (cell_at ws (place_at row (h - 2)))) (enum_fault (cell_at ws (place_at row (h - 2)))) ≡ op_fault op (state_by ws row stack locals h)
    go zero t = never (sym (or_right (not (eqb op op_is_enum) && not (eqb op op_is_struct)) true t))
    go (suc zero) t = never (sym (or_right (not (eqb op op_is_enum) && not (eqb op op_is_struct)) true t))
    go (suc (suc h)) t =
        let z : place_at row (suc (suc h) - 2) ≡ place_at row h = omega arith in
        which (eqb op op_is_enum) (eqb op op_is_struct) (cell_at ws (place_at row (suc (suc h) - 2))) (or_left (not (eqb op op_is_enum) && not (eqb op op_is_struct)) (ltb (suc (suc h)) 2) t)
        (λ e. ne_eqb op op_is_struct (λ q. omega (arith, eqb-true op op_is_enum e)))
        ∙ sym (fault-is op _ ∙ ap (by_kind (kind_at op)) (last-cell ws (stack_at row) h ∙ ap (cell_at ws) (sym z)))

module _ (s ws : List ℕ) (c : ℕ) where
  -- nothing was found before i
  unfoldable pub FaultFrom : ℕ → Type 0
  FaultFrom i =
      after_chunk (chunk_no (module_of s) c) (states_in s ws c)
      ≡ inspected (chunk_no (module_of s) c) i (row (state_at s c ws) i (length (chunk_no (module_of s) c).code - i))

  pub fault-start : FaultFrom 0
  unfolding FaultFrom after_chunk states_in
  fault-start =
      let z : length (chunk_no (module_of s) c).code ≡ length (chunk_no (module_of s) c).code - 0 = omega arith in
      ap (λ (n : ℕ). inspected (chunk_no (module_of s) c) 0 (row (state_at s c ws) 0 n)) z

  -- one more
  step : (i : ℕ) → i < length (chunk_no (module_of s) c).code → FaultFrom i → (n : ℕ) → n ≡ op_fault (line_at (chunk_no (module_of s) c) i).instr.op (state_at s c ws i)
      → after_chunk (chunk_no (module_of s) c) (states_in s ws c)
      ≡ cond (eqb n 0) (inspected (chunk_no (module_of s) c) (suc i) (row (state_at s c ws) (suc i) (length (chunk_no (module_of s) c).code - suc i))) (some (n, i))
  unfolding FaultFrom inspected row
  step i l x n e =
      let z : length (chunk_no (module_of s) c).code - i ≡ suc (length (chunk_no (module_of s) c).code - suc i) = omega arith in
      let f : state_fault (line_at (chunk_no (module_of s) c) i) (state_at s c ws i) ≡ n = op-fault (line_at (chunk_no (module_of s) c) i) (state_at s c ws i) ∙ sym e in
      x ∙ ap (λ (k : ℕ). inspected (chunk_no (module_of s) c) i (row (state_at s c ws) i k)) z
      ∙ ap (λ (k : ℕ). cond (eqb k 0) (inspected (chunk_no (module_of s) c) (suc i) (row (state_at s c ws) (suc i) (length (chunk_no (module_of s) c).code - suc i))) (some (k, i))) f

  module _ (i n : ℕ) (l : i < length (chunk_no (module_of s) c).code) (x : FaultFrom i) (e : n ≡ op_fault (line_at (chunk_no (module_of s) c) i).instr.op (state_at s c ws i)) where
    pub fault-next : n ≡ 0 → FaultFrom (i + 1)
    unfolding FaultFrom
    fault-next t = step i l x n e ∙ rw (eq-eqb n 0 t, add-one i)

    pub fault-found : (steps : ℕ) (r : Refusal) → (n ≡ 0 → ⊥) → r ≡ refusal n c i steps → Inspected s ws c steps (Err r)
    unfolding fault_told
    fault-found steps r t q =
        rw q
        (record {
          fault = step i l x n e ∙ rw (ne_eqb n 0 t);
          place = λ f h. let z : f ≡ refusal n c i steps = cc in ap (λ (y : Refusal). y.chunk) z;
          same-steps = λ f h. let z : f ≡ refusal n c i steps = cc in ap (λ (y : Refusal). y.steps) z;
        })

  pub fault-end : (i steps : ℕ) → FaultFrom i → length (chunk_no (module_of s) c).code ≤ i → Inspected s ws c steps (Ok tt)
  unfolding FaultFrom inspected row fault_told
  fault-end i steps x l =
      let z : length (chunk_no (module_of s) c).code - i ≡ 0 = omega arith in
      record {
        fault = x ∙ ap (λ (n : ℕ). inspected (chunk_no (module_of s) c) i (row (state_at s c ws) i n)) z;
        place = λ f h. cc;
        same-steps = λ f h. cc;
      }

pub row_read : (s ws : List ℕ) (c : ℕ) (ch : ChunkNumbers) (i : ℕ) → Indexed s ws → c < length (module_of s).chunks → ch ≡ chunk_at s ws c → i < ch.count → Low s ws c
    → RowRead ws (ch.rows + i * ch.size)
unfolding Low
row_read s ws c ch i x h e l low =
    let r = row-known s ws c ch i x h e l in
    let q = low i r.there in
    rw r.at (record { room = omega (arith, r.room); small = omega (arith, r.small) })

-- the fault that the code reads off the row of the instruction i
pub fault-of : (s ws : List ℕ) (c : ℕ) (ch : ChunkNumbers) (i at : ℕ) (x : Instr) (n : ℕ) → ch ≡ chunk_at s ws c → at ≡ ch.rows + i * ch.size
    → x ≡ (line_at (chunk_no (module_of s) c) i).instr → ((stack locals : ℕ) → n ≡ op_fault x.op (state_in ws at stack locals))
    → n ≡ op_fault (line_at (chunk_no (module_of s) c) i).instr.op (state_at s c ws i)
fault-of s ws c ch i at x n e p q f =
    f (chunk_no (module_of s) c).stack (chunk_no (module_of s) c).locals
    ∙ rw (q, p ∙ row_is s ws c ch e i)
