-- The form of a description: refusals 1 to 4, in byte order, the lowest number of a field; then the two late looks; and W.
-- Of document 01: "Description" (fields, largest values, taken and given), "Exporter" in "Turned back", W in "Steps and passes". Of
-- types.rs: nothing, it is given a module; 3 and 4 turn away what it would panic on, and more (D2, docs/DIFFERENCES.md), and 4 is the most
-- that may be given (D10). Where document 01 leaves a choice: readings A1 to A28 of docs/DECISIONS.md. Of document 02: Two, the last byte
-- of field 1.
-- It is said as a walk, because the first fault in byte order counts; the code has the same `Scan`. What a description that passes has, and
-- that W is document 01's sum, is a theorem: `good-form` (form_laws). Left open: bytes that no rule reads (D12) may have any value.
-- How it ends: `fields_from` (description/specs/Fields.antt) is the list of the fields, no longer than the description; the walks go along
-- it, the others count down.
use Rattle.std.specs.Prelude.{ℕ, zero, suc, ◌+◌, ◌*◌, ◌-◌, Bool, true, false, not, cond, ◌&&◌, ◌||◌, List, [], ◌∷◌, eqb, ltb, leb, length, get_or, Result, Ok, Err}
use Rattle.le.specs.Le.{at8}
use Rattle.answers.specs.declared.Refusal.{Refusal}
use Rattle.answers.specs.Answers.{nowhere, in_field, refusal}
use Rattle.widths.specs.declared.Shape.{Shape}
use Rattle.description.specs.declared.Header.{Header}
use Rattle.description.specs.declared.ChunkHead.{ChunkHead}
use Rattle.description.specs.declared.Instr.{Instr}
use Rattle.description.specs.Fields.{tag_at, len_at, next_at, fields_from, of_tag, shape_of, header_of, chunk_of, tags_at, params_at, params_of, instr_of, has_site}
use Rattle.definition.specs.declared.Scan.{Scan}
use Rattle.definition.specs.Module.{signed_params}
use Rattle.definition.specs.Bounds.{most_bytes, most_float, most_chunks, most_slots, most_locals, most_stack, most_arity, most_tags, most_params, most_instrs, most_taken, most_given, most_scalar_kind, most_composite_kind, most_operand, most_immediate, most_natives, most_fields}
use Rattle.ops.specs.Numbers.{op_call, op_yield}

-- the lowest number whose fault is there, or 0
abbrev pub lowest : Bool → Bool → Bool → Bool → ℕ
lowest a b c d = cond a 1 (cond b 2 (cond c 3 (cond d 4 0)))

-- ---- what the operands of an instruction mean
abbrev pub no_operand : ℕ
no_operand = 0

abbrev pub constant : ℕ
constant = 1

abbrev pub local : ℕ
local = 2

abbrev pub slot : ℕ
slot = 3

abbrev pub slots : ℕ
slots = 4

abbrev pub target : ℕ
target = 5

abbrev pub callee : ℕ
callee = 6

abbrev pub composite : ℕ
composite = 7

abbrev pub part : ℕ
part = 8

abbrev pub immediate : ℕ
immediate = 9

abbrev pub native : ℕ
native = 10

-- the least and the most that an instruction takes, the least and the most that it gives, and the meaning of its operands
pub record Fit : Type 0 where
  pub taken_least : ℕ
  pub taken_most : ℕ
  pub given_least : ℕ
  pub given_most : ℕ
  pub meaning : ℕ

abbrev pub line : ℕ → ℕ → ℕ → ℕ → ℕ → Fit
line a b c d m = record { taken_least = a; taken_most = b; given_least = c; given_most = d; meaning = m }

-- one line for each place of Op, its name behind it
unfoldable pub fits : List Fit
fits =
    line 0 64 1 4 constant  -- 0 Const
    ∷ line 0 64 1 4 local  -- 1 GetLocal
    ∷ line 1 64 0 4 local  -- 2 SetLocal
    ∷ line 0 64 1 4 slot  -- 3 GetData
    ∷ line 1 64 0 4 slot  -- 4 SetData
    ∷ line 1 64 1 4 slots  -- 5 GetDataIndexed
    ∷ line 1 64 0 4 slots  -- 6 SetDataIndexed
    ∷ line 1 64 0 4 no_operand  -- 7 BoundsCheck
    ∷ line 0 64 1 4 no_operand  -- 8 Add
    ∷ line 0 64 1 4 no_operand  -- 9 Sub
    ∷ line 0 64 1 4 no_operand  -- 10 Mul
    ∷ line 0 64 3 3 no_operand  -- 11 Div
    ∷ line 0 64 3 3 no_operand  -- 12 Mod
    ∷ line 0 64 1 4 no_operand  -- 13 Neg
    ∷ line 2 64 1 4 no_operand  -- 14 CmpEq
    ∷ line 2 64 1 4 no_operand  -- 15 CmpNe
    ∷ line 2 64 1 4 no_operand  -- 16 CmpLt
    ∷ line 2 64 1 4 no_operand  -- 17 CmpGt
    ∷ line 2 64 1 4 no_operand  -- 18 CmpLe
    ∷ line 2 64 1 4 no_operand  -- 19 CmpGe
    ∷ line 1 64 1 4 no_operand  -- 20 Not
    ∷ line 1 1 0 4 target  -- 21 If
    ∷ line 0 64 0 4 target  -- 22 Else
    ∷ line 0 64 0 4 no_operand  -- 23 EndIf
    ∷ line 0 64 0 4 target  -- 24 Loop
    ∷ line 0 64 0 4 target  -- 25 EndLoop
    ∷ line 0 64 0 4 target  -- 26 Break
    ∷ line 1 1 0 4 target  -- 27 BreakIf
    ∷ line 0 64 0 4 no_operand  -- 28 Stream
    ∷ line 0 64 0 4 no_operand  -- 29 Reset
    ∷ line 0 64 1 4 callee  -- 30 Call
    ∷ line 0 64 0 4 no_operand  -- 31 Return
    ∷ line 1 64 1 4 no_operand  -- 32 Yield
    ∷ line 1 64 0 4 no_operand  -- 33 Dup
    ∷ line 0 64 1 4 composite  -- 34 NewComposite
    ∷ line 1 64 1 4 part  -- 35 GetField
    ∷ line 2 64 1 4 part  -- 36 GetIndex
    ∷ line 1 64 1 4 part  -- 37 GetTupleField
    ∷ line 1 64 1 4 part  -- 38 GetEnumField
    ∷ line 0 64 0 4 no_operand  -- 39 Len
    ∷ line 1 1 2 2 no_operand  -- 40 IsEnum
    ∷ line 1 1 2 2 no_operand  -- 41 IsStruct
    ∷ line 1 64 1 4 no_operand  -- 42 IntToFloat
    ∷ line 1 64 1 4 no_operand  -- 43 FloatToInt
    ∷ line 1 64 1 4 no_operand  -- 44 WordToByte
    ∷ line 1 64 1 4 no_operand  -- 45 ByteToWord
    ∷ line 1 64 1 4 no_operand  -- 46 WordToFixed
    ∷ line 1 64 1 4 no_operand  -- 47 FixedToWord
    ∷ line 1 64 1 4 no_operand  -- 48 FixedMul
    ∷ line 1 64 3 3 no_operand  -- 49 FixedDiv
    ∷ line 0 64 0 4 no_operand  -- 50 Trap
    ∷ line 0 64 3 3 no_operand  -- 51 CheckedAdd
    ∷ line 0 64 3 3 no_operand  -- 52 CheckedSub
    ∷ line 0 64 3 3 no_operand  -- 53 CheckedMul
    ∷ line 0 64 3 3 no_operand  -- 54 CheckedNeg
    ∷ line 0 64 3 3 no_operand  -- 55 CheckedDiv
    ∷ line 0 64 3 3 no_operand  -- 56 CheckedMod
    ∷ line 0 64 1 4 immediate  -- 57 PushImmediate
    ∷ line 0 64 0 4 no_operand  -- 58 PopN
    ∷ line 1 64 1 4 no_operand  -- 59 BitAnd
    ∷ line 1 64 1 4 no_operand  -- 60 BitOr
    ∷ line 1 64 1 4 no_operand  -- 61 BitXor
    ∷ line 2 64 1 4 no_operand  -- 62 Shl
    ∷ line 2 64 1 4 no_operand  -- 63 Shr
    ∷ line 0 64 1 4 native  -- 64 CallVerifiedNative
    ∷ line 0 64 1 4 native  -- 65 CallExternalNative
    ∷ []

unfoldable pub fit_of : ℕ → Fit
fit_of op = get_or fits op (line 0 64 0 4 no_operand)

-- ---- the rules of each field
abbrev pub header_len : ℕ
header_len = 16

-- document 02, Two: the size of an opaque handle
abbrev pub handle_fine : ℕ → Bool
handle_fine n = eqb n 4 || eqb n 8

unfoldable pub header_fault : Bool → ℕ → Header → ℕ
header_fault due len h =
    lowest
    (not due || not (eqb len header_len) || not (handle_fine h.handle) || ltb 1 h.layout || ltb 1 h.owns || (eqb h.layout 0 && not (eqb h.slots 0)))
    (ltb most_float h.float || ltb most_chunks h.chunks || ltb h.chunks h.signatures || ltb most_slots h.slots)
    (leb h.signatures h.entry)
    false

unfoldable pub shape_fine : Shape → Bool
shape_fine s = ltb s.tag 3 && ltb s.width 3

-- n type tags from q on are places of TypeTag
unfoldable pub tags_fine : List ℕ → ℕ → ℕ → Bool
tags_fine s q zero = true
tags_fine s q (suc n) = ltb (at8 s q) 8 && tags_fine s (q + 1) n

unfoldable pub shapes_fine : List ℕ → ℕ → ℕ → Bool
shapes_fine s q zero = true
shapes_fine s q (suc n) = shape_fine (shape_of s q) && shapes_fine s (q + 7) n

-- the length of field 2, from its counts; a chunk past the signatures ends after the type tags
unfoldable pub chunk_len : List ℕ → ℕ → Bool → ℕ → ℕ
chunk_len s p signed tags = cond signed (16 + tags + 7 * params_of s p) (8 + tags)

unfoldable pub signature_fine : List ℕ → ℕ → Bool → Bool
signature_fine s p signed = cond signed (shapes_fine s (params_at s p + 1) (params_of s p + 1)) true

unfoldable pub chunk_fault : List ℕ → ℕ → Bool → ℕ → Bool → ChunkHead → ℕ
chunk_fault s p due len signed h =
    lowest
    (not due || not (eqb (chunk_len s p signed h.tags) len && tags_fine s (tags_at p) h.tags && signature_fine s p signed) || ltb 1 h.reachable || ltb 2 h.block)
    (ltb most_locals h.locals || ltb most_stack h.stack || ltb most_arity h.arity || ltb most_tags h.tags || ltb most_params (signed_params s p signed))
    (ltb h.locals (signed_params s p signed))
    false

-- an operand with no meaning: not 0 where nothing is read, or the place of no case
unfoldable pub senseless : ℕ → Instr → Bool
senseless m i =
    (eqb m no_operand && (not (eqb i.a 0) || not (eqb i.b 0) || not (eqb i.c 0)))
    || (eqb m constant && (ltb 11 i.a || ltb 1 i.b || (not (eqb i.a 1) && not (eqb i.b 0))))
    || ((eqb m local || eqb m slot || eqb m target || eqb m callee || eqb m immediate || eqb m native) && (not (eqb i.b 0) || not (eqb i.c 0)))
    || (eqb m slots && not (eqb i.c 0))
    || (eqb m composite && (ltb 1 i.a || (eqb i.a 1 && not (eqb i.c 0))))
    || (eqb m part && (ltb 2 i.a || (eqb i.a 0 && not (eqb i.c 0)) || (eqb i.a 2 && (not (eqb i.b 0) || not (eqb i.c 0)))))

-- an operand over its largest value
unfoldable pub too_large : ℕ → Instr → Bool
too_large m i =
    ((eqb m local || eqb m target || eqb m callee || eqb m native) && ltb most_operand i.a)
    || (eqb m immediate && ltb most_immediate i.a)
    || (eqb m composite && (ltb most_composite_kind i.b || ltb most_operand i.c))
    || (eqb m part && ((eqb i.a 0 && ltb most_scalar_kind i.b) || (eqb i.a 1 && (ltb most_composite_kind i.b || ltb most_operand i.c))))

-- a local not below L, a callee without signature, an indexed access of 0 slots without layout
unfoldable pub misplaced : ℕ → Instr → Scan → Bool
misplaced m i t =
    (eqb m local && leb t.locals i.a)
    || (eqb m callee && leb t.signatures i.a)
    || (eqb m slots && eqb i.b 0 && eqb t.layout 0)

unfoldable pub unfitting : Fit → Instr → Bool
unfitting f i =
    ltb i.taken f.taken_least || ltb f.taken_most i.taken || ltb i.given f.given_least || ltb f.given_most i.given

unfoldable pub instr_fault : Bool → ℕ → Instr → Scan → ℕ
instr_fault due len i t =
    lowest
    (not due || not (eqb len 15) || ltb 65 i.op || senseless (fit_of i.op).meaning i)
    (leb most_instrs t.instrs || ltb most_taken i.taken || ltb most_given i.given || too_large (fit_of i.op).meaning i)
    (misplaced (fit_of i.op).meaning i t)
    (unfitting (fit_of i.op) i)

unfoldable pub site_fault : List ℕ → ℕ → Bool → ℕ → ℕ
site_fault s p due len =
    lowest (not due || not (eqb len 14) || not (shape_fine (shape_of s (p + 3))) || not (shape_fine (shape_of s (p + 10)))) false false false

-- tags 5 to 8, one of them more than there may be
unfoldable pub table_fault : List ℕ → ℕ → ℕ → Bool → ℕ → ℕ → ℕ
table_fault s p tag due len count =
    cond (eqb tag 5)
    (lowest (not due || not (eqb len 8) || not (shape_fine (shape_of s (p + 3))) || ltb 1 (at8 s (p + 10))) (leb most_natives count) false false)
    (cond (eqb tag 6) (lowest (not due || not (eqb len 1)) (leb most_fields count) false false)
    (cond (eqb tag 7) (lowest (not due || not (eqb len 6)) (leb most_fields count) false false)
    (lowest (not due || not (eqb len 2) || ltb 11 (at8 s (p + 3)) || ltb 1 (at8 s (p + 4))) (leb most_fields count) false false)))

-- ---- the walk
abbrev pub or_stop : ℕ → Refusal → Scan → Result Scan Refusal
or_stop n r t = cond (eqb n 0) (Ok t) (Err r)

-- past a field, the scan: its tag, and what it counts
abbrev pub past_header : Header → Scan
past_header h =
    record {
      place = 1;
      chunks = h.chunks;
      signatures = h.signatures;
      layout = h.layout;
      seen = 0;
      locals = 0;
      stack = 0;
      instrs = 0;
      count = 0;
      cells = 4 + h.slots;
    }

unfoldable pub header_step : List ℕ → ℕ → Scan → Result Scan Refusal
header_step s p t =
    let h = header_of s p in
    let n = header_fault (eqb t.place 0) (len_at s p) h in
    or_stop n (nowhere n 0) (past_header h)

abbrev pub past_chunk : ChunkHead → ℕ → Scan → Scan
past_chunk h params t =
    record {
      place = 2;
      chunks = t.chunks;
      signatures = t.signatures;
      layout = t.layout;
      seen = t.seen + 1;
      locals = h.locals;
      stack = h.stack;
      instrs = 0;
      count = t.count;
      cells = t.cells + params + 2;
    }

unfoldable pub chunk_step : List ℕ → ℕ → Scan → Result Scan Refusal
chunk_step s p t =
    let h = chunk_of s p in
    let signed = ltb t.seen t.signatures in
    let n = chunk_fault s p (ltb 0 t.place && ltb t.place 5 && ltb t.seen t.chunks) (len_at s p) signed h in
    or_stop n (in_field n t.seen 65535) (past_chunk h (signed_params s p signed) t)

abbrev pub past_instr : Scan → Scan
past_instr t =
    record {
      place = 3;
      chunks = t.chunks;
      signatures = t.signatures;
      layout = t.layout;
      seen = t.seen;
      locals = t.locals;
      stack = t.stack;
      instrs = t.instrs + 1;
      count = t.count;
      cells = t.cells + t.locals + t.stack + 6;
    }

unfoldable pub instr_step : List ℕ → ℕ → Scan → Result Scan Refusal
instr_step s p t =
    let n = instr_fault (ltb 1 t.place && ltb t.place 5) (len_at s p) (instr_of s p) t in
    or_stop n (in_field n (t.seen - 1) t.instrs) (past_instr t)

abbrev pub placed : ℕ → ℕ → Scan → Scan
placed tag count t =
    record {
      place = tag;
      chunks = t.chunks;
      signatures = t.signatures;
      layout = t.layout;
      seen = t.seen;
      locals = t.locals;
      stack = t.stack;
      instrs = t.instrs;
      count = count;
      cells = t.cells;
    }

unfoldable pub site_step : List ℕ → ℕ → Scan → Result Scan Refusal
site_step s p t =
    let n = site_fault s p (eqb t.place 3) (len_at s p) in
    or_stop n (nowhere n 0) (placed 4 t.count t)

-- the fields of this tag so far
unfoldable pub so_far : Scan → ℕ → ℕ
so_far t tag = cond (eqb t.place tag) t.count 0

unfoldable pub table_step : List ℕ → ℕ → ℕ → Scan → Result Scan Refusal
table_step s p tag t =
    let n = table_fault s p tag (ltb 0 t.place && leb t.place tag && (eqb tag 5 || eqb t.layout 1)) (len_at s p) (so_far t tag) in
    or_stop n (nowhere n 0) (placed tag (so_far t tag + 1) t)

-- a field that doesn't fit the description is 1, its contents are not looked at
unfoldable pub field_step : List ℕ → ℕ → Scan → Result Scan Refusal
field_step s p t =
    cond (ltb (length s) (next_at s p)) (Err (nowhere 1 0))
    (cond (eqb (tag_at s p) 1) (header_step s p t)
    (cond (eqb (tag_at s p) 2) (chunk_step s p t)
    (cond (eqb (tag_at s p) 3) (instr_step s p t)
    (cond (eqb (tag_at s p) 4) (site_step s p t)
    (cond (ltb 4 (tag_at s p) && ltb (tag_at s p) 9) (table_step s p (tag_at s p) t)
    (Err (nowhere 1 0)))))))

-- ---- the late looks
-- the parameter shapes of each chunk with a signature
unfoldable pub parameters : List ℕ → ℕ → List ℕ → List ℕ
parameters s left [] = []
parameters s left (p ∷ ps) = signed_params s p (ltb 0 left) ∷ parameters s (left - 1) ps

-- a call taking more than its callee's parameters, a `Yield` without site
unfoldable pub late_fault : List ℕ → List ℕ → ℕ → Bool
late_fault s params p =
    (eqb (instr_of s p).op op_call && ltb (get_or params (instr_of s p).a 0) (instr_of s p).taken)
    || (eqb (instr_of s p).op op_yield && not (has_site s p))

-- the chunks and the instructions of the chunk so far
unfoldable pub late_look : List ℕ → List ℕ → ℕ → ℕ → List ℕ → Refusal
late_look s params c i [] = nowhere 0 0
late_look s params c i (p ∷ ps) =
    cond (eqb (tag_at s p) 2) (late_look s params (c + 1) 0 ps)
    (cond (eqb (tag_at s p) 3)
    (cond (late_fault s params p) (refusal 3 (c - 1) i 0) (late_look s params c (i + 1) ps))
    (late_look s params c i ps))

-- ---- the whole
unfoldable pub after_look : Refusal → ℕ → Result ℕ Refusal
after_look r w = cond (eqb r.number 0) (Ok w) (Err r)

-- no header, or a chunk missing, is 1
unfoldable pub finished : List ℕ → Scan → Result ℕ Refusal
finished s t =
    cond (eqb t.place 0 || ltb t.seen t.chunks) (Err (nowhere 1 0))
    (after_look (late_look s (parameters s t.signatures (of_tag 2 s (fields_from s 0))) 0 0 (fields_from s 0)) (16 * t.cells))

unfoldable pub on_step : Result Scan Refusal → (Scan → Result ℕ Refusal) → Result ℕ Refusal
on_step (Ok t) k = k t
on_step (Err r) k = Err r

unfoldable pub scan_from : List ℕ → List ℕ → Scan → Result ℕ Refusal
scan_from s [] t = finished s t
scan_from s (p ∷ ps) t = on_step (field_step s p t) (λ u. scan_from s ps u)

abbrev pub unscanned : Scan
unscanned =
    record { place = 0; chunks = 0; signatures = 0; layout = 0; seen = 0; locals = 0; stack = 0; instrs = 0; count = 0; cells = 0 }

-- W of a description of good form, or the refusal; its length is looked at first
unfoldable pub form_of : List ℕ → Result ℕ Refusal
form_of s = cond (ltb most_bytes (length s)) (Err (nowhere 2 0)) (scan_from s (fields_from s 0) unscanned)
