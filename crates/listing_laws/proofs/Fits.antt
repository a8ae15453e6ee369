-- The listing of a call with a report buffer of 16,384 bytes always fits into 65,536. A line is at most so much longer than its field: 30 bytes
-- for the first, 24 for a record, 26 for an inspection, 32 for a branch. A record has at least 15 bytes, an inspection 7 and a branch 8, and
-- a report has no more inspections and no more branches than records.
use Prim.Native.Nat.{ℕ, suc, ◌+◌, ◌*◌, ◌≤◌}
use native.Mathlib.Omega.{arith}
use mathlib.Core.Path.{◌≡◌, refl, ◌∙◌, ap}
use mathlib.Core.Bool.{Bool, true, false, cond}
use mathlib.Core.Option.{Option, none, some}
use mathlib.Core.List.{List, [], ◌∷◌, ◌++◌}
use lib.Dec.{ltb}
use lib.ListN.{length, take, drop, replicate, length-append}
use borrow.Author.Tests.{ltb-false}
use Rattle.std.specs.Prelude.{Result, Ok, Err}
use Rattle.masks.specs.Mask.{same}
use Rattle.masks.specs.Names.{FALSE, TRUE}
use Rattle.masks.proofs.Both.{never}
use Rattle.widths.specs.declared.Width.{Width}
use Rattle.widths.specs.declared.Width.TheVariants.{Unknown as Wide, Scalar, Body}
use Rattle.cells.specs.declared.Cell.{Cell}
use Rattle.ops.specs.Ops.{rule_of}
use Rattle.le.specs.Le.{at16, le16, le32}
use Rattle.answers.specs.Answers.{nowhere, accepts}
use Rattle.answers.proofs.Told.{accepts-same}
use Rattle.answers.specs.declared.Accepted.{Accepted}
use Rattle.answers.specs.declared.Refusal.{Refusal}
use Rattle.description.specs.Fields.{next_at}
use Rattle.definition.specs.Module.{Chunk, module_of}
use Rattle.definition.specs.State.{State}
use Rattle.definition.specs.Start.{last, first_facts, known_of}
use Rattle.definition.specs.Report.{Report, Record, Signature, Inspection, Branch, says_false, is_test, op_at, record_of, inspection_of, branch_of, from_state, from_states, from_chunks, report_of, field, each, width_bytes, sized_bytes, source_bytes, bodies_bytes, cell_bytes, cells_bytes, outputs_bytes, guards_bytes, counts_bytes, signature_bytes, slot_bytes, record_bytes, inspection_bytes, branch_bytes, report_bytes}
use Rattle.definition.specs.Call.{Decided, reported, turned, decide, Outcome, turned_back, delivered, outcome_of, call}
use Rattle.report_laws.proofs.Has.{Has, has_left, has_right, has-at, has_same, has_all, read16, long16, long32}
use Rattle.report_laws.proofs.Walk.{field-long, contents-at, tag-at, next-at}
use Rattle.consistent.proofs.Decided.{of-decide}
use Rattle.consistent.proofs.Accepted.{accepted-left, left-bytes}
use Rattle.listing.specs.Listing.{field_line, listing}
use Rattle.listing.proofs.Turns.{lines_from, lines_end, lines-turn}
use Rattle.listing.proofs.Long.{refused-long, accepted-long, signature-long, slot-long, record-long, inspection-long, branch-long}

-- ---- the bytes of a record: fifteen, and thirteen for each cell
width-least : (w : Width) → 5 ≤ length (width_bytes w)
unfolding width_bytes sized_bytes le32
width-least Wide = omega arith
width-least (Scalar n) = omega arith
width-least (Body n) = omega arith

cell-least : (c : Cell) → 13 ≤ length (cell_bytes c)
unfolding cell_bytes source_bytes le16
cell-least c =
    omega (
      arith,
      length-append (width_bytes c.width) (bodies_bytes c.flow.bodies ++ source_bytes c.flow),
      length-append (bodies_bytes c.flow.bodies) (source_bytes c.flow),
      width-least c.width,
    )

cells-least : (cs : List Cell) → 13 * length cs ≤ length (cells_bytes cs)
unfolding cells_bytes
cells-least [] = omega arith
cells-least (c ∷ cs) = omega (arith, length-append (cell_bytes c) (cells_bytes cs), cell-least c, cells-least cs)

record-least : (x : Record) → 15 + 13 * (length x.stack + length x.locals) ≤ length (record_bytes x)
unfolding record_bytes counts_bytes field le16
record-least x =
    let rest : List ℕ = outputs_bytes x.outputs ++ guards_bytes x.guards in
    omega (
      arith,
      length-append (cells_bytes x.stack) (cells_bytes x.locals ++ rest),
      length-append (cells_bytes x.locals) rest,
      cells-least x.stack,
      cells-least x.locals,
    )

inspection-size : (x : Inspection) → length (inspection_bytes x) ≡ 7
unfolding inspection_bytes field le16
inspection-size x = refl

branch-size : (x : Branch) → length (branch_bytes x) ≡ 8
unfolding branch_bytes field le16
branch-size x = refl

-- ---- no more inspections and branches than records
state-more : {A B : Type 0} (f : ℕ → State → List A) (g : ℕ → State → List B) → ((i : ℕ) (s : State) → length (f i s) ≤ length (g i s))
    → (i : ℕ) (o : Option State) → length (from_state f i o) ≤ length (from_state g i o)
unfolding from_state
state-more f g h i none = omega arith
state-more f g h i (some s) = h i s

states-more : {A B : Type 0} (f : ℕ → State → List A) (g : ℕ → State → List B) → ((i : ℕ) (s : State) → length (f i s) ≤ length (g i s))
    → (i : ℕ) (ss : List (Option State)) → length (from_states f i ss) ≤ length (from_states g i ss)
unfolding from_states
states-more f g h i [] = omega arith
states-more f g h i (s ∷ ss) =
    omega (
      arith,
      length-append (from_state f i s) (from_states f (suc i) ss),
      length-append (from_state g i s) (from_states g (suc i) ss),
      state-more f g h i s,
      states-more f g h (suc i) ss,
    )

chunks-more : {A B : Type 0} (f : Chunk → ℕ → State → List A) (g : Chunk → ℕ → State → List B) → ((c : Chunk) (i : ℕ) (s : State) → length (f c i s) ≤ length (g c i s))
    → (cs : List Chunk) (sss : List (List (Option State))) → length (from_chunks f cs sss) ≤ length (from_chunks g cs sss)
unfolding from_chunks
chunks-more f g h [] sss = omega arith
chunks-more f g h (c ∷ cs) [] = omega arith
chunks-more f g h (c ∷ cs) (ss ∷ sss) =
    omega (
      arith,
      length-append (from_states (f c) 0 ss) (from_chunks f cs sss),
      length-append (from_states (g c) 0 ss) (from_chunks g cs sss),
      states-more (f c) (g c) (h c) 0 ss,
      chunks-more f g h cs sss,
    )

inspection-once : (c : Chunk) (i : ℕ) (s : State) → length (inspection_of c i s) ≤ 1
unfolding inspection_of
inspection-once c i s = go (says_false (rule_of (op_at c i)).others (last s.stack))
  where
    one : List Inspection
    one = record { chunk = c.number; instruction = i } ∷ []

    go : (b : Bool) → length (cond b one []) ≤ 1
    go true = omega arith
    go false = omega arith

branch-once : (c : Chunk) (i : ℕ) (s : State) → length (branch_of c i s) ≤ 1
unfolding branch_of
branch-once c i s = go (is_test (rule_of (op_at c i)).exit) (same (last s.stack).mask FALSE) (same (last s.stack).mask TRUE)
  where
    one : ℕ → List Branch
    one v = record { chunk = c.number; instruction = i; value = v } ∷ []

    go : (a b d : Bool) → length (cond a (cond b (one 0) (cond d (one 1) [])) []) ≤ 1
    go true true d = omega arith
    go true false true = omega arith
    go true false false = omega arith
    go false b d = omega arith

-- ---- the lines of bytes that are fields one after another
module _ (steps : ℕ) (s : List ℕ) where
  -- wherever these bytes stand in s, their lines have at most n bytes
  abbrev Lines : List ℕ → ℕ → Type 0
  Lines bs n = (p : ℕ) → Has s p bs → p + length bs ≤ length s → length (lines_from steps s p) ≤ n + length (lines_from steps s (p + length bs))

  both-lines : (xs ys : List ℕ) (a b : ℕ) → Lines xs a → Lines ys b → Lines (xs ++ ys) (a + b)
  both-lines xs ys a b f g p h l =
      let z = length-append xs ys in
      let e : p + length xs + length ys ≡ p + length (xs ++ ys) = omega arith in
      omega (
        arith,
        f p (has_left xs ys h) (omega arith),
        g (p + length xs) (has_right (length xs) xs ys refl h) (omega arith),
        ap (λ (q : ℕ). length (lines_from steps s q)) e,
      )

  field-lines : (tag : ℕ) (c : List ℕ) (n : ℕ) → ((p : ℕ) → Has s p (field tag c) → length (field_line steps s p) ≤ n) → Lines (field tag c) n
  field-lines tag c n f p h l =
      let e : next_at s p ≡ p + length (field tag c) = next-at tag c h ∙ omega (arith, field-long tag c) in
      omega (
        arith,
        ap length (lines-turn steps s p (omega (arith, field-long tag c)) (omega arith)),
        length-append (field_line steps s p) (lines_from steps s (next_at s p)),
        f p h,
        ap (λ (q : ℕ). length (lines_from steps s q)) e,
      )

  each-lines : {A : Type 0} (f : A → List ℕ) (k : ℕ) → ((x : A) → Lines (f x) (length (f x) + k)) → (xs : List A) → Lines (each f xs) (length (each f xs) + length xs * k)
  unfolding each
  each-lines f k g [] p h l = let e : p ≡ p + 0 = omega arith in omega (arith, ap (λ (q : ℕ). length (lines_from steps s q)) e)
  each-lines f k g (x ∷ xs) p h l =
      omega (
        arith,
        both-lines (f x) (each f xs) (length (f x) + k) (length (each f xs) + length xs * k) (g x) (each-lines f k g xs) p h l,
        length-append (f x) (each f xs),
      )

  -- ---- a line by its field
  first-lines : (reply : ℕ) → Lines (field 16 (le32 reply)) 37
  first-lines reply = field-lines 16 (le32 reply) 37 (λ p h. accepted-long steps s p (tag-at 16 (le32 reply) h))

  signature-lines : (x : Signature) → Lines (signature_bytes x) (length (signature_bytes x) + 0)
  unfolding signature_bytes
  signature-lines x = field-lines 17 _ _ (λ p h. omega (arith, signature-long steps s p (tag-at 17 _ h)))

  slot-lines : (c : Cell) → Lines (slot_bytes c) (length (slot_bytes c) + 0)
  unfolding slot_bytes
  slot-lines c = field-lines 18 (cell_bytes c) _ (λ p h. omega (arith, slot-long steps s p (tag-at 18 (cell_bytes c) h)))

  inspection-lines : (x : Inspection) → Lines (inspection_bytes x) (length (inspection_bytes x) + 26)
  unfolding inspection_bytes
  inspection-lines x =
      let c : List ℕ = le16 x.chunk ++ le16 x.instruction in
      field-lines 20 c _ (λ p h. omega (arith, inspection-long steps s p (tag-at 20 c h), inspection-size x))

  branch-lines : (x : Branch) → Lines (branch_bytes x) (length (branch_bytes x) + 32)
  unfolding branch_bytes
  branch-lines x =
      let c : List ℕ = le16 x.chunk ++ (le16 x.instruction ++ (x.value ∷ [])) in
      field-lines 21 c _ (λ p h. omega (arith, branch-long steps s p (tag-at 21 c h), branch-size x))

  -- the counts of a record are those of its cells
  record-counts : (x : Record) (p : ℕ) → Has s p (record_bytes x) → (at16 s (p + 7) ≡ length x.stack) × (at16 s (p + 9) ≡ length x.locals)
  unfolding record_bytes counts_bytes
  record-counts x p h =
      let cells : List ℕ = cells_bytes x.stack ++ (cells_bytes x.locals ++ (outputs_bytes x.outputs ++ guards_bytes x.guards)) in
      let counts : List ℕ = counts_bytes x in
      let numbers : List ℕ = le16 x.instruction ++ (counts ++ cells) in
      let inside : Has s (p + 3) (le16 x.chunk ++ numbers) = contents-at 19 (le16 x.chunk ++ numbers) h in
      let h₁ : Has s (p + 5) numbers = has-at (p + 5) (omega arith) (has_right 2 (le16 x.chunk) numbers (long16 _) inside) in
      let h₂ : Has s (p + 7) (counts ++ cells) = has-at (p + 7) (omega arith) (has_right 2 (le16 x.instruction) (counts ++ cells) (long16 _) h₁) in
      let h₃ : Has s (p + 7) counts = has_left counts cells h₂ in
      let behind : List ℕ = le16 (length x.locals) ++ (le16 (length x.outputs) ++ le16 (length x.guards)) in
      let h₄ : Has s (p + 9) behind = has-at (p + 9) (omega arith) (has_right 2 (le16 (length x.stack)) behind (long16 _) h₃) in
      (read16 _ (has_left (le16 (length x.stack)) behind h₃), read16 _ (has_left (le16 (length x.locals)) _ h₄))

  record-lines : (x : Record) → Lines (record_bytes x) (length (record_bytes x) + 24)
  unfolding record_bytes
  record-lines x =
      field-lines 19 _ _
      (λ p h. let (a, b) = record-counts x p h in omega (arith, record-long steps s p (tag-at 19 _ h), a, b, record-least x))

  -- ---- a report
  report-lines : (r : Report) → s ≡ report_bytes r → length (lines_from steps s 0) ≤ length s + 30 + 24 * length r.records + 26 * length r.inspections + 32 * length r.branches
  unfolding report_bytes
  report-lines r e =
      let F : List ℕ = field 16 (le32 r.reply) in
      let G₁ : List ℕ = each signature_bytes r.signatures in
      let G₂ : List ℕ = each slot_bytes r.slots in
      let G₃ : List ℕ = each record_bytes r.records in
      let G₄ : List ℕ = each inspection_bytes r.inspections in
      let G₅ : List ℕ = each branch_bytes r.branches in
      let t₄ : Lines (G₄ ++ G₅) _ = both-lines G₄ G₅ _ _ (each-lines inspection_bytes 26 inspection-lines r.inspections) (each-lines branch_bytes 32 branch-lines r.branches) in
      let t₃ : Lines (G₃ ++ (G₄ ++ G₅)) _ = both-lines G₃ (G₄ ++ G₅) _ _ (each-lines record_bytes 24 record-lines r.records) t₄ in
      let t₂ : Lines (G₂ ++ (G₃ ++ (G₄ ++ G₅))) _ = both-lines G₂ (G₃ ++ (G₄ ++ G₅)) _ _ (each-lines slot_bytes 0 slot-lines r.slots) t₃ in
      let t₁ : Lines (G₁ ++ (G₂ ++ (G₃ ++ (G₄ ++ G₅)))) _ = both-lines G₁ (G₂ ++ (G₃ ++ (G₄ ++ G₅))) _ _ (each-lines signature_bytes 0 signature-lines r.signatures) t₂ in
      let t : Lines (F ++ (G₁ ++ (G₂ ++ (G₃ ++ (G₄ ++ G₅))))) _ = both-lines F (G₁ ++ (G₂ ++ (G₃ ++ (G₄ ++ G₅)))) _ _ (first-lines r.reply) t₁ in
      let n : length s ≡ 7 + (length G₁ + (length G₂ + (length G₃ + (length G₄ + length G₅)))) =
      ap length e
      ∙ omega (
        arith,
        length-append F (G₁ ++ (G₂ ++ (G₃ ++ (G₄ ++ G₅)))),
        length-append G₁ (G₂ ++ (G₃ ++ (G₄ ++ G₅))),
        length-append G₂ (G₃ ++ (G₄ ++ G₅)),
        length-append G₃ (G₄ ++ G₅),
        length-append G₄ G₅,
        field-long 16 (le32 r.reply),
        long32 r.reply,
      ) in
      let all : Has s 0 (F ++ (G₁ ++ (G₂ ++ (G₃ ++ (G₄ ++ G₅))))) = has_same e (has_all s) in
      let end : length s ≤ 0 + length (F ++ (G₁ ++ (G₂ ++ (G₃ ++ (G₄ ++ G₅))))) = omega (arith, ap length e) in
      omega (arith, t 0 all (omega (arith, ap length e)), n, ap length (lines_end steps s _ end))

each-least : {A : Type 0} (f : A → List ℕ) (k : ℕ) → ((x : A) → k ≤ length (f x)) → (xs : List A) → length xs * k ≤ length (each f xs)
unfolding each
each-least f k g [] = omega arith
each-least f k g (x ∷ xs) = omega (arith, length-append (f x) (each f xs), g x, each-least f k g xs)

-- so many records, inspections and branches has a report of so many bytes
report-least : (r : Report) → 7 + 15 * length r.records + 7 * length r.inspections + 8 * length r.branches ≤ length (report_bytes r)
unfolding report_bytes
report-least r =
    let G₁ : List ℕ = each signature_bytes r.signatures in
    let G₂ : List ℕ = each slot_bytes r.slots in
    let G₃ : List ℕ = each record_bytes r.records in
    let G₄ : List ℕ = each inspection_bytes r.inspections in
    let G₅ : List ℕ = each branch_bytes r.branches in
    omega (
      arith,
      length-append (field 16 (le32 r.reply)) (G₁ ++ (G₂ ++ (G₃ ++ (G₄ ++ G₅)))),
      length-append G₁ (G₂ ++ (G₃ ++ (G₄ ++ G₅))),
      length-append G₂ (G₃ ++ (G₄ ++ G₅)),
      length-append G₃ (G₄ ++ G₅),
      length-append G₄ G₅,
      field-long 16 (le32 r.reply),
      long32 r.reply,
      each-least record_bytes 15 (λ x. omega (arith, record-least x)) r.records,
      each-least inspection_bytes 7 (λ x. omega (arith, inspection-size x)) r.inspections,
      each-least branch_bytes 8 (λ x. omega (arith, branch-size x)) r.branches,
    )

-- ---- a decided report
decided-few : (s : List ℕ) (words limit n : ℕ) (r : Report) → decide s words limit ≡ reported r n
    → (length r.inspections ≤ length r.records) × (length r.branches ≤ length r.records)
unfolding report_of
decided-few s words limit n r e =
    let (_, _, _, w) = of-decide s words limit r n e in
    let k = known_of (module_of s) (first_facts (module_of s)) in
    let x = w.final in
    rw (← w.says) (
      chunks-more inspection_of (λ c i s. record_of k c x.facts i s ∷ []) inspection-once k.code.chunks x.states,
      chunks-more branch_of (λ c i s. record_of k c x.facts i s ∷ []) branch-once k.code.chunks x.states,
    )

-- an accepted report lies in its buffer
accepted-room : (d : Decided) (ws buf : List ℕ) (long steps : ℕ) → (outcome_of d ws buf).answer ≡ accepts long steps → long ≤ length buf
unfolding outcome_of delivered turned_back
accepted-room (turned r) ws buf long steps h = never (cc)
accepted-room (reported r k) ws buf long steps h = go (ltb (length buf) (length (report_bytes r))) refl h
  where
    sent : Outcome
    sent = record { answer = accepts (length (report_bytes r)) k; report = report_bytes r ++ drop (length (report_bytes r)) buf; workspace = replicate (length ws) 0 }

    go : (b : Bool) → ltb (length buf) (length (report_bytes r)) ≡ b → (cond b (turned_back (nowhere 6 k) ws buf) sent).answer ≡ accepts long steps → long ≤ length buf
    go true e h = never (cc)
    go false e h = omega (arith, (accepts-same h).0, ltb-false (length buf) (length (report_bytes r)) e)

-- THEOREM: the listing of a call with a report buffer of 16,384 bytes has at most 65,536
pub listing-fits : (s ws buf : List ℕ) (limit : ℕ) → length buf ≤ 16384
    → length (listing (call s ws buf limit).answer (call s ws buf limit).report) ≤ 65536
unfolding call listing lines_from
listing-fits s ws buf limit room = go (call s ws buf limit).answer refl
  where
    go : (a : Result Accepted Refusal) → (call s ws buf limit).answer ≡ a → length (listing a (call s ws buf limit).report) ≤ 65536
    go (Err r) e = omega (arith, refused-long r)
    go (Ok a) e =
        let long = a.length in
        let steps = a.steps in
        let d = accepted-left s ws buf limit long steps e in
        let r : Report = d.report in
        let b : take long (call s ws buf limit).report ≡ report_bytes r = left-bytes _ _ buf long steps d in
        let (i, k) = decided-few s (length ws) limit steps r d.decides in
        let l : long ≤ length buf = accepted-room (decide s (length ws) limit) ws buf long steps e in
        rw b (omega (arith, report-lines steps (report_bytes r) r refl, report-least r, d.size, l, i, k, room))
