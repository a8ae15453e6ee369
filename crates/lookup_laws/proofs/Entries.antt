-- The walk over the bytes of a report lists its records: fields of other tags are passed over, each record gives its entry.
use Prim.Native.Nat.{ℕ, ◌+◌, ◌-◌, ◌<◌, ◌≤◌}
use native.Mathlib.Omega.{arith}
use mathlib.Core.Path.{◌≡◌, refl, sym, ◌∙◌, ap}
use mathlib.Core.Bool.{true, false}
use mathlib.Core.List.{List, [], ◌∷◌, ◌++◌}
use lib.ListN.{length, length-append}
use borrow.Author.Tests.{eq-eqb, ne_eqb, lt-ltb}
use Rattle.le.specs.Le.{at16, le16, le32}
use Rattle.description.specs.Fields.{tag_at, len_at, next_at}
use Rattle.definition.specs.Report.{Report, Record, field, each, signature_bytes, slot_bytes, record_bytes, counts_bytes, cells_bytes, outputs_bytes, guards_bytes, inspection_bytes, branch_bytes, report_bytes}
use Rattle.report_laws.proofs.Has.{Has, has_left, has_right, has-at, has_same, has_all, read16, long16, long32}
use Rattle.report_laws.proofs.Walk.{field-long, contents-at, tag-at, next-at, length_at}
use Rattle.lookup.specs.Find.{is_record, entry_at, entries_in}
use Rattle.lookup.proofs.Turns.{entries_from, entries-start, entries-end, entries-record, entries-other}
use Rattle.lookup_laws.specs.Entries.{entry_on, entries_on, records_at, record_entries}

-- bytes that are a field of this tag
record Fielded (tag : ℕ) (bs : List ℕ) : Type 0 where
  contents : List ℕ
  same : bs ≡ field tag contents

-- the contents of a record, its two numbers first
abbrev after : Record → List ℕ
after x = counts_bytes x ++ (cells_bytes x.stack ++ (cells_bytes x.locals ++ (outputs_bytes x.outputs ++ guards_bytes x.guards)))

abbrev in_record : Record → List ℕ
in_record x = le16 x.chunk ++ (le16 x.instruction ++ after x)

record-field : (x : Record) → record_bytes x ≡ field 19 (in_record x)
unfolding record_bytes
record-field x = refl

-- tag and length, two numbers, four counts
pub record-long : (x : Record) → 15 ≤ length (record_bytes x)
unfolding record_bytes counts_bytes field le16
record-long x = omega arith

module _ (s : List ℕ) where
  -- ---- fields of another tag are passed over
  past : {p : ℕ} (tag : ℕ) (b : List ℕ) → (tag ≡ 19 → ⊥) → Has s p (field tag b) → p + (3 + length b) ≤ length s → entries_from s p ≡ entries_from s (p + (3 + length b))
  unfolding is_record
  past {p} tag b ne h l =
      let n : next_at s p ≡ p + (3 + length b) = next-at tag b h ∙ omega arith in
      let e : is_record s p ≡ false = rw (ne_eqb (tag_at s p) 19 (λ q. ne (sym (tag-at tag b h) ∙ q))) in
      entries-other s p (omega arith) (omega arith) e ∙ ap (entries_from s) n

  past_all : {A : Type 0} {p : ℕ} (tag : ℕ) (f : A → List ℕ) → ((x : A) → Fielded tag (f x)) → (tag ≡ 19 → ⊥) → (xs : List A) → Has s p (each f xs)
      → p + length (each f xs) ≤ length s → entries_from s p ≡ entries_from s (p + length (each f xs))
  unfolding each
  past_all {p = p} tag f is ne [] h l = let e : p ≡ p + 0 = omega arith in ap (entries_from s) e
  past_all {p = p} tag f is ne (x ∷ xs) h l =
      let b = (is x).contents in
      let n : length (f x) ≡ 3 + length b = ap length (is x).same ∙ field-long tag b in
      let m = length-append (f x) (each f xs) in
      let e : p + (3 + length b) + length (each f xs) ≡ p + length (f x ++ each f xs) = omega arith in
      past tag b ne (has_same (is x).same (has_left (f x) (each f xs) h)) (omega arith)
      ∙ past_all {p = p + (3 + length (is x).contents)} tag f is ne xs (has_right (3 + length b) (f x) (each f xs) n h) (omega arith)
      ∙ ap (entries_from s) e

  -- ---- a record gives its entry
  module _ {p : ℕ} (x : Record) (h : Has s p (record_bytes x)) where
    as-field : Has s p (field 19 (in_record x))
    as-field = has_same (record-field x) h

    next : next_at s p ≡ p + length (record_bytes x)
    next = next-at 19 (in_record x) as-field ∙ omega (arith, ap length (record-field x), field-long 19 (in_record x))

    is-record : is_record s p ≡ true
    unfolding is_record len_at
    is-record =
        let n : 3 < at16 s (p + 1) = omega (arith, record-long x, length_at 19 (in_record x) as-field, ap length (record-field x), field-long 19 (in_record x)) in
        rw (eq-eqb (tag_at s p) 19 (tag-at 19 (in_record x) as-field), lt-ltb 3 (at16 s (p + 1)) n)

    entry : entry_at s p ≡ entry_on p x
    unfolding entry_at
    entry =
        let b : Has s (p + 3) (in_record x) = contents-at 19 (in_record x) as-field in
        let c : at16 s (p + 3) ≡ x.chunk = read16 x.chunk (has_left (le16 x.chunk) (le16 x.instruction ++ after x) b) in
        let q : Has s (p + 5) (le16 x.instruction ++ after x) = has-at (p + 5) (omega arith) (has_right 2 (le16 x.chunk) (le16 x.instruction ++ after x) (long16 x.chunk) b) in
        let i : at16 s (p + 5) ≡ x.instruction = read16 x.instruction (has_left (le16 x.instruction) (after x) q) in
        let n : next_at s p - p ≡ length (record_bytes x) = omega (arith, next) in
        rw (c, i, n)

  -- the records in their order, if none follow
  listed : {p : ℕ} (xs : List Record) → Has s p (each record_bytes xs) → p + length (each record_bytes xs) ≤ length s
      → entries_from s (p + length (each record_bytes xs)) ≡ [] → entries_from s p ≡ entries_on p xs
  unfolding each entries_on
  listed {p} [] h l e = let z : p ≡ p + 0 = omega arith in ap (entries_from s) z ∙ e
  listed {p} (x ∷ xs) h l e =
      let m = length-append (record_bytes x) (each record_bytes xs) in
      let z : p + length (record_bytes x) + length (each record_bytes xs) ≡ p + length (record_bytes x ++ each record_bytes xs) = omega arith in
      let hx : Has s p (record_bytes x) = has_left (record_bytes x) (each record_bytes xs) h in
      let rest = listed {p = p + length (record_bytes x)} xs (has_right (length (record_bytes x)) (record_bytes x) (each record_bytes xs) refl h) (omega arith) (ap (entries_from s) z ∙ e) in
      entries-record s p (omega (arith, record-long x)) (omega (arith, next x hx)) (is-record x hx) ∙ rw (entry x hx, next x hx, rest)

-- ---- the groups of a report
pub record Laid (s : List ℕ) (r : Report) : Type 0 where
  pub entries : entries_in s ≡ record_entries r
  pub records : Has s (records_at r) (each record_bytes r.records)
  pub fits : records_at r + length (each record_bytes r.records) ≤ length s

laid : (s : List ℕ) (r : Report) → s ≡ report_bytes r → Laid s r
unfolding report_bytes signature_bytes slot_bytes inspection_bytes branch_bytes record_entries
laid s r e =
    let F : List ℕ = field 16 (le32 r.reply) in
    let G₁ : List ℕ = each signature_bytes r.signatures in
    let G₂ : List ℕ = each slot_bytes r.slots in
    let G₃ : List ℕ = each record_bytes r.records in
    let G₄ : List ℕ = each inspection_bytes r.inspections in
    let G₅ : List ℕ = each branch_bytes r.branches in
    let T₄ : List ℕ = G₄ ++ G₅ in
    let T₃ : List ℕ = G₃ ++ T₄ in
    let T₂ : List ℕ = G₂ ++ T₃ in
    let T₁ : List ℕ = G₁ ++ T₂ in
    let lF : length F ≡ 7 = field-long 16 (le32 r.reply) ∙ omega (arith, long32 r.reply) in
    let l : length s ≡ 7 + length G₁ + length G₂ + length G₃ + length G₄ + length G₅ =
    ap length e ∙ omega (arith, length-append F T₁, length-append G₁ T₂, length-append G₂ T₃, length-append G₃ T₄, length-append G₄ G₅) in
    let p₂ : ℕ = 7 + length G₁ in
    let p₃ : ℕ = p₂ + length G₂ in
    let p₄ : ℕ = p₃ + length G₃ in
    let p₅ : ℕ = p₄ + length G₄ in
    let h : Has s 0 (F ++ T₁) = has_same e (has_all s) in
    let t₁ : Has s 7 T₁ = has_right 7 F T₁ lF h in
    let t₂ : Has s p₂ T₂ = has_right (length G₁) G₁ T₂ refl t₁ in
    let t₃ : Has s p₃ T₃ = has_right (length G₂) G₂ T₃ refl t₂ in
    let t₄ : Has s p₄ T₄ = has_right (length G₃) G₃ T₄ refl t₃ in
    let h₃ : Has s p₃ G₃ = has_left G₃ T₄ t₃ in
    let h₅ : Has s p₅ G₅ = has_right (length G₄) G₄ G₅ refl t₄ in
    let w₀ : entries_from s 0 ≡ entries_from s 7 =
    past s 16 (le32 r.reply) (λ q. omega arith) (has_left F T₁ h) (omega (arith, long32 r.reply, l))
    ∙ ap (entries_from s) (omega (arith, long32 r.reply)) in
    let w₁ : entries_from s 7 ≡ entries_from s p₂ =
    past_all s 17 signature_bytes (λ x. record { contents = _; same = refl }) (λ q. omega arith) r.signatures (has_left G₁ T₂ t₁) (omega (arith, l)) in
    let w₂ : entries_from s p₂ ≡ entries_from s p₃ =
    past_all s 18 slot_bytes (λ x. record { contents = _; same = refl }) (λ q. omega arith) r.slots (has_left G₂ T₃ t₂) (omega (arith, l)) in
    let w₄ : entries_from s p₄ ≡ entries_from s p₅ =
    past_all s 20 inspection_bytes (λ x. record { contents = _; same = refl }) (λ q. omega arith) r.inspections (has_left G₄ G₅ t₄) (omega (arith, l)) in
    let w₅ : entries_from s p₅ ≡ entries_from s (p₅ + length G₅) =
    past_all s 21 branch_bytes (λ x. record { contents = _; same = refl }) (λ q. omega arith) r.branches h₅ (omega (arith, l)) in
    let w : entries_from s p₄ ≡ [] = w₄ ∙ w₅ ∙ entries-end s (p₅ + length G₅) (omega (arith, l)) in
    let w₃ : entries_from s p₃ ≡ entries_on p₃ r.records = listed s r.records h₃ (omega (arith, l)) w in
    record { entries = sym (entries-start s) ∙ w₀ ∙ w₁ ∙ w₂ ∙ w₃; records = h₃; fits = omega (arith, l) }

pub report-laid : (r : Report) → Laid (report_bytes r) r
report-laid r = laid (report_bytes r) r refl

-- THEOREM
pub report-entries : (r : Report) → entries_in (report_bytes r) ≡ record_entries r
report-entries r = (report-laid r).entries
