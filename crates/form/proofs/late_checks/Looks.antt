-- The late looks: the table of parameters against the list by chunk, and one field more of each walk.
use mathlib.Core.Path.{◌≡◌, refl, sym, ◌∙◌}
use mathlib.Core.Bool.{Bool, true, false, ◌&&◌, cond}
use mathlib.Core.List.{List, [], ◌∷◌}
use Prim.Native.Nat.{ℕ, zero, suc, ◌+◌, ◌-◌, ◌<◌, ◌≤◌}
use native.Mathlib.Numerals.{add-one}
use native.Mathlib.Nat.{add-zero, zero-add, add-suc, suc-add, sub-zero}
use native.Mathlib.Omega.{arith}
use Rattle.masks.proofs.Both.{both, never}
use borrow.Author.Tests.{lt-ltb, le-ltb, ltb-true, ltb-false, eq-eqb, ne_eqb, eqb-true}
use lib.Dec.{eqb, ltb}
use lib.ListN.{length, get_or, set, replicate, length-set, length-replicate, get_or-eq_default}
use lib.Seq.{sets, length-sets, set_out, get_or-set_same, get_or-set_other}
use Rattle.std.proofs.Common.{Ok, Err}
use Rattle.answers.specs.declared.Refusal.{Refusal}
use Rattle.description.specs.Fields.{tag_at, next_at, fields_from, of_tag, instr_of}
use Rattle.description.proofs.Walk.{fields-turn, fields-end}
use Rattle.definition.specs.Module.{signed_params}
use Rattle.answers.specs.Answers.{nowhere}
use Rattle.definition.specs.Form.{parameters, late_fault, late_look, after_look}
use Rattle.form.specs.late_checks.Counted.{counted, param_list, param_table, passed}

-- ---- stores from a place on
sets-out : (l : List ℕ) (i : ℕ) (xs : List ℕ) → length l ≤ i → sets l i xs ≡ l
sets-out l i [] h = refl
sets-out l i (x ∷ xs) h = rw (set_out l i x h) (sets-out l (suc i) xs (omega arith))

sets-before : (l : List ℕ) (i : ℕ) (xs : List ℕ) (k : ℕ) → k < i → get_or (sets l i xs) k 0 ≡ get_or l k 0
sets-before l i [] k h = refl
sets-before l i (x ∷ xs) k h = sets-before (set l i x) (suc i) xs k (omega arith) ∙ get_or-set_other l i k x 0 (λ e. omega arith)

-- over zeros, what is read is what was stored, or 0
sets_over : (xs l : List ℕ) (i k : ℕ) → i + k < length l → ((j : ℕ) → i ≤ j → get_or l j 0 ≡ 0) → get_or (sets l i xs) (i + k) 0 ≡ get_or xs k 0
sets_over [] l i k h z = z (i + k) (omega arith)
sets_over (x ∷ xs) l i zero h z =
    rw (add-zero i) (sets-before (set l i x) (suc i) xs i (omega arith) ∙ get_or-set_same l i x 0 (omega arith))
sets_over (x ∷ xs) l i (suc k) h z =
    rw (add-suc i k, ← suc-add i k)
    (sets_over xs (set l i x) (suc i) k (omega (arith, length-set l i x))
    (λ j g. get_or-set_other l i j x 0 (λ e. omega arith) ∙ z j (omega arith)))

zeros : (n j : ℕ) → ◌≡◌ {A = ℕ} (get_or (replicate n 0) j 0) 0
zeros zero j = refl
zeros (suc n) zero = refl
zeros (suc n) (suc j) = zeros n j

-- a chunk past the signatures has no parameters
none-past : (s : List ℕ) (left : ℕ) (ps : List ℕ) (k : ℕ) → left ≤ k → get_or (parameters s left ps) k 0 ≡ 0
unfolding parameters signed_params
none-past s left [] k h = refl
none-past s left (p ∷ ps) zero h = rw (le-ltb 0 left (omega arith))
none-past s left (p ∷ ps) (suc k) h = none-past s (left - 1) ps k (omega arith)

table_same : (s : List ℕ) (n : ℕ) → n ≤ 64 → (k : ℕ) → get_or (param_table s n) k 0 ≡ get_or (param_list s n) k 0
unfolding param_table param_list
table_same s n h k = go (ltb k 64) refl
  where
    go : (x : Bool) → ltb k 64 ≡ x → get_or (param_table s n) k 0 ≡ get_or (param_list s n) k 0
    go true e =
        let less : k < 64 = ltb-true k 64 e in
        rw (zero-add k) at (sets_over (param_list s n) (replicate 64 0) 0 k (omega (arith, length-replicate {A = ℕ} 64 0)) (λ j g. zeros 64 j))
    go false e =
        let past : 64 ≤ k = ltb-false k 64 e in
        get_or-eq_default (param_table s n) 0 {n = k} (omega (arith, length-sets (replicate 64 0) 0 (param_list s n), length-replicate {A = ℕ} 64 0))
        ∙ sym (none-past s n (of_tag 2 s (fields_from s 0)) k (omega arith))

fault-same : (s a b : List ℕ) → ((k : ℕ) → get_or a k 0 ≡ get_or b k 0) → (p : ℕ) → late_fault s a p ≡ late_fault s b p
unfolding late_fault
fault-same s a b h p = rw (h (instr_of s p).a)

look-same : (s a b : List ℕ) → ((k : ℕ) → get_or a k 0 ≡ get_or b k 0) → (c i : ℕ) (ps : List ℕ) → late_look s a c i ps ≡ late_look s b c i ps
unfolding late_look
look-same s a b h c i [] = refl
look-same s a b h c i (p ∷ ps) =
    rw (fault-same s a b h p, look-same s a b h (c + 1) 0 ps, look-same s a b h c (i + 1) ps, look-same s a b h c i ps)

pub look-table : (s : List ℕ) (n : ℕ) → n ≤ 64 → late_look s (param_table s n) 0 0 (fields_from s 0) ≡ late_look s (param_list s n) 0 0 (fields_from s 0)
look-table s n h = look-same s (param_table s n) (param_list s n) (table_same s n h) 0 0 (fields_from s 0)

-- ---- the table, one field more
left-test : (a b : ℕ) → ltb 0 (a - b) ≡ ltb b a
left-test a b = go (ltb b a) refl
  where
    go : (x : Bool) → ltb b a ≡ x → ltb 0 (a - b) ≡ ltb b a
    go true e = let f : b < a = ltb-true b a e in lt-ltb 0 (a - b) (omega arith) ∙ sym e
    go false e = let f : a ≤ b = ltb-false b a e in le-ltb 0 (a - b) (omega arith) ∙ sym e

left_less : (a b : ℕ) → a - b - 1 ≡ a - (b + 1)
left_less a b = omega arith

-- what is still to be stored
unfoldable pub rest : List ℕ → ℕ → ℕ → ℕ → List ℕ
rest s n at chunk = parameters s (n - chunk) (of_tag 2 s (fields_from s at))

rest-chunk : (s : List ℕ) (n at chunk : ℕ) → at < length s → tag_at s at ≡ 2
    → rest s n at chunk ≡ signed_params s at (ltb chunk n) ∷ rest s n (next_at s at) (chunk + 1)
unfolding rest of_tag parameters
rest-chunk s n at chunk h e = rw (fields-turn s at h, eq-eqb (tag_at s at) 2 e, left-test n chunk, left_less n chunk)

pub fill_none : (s : List ℕ) (n : ℕ) → sets (replicate 64 0) 0 (rest s n 0 0) ≡ param_table s n
unfolding rest param_table param_list
fill_none s n = rw sub-zero

pub has_room : (tag chunk : ℕ) → (eqb tag 2 && ltb chunk 64) ≡ true → chunk < 64
has_room tag chunk test = ltb-true chunk 64 (both (eqb tag 2) (ltb chunk 64) test).1

-- a chunk that the table has room for
pub fill-put : (s l : List ℕ) (n at chunk x tag : ℕ) (w : List ℕ) → at < length s → tag ≡ tag_at s at → (eqb tag 2 && ltb chunk 64) ≡ true
    → x ≡ signed_params s at (ltb chunk n) → sets l chunk (rest s n at chunk) ≡ w
    → sets (set l chunk x) (chunk + 1) (rest s n (next_at s at) (chunk + 1)) ≡ w
fill-put s l n at chunk x tag w h et test ex inv =
    let two : tag_at s at ≡ 2 = sym et ∙ eqb-true tag 2 (both (eqb tag 2) (ltb chunk 64) test).0 in
    rw (ex, add-one chunk) (rw (rest-chunk s n at chunk h two, add-one chunk) at inv)

-- a field that is no chunk, or a chunk past the table
pub fill-skip : (s l : List ℕ) (n at chunk tag : ℕ) (w : List ℕ) → at < length s → tag ≡ tag_at s at → (eqb tag 2 && ltb chunk 64) ≡ false
    → length l ≡ 64 → sets l chunk (rest s n at chunk) ≡ w → sets l chunk (rest s n (next_at s at) chunk) ≡ w
unfolding rest of_tag
fill-skip s l n at chunk tag w h et test size inv = go (eqb tag 2) refl
  where
    go : (x : Bool) → eqb tag 2 ≡ x → sets l chunk (rest s n (next_at s at) chunk) ≡ w
    go true e =
        let full : length l ≤ chunk = omega (arith, ltb-false chunk 64 (rw e at test)) in
        sets-out l chunk (rest s n (next_at s at) chunk) full ∙ sym (sets-out l chunk (rest s n at chunk) full) ∙ inv
    go false e = rw (fields-turn s at h, ← et, e) at inv

pub fill_end : (s l : List ℕ) (n at chunk : ℕ) (w : List ℕ) → length s ≤ at → sets l chunk (rest s n at chunk) ≡ w → l ≡ w
unfolding rest of_tag parameters
fill_end s l n at chunk w h inv = rw (fields-end s at h) at inv

-- ---- the look, one field more
-- from here on the look gives w, and nothing that it counts passes its bound
pub record Looking (s params : List ℕ) (at c i : ℕ) (w : Refusal) : Type 0 where
  pub counts : counted s c i (fields_from s at) ≡ true
  pub gives : late_look s params c i (fields_from s at) ≡ w

module _ (s params : List ℕ) (at c i : ℕ) (w : Refusal) (h : at < length s) (l : Looking s params at c i w) where
  count-chunk : tag_at s at ≡ 2 → (ltb c 64 && counted s (c + 1) 0 (fields_from s (next_at s at))) ≡ true
  unfolding counted
  count-chunk e = rw (fields-turn s at h, e) at l.counts

  pub chunk-room : tag_at s at ≡ 2 → c < 64
  chunk-room e = ltb-true c 64 (both (ltb c 64) (counted s (c + 1) 0 (fields_from s (next_at s at))) (count-chunk e)).0

  pub look-chunk : tag_at s at ≡ 2 → Looking s params (next_at s at) (c + 1) 0 w
  unfolding late_look
  look-chunk e =
      record {
        counts = (both (ltb c 64) (counted s (c + 1) 0 (fields_from s (next_at s at))) (count-chunk e)).1;
        gives = rw (fields-turn s at h, e) at l.gives;
      }

  count-instr : tag_at s at ≡ 3 → (ltb i 4096 && counted s c (i + 1) (fields_from s (next_at s at))) ≡ true
  unfolding counted
  count-instr e = rw (fields-turn s at h, e) at l.counts

  pub instr-room : tag_at s at ≡ 3 → i < 4096
  instr-room e = ltb-true i 4096 (both (ltb i 4096) (counted s c (i + 1) (fields_from s (next_at s at))) (count-instr e)).0

  pub look-instr : tag_at s at ≡ 3 → late_fault s params at ≡ false → Looking s params (next_at s at) c (i + 1) w
  unfolding late_look
  look-instr e f =
      record {
        counts = (both (ltb i 4096) (counted s c (i + 1) (fields_from s (next_at s at))) (count-instr e)).1;
        gives = rw (fields-turn s at h, e, f) at l.gives;
      }

  pub look-fault : tag_at s at ≡ 3 → late_fault s params at ≡ true → ◌≡◌ {A = Refusal} (record { number = 3; chunk = c - 1; instruction = i; steps = 0 }) w
  unfolding late_look
  look-fault e f = rw (fields-turn s at h, e, f) at l.gives

  pub look-other : (tag_at s at ≡ 2 → ⊥) → (tag_at s at ≡ 3 → ⊥) → Looking s params (next_at s at) c i w
  unfolding counted late_look
  look-other two three =
      record {
        counts = rw (fields-turn s at h, ne_eqb (tag_at s at) 2 two, ne_eqb (tag_at s at) 3 three) at l.counts;
        gives = rw (fields-turn s at h, ne_eqb (tag_at s at) 2 two, ne_eqb (tag_at s at) 3 three) at l.gives;
      }

pub look-end : (s params : List ℕ) (at c i : ℕ) (w : Refusal) → length s ≤ at → Looking s params at c i w → nowhere 0 0 ≡ w
unfolding late_look
look-end s params at c i w h l = rw (fields-end s at h) at l.gives

-- ---- after the look
pub look-passed : (r : Refusal) (u : Unit {0}) (w : ℕ) → Ok u ≡ passed r → Ok w ≡ after_look r w
unfolding passed after_look
look-passed r u w h = go (eqb r.number 0) h
  where
    go : (b : Bool) → Ok u ≡ cond b (Ok tt) (Err r) → Ok w ≡ cond b (Ok w) (Err r)
    go true e = refl
    go false e = never (cc)

pub look-refused : (r e : Refusal) (w : ℕ) → Err e ≡ passed r → Err e ≡ after_look r w
unfolding passed after_look
look-refused r e w h = go (eqb r.number 0) h
  where
    go : (b : Bool) → Err e ≡ cond b (Ok (tt {0})) (Err r) → Err e ≡ cond b (Ok w) (Err r)
    go true k = never (cc)
    go false k = let q : e ≡ r = cc in rw q
