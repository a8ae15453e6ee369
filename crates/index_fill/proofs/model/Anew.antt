-- The index written anew into words that hold anything else as well; where it stood before, all stays but for which chunks suspend.
use Prim.Native.Nat.{ℕ, zero, suc, ◌+◌, ◌*◌, ◌-◌, ◌/◌, ◌%◌, ◌<◌, ◌≤◌}
use mathlib.Core.Path.{◌≡◌, refl, sym, ap, ◌∙◌}
use mathlib.Core.Bool.{Bool, true, false}
use mathlib.Core.List.{List, []}
use mathlib.Core.Logic.{◌⊎◌, inl, inr}
use native.Mathlib.Omega.{arith}
use borrow.Author.Tests.{ltb-true, ltb-false}
use lib.Dec.{ltb}
use lib.ListN.{length, get_or}
use Rattle.description.specs.Fields.{next_at}
use Rattle.definition.specs.Module.{code_after, module_from, module_of}
use Rattle.definition.specs.Start.{has_site}
use Rattle.form_laws.specs.Good.{Good, chunk_no}
use Rattle.layout.specs.Layout.{area_of, numbers_at, slot_at, rows_at, row_at, word_suspends, head_words}
use Rattle.layout.specs.Indexed.{chunk_place, NumbersHold, Indexed}
use Rattle.layout.specs.declared.Tables.{Tables}
use Rattle.index_fill.specs.Refilled.{Refilled}
use Rattle.index_fill.specs.model.Model.{areas, slot_of, first_tables, first_work, unmarked_words, words_from}
use Rattle.index_fill.proofs.model.Keep.{inner, keeps}
use Rattle.index_fill.proofs.model.AtWork.{site_in}
use Rattle.index_fill.proofs.model.Chunks.{length-code-places}
use Rattle.index_fill.proofs.model.Orderly.{linked, no_code, site-in}
use Rattle.index_fill.proofs.model.Standing.{Standing, moved_word, stays}
use Rattle.index_fill.proofs.model.Unmarked.{length-unmarked, unmarked-in, unmarked-out}
use Rattle.index_fill.proofs.model.Begin.{fields_of, module-is, places-are, ordered-rest, chunks-are, room-first}
use Rattle.index_fill.proofs.model.Filled.{length_from, slots-are, slot_is, ready-first, suspends-hold, writes-stay, index-holds}

-- below a bound, or not
by-bound : {P : Type 0} (a b : ℕ) → (a < b → P) → (b ≤ a → P) → P
by-bound {P} a b less more = go (ltb a b) refl
  where
    go : (x : Bool) → ltb a b ≡ x → P
    go true e = less (ltb-true a b e)
    go false e = more (ltb-false a b e)

-- words that hold the numbers of a chunk agree on them
numbers-agree : (s ws v : List ℕ) (n : ℕ) → NumbersHold s ws n → NumbersHold s v n → (k : ℕ) → k < 10 → (k ≡ 6 → ⊥) → get_or v (numbers_at n + k) 0 ≡ get_or ws (numbers_at n + k) 0
numbers-agree s ws v n x y zero h d =
    let e : numbers_at n + zero ≡ numbers_at n = omega arith in
    rw e (y.at ∙ sym x.at)
numbers-agree s ws v n x y (suc zero) h d = y.rows ∙ sym x.rows
numbers-agree s ws v n x y (suc (suc zero)) h d = y.count ∙ sym x.count
numbers-agree s ws v n x y (suc (suc (suc zero))) h d = y.locals ∙ sym x.locals
numbers-agree s ws v n x y (suc (suc (suc (suc zero)))) h d = y.stack ∙ sym x.stack
numbers-agree s ws v n x y (suc (suc (suc (suc (suc zero))))) h d = y.reachable ∙ sym x.reachable
numbers-agree s ws v n x y (suc (suc (suc (suc (suc (suc zero)))))) h d = absurd (d refl)
numbers-agree s ws v n x y (suc (suc (suc (suc (suc (suc (suc zero))))))) h d = y.inputs ∙ sym x.inputs
numbers-agree s ws v n x y (suc (suc (suc (suc (suc (suc (suc (suc zero)))))))) h d = y.params ∙ sym x.params
numbers-agree s ws v n x y (suc (suc (suc (suc (suc (suc (suc (suc (suc zero))))))))) h d = y.streams ∙ sym x.streams
numbers-agree s ws v n x y (suc (suc (suc (suc (suc (suc (suc (suc (suc (suc k)))))))))) h d = absurd (omega arith)

module _ (s ws : List ℕ) (q : ℕ) (g : Good s q) (room : q ≤ length ws) where
  abbrev first : Tables
  first = first_tables s q

  -- no slot is marked, and then the walk
  abbrev plain : List ℕ
  plain = unmarked_words (first_tables s q) (first_tables s q).slots ws

  abbrev last : List ℕ
  last = words_from s (fields_of s) (first_tables s q) (first_work (first_tables s q) true) plain

  plain-room : q ≤ length plain
  plain-room = omega (arith, length-unmarked first first.slots ws)

  areas-fit : areas first ≤ q
  unfolding first_work
  areas-fit = omega (arith, (room-first s q g true).words)

  lower-half : (n : ℕ) → n < (module_of s).slots → get_or plain (slot_at (module_of s) n + 15) 0 ≡ get_or ws (slot_at (module_of s) n + 15) 0 % 65536
  lower-half n h =
      let l = slot_is s ws q true g room n h in
      rw (slots-are s ws q true g room n) (unmarked-in first first.slots ws n l (omega (arith, areas-fit)))

  pub index-anew : Indexed s last
  index-anew = index-holds s plain q true g plain-room (λ n h. omega (arith, lower-half n h))

  -- ---- where the index stood before
  module _ (x : Indexed s ws) where
    no_row : code_after s (fields_of s) ≡ []
    no_row = no_code s 1 (fields_of s) (inl (omega arith)) (ordered-rest s q g)

    no-site : site_in s (fields_of s) ≡ false
    unfolding has_site
    no-site = rw no_row at (site-in s 1 (next_at s 0) (fields_of s) (linked s (next_at s 0)) (ordered-rest s q g))

    standing : Standing ws s (fields_of s) first (first_work first true)
    unfolding row_at rows_at area_of chunk_no chunk_place module_from first_tables first_work
    standing =
        let f = rw (module-is s q g, places-are s q g) at x.fields in
        record {
          here = λ i h. absurd (omega (arith, length-code-places s (fields_of s), ap length no_row));
          coming = λ k i h l. moved_word ws _ _ _ (omega (arith, chunks-are s q g)) (f k i h l);
        }

    unwritten : (a : ℕ) → (a < head_words + 16 * first.chunks) ⊎ (areas first ≤ a) → ((k : ℕ) → k < first.chunks → (a < numbers_at k) ⊎ (numbers_at k + 10 ≤ a))
        → ((k : ℕ) → k < first.slots → a ≡ slot_of first k + 15 → ⊥) → get_or last a 0 ≡ get_or ws a 0
    unwritten a o l d =
        stays ws s (fields_of s) first (first_work first true) plain q (ready-first s plain q true g plain-room) standing a
        (record {
          apart = o;
          numbers = l;
          count = λ h e. omega (arith, ap length no_row);
          site = rw no-site (λ h e. let z : ◌≡◌ {A = ℕ} 0 1 = cc in omega arith);
        })
        (unmarked-out first first.slots ws a d)

    -- a chunk's numbers, and a slot
    number_same : (n k : ℕ) → n < first.chunks → k < 16 → (k ≡ 6 → ⊥) → get_or last (numbers_at n + k) 0 ≡ get_or ws (numbers_at n + k) 0
    unfolding first_tables
    number_same n k h l d =
        let c : n < length (module_of s).chunks = omega (arith, g.chunks) in
        by-bound k 10
        (λ i. numbers-agree s ws last n (x.numbers n c) (index-anew.numbers n c) k i d)
        (λ i. unwritten (numbers_at n + k) (inl (omega arith)) (λ j e. by-bound n j (λ o. inl (omega arith)) (λ o. inr (omega arith))) (λ j e f. omega arith))

    slot_same : (n k : ℕ) → n < first.slots → k < 16 → get_or last (slot_of first n + k) 0 ≡ get_or ws (slot_of first n + k) 0
    unfolding first_tables first_work module_from module_of
    slot_same n k h l =
        by-bound k 15
        (λ i. keeps s (fields_of s) first (first_work first true) plain q (room-first s q g true) (slot_of first n + k) (inner n k h (λ f. let z : ◌≡◌ {A = ℕ} 0 1 = cc in omega arith) i refl)
        ∙ unmarked-out first first.slots ws (slot_of first n + k) (λ j e f. omega arith))
        (λ i.
        let e : slot_of first n + k ≡ slot_at (module_of s) n + 15 = omega (arith, slots-are s ws q true g room n) in
        rw e (omega (arith, index-anew.marks n h, x.marks n h, writes-stay s plain q true g plain-room n h, lower-half n h)))

    -- by what a word is
    same_word : (a : ℕ) → ((n : ℕ) → n < length (module_of s).chunks → a ≡ numbers_at n + word_suspends → ⊥) → get_or last a 0 ≡ get_or ws a 0
    unfolding first_tables
    same_word a d =
        by-bound a head_words
        (λ i. unwritten a (inl (omega arith)) (λ k e. inl (omega arith)) (λ k e f. omega arith))
        (λ i. by-bound a (head_words + 16 * first.chunks)
        (λ j.
        let e : a ≡ numbers_at ((a - head_words) / 16) + (a - head_words) % 16 = omega arith in
        rw e (number_same ((a - head_words) / 16) ((a - head_words) % 16) (omega arith) (omega arith) (λ f. d ((a - head_words) / 16) (omega (arith, g.chunks)) (omega arith))))
        (λ j. by-bound a (areas first)
        (λ k.
        let b = a - (head_words + 16 * first.chunks) in
        let e : a ≡ slot_of first (b / 16) + b % 16 = omega arith in
        rw e (slot_same (b / 16) (b % 16) (omega arith) (omega arith)))
        (λ k. unwritten a (inr k) (λ n e. inr (omega arith)) (λ n e f. omega arith))))

  pub refilled : Refilled s ws last
  refilled =
      record {
        long = length_from s (fields_of s) first (first_work first true) plain ∙ length-unmarked first first.slots ws;
        suspends = suspends-hold s plain q true g plain-room;
        same = same_word;
      }
