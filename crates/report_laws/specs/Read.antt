-- A report read back from its bytes, field by field, each number at its place.
use Rattle.std.specs.Prelude.{ℕ, zero, suc, ◌+◌, ◌*◌, ◌-◌, ◌/◌, cond, List, [], ◌∷◌, map, eqb, Bool, true, false, Option, None, Some}
use Rattle.le.specs.Le.{at8, at16, at32}
use Rattle.masks.specs.Mask.{of}
use Rattle.widths.specs.declared.Width.{Width}
use Rattle.widths.specs.declared.Width.TheVariants.{Unknown as Wide, Scalar, Body}
use Rattle.extents.specs.declared.BodyExtent.TheVariants.{Absent, Range, Unknown}
use Rattle.extents.specs.declared.Extent.{Extent}
use Rattle.flows.specs.declared.Predicate.{Predicate}
use Rattle.flows.specs.declared.Predicate.TheVariants.{Nothing as Untested, Tests}
use Rattle.cells.specs.declared.Cell.{Cell}
use Rattle.description.specs.Fields.{fields_from, of_tag}
use Rattle.definition.specs.Wants.{Guarded}
use Rattle.definition.specs.Report.{Report, Record, Output, Signature, Inspection, Branch}

-- n things, each so many bytes after the one before
unfoldable pub row_at : {A : Type 0} → (ℕ → A) → ℕ → ℕ → ℕ → List A
row_at f size q zero = []
row_at f size q (suc n) = f q ∷ row_at f size (q + size) n

-- ---- a cell of 49 bytes: mask, width, four extents, owned, origin, predicate
unfoldable pub read_width : List ℕ → ℕ → Width
read_width s q = cond (eqb (at8 s q) 0) Wide (cond (eqb (at8 s q) 1) (Scalar (at32 s (q + 1))) (Body (at32 s (q + 1))))

unfoldable pub read_extent : List ℕ → ℕ → Extent
read_extent s q =
    record {
      body = cond (eqb (at8 s q) 0) Absent (cond (eqb (at8 s q) 1) (Range (at32 s (q + 1)) (at32 s (q + 5))) Unknown);
    }

unfoldable pub read_owned : ℕ → Bool
read_owned b = cond (eqb b 0) false true

-- 65535 is no local
unfoldable pub read_origin : ℕ → Option ℕ
read_origin n = cond (eqb n 65535) None (Some n)

unfoldable pub read_predicate : ℕ → ℕ → Predicate
read_predicate n b = cond (eqb n 65535) Untested (Tests n (eqb b 1))

unfoldable pub read_cell : List ℕ → ℕ → Cell
read_cell s q =
    record {
      mask = of (at16 s q);
      width = read_width s (q + 2);
      flow =
          record {
            bodies = row_at (read_extent s) 9 (q + 7) 4;
            owned = read_owned (at8 s (q + 43));
            origin = read_origin (at16 s (q + 44));
            predicate = read_predicate (at16 s (q + 46)) (at8 s (q + 48));
          };
    }

unfoldable pub read_cells : List ℕ → ℕ → ℕ → List Cell
read_cells s q n = row_at (read_cell s) 49 q n

-- ---- the fields, each at the place of its tag
-- tag 17: as many inputs as its length has room for, less the result
unfoldable pub inputs_in : ℕ → ℕ
inputs_in len = len / 49

unfoldable pub read_signature : List ℕ → ℕ → Signature
read_signature s p =
    record {
      chunk = at16 s (p + 3);
      inputs = read_cells s (p + 5) (inputs_in (at16 s (p + 1) - 51));
      result = read_cell s (p + 5 + 49 * inputs_in (at16 s (p + 1) - 51));
    }

unfoldable pub read_output : List ℕ → ℕ → Output
read_output s q = record { slot = at16 s q; cell = read_cell s (q + 2) }

unfoldable pub read_guard : List ℕ → ℕ → Guarded
read_guard s q = record { place = at16 s q; mask = of (at16 s (q + 2)) }

-- tag 19: chunk, instruction, four counts, then the cells, the outputs behind their slots, and the guards
unfoldable pub read_record : List ℕ → ℕ → Record
read_record s p =
    let stack = at16 s (p + 7) in
    let locals = at16 s (p + 9) in
    let outputs = at16 s (p + 11) in
    let guards = at16 s (p + 13) in
    let after = p + 15 + 49 * stack + 49 * locals in
    record {
      chunk = at16 s (p + 3);
      instruction = at16 s (p + 5);
      stack = read_cells s (p + 15) stack;
      locals = read_cells s (p + 15 + 49 * stack) locals;
      outputs = row_at (read_output s) 51 after outputs;
      guards = row_at (read_guard s) 4 (after + 51 * outputs) guards;
    }

unfoldable pub read_inspection : List ℕ → ℕ → Inspection
read_inspection s p = record { chunk = at16 s (p + 3); instruction = at16 s (p + 5) }

unfoldable pub read_branch : List ℕ → ℕ → Branch
read_branch s p = record { chunk = at16 s (p + 3); instruction = at16 s (p + 5); value = at8 s (p + 7) }

-- the whole: tag 16 stands first, the fields of each other tag in their order
unfoldable pub read_from : List ℕ → List ℕ → Report
read_from s ps =
    record {
      reply = at32 s 3;
      signatures = map (read_signature s) (of_tag 17 s ps);
      slots = map (λ p. read_cell s (p + 3)) (of_tag 18 s ps);
      records = map (read_record s) (of_tag 19 s ps);
      inspections = map (read_inspection s) (of_tag 20 s ps);
      branches = map (read_branch s) (of_tag 21 s ps);
    }

unfoldable pub read_report : List ℕ → Report
read_report s = read_from s (fields_from s 0)
