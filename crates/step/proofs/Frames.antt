-- The code's visit is the definition's, also after the facts were written.
use Prim.Native.Nat.{ℕ, ◌+◌, ◌*◌, ◌-◌, ◌<◌, ◌≤◌}
use native.Mathlib.Omega.{arith}
use mathlib.Core.Path.{◌≡◌, refl, sym, ap, ◌∙◌}
use mathlib.Core.Bool.{cond}
use mathlib.Core.List.{List}
use lib.ListN.{length, get_or}
use Rattle.ops.specs.declared.Rule.{Rule}
use Rattle.ops.specs.Ops.{rule_of}
use Rattle.words.proofs.Laws.{cell_at-same}
use Rattle.words.specs.Rows.{cells_at}
use Rattle.words.proofs.RowLaws.{cells_at-length, cells_at-same}
use Rattle.definition.specs.Module.{module_of}
use Rattle.definition.specs.Outputs.{Visit, instr, outputs, setting}
use Rattle.definition.specs.Leaves.{visit_of}
use Rattle.form_laws.specs.Good.{chunk_no, row_cells}
use Rattle.layout.specs.declared.Chunk.{Chunk}
use Rattle.layout.specs.Layout.{row_at, locals_at, place_at, row_head}
use Rattle.layout.specs.Indexed.{chunk_at}
use Rattle.layout.proofs.Kept.{indexed-steady}
use Rattle.row_join.specs.declared.joining.Leaving.{Leaving}
use Rattle.row_join.specs.joining.Met.{SetAs}
use Rattle.definition.specs.Ways.{is_reset}
use Rattle.visit.specs.declared.RowVisit.{RowVisit}
use Rattle.visit.specs.Held.{Looking, args_in, state_of, visit_in}
use Rattle.layout.proofs.Read.{stack_is, locals-is}
use Rattle.visit.proofs.operands.Parts.{ins-is, rule-is}
use Rattle.visit.proofs.Visits.{at-is, args_are, below-is, below-long}
use Rattle.outputs.proofs.Parts.{streams-is, reply-is}
use Rattle.run_state.specs.Course.{FactsOnly}
use Rattle.propagate.specs.Passing.{locals_of}
use Rattle.step.specs.Alike.{Alike}

module _ (s ws : List ℕ) (v : RowVisit) (look : Looking s ws v) (ch : Chunk) (e : ch ≡ chunk_at s ws v.chunk) where
  locals_are : locals_of ws ch v ≡ (visit_in s ws v).locals
  unfolding visit_in visit_of state_of
  locals_are = λ i. cells_at ws (locals_at v.row (stack_is s ws v.chunk ch e i)) (locals-is s ws v.chunk ch e i)

  table_is : (visit_in s ws v).rule ≡ rule_of (instr (visit_in s ws v)).op
  unfolding visit_in visit_of
  table_is = refl

  pub alike_of : (l : Leaving) → l.made ≡ outputs (visit_in s ws v) → SetAs (setting (visit_in s ws v) v.rule.acts) l.set
      → l.resets ≡ is_reset v.rule.acts → l.height ≡ cond (is_reset v.rule.acts) v.ins.given (v.start + v.ins.given)
      → Alike ws ch v (visit_in s ws v) l
  unfolding visit_in state_of
  alike_of l made sets resets height =
      record {
        rule = rule-is s ws v look;
        table = table_is;
        at = sym (at-is s ws v);
        ins = ins-is s ws v look;
        args = sym (args_are s ws v look);
        below = sym (below-is s ws v look);
        locals = locals_are;
        few = omega (arith, ap length (sym locals_are), cells_at-length ws (locals_at v.row ch.stack) ch.locals, locals-is s ws v.chunk ch e, (look.indexed.good.each_chunk v.chunk look.chunk).locals);
        streams = streams-is s ws v look ch e;
        reply = reply-is s ws v look;
        made = made;
        sets = rw (rule-is s ws v look) at sets;
        resets = resets ∙ ap (λ (r : Rule). is_reset r.acts) (rule-is s ws v look);
        height = height ∙ (λ i. cond (is_reset (rule-is s ws v look i).acts) (ins-is s ws v look i).given (sym (below-long s ws v look) i + (ins-is s ws v look i).given));
      }

-- ---- after a write to the facts
module _ (s ws u : List ℕ) (v : RowVisit) (look : Looking s ws v) (f : FactsOnly s ws u) where
  row_same : (k : ℕ) → k < 16 * row_cells (chunk_no (module_of s) v.chunk) → get_or u (v.row + k) 0 ≡ get_or ws (v.row + k) 0
  row_same k l = rw look.row (f.rows v.chunk v.at k look.chunk look.at l)

  pub looking-facts : Looking s u v
  looking-facts =
      record {
        indexed = indexed-steady s ws u f.steady look.indexed;
        chunk = look.chunk;
        at = look.at;
        row = look.row;
        height = f-height;
        low = look.low;
        ins = look.ins;
        rule = look.rule;
        field = look.field;
        start = look.start;
      }
    where
      f-height : get_or u (row_at (module_of s) v.chunk v.at) 0 ≡ v.height + 1
      f-height =
          let z : row_at (module_of s) v.chunk v.at ≡ row_at (module_of s) v.chunk v.at + 0 = omega arith in
          ap (λ (j : ℕ). get_or u j 0) z
          ∙ f.rows v.chunk v.at 0 look.chunk look.at (omega arith)
          ∙ ap (λ (j : ℕ). get_or ws j 0) (sym z)
          ∙ look.height

  cells_same : (a n : ℕ) → row_head ≤ a → a + 16 * n ≤ 16 * row_cells (chunk_no (module_of s) v.chunk) → cells_at u (v.row + a) n ≡ cells_at ws (v.row + a) n
  cells_same a n h l =
      cells_at-same u ws (v.row + a) (v.row + a) n
      (λ j o. let z : v.row + a + j ≡ v.row + (a + j) = omega arith in rw z (row_same (a + j) (omega arith)))

  pub alike-facts : (ch : Chunk) → ch ≡ chunk_at s ws v.chunk → (x : Visit) (l : Leaving) → Alike ws ch v x l → Alike u ch v x l
  unfolding args_in
  alike-facts ch e x l a =
      record {
        rule = a.rule;
        table = a.table;
        at = a.at;
        ins = a.ins;
        args =
            let z : place_at v.row v.start ≡ v.row + (row_head + 16 * v.start) = omega arith in
            rw z (cells_same (row_head + 16 * v.start) (v.height - v.start) (omega arith) (omega (arith, look.low, look.start))) ∙ sym (ap (λ (j : ℕ). cells_at ws j (v.height - v.start)) z) ∙ a.args;
        below = cells_same row_head v.start (omega arith) (omega (arith, look.low, look.start)) ∙ a.below;
        locals =
            let z : locals_at v.row ch.stack ≡ v.row + (row_head + 16 * ch.stack) = omega arith in
            ap (λ (j : ℕ). cells_at u j ch.locals) z
            ∙ cells_same (row_head + 16 * ch.stack) ch.locals (omega arith) (omega (arith, stack_is s ws v.chunk ch e, locals-is s ws v.chunk ch e))
            ∙ sym (ap (λ (j : ℕ). cells_at ws j ch.locals) z)
            ∙ a.locals;
        few = a.few;
        streams = a.streams;
        reply = cell_at-same u ws 0 0 (λ j o. f.front (0 + j) (omega arith)) ∙ a.reply;
        made = a.made;
        sets = a.sets;
        resets = a.resets;
        height = a.height;
      }
