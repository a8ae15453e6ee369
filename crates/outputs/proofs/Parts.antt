-- The parts of the definition's visit, from what the code has of it.
use Prim.Native.Nat.{ℕ, ◌+◌, ◌*◌, ◌<◌, ◌≤◌}
use native.Mathlib.Nat.{zero-add}
use native.Mathlib.Omega.{arith}
use mathlib.Core.Path.{◌≡◌, refl, sym, ap, ◌∙◌}
use mathlib.Core.Bool.{Bool, true, false, cond}
use mathlib.Core.Option.{none, some}
use mathlib.Core.List.{List}
use lib.ListN.{length, get_or, get_or-eq_default}
use Rattle.description.specs.declared.Instr.{Instr}
use Rattle.description.specs.Fields.{yielded_of, reply_of, has_site}
use Rattle.ops.specs.declared.Makes.TheVariants.{Local, Reply, Result}
use Rattle.ops.specs.declared.Acts.TheVariants.{SetsLocal, Yields, Calls}
use Rattle.ops.specs.declared.Rule.{Rule}
use Rattle.words.specs.Layout.{cell_at}
use Rattle.words.specs.Rows.{cells_at}
use Rattle.words.proofs.RowLaws.{cells_at-length, cells_at-get_d}
use Rattle.definition.specs.Module.{site_of, module_of}
use Rattle.definition.specs.Form.{fits, fit_of, local, callee}
use Rattle.definition.specs.Outputs.{no_cell, reply_shape, reply_cell}
use Rattle.definition.specs.Leaves.{visit_of, line_at}
use Rattle.definition.specs.Start.{is_site}
use Rattle.form_laws.specs.Good.{LineGood, chunk_no}
use Rattle.form_laws.proofs.Each.{row-at}
use Rattle.layout.specs.declared.Chunk.{Chunk as ChunkNumbers}
use Rattle.layout.specs.Layout.{result_at, local_at, locals_at}
use Rattle.layout.specs.Indexed.{chunk_at, suspends_at}
use Rattle.layout.proofs.Apart.{local-in}
use Rattle.layout.proofs.Read.{field-small, stack_is, locals-is, site-is}
use Rattle.visit.specs.declared.RowVisit.{RowVisit}
use Rattle.visit.specs.Held.{Looking, known_in, facts_in, state_of, visit_in}
use Rattle.rule_laws.proofs.Told.{makes-local, makes-reply, makes-result, sets_local, yields, call-is, call-callee}
use Rattle.ops.specs.Numbers.{op_call, op_get_local, op_set_local, op_yield}

-- ---- the instruction's meaning
local-meant : (op : ℕ) → op ≡ op_get_local → (fit_of op).meaning ≡ local
unfolding fit_of fits
local-meant op e = rw e

set-meant : (op : ℕ) → op ≡ op_set_local → (fit_of op).meaning ≡ local
unfolding fit_of fits
set-meant op e = rw e

-- a site that is there
reply-there : (s : List ℕ) (p : ℕ) → is_site (site_of s p) ≡ true → reply_cell (site_of s p) ≡ reply_shape (reply_of s p)
unfolding site_of is_site reply_cell
reply-there s p h = go (has_site s p) h
  where
    go : (b : Bool) → is_site (cond b (some (record { yielded = yielded_of s p; reply = reply_of s p })) none) ≡ true
        → reply_cell (cond b (some (record { yielded = yielded_of s p; reply = reply_of s p })) none) ≡ reply_shape (reply_of s p)
    go true h = refl
    go false h = cc

module _ (s ws : List ℕ) (v : RowVisit) (x : Looking s ws v) where
  pub field_room : v.field < 1048576
  field_room = omega (arith, x.field, field-small s v.chunk x.chunk v.at x.at, x.indexed.good.long)

  line-good : LineGood (module_of s) (chunk_no (module_of s) v.chunk) (line_at (chunk_no (module_of s) v.chunk) v.at)
  line-good = (x.indexed.good.each_chunk v.chunk x.chunk).lines v.at x.at

  same-a : v.ins.a ≡ (line_at (chunk_no (module_of s) v.chunk) v.at).instr.a
  same-a = ap (λ (i : Instr). i.a) x.ins

  op-is : v.ins.op ≡ (line_at (chunk_no (module_of s) v.chunk) v.at).instr.op
  op-is = ap (λ (i : Instr). i.op) x.ins

  -- ---- what its rule says of its operand a, and of its site
  local-named : v.rule.makes ≡ Local → v.ins.a < (chunk_no (module_of s) v.chunk).locals
  local-named e =
      let o = makes-local v.ins.op (ap (λ (r : Rule). r.makes) (sym x.rule) ∙ e) in
      omega (arith, same-a, line-good.local (local-meant _ (sym op-is ∙ o)))

  pub local-set : v.rule.acts ≡ SetsLocal → v.ins.a < (chunk_no (module_of s) v.chunk).locals
  local-set e =
      let o = sets_local v.ins.op (ap (λ (r : Rule). r.acts) (sym x.rule) ∙ e) in
      omega (arith, same-a, line-good.local (set-meant _ (sym op-is ∙ o)))

  callee-there : v.ins.op ≡ op_call → v.ins.a < (module_of s).signatures
  callee-there o = omega (arith, same-a, line-good.callee (call-callee _ (sym op-is ∙ o)))

  -- a callee is one of the chunks
  pub callee-in : v.ins.a < (module_of s).signatures → v.ins.a < length (module_of s).chunks
  callee-in h = omega (arith, x.indexed.good.signatures)

  pub callee-made : v.rule.makes ≡ Result → v.ins.a < (module_of s).signatures
  callee-made e = callee-there (makes-result v.ins.op (ap (λ (r : Rule). r.makes) (sym x.rule) ∙ e))

  pub callee-called : v.rule.acts ≡ Calls → v.ins.a < (module_of s).signatures
  callee-called e = callee-there (call-is v.ins.op (ap (λ (r : Rule). r.acts) (sym x.rule) ∙ e))

  site-replies : v.ins.op ≡ op_yield → reply_shape (reply_of s v.field) ≡ reply_cell (visit_in s ws v).line.site
  unfolding visit_in visit_of
  site-replies o =
      let p = site-is s v.chunk x.chunk v.at x.at ∙ ap (site_of s) (sym x.field) in
      sym (rw p (reply-there s v.field (rw p at (line-good.yields (sym op-is ∙ o)))))

  pub reply-made : v.rule.makes ≡ Reply → reply_shape (reply_of s v.field) ≡ reply_cell (visit_in s ws v).line.site
  reply-made e = site-replies (makes-reply v.ins.op (ap (λ (r : Rule). r.makes) (sym x.rule) ∙ e))

  pub reply-yielded : v.rule.acts ≡ Yields → reply_shape (reply_of s v.field) ≡ reply_cell (visit_in s ws v).line.site
  reply-yielded e = site-replies (yields v.ins.op (ap (λ (r : Rule). r.acts) (sym x.rule) ∙ e))

  -- ---- facts and flags
  pub result-is : (n : ℕ) → n < (module_of s).signatures → cell_at ws (result_at (module_of s) n) ≡ get_or (visit_in s ws v).facts.results n no_cell
  unfolding visit_in visit_of facts_in
  result-is n h =
      sym (row-at (λ k. cell_at ws (result_at (module_of s) k)) no_cell 0 (module_of s).signatures n h ∙ ap (λ (k : ℕ). cell_at ws (result_at (module_of s) k)) (zero-add n))

  pub suspends-is : (n : ℕ) → n < length (module_of s).chunks → (chunk_at s ws n).suspends ≡ get_or (visit_in s ws v).suspends n false
  unfolding visit_in visit_of known_in chunk_at
  suspends-is n h = sym (row-at (suspends_at ws) false 0 (length (module_of s).chunks) n h ∙ ap (suspends_at ws) (zero-add n))

  pub reply-is : cell_at ws 0 ≡ (visit_in s ws v).reply
  unfolding visit_in visit_of known_in
  reply-is = refl

  -- ---- with the numbers of its chunk
  module _ (ch : ChunkNumbers) (e : ch ≡ chunk_at s ws v.chunk) where
    pub streams-is : ch.streams ≡ (visit_in s ws v).streams
    unfolding visit_in visit_of known_in chunk_at
    streams-is = ap (λ (c : ChunkNumbers). c.streams) e

    pub local-room : (k : ℕ) → k < ch.locals → local_at v.row ch.stack k + 16 ≤ length ws
    local-room k h =
        omega (
          arith,
          x.row,
          stack_is s ws v.chunk ch e,
          x.indexed.room,
          local-in (module_of s) v.chunk x.chunk v.at k x.at (omega (arith, locals-is s ws v.chunk ch e)),
        )

    pub local-small : (k : ℕ) → k < ch.locals → local_at v.row ch.stack k < 4294967296
    local-small k h =
        omega (
          arith,
          x.row,
          stack_is s ws v.chunk ch e,
          x.indexed.good.small,
          local-in (module_of s) v.chunk x.chunk v.at k x.at (omega (arith, locals-is s ws v.chunk ch e)),
        )

    pub named_in : v.rule.makes ≡ Local → v.ins.a < ch.locals
    named_in m = omega (arith, local-named m, locals-is s ws v.chunk ch e)

    pub local-there : (k : ℕ) → k < ch.locals → cell_at ws (local_at v.row ch.stack k) ≡ get_or (visit_in s ws v).locals k no_cell
    unfolding visit_in visit_of state_of
    local-there k h =
        let at = locals_at v.row (chunk_no (module_of s) v.chunk).stack in
        let a : local_at v.row ch.stack k ≡ at + 16 * k = omega (arith, stack_is s ws v.chunk ch e) in
        ap (cell_at ws) a
        ∙ sym (cells_at-get_d ws at (chunk_no (module_of s) v.chunk).locals k no_cell (omega (arith, locals-is s ws v.chunk ch e)))

    pub local-none : (k : ℕ) → ch.locals ≤ k → no_cell ≡ get_or (visit_in s ws v).locals k no_cell
    unfolding visit_in visit_of state_of
    local-none k h =
        let at = locals_at v.row (chunk_no (module_of s) v.chunk).stack in
        let n = (chunk_no (module_of s) v.chunk).locals in
        sym (get_or-eq_default (cells_at ws at n) no_cell {n = k} (omega (arith, locals-is s ws v.chunk ch e, cells_at-length ws at n)))
