-- What the code finds that a visit is asked is what the definition asks of it.
use Prim.Native.Nat.{ℕ, ◌<◌}
use native.Mathlib.Omega.{arith}
use mathlib.Core.Path.{◌≡◌, refl, sym, ap, ◌∙◌}
use mathlib.Core.Bool.{Bool, true, false, cond}
use mathlib.Core.Option.{none, some}
use mathlib.Core.List.{List}
use lib.ListN.{get_or}
use Rattle.masks.specs.declared.Mask.{Mask}
use Rattle.masks.specs.Mask.{of, kind, common}
use Rattle.widths.specs.Shape.{shape_mask}
use Rattle.description.specs.declared.Instr.{Instr}
use Rattle.description.specs.Fields.{has_site, yielded_of, reply_of, result_of}
use Rattle.ops.specs.declared.Asks.{Asks}
use Rattle.ops.specs.declared.Asks.TheVariants.{Free, First as OneWithin, Both as TwoWithin, Yielded, Returned, Every as EachWithin, Ordered, Same, Stored, PartOf, Never as NotProven}
use Rattle.ops.specs.declared.Rule.{Rule}
use Rattle.definition.specs.Module.{site_of, module_of}
use Rattle.definition.specs.Outputs.{no_cell, instr, common_kinds, shared}
use Rattle.definition.specs.Wants.{yielded_mask, is_entry, pair_kinds, declared_kinds, want_by, declared_mask, want_of}
use Rattle.definition.specs.Leaves.{visit_of, line_at}
use Rattle.definition.specs.Start.{is_site}
use Rattle.form_laws.specs.Good.{chunk_no}
use Rattle.layout.specs.declared.Chunk.{Chunk as ChunkNumbers}
use Rattle.layout.specs.Indexed.{chunk_at}
use Rattle.layout.proofs.Read.{place-small, field-small, place_is, declared-is, site-is}
use Rattle.visit.specs.declared.RowVisit.{RowVisit}
use Rattle.visit.specs.Held.{Looking, args_in, visit_in}
use Rattle.visit.proofs.Visits.{args_are}
use Rattle.visit.proofs.operands.Parts.{ins-is, rule-is, operand-is}
use Rattle.rule_laws.proofs.Told.{asks-yielded}

-- a site that is there
yielded-there : (s : List ℕ) (p : ℕ) → is_site (site_of s p) ≡ true → shape_mask (yielded_of s p) ≡ yielded_mask (site_of s p)
unfolding site_of is_site yielded_mask
yielded-there s p h = go (has_site s p) h
  where
    go : (b : Bool) → is_site (cond b (some (record { yielded = yielded_of s p; reply = reply_of s p })) none) ≡ true
        → shape_mask (yielded_of s p) ≡ yielded_mask (cond b (some (record { yielded = yielded_of s p; reply = reply_of s p })) none)
    go true h = refl
    go false h = cc

module _ (s ws : List ℕ) (v : RowVisit) (x : Looking s ws v) where
  pub field_room : v.field < 1048576
  field_room = omega (arith, x.field, field-small s v.chunk x.chunk v.at x.at, x.indexed.good.long)

  yielded-is : v.rule.asks ≡ Yielded → shape_mask (yielded_of s v.field) ≡ yielded_mask (visit_in s ws v).line.site
  unfolding visit_in visit_of
  yielded-is e =
      let line = line_at (chunk_no (module_of s) v.chunk) v.at in
      let o = asks-yielded v.ins.op (ap (λ (u : Rule). u.asks) (sym x.rule) ∙ e) in
      let l = ((x.indexed.good.each_chunk v.chunk x.chunk).lines v.at x.at).yields (ap (λ (i : Instr). i.op) (sym x.ins) ∙ o) in
      let p : line.site ≡ site_of s v.field = site-is s v.chunk x.chunk v.at x.at ∙ ap (site_of s) (sym x.field) in
      let t : is_site (site_of s v.field) ≡ true = rw p at l in
      yielded-there s v.field t ∙ ap yielded_mask (sym p)

  module _ (ch : ChunkNumbers) (c : ch ≡ chunk_at s ws v.chunk) where
    pub place-room : ch.at < 1048576
    place-room = omega (arith, place_is s ws v.chunk ch c, place-small s v.chunk x.chunk, x.indexed.good.long)

    result-is : shape_mask (result_of s ch.at) ≡ shape_mask (visit_in s ws v).chunk.result
    unfolding visit_in visit_of
    result-is = ap (λ (p : ℕ). shape_mask (result_of s p)) (place_is s ws v.chunk ch c) ∙ ap shape_mask (sym (declared-is s v.chunk x.chunk))

    declared-by : (a : Asks) → v.rule.asks ≡ a
        → declared_kinds a (shape_mask (yielded_of s v.field)) (shape_mask (result_of s ch.at))
        ≡ declared_kinds a (yielded_mask (visit_in s ws v).line.site) (shape_mask (visit_in s ws v).chunk.result)
    unfolding declared_kinds
    declared-by Free e = refl
    declared-by (OneWithin m) e = refl
    declared-by (TwoWithin m n) e = refl
    declared-by Yielded e = yielded-is e
    declared-by Returned e = result-is
    declared-by (EachWithin m) e = refl
    declared-by Ordered e = refl
    declared-by (Same k) e = refl
    declared-by Stored e = refl
    declared-by (PartOf k) e = refl
    declared-by NotProven e = refl

    declared-are : declared_kinds v.rule.asks (shape_mask (yielded_of s v.field)) (shape_mask (result_of s ch.at)) ≡ declared_mask (visit_in s ws v)
    unfolding declared_mask
    declared-are =
        let u = visit_in s ws v in
        declared-by v.rule.asks refl
        ∙ ap (λ (r : Rule). declared_kinds r.asks (yielded_mask u.line.site) (shape_mask u.chunk.result)) (rule-is s ws v x)

    pair_is : common (kind (get_or (args_in ws v) 0 no_cell).mask) (kind (get_or (args_in ws v) 1 no_cell).mask) ≡ pair_kinds (visit_in s ws v)
    unfolding pair_kinds
    pair_is = rw (operand-is s ws v x 0, operand-is s ws v x 1) refl

    -- all that the code hands over
    pub want_is : (all pair declared : Mask) (entry : Bool) → all ≡ common_kinds (of 65535) (args_in ws v)
        → pair ≡ common (kind (get_or (args_in ws v) 0 no_cell).mask) (kind (get_or (args_in ws v) 1 no_cell).mask)
        → declared ≡ declared_kinds v.rule.asks (shape_mask (yielded_of s v.field)) (shape_mask (result_of s ch.at))
        → entry ≡ is_entry (visit_in s ws v)
        → want_by v.rule.asks v.rule.slots v.ins all pair declared entry ≡ want_of (visit_in s ws v)
    unfolding want_of
    want_is all pair declared entry ea ee ed en =
        let u = visit_in s ws v in
        ap (λ (r : Rule). want_by r.asks r.slots v.ins all pair declared entry) (rule-is s ws v x)
        ∙ ap (λ (i : Instr). want_by u.rule.asks u.rule.slots i all pair declared entry) (ins-is s ws v x)
        ∙ ap (λ (m : Mask). want_by u.rule.asks u.rule.slots (instr u) m pair declared entry) (ea ∙ ap (common_kinds (of 65535)) (sym (args_are s ws v x)))
        ∙ ap (λ (m : Mask). want_by u.rule.asks u.rule.slots (instr u) (shared u) m declared entry) (ee ∙ pair_is)
        ∙ ap (λ (m : Mask). want_by u.rule.asks u.rule.slots (instr u) (shared u) (pair_kinds u) m entry) (ed ∙ declared-are)
        ∙ ap (want_by u.rule.asks u.rule.slots (instr u) (shared u) (pair_kinds u) (declared_mask u)) en
