-- The whole report as the code writes it, tag by tag.
use Prim.Native.Nat.{ℕ, ◌+◌, ◌*◌, ◌<◌, ◌≤◌}
use native.Mathlib.Omega.{arith}
use mathlib.Core.Path.{◌≡◌, sym, ap, ap₂, ◌∙◌}
use mathlib.Core.List.{List, ◌∷◌, ◌++◌}
use lib.ListN.{length, length-append}
use Rattle.le.specs.Le.{le16, le32}
use Rattle.definition.specs.Module.{module_of}
use Rattle.definition.specs.Report.{field, slot_bytes, report_bytes}
use Rattle.layout.specs.declared.Tables.{Tables}
use Rattle.layout.specs.Layout.{area_of, head_words}
use Rattle.layout.specs.Indexed.{Indexed, tables_of}
use Rattle.layout.proofs.Apart.{area_in}
use Rattle.layout.proofs.Read.{chunks-are, slots-are, slot_is, signatures-are}
use Rattle.report_size.specs.Reporting.{report_in}
use Rattle.report_size.specs.Span.{span}
use Rattle.report_size.proofs.Span.{span_same}
use Rattle.report_size.specs.Adds.{bare_at, signature_at, chunks_for}
use Rattle.report_size.proofs.Adds.{private_at, report-added}
use Rattle.report_write.specs.records.Writes.{slot_from}

module _ (s ws : List ℕ) (t : Tables) (e : t ≡ tables_of s) where
  slots_same : span (private_at s ws) 0 (module_of s).slots ≡ span (slot_from ws t.chunks) 0 t.slots
  unfolding private_at slot_from
  slots_same =
      span_same (private_at s ws) 0 (slot_from ws t.chunks) (module_of s).slots (λ k l h. ap (λ (p : ℕ). slot_bytes (bare_at ws p)) (sym (slot_is s t e k)))
      ∙ ap (span (slot_from ws t.chunks) 0) (sym (slots-are s t e))

  pub report-parts : (reply : ℕ)
      → (16 ∷ le16 4)
      ++ (le32 reply
      ++ (span (signature_at s ws) 0 t.signatures
      ++ (span (slot_from ws t.chunks) 0 t.slots
      ++ (chunks_for s ws 19
      ++ (chunks_for s ws 20
      ++ chunks_for s ws 21)))))
      ≡ report_bytes (report_in s ws reply)
  unfolding field le16 le32
  report-parts reply =
      sym (report-added s ws reply
      ∙ ap₂ (λ (a b : List ℕ). field 16 (le32 reply) ++ (a ++ (b ++ (chunks_for s ws 19 ++ (chunks_for s ws 20 ++ chunks_for s ws 21)))))
      (ap (span (signature_at s ws) 0) (sym (signatures-are s t e))) slots_same)

  pub report-room : (reply : ℕ)
      → length (report_bytes (report_in s ws reply))
      ≡ 7 + (length (span (signature_at s ws) 0 t.signatures)
      + (length (span (slot_from ws t.chunks) 0 t.slots) + (length (chunks_for s ws 19) + (length (chunks_for s ws 20) + length (chunks_for s ws 21)))))
  unfolding le16 le32
  report-room reply =
      let a = span (signature_at s ws) 0 t.signatures in
      let b = span (slot_from ws t.chunks) 0 t.slots in
      let c = chunks_for s ws 19 in
      let d = chunks_for s ws 20 in
      let g = chunks_for s ws 21 in
      omega (
        arith,
        ap length (report-parts reply),
        length-append a (b ++ (c ++ (d ++ g))),
        length-append b (c ++ (d ++ g)),
        length-append c (d ++ g),
        length-append d g,
      )

  -- the slots stand in the workspace
  pub slots-room : Indexed s ws → (head_words + 16 * t.chunks + 16 * t.slots ≤ length ws) × (head_words + 16 * t.chunks + 16 * t.slots < 4294967296)
  unfolding area_of
  slots-room x =
      let a = area_in (module_of s) 0 (omega (arith, x.good.entry, x.good.signatures)) in
      let c = chunks-are s t e in
      let n = slots-are s t e in
      (omega (arith, a, c, n, x.room), omega (arith, a, c, n, x.good.small))
