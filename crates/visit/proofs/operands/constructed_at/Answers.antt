-- `visit::operands::constructed_at` meets its contract.
use Prim.Native.Nat.{◌%◌}
use mathlib.Core.Path.{ap, ◌∙◌}
use Rattle.packing.specs.declared.Packed.{Packed}
use Rattle.packing.specs.Packing.{constructed}
use Rattle.visit.proofs.Visits.{looking-standing}
use Rattle.visit.proofs.operands.Parts.{constructed-is}
use Rattle.visit.proofs.operands.constructed_at.Goals as goal

pub packed_at-p-requires : goal.packed_at-p-requires
packed_at-p-requires c =
    let a = c.args in
    looking-standing a.s.now a.ws.now a.v c.requires.looking

pub returns : goal.returns
returns c =
    let a = c.args in
    c.constructed.ensures
    ∙ ap (λ (p : Packed). constructed p (a.v.ins.b % 256) a.v.ins.c) c.packed_at-p.ensures
    ∙ constructed-is a.s.now a.ws.now a.v c.requires.looking a.t c.requires.t_value
