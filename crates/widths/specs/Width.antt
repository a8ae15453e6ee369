-- Widths: their join, and `scalar_width` of types.rs.
use Rattle.std.specs.Prelude.{ℕ, Bool, true, false, cond, eqb}
use Rattle.masks.specs.declared.Mask.{Mask}
use Rattle.masks.specs.Mask.{kind}
use Rattle.widths.specs.declared.Width.{Width}
use Rattle.widths.specs.declared.Width.TheVariants.{Unknown as Wide, Scalar, Body}

abbrev pub same_width : Width → Width → Bool
same_width Wide Wide = true
same_width Wide (Scalar b) = false
same_width Wide (Body b) = false
same_width (Scalar a) Wide = false
same_width (Scalar a) (Scalar b) = eqb a b
same_width (Scalar a) (Body b) = false
same_width (Body a) Wide = false
same_width (Body a) (Scalar b) = false
same_width (Body a) (Body b) = eqb a b

-- a flat order: what is unequal goes to the top
abbrev pub flat : {A : Type 0} → (A → A → Bool) → A → A → A → A
flat test top x y = cond (test x y) x top

abbrev pub join_width : Width → Width → Width
join_width = flat same_width Wide

abbrev pub width_of_kind : ℕ → ℕ → Width
width_of_kind n float =
    cond (eqb n 1) (Scalar 0)
    (cond (eqb n 2) (Scalar 1)
    (cond (eqb n 4) (Scalar 1)
    (cond (eqb n 8) (Scalar 8)
    (cond (eqb n 16) (Scalar 8)
    (cond (eqb n 32) (Scalar float)
    Wide)))))

unfoldable pub scalar_width : Mask → ℕ → Width
scalar_width m float = width_of_kind (kind m).bits float
