-- A tally begun, with one entry more, and ended. It has numbers of 32 bits.
use Rattle.std.specs.Prelude.{ℕ, ◌+◌, ◌%◌, ◌^◌, Bool, true, false}
use Rattle.tally.specs.declared.Tally.{Tally}

abbrev pub nothing : Tally
nothing = record { agreed = 0; differ = 0; more = true }

abbrev pub one_more : ℕ → ℕ
one_more n = (n + 1) % 2 ^ 32

abbrev pub counted_if : Bool → Tally → Tally
counted_if true t = record { agreed = one_more t.agreed; differ = t.differ; more = true }
counted_if false t = record { agreed = t.agreed; differ = one_more t.differ; more = true }

abbrev pub ended_at : Tally → Tally
ended_at t = record { agreed = t.agreed; differ = t.differ; more = false }
