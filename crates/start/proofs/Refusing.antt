-- What a chunk that is not admitted comes to, and that all are where none is found. The check's search goes by these in `start` and `restart`,
-- whatever the form in which the refusal is passed on; so an edit that passes on another is refused for what it says.
use mathlib.Core.List.{List}
use mathlib.Core.Option.{none}
use mathlib.Core.Path.{◌≡◌, sym}
use Prim.Native.Nat.{ℕ}
use Rattle.std.specs.Prelude.{Ok, Err}
use Rattle.answers.specs.declared.Refusal.{Refusal}
use Rattle.definition.specs.Module.{module_of}
use Rattle.definition.specs.Start.{admitted}
use Rattle.start.specs.admitting.Admitting.{found}
use Rattle.start.specs.Starting.{StartedAs, RebuiltAs}
use Rattle.start.proofs.Settled.{turned-back, turned-again}
use Rattle.start.proofs.admitting.Chunks.{found_none}

pub start_refused : (s ws v : List ℕ) (f : Refusal) → found (admitted (module_of s) (module_of s).chunks) ≡ Err f → StartedAs s ws v (Err f)
start_refused s ws v f e = turned-back s ws v f (sym e)

pub restart_refused : (s ws v : List ℕ) (f : Refusal) → found (admitted (module_of s) (module_of s).chunks) ≡ Err f → RebuiltAs s ws v (Err f)
restart_refused s ws v f e = turned-again s ws v f (sym e)

pub all_admitted : (s : List ℕ) → found (admitted (module_of s) (module_of s).chunks) ≡ Ok tt → admitted (module_of s) (module_of s).chunks ≡ none
all_admitted s e = found_none _ (sym e)
