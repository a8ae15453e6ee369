-- Each way through `check_room` comes to what the definition says.
use Prim.Native.Nat.{ℕ}
use mathlib.Core.Path.{◌≡◌}
use mathlib.Core.List.{List}
use Rattle.std.proofs.Common.{Ok, Err}
use Rattle.answers.specs.declared.Refusal.{Refusal}
use Rattle.definition.specs.Form.{form_of}
use Rattle.form.specs.room.Room.{room_by, room_of, with_room}

-- what the code's two cases come to
pub room-turned : (s : List ℕ) (words : ℕ) (r : Refusal) → form_of s ≡ Err r → Err r ≡ room_of s words
unfolding room_of room_by
room-turned s words r e = rw e

pub room-went : (s : List ℕ) (words w : ℕ) → form_of s ≡ Ok w → with_room w words ≡ room_of s words
unfolding room_of room_by
room-went s words w e = rw e
