-- What `decide` makes of it: turned back with the same refusal, or decided over the module with the words beyond W as the queue's room.
use Prim.Native.Nat.{ℕ, ◌-◌, ◌<◌}
use native.Mathlib.Omega.{arith}
use mathlib.Core.Path.{◌≡◌, refl}
use mathlib.Core.Bool.{Bool, true, false, cond}
use mathlib.Core.List.{List}
use lib.Dec.{leb}
use borrow.Author.Tests.{leb-false}
use Rattle.std.proofs.Common.{Result, Ok, Err}
use Rattle.answers.specs.Answers.{nowhere}
use Rattle.definition.specs.Form.{form_of}
use Rattle.definition.specs.Module.{module_of}
use Rattle.definition.specs.Call.{turned, decided, on_form, decide}
use Rattle.masks.proofs.Both.{never}
use Rattle.form.specs.room.Room.{with_room, room_by, room_of, on_room}
use Rattle.answers.specs.declared.Refusal.{Refusal}

room_by_lem : (s : List ℕ) (words limit : ℕ) (f : Result ℕ Refusal) → on_form s words limit f ≡ on_room s words limit (room_by f words)
unfolding on_form on_room room_by with_room
room_by_lem s words limit (Err r) = refl
room_by_lem s words limit (Ok w) = go (leb words w)
  where
    go : (b : Bool) → cond b (turned (nowhere 5 0)) (decided (module_of s) (words - w) limit) ≡ on_room s words limit (cond b (Err (nowhere 5 0)) (Ok w))
    go true = refl
    go false = refl

-- THEOREM: refusals 1 to 5 are the definition's, and so is what follows where there is none
pub room-decides : (s : List ℕ) (words limit : ℕ) → decide s words limit ≡ on_room s words limit (room_of s words)
unfolding decide room_of
room-decides s words limit = room_by_lem s words limit (form_of s)

room-here : (w words v : ℕ) (b : Bool) → leb words w ≡ b → cond b (Err (nowhere 5 0)) (Ok w) ≡ Ok v → (◌≡◌ {A = Result ℕ Refusal} (Ok w) (Ok v)) × (v < words)
room-here w words v true e h = never (cc)
room-here w words v false e h = let q : w ≡ v = cc in (h, omega (arith, leb-false words w e))

room_fits : (f : Result ℕ Refusal) (words w : ℕ) → room_by f words ≡ Ok w → (f ≡ Ok w) × (w < words)
unfolding room_by with_room
room_fits (Err r) words w h = never (cc)
room_fits (Ok v) words w h = room-here v words w (leb words v) refl h

-- where it is fine, there is good form and a word beyond W
pub room-fine : (s : List ℕ) (words w : ℕ) → room_of s words ≡ Ok w → (form_of s ≡ Ok w) × (w < words)
unfolding room_of
room-fine s words w h = room_fits (form_of s) words w h
