-- Refusals 1 to 4, then 5: a workspace under W + 1 words.
use Rattle.std.specs.Prelude.{ℕ, ◌-◌, cond, List, leb, Result, Ok, Err}
use Rattle.answers.specs.Answers.{nowhere}
use Rattle.definition.specs.Form.{form_of}
use Rattle.definition.specs.Module.{module_of}
use Rattle.definition.specs.Call.{Decided, turned, decided}
use Rattle.answers.specs.declared.Refusal.{Refusal}

unfoldable pub with_room : ℕ → ℕ → Result ℕ Refusal
with_room w words = cond (leb words w) (Err (nowhere 5 0)) (Ok w)

unfoldable pub room_by : Result ℕ Refusal → ℕ → Result ℕ Refusal
room_by (Err r) words = Err r
room_by (Ok w) words = with_room w words

unfoldable pub room_of : List ℕ → ℕ → Result ℕ Refusal
room_of s words = room_by (form_of s) words

-- what is decided after the form and the room were looked at
unfoldable pub on_room : List ℕ → ℕ → ℕ → Result ℕ Refusal → Decided
on_room s words limit (Err r) = turned r
on_room s words limit (Ok w) = decided (module_of s) (words - w) limit
