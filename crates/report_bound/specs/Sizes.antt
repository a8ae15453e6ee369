-- What a host lends for a description: the least workspace, and a report buffer that is long enough whatever comes.
use Rattle.std.specs.Prelude.{ℕ, ◌+◌, ◌≤◌, ◌≡◌, List, Result, Ok, Err}
use Rattle.answers.specs.declared.Refusal.{Refusal}
use Rattle.answers.specs.Answers.{accepts, accepts_with}
use Rattle.definition.specs.Module.{module_of}
use Rattle.definition.specs.Form.{form_of}
use Rattle.definition.specs.Call.{call}
use Rattle.definition.specs.CallIndexed.{call_indexed}
use Rattle.report_bound.specs.declared.Room.{Room}
use Rattle.report_bound.specs.Most.{most_report}

-- the least workspace, W + 1, with the bound of the module; or the refusal
unfoldable pub enough_by : List ℕ → Result ℕ Refusal → Result Room Refusal
enough_by s (Ok w) = Ok (record { words = w + 1; report = most_report (module_of s) })
enough_by s (Err r) = Err r

-- the report buffer; none where there is no report
unfoldable pub report_room : Result Room Refusal → ℕ
report_room (Ok room) = room.report
report_room (Err r) = 0

-- no call that accepts the description has a report longer than n, whatever it is lent, with an index or without
pub record NoLonger (s : List ℕ) (n : ℕ) : Type 0 where
  pub plain : (ws buf : List ℕ) (limit long steps : ℕ) → (call s ws buf limit).answer ≡ accepts long steps → long ≤ n
  pub indexed : (ws buf idx : List ℕ) (limit long steps k : ℕ) → (call_indexed s ws buf idx limit).answer ≡ accepts_with long steps k → long ≤ n

pub record SizesFor (s : List ℕ) (r : Result Room Refusal) : Type 0 where
  pub answer : r ≡ enough_by s (form_of s)
  pub longest : NoLonger s (report_room r)
