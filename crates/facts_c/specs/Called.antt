-- What a program in another language gets: a number, and an array of its own filled with numbers.
use Rattle.std.specs.Prelude.{ℕ, ◌+◌, ◌≡◌, Bool, true, not, cond, List, [], ◌∷◌, eqb, length, take, get_or, Result, Ok, Err}
use Rattle.answers.specs.Answers.{numbers, indexed_numbers, accepts, accepts_with}
use Rattle.definition.specs.Module.{module_of}
use Rattle.definition.specs.Report.{report_bytes}
use Rattle.definition.specs.Form.{form_of}
use Rattle.definition.specs.Call.{call}
use Rattle.definition.specs.CallIndexed.{call_indexed}
use Rattle.report_laws.specs.Read.{read_report}
use Rattle.consistent.specs.Consistent.{Consistent}
use Rattle.consistent.specs.OneReport.{OneReport}
use Rattle.report_bound.specs.Most.{most_report}
use Rattle.report_bound.specs.Sizes.{NoLonger}
use Rattle.lookup.specs.declared.Part.{Part}
use Rattle.lookup.specs.Find.{at_end}
use Rattle.answers.specs.declared.Refusal.{Refusal}
use Rattle.report_index.specs.Index.{agrees}
use Rattle.pausing.specs.declared.Turn.{Turn as TurnAnswer}
use Rattle.pausing.specs.Turned.{turn_numbers}
use Rattle.pausing.specs.Resumed.{StartedRun, ResumedRun}

-- s the description, ws and buf workspace and report buffer as they were; r what is returned, out, buf' and ws' what the call left
pub record CallOf (s ws buf : List ℕ) (limit r : ℕ) (out buf' ws' : List ℕ) : Type 0 where
  -- number, chunk, instruction, steps and length; the number is returned, too
  pub answer : out ≡ numbers (call s ws buf limit).answer
  pub number : r ≡ get_or out 0 0
  pub report : buf' ≡ (call s ws buf limit).report
  pub workspace : ws' ≡ (call s ws buf limit).workspace
  -- 0 is returned only where the call is accepted; demand 3, of the bytes that were written, which are exactly those of the report that is read
  -- back, and that no call accepts with others
  pub accepted : r ≡ 0 → (long : ℕ) × (steps : ℕ) × ((call s ws buf limit).answer ≡ accepts long steps) × Consistent (module_of s) (read_report (take long buf'))
      × (report_bytes (read_report (take long buf')) ≡ take long buf') × OneReport s long steps (take long buf')

-- the call with an index; idx the index buffer as it was, idx' what the call left in it
pub record IndexedCallOf (s ws buf idx : List ℕ) (limit r : ℕ) (out buf' idx' ws' : List ℕ) : Type 0 where
  -- number, chunk, instruction, steps and both lengths; the number is returned, too
  pub answer : out ≡ indexed_numbers (call_indexed s ws buf idx limit).answer
  pub number : r ≡ get_or out 0 0
  pub report : buf' ≡ (call_indexed s ws buf idx limit).report
  pub index : idx' ≡ (call_indexed s ws buf idx limit).index
  pub workspace : ws' ≡ (call_indexed s ws buf idx limit).workspace
  -- 0 is returned only where the call is accepted; demand 3, byte for byte, that no call accepts with other bytes, and that report and index
  -- agree
  pub accepted : r ≡ 0 → (long : ℕ) × (steps : ℕ) × (n : ℕ) × ((call_indexed s ws buf idx limit).answer ≡ accepts_with long steps n)
      × Consistent (module_of s) (read_report (take long buf')) × (report_bytes (read_report (take long buf')) ≡ take long buf')
      × OneReport s long steps (take long buf') × (agrees (take long buf') (take n idx') ≡ true)

-- 0 for good form, or the refusal's number
unfoldable pub form_number : Result ℕ Refusal → ℕ
form_number (Ok w) = 0
form_number (Err r) = r.number

-- the least workspace, W + 1; 0 where there is none
unfoldable pub least_words : Result ℕ Refusal → ℕ
least_words (Ok w) = w + 1
least_words (Err r) = 0

pub record WordsOf (f : Result ℕ Refusal) (r : ℕ) (out : List ℕ) : Type 0 where
  pub number : r ≡ form_number f
  pub words : out ≡ least_words f ∷ []

-- a length that no report of the description passes; 0 where there is none
unfoldable pub longest_report : List ℕ → Result ℕ Refusal → ℕ
longest_report s (Ok w) = most_report (module_of s)
longest_report s (Err r) = 0

pub record SizesOf (s : List ℕ) (r : ℕ) (out : List ℕ) : Type 0 where
  pub number : r ≡ form_number (form_of s)
  pub sizes : out ≡ least_words (form_of s) ∷ longest_report s (form_of s) ∷ []
  -- no call that accepts this description has a longer report, whatever it is lent
  pub longest : NoLonger s (get_or out 1 0)

-- 1 where there is a record, 0 where there is none; the part's first byte and its length
pub record PartOf (x : Part) (r : ℕ) (out : List ℕ) : Type 0 where
  pub there : r ≡ cond (eqb x.size 0) 0 1
  pub part : out ≡ x.first ∷ x.size ∷ []

-- as numbers: 1 and the part, 0 and the empty part at the end; 20 and the same where report and index disagree
unfoldable pub sought_number : Result Part Refusal → ℕ
sought_number (Ok x) = cond (eqb x.size 0) 0 1
sought_number (Err r) = r.number

unfoldable pub sought_part : List ℕ → Result Part Refusal → Part
sought_part s (Ok x) = x
sought_part s (Err r) = at_end s

pub record SoughtOf (s : List ℕ) (x : Result Part Refusal) (r : ℕ) (out : List ℕ) : Type 0 where
  pub number : r ≡ sought_number x
  pub part : out ≡ (sought_part s x).first ∷ (sought_part s x).size ∷ []

-- ---- a run that pauses
-- an index is wanted: any number but 0
unfoldable pub wanted : ℕ → Bool
wanted indexed = not (eqb indexed 0)

-- the call that begins a run: `run` settles the answer and what is left, `numbers` the six numbers of the answer
pub record StartOf (s ws buf idx : List ℕ) (indexed allowance r : ℕ) (out buf' idx' ws' : List ℕ) : Type 0 where
  pub answer : TurnAnswer
  pub numbers : out ≡ turn_numbers answer
  pub number : r ≡ get_or out 0 0
  pub run : StartedRun s ws buf idx (wanted indexed) allowance answer buf' idx' ws'

-- the call that takes it up
pub record ResumeOf (s ws buf idx : List ℕ) (indexed allowance r : ℕ) (out buf' idx' ws' : List ℕ) : Type 0 where
  pub answer : TurnAnswer
  pub numbers : out ≡ turn_numbers answer
  pub number : r ≡ get_or out 0 0
  pub run : ResumedRun s ws buf idx (wanted indexed) allowance answer buf' idx' ws'
