-- Where, among the first n entries of an index, those that stand before a chunk and an instruction end.
use Rattle.std.specs.Prelude.{ℕ, ◌<◌, ◌≤◌, ◌≡◌, true, false, List}
use Rattle.report_index.specs.Index.{entry_no, is_before}

pub record Split (x : List ℕ) (n c i r : ℕ) : Type 0 where
  pub inside : r ≤ n
  pub below : (k : ℕ) → k < r → is_before c i (entry_no x k) ≡ true
  pub above : (k : ℕ) → r ≤ k → k < n → is_before c i (entry_no x k) ≡ false
