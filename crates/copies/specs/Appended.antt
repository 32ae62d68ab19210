-- What a function that appends rows does to its table.
use Rattle.std.specs.Prelude.{◌*◌, ◌+◌, ℕ, ℤ, drop, length, take, List, ◌++◌, ◌≡◌}

-- the numbers `added` stand behind the first `count` rows, which are as they were; `next` rows are filled then, and the rows from there on are as they were
pub record Appended (before after : List ℤ) (count next : ℕ) (added : List ℤ) : Type 0 where
  pub is : take (5 * next) after ≡ take (5 * count) before ++ added
  pub ends : 5 * next ≡ 5 * count + length added
  pub behind : drop (5 * next) after ≡ drop (5 * next) before
  pub size : length after ≡ length before
