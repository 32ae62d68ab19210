-- What an answer of the code about a line's numbers means.
use Rattle.std.specs.Prelude.{◌+◌, ◌≤◌, ℕ, nat_abs, ℤ, length, take, List, [], ◌++◌, ◌∷◌, ◌≡◌, None, Option, Some}
use Rattle.fields.specs.Positions.{fields_from}
use Rattle.language.specs.Answer.{Answer, ◌>>=◌, got, refused}
use Rattle.language.specs.Limits.{max_amount}
use Rattle.language.specs.Sheet.{numbers}
use Rattle.lines.specs.declared.numbers.Two.{Two}

-- n numbers were read; where there is room for all, the list holds them from place `from` on
pub record Stored (line : List ℕ) (at : ℕ) (before after : List ℤ) (from n : ℕ) : Type 0 where
  pub read : List ℤ
  pub is : numbers (fields_from line at) ≡ got read
  pub count : length read ≡ n
  pub holds : from + n ≤ length before → take (from + n) after ≡ take from before ++ read
  pub bounded : n ≤ length line + 1

abbrev pub NumbersAre : List ℕ → ℕ → List ℤ → List ℤ → ℕ → Option ℕ → Type 0
NumbersAre line at before after from (Some n) = Stored line at before after from n
NumbersAre line at before after from None = numbers (fields_from line at) ≡ refused 2

-- the numbers are refused, or there are fewer than two
abbrev pub Short : Answer (List ℤ) → Type 0
Short (refused n) = n ≡ 2
Short (got []) = Unit {0}
Short (got (a ∷ [])) = Unit {0}
Short (got (a ∷ b ∷ r)) = ⊥

pub record First (line : List ℕ) (at : ℕ) (first second : ℤ) (next : ℕ) : Type 0 where
  pub is : numbers (fields_from line at) ≡ (numbers (fields_from line next) >>= λ more. got (first ∷ second ∷ more))
  pub inside : next ≤ length line + 1
  pub first_small : nat_abs first ≤ max_amount
  pub second_small : nat_abs second ≤ max_amount

abbrev pub TwoAre : List ℕ → ℕ → Option Two → Type 0
TwoAre line at (Some it) = First line at it.first it.second it.next
TwoAre line at None = Short (numbers (fields_from line at))
