-- What was read of a text, as one number: a magnitude, months, and the byte behind it. The months are the latest read of an amount or a
-- test, a delay, or those that the table goes on behind a plan's end.
use Rattle.std.specs.Prelude.{◌%◌, ◌/◌, ◌≤◌, ℕ, ◌≡◌}
use Rattle.language.specs.Limits.{max_amount}

-- the magnitude of what was read, 0 where it has none
abbrev pub magnitude_in : ℕ → ℕ
magnitude_in r = r / 1048576

-- its months
abbrev pub months_in : ℕ → ℕ
months_in r = r / 1024 % 1024

-- the byte behind it
abbrev pub behind : ℕ → ℕ
behind r = r % 1024

-- a number that tells something: any other only that a rule or the form may be broken
abbrev pub Kept : ℕ → Type 0
Kept r = magnitude_in r ≤ max_amount

-- the number for these three
pub record Packed (m n next r : ℕ) : Type 0 where
  pub magnitude : magnitude_in r ≡ m
  pub months : months_in r ≡ n
  pub place : behind r ≡ next

-- where it tells something
abbrev pub PackedIs : ℕ → ℕ → ℕ → ℕ → Type 0
PackedIs m n next r = Kept r → Packed m n next r

-- two parts, y behind x, as one of magnitude m and months n
pub record Both (m n x y r : ℕ) : Type 0 where
  pub first : Kept x
  pub second : Kept y
  pub packed : Packed m n (behind y) r

-- where that tells something, both did
abbrev pub JoinedTo : ℕ → ℕ → ℕ → ℕ → ℕ → Type 0
JoinedTo m n x y r = Kept r → Both m n x y r

-- their magnitudes joined by `op`, their months by `by`
abbrev pub Joined : (ℕ → ℕ → ℕ) → (ℕ → ℕ → ℕ) → ℕ → ℕ → ℕ → Type 0
Joined op by x y r = Both (op (magnitude_in x) (magnitude_in y)) (by (months_in x) (months_in y)) x y r

abbrev pub JoinedIs : (ℕ → ℕ → ℕ) → (ℕ → ℕ → ℕ) → ℕ → ℕ → ℕ → Type 0
JoinedIs op by x y r = Kept r → Joined op by x y r
