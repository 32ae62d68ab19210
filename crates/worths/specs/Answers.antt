-- What values answer, with document 01's numbers.
use Rattle.std.specs.Prelude.{ℤ, Err, None, Ok, Option, Result, Some}
use Rattle.integers.specs.Bounded.{SmallValue}
use Rattle.language.specs.Answer.{Answer, got, refused}
use Rattle.text.specs.Refusals.{number_of}
use Rattle.integers.specs.declared.Millionths.{Millionths}
use Rattle.text.specs.declared.Refusal.{Refusal}

-- a value in millionths of a penny
abbrev pub worth_answer : Result Millionths Refusal → Answer ℤ
worth_answer (Ok v) = got v.0
worth_answer (Err k) = refused (number_of k)

-- beyond the limit is 14
abbrev pub value_answer : Option Millionths → Answer ℤ
value_answer (Some v) = got v.0
value_answer None = refused 14

-- a value, where one came, is within the limit
abbrev pub SmallWorth : Result Millionths Refusal → Type 0
SmallWorth (Ok v) = SmallValue v.0
SmallWorth (Err k) = Unit {0}
