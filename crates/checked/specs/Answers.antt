-- What amounts and tests answer, with document 01's numbers.
use Rattle.std.specs.Prelude.{ℕ, ℤ, Bool, false, not, true, Err, None, Ok, Option, Result, Some}
use Rattle.integers.specs.Bounded.{Small}
use Rattle.integers.specs.Rounding.{floor_z}
use Rattle.language.specs.Answer.{Answer, ◌>>=◌, got, refused}
use Rattle.language.specs.Limits.{max_amount}
use Rattle.language.specs.Payoff.Evaluate.{in_range}
use Rattle.checked.specs.declared.answers.Fault.{Fault}
use Rattle.checked.specs.declared.answers.Fault.TheVariants as fault
use Rattle.integers.specs.declared.Pence.{Pence}

-- a value that can't be read is 11, an amount beyond the limit 14
abbrev pub fault_number : Fault → ℕ
fault_number fault.Unread = 11
fault_number fault.Beyond = 14

-- an amount in pence
abbrev pub valued_answer : Result Pence Fault → Answer ℤ
valued_answer (Ok p) = got p.0
valued_answer (Err k) = refused (fault_number k)

-- an amount divided by n
abbrev pub divided_by : ℕ → Answer ℤ → Answer ℤ
divided_by n a = a >>= λ x. in_range max_amount (floor_z x n)

-- whether a test holds
abbrev pub tested_answer : Result Bool Fault → Answer Bool
tested_answer (Ok b) = got b
tested_answer (Err k) = refused (fault_number k)

-- the opposite of a test
abbrev pub not_answer : Answer Bool → Answer Bool
not_answer a = a >>= λ x. got (not x)

-- beyond the limit is 14
abbrev pub amount_answer : Option Pence → Answer ℤ
amount_answer (Some p) = got p.0
amount_answer None = refused 14

-- an amount, where one came, is within the limit
abbrev pub SmallValued : Result Pence Fault → Type 0
SmallValued (Ok p) = Small p.0
SmallValued (Err k) = Unit {0}
