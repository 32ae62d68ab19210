-- The lines of a sheet's answer, from lists of numbers.
use Rattle.std.specs.Prelude.{◌+◌, suc, zero, ℕ, ℤ, List, [], ◌++◌, ◌∷◌}
use Rattle.language.specs.Answer.{got}
use Rattle.language.specs.Calls.{Outcome, Wrote, into_buffer}
use Rattle.language.specs.Text.Fields.{bytes}
use Rattle.language.specs.Text.Number.{print_nat}
use Rattle.writer.specs.Shapes.{number_field}
use Rattle.writer.specs.Written.{slot}

-- a line feed
abbrev pub new_line : List ℕ
new_line = 10 ∷ []

-- pence and value, and the line's end
unfoldable pub numbers_text : List ℤ → List ℤ → ℕ → List ℕ
numbers_text column rest m = number_field (slot column m) ++ (number_field (slot rest m) ++ new_line)

-- month, pence and value
unfoldable pub month_text : List ℤ → List ℤ → ℕ → List ℕ
month_text column rest m = print_nat m ++ numbers_text column rest m

-- n months from m on
unfoldable pub months_text : List ℤ → List ℤ → ℕ → ℕ → List ℕ
months_text column rest m zero = []
months_text column rest m (suc n) = month_text column rest m ++ months_text column rest (suc m) n

-- accepted, with length and magnitude
unfoldable pub head_text : List ℤ → List ℕ
head_text head = bytes "accepted" ++ (number_field (slot head 0) ++ (number_field (slot head 1) ++ new_line))

unfoldable pub refusal_text : List ℤ → List ℕ
refusal_text number = bytes "refused" ++ (number_field (slot number 0) ++ new_line)

-- all lines of an accepted sheet
abbrev pub answer_text : List ℤ → List ℤ → List ℤ → ℕ → List ℕ
answer_text head column rest months = head_text head ++ months_text column rest 0 months

unfoldable pub answer_call : List ℤ → List ℤ → List ℤ → ℕ → List ℕ → Outcome (Wrote Unit)
answer_call head column rest months buffer = into_buffer buffer (got (record { value = tt; text = answer_text head column rest months }))

unfoldable pub refusal_call : List ℤ → List ℕ → Outcome (Wrote Unit)
refusal_call number buffer = into_buffer buffer (got (record { value = tt; text = refusal_text number }))
