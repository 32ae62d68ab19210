-- What a call that writes a payoff's text answers, with document 01's numbers.
use Rattle.language.specs.Answer.{Answer, got, refused}
use Rattle.language.specs.Calls.{Wrote}
use Rattle.text.specs.Refusals.{number_of}
use Rattle.std.specs.Prelude.{Err, Ok, Result, ℕ}
use Rattle.text.specs.declared.Refusal.{Refusal}

-- how many bytes were written, or the refusal's number
unfoldable pub writing_answer : Result ℕ Refusal → Answer (Wrote Unit)
writing_answer (Ok n) = got (record { value = tt; count = n })
writing_answer (Err k) = refused (number_of k)
