-- What checking answers, with document 01's numbers.
use Rattle.std.specs.Prelude.{T, nat_abs, Err, Ok, Result}
use Rattle.std.specs.Int.Signed.{non_neg}
use Rattle.language.specs.Answer.{Answer, got, refused}
use Rattle.language.specs.Calls.{Checked}
use Rattle.text.specs.Refusals.{number_of}
use Rattle.rules.specs.declared.Accepted.{Accepted}
use Rattle.text.specs.declared.Refusal.{Refusal}

-- accepted with length and magnitude, or the refusal's number
unfoldable pub checking_answer : Result Accepted Refusal → Answer Checked
checking_answer (Ok it) = got (record { length = nat_abs it.length.0; magnitude = nat_abs it.magnitude.0 })
checking_answer (Err k) = refused (number_of k)

-- an accepted plan's length and magnitude are not below zero
abbrev pub Natural : Result Accepted Refusal → Type 0
Natural (Ok it) = T (non_neg it.length.0) × T (non_neg it.magnitude.0)
Natural (Err k) = Unit {0}
