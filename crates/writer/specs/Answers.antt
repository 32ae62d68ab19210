-- The answer of writing a text, with document 01's number.
use Rattle.std.specs.Prelude.{ℕ, ℤ, List, Err, Ok, Result}
use Rattle.language.specs.Answer.{Answer, got, refused}
use Rattle.language.specs.Calls.{Outcome, Wrote, into_buffer}
use Rattle.writer.specs.Written.{written}
use Rattle.writer.specs.declared.NoRoom.{NoRoom}

unfoldable pub written_answer : Result ℕ NoRoom → Answer (Wrote Unit)
written_answer (Ok n) = got (record { value = tt; count = n })
written_answer (Err _) = refused 13

-- the text of the first `count` rows into a buffer
unfoldable pub write_call : ℕ → List ℤ → List ℕ → Outcome (Wrote Unit)
write_call count nodes buffer = into_buffer buffer (got (record { value = tt; text = written count nodes }))
