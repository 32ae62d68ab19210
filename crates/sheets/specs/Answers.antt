-- The answer of a sheet whose plan was read, into a lent buffer.
use Rattle.std.specs.Prelude.{◌+◌, ℕ, nat_abs, pos, ℤ, List, [], ◌++◌, ◌∷◌}
use Rattle.language.specs.Answer.{Answer, ◌>>=◌, got, refused}
use Rattle.language.specs.Calls.{Given, Outcome, Wrote, accept_plan, into_buffer, pair_ok}
use Rattle.language.specs.Rules.Measures.{length_of, magnitude_of}
use Rattle.language.specs.Rules.Table.{bound_at}
use Rattle.language.specs.Sheet.{Sheet, line, month_lines, printed}
use Rattle.language.specs.Text.Fields.{bytes}
use Rattle.language.specs.Text.Number.{print_nat}
use Rattle.language.specs.Text.Trees.{Delay, Plan}

-- what a sheet holds beside its plan
abbrev pub sheet_of : Given → ℤ → ℤ → Sheet
sheet_of g p q = record { plan = []; given = g; from = p; to = q }

-- the lines of a plan that was read
unfoldable pub answer_of : Given → ℤ → ℤ → Plan Delay → Answer (List ℕ)
answer_of g p q plan = do
  c ← accept_plan g (pos 0) (pair_ok p q) plan
  lines ← month_lines (sheet_of g p q) plan c 0 (nat_abs g.table.f + 1)
  got (line (bytes "accepted" ∷ print_nat (length_of c) ∷ print_nat (magnitude_of (bound_at g.table) c) ∷ []) ++ lines)

-- a text into the buffer
abbrev pub text_into : List ℕ → List ℕ → Outcome (Wrote Unit)
text_into text buffer = into_buffer buffer (got (record { value = tt; text = text }))

unfoldable pub answer_into : Given → ℤ → ℤ → Plan Delay → List ℕ → Outcome (Wrote Unit)
answer_into g p q plan buffer = text_into (printed (answer_of g p q plan)) buffer

-- a refusal's line
unfoldable pub refusal_into : ℕ → List ℕ → Outcome (Wrote Unit)
refusal_into n buffer = text_into (printed (refused n)) buffer
