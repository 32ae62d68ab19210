-- What a program in C gets from a call: the number returned, and what the two lists that it lends then hold.
use Rattle.std.specs.Prelude.{ℕ, leb, pos, ℤ, drop, length, cond, List, ◌++◌, ◌∷◌, []}
use Rattle.language.specs.Answer.{Answer, got, refused}
use Rattle.language.specs.Calls.{Checked, Outcome, Wrote}

-- the numbers into the first places of `answer` and 0; an `answer` too short for them is 13 and stays as it was
unfoldable pub put : List ℤ → List ℤ → ℤ × List ℤ
put xs answer = cond (leb (length xs) (length answer)) (pos 0, xs ++ drop (length xs) answer) (pos 13, answer)

-- the numbers of what a call got; a refusal is its number and leaves `answer` as it was
unfoldable pub into_answer : {A : Type 0} → (A → List ℤ) → List ℤ → Answer A → ℤ × List ℤ
into_answer numbers answer (refused n) = (pos n, answer)
into_answer numbers answer (got x) = put (numbers x) answer

-- what `out` holds: the bytes that the call left, unless `answer` is too short for its numbers
unfoldable pub out_after : {A : Type 0} → (A → List ℤ) → List ℤ → List ℕ → Answer A → List ℕ → List ℕ
out_after numbers answer out (refused n) left = out
out_after numbers answer out (got x) left = cond (leb (length (numbers x)) (length answer)) left out

-- both, for a call that writes
unfoldable pub into_both : {A : Type 0} → (A → List ℤ) → List ℤ → List ℕ → Outcome A → (ℤ × List ℤ) × List ℕ
into_both numbers answer out o = (into_answer numbers answer o.answer, out_after numbers answer out o.answer o.buffer)

-- ---- the numbers of each call

-- check: length, magnitude
abbrev pub measures : Checked → List ℤ
measures x = pos x.length ∷ pos x.magnitude ∷ []

-- payment: pence; evaluate: millionths of a penny
abbrev pub money : ℤ → List ℤ
money x = x ∷ []

-- step: pence, bytes
abbrev pub money_bytes : Wrote ℤ → List ℤ
money_bytes x = x.value ∷ pos x.count ∷ []

-- compile, cut and sheet: bytes
abbrev pub bytes_only : Wrote Unit → List ℤ
bytes_only x = pos x.count ∷ []
