-- A whole text in front of a buffer.
use Prim.Native.Nat.{◌+◌, ◌<◌, ◌≤◌, ℕ}
use borrow.Author.Tests.{le-leb, lt-leb}
use lib.ListN.{drop, length}
use lib.Seq.{sets, sets-eq}
use mathlib.Core.List.{List, ◌++◌}
use mathlib.Core.Path.{◌∙◌, ◌≡◌, ap}
use native.Mathlib.Omega.{arith}
use Rattle.language.specs.Answer.{got}
use Rattle.language.specs.Calls.{Outcome, Wrote, into_buffer}
use Rattle.writer.specs.Answers.{written_answer}
use Rattle.writer.specs.Put.{Put}
use Rattle.std.specs.Prelude.{Err, Ok}

in-front : (text buffer : List ℕ) → length text ≤ length buffer → sets buffer 0 text ≡ text ++ drop (length text) buffer
in-front text buffer h =
    let e : 0 + length text ≡ length text = omega arith in
    sets-eq text buffer 0 (omega arith) ∙ ap (λ (k : ℕ). text ++ drop k buffer) e

module _ (text buffer : List ℕ) (need : ℕ) (n : need ≡ length text) where
  -- the text into the buffer
  abbrev pub outcome : Outcome (Wrote Unit)
  outcome = into_buffer buffer (got (record { value = tt; text = text }))

  pub no_room : length buffer < need → (buffer ≡ outcome.buffer) × (written_answer (Err _) ≡ outcome.answer)
  unfolding written_answer into_buffer
  no_room h = let e = lt-leb (length text) (length buffer) (omega arith) in (rw e, rw e)

  pub whole : need ≤ length buffer → (out : List ℕ) (end : ℕ) → Put buffer out 0 end text → (out ≡ outcome.buffer) × (written_answer (Ok end) ≡ outcome.answer)
  unfolding written_answer into_buffer
  whole h out end p =
      let r : length text ≤ length buffer = omega arith in
      let e = le-leb (length text) (length buffer) r in
      let s : end ≡ length text = omega (arith, p.ends) in
      (rw e (p.is ∙ in-front text buffer r), rw (e, s))
