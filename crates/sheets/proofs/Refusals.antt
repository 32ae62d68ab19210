-- A refused sheet: its line, and the plans that are refused.
use Prim.Native.Nat.{ℕ}
use lib.IntN.{pos, ℤ}
use mathlib.Core.Bool.{Bool}
use mathlib.Core.List.{List}
use mathlib.Core.Path.{◌∙◌, ◌≡◌, ap, refl, sym}
use Rattle.language.specs.Answer.{got, refused}
use Rattle.language.specs.Calls.{accept_plan, into_buffer, pair_ok}
use Rattle.language.specs.Text.Trees.{Delay, Plan}
use Rattle.payments.proofs.Admitted.{refusing}
use Rattle.printing.specs.Lines.{refusal_call}
use Rattle.rules.specs.Accepting.{AcceptIs, accepting}
use Rattle.rules.specs.Answers.{checking_answer}
use Rattle.rules.specs.Standing.{Standing}
use Rattle.sheets.proofs.AnswerTexts.{refusal_line}
use Rattle.sheets.specs.Answers.{answer_into, answer_of, refusal_into}
use Rattle.tables.specs.Given.{given_of}
use Rattle.writer.specs.Written.{slot}
use Rattle.text.specs.Refusals.{number_of}
use Rattle.text.specs.declared.Refusal.TheVariants.{Caller, Length, Magnitude, NoRoom, NotInTime, NotOfForm, OutOfRange, Reads, Settings, Table, TooDeep, TooLong, TooManyNodes, WrongKind}
use Rattle.text.specs.declared.Refusal.{Refusal}
use mir.Syntax.{w64}
use mir.Val.{to_z}
use Rattle.std.specs.Prelude.{Err, Result}
use Rattle.rules.specs.declared.Accepted.{Accepted}

-- a refusal's number as a whole number
pub number_read : (k : Refusal) → to_z w64 (number_of k) ≡ pos (number_of k)
number_read TooLong = refl
number_read NotOfForm = refl
number_read TooManyNodes = refl
number_read TooDeep = refl
number_read WrongKind = refl
number_read Magnitude = refl
number_read NotInTime = refl
number_read Settings = refl
number_read Table = refl
number_read Length = refl
number_read Reads = refl
number_read Caller = refl
number_read NoRoom = refl
number_read OutOfRange = refl

pub refusal_into_lem : (n : ℕ) (numbers : List ℤ) → slot numbers 0 ≡ pos n → (out : List ℕ) → refusal_call numbers out ≡ refusal_into n out
unfolding refusal_call refusal_into
refusal_into_lem n numbers e out = ap (λ t. into_buffer out (got (record { value = tt; text = t }))) (refusal_line n numbers e)

-- a plan that was refused
module _ {days : List ℤ} {h f : ℤ} {factors bounds values : List ℤ} (p q : ℤ) {x : Plan Delay} {count : ℕ} {before after : List ℤ} {asked : Bool} {r : Result Accepted Refusal} {k : Refusal}
    (c : AcceptIs (given_of days h f factors bounds values) (pos 0) asked count before after r) (ea : asked ≡ pair_ok p q) (er : r ≡ Err k) (s : Standing before count x) (buffer : List ℕ) where
  refused_is : accept_plan (given_of days h f factors bounds values) (pos 0) (pair_ok p q) x ≡ refused (number_of k)
  refused_is =
      let g = given_of days h f factors bounds values in
      refusing g (pos 0) x (pair_ok p q) k (ap checking_answer (sym er) ∙ c.answer x s ∙ ap (λ b. accepting g (pos 0) b x) ea)

  pub refused_into : refusal_into (number_of k) buffer ≡ answer_into (given_of days h f factors bounds values) p q x buffer
  unfolding refusal_into answer_into answer_of
  refused_into = rw refused_is refl
