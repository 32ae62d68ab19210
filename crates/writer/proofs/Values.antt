-- For a call that answers a value beside its text: what writing the text means for the call.
use Prim.Native.Nat.{ℕ}
use lib.Dec.{leb}
use lib.IntN.{ℤ}
use lib.ListN.{length}
use mathlib.Core.Bool.{Bool, false, true}
use mathlib.Core.List.{List}
use mathlib.Core.Path.{◌∙◌, ◌≡◌, ap, refl}
use native.Mathlib.Omega.{arith}
use Rattle.language.specs.Answer.{Answer, got, refused}
use Rattle.language.specs.Calls.{Writes, Wrote, into_buffer}
use Rattle.writer.specs.Answers.{write_call, written_answer}
use Rattle.writer.specs.Written.{written}
use Rattle.std.specs.Prelude.{Err, Ok, Result}
use Rattle.writer.specs.declared.NoRoom.{NoRoom}

-- the value with the count of bytes
unfoldable pub answer_with : {A : Type 0} → A → Result ℕ NoRoom → Answer (Wrote A)
answer_with v (Ok n) = got (record { value = v; count = n })
answer_with v (Err _) = refused 13

-- a text with a value, and the answer of a buffer that holds it
abbrev with : {A : Type 0} → A → List ℕ → Answer (Writes A)
with v text = got (record { value = v; text = text })

abbrev held : {A : Type 0} → A → ℕ → Answer (Wrote A)
held v n = got (record { value = v; count = n })

abbrev count_in : Answer (Wrote Unit) → ℕ
count_in (got w) = w.count
count_in (refused n) = 0

module _ {A : Type 0} (v : A) (buffer text : List ℕ) where
  same_buffer : (b : Bool) → leb (length text) (length buffer) ≡ b → (into_buffer {A = Unit {0}} buffer (with tt text)).buffer ≡ (into_buffer buffer (with v text)).buffer
  unfolding into_buffer
  same_buffer true q = rw q
  same_buffer false q = rw q

  same_answer : (b : Bool) → leb (length text) (length buffer) ≡ b → (r : Result ℕ NoRoom) → written_answer r ≡ (into_buffer {A = Unit {0}} buffer (with tt text)).answer → answer_with v r ≡ (into_buffer buffer (with v text)).answer
  unfolding into_buffer written_answer answer_with
  same_answer true q (Ok n) f =
      let g : held {A = Unit {0}} tt n ≡ held tt (length text) = rw q at f in
      let m : n ≡ length text = ap count_in g in rw (q, m)
  same_answer true q (Err _) f =
      let g : refused 13 ≡ held {A = Unit {0}} tt (length text) = rw q at f in
      let z : ◌≡◌ {A = ℕ} 0 1 = cc in absurd (omega arith)
  same_answer false q (Ok n) f =
      let g : held {A = Unit {0}} tt n ≡ refused 13 = rw q at f in
      let z : ◌≡◌ {A = ℕ} 0 1 = cc in absurd (omega arith)
  same_answer false q (Err _) f = rw q

  module _ (count : ℕ) (nodes : List ℤ) (same : written count nodes ≡ text) where
    pub into_buffer_lem : (out : List ℕ) → out ≡ (write_call count nodes buffer).buffer → out ≡ (into_buffer buffer (got (record { value = v; text = text }))).buffer
    unfolding write_call
    into_buffer_lem out e = rw same at e ∙ same_buffer (leb (length text) (length buffer)) refl

    pub into_answer : (r : Result ℕ NoRoom) → written_answer r ≡ (write_call count nodes buffer).answer → answer_with v r ≡ (into_buffer buffer (got (record { value = v; text = text }))).answer
    unfolding write_call
    into_answer r e = same_answer (leb (length text) (length buffer)) refl r (rw same at e)
