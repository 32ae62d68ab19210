-- The call cut: a text that is read is a payoff's printed text, so its bytes are cut as they stand.
use Prim.Native.Nat.{◌<◌, ◌≤◌, ℕ}
use borrow.Author.Tests.{le-leb, lt-leb}
use lib.IntN.{ℤ}
use lib.ListN.{length, length-map}
use mathlib.Core.List.{List, map}
use mathlib.Core.Path.{◌∙◌, ◌≡◌, ap, refl, sym}
use native.Mathlib.Omega.{arith}
use Rattle.language.proofs.Text.Payoffs.{PayoffRead, payoff_read, payoff_trees_lem}
use Rattle.language.specs.Answer.{got, refused}
use Rattle.language.specs.Calls.{cut_call, cut_text, into_buffer, over}
use Rattle.language.specs.Payoff.Compile.{cut_payoff}
use Rattle.language.specs.Text.Letters.{payoff_form}
use Rattle.language.specs.Text.Plans.{print_payoff, read_payoff}
use Rattle.language.specs.Text.Reader.{text_as_read}
use Rattle.payoff.proofs.Cuts.{text_cut}
use Rattle.payoff.specs.Answers.{writing_answer}
use Rattle.payoff.specs.Cut.{byte_of_cut}
use Rattle.text.specs.ReadInto as read
use Rattle.text.specs.Refusals.{number_of}
use Rattle.text.specs.declared.Refusal.{Refusal}
use Rattle.text.specs.declared.Refusal.TheVariants.{NoRoom}
use Rattle.std.specs.Prelude.{Err, Ok}

module _ (text : List ℕ) where
  module _ {nodes : List ℤ} {n : ℕ} (s : read.Stands payoff_form (text_as_read payoff_form text) nodes n) where
    is_cut : cut_text text ≡ got (record { value = tt; text = map byte_of_cut text })
    unfolding cut_text
    is_cut =
        let was : PayoffRead text s.tree = payoff_trees_lem text s.tree s.is in
        let printed : print_payoff was.payoff ≡ text = (payoff_read text was.payoff was.is).1 in
        let same : print_payoff (cut_payoff was.payoff) ≡ map byte_of_cut text = sym (text_cut was.payoff was.formed.fields) ∙ ap (map byte_of_cut) printed in
        rw (was.is, same) refl

    pub cut_is : (buffer : List ℕ) → length text ≤ length buffer → (out : List ℕ) → out ≡ over (map byte_of_cut text) buffer →
        (out ≡ (cut_call text buffer).buffer) × (writing_answer (Ok (length text)) ≡ (cut_call text buffer).answer)
    unfolding cut_call into_buffer writing_answer
    cut_is buffer h out e =
        let room = le-leb (length (map byte_of_cut text)) (length buffer) (omega (arith, length-map text byte_of_cut)) in
        (rw (is_cut, room) e, rw (is_cut, room, length-map text byte_of_cut) refl)

    pub no_room : (buffer : List ℕ) → length buffer < length text → (buffer ≡ (cut_call text buffer).buffer) × (writing_answer (Err NoRoom) ≡ (cut_call text buffer).answer)
    unfolding cut_call into_buffer writing_answer
    no_room buffer h = let short = lt-leb (length (map byte_of_cut text)) (length buffer) (omega (arith, length-map text byte_of_cut)) in (rw (is_cut, short) refl, rw (is_cut, short) refl)

  module _ (buffer : List ℕ) (k : Refusal) (e : text_as_read payoff_form text ≡ refused (number_of k)) where
    pub kept : buffer ≡ (cut_call text buffer).buffer
    unfolding cut_call cut_text read_payoff into_buffer
    kept = rw e refl

    pub refusal_is : writing_answer (Err k) ≡ (cut_call text buffer).answer
    unfolding cut_call cut_text read_payoff into_buffer writing_answer
    refusal_is = rw e refl
