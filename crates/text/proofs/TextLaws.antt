-- Laws of a whole text.
use Prim.Native.Nat.{◌<◌, ◌≤◌, ℕ}
use borrow.Author.Tests.{le-leb, lt-leb}
use lib.IntN.{ℤ}
use lib.ListN.{length}
use mathlib.Core.List.{List}
use mathlib.Core.Path.{◌∙◌, ◌≡◌, ap, refl}
use Rattle.fields.proofs.Positions.{at_start, first_field, from_behind}
use Rattle.fields.specs.Positions.{fields_from}
use Rattle.language.specs.Answer.{Answer, refused}
use Rattle.language.specs.Text.Letters.{Form}
use Rattle.language.specs.Text.Reader.{Trees, at_end, text_as_read, to_the_end}
use Rattle.text.specs.ReadInto.{CountIs, ReadInto, Stands}
use Rattle.text.specs.Whole.{Grown, whole_text}
use Rattle.std.specs.Prelude.{Err, Ok, Result}
use Rattle.text.specs.declared.Refusal.{Refusal}

module _ {P : Type 0} (form : Form P) (text : List ℕ) where
  pub text_long : form.bytes < length text → text_as_read form text ≡ refused 1
  unfolding text_as_read
  text_long h = rw (lt-leb (length text) form.bytes h) refl

  module _ (h : length text ≤ form.bytes) where
    from_start : text_as_read form text ≡ to_the_end form (whole_text form text)
    unfolding text_as_read
    from_start = rw (le-leb (length text) form.bytes h, at_start text) refl

    pub text_refused : (n : ℕ) → whole_text form text ≡ refused n → text_as_read form text ≡ refused n
    text_refused n r = from_start ∙ ap (to_the_end form) r

    module _ (nodes : List ℤ) (next m : ℕ) (g : Grown form text nodes next m) where
      read_all : text_as_read form text ≡ at_end form g.tree (fields_from text next)
      read_all = from_start ∙ ap (to_the_end form) g.is

      pub text_left : next ≤ length text → text_as_read form text ≡ refused 2
      text_left k = read_all ∙ ap (at_end form g.tree) (first_field text next k)

      pub text_read : length text < next → Stands form (text_as_read form text) nodes m
      text_read k = record { tree = g.tree; is = read_all ∙ ap (at_end form g.tree) (from_behind text next k); count = g.counted; rows = g.holds }

  pub count_is : (answer : Answer (Trees P)) (nodes : List ℤ) (r : Result ℕ Refusal) → ReadInto form answer nodes r → CountIs answer r
  count_is answer nodes (Ok n) s = record { tree = s.tree; is = s.is; count = s.count }
  count_is answer nodes (Err k) e = e
