-- A table to which the plain rows of trees were appended has the trees' text.
use Prim.Native.Nat.{◌*◌, ℕ}
use lib.IntN.{pos, ℤ}
use lib.ListN.{get_or, length}
use mathlib.Core.List.{List, [], ◌∷◌}
use mathlib.Core.Path.{◌∙◌, ◌≡◌, ap, refl}
use native.Mathlib.Omega.{arith}
use Rattle.copies.specs.Appended.{Appended}
use Rattle.copies.specs.Plain.{plain_last, plain_rows}
use Rattle.language.specs.Text.Letters.{Form}
use Rattle.language.specs.Text.Reader.{Trees, end, node, print_text}
use Rattle.nodes.specs.Rows.{count_of, slots_of}
use Rattle.writer.proofs.Tables.{Says, inner, no_links, rows_length, rows_with, written_front}
use Rattle.writer.specs.Written.{written}

module _ {P : Type 0} where
  last_plain : (slots : List ℤ) (c : Trees P) → plain_last slots c ≡ inner no_links.second (get_or slots 2 (pos 0)) c ∷ inner no_links.third (get_or slots 3 (pos 0)) c ∷ []
  unfolding plain_last
  last_plain slots end = refl
  last_plain slots (node l fs c t) = refl

  module _ (form : Form P) where
    plain_are : (t : Trees P) → plain_rows form t ≡ rows_with no_links form t
    unfolding plain_rows rows_with
    plain_are end = refl
    plain_are (node l fs c t) = rw (last_plain (slots_of fs) c, plain_are c, plain_are t)

    module _ (t : Trees P) {before out : List ℤ} {n : ℕ} (a : Appended before out 0 n (plain_rows form t)) where
      pub plain_counted : n ≡ count_of t
      plain_counted = omega (arith, a.ends, ap length (plain_are t) ∙ rows_length form no_links t)

      pub plain_written : Says form t → written n out ≡ print_text form t
      plain_written h = ap (λ k. written k out) plain_counted ∙ written_front form no_links t h out (5 * n) (a.is ∙ plain_are t)
