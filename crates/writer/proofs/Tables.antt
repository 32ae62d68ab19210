-- Tables made from trees: their text is the trees' text, whatever the links are.
use Prim.Native.Nat.{◌*◌, ◌+◌, suc, ℕ}
use lib.IntN.{pos, ℤ}
use lib.ListN.{drop, get_or, length, length-append, take, take-append-drop}
use mathlib.Core.List.{List, [], ◌++◌, ◌∷◌, append_assoc}
use mathlib.Core.Path.{◌∙◌, ◌≡◌, ap, refl, sym}
use native.Mathlib.Omega.{arith}
use Rattle.language.specs.Text.Classes.{Field, print_field}
use Rattle.language.specs.Text.Fields.{join}
use Rattle.language.specs.Text.Letters.{Form, Letter, row_of}
use Rattle.language.specs.Text.Reader.{Trees, end, node, print_fields, print_text, print_trees}
use Rattle.nodes.specs.Rows.{count_of, last_slots, rows, second_link, slots_of, third_link}
use Rattle.writer.specs.Written.{fields_of_row, fields_of_rows, written}

-- what a table holds in the last two numbers of a node with these children
pub record Links (P : Type 0) : Type 0 where
  pub second : Trees P → ℤ
  pub third : Trees P → ℤ

module _ {P : Type 0} where
  -- a node without children has fields there
  abbrev pub inner : (Trees P → ℤ) → ℤ → Trees P → ℤ
  inner link field end = field
  inner link field (node l fs c t) = link (node l fs c t)

  module _ (links : Links P) (form : Form P) where
    abbrev pub row_with : Letter P → List ℤ → Trees P → List ℤ
    row_with l slots c =
        pos (row_of form l).letter ∷ get_or slots 0 (pos 0) ∷ get_or slots 1 (pos 0)
        ∷ inner links.second (get_or slots 2 (pos 0)) c ∷ inner links.third (get_or slots 3 (pos 0)) c ∷ []

    unfoldable pub rows_with : Trees P → List ℤ
    rows_with end = []
    rows_with (node l fs c t) = row_with l (slots_of fs) c ++ (rows_with c ++ rows_with t)

  -- the links of the node table, and no links
  abbrev pub table_links : Links P
  table_links = record { second = λ c. pos (second_link c); third = λ c. pos (third_link c) }

  abbrev pub no_links : Links P
  no_links = record { second = λ c. pos 0; third = λ c. pos 0 }

  last_are : (slots : List ℤ) (c : Trees P) → last_slots slots c ≡ inner table_links.second (get_or slots 2 (pos 0)) c ∷ inner table_links.third (get_or slots 3 (pos 0)) c ∷ []
  unfolding last_slots
  last_are slots end = refl
  last_are slots (node l fs c t) = refl

  module _ (form : Form P) where
    pub rows_are : (t : Trees P) → rows form t ≡ rows_with table_links form t
    unfolding rows rows_with
    rows_are end = refl
    rows_are (node l fs c t) = rw (last_are (slots_of fs) c, rows_are c, rows_are t)

    pub plain_rows : Trees P → List ℤ
    plain_rows t = rows_with no_links form t

    -- ---- what a tree's rows have to say

    -- the row of a node has the node's fields
    pub record RowSays (l : Letter P) (fs : List Field) (c : Trees P) : Type 0 where
      pub fields : (links : Links P) (rest : List ℤ) → fields_of_row (row_with links form l (slots_of fs) c ++ rest) ≡ ((row_of form l).letter ∷ []) ∷ print_fields fs []

    unfoldable pub Says : Trees P → Type 0
    Says end = Unit {0}
    Says (node l fs c t) = RowSays l fs c × Says c × Says t

    fields_append : (fs : List Field) (r : List (List ℕ)) → print_fields fs r ≡ print_fields fs [] ++ r
    unfolding print_fields
    fields_append [] r = refl
    fields_append (f ∷ fs) r = ap (λ (t : List (List ℕ)). print_field f ∷ t) (fields_append fs r)

    module _ (links : Links P) where
      pub rows_text : (t : Trees P) → Says t → (m : ℕ) (rest : List ℤ) → fields_of_rows (count_of t + m) (rows_with links form t ++ rest) ≡ print_trees form t (fields_of_rows m rest)
      unfolding Says count_of rows_with print_trees fields_of_rows
      rows_text end h m rest = let e : 0 + m ≡ m = omega arith in rw e
      rows_text (node l fs c t) h m rest =
          let e : 1 + (count_of c + count_of t) + m ≡ suc (count_of c + (count_of t + m)) = omega arith in
          let after : List ℤ = rows_with links form t ++ rest in
          let r : rows_with links form c ++ rows_with links form t ++ rest ≡ rows_with links form c ++ after = append_assoc (rows_with links form c) (rows_with links form t) rest in
          rw (e, r, h.0.fields links (rows_with links form c ++ after), rows_text c h.1 (count_of t + m) after, rows_text t h.2 m rest)
          (sym (ap (λ (q : List (List ℕ)). ((row_of form l).letter ∷ []) ∷ q) (fields_append fs (print_trees form c (print_trees form t (fields_of_rows m rest))))))

      pub written_with : (t : Trees P) → Says t → (rest : List ℤ) → written (count_of t) (rows_with links form t ++ rest) ≡ print_text form t
      unfolding written print_text fields_of_rows
      written_with t h rest = let e : count_of t ≡ count_of t + 0 = omega arith in ap join (ap (λ (k : ℕ). fields_of_rows k (rows_with links form t ++ rest)) e ∙ rows_text t h 0 rest)

    pub written_tree : (t : Trees P) → Says t → (rest : List ℤ) → written (count_of t) (rows form t ++ rest) ≡ print_text form t
    written_tree t h rest = rw (rows_are t) (written_with table_links t h rest)

    pub written_plain : (t : Trees P) → Says t → (rest : List ℤ) → written (count_of t) (plain_rows t ++ rest) ≡ print_text form t
    unfolding plain_rows
    written_plain t h rest = written_with no_links t h rest

    -- ---- for a table whose front was filled

    pub rows_length : (links : Links P) (t : Trees P) → length (rows_with links form t) ≡ 5 * count_of t
    unfolding rows_with count_of
    rows_length links end = omega arith
    rows_length links (node l fs c t) =
        omega (arith, length-append (rows_with links form c) (rows_with links form t), rows_length links c, rows_length links t)

    pub written_front : (links : Links P) (t : Trees P) → Says t → (nodes : List ℤ) (k : ℕ) → take k nodes ≡ rows_with links form t → written (count_of t) nodes ≡ print_text form t
    written_front links t h nodes k e =
        ap (λ (l : List ℤ). written (count_of t) l) (sym (take-append-drop k nodes) ∙ ap (λ (l : List ℤ). l ++ drop k nodes) e) ∙ written_with links t h (drop k nodes)
