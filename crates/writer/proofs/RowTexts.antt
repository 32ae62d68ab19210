-- A row's text, part after part, as the code writes it.
use Prim.Native.Nat.{◌+◌, ℕ}
use lib.IntN.{pos, ℤ}
use lib.ListN.{drop, length, length-append}
use lib.Seq.{get_or-drop}
use mathlib.Core.List.{List, [], ◌++◌, ◌∷◌, append-nil}
use mathlib.Core.Path.{◌∙◌, ◌≡◌, ap, refl, subst, sym}
use native.Mathlib.Omega.{arith}
use Rattle.language.specs.Text.Fields.{behind, join_with}
use Rattle.writer.specs.Shapes.{ShapeOf, delay_field, index_parts, leaf_parts, month_field, number_field, row_text, shape_fields}
use Rattle.writer.specs.Written.{fields_of_row, byte_of_letter, slot}
use Rattle.writer.specs.declared.rows.Shape.TheVariants.{Bare, Index, Leaf, Number, Pair, Wait}
use Rattle.writer.specs.declared.rows.Shape.{Shape}

-- what stands behind the letter of the row at j
abbrev pub parts_at : Shape → ℕ → List ℤ → List ℕ
parts_at Bare j nodes = []
parts_at Number j nodes = number_field (slot nodes (j + 1)) ++ []
parts_at Pair j nodes = number_field (slot nodes (j + 1)) ++ (number_field (slot nodes (j + 2)) ++ [])
parts_at Wait j nodes = delay_field (slot nodes (j + 1)) ++ []
parts_at Index j nodes = number_field (slot nodes (j + 1)) ++ (month_field (slot nodes (j + 2)) (slot nodes (j + 2 + 1)) ++ [])
parts_at Leaf j nodes = month_field (slot nodes (j + 1)) (slot nodes (j + 1 + 1)) ++ (number_field (slot nodes (j + 3)) ++ (number_field (slot nodes (j + 4)) ++ []))

module _ (nodes : List ℤ) (j : ℕ) where
  pub index_parts_lem : parts_at Index j nodes ≡ index_parts j nodes
  index_parts_lem = ap (λ t. number_field (slot nodes (j + 1)) ++ t) (append-nil (month_field (slot nodes (j + 2)) (slot nodes (j + 2 + 1))))

  pub leaf_parts_lem : parts_at Leaf j nodes ≡ leaf_parts j nodes
  leaf_parts_lem = ap (λ t. month_field (slot nodes (j + 1)) (slot nodes (j + 1 + 1)) ++ (number_field (slot nodes (j + 3)) ++ t)) (append-nil (number_field (slot nodes (j + 4))))

  here : (k i : ℕ) → j + k ≡ i → slot (drop j nodes) k ≡ slot nodes i
  here k i e = get_or-drop j nodes k (pos 0) ∙ ap (slot nodes) e

  parts_are : (s : Shape) → behind 44 (shape_fields s (drop j nodes)) ≡ parts_at s j nodes
  unfolding behind shape_fields
  parts_are Bare = refl
  parts_are Number = rw (here 1 (j + 1) refl)
  parts_are Pair = rw (here 1 (j + 1) refl, here 2 (j + 2) refl)
  parts_are Wait = rw (here 1 (j + 1) refl)
  parts_are Index = rw (here 1 (j + 1) refl, here 2 (j + 2) refl, here 3 (j + 2 + 1) (omega arith))
  parts_are Leaf = rw (here 1 (j + 1) refl, here 2 (j + 1 + 1) (omega arith), here 3 (j + 3) refl, here 4 (j + 4) refl)

  pub row_at : (b : ℕ) → b ≡ byte_of_letter (slot nodes j) → (s : Shape) → ShapeOf (byte_of_letter (slot nodes j)) s → (t : Shape) → s ≡ t → row_text (drop j nodes) ≡ b ∷ parts_at t j nodes
  unfolding row_text fields_of_row join_with
  row_at b q s h t e =
      let f : ShapeOf b s = subst (λ (x : ℕ). ShapeOf x s) (sym q) h in
      let l : byte_of_letter (slot (drop j nodes) 0) ≡ b = ap byte_of_letter (here 0 j (omega arith)) ∙ sym q in
      rw l (ap (λ (fs : List (List ℕ)). b ∷ behind 44 fs) (f.fields (drop j nodes))
      ∙ ap (λ (u : Shape). b ∷ behind 44 (shape_fields u (drop j nodes))) e ∙ ap (λ (r : List ℕ). b ∷ r) (parts_are t))

-- ---- lengths

pub long_0 : (t : List ℕ) (b : ℕ) → t ≡ b ∷ [] → 1 ≡ length t
long_0 t b e = sym (ap length e)

pub long_1 : (t : List ℕ) (b x : ℕ) (p : List ℕ) → x ≡ length p → t ≡ b ∷ ((44 ∷ p) ++ []) → 2 + x ≡ length t
long_1 t b x p f e = omega (arith, ap length e, length-append p [])

pub long_2 : (t : List ℕ) (b x y : ℕ) (p q : List ℕ) → x ≡ length p → y ≡ length q → t ≡ b ∷ ((44 ∷ p) ++ ((44 ∷ q) ++ [])) → 3 + x + y ≡ length t
long_2 t b x y p q f g e = omega (arith, ap length e, length-append p (44 ∷ (q ++ [])), length-append q [])

pub long_3 : (t : List ℕ) (b x y z : ℕ) (p q r : List ℕ) → x ≡ length p → y ≡ length q → z ≡ length r → t ≡ b ∷ ((44 ∷ p) ++ ((44 ∷ q) ++ ((44 ∷ r) ++ []))) → 4 + x + y + z ≡ length t
long_3 t b x y z p q r f g h e = omega (arith, ap length e, length-append p (44 ∷ (q ++ (44 ∷ (r ++ [])))), length-append q (44 ∷ (r ++ [])), length-append r [])
