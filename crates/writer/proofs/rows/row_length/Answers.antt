use Prim.Native.Nat.{◌+◌, ◌≤◌, ℕ}
use lib.IntN.{ℤ}
use lib.ListN.{drop, length}
use mathlib.Core.List.{List, ◌∷◌}
use mathlib.Core.Path.{◌≡◌, refl}
use native.Mathlib.Omega.{arith}
use Rattle.language.specs.Text.Letters.{delay, month}
use Rattle.language.specs.Text.Number.{print_number}
use Rattle.writer.proofs.FieldTexts.{delay_small, month_small, number_small}
use Rattle.writer.proofs.RowTexts.{long_0, long_1, long_2, long_3, parts_at, row_at}
use Rattle.writer.specs.Shapes.{row_text}
use Rattle.writer.specs.Written.{field_text, byte_of_letter, slot}
use Rattle.writer.specs.declared.rows.Shape.TheVariants.{Bare, Index, Leaf, Number, Pair, Wait}
use Rattle.writer.specs.declared.rows.Shape.{Shape}
use Rattle.writer.proofs.rows.row_length.Goals as goal
use Rattle.writer.proofs.rows.row_length.Goals.{After-shape_at-shape}

-- `rows::row_length` meets its contract.

module _ (c : After-shape_at-shape) where
  abbrev nodes : List ℤ
  nodes = c.args.nodes.now

  abbrev j : ℕ
  j = c.args.j

  abbrev figure : ℕ → ℤ
  figure k = slot nodes (j + k)

  -- of a month's field at k
  abbrev settings : ℕ → ℤ
  settings k = slot nodes (j + k + 1)

  text : (t : Shape) → c.shape_at-shape.result ≡ t → row_text (drop j nodes) ≡ byte_of_letter (slot nodes j) ∷ parts_at t j nodes
  text t e = row_at nodes j _ refl _ c.shape_at-shape.ensures t e

  number_few : (k : ℕ) {r : ℕ} → r ≡ length (print_number (figure k)) → r ≤ 21
  number_few k {r} e = number_small (figure k) r e

  delay_few : (k : ℕ) {r : ℕ} → r ≡ length (field_text delay (figure k) (figure k)) → r ≤ 21
  delay_few k {r} e = delay_small (figure k) r e

  month_few : (k : ℕ) {r : ℕ} → r ≡ length (field_text month (figure k) (settings k)) → r ≤ 800
  month_few k {r} e = month_small (figure k) (settings k) r e

pub overflow_add-result : goal.overflow_add-result
overflow_add-result c = let s : After-shape_at-shape = (goal.at.overflow_add-result c).After-shape_at-shape in
    record { fits = omega (arith, number_few s 1 c.number_length.ensures) }

pub overflow_add-result-in-Pair : goal.overflow_add-result-in-Pair
overflow_add-result-in-Pair c = let s : After-shape_at-shape = (goal.at.overflow_add-result-in-Pair c).After-shape_at-shape in
    record { fits = omega (arith, number_few s 1 c.number_length-in-Pair.ensures) }

pub overflow_add-result-in-Pair-2 : goal.overflow_add-result-in-Pair-2
overflow_add-result-in-Pair-2 c = let s : After-shape_at-shape = (goal.at.overflow_add-result-in-Pair-2 c).After-shape_at-shape in
    record { fits = omega (arith, number_few s 1 c.number_length-in-Pair.ensures, number_few s 2 c.number_length-in-Pair-2.ensures) }

pub overflow_add-result-in-Wait : goal.overflow_add-result-in-Wait
overflow_add-result-in-Wait c = let s : After-shape_at-shape = (goal.at.overflow_add-result-in-Wait c).After-shape_at-shape in
    record { fits = omega (arith, delay_few s 1 c.delay_length.ensures) }

pub overflow_add-result-in-Index : goal.overflow_add-result-in-Index
overflow_add-result-in-Index c = let s : After-shape_at-shape = (goal.at.overflow_add-result-in-Index c).After-shape_at-shape in
    record { fits = omega (arith, number_few s 1 c.number_length-in-Index.ensures) }

pub overflow_add-result-in-Index-2 : goal.overflow_add-result-in-Index-2
overflow_add-result-in-Index-2 c = let s : After-shape_at-shape = (goal.at.overflow_add-result-in-Index-2 c).After-shape_at-shape in
    record { fits = omega (arith, number_few s 1 c.number_length-in-Index.ensures, month_few s 2 c.month_length.ensures) }

pub overflow_add-result-in-Leaf : goal.overflow_add-result-in-Leaf
overflow_add-result-in-Leaf c = let s : After-shape_at-shape = (goal.at.overflow_add-result-in-Leaf c).After-shape_at-shape in
    record { fits = omega (arith, month_few s 1 c.month_length-in-Leaf.ensures) }

pub overflow_add-result-in-Leaf-2 : goal.overflow_add-result-in-Leaf-2
overflow_add-result-in-Leaf-2 c = let s : After-shape_at-shape = (goal.at.overflow_add-result-in-Leaf-2 c).After-shape_at-shape in
    record { fits = omega (arith, month_few s 1 c.month_length-in-Leaf.ensures, number_few s 3 c.number_length-in-Leaf.ensures) }

pub overflow_add-result-in-Leaf-3 : goal.overflow_add-result-in-Leaf-3
overflow_add-result-in-Leaf-3 c = let s : After-shape_at-shape = (goal.at.overflow_add-result-in-Leaf-3 c).After-shape_at-shape in
    record { fits = omega (arith, month_few s 1 c.month_length-in-Leaf.ensures, number_few s 3 c.number_length-in-Leaf.ensures, number_few s 4 c.number_length-in-Leaf-2.ensures) }

pub returns-in-Bare : goal.returns-in-Bare
returns-in-Bare c = let s : After-shape_at-shape = (goal.at.returns-in-Bare c).After-shape_at-shape in
    (long_0 _ _ (text s Bare c.in-Bare.is), omega arith)

pub returns-in-Number : goal.returns-in-Number
returns-in-Number c = let s : After-shape_at-shape = (goal.at.returns-in-Number c).After-shape_at-shape in (
  long_1 _ _ _ (print_number (figure s 1)) c.number_length.ensures (text s Number c.in-Number.is),
  omega (arith, number_few s 1 c.number_length.ensures),
)

pub returns-in-Pair : goal.returns-in-Pair
returns-in-Pair c = let s : After-shape_at-shape = (goal.at.returns-in-Pair c).After-shape_at-shape in (
  long_2 _ _ _ _ (print_number (figure s 1)) (print_number (figure s 2)) c.number_length-in-Pair.ensures c.number_length-in-Pair-2.ensures
      (text s Pair c.in-Pair.is),
  omega (arith, number_few s 1 c.number_length-in-Pair.ensures, number_few s 2 c.number_length-in-Pair-2.ensures),
)

pub returns-in-Wait : goal.returns-in-Wait
returns-in-Wait c = let s : After-shape_at-shape = (goal.at.returns-in-Wait c).After-shape_at-shape in (
  long_1 _ _ _ (field_text delay (figure s 1) (figure s 1)) c.delay_length.ensures (text s Wait c.in-Wait.is),
  omega (arith, delay_few s 1 c.delay_length.ensures),
)

pub returns-in-Index : goal.returns-in-Index
returns-in-Index c = let s : After-shape_at-shape = (goal.at.returns-in-Index c).After-shape_at-shape in (
  long_2 _ _ _ _ (print_number (figure s 1)) (field_text month (figure s 2) (settings s 2)) c.number_length-in-Index.ensures c.month_length.ensures
      (text s Index c.in-Index.is),
  omega (arith, number_few s 1 c.number_length-in-Index.ensures, month_few s 2 c.month_length.ensures),
)

pub returns-in-Leaf : goal.returns-in-Leaf
returns-in-Leaf c = let s : After-shape_at-shape = (goal.at.returns-in-Leaf c).After-shape_at-shape in (
  long_3 _ _ _ _ _ (field_text month (figure s 1) (settings s 1)) (print_number (figure s 3)) (print_number (figure s 4))
      c.month_length-in-Leaf.ensures c.number_length-in-Leaf.ensures c.number_length-in-Leaf-2.ensures
      (text s Leaf c.in-Leaf.is),
  omega (arith, month_few s 1 c.month_length-in-Leaf.ensures, number_few s 3 c.number_length-in-Leaf.ensures, number_few s 4 c.number_length-in-Leaf-2.ensures),
)
