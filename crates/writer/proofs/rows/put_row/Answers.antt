use Prim.Native.Nat.{◌+◌, ◌≤◌, ℕ}
use lib.IntN.{ℤ}
use lib.ListN.{drop, length, length-set, set}
use mathlib.Core.List.{List, [], ◌++◌, ◌∷◌}
use mathlib.Core.Path.{◌∙◌, ◌≡◌, refl, sym}
use native.Mathlib.Omega.{arith}
use Rattle.writer.proofs.Puts.{none, one, room_as, room_first, room_front, room_next, said, then}
use Rattle.writer.proofs.RowTexts.{index_parts_lem, leaf_parts_lem, parts_at, row_at}
use Rattle.writer.specs.Shapes.{delay_field, number_field, row_text}
use Rattle.writer.specs.Written.{slot}
use Rattle.writer.specs.declared.rows.Shape.TheVariants.{Bare, Index, Leaf, Number, Pair, Wait}
use Rattle.writer.specs.declared.rows.Shape.{Shape}
use Rattle.writer.proofs.rows.put_row.Goals as goal
use Rattle.writer.proofs.rows.put_row.Goals.{After-shape_at-shape}

-- `rows::put_row` meets its contract.

module _ (c : After-shape_at-shape) where
  abbrev nodes : List ℤ
  nodes = c.args.nodes.now

  abbrev j : ℕ
  j = c.args.j

  abbrev figure : ℕ → ℤ
  figure k = slot nodes (j + k)

  text : (t : Shape) → c.shape_at-shape.result ≡ t → row_text (drop j nodes) ≡ c.letter_byte-letter.result ∷ parts_at t j nodes
  text t e = row_at nodes j _ c.letter_byte-letter.ensures _ c.shape_at-shape.ensures t e

  room_text : (t : Shape) → c.shape_at-shape.result ≡ t → c.args.at + length (c.letter_byte-letter.result ∷ parts_at t j nodes) ≤ length c.args.out.now
  room_text t e = room_as _ _ _ _ (text t e) c.requires.1

  room : (t : Shape) → c.shape_at-shape.result ≡ t → c.args.at + 1 + length (parts_at t j nodes) ≤ length (set c.args.out.now c.args.at c.letter_byte-letter.result)
  room t e = (room_front c.args.at c.letter_byte-letter.result (parts_at t j nodes) c.args.out.now (room_text t e)).1

  -- fields with their commas
  abbrev number : ℕ → List ℕ
  number k = number_field (figure k)

pub bounds-out-at : goal.bounds-out-at
bounds-out-at c = (room_front _ c.letter_byte-letter.result (parts_at c.shape_at-shape.result (j c) (nodes c)) c.args.out.now (room_text c _ refl)).0

pub put_figure-requires : goal.put_figure-requires
put_figure-requires c = let s : After-shape_at-shape = (goal.at.put_figure-requires c).After-shape_at-shape in (
  omega (arith, s.requires.0),
  room_first _ _ (number s 1) []
      (room s Number c.in-Number.is),
)

pub put_field-next-requires : goal.put_field-next-requires
put_field-next-requires c = let s : After-shape_at-shape = (goal.at.put_field-next-requires c).After-shape_at-shape in (
  omega (arith, s.requires.0),
  room_first _ _ (number s 1) ((number s 2) ++ [])
      (room s Pair c.in-Pair.is),
)

pub put_field-requires : goal.put_field-requires
put_field-requires c = let s : After-shape_at-shape = (goal.at.put_field-requires c).After-shape_at-shape in (
  omega (arith, s.requires.0),
  room_first _ _ (number s 2) []
      (room_next _
      (room s Pair c.in-Pair.is)
      c.put_field-next.ensures),
)

pub put_delay-requires : goal.put_delay-requires
put_delay-requires c = let s : After-shape_at-shape = (goal.at.put_delay-requires c).After-shape_at-shape in (
  omega (arith, s.requires.0),
  room_first _ _ (delay_field (figure s 1)) []
      (room s Wait c.in-Wait.is),
)

pub put_index-requires : goal.put_index-requires
put_index-requires c = let s : After-shape_at-shape = (goal.at.put_index-requires c).After-shape_at-shape in
    (s.requires.0, room_as _ _ _ _ (index_parts_lem (nodes s) (j s)) (room s Index c.in-Index.is))

pub put_leaf-requires : goal.put_leaf-requires
put_leaf-requires c = let s : After-shape_at-shape = (goal.at.put_leaf-requires c).After-shape_at-shape in
    (s.requires.0, room_as _ _ _ _ (leaf_parts_lem (nodes s) (j s)) (room s Leaf c.in-Leaf.is))

pub returns-in-Bare : goal.returns-in-Bare
returns-in-Bare c = let s : After-shape_at-shape = (goal.at.returns-in-Bare c).After-shape_at-shape in
    said (sym (text s Bare c.in-Bare.is)) (one _ _ _)

pub shape_of-out-in-Number : goal.shape_of-out-in-Number
shape_of-out-in-Number c = c.put_figure.auto.out ∙ simp length-set

pub returns-in-Number : goal.returns-in-Number
returns-in-Number c = let s : After-shape_at-shape = (goal.at.returns-in-Number c).After-shape_at-shape in
    said (sym (text s Number c.in-Number.is)) (then (one _ _ _) (then c.put_figure.ensures none))

pub shape_of-out-in-Pair : goal.shape_of-out-in-Pair
shape_of-out-in-Pair c = c.put_field.auto.out ∙ c.put_field-next.auto.out ∙ simp length-set

pub returns-in-Pair : goal.returns-in-Pair
returns-in-Pair c = let s : After-shape_at-shape = (goal.at.returns-in-Pair c).After-shape_at-shape in
    said (sym (text s Pair c.in-Pair.is))
    (then (one _ _ _) (then c.put_field-next.ensures (then c.put_field.ensures none)))

pub shape_of-out-in-Wait : goal.shape_of-out-in-Wait
shape_of-out-in-Wait c = c.put_delay.auto.out ∙ simp length-set

pub returns-in-Wait : goal.returns-in-Wait
returns-in-Wait c = let s : After-shape_at-shape = (goal.at.returns-in-Wait c).After-shape_at-shape in
    said (sym (text s Wait c.in-Wait.is)) (then (one _ _ _) (then c.put_delay.ensures none))

pub shape_of-out-in-Index : goal.shape_of-out-in-Index
shape_of-out-in-Index c = c.put_index.auto.out ∙ simp length-set

pub returns-in-Index : goal.returns-in-Index
returns-in-Index c = let s : After-shape_at-shape = (goal.at.returns-in-Index c).After-shape_at-shape in
    said (sym (text s Index c.in-Index.is)) (then (one _ _ _) (said (sym (index_parts_lem (nodes s) (j s))) c.put_index.ensures))

pub shape_of-out-in-Leaf : goal.shape_of-out-in-Leaf
shape_of-out-in-Leaf c = c.put_leaf.auto.out ∙ simp length-set

pub returns-in-Leaf : goal.returns-in-Leaf
returns-in-Leaf c = let s : After-shape_at-shape = (goal.at.returns-in-Leaf c).After-shape_at-shape in
    said (sym (text s Leaf c.in-Leaf.is)) (then (one _ _ _) (said (sym (leaf_parts_lem (nodes s) (j s))) c.put_leaf.ensures))
