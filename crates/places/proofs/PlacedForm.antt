-- A placed plan is as deep as the plan, and its delays may be closed before or after.
use Prim.Native.Nat.{◌+◌, max, ℕ}
use lib.IntN.{ℤ}
use mathlib.Core.Path.{◌≡◌, ap, ap₂, refl}
use Rattle.amounts.specs.Placed.{placed_amount, placed_test}
use Rattle.language.specs.Rules.Settings.{closed, map_plan}
use Rattle.language.specs.Text.Form.{delay_in_form, depth_of_amount, depth_of_test, fields_of, filled_in_form, nodes_of}
use Rattle.language.specs.Text.Trees.{Amount, Plan, Test, both, choose, conjunction, difference, disjunction, equal, index, later, less, negation, nothing, number, product, quotient, scale, sum, transfer, within}
use Rattle.amounts.specs.Placed.{placed_plan}

-- one node above two
abbrev over : ℕ → ℕ → ℕ
over a b = 1 + max a b

module _ (place : ℕ → ℤ → ℤ) where
  mutual
    unfolding placed_amount placed_test depth_of_amount depth_of_test

    pub depth_amount : (a : Amount ℤ) → depth_of_amount (placed_amount place a) ≡ depth_of_amount a
    depth_amount (number n) = refl
    depth_amount (index l i) = refl
    depth_amount (sum a b) = ap₂ over (depth_amount a) (depth_amount b)
    depth_amount (difference a b) = ap₂ over (depth_amount a) (depth_amount b)
    depth_amount (product a b) = ap₂ over (depth_amount a) (depth_amount b)
    depth_amount (quotient n a) = ap (λ d. 1 + d) (depth_amount a)
    depth_amount (choose t a b) = ap₂ over (depth_test t) (ap₂ max (depth_amount a) (depth_amount b))

    pub depth_test : (t : Test ℤ) → depth_of_test (placed_test place t) ≡ depth_of_test t
    depth_test (less a b) = ap₂ over (depth_amount a) (depth_amount b)
    depth_test (equal a b) = ap₂ over (depth_amount a) (depth_amount b)
    depth_test (conjunction s t) = ap₂ over (depth_test s) (depth_test t)
    depth_test (disjunction s t) = ap₂ over (depth_test s) (depth_test t)
    depth_test (negation t) = ap (λ d. 1 + d) (depth_test t)

  pub placed_closed : (y : Plan ℕ) → placed_plan place (closed y) ≡ closed (placed_plan place y)
  unfolding placed_plan map_plan
  placed_closed nothing = refl
  placed_closed (transfer p q) = refl
  placed_closed (scale a x) = ap (scale (placed_amount place a)) (placed_closed x)
  placed_closed (later d x) = rw (placed_closed x) refl
  placed_closed (both x y) = ap₂ both (placed_closed x) (placed_closed y)
  placed_closed (within d t x y) = rw (placed_closed x, placed_closed y) refl

-- ---- a filled plan as one to write

pub nodes_closed : (y : Plan ℕ) → nodes_of (closed y) ≡ nodes_of y
unfolding nodes_of map_plan
nodes_closed nothing = refl
nodes_closed (transfer p q) = refl
nodes_closed (scale a x) = rw (nodes_closed x) refl
nodes_closed (later d x) = rw (nodes_closed x) refl
nodes_closed (both x y) = rw (nodes_closed x, nodes_closed y) refl
nodes_closed (within d t x y) = rw (nodes_closed x, nodes_closed y) refl

pub fields_closed : (y : Plan ℕ) → fields_of filled_in_form y → fields_of delay_in_form (closed y)
unfolding fields_of map_plan
fields_closed nothing g = g
fields_closed (transfer p q) g = g
fields_closed (scale a x) g = (g.0, fields_closed x g.1)
fields_closed (later d x) g = (g.0, fields_closed x g.1)
fields_closed (both x y) g = (fields_closed x g.0, fields_closed y g.1)
fields_closed (within d t x y) g = (g.0, g.1, fields_closed x g.2, fields_closed y g.3)
