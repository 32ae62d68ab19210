-- An amount or test with each month changed: its fields and its depth.
use Prim.Native.Nat.{◌+◌, max}
use mathlib.Core.Path.{◌≡◌, ap, ap₂, refl}
use Rattle.language.specs.Payoff.Compile.{map_amount, map_test}
use Rattle.language.specs.Text.Form.{depth_of_amount, depth_of_test, fields_of_amount, fields_of_test}
use Rattle.language.specs.Text.Trees.{Amount, Test, choose, conjunction, difference, disjunction, equal, index, less, negation, number, product, quotient, sum}

module _ {M N : Type 0} (f : M → N) (from : M → Type 0) (to : N → Type 0) (keeps : (m : M) → from m → to (f m)) where
  mutual
    unfolding map_amount map_test fields_of_amount fields_of_test

    pub fields_amount : (a : Amount M) → fields_of_amount from a → fields_of_amount to (map_amount f a)
    fields_amount (number n) h = h
    fields_amount (index l i) h = (h.0, keeps i h.1)
    fields_amount (sum a b) h = (fields_amount a h.0, fields_amount b h.1)
    fields_amount (difference a b) h = (fields_amount a h.0, fields_amount b h.1)
    fields_amount (product a b) h = (fields_amount a h.0, fields_amount b h.1)
    fields_amount (quotient n a) h = (h.0, h.1, fields_amount a h.2)
    fields_amount (choose t a b) h = (fields_test t h.0, fields_amount a h.1, fields_amount b h.2)

    pub fields_test : (t : Test M) → fields_of_test from t → fields_of_test to (map_test f t)
    fields_test (less a b) h = (fields_amount a h.0, fields_amount b h.1)
    fields_test (equal a b) h = (fields_amount a h.0, fields_amount b h.1)
    fields_test (conjunction s t) h = (fields_test s h.0, fields_test t h.1)
    fields_test (disjunction s t) h = (fields_test s h.0, fields_test t h.1)
    fields_test (negation t) h = fields_test t h

module _ {M N : Type 0} (f : M → N) where
  mutual
    unfolding map_amount map_test depth_of_amount depth_of_test

    pub depth_amount : (a : Amount M) → depth_of_amount (map_amount f a) ≡ depth_of_amount a
    depth_amount (number n) = refl
    depth_amount (index l i) = refl
    depth_amount (sum a b) = ap₂ (λ x y. 1 + max x y) (depth_amount a) (depth_amount b)
    depth_amount (difference a b) = ap₂ (λ x y. 1 + max x y) (depth_amount a) (depth_amount b)
    depth_amount (product a b) = ap₂ (λ x y. 1 + max x y) (depth_amount a) (depth_amount b)
    depth_amount (quotient n a) = ap (λ x. 1 + x) (depth_amount a)
    depth_amount (choose t a b) = ap₂ (λ x y. 1 + max x y) (depth_test t) (ap₂ max (depth_amount a) (depth_amount b))

    pub depth_test : (t : Test M) → depth_of_test (map_test f t) ≡ depth_of_test t
    depth_test (less a b) = ap₂ (λ x y. 1 + max x y) (depth_amount a) (depth_amount b)
    depth_test (equal a b) = ap₂ (λ x y. 1 + max x y) (depth_amount a) (depth_amount b)
    depth_test (conjunction s t) = ap₂ (λ x y. 1 + max x y) (depth_test s) (depth_test t)
    depth_test (disjunction s t) = ap₂ (λ x y. 1 + max x y) (depth_test s) (depth_test t)
    depth_test (negation t) = ap (λ x. 1 + x) (depth_test t)
