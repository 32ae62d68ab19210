-- No length leaves the months that code adds.
use Prim.Native.Nat.{◌*◌, ◌+◌, ◌≤◌, suc, zero, ℕ}
use Rattle.integers.specs.Bounded.{Small}
use Rattle.language.specs.Limits.{max_months, max_nodes}
use Rattle.language.specs.Rules.Measures.{length_of}
use Rattle.language.specs.Text.Form.{fields_of, filled_in_form}
use Rattle.language.specs.Text.Trees.{Amount, Plan, Test}
use Rattle.measures.specs.Ready.{PlanReady}
use Rattle.nodes.specs.Found.{amount_at, offset_of, plan_at, plan_by, test_at}
use Rattle.nodes.specs.Letters.{letter_of_plan}
use Rattle.nodes.specs.Table.{link_at, nat_of, slot_at}
use Rattle.nodes.specs.declared.PlanLetter.TheVariants.{Both, Later, NoPlan, Nothing, Scale, Transfer, Within}
use Rattle.nodes.specs.declared.PlanLetter.{PlanLetter}
use lib.IntN.{pos, ℤ}
use mathlib.Core.List.{List}
use mathlib.Core.Path.{◌≡◌}
use native.Mathlib.Omega.{arith}

length_of_lem : (l : PlanLetter) (d : ℕ) (p q : ℤ) (a : Amount ℤ) (t : Test ℤ) (x y z : Plan ℕ) (n : ℕ)
    → (fields_of filled_in_form x → length_of x ≤ n) → (fields_of filled_in_form y → length_of y ≤ n) → (fields_of filled_in_form z → length_of z ≤ n)
    → fields_of filled_in_form (plan_by l d p q a t x y z) → length_of (plan_by l d p q a t x y z) ≤ max_months + n
unfolding length_of fields_of
length_of_lem Nothing d p q a t x y z n hx hy hz f = omega arith
length_of_lem Transfer d p q a t x y z n hx hy hz f = omega arith
length_of_lem Scale d p q a t x y z n hx hy hz f = omega (arith, hy f.1)
length_of_lem Later d p q a t x y z n hx hy hz f = omega (arith, hx f.1, f.0)
length_of_lem Both d p q a t x y z n hx hy hz f = omega (arith, hx f.0, hy f.1)
length_of_lem Within d p q a t x y z n hx hy hz f = omega (arith, hy f.2, hz f.3, f.0)
length_of_lem NoPlan d p q a t x y z n hx hy hz f = omega arith

length_at : (left : ℕ) (nodes : List ℤ) (at : ℕ) → fields_of filled_in_form (plan_at nat_of left nodes at) → length_of (plan_at nat_of left nodes at) ≤ max_months * left
unfolding plan_at length_of
length_at zero nodes at f = omega arith
length_at (suc left) nodes at f =
    let b = length_of_lem (letter_of_plan (slot_at nodes at 0)) (nat_of (slot_at nodes at 1)) (slot_at nodes at 1) (slot_at nodes at 2)
    (amount_at offset_of max_nodes nodes (at + 1)) (test_at offset_of max_nodes nodes (at + 1))
    (plan_at nat_of left nodes (at + 1)) (plan_at nat_of left nodes (link_at nodes at 3)) (plan_at nat_of left nodes (link_at nodes at 4)) (max_months * left)
    (length_at left nodes (at + 1)) (length_at left nodes (link_at nodes at 3)) (length_at left nodes (link_at nodes at 4)) f in
    omega arith

pub length_bound : {left at : ℕ} {nodes : List ℤ} → PlanReady left nodes at → length_of (plan_at nat_of left nodes at) ≤ 20_000
length_bound {left} {at} {nodes} h = omega (arith, length_at left nodes at h.fields, h.depth)

-- a month of this size can be added
pub few : {z : ℤ} {n : ℕ} → z ≡ pos n → n ≤ 1_000_000 → Small z
few e b = rw e (record { small = omega arith })
