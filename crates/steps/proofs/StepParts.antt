-- The parts of a plan that can be stepped where it stands, which can be stepped too.
use Prim.Native.Nat.{◌+◌, ◌-◌, ◌≤◌, ℕ}
use lib.Dec.{T}
use lib.IntN.{pos, ℤ}
use mathlib.Core.Bool.{true}
use mathlib.Core.List.{List, [], ◌∷◌}
use mathlib.Core.Path.{◌≡◌, refl, subst}
use native.Mathlib.Omega.{arith}
use Rattle.amounts.specs.Fine.{FineTest}
use Rattle.amounts.specs.Flat.{flat}
use Rattle.amounts.specs.Placed.{place_in, placed_amount, placed_plan, placed_test}
use Rattle.copies.proofs.LyingParts.{Three, Two, laid, lying_below, three_lie, two_lie}
use Rattle.copies.proofs.PlanLetters.{letter_of}
use Rattle.copies.proofs.Shapes.{Shape, amount_shape, is_node, plan_shape, test_shape}
use Rattle.copies.specs.Lies.{Lies}
use Rattle.language.specs.Calls.{lookup_of}
use Rattle.language.specs.Limits.{max_months, max_nodes}
use Rattle.language.specs.Payments.Amounts.{holds}
use Rattle.language.specs.Rules.Accepted.{every_in_plan, reads_of}
use Rattle.language.specs.Rules.Settings.{closed, map_plan}
use Rattle.language.specs.Rules.Table.{Table, readable, is_table}
use Rattle.language.specs.Text.Classes.{a_delay, a_number}
use Rattle.language.specs.Text.Form.{depth_of, fields_of}
use Rattle.language.specs.Text.Letters as text
use Rattle.language.specs.Text.Letters.{of_root, plan_form, plan_row, row_of}
use Rattle.language.specs.Text.Plans.{plan_trees}
use Rattle.language.specs.Text.Reader.{Trees, end}
use Rattle.language.specs.Text.Trees.{Amount, Plan, Test, both, later, months, nothing, scale, transfer, within}
use Rattle.language.specs.Text.Typed.{amount_tree, test_tree}
use Rattle.nodes.proofs.BlocksLaid.{amount_block}
use Rattle.nodes.specs.Blocks.{AmountBlock}
use Rattle.nodes.proofs.AmountsFound.{byte_at}
use Rattle.nodes.proofs.Laid.{laid_slot}
use Rattle.nodes.specs.Found.{offset_of, test_at}
use Rattle.nodes.specs.Rows.{count_of, delay_slot, field_slots, first_count, slots_of}
use Rattle.nodes.specs.Stands.{TestStands}
use Rattle.nodes.specs.Table.{link_at, slot_at}
use Rattle.places.proofs.PlacedForm.{depth_amount}
use Rattle.steps.proofs.Tested.{test_fine, test_holds, test_stands}
use Rattle.steps.specs.Ready.{Steps}

-- ---- the letter

-- filling and placing keep it
pub same_letter : (place : ℕ → ℤ → ℤ) (y : Plan ℕ) → letter_of (closed (placed_plan place y)) ≡ letter_of y
unfolding map_plan placed_plan
same_letter place nothing = refl
same_letter place (transfer p q) = refl
same_letter place (scale a x) = refl
same_letter place (later d x) = refl
same_letter place (both x y) = refl
same_letter place (within d t x y) = refl

-- without a delay the root stays in its month
same_month : (t : Table) (r d : ℕ) (x : Plan ℕ) → d ≡ 0 → reads_of (λ l m. T (readable t l m)) x (r + d) → reads_of (λ l m. T (readable t l m)) x r
same_month t r d x e h = let z : r + d ≡ r = omega arith in subst (λ k. reads_of (λ l m. T (readable t l m)) x k) z h

-- a tree with none behind it
first_alone : {tree : Trees text.PlanLetter → Trees text.PlanLetter} → Shape tree → count_of (tree end) ≡ first_count (tree end)
unfolding count_of first_count
first_alone s = rw (s.is end) (omega arith)

module _ {t : Table} {r : ℕ} {nodes : List ℤ} {at to left : ℕ} where
  -- ---- parts

  pub scale_lies : (a : Amount ℤ) (x : Plan ℕ) → Steps t r nodes at to left (scale a x) → Two nodes at to (amount_tree a_number (placed_amount (place_in t) a)) (plan_trees (closed (placed_plan (place_in t) x)) end)
  unfolding plan_trees map_plan placed_plan
  scale_lies a x s = two_lie (of_root text.PlanLetter.S) [] (amount_shape a_number (placed_amount (place_in t) a)) (is_node (plan_shape (closed (placed_plan (place_in t) x))) end) s.lies

  pub scale_block : (a : Amount ℤ) (x : Plan ℕ) → Steps t r nodes at to left (scale a x) → AmountBlock max_nodes nodes (at + 1) (link_at nodes at 3)
  unfolding depth_of
  scale_block a x s =
      let b = placed_amount (place_in t) a in
      let l = (scale_lies a x s).first in
      amount_block plan_form a_number nodes b end (at + 1) max_nodes (link_at nodes at 3) (laid l) (omega (arith, depth_amount (place_in t) a, s.depth, s.deep))
      (omega (arith, l.ends, first_alone (amount_shape a_number b)))

  pub scale_steps : (a : Amount ℤ) (x : Plan ℕ) → Steps t r nodes at to left (scale a x) → Steps t r nodes (link_at nodes at 3) to (left - 1) x
  unfolding fields_of reads_of every_in_plan depth_of
  scale_steps a x s =
      record { lies = (scale_lies a x s).second; fields = s.fields.1; reads = s.reads.1; small = s.small.1; depth = omega (arith, s.depth); deep = omega (arith, s.deep) }

  pub later_lies : (d : ℕ) (x : Plan ℕ) → Steps t r nodes at to left (later d x) → Lies nodes (at + 1) to (plan_trees (closed (placed_plan (place_in t) x)) end)
  unfolding plan_trees map_plan placed_plan
  later_lies d x s = lying_below (of_root text.PlanLetter.L) (a_delay (months d) ∷ []) s.lies

  pub later_slots : (d : ℕ) (x : Plan ℕ) → Steps t r nodes at to left (later d x) → (slot_at nodes at 0 ≡ pos 76) × (slot_at nodes at 1 ≡ pos d)
  unfolding plan_trees map_plan placed_plan row_of plan_row slots_of field_slots delay_slot
  later_slots d x s =
      (byte_at plan_form nodes (of_root text.PlanLetter.L) (a_delay (months d) ∷ []) _ (laid s.lies), laid_slot plan_form nodes (of_root text.PlanLetter.L) (a_delay (months d) ∷ []) (laid s.lies) 1 (omega arith))

  pub later_steps : (d : ℕ) (x : Plan ℕ) → d ≡ 0 → Steps t r nodes at to left (later d x) → Steps t r nodes (at + 1) to (left - 1) x
  unfolding fields_of reads_of every_in_plan depth_of
  later_steps d x e s =
      record { lies = later_lies d x s; fields = s.fields.1; reads = same_month t r d x e s.reads; small = s.small.0; depth = omega (arith, s.depth); deep = omega (arith, s.deep) }

  pub both_lie : (x y : Plan ℕ) → Steps t r nodes at to left (both x y) → Two nodes at to (plan_trees (closed (placed_plan (place_in t) x))) (plan_trees (closed (placed_plan (place_in t) y)) end)
  unfolding plan_trees map_plan placed_plan
  both_lie x y s = two_lie (of_root text.PlanLetter.B) [] (plan_shape (closed (placed_plan (place_in t) x))) (is_node (plan_shape (closed (placed_plan (place_in t) y))) end) s.lies

  pub first_steps : (x y : Plan ℕ) → Steps t r nodes at to left (both x y) → Steps t r nodes (at + 1) (link_at nodes at 3) (left - 1) x
  unfolding fields_of reads_of every_in_plan depth_of
  first_steps x y s =
      record { lies = (both_lie x y s).first; fields = s.fields.0; reads = s.reads.0; small = s.small.0; depth = omega (arith, s.depth); deep = omega (arith, s.deep) }

  pub second_steps : (x y : Plan ℕ) → Steps t r nodes at to left (both x y) → Steps t r nodes (link_at nodes at 3) to (left - 1) y
  unfolding fields_of reads_of every_in_plan depth_of
  second_steps x y s =
      record { lies = (both_lie x y s).second; fields = s.fields.1; reads = s.reads.1; small = s.small.1; depth = omega (arith, s.depth); deep = omega (arith, s.deep) }

  module _ (d : ℕ) (u : Test ℤ) (x y : Plan ℕ) (s : Steps t r nodes at to left (within d u x y)) where
    pub within_lies : Three nodes at to (test_tree a_number (placed_test (place_in t) u)) (plan_trees (closed (placed_plan (place_in t) x))) (plan_trees (closed (placed_plan (place_in t) y)) end)
    unfolding plan_trees map_plan placed_plan
    within_lies = three_lie (of_root text.PlanLetter.W) (a_delay (months d) ∷ []) (test_shape a_number (placed_test (place_in t) u)) (plan_shape (closed (placed_plan (place_in t) x))) (is_node (plan_shape (closed (placed_plan (place_in t) y))) end) s.lies

    pub within_slots : (slot_at nodes at 0 ≡ pos 87) × (slot_at nodes at 1 ≡ pos d)
    unfolding plan_trees map_plan placed_plan row_of plan_row slots_of field_slots delay_slot
    within_slots =
        (byte_at plan_form nodes (of_root text.PlanLetter.W) (a_delay (months d) ∷ []) _ (laid s.lies), laid_slot plan_form nodes (of_root text.PlanLetter.W) (a_delay (months d) ∷ []) (laid s.lies) 1 (omega arith))

    pub held_steps : Steps t r nodes (link_at nodes at 3) (link_at nodes at 4) (left - 1) x
    unfolding fields_of reads_of every_in_plan depth_of
    held_steps =
        record { lies = within_lies.second; fields = s.fields.2; reads = (s.reads.0 r (omega arith) (omega arith)).1; small = s.small.1; depth = omega (arith, s.depth); deep = omega (arith, s.deep) }

    pub missed_steps : d ≡ 0 → Steps t r nodes (link_at nodes at 4) to (left - 1) y
    unfolding fields_of reads_of every_in_plan depth_of
    missed_steps e =
        record { lies = within_lies.third; fields = s.fields.3; reads = same_month t r d y e s.reads.1; small = s.small.2; depth = omega (arith, s.depth); deep = omega (arith, s.deep) }

    -- the test in month r
    module _ (ok : is_table t ≡ true) (early : r ≤ max_months) where
      pub within_test : TestStands max_nodes nodes (at + 1) × FineTest t.values r (test_at offset_of max_nodes nodes (at + 1)) × (holds (flat t.values) (test_at offset_of max_nodes nodes (at + 1)) r ≡ holds (lookup_of t) u r)
      unfolding fields_of reads_of every_in_plan depth_of
      within_test =
          let l = within_lies.first in
          let b = (s.reads.0 r (omega arith) (omega arith)).0 in (
            test_stands t ok r early u l s.fields.1 (omega (arith, s.depth, s.deep)) b s.small.0,
            test_fine t ok r early u l s.fields.1 (omega (arith, s.depth, s.deep)) b s.small.0,
            test_holds t ok r early u l s.fields.1 (omega (arith, s.depth, s.deep)) b s.small.0,
          )
