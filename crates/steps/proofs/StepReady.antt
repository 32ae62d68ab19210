-- A plan that can be stepped, as the walk asks for it: what its letter tells of it, and its parts.
use Prim.Native.Nat.{◌*◌, ◌+◌, ◌-◌, ◌<◌, ◌≤◌, ℕ}
use borrow.Author.Tests.{leb-false, leb-true}
use lib.IntN.{pos, ℤ}
use lib.ListN.{length}
use lib.Signed.{le_z}
use mathlib.Core.Bool.{false, true}
use mathlib.Core.List.{List}
use mathlib.Core.Path.{◌∙◌, ◌≡◌, ap, subst, sym}
use native.Mathlib.Omega.{arith}
use Rattle.amounts.proofs.TablePlaces.{lengths_of}
use Rattle.amounts.specs.Fine.{FineTest, MonthIn}
use Rattle.amounts.specs.Flat.{flat}
use Rattle.amounts.specs.Placed.{place_in, placed_amount, placed_plan, placed_test}
use Rattle.copies.proofs.LyingParts.{Three, Two, lying_length}
use Rattle.copies.proofs.PlanLetters.{Is, is_so, letter_is, some_depth}
use Rattle.copies.proofs.Shapes.{plan_shape}
use Rattle.copies.specs.Lies.{Lies}
use Rattle.language.specs.Calls.{lookup_of}
use Rattle.language.specs.Limits.{max_months, max_nodes}
use Rattle.language.specs.Payments.Amounts.{holds}
use Rattle.language.specs.Rules.Settings.{closed}
use Rattle.language.specs.Rules.Table.{value_at}
use Rattle.language.specs.Text.Classes.{a_number}
use Rattle.language.specs.Text.Plans.{plan_trees}
use Rattle.language.specs.Text.Reader.{end}
use Rattle.language.specs.Text.Trees.{both, later, scale, within}
use Rattle.language.specs.Text.Typed.{amount_tree, test_tree}
use Rattle.nodes.specs.Blocks.{AmountBlock}
use Rattle.nodes.proofs.Signed.{nat_of_known}
use Rattle.nodes.specs.Found.{offset_of, test_at}
use Rattle.nodes.specs.Letters.{letter_of_plan}
use Rattle.nodes.specs.Rows.{count_of}
use Rattle.nodes.specs.Stands.{TestStands}
use Rattle.nodes.specs.Table.{RowIn, link_at, nat_of, slot_at}
use Rattle.nodes.specs.declared.PlanLetter.TheVariants as letter
use Rattle.nodes.specs.declared.PlanLetter.{PlanLetter}
use Rattle.places.proofs.PassFound.{table_span}
use Rattle.places.specs.Place.{SpanIn}
use Rattle.steps.specs.Ready.{Ready, Steps}
use Rattle.tables.proofs.Spans.{up_to_lem}
use Rattle.tables.specs.Given.{table_of}
use Rattle.tables.specs.Lookup.{Kept, read_table}
use Rattle.steps.proofs.StepParts.{both_lie, first_steps, held_steps, later_lies, later_slots, later_steps, missed_steps, same_letter, scale_block, scale_lies, scale_steps, second_steps, within_lies, within_slots, within_test}

-- a delay, as the code reads it, that is due or is not
pub none_left : {d : ℤ} {n : ℕ} → d ≡ pos n → le_z d (pos 0) ≡ true → n ≡ 0
none_left {d} {n} ed e = omega (arith, leb-true n 0 (rw ed at e))

pub some_left_of : {d : ℤ} {n : ℕ} → d ≡ pos n → le_z d (pos 0) ≡ false → 0 < n
some_left_of {d} {n} ed e = omega (arith, leb-false n 0 (rw ed at e))

-- months from 0 to 600
pub early : {z : ℤ} → MonthIn z → nat_of z ≤ max_months
early {z} h = omega (arith, nat_of_known z h.known, h.within)

module _ {h f : ℤ} {bounds values : List ℤ} {r : ℕ} {nodes : List ℤ} {at to left : ℕ} (y : Ready h f bounds values r nodes at to left) where
  pub by_letter : {l k : PlanLetter} → l ≡ letter_of_plan (slot_at nodes at 0) → l ≡ k → Is k y.plan
  by_letter el e =
      let place = place_in (table_of h f y.factors bounds values) in
      subst (λ m. Is m y.plan) (sym (same_letter place y.plan) ∙ sym (letter_is (closed (placed_plan place y.plan)) y.steps.lies) ∙ sym el ∙ e) (is_so y.plan)

  pub inside : (at < to) × (to ≤ max_nodes) × (5 * to ≤ length nodes)
  unfolding count_of
  inside =
      let n = plan_shape (closed (placed_plan (place_in (table_of h f y.factors bounds values)) y.plan)) in
      let s : at < to = omega (arith, y.steps.lies.ends, ap count_of (n.is end)) in
      (s, y.steps.lies.room, lying_length s y.steps.lies)

  pub row_in_lem : RowIn nodes at
  row_in_lem = (omega (arith, inside.0, inside.1), omega (arith, inside.0, inside.2))

  pub some_left : 0 < left
  some_left = omega (arith, some_depth y.plan, y.steps.depth)

  pub span_in : SpanIn h f
  span_in = table_span (table_of h f y.factors bounds values) y.ok

  pub kept : Kept h f bounds values
  kept =
      let n = lengths_of (table_of h f y.factors bounds values) y.ok in
      let a = up_to_lem _ h span_in.back in
      let b = up_to_lem _ f span_in.ahead in
      record { span = record { h_from = a.natural; h_to = a.small; f_from = b.natural; f_to = b.small }; labels = n.labels; count = n.values }

  module _ (i : Is letter.Scale y.plan) where
    pub scale_is : Steps (table_of h f y.factors bounds values) r nodes at to left (scale i.0 i.1)
    scale_is = subst (Steps (table_of h f y.factors bounds values) r nodes at to left) i.2 y.steps

    pub scale_parts : Two nodes at to (amount_tree a_number (placed_amount (place_in (table_of h f y.factors bounds values)) i.0)) (plan_trees (closed (placed_plan (place_in (table_of h f y.factors bounds values)) i.1)) end)
    scale_parts = scale_lies i.0 i.1 scale_is

    module _ {p : ℕ} (e : p ≡ link_at nodes at 3) where
      pub scale_order : (at + 1 ≤ p) × (p ≤ to)
      scale_order = (omega (arith, e, scale_parts.first.ends), omega (arith, e, scale_parts.second.ends))

      -- where the amount's rows stand
      pub scale_rows : AmountBlock max_nodes nodes (at + 1) p × (p ≤ max_nodes) × (5 * p ≤ length nodes)
      scale_rows = (rw e (scale_block i.0 i.1 scale_is), omega (arith, scale_order.1, inside.1), omega (arith, scale_order.1, inside.2))

      unfoldable pub scale_ready : Ready h f bounds values r nodes p to (left - 1)
      scale_ready = record { factors = y.factors; ok = y.ok; plan = i.1; steps = rw e (scale_steps i.0 i.1 scale_is) }

  module _ (i : Is letter.Later y.plan) where
    pub later_is : Steps (table_of h f y.factors bounds values) r nodes at to left (later i.0 i.1)
    later_is = subst (Steps (table_of h f y.factors bounds values) r nodes at to left) i.2 y.steps

    pub later_row : (slot_at nodes at 0 ≡ pos 76) × (slot_at nodes at 1 ≡ pos i.0)
    later_row = later_slots i.0 i.1 later_is

    pub later_below : Lies nodes (at + 1) to (plan_trees (closed (placed_plan (place_in (table_of h f y.factors bounds values)) i.1)) end)
    later_below = later_lies i.0 i.1 later_is

    pub later_due : {d : ℤ} → d ≡ pos (nat_of (slot_at nodes at 1)) → le_z d (pos 0) ≡ true → i.0 ≡ 0
    later_due ed e = none_left (ed ∙ ap (λ z. pos (nat_of z)) later_row.1) e

    pub later_waits : {d : ℤ} → d ≡ pos (nat_of (slot_at nodes at 1)) → le_z d (pos 0) ≡ false → 0 < i.0
    later_waits ed e = some_left_of (ed ∙ ap (λ z. pos (nat_of z)) later_row.1) e

    unfoldable pub later_ready : {d : ℤ} → d ≡ pos (nat_of (slot_at nodes at 1)) → le_z d (pos 0) ≡ true → Ready h f bounds values r nodes (at + 1) to (left - 1)
    later_ready ed e = record { factors = y.factors; ok = y.ok; plan = i.1; steps = later_steps i.0 i.1 (later_due ed e) later_is }

  module _ (i : Is letter.Both y.plan) where
    pub both_is : Steps (table_of h f y.factors bounds values) r nodes at to left (both i.0 i.1)
    both_is = subst (Steps (table_of h f y.factors bounds values) r nodes at to left) i.2 y.steps

    pub both_parts : Two nodes at to (plan_trees (closed (placed_plan (place_in (table_of h f y.factors bounds values)) i.0))) (plan_trees (closed (placed_plan (place_in (table_of h f y.factors bounds values)) i.1)) end)
    both_parts = both_lie i.0 i.1 both_is

    module _ {p : ℕ} (e : p ≡ link_at nodes at 3) where
      pub both_order : (at + 1 ≤ p) × (p ≤ to)
      both_order = (omega (arith, e, both_parts.first.ends), omega (arith, e, both_parts.second.ends))

      unfoldable pub first_ready : Ready h f bounds values r nodes (at + 1) p (left - 1)
      first_ready = record { factors = y.factors; ok = y.ok; plan = i.0; steps = rw e (first_steps i.0 i.1 both_is) }

      unfoldable pub second_ready : Ready h f bounds values r nodes p to (left - 1)
      second_ready = record { factors = y.factors; ok = y.ok; plan = i.1; steps = rw e (second_steps i.0 i.1 both_is) }

  module _ (i : Is letter.Within y.plan) where
    pub within_is : Steps (table_of h f y.factors bounds values) r nodes at to left (within i.0 i.1 i.2 i.3)
    within_is = subst (Steps (table_of h f y.factors bounds values) r nodes at to left) i.4 y.steps

    pub within_parts : Three nodes at to (test_tree a_number (placed_test (place_in (table_of h f y.factors bounds values)) i.1)) (plan_trees (closed (placed_plan (place_in (table_of h f y.factors bounds values)) i.2)))
        (plan_trees (closed (placed_plan (place_in (table_of h f y.factors bounds values)) i.3)) end)
    within_parts = within_lies i.0 i.1 i.2 i.3 within_is

    pub within_row : (slot_at nodes at 0 ≡ pos 87) × (slot_at nodes at 1 ≡ pos i.0)
    within_row = within_slots i.0 i.1 i.2 i.3 within_is

    pub within_due : {d : ℤ} → d ≡ pos (nat_of (slot_at nodes at 1)) → le_z d (pos 0) ≡ true → i.0 ≡ 0
    within_due ed e = none_left (ed ∙ ap (λ z. pos (nat_of z)) within_row.1) e

    pub within_waits : {d : ℤ} → d ≡ pos (nat_of (slot_at nodes at 1)) → le_z d (pos 0) ≡ false → 0 < i.0
    within_waits ed e = some_left_of (ed ∙ ap (λ z. pos (nat_of z)) within_row.1) e

    -- the test, which the walk works out, holds as it does by the table
    pub tested : r ≤ max_months → TestStands max_nodes nodes (at + 1) × FineTest values r (test_at offset_of max_nodes nodes (at + 1)) × (holds (flat values) (test_at offset_of max_nodes nodes (at + 1)) r ≡ holds (lookup_of (read_table h f bounds values)) i.1 r)
    unfolding value_at
    tested early = within_test i.0 i.1 i.2 i.3 within_is y.ok early

    module _ {p q : ℕ} (ep : p ≡ link_at nodes at 3) (eq : q ≡ link_at nodes at 4) where
      pub within_order : (at + 1 ≤ p) × (p ≤ q) × (q ≤ to)
      within_order = (omega (arith, ep, within_parts.first.ends), omega (arith, ep, eq, within_parts.second.ends), omega (arith, eq, within_parts.third.ends))

      unfoldable pub held_ready : Ready h f bounds values r nodes p q (left - 1)
      held_ready = record { factors = y.factors; ok = y.ok; plan = i.2; steps = rw (ep, eq) (held_steps i.0 i.1 i.2 i.3 within_is) }

      unfoldable pub missed_ready : {d : ℤ} → d ≡ pos (nat_of (slot_at nodes at 1)) → le_z d (pos 0) ≡ true → Ready h f bounds values r nodes q to (left - 1)
      missed_ready ed e = record { factors = y.factors; ok = y.ok; plan = i.3; steps = rw eq (missed_steps i.0 i.1 i.2 i.3 within_is (within_due ed e)) }
