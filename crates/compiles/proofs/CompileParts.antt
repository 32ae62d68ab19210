-- A plan that can be compiled where it stands: what its letter tells of it, and its parts, which can be compiled too.
use Prim.Native.Nat.{◌*◌, ◌+◌, ◌-◌, ◌<◌, ◌≤◌, ℕ}
use lib.IntN.{nat_abs, pos, ℤ}
use lib.ListN.{length}
use mathlib.Core.List.{List, [], ◌∷◌}
use mathlib.Core.Path.{◌∙◌, ◌≡◌, ap, ap₂, subst, sym}
use native.Mathlib.Omega.{arith}
use Rattle.compiles.proofs.Delays.{digits_delayed, later_near, plain_delayed, same_near}
use Rattle.compiles.specs.Months.{Near, compiled_row, digits_later, plain_later}
use Rattle.compiles.specs.Ready.{Ready}
use Rattle.copies.proofs.Appending.{kept_from}
use Rattle.copies.proofs.LyingParts.{Three, Two, laid, lies_kept, lying_below, lying_length, three_lie, two_lie}
use Rattle.copies.proofs.PlanLetters.{Is, is_so, letter_is, some_depth}
use Rattle.copies.proofs.Shapes.{amount_shape, is_node, plan_shape, test_shape}
use Rattle.copies.specs.Appended.{Appended}
use Rattle.copies.specs.Copied.{Copied}
use Rattle.copies.specs.Lies.{Lies}
use Rattle.language.specs.Limits.{max_nodes}
use Rattle.language.specs.Payoff.Compile.{delayed}
use Rattle.language.specs.Text.Classes.{a_delay, a_number}
use Rattle.language.specs.Text.Form.{delay_in_form, depth_of, fields_of, fields_of_amount, fields_of_test, offset_in_form}
use Rattle.language.specs.Text.Letters as text
use Rattle.language.specs.Text.Letters.{of_root, plan_form, plan_row, row_of}
use Rattle.language.specs.Text.Plans.{plan_trees}
use Rattle.language.specs.Text.Reader.{end}
use Rattle.language.specs.Text.Trees.{Delay, Plan, both, later, scale, transfer, within}
use Rattle.language.specs.Text.Typed.{amount_tree, test_tree}
use Rattle.nodes.proofs.Laid.{laid_slot}
use Rattle.nodes.proofs.PlansFound.{delay_back}
use Rattle.nodes.specs.Letters.{letter_of_plan}
use Rattle.nodes.specs.Rows.{count_of, delay_from, delay_slot, field_slots, settings_slot, slots_of}
use Rattle.nodes.specs.Table.{RowIn, link_at, slot_at}
use Rattle.nodes.specs.declared.PlanLetter.TheVariants as letter
use Rattle.nodes.specs.declared.PlanLetter.{PlanLetter}

-- it can be compiled after rows before it were written
unfoldable pub ready_kept : {plain digits : ℤ} {before after : List ℤ} {at to left count next : ℕ} {added : List ℤ} → next ≤ at → Appended before after count next added → Ready plain digits before at to left → Ready plain digits after at to left
ready_kept {at = at} b u y = record { month = y.month; plain_is = y.plain_is; digits_are = y.digits_are; near = y.near; plan = y.plan; lies = lies_kept (kept_from at b u) y.lies; fields = y.fields; depth = y.depth }

module _ {plain digits : ℤ} {nodes : List ℤ} {at to left : ℕ} (y : Ready plain digits nodes at to left) where
  pub by_letter : {l k : PlanLetter} → l ≡ letter_of_plan (slot_at nodes at 0) → l ≡ k → Is k y.plan
  by_letter el e = subst (λ m. Is m y.plan) (sym (letter_is y.plan y.lies) ∙ sym el ∙ e) (is_so y.plan)

  pub inside : (at < to) × (to ≤ max_nodes) × (5 * to ≤ length nodes)
  unfolding count_of
  inside =
      let s : at < to = omega (arith, y.lies.ends, ap count_of ((plan_shape y.plan).is end)) in
      (s, y.lies.room, lying_length s y.lies)

  pub row_in_lem : RowIn nodes at
  row_in_lem = (omega (arith, inside.0, inside.1), omega (arith, inside.0, inside.2))

  pub some_left : 0 < left
  some_left = omega (arith, some_depth y.plan, y.depth)

  pub plain_small : nat_abs plain ≤ 19_200
  plain_small = omega (arith, y.near.months)

  pub digits_small : nat_abs digits ≤ 1_099_511_627_776
  digits_small = omega (arith, y.near.settings)

  -- the same plan, known
  module _ (x : Plan Delay) (e : y.plan ≡ x) where
    pub known_lies : Lies nodes at to (plan_trees x end)
    known_lies = subst (λ z. Lies nodes at to (plan_trees z end)) e y.lies

    pub known_fields : fields_of delay_in_form x
    known_fields = subst (fields_of delay_in_form) e y.fields

    pub known_depth : depth_of x ≤ left
    known_depth = subst (λ z. depth_of z ≤ left) e y.depth

  -- a part in the same month
  unfoldable pub part : (x : Plan Delay) {from upto : ℕ} → Lies nodes from upto (plan_trees x end) → fields_of delay_in_form x → depth_of x ≤ left - 1 → Ready plain digits nodes from upto (left - 1)
  part x l g d = record { month = y.month; plain_is = y.plain_is; digits_are = y.digits_are; near = same_near y.near; plan = x; lies = l; fields = g; depth = d }

  module _ (i : Is letter.Transfer y.plan) where
    pub transfer_row : (slot_at nodes at 1 ≡ pos i.0) × (slot_at nodes at 2 ≡ pos i.1)
    unfolding plan_trees slots_of field_slots
    transfer_row =
        let l = laid (known_lies (transfer i.0 i.1) i.2) in
        let fs = a_number (pos i.0) ∷ a_number (pos i.1) ∷ [] in
        (laid_slot plan_form nodes (of_root text.PlanLetter.T) fs l 1 (omega arith), laid_slot plan_form nodes (of_root text.PlanLetter.T) fs l 2 (omega arith))

  module _ (i : Is letter.Scale y.plan) where
    pub scale_parts : Two nodes at to (amount_tree a_number i.0) (plan_trees i.1 end)
    unfolding plan_trees
    scale_parts = two_lie (of_root text.PlanLetter.S) [] (amount_shape a_number i.0) (is_node (plan_shape i.1) end) (known_lies (scale i.0 i.1) i.2)

    pub scale_fields : fields_of_amount offset_in_form i.0 × fields_of delay_in_form i.1
    unfolding fields_of
    scale_fields = known_fields (scale i.0 i.1) i.2

    module _ {p : ℕ} (e : p ≡ link_at nodes at 3) where
      pub scale_order : (at + 1 ≤ p) × (p ≤ to)
      scale_order = (omega (arith, e, scale_parts.first.ends), omega (arith, e, scale_parts.second.ends))

      unfoldable pub scale_ready : Ready plain digits nodes p to (left - 1)
      unfolding depth_of
      scale_ready = part i.1 (rw e scale_parts.second) scale_fields.1 (omega (arith, known_depth (scale i.0 i.1) i.2))

      -- with the rows before it written
      module _ {mid : List ℤ} {count l : ℕ} {row : List ℤ} (b : l ≤ at + 1) (u : Appended nodes mid count l row) where
        pub scaled_lies : Lies mid (at + 1) p (amount_tree a_number i.0 end)
        scaled_lies = lies_kept (kept_from (at + 1) b u) (rw e scale_parts.first)

        module _ {scaled : List ℤ} {m : ℕ} (v : Copied (compiled_row plain digits) mid scaled (at + 1) p l m) where
          pub scaled_before : m ≤ p
          scaled_before = omega (arith, b, scale_order.0, v.counted)

          unfoldable pub scale_next : Ready plain digits scaled p to (left - 1)
          scale_next = ready_kept scaled_before v.added (ready_kept (omega (arith, b, scale_order.0)) u scale_ready)

  module _ (i : Is letter.Later y.plan) where
    pub later_fields : delay_in_form i.0 × fields_of delay_in_form i.1
    unfolding fields_of
    later_fields = known_fields (later i.0 i.1) i.2

    -- the delay as the code reads it
    pub later_delay : {d : ℤ} → d ≡ slot_at nodes at 1 → delay_from d ≡ i.0
    unfolding plan_trees slots_of field_slots
    later_delay e = ap delay_from (e ∙ laid_slot plan_form nodes (of_root text.PlanLetter.L) (a_delay i.0 ∷ []) (laid (known_lies (later i.0 i.1) i.2)) 1 (omega arith)) ∙ delay_back i.0

    pub later_in : {d : ℤ} → d ≡ slot_at nodes at 1 → delay_in_form (delay_from d)
    later_in e = subst delay_in_form (sym (later_delay e)) later_fields.0

    later_lies : Lies nodes (at + 1) to (plan_trees i.1 end)
    unfolding plan_trees
    later_lies = lying_below (of_root text.PlanLetter.L) (a_delay i.0 ∷ []) (known_lies (later i.0 i.1) i.2)

    less_deep : depth_of i.1 ≤ left - 1
    unfolding depth_of
    less_deep = omega (arith, known_depth (later i.0 i.1) i.2)

    pub later_month : {d p g : ℤ} → d ≡ slot_at nodes at 1 → p ≡ plain_later plain (delay_from d) → g ≡ digits_later digits (delay_from d)
        → (p ≡ (delayed y.month i.0).plain) × (g ≡ pos (settings_slot (delayed y.month i.0).settings)) × Near p g (left - 1)
    later_month e ep eg = (
      ep ∙ ap₂ plain_later y.plain_is (later_delay e) ∙ plain_delayed y.month i.0,
      eg ∙ ap₂ digits_later y.digits_are (later_delay e) ∙ digits_delayed y.month i.0,
      rw (ep, eg, later_delay e) (later_near plain digits left i.0 later_fields.0 some_left y.near),
    )

    unfoldable pub later_ready : {d p g : ℤ} → d ≡ slot_at nodes at 1 → p ≡ plain_later plain (delay_from d) → g ≡ digits_later digits (delay_from d) → Ready p g nodes (at + 1) to (left - 1)
    unfolding later_lies less_deep
    later_ready e ep eg =
        let m = later_month e ep eg in
        record { month = delayed y.month i.0; plain_is = m.0; digits_are = m.1; near = m.2; plan = i.1; lies = later_lies; fields = later_fields.1; depth = less_deep }

  module _ (i : Is letter.Both y.plan) where
    pub both_parts : Two nodes at to (plan_trees i.0) (plan_trees i.1 end)
    unfolding plan_trees
    both_parts = two_lie (of_root text.PlanLetter.B) [] (plan_shape i.0) (is_node (plan_shape i.1) end) (known_lies (both i.0 i.1) i.2)

    pub both_fields : fields_of delay_in_form i.0 × fields_of delay_in_form i.1
    unfolding fields_of
    both_fields = known_fields (both i.0 i.1) i.2

    module _ {p : ℕ} (e : p ≡ link_at nodes at 3) where
      pub both_order : (at + 1 ≤ p) × (p ≤ to)
      both_order = (omega (arith, e, both_parts.first.ends), omega (arith, e, both_parts.second.ends))

      unfoldable pub first_ready : Ready plain digits nodes (at + 1) p (left - 1)
      unfolding depth_of
      first_ready = part i.0 (rw e both_parts.first) both_fields.0 (omega (arith, known_depth (both i.0 i.1) i.2))

      unfoldable pub second_ready : Ready plain digits nodes p to (left - 1)
      unfolding depth_of
      second_ready = part i.1 (rw e both_parts.second) both_fields.1 (omega (arith, known_depth (both i.0 i.1) i.2))

      -- with the rows before it written
      module _ {mid : List ℤ} {count l : ℕ} {row : List ℤ} (b : l ≤ at + 1) (u : Appended nodes mid count l row) where
        unfoldable pub first_next : Ready plain digits mid (at + 1) p (left - 1)
        first_next = ready_kept b u first_ready

        unfoldable pub second_next : {after : List ℤ} {m : ℕ} {added : List ℤ} → m ≤ p → Appended mid after l m added → Ready plain digits after p to (left - 1)
        second_next h v = ready_kept h v (ready_kept (omega (arith, b, both_order.0)) u second_ready)

  module _ (i : Is letter.Within y.plan) where
    pub within_parts : Three nodes at to (test_tree a_number i.1) (plan_trees i.2) (plan_trees i.3 end)
    unfolding plan_trees
    within_parts = three_lie (of_root text.PlanLetter.W) (a_delay i.0 ∷ []) (test_shape a_number i.1) (plan_shape i.2) (is_node (plan_shape i.3) end) (known_lies (within i.0 i.1 i.2 i.3) i.4)

    pub within_fields : delay_in_form i.0 × fields_of_test offset_in_form i.1 × fields_of delay_in_form i.2 × fields_of delay_in_form i.3
    unfolding fields_of
    within_fields = known_fields (within i.0 i.1 i.2 i.3) i.4

    pub within_row : (slot_at nodes at 0 ≡ pos 87) × (slot_at nodes at 1 ≡ delay_slot i.0) × (slot_at nodes at 2 ≡ pos 0)
    unfolding plan_trees row_of plan_row slots_of field_slots
    within_row =
        let l = laid (known_lies (within i.0 i.1 i.2 i.3) i.4) in
        let w = of_root text.PlanLetter.W in
        let fs = a_delay i.0 ∷ [] in
        (laid_slot plan_form nodes w fs l 0 (omega arith), laid_slot plan_form nodes w fs l 1 (omega arith), laid_slot plan_form nodes w fs l 2 (omega arith))

    module _ {p q : ℕ} (ep : p ≡ link_at nodes at 3) (eq : q ≡ link_at nodes at 4) where
      pub within_order : (at + 1 ≤ p) × (p ≤ q) × (q ≤ to)
      within_order = (omega (arith, ep, within_parts.first.ends), omega (arith, ep, eq, within_parts.second.ends), omega (arith, eq, within_parts.third.ends))

      unfoldable pub held_ready : Ready plain digits nodes p q (left - 1)
      unfolding depth_of
      held_ready = part i.2 (rw (ep, eq) within_parts.second) within_fields.2 (omega (arith, known_depth (within i.0 i.1 i.2 i.3) i.4))

      unfoldable pub missed_ready : Ready plain digits nodes q to (left - 1)
      unfolding depth_of
      missed_ready = part i.3 (rw eq within_parts.third) within_fields.3 (omega (arith, known_depth (within i.0 i.1 i.2 i.3) i.4))

      -- with the rows before it written
      module _ {mid : List ℤ} {count l : ℕ} {row : List ℤ} (b : l ≤ at + 1) (u : Appended nodes mid count l row) where
        pub tested_lies : Lies mid (at + 1) p (test_tree a_number i.1 end)
        tested_lies = lies_kept (kept_from (at + 1) b u) (rw ep within_parts.first)

        module _ {tested : List ℤ} {m : ℕ} (v : Copied (compiled_row plain digits) mid tested (at + 1) p l m) where
          pub tested_before : m ≤ p
          tested_before = omega (arith, b, within_order.0, v.counted)

          unfoldable pub held_next : Ready plain digits tested p q (left - 1)
          held_next = ready_kept tested_before v.added (ready_kept (omega (arith, b, within_order.0)) u held_ready)

          unfoldable pub missed_next : {after : List ℤ} {n : ℕ} {added : List ℤ} → n ≤ q → Appended tested after m n added → Ready plain digits after q to (left - 1)
          missed_next h w = ready_kept h w (ready_kept (omega (arith, tested_before, within_order.1)) v.added (ready_kept (omega (arith, b, within_order.0, within_order.1)) u missed_ready))
