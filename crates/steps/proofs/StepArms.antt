-- What each way through a plan's step appends: the rows of the stepped plan.
use Prim.Native.Nat.{◌+◌, ◌-◌, ◌<◌, ◌≤◌, suc, zero, ℕ}
use lib.IntN.{pos, pred_ℤ, ℤ}
use lib.Signed.{le_z}
use mathlib.Core.Bool.{false, true}
use mathlib.Core.List.{List, [], ◌++◌, ◌∷◌}
use mathlib.Core.Path.{◌∙◌, ◌≡◌, ap, ap₂, refl, sym}
use native.Mathlib.Omega.{arith}
use Rattle.amounts.specs.Placed.{place_in, placed_amount}
use Rattle.copies.proofs.Appending.{appended_as, appended_then, row_of_lem}
use Rattle.copies.proofs.LyingParts.{lies_kept}
use Rattle.copies.proofs.PlanLetters.{Is}
use Rattle.copies.proofs.Shapes.{amount_shape, inner_rows, plain_apart, plan_shape}
use Rattle.copies.specs.Appended.{Appended}
use Rattle.copies.specs.Copied.{Copied}
use Rattle.copies.specs.Lies.{Lies}
use Rattle.copies.specs.Plain.{plain_last, plain_rows}
use Rattle.language.specs.Calls.{lookup_of}
use Rattle.language.specs.Payments.Amounts.{Lookup, holds}
use Rattle.language.specs.Payments.Step.{step, step_amount}
use Rattle.language.specs.Rules.Settings.{closed, map_plan}
use Rattle.language.specs.Text.Classes.{a_delay, a_number}
use Rattle.language.specs.Text.Form.{fields_of}
use Rattle.language.specs.Text.Letters as text
use Rattle.language.specs.Text.Letters.{of_root, plan_form, plan_row, row_of}
use Rattle.language.specs.Text.Plans.{plan_trees}
use Rattle.language.specs.Text.Reader.{end}
use Rattle.language.specs.Text.Trees.{Amount, Plan, Test, both, later, months, nothing, scale, transfer, within}
use Rattle.language.specs.Text.Typed.{amount_tree, test_tree}
use Rattle.nodes.specs.Rows.{delay_slot, field_slots, slots_of}
use Rattle.nodes.specs.Table.{link_at, nat_of, slot_at}
use Rattle.nodes.specs.declared.PlanLetter.TheVariants as letter
use Rattle.steps.proofs.StepKept.{behind_kept, below_kept, copied_few, ready_kept}
use Rattle.steps.proofs.StepReady.{first_ready, held_ready, later_below, later_due, later_is, later_ready, later_row, later_waits, missed_ready, scale_is, scale_order, scale_parts, scale_ready, second_ready, span_in, within_due, within_is, within_parts, within_row, within_waits}
use Rattle.steps.proofs.Stepped.{amount_stepped, plan_restored, within_restored}
use Rattle.steps.specs.Offsets.{stepped_row}
use Rattle.steps.specs.Ready.{Ready}
use Rattle.steps.specs.Waits.{Waits}
use Rattle.tables.specs.Given.{table_of}
use Rattle.tables.specs.Lookup.{read_table}

-- ---- the plain rows of a plan, from those of its parts

abbrev bare : ℕ → List ℤ
bare byte = pos byte ∷ pos 0 ∷ pos 0 ∷ pos 0 ∷ pos 0 ∷ []

abbrev plan_rows : Plan ℕ → List ℤ
plan_rows x = plain_rows plan_form (plan_trees (closed x) end)

nothing_rows : bare 90 ≡ plan_rows nothing
unfolding plan_trees map_plan plain_rows plain_last row_of plan_row slots_of
nothing_rows = refl

scale_rows : (a : Amount ℤ) (x : Plan ℕ) → bare 83 ++ (plain_rows plan_form (amount_tree a_number a end) ++ plan_rows x) ≡ plan_rows (scale a x)
unfolding plan_trees map_plan row_of plan_row slots_of
scale_rows a x =
    sym (inner_rows plan_form (of_root text.PlanLetter.S) [] (amount_tree a_number a (plan_trees (closed x) end)) refl refl
    ∙ ap (λ rows. bare 83 ++ rows) (plain_apart (amount_shape a_number a) plan_form (plan_trees (closed x) end)))

both_rows : (x y : Plan ℕ) → bare 66 ++ (plan_rows x ++ plan_rows y) ≡ plan_rows (both x y)
unfolding plan_trees map_plan row_of plan_row slots_of
both_rows x y =
    sym (inner_rows plan_form (of_root text.PlanLetter.B) [] (plan_trees (closed x) (plan_trees (closed y) end)) refl refl
    ∙ ap (λ rows. bare 66 ++ rows) (plain_apart (plan_shape (closed x)) plan_form (plan_trees (closed y) end)))

abbrev waiting : ℕ → ℕ → List ℤ
waiting byte d = pos byte ∷ pos d ∷ pos 0 ∷ pos 0 ∷ pos 0 ∷ []

later_rows : (d : ℕ) (x : Plan ℕ) → waiting 76 d ++ plan_rows x ≡ plan_rows (later d x)
unfolding plan_trees map_plan row_of plan_row slots_of field_slots delay_slot
later_rows d x = sym (inner_rows plan_form (of_root text.PlanLetter.L) (a_delay (months d) ∷ []) (plan_trees (closed x) end) refl refl)

within_rows : (d : ℕ) (t : Test ℤ) (x y : Plan ℕ) → waiting 87 d ++ plain_rows plan_form (test_tree a_number t (plan_trees (closed x) (plan_trees (closed y) end))) ≡ plan_rows (within d t x y)
unfolding plan_trees map_plan row_of plan_row slots_of field_slots delay_slot
within_rows d t x y = sym (inner_rows plan_form (of_root text.PlanLetter.W) (a_delay (months d) ∷ []) (test_tree a_number t (plan_trees (closed x) (plan_trees (closed y) end))) refl refl)

-- ---- the step's own cases

module _ (idx : Lookup) (r : ℕ) where
  step_nothing : step idx r nothing ≡ nothing
  unfolding step
  step_nothing = refl

  step_transfer : (p q : ℕ) → step idx r (transfer p q) ≡ nothing
  unfolding step
  step_transfer p q = refl

  step_scale : (a : Amount ℤ) (x : Plan ℕ) → step idx r (scale a x) ≡ scale (step_amount idx r a) (step idx r x)
  unfolding step
  step_scale a x = refl

  step_both : (x y : Plan ℕ) → step idx r (both x y) ≡ both (step idx r x) (step idx r y)
  unfolding step
  step_both x y = refl

  step_due : (d : ℕ) (x : Plan ℕ) → d ≡ 0 → step idx r (later d x) ≡ step idx r x
  unfolding step
  step_due zero x e = refl
  step_due (suc d) x e = absurd (omega arith)

  step_later : (d : ℕ) (x : Plan ℕ) → 0 < d → step idx r (later d x) ≡ later (d - 1) x
  unfolding step
  step_later zero x e = absurd (omega arith)
  step_later (suc d) x e = let n : suc d - 1 ≡ d = omega arith in rw n refl

  step_held : (d : ℕ) (t : Test ℤ) (x y : Plan ℕ) → holds idx t r ≡ true → step idx r (within d t x y) ≡ step idx r x
  unfolding step
  step_held zero t x y e = rw e refl
  step_held (suc d) t x y e = rw e refl

  step_missed : (d : ℕ) (t : Test ℤ) (x y : Plan ℕ) → holds idx t r ≡ false → d ≡ 0 → step idx r (within d t x y) ≡ step idx r y
  unfolding step
  step_missed zero t x y e z = rw e refl
  step_missed (suc d) t x y e z = absurd (omega arith)

  step_within : (d : ℕ) (t : Test ℤ) (x y : Plan ℕ) → holds idx t r ≡ false → 0 < d → step idx r (within d t x y) ≡ within (d - 1) t x y
  unfolding step
  step_within zero t x y e z = absurd (omega arith)
  step_within (suc d) t x y e z = let n : suc d - 1 ≡ d = omega arith in rw (e, n) refl

-- a delay above 0, less one
one_less : (d : ℕ) → 0 < d → pred_ℤ (pos d) ≡ pos (d - 1)
one_less zero h = absurd (omega arith)
one_less (suc d) h = let n : d ≡ suc d - 1 = omega arith in ap pos n

-- ---- the ways through the walk

module _ {h f : ℤ} {bounds values : List ℤ} {r : ℕ} {nodes : List ℤ} {at to left : ℕ} (y : Ready h f bounds values r nodes at to left) where
  abbrev idx : Lookup
  idx = lookup_of (read_table h f bounds values)

  abbrev stepped : Plan ℕ → List ℤ
  stepped x = plan_rows (step idx r x)

  -- what was added, for a plan that is known
  known : {x z : Plan ℕ} {a b : List ℤ} {m n : ℕ} → y.plan ≡ x → step idx r x ≡ z → Appended a b m n (plan_rows z) → Appended a b m n (stepped y.plan)
  known e s p = appended_as (ap plan_rows (sym s) ∙ ap stepped (sym e)) p

  module _ {b : List ℤ} {m n : ℕ} where
    pub nothing_arm : Is letter.Nothing y.plan → Appended nodes b m n (bare 90) → Appended nodes b m n (stepped y.plan)
    nothing_arm i p = known i (step_nothing idx r) (appended_as nothing_rows p)

    pub transfer_arm : Is letter.Transfer y.plan → Appended nodes b m n (bare 90) → Appended nodes b m n (stepped y.plan)
    transfer_arm i p = known i.2 (step_transfer idx r i.0 i.1) (appended_as nothing_rows p)

    pub due_arm : (i : Is letter.Later y.plan) {d : ℤ} (ed : d ≡ pos (nat_of (slot_at nodes at 1))) (e : le_z d (pos 0) ≡ true)
        → ((z : Ready h f bounds values r nodes (at + 1) to (left - 1)) → Appended nodes b m n (stepped z.plan)) → Appended nodes b m n (stepped y.plan)
    unfolding later_ready
    due_arm i ed e p = known i.2 (step_due idx r i.0 i.1 (later_due y i ed e)) (p (later_ready y i ed e))

    pub later_arm : (i : Is letter.Later y.plan) {d : ℤ} (ed : d ≡ pos (nat_of (slot_at nodes at 1))) (e : le_z d (pos 0) ≡ false)
        → Waits h f nodes b at to m n → Appended nodes b m n (stepped y.plan)
    unfolding fields_of
    later_arm i ed e w =
        known i.2 (step_later idx r i.0 i.1 (later_waits y i ed e))
        (appended_as
        (ap₂ ◌++◌ (row_of_lem (later_row y i).0 (ap (λ z. pred_ℤ (pos (nat_of z))) (later_row y i).1 ∙ one_less i.0 (later_waits y i ed e)) refl refl refl)
        (plan_restored h f (span_in y) i.1 (later_is y i).fields.1 (later_below y i))
        ∙ later_rows (i.0 - 1) i.1)
        w.added)

    pub held_arm : (i : Is letter.Within y.plan) → holds idx i.1 r ≡ true → {p q : ℕ} → p ≡ link_at nodes at 3 → q ≡ link_at nodes at 4
        → ((z : Ready h f bounds values r nodes p q (left - 1)) → Appended nodes b m n (stepped z.plan)) → Appended nodes b m n (stepped y.plan)
    unfolding held_ready
    held_arm i t ep eq w = known i.4 (step_held idx r i.0 i.1 i.2 i.3 t) (w (held_ready y i ep eq))

    pub missed_arm : (i : Is letter.Within y.plan) → holds idx i.1 r ≡ false → {p q : ℕ} → p ≡ link_at nodes at 3 → q ≡ link_at nodes at 4
        → {d : ℤ} (ed : d ≡ pos (nat_of (slot_at nodes at 1))) (e : le_z d (pos 0) ≡ true)
        → ((z : Ready h f bounds values r nodes q to (left - 1)) → Appended nodes b m n (stepped z.plan)) → Appended nodes b m n (stepped y.plan)
    unfolding missed_ready
    missed_arm i t ep eq ed e w = known i.4 (step_missed idx r i.0 i.1 i.2 i.3 t (within_due y i ed e)) (w (missed_ready y i ep eq ed e))

    pub within_arm : (i : Is letter.Within y.plan) → holds idx i.1 r ≡ false → {d : ℤ} (ed : d ≡ pos (nat_of (slot_at nodes at 1))) (e : le_z d (pos 0) ≡ false)
        → Waits h f nodes b at to m n → Appended nodes b m n (stepped y.plan)
    unfolding fields_of
    within_arm i t ed e w =
        known i.4 (step_within idx r i.0 i.1 i.2 i.3 t (within_waits y i ed e))
        (appended_as
        (ap₂ ◌++◌ (row_of_lem (within_row y i).0 (ap (λ z. pred_ℤ (pos (nat_of z))) (within_row y i).1 ∙ one_less i.0 (within_waits y i ed e)) refl refl refl)
        (within_restored h f (span_in y) i.1 i.2 i.3 (within_is y i).fields.1 (within_is y i).fields.2 (within_is y i).fields.3 (within_parts y i).below)
        ∙ within_rows (i.0 - 1) i.1 i.2 i.3)
        w.added)

  module _ {b c d : List ℤ} {k l m n : ℕ} {p : ℕ} (e : p ≡ link_at nodes at 3) (low : k ≤ at) where
    pub scale_arm : Is letter.Scale y.plan → Appended nodes b k l (bare 83) → Copied (stepped_row (read_table h f bounds values) r) b c (at + 1) p l m
        → ((z : Ready h f bounds values r c p to (left - 1)) → Appended c d m n (stepped z.plan)) → Appended nodes d k n (stepped y.plan)
    unfolding fields_of scale_ready ready_kept
    scale_arm i u v w =
        let g : Lies nodes (at + 1) p (amount_tree a_number (placed_amount (place_in (table_of h f y.factors bounds values)) i.0) end) = rw e (scale_parts y i).first in
        known i.2 (step_scale idx r i.0 i.1)
        (appended_as (scale_rows (step_amount idx r i.0) (step idx r i.1))
        (appended_then u
        (appended_then (appended_as (amount_stepped h f (span_in y) bounds values r i.0 (scale_is y i).fields.0 (lies_kept (below_kept low refl u).is g)) v.added)
        (w (ready_kept (behind_kept low refl u (copied_few (scale_order y i e).0 v) v.added) (scale_ready y i e))))))

    pub both_arm : Is letter.Both y.plan → Appended nodes b k l (bare 66) → m + (at + 1) ≤ l + p → ((z : Ready h f bounds values r b (at + 1) p (left - 1)) → Appended b c l m (stepped z.plan))
        → ((z : Ready h f bounds values r c p to (left - 1)) → Appended c d m n (stepped z.plan)) → Appended nodes d k n (stepped y.plan)
    unfolding first_ready second_ready ready_kept
    both_arm i u few v w =
        let first = v (ready_kept (below_kept low refl u) (first_ready y i e)) in
        known i.2 (step_both idx r i.0 i.1)
        (appended_as (both_rows (step idx r i.0) (step idx r i.1)) (appended_then u (appended_then first (w (ready_kept (behind_kept low refl u few first) (second_ready y i e))))))
