-- A plan's table has the plan's text.
use Prim.Native.Nat.{ℕ}
use lib.IntN.{pos, ℤ}
use mathlib.Core.List.{List, [], ◌∷◌, append-nil}
use mathlib.Core.Path.{ap, refl}
use Rattle.language.specs.Text.Classes.{a_delay, a_number, print_delay, print_field, print_month, setting_fields}
use Rattle.language.specs.Text.Fields.{behind, join_with}
use Rattle.language.specs.Text.Form.{delay_in_form, fields_of, offset_in_form}
use Rattle.language.specs.Text.Letters.{AmountLetter, PlanLetter, amount_row, letter_among, letter_in, of_amount, of_root, payoff_row, plan_form, plan_row, row_of, test_row}
use Rattle.language.specs.Text.Number.{print_number}
use Rattle.language.specs.Text.Plans.{plan_trees}
use Rattle.language.specs.Text.Reader.{Trees, end, print_fields}
use Rattle.language.specs.Text.Trees.{Delay, Plan, both, later, nothing, scale, transfer, within}
use Rattle.nodes.specs.Rows.{field_slots, rows, settings_from, slots_of}
use Rattle.writer.proofs.Built.{delay_back, says_amount, says_test}
use Rattle.writer.proofs.Tables.{RowSays, Says}
use Rattle.writer.specs.Written.{classes_of, fields_from, fields_of_row}

-- ---- single rows

-- letters without fields
Bare : PlanLetter → Type 0
Bare l = (c : Trees PlanLetter) → RowSays plan_form (of_root l) [] c

bare : Bare PlanLetter.Z × Bare PlanLetter.S × Bare PlanLetter.B
unfolding Bare fields_of_row classes_of letter_in letter_among row_of payoff_row plan_row amount_row test_row fields_from slots_of field_slots print_fields print_field
bare = (λ c. record { fields = λ links rest. refl }, λ c. record { fields = λ links rest. refl }, λ c. record { fields = λ links rest. refl })

transfer_says : (p q : ℕ) → RowSays plan_form (of_root PlanLetter.T) (a_number (pos p) ∷ a_number (pos q) ∷ []) end
unfolding fields_of_row classes_of letter_in letter_among row_of payoff_row plan_row amount_row test_row fields_from slots_of field_slots print_fields print_field
transfer_says p q = record { fields = λ links rest. refl }

later_says : (d : Delay) → delay_in_form d → (c : Trees PlanLetter) → RowSays plan_form (of_root PlanLetter.L) (a_delay d ∷ []) c
unfolding fields_of_row classes_of letter_in letter_among row_of payoff_row plan_row amount_row test_row fields_from slots_of field_slots print_fields print_field
later_says d h c = record { fields = λ links rest. ap (λ (e : Delay). (76 ∷ []) ∷ print_delay e ∷ []) (delay_back d h) }

within_says : (d : Delay) → delay_in_form d → (c : Trees PlanLetter) → RowSays plan_form (of_root PlanLetter.W) (a_delay d ∷ []) c
unfolding fields_of_row classes_of letter_in letter_among row_of payoff_row plan_row amount_row test_row fields_from slots_of field_slots print_fields print_field
within_says d h c = record { fields = λ links rest. ap (λ (e : Delay). (87 ∷ []) ∷ print_delay e ∷ []) (delay_back d h) }

-- a month without settings is its number alone
index_says : (l : ℕ) (i : ℤ) → offset_in_form i → RowSays plan_form (of_amount AmountLetter.O) (a_number (pos l) ∷ a_number i ∷ []) end
unfolding fields_of_row classes_of letter_in letter_among row_of payoff_row plan_row amount_row test_row fields_from slots_of field_slots print_fields print_field print_month join_with behind setting_fields settings_from
index_says l i h = record { fields = λ links rest. ap (λ (t : List ℕ). (79 ∷ []) ∷ print_number (pos l) ∷ t ∷ []) (append-nil (print_number i)) }

-- ---- the whole plan

says_plan : (x : Plan Delay) → fields_of delay_in_form x → (r : Trees PlanLetter) → Says plan_form r → Says plan_form (plan_trees x r)
unfolding plan_trees fields_of Says Bare
says_plan nothing h r s = (bare.0 _, tt, s)
says_plan (transfer p q) h r s = (transfer_says p q, tt, s)
says_plan (scale a x) h r s = (bare.1 _, says_amount plan_form a_number offset_in_form index_says a h.0 (plan_trees x end) (says_plan x h.1 end tt), s)
says_plan (later d x) h r s = (later_says d h.0 _, says_plan x h.1 end tt, s)
says_plan (both x y) h r s = (bare.2 _, says_plan x h.0 (plan_trees y end) (says_plan y h.1 end tt), s)
says_plan (within d t x y) h r s =
    let below = says_plan x h.2 (plan_trees y end) (says_plan y h.3 end tt) in
    (within_says d h.0 _, says_test plan_form a_number offset_in_form index_says t h.1 (plan_trees x (plan_trees y end)) below, s)

pub plan_says : (x : Plan Delay) → fields_of delay_in_form x → Says plan_form (plan_trees x end)
unfolding Says
plan_says x h = says_plan x h end tt
