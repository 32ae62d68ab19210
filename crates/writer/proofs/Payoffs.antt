-- A payoff's table has the payoff's text.
use Prim.Native.Nat.{ℕ}
use lib.IntN.{pos}
use mathlib.Core.List.{List, [], ◌∷◌}
use mathlib.Core.Path.{◌≡◌, ap, refl}
use Rattle.language.specs.Text.Classes.{a_delay, a_month, a_number, print_delay, print_field, print_month}
use Rattle.language.specs.Text.Form.{delay_in_form}
use Rattle.language.specs.Text.Letters.{AmountLetter, PayoffLetter, amount_row, letter_among, letter_in, of_amount, of_root, payoff_form, payoff_row, plan_row, row_of, test_row}
use Rattle.language.specs.Text.Number.{print_number}
use Rattle.language.specs.Text.PayoffForm.{MonthField, fields_of_payoff}
use Rattle.language.specs.Text.Plans.{Written, payoff_trees}
use Rattle.language.specs.Text.Reader.{Trees, end, print_fields}
use Rattle.language.specs.Text.Trees.{Delay, Month, await, cut, leaf, nil, plus, times, uncut}
use Rattle.nodes.specs.Rows.{field_slots, rows, settings_in, settings_slot, slots_of}
use Rattle.writer.proofs.Built.{delay_back, says_amount, says_test}
use Rattle.nodes.proofs.Settings.{settings_back}
use Rattle.writer.proofs.Tables.{RowSays, Says}
use Rattle.writer.specs.Written.{classes_of, fields_from, fields_of_row}

-- ---- single rows

-- letters without fields
Bare : PayoffLetter → Type 0
Bare l = (c : Trees PayoffLetter) → RowSays payoff_form (of_root l) [] c

bare : Bare PayoffLetter.Z × Bare PayoffLetter.S × Bare PayoffLetter.B
unfolding Bare fields_of_row classes_of letter_in letter_among row_of payoff_row plan_row amount_row test_row fields_from slots_of field_slots print_fields print_field
bare = (λ c. record { fields = λ links rest. refl }, λ c. record { fields = λ links rest. refl }, λ c. record { fields = λ links rest. refl })

await_says : (d : Delay) → delay_in_form d → (c : Trees PayoffLetter) → RowSays payoff_form (of_root PayoffLetter.W) (a_delay d ∷ []) c
unfolding fields_of_row classes_of letter_in letter_among row_of payoff_row plan_row amount_row test_row fields_from slots_of field_slots print_fields print_field
await_says d h c = record { fields = λ links rest. ap (λ (e : Delay). (87 ∷ []) ∷ print_delay e ∷ []) (delay_back d h) }

abbrev with : Month → List ℕ → Month
with m ks = record { plain = m.plain; settings = ks }

module _ (m : Month) (h : MonthField m) where
  back : settings_in (settings_slot m.settings) ≡ m.settings
  back = settings_back m.settings h.sorted h.count

  uncut_says : (p q : ℕ) → RowSays payoff_form (of_root PayoffLetter.F) (a_month m ∷ a_number (pos p) ∷ a_number (pos q) ∷ []) end
  unfolding fields_of_row classes_of letter_in letter_among row_of payoff_row plan_row amount_row test_row fields_from slots_of field_slots print_fields print_field
  uncut_says p q = record { fields = λ links rest. ap (λ (ks : List ℕ). (70 ∷ []) ∷ print_month (with m ks) ∷ print_number (pos p) ∷ print_number (pos q) ∷ []) back }

  cut_says : (p q : ℕ) → RowSays payoff_form (of_root PayoffLetter.H) (a_month m ∷ a_number (pos p) ∷ a_number (pos q) ∷ []) end
  unfolding fields_of_row classes_of letter_in letter_among row_of payoff_row plan_row amount_row test_row fields_from slots_of field_slots print_fields print_field
  cut_says p q = record { fields = λ links rest. ap (λ (ks : List ℕ). (72 ∷ []) ∷ print_month (with m ks) ∷ print_number (pos p) ∷ print_number (pos q) ∷ []) back }

index_says : (l : ℕ) (m : Month) → MonthField m → RowSays payoff_form (of_amount AmountLetter.O) (a_number (pos l) ∷ a_month m ∷ []) end
unfolding fields_of_row classes_of letter_in letter_among row_of payoff_row plan_row amount_row test_row fields_from slots_of field_slots print_fields print_field
index_says l m h = record { fields = λ links rest. ap (λ (ks : List ℕ). (79 ∷ []) ∷ print_number (pos l) ∷ print_month (with m ks) ∷ []) (back m h) }

-- ---- the whole payoff

says_payoff : (x : Written) → fields_of_payoff x → (r : Trees PayoffLetter) → Says payoff_form r → Says payoff_form (payoff_trees x r)
unfolding payoff_trees fields_of_payoff Says Bare
says_payoff nil h r s = (bare.0 _, tt, s)
says_payoff (leaf uncut m p q) h r s = (uncut_says m h.0 p q, tt, s)
says_payoff (leaf cut m p q) h r s = (cut_says m h.0 p q, tt, s)
says_payoff (times a x) h r s = (bare.1 _, says_amount payoff_form a_month MonthField index_says a h.0 (payoff_trees x end) (says_payoff x h.1 end tt), s)
says_payoff (plus x y) h r s = (bare.2 _, says_payoff x h.0 (payoff_trees y end) (says_payoff y h.1 end tt), s)
says_payoff (await d t x y) h r s =
    let below = says_payoff x h.2 (payoff_trees y end) (says_payoff y h.3 end tt) in
    (await_says d h.0 _, says_test payoff_form a_month MonthField index_says t h.1 (payoff_trees x (payoff_trees y end)) below, s)

pub payoff_says : (x : Written) → fields_of_payoff x → Says payoff_form (payoff_trees x end)
unfolding Says
payoff_says x h = says_payoff x h end tt
