-- A payoff in form, its open settings filled, has its fields in range.
use Prim.Native.Nat.{◌*◌, ◌≤◌, ℕ}
use lib.IntN.{pos}
use lib.ListN.{length}
use mathlib.Core.List.{List, [], ◌∷◌}
use native.Mathlib.Omega.{arith}
use Rattle.checked.specs.Ranges.{Near}
use Rattle.integers.proofs.Laws.{nat_abs_add, nat_abs_le}
use Rattle.integers.proofs.Solver.{dn_neg, parts_le, up_neg}
use Rattle.language.specs.Limits.{max_back, max_month, max_months}
use Rattle.language.specs.Payoff.Evaluate.{fill_payoff, month_of, settings_sum}
use Rattle.language.specs.Rules.Settings.{delay_of}
use Rattle.language.specs.Text.Form.{delay_in_form}
use Rattle.language.specs.Text.PayoffForm.{MonthField, fields_of_payoff}
use Rattle.language.specs.Text.Plans.{Written}
use Rattle.language.specs.Text.Trees.{Delay, Month, await, cut, leaf, months, nil, plus, setting, times, uncut}
use Rattle.settling.proofs.MappedFields.{fields_amount, fields_test}
use Rattle.worths.specs.Ranges.{FieldsIn}

module _ (σ : ℕ → ℕ) (small : (k : ℕ) → σ k ≤ max_months) where
  sum_bound : (ks : List ℕ) → settings_sum σ ks ≤ max_months * length ks
  unfolding settings_sum
  sum_bound [] = omega arith
  sum_bound (k ∷ ks) = omega (arith, small k, sum_bound ks)

  near_month : (m : Month) → MonthField m → Near (month_of σ m)
  unfolding month_of
  near_month m h =
      let s = nat_abs_le m.plain max_month (omega (arith, parts_le h.high)) (omega (arith, parts_le h.low, up_neg (pos max_back), dn_neg (pos max_back))) in
      record { near = omega (arith, nat_abs_add m.plain (pos (settings_sum σ m.settings)), sum_bound m.settings, h.count) }

  short : (d : Delay) → delay_in_form d → delay_of σ d ≤ max_months
  unfolding delay_of
  short (months n) h = h
  short (setting k) h = small k

  pub filled_range : (x : Written) → fields_of_payoff x → FieldsIn (fill_payoff σ x)
  unfolding fields_of_payoff fill_payoff FieldsIn
  filled_range nil g = tt
  filled_range (leaf uncut m p q) g = near_month m g.0
  filled_range (leaf cut m p q) g = near_month m g.0
  filled_range (times a x) g = (fields_amount (month_of σ) MonthField Near near_month a g.0, filled_range x g.1)
  filled_range (plus x y) g = (filled_range x g.0, filled_range y g.1)
  filled_range (await d t x y) g = (short d g.0, fields_test (month_of σ) MonthField Near near_month t g.1, filled_range x g.2, filled_range y g.3)
