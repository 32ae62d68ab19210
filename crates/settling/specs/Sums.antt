-- What a sum of settings answers.
use Rattle.std.specs.Prelude.{ℕ, ℤ, false, true, List, ◌≡◌, Err, Ok, Result}
use Rattle.language.specs.Payoff.Evaluate.{settings_sum}
use Rattle.language.specs.Rules.Table.{all_of, is_set, setting_at}
use Rattle.tables.specs.declared.fill.Unset.{Unset}

-- the sum of the settings ks where each of them is set
abbrev pub SumIs : List ℤ → List ℕ → Result ℕ Unset → Type 0
SumIs days ks (Ok n) = (all_of (is_set days) ks ≡ true) × (n ≡ settings_sum (setting_at days) ks)
SumIs days ks (Err _) = all_of (is_set days) ks ≡ false
