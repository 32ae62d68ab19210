-- Amounts and tests in four months in a row: what the answers of the code say, where all four came without a refusal.
use Rattle.std.specs.Prelude.{◌<◌, suc, zero, ℕ, ℤ, Bool, cond, true, List, ◌≡◌}
use Rattle.amounts.specs.FourMonths as four
use Rattle.integers.specs.Bounded.{Small}
use Rattle.language.specs.Answer.{Answer, got, on_both, refused}
use Rattle.language.specs.Limits.{max_amount}
use Rattle.language.specs.Payoff.Evaluate.{in_range}
use Rattle.language.specs.Rules.Table.{readable, value_at}
use Rattle.tables.specs.Lookup.{read_table}
use Rattle.checked.specs.declared.four.FourTests.{FourTests}
use Rattle.checked.specs.declared.four.FourValues.{FourValues}

-- k months after the first of the four
unfoldable pub one_of : {A : Type 0} → A → A → A → A → ℕ → A
one_of a b c d zero = a
one_of a b c d (suc zero) = b
one_of a b c d (suc (suc zero)) = c
one_of a b c d (suc (suc (suc k))) = d

abbrev pub amount_in : FourValues → ℕ → ℤ
amount_in x k = four.pence_in x.four k

abbrev pub truth_in : FourTests → ℕ → Bool
truth_in x k = four.held_in x.held k

-- where all four came, each is the month's answer
abbrev pub SureFour : FourValues → (ℕ → Answer ℤ) → Type 0
SureFour r answer = r.all ≡ 1 → (k : ℕ) → k < 4 → got (amount_in r k) ≡ answer k

abbrev pub SureTests : FourTests → (ℕ → Answer Bool) → Type 0
SureTests r answer = r.all ≡ true → (k : ℕ) → k < 4 → got (truth_in r k) ≡ answer k

-- and each amount is within the limit
abbrev pub SmallFour : FourValues → Type 0
SmallFour x = x.all ≡ 1 → (k : ℕ) → k < 4 → Small (amount_in x k)

-- a label's value in a month, or 11
abbrev pub reading_in : ℤ → ℤ → List ℤ → List ℤ → ℕ → ℤ → Answer ℤ
reading_in h f bounds values l m = let t = read_table h f bounds values in cond (readable t l m) (in_range max_amount (value_at t l m)) (refused 11)

-- ---- made of one, and of two, whose four all came

abbrev pub From : (Answer ℤ → Answer ℤ) → FourValues → FourValues → Type 0
From g x r = r.all ≡ 1 → (x.all ≡ 1) × ((k : ℕ) → k < 4 → got (amount_in r k) ≡ g (got (amount_in x k)))

abbrev pub FromTwo : (ℤ → ℤ → Answer ℤ) → FourValues → FourValues → FourValues → Type 0
FromTwo g x y r = r.all ≡ 1 → (x.all ≡ 1) × (y.all ≡ 1) × ((k : ℕ) → k < 4 → got (amount_in r k) ≡ on_both g (got (amount_in x k)) (got (amount_in y k)))

abbrev pub FromTest : (ℤ → ℤ → Answer Bool) → FourValues → FourValues → FourTests → Type 0
FromTest g x y r = r.all ≡ true → (x.all ≡ 1) × (y.all ≡ 1) × ((k : ℕ) → k < 4 → got (truth_in r k) ≡ on_both g (got (amount_in x k)) (got (amount_in y k)))

abbrev pub FromTests : (Bool → Bool → Answer Bool) → FourTests → FourTests → FourTests → Type 0
FromTests g x y r = r.all ≡ true → (x.all ≡ true) × (y.all ≡ true) × ((k : ℕ) → k < 4 → got (truth_in r k) ≡ on_both g (got (truth_in x k)) (got (truth_in y k)))

abbrev pub Chosen : FourTests → FourValues → FourValues → FourValues → Type 0
Chosen t x y r = r.all ≡ 1 → (t.all ≡ true) × (x.all ≡ 1) × (y.all ≡ 1) × ((k : ℕ) → k < 4 → amount_in r k ≡ cond (truth_in t k) (amount_in x k) (amount_in y k))
