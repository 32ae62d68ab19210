-- An amount and a test in four months in a row.
use Rattle.std.specs.Prelude.{◌+◌, ◌<◌, ◌≤◌, suc, zero, ℕ, T, ℤ, Bool, cond, List, ◌≡◌}
use Rattle.std.specs.Int.Signed.{non_neg}
use Rattle.language.specs.Limits.{max_months}
use Rattle.language.specs.Payments.Amounts.{holds, value}
use Rattle.language.specs.Text.Trees.{Amount, Test}
use Rattle.nodes.specs.Table.{nat_of}
use Rattle.amounts.specs.Fine.{Fine, FineTest}
use Rattle.amounts.specs.Flat.{flat}
use Rattle.amounts.specs.declared.four.Four.{Four}
use Rattle.amounts.specs.declared.four.Held.{Held}

-- k months after the first of the four
unfoldable pub pence_in : Four → ℕ → ℤ
pence_in x zero = x.a.0
pence_in x (suc zero) = x.b.0
pence_in x (suc (suc zero)) = x.c.0
pence_in x (suc (suc (suc k))) = x.d.0

unfoldable pub held_in : Held → ℕ → Bool
held_in t zero = t.a
held_in t (suc zero) = t.b
held_in t (suc (suc zero)) = t.c
held_in t (suc (suc (suc k))) = t.d

-- how many months after the first of the four it first held, 4 where it held in none
unfoldable pub first_that_holds : Held → ℕ
first_that_holds t = cond t.a 0 (cond t.b 1 (cond t.c 2 (cond t.d 3 4)))

-- four months from 0 to 600
pub record FourIn (month : ℤ) : Type 0 where
  pub known : T (non_neg month)
  pub within : nat_of month + 3 ≤ max_months

-- an amount, and a test, can be worked out in each of the four months from month r on
abbrev pub FineFour : List ℤ → ℕ → Amount ℤ → Type 0
FineFour values r a = (k : ℕ) → k < 4 → Fine values (r + k) a

abbrev pub FineFourTest : List ℤ → ℕ → Test ℤ → Type 0
FineFourTest values r t = (k : ℕ) → k < 4 → FineTest values (r + k) t

-- the amount in each of the four months, and whether the test holds
abbrev pub FourAre : List ℤ → ℕ → Amount ℤ → Four → Type 0
FourAre values r a x = (k : ℕ) → k < 4 → pence_in x k ≡ value (flat values) a (r + k)

abbrev pub HeldAre : List ℤ → ℕ → Test ℤ → Held → Type 0
HeldAre values r t x = (k : ℕ) → k < 4 → held_in x k ≡ holds (flat values) t (r + k)
