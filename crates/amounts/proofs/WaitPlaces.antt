-- The wait of an accepted `W`, run by places: it can be run without checks, and it tries as the table says.
use Prim.Native.Nat.{◌+◌, ◌≤◌, suc, zero, ℕ}
use lib.IntN.{ℤ}
use mathlib.Core.Bool.{Bool, cond, true}
use mathlib.Core.Path.{◌≡◌, ap, ap₂}
use native.Mathlib.Omega.{arith}
use Rattle.language.specs.Calls.{lookup_of}
use Rattle.language.specs.Limits.{max_amount, max_months}
use Rattle.language.specs.Payments.Amounts.{holds}
use Rattle.language.specs.Payments.Pays.{hit, miss, tried}
use Rattle.language.specs.Rules.Accepted.{reads_of_test, small_test}
use Rattle.language.specs.Rules.Table.{Table, bound_at, is_table}
use Rattle.language.specs.Text.Form.{fields_of_test}
use Rattle.language.specs.Text.Trees.{Test}
use Rattle.amounts.proofs.TablePlaces.{flat_fine_test, flat_holds, may_read}
use Rattle.amounts.specs.Flat.{flat}
use Rattle.amounts.specs.Placed.{place_in, placed_test}
use Rattle.amounts.specs.Waits.{FineMonths}

-- two tests that agree in every month tried
pub tried_same : (s t : ℕ → Bool) (d r : ℕ) → ((j : ℕ) → r ≤ j → j ≤ r + d → s j ≡ t j) → tried s d r ≡ tried t d r
unfolding tried
tried_same s t zero r h = ap (λ b. cond b (hit r) (miss r)) (h r (omega arith) (omega arith))
tried_same s t (suc d) r h =
    ap₂ (λ b q. cond b (hit r) q) (h r (omega arith) (omega arith)) (tried_same s t d (suc r) (λ j l m. h j (omega arith) (omega arith)))

-- the months tried, each of which may be read
module _ (t : Table) (ok : is_table t ≡ true) (s : Test ℤ) (d r : ℕ) (reads : (j : ℕ) → r ≤ j → j ≤ r + d → reads_of_test (may_read t) s j) where
  pub flat_tried : tried (holds (flat t.values) (placed_test (place_in t) s)) d r ≡ tried (holds (lookup_of t) s) d r
  flat_tried = tried_same _ _ d r (λ j l m. flat_holds t ok j s (reads j l m))

  pub flat_months : r + d ≤ max_months → (good : ℤ → Type 0) → fields_of_test good s → small_test (bound_at t) max_amount s → FineMonths t.values r d (placed_test (place_in t) s)
  flat_months e good g m = record { fine = λ j l k. flat_fine_test t ok j (omega arith) good s (reads j l k) g m }
