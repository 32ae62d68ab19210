use borrow.Author.Rules.{rules}
use Prim.Native.Nat.{◌*◌, ◌+◌, ◌<◌, ℕ}
use Rattle.one_pass.proofs.Amounts.{choose_seen, conjunction_seen, difference_seen, disjunction_seen, equal_seen, less_seen, negation_seen, product_seen, quotient_seen, sum_seen}
use Rattle.one_pass.proofs.Packs.{is_kept}
use mathlib.Core.Logic.{⊎_elim}
use native.Mathlib.Omega.{arith}
use Rattle.one_pass.proofs.amount.+amount_at_amount_behind_test_at_test_behind.Given as goal

abbrev pub decreases-amount_at : goal.decreases-amount_at
decreases-amount_at l = 2 * l.left

abbrev pub decreases-amount_behind : goal.decreases-amount_behind
decreases-amount_behind l = 2 * l.left + 1

abbrev pub decreases-test_at : goal.decreases-test_at
decreases-test_at l = 2 * l.left

abbrev pub decreases-test_behind : goal.decreases-test_behind
decreases-test_behind l = 2 * l.left + 1
