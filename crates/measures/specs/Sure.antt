-- What the quick walk's number says of a plan: where its magnitude is within the limit, that the plan keeps every rule.
use Rattle.std.specs.Prelude.{◌%◌, ◌+◌, ◌/◌, ◌≤◌, min, ℕ, pos, ℤ, true, ◌≡◌}
use Rattle.language.specs.Limits.{max_amount}
use Rattle.language.specs.Rules.Measures.{first_of, length_of, magnitude_of}
use Rattle.language.specs.Rules.Table.{Table}
use Rattle.language.specs.Rules.Tests.{known_in_time, plan_reads, plan_small}
use Rattle.language.specs.Text.Trees.{Plan}
use Rattle.measures.specs.Timing.{first_month, never_month}

-- the plan x keeps every rule where its node may stand in any month from a to z, `high` months at least before the table's end; what is
-- needed `need` months behind the node is known by its first payment; r is 1024 times its magnitude and the months left behind its end
pub record Sure (t : Table) (a z : ℕ) (bound : ℕ → ℕ) (need : ℕ) (high : ℤ) (x : Plan ℕ) (r : ℕ) : Type 0 where
  pub known : known_in_time x ≡ true
  pub timely : min need never_month ≤ first_month (first_of x)
  pub reads : plan_reads t a z x ≡ true
  pub small : plan_small bound x ≡ true
  pub magnitude : r / 1024 ≡ magnitude_of bound x
  pub length : high ≡ pos (length_of x + r % 1024)

-- so it is, if the number's magnitude is within the limit
abbrev pub SureOf : (t : Table) (a z : ℕ) (bound : ℕ → ℕ) (need : ℕ) (high : ℤ) (x : Plan ℕ) (r : ℕ) → Type 0
SureOf t a z bound need high x r = r / 1024 ≤ max_amount → Sure t a z bound need high x r
