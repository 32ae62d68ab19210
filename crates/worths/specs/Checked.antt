-- Payoffs worked out with their refusals.
use Rattle.std.specs.Prelude.{ℕ, ℤ}
use Rattle.language.specs.Answer.{Answer}
use Rattle.language.specs.Calls.{factors_of, lookup_of, ranges_of, sign_of}
use Rattle.language.specs.Payoff.Evaluate.{checked_worth}
use Rattle.language.specs.Rules.Table.{Table}
use Rattle.language.specs.Text.Trees.{Payoff}

-- a payoff, for the pair (p, q) and the month now
abbrev pub worth_in : Table → ℤ → ℤ → ℕ → Payoff ℕ ℤ → ℕ → Answer ℤ
worth_in t p q now x w = checked_worth (ranges_of t) (lookup_of t) (factors_of t) (sign_of p q) now x w
