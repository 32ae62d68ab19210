-- What evaluating answers, with document 01's numbers, and the payoff that stands in the node table.
use Rattle.std.specs.Prelude.{◌*◌, ℕ, ℤ, take, List, ◌≡◌, Err, Ok, Result}
use Rattle.language.specs.Answer.{Answer, got, refused}
use Rattle.language.specs.Calls.{Given, evaluate}
use Rattle.language.specs.Text.Letters.{payoff_form}
use Rattle.language.specs.Text.PayoffForm.{FormedPayoff}
use Rattle.language.specs.Text.Plans.{Written, payoff_trees}
use Rattle.language.specs.Text.Reader.{end}
use Rattle.nodes.specs.Rows.{count_of, rows}
use Rattle.text.specs.Refusals.{number_of}
use Rattle.integers.specs.declared.Millionths.{Millionths}
use Rattle.text.specs.declared.Refusal.{Refusal}

-- millionths of a penny, or the refusal's number
abbrev pub evaluating_answer : Result Millionths Refusal → Answer ℤ
evaluating_answer (Ok v) = got v.0
evaluating_answer (Err k) = refused (number_of k)

-- the first `count` rows are those of the payoff, which keeps the form
pub record Standing (nodes : List ℤ) (count : ℕ) (x : Written) : Type 0 where
  pub formed : FormedPayoff x
  pub counted : count ≡ count_of (payoff_trees x end)
  pub lies : take (5 * count) nodes ≡ rows payoff_form (payoff_trees x end)

-- some payoff does
pub record Stands (nodes : List ℤ) (count : ℕ) : Type 0 where
  pub payoff : Written
  pub standing : Standing nodes count payoff

-- whatever payoff stood in the first rows: its answer
pub record EvaluateIs (g : Given) (p q now : ℤ) (count : ℕ) (before : List ℤ) (r : Result Millionths Refusal) : Type 0 where
  pub answer : (x : Written) → Standing before count x → evaluating_answer r ≡ evaluate x g p q now
