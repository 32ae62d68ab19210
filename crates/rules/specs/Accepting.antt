-- What accepting a plan answers, and what then stands in the node table.
use Rattle.std.specs.Prelude.{ℕ, ℤ, Bool, List, ◌≡◌, Ok, Result}
use Rattle.integers.specs.declared.Month.{Month}
use Rattle.integers.specs.declared.Pence.{Pence}
use Rattle.language.specs.Answer.{Answer, ◌>>=◌, got}
use Rattle.language.specs.Calls.{Checked, Given, accept_plan}
use Rattle.language.specs.Rules.Settings.{closed, fill}
use Rattle.language.specs.Rules.Table.{setting_at}
use Rattle.language.specs.Text.Trees.{Delay, Plan}
use Rattle.rules.specs.Answers.{Natural, checking_answer}
use Rattle.rules.specs.Measured.{checked_of}
use Rattle.rules.specs.Standing.{Standing}
use Rattle.rules.specs.declared.Accepted.{Accepted}
use Rattle.text.specs.declared.Refusal.{Refusal}

-- document 01's order from 9 on; `callerOk` is what else a call asks of its caller
abbrev pub accepting : Given → ℤ → Bool → Plan Delay → Answer Checked
accepting g today callerOk x = accept_plan g today callerOk x >>= λ y. got (checked_of g.table y)

-- whatever plan stood in the first rows: its answer, in numbers not below zero, and where it is accepted, itself with its open settings filled
pub record AcceptIs (g : Given) (today : ℤ) (callerOk : Bool) (count : ℕ) (before after : List ℤ) (r : Result Accepted Refusal) : Type 0 where
  pub answer : (x : Plan Delay) → Standing before count x → checking_answer r ≡ accepting g today callerOk x
  pub filled : (plan : Accepted) → r ≡ Ok plan → (x : Plan Delay) → Standing before count x → Standing after count (closed (fill (setting_at g.settings) x))
  pub natural : Natural r
