-- What a quick walk finds of a plan: as it stands in the table, and as its text is read.
use Rattle.std.specs.Prelude.{ℕ, ℤ, List, ◌≡◌, None, Ok, Option, Some}
use Rattle.language.specs.Calls.{Given, check_call}
use Rattle.measures.specs.Closed.{ClosedAt}
use Rattle.nodes.specs.Found.{plan_at}
use Rattle.nodes.specs.Table.{nat_of}
use Rattle.rules.specs.Answers.{Natural, checking_answer}
use Rattle.rules.specs.Measured.{measured_by}
use Rattle.rules.specs.declared.Accepted.{Accepted}

-- the rules accept a plan that is found to keep them, with this length and magnitude, and it has no open setting
abbrev pub QuickIs : ℤ → ℤ → List ℤ → ℕ → List ℤ → Option Accepted → Type 0
QuickIs h f bounds today nodes (Some it) = (checking_answer (Ok (record { length = it.length; magnitude = it.magnitude })) ≡ measured_by h f bounds today (plan_at nat_of 32 nodes 0)) × Natural (Ok (record { length = it.length; magnitude = it.magnitude })) × ClosedAt 32 nodes 0
QuickIs h f bounds today nodes None = Unit {0}

-- the call accepts a plan whose text is found to be one that keeps every rule
abbrev pub ReadIs : List ℕ → Given → ℤ → Option Accepted → Type 0
ReadIs text g today (Some it) = (checking_answer (Ok (record { length = it.length; magnitude = it.magnitude })) ≡ check_call text g today) × Natural (Ok (record { length = it.length; magnitude = it.magnitude }))
ReadIs text g today None = Unit {0}
