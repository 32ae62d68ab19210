-- A payoff's value or its refusal as one number.
use Rattle.std.specs.Prelude.{ℤ}
use Rattle.checked.specs.Coded.{decoded}
use Rattle.language.specs.Answer.{Answer}
use Rattle.language.specs.Limits.{max_value}

-- within the limit of values it stands for itself, beyond it for 11 or 14
abbrev pub coded_worth : ℤ → Answer ℤ
coded_worth = decoded max_value
