-- What the way back answers of a payoff's amount.
use Rattle.std.specs.Prelude.{ℤ, ◌≡◌, None, Option, Some}
use Rattle.language.specs.Answer.{Answer, got}
use Rattle.integers.specs.declared.Pence.{Pence}

-- a value that is answered is what a answers
abbrev pub BackIn : Answer ℤ → Option Pence → Type 0
BackIn a (Some p) = a ≡ got p.0
BackIn a None = Unit {0}
