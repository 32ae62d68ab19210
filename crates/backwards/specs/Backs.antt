-- What the way back answers of an amount.
use Rattle.std.specs.Prelude.{ℤ, ◌≡◌, None, Option, Some}
use Rattle.integers.specs.declared.Pence.{Pence}

-- a value that is answered is v
abbrev pub BackIs : ℤ → Option Pence → Type 0
BackIs v (Some p) = p.0 ≡ v
BackIs v None = Unit {0}
