-- Cutting a payoff in its text: every `F` becomes an `H`.
use Rattle.std.specs.Prelude.{ℕ, eqb, cond}
use Rattle.language.specs.Text.Number.{byte}

unfoldable pub byte_of_cut : ℕ → ℕ
byte_of_cut b = cond (eqb b (byte "F")) (byte "H") b
