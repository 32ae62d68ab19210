-- What a leaf is worth.
use Rattle.std.specs.Prelude.{◌*ℤ◌, nat_abs, pos, ℤ, get_or, cond, List}
use Rattle.std.specs.Int.Signed.{lt_z}
use Rattle.language.specs.Answer.{Answer, refused}
use Rattle.language.specs.Limits.{max_value}
use Rattle.language.specs.Payoff.Evaluate.{in_range}
use Rattle.language.specs.Text.Number.{between}

-- in a month, where the penny counts `sign`; before month `start` nothing
unfoldable pub leaf_in : ℤ → List ℤ → ℤ → ℤ → ℤ → Answer ℤ
leaf_in f factors start month sign = cond (between (pos 0) f month) (in_range max_value (cond (lt_z month start) (pos 0) (get_or factors (nat_abs month) (pos 0) *ℤ sign))) (refused 11)
