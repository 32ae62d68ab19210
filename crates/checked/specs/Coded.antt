-- A number or its refusal as one number, by the limit of such numbers: amounts here, values of payoffs in worths.
use Rattle.std.specs.Prelude.{◌+◌, ℕ, eqb, leb, nat_abs, ℤ, cond}
use Rattle.language.specs.Answer.{Answer, got, refused}
use Rattle.language.specs.Limits.{max_amount}

-- what stands for a month that can't be read
abbrev pub unread : ℕ → ℕ
unread lim = lim + 11

-- a number within the limit stands for itself, one beyond it for 11 or 14
unfoldable pub decoded : ℕ → ℤ → Answer ℤ
decoded lim z = cond (leb (nat_abs z) lim) (got z) (cond (eqb (nat_abs z) (unread lim)) (refused 11) (refused 14))

-- an amount
abbrev pub valued_in : ℤ → Answer ℤ
valued_in = decoded max_amount
