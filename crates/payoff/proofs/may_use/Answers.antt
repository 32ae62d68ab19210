use mathlib.Core.Bool.{true≢false}
use mathlib.Core.Path.{◌∙◌, sym}
use Rattle.payoff.proofs.may_use.Goals as goal

pub returns-then-days-gt0 : goal.returns-then-days-gt0
returns-then-days-gt0 c = λ e. absurd (true≢false e)

pub returns : goal.returns
returns c = λ e. sym c.has_open.ensures ∙ e
