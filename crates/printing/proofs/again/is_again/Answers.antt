use borrow.Author.Rules.{rules}
use mathlib.Core.Bool.{true≢false}
use mathlib.Core.Path.{◌∙◌, sym}
use native.Mathlib.Omega.{arith}
use Rattle.printing.proofs.Copying.{equal_number}
use Rattle.printing.proofs.again.is_again.Goals as goal

pub returns-then-repeats : goal.returns-then-repeats
returns-then-repeats c =
    λ e. (
      c.if-m-gt0.true,
      c.if-long-ge8.true,
      equal_number _ _ (sym c.repeats.ensures ∙ c.if-repeats.true),
      equal_number _ _ (sym c.repeats-then-repeats.ensures ∙ e),
    )

pub returns-else-repeats : goal.returns-else-repeats
returns-else-repeats c = λ e. absurd (true≢false (sym e))

pub returns-else-long-ge8 : goal.returns-else-long-ge8
returns-else-long-ge8 c = λ e. absurd (true≢false (sym e))

pub returns-else-m-gt0 : goal.returns-else-m-gt0
returns-else-m-gt0 c = λ e. absurd (true≢false (sym e))
