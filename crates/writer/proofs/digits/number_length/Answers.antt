use borrow.Author.Rules.{rules}
use lib.ListN.{length}
use mathlib.Core.Path.{◌∙◌, ap, sym}
use Rattle.writer.proofs.Numbers.{digit_text}
use Rattle.writer.proofs.digits.number_length.Goals as goal

-- `digits::number_length` meets its contract.

pub returns-then-is_digit : goal.returns-then-is_digit
returns-then-is_digit c = sym (ap length (digit_text _ (sym c.is_digit.ensures ∙ c.if-is_digit.true)))
