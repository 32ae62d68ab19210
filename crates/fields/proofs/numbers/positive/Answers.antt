use mathlib.Core.Path.{◌∙◌, ap, subst, sym}
use Rattle.fields.specs.Numbers.{SmallNatural, plus}
use Rattle.fields.proofs.NumberLaws.{plus_bad, plus_some, read_pos}
use Rattle.fields.proofs.numbers.positive.Goals as goal

pub returns-in_err-n : goal.returns-in_err-n
returns-in_err-n c = rw c.from_residual.ensures (plus_bad ∙ sym (ap plus c.in_err-n.was))

pub returns : goal.returns
returns c = plus_some _ _ _ (read_pos _ (subst SmallNatural c.in_ok-n.was c.requires)) ∙ sym (ap plus c.in_ok-n.was)
