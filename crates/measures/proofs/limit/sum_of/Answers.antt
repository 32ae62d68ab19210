use Rattle.std.proofs.Common.{◌∙◌}
use Rattle.measures.proofs.Joins as laws
use Rattle.measures.proofs.limit.sum_of.Goals as goal

pub returns : goal.returns
returns c = c.min.ensures ∙ laws.sum_joined _ _
