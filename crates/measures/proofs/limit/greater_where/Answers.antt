use Rattle.std.proofs.Common.{◌∙◌}
use Rattle.measures.proofs.Joins as laws
use Rattle.measures.proofs.limit.greater_where.Goals as goal

pub returns-then-small : goal.returns-then-small
returns-then-small c = rw c.if-small.true (c.max.ensures ∙ laws.greater_joined _ _ c.requires.0 c.requires.1)
