use Rattle.lines.proofs.SpanMonths.{one_fits, one_is}
use Rattle.lines.proofs.factor_months.Goals as goal

pub overflow_add-result : goal.overflow_add-result
overflow_add-result c = one_fits c.ranges.f c.requires

pub returns : goal.returns
returns c = one_is c.ranges.f c.requires
