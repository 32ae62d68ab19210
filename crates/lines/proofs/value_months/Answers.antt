use Rattle.lines.proofs.SpanMonths.{all_fit, all_is, two_fit}
use Rattle.lines.proofs.value_months.Goals as goal

pub overflow_add-result : goal.overflow_add-result
overflow_add-result c = two_fit c.ranges.h c.ranges.f c.requires.0 c.requires.1

pub overflow_add-result-2 : goal.overflow_add-result-2
overflow_add-result-2 c = all_fit c.ranges.h c.ranges.f c.requires.0 c.requires.1

pub returns : goal.returns
returns c = all_is c.ranges.h c.ranges.f c.requires.0 c.requires.1
