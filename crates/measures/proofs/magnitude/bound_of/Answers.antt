use Rattle.measures.proofs.AmountMagnitudes as laws
use Rattle.measures.proofs.magnitude.bound_of.Goals as goal

pub returns : goal.returns
returns c = laws.bound_absent c.args.bounds.now c.args.l c.if-l-bounds.false
