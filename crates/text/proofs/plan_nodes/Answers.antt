use Rattle.text.proofs.TextLaws.{count_is}
use Rattle.text.proofs.plan_nodes.Goals as goal

pub returns : goal.returns
returns c = count_is _ c.args.text.now _ _ c.read_plan.result c.read_plan.ensures.is
