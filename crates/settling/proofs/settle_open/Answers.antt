use borrow.Author.Rules.{rules}
use Rattle.settling.proofs.settle_open.Goals as goal

pub returns : goal.returns
returns c = c.requires.3 c.if-used.false c.args.days.now
