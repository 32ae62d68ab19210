use borrow.Author.Rules.{rules}
use Rattle.writer.proofs.Puts.{then}
use Rattle.writer.proofs.digits.put_four.Goals as goal

-- `digits::put_four` meets its contract.

pub returns : goal.returns
returns c = then c.put_pair-next.ensures c.put_pair.ensures
