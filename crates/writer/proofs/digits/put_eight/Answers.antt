use borrow.Author.Rules.{rules}
use Rattle.writer.proofs.Puts.{then}
use Rattle.writer.proofs.digits.put_eight.Goals as goal

-- `digits::put_eight` meets its contract.

pub returns : goal.returns
returns c = then c.put_four-next.ensures c.put_four.ensures
