use borrow.Author.Rules.{rules}
use mathlib.Core.Path.{refl}
use Rattle.writer.specs.Digits.{all_pairs}
use Rattle.writer.proofs.digits.put_long.Goals as goal

-- `digits::put_long` meets its contract.

pub put_by_pairs-requires : goal.put_by_pairs-requires
unfolding all_pairs
put_by_pairs-requires c = (c.requires.0, c.requires.1, refl)
