use borrow.Author.Rules.{rules}
use lib.ListN.{length-append}
use mathlib.Core.Path.{refl}
use native.Mathlib.Omega.{arith}
use Rattle.printing.specs.Lines.{head_text, months_text}
use Rattle.writer.proofs.Puts.{room_next, then}
use Rattle.writer.specs.Digits.{all_pairs}
use Rattle.printing.proofs.put_answer.Goals as goal

-- `put_answer` meets its contract.

pub put_head-at-requires : goal.put_head-at-requires
put_head-at-requires c =
    (c.requires.0, omega (arith, length-append (head_text c.args.head.now) (months_text c.args.column.now c.args.rest.now 0 c.args.months), c.requires.4))

pub put_months-requires : goal.put_months-requires
unfolding all_pairs
put_months-requires c =
    (c.requires.1, c.requires.2, c.requires.3, room_next (months_text c.args.column.now c.args.rest.now 0 c.args.months) (omega (arith, c.requires.4)) c.put_head-at.ensures, refl)

pub returns : goal.returns
returns c = then c.put_head-at.ensures c.put_months.ensures
