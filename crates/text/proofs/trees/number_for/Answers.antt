use native.Mathlib.Omega.{arith}
use Rattle.text.proofs.PackedLaws.{open_number}
use Rattle.text.proofs.trees.number_for.Goals as goal

pub returns : goal.returns
returns c =
    rw c.from.ensures (open_number c.args.h.next _ (omega (arith, c.requires.1, c.requires.2, c.requires.3)))
