use lib.ListN.{length-set}
use mathlib.Core.Path.{◌∙◌, sym}
use native.Mathlib.Omega.{arith}
use Rattle.writer.proofs.Puts.{one, then}
use Rattle.writer.proofs.parts.put_figure.Goals as goal

-- `fields::put_figure` meets its contract.

pub put_few-requires : goal.put_few-requires
put_few-requires c =
    (c.requires.0, sym c.is_short.ensures ∙ c.if-is_short.true, simp length-set (omega (arith, c.requires.1)))

pub put_number-requires : goal.put_number-requires
put_number-requires c = (c.requires.0, simp length-set (omega (arith, c.requires.1)))

pub shape_of-out-then-is_short : goal.shape_of-out-then-is_short
shape_of-out-then-is_short c = c.put_few.auto.out ∙ simp length-set

pub returns-then-is_short : goal.returns-then-is_short
returns-then-is_short c = then (one _ _ _) c.put_few.ensures

pub shape_of-out-else-is_short : goal.shape_of-out-else-is_short
shape_of-out-else-is_short c = c.put_number.auto.out ∙ simp length-set

pub returns-else-is_short : goal.returns-else-is_short
returns-else-is_short c = then (one _ _ _) c.put_number.ensures
