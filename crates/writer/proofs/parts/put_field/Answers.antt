use lib.ListN.{length, length-set}
use mathlib.Core.Path.{◌∙◌, ap, sym}
use native.Mathlib.Omega.{arith}
use Rattle.writer.proofs.Numbers.{digit_text}
use Rattle.writer.proofs.Puts.{one, then}
use Rattle.writer.specs.Written.{slot}
use Rattle.writer.proofs.parts.put_field.Goals as goal

-- `fields::put_field` meets its contract.

pub put_digit-requires : goal.put_digit-requires
put_digit-requires c =
    let e = sym c.is_digit.ensures ∙ c.if-is_digit.true in
    (c.requires.0, e, simp length-set (omega (arith, ap length (digit_text (slot c.args.nodes.now c.args.k) e), c.requires.1)))

pub put_number-requires : goal.put_number-requires
put_number-requires c = (c.requires.0, simp length-set (omega (arith, c.requires.1)))

pub shape_of-out-then-is_digit : goal.shape_of-out-then-is_digit
shape_of-out-then-is_digit c = c.put_digit.auto.out ∙ simp length-set

pub returns-then-is_digit : goal.returns-then-is_digit
returns-then-is_digit c = then (one _ _ _) c.put_digit.ensures

pub shape_of-out-else-is_digit : goal.shape_of-out-else-is_digit
shape_of-out-else-is_digit c = c.put_number.auto.out ∙ simp length-set

pub returns-else-is_digit : goal.returns-else-is_digit
returns-else-is_digit c = then (one _ _ _) c.put_number.ensures
