use borrow.Author.Rules.{rules}
use lib.ListN.{length}
use mathlib.Core.List.{◌∷◌}
use mathlib.Core.Path.{◌∙◌, ◌≡◌, ap, sym}
use mir.Syntax.{w64}
use mir.Val.{SFits}
use native.Mathlib.Omega.{arith}
use Rattle.language.specs.Text.Number.{print_nat, print_number}
use Rattle.writer.proofs.Decimal.{digits_most}
use Rattle.writer.proofs.Numbers.{print_above, print_below}
use Rattle.writer.specs.Written.{slot}
use Rattle.writer.proofs.digits.counted_length.Goals as goal
use Rattle.writer.proofs.digits.counted_length.Goals.{Else-z-lt0, Then-z-lt0}

-- `digits::counted_length` meets its contract.

below : (c : Then-z-lt0)
    → print_number (slot c.args.nodes.now c.args.k) ≡ 45 ∷ print_nat c.magnitude.result
below c =
    let f : SFits w64 (slot c.args.nodes.now c.args.k) = search rules in
    print_below _ f _ c.magnitude.ensures.0 c.if-z-lt0.true

above : (c : Else-z-lt0)
    → print_number (slot c.args.nodes.now c.args.k) ≡ print_nat c.magnitude.result
above c =
    let f : SFits w64 (slot c.args.nodes.now c.args.k) = search rules in
    print_above _ f _ c.magnitude.ensures.0 c.if-z-lt0.false

pub overflow_add-result : goal.overflow_add-result
overflow_add-result c = record { fits = omega (arith, c.digit_count-count.ensures, digits_most c.magnitude.result) }

pub returns-then-z-lt0 : goal.returns-then-z-lt0
returns-then-z-lt0 c = sym (ap length (below c) ∙ omega (arith, c.digit_count-count.ensures))

pub returns-else-z-lt0 : goal.returns-else-z-lt0
returns-else-z-lt0 c = c.digit_count-count.ensures ∙ sym (ap length (above c))
