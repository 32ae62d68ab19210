use borrow.Author.Rules.{rules}
use lib.ListN.{length, length-set}
use mathlib.Core.List.{◌∷◌}
use mathlib.Core.Path.{◌∙◌, ◌≡◌, ap, sym}
use mir.Syntax.{w64}
use mir.Val.{SFits}
use native.Mathlib.Omega.{arith}
use Rattle.language.specs.Text.Number.{print_nat, print_number}
use Rattle.writer.proofs.Numbers.{print_above, print_below}
use Rattle.writer.proofs.Puts.{one, room_as, said, then}
use Rattle.writer.specs.Written.{slot}
use Rattle.writer.proofs.digits.put_number.Goals as goal
use Rattle.writer.proofs.digits.put_number.Goals.{Else-z-lt0, Then-z-lt0}

-- `digits::put_number` meets its contract.

below : (c : Then-z-lt0)
    → print_number (slot c.args.nodes.now c.args.k) ≡ 45 ∷ print_nat c.magnitude-n.result
below c =
    let f : SFits w64 (slot c.args.nodes.now c.args.k) = search rules in
    print_below _ f _ c.magnitude-n.ensures.0 c.if-z-lt0.true

above : (c : Else-z-lt0)
    → print_number (slot c.args.nodes.now c.args.k) ≡ print_nat c.magnitude-n.result
above c =
    let f : SFits w64 (slot c.args.nodes.now c.args.k) = search rules in
    print_above _ f _ c.magnitude-n.ensures.0 c.if-z-lt0.false

pub bounds-out-at : goal.bounds-out-at
bounds-out-at c = omega (arith, ap length (below c), c.requires.1)

pub put_digits-requires : goal.put_digits-requires
put_digits-requires c = (
  c.magnitude-n.ensures.1,
  simp length-set (omega (arith, ap length (below (goal.at.put_digits-requires c).Then-z-lt0), c.requires.1)),
)

pub put_digits-requires-else-z-lt0 : goal.put_digits-requires-else-z-lt0
put_digits-requires-else-z-lt0 c = (c.magnitude-n.ensures.1, room_as _ _ _ _ (above (goal.at.put_digits-requires-else-z-lt0 c).Else-z-lt0) c.requires.1)

pub shape_of-out-then-z-lt0 : goal.shape_of-out-then-z-lt0
shape_of-out-then-z-lt0 c = c.put_digits.auto.out ∙ simp length-set

pub returns-then-z-lt0 : goal.returns-then-z-lt0
returns-then-z-lt0 c = said (sym (below (goal.at.returns-then-z-lt0 c).Then-z-lt0)) (then (one _ _ _) c.put_digits.ensures)

pub returns-else-z-lt0 : goal.returns-else-z-lt0
returns-else-z-lt0 c = said (sym (above (goal.at.returns-else-z-lt0 c).Else-z-lt0)) c.put_digits-else-z-lt0.ensures
