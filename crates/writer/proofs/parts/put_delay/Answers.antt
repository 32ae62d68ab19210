use Prim.Native.Nat.{◌%◌, ◌+◌, ◌-◌}
use borrow.Author.Rules.{rules}
use lib.ListN.{length, length-set}
use mathlib.Core.List.{[], ◌∷◌}
use mathlib.Core.Path.{◌∙◌, ◌≡◌, ap, sym}
use mir.Syntax.{w64}
use mir.Val.{SFits}
use native.Mathlib.Omega.{arith}
use Rattle.language.specs.Text.Classes.{print_delay}
use Rattle.language.specs.Text.Number.{print_nat}
use Rattle.writer.proofs.Numbers.{delay_above, delay_below, some_below}
use Rattle.writer.proofs.Puts.{one, said, then, three}
use Rattle.writer.specs.Written.{delay_of, slot}
use Rattle.writer.proofs.parts.put_delay.Goals as goal
use Rattle.writer.proofs.parts.put_delay.Goals.{Else-z-lt0, Then-z-lt0}

-- `fields::put_delay` meets its contract.

below : (c : Then-z-lt0)
    → print_delay (delay_of (slot c.args.nodes.now c.args.k)) ≡ 80 ∷ (48 + (c.magnitude-n.result - 1) % 8) ∷ []
below c =
    let f : SFits w64 (slot c.args.nodes.now c.args.k) = search rules in
    delay_below _ f _ c.magnitude-n.ensures.0 c.if-z-lt0.true

above : (c : Else-z-lt0)
    → print_delay (delay_of (slot c.args.nodes.now c.args.k)) ≡ print_nat c.magnitude-n.result
above c =
    let f : SFits w64 (slot c.args.nodes.now c.args.k) = search rules in
    delay_above _ f _ c.magnitude-n.ensures.0 c.if-z-lt0.false

pub bounds-out-at-then-z-lt0 : goal.bounds-out-at-then-z-lt0
bounds-out-at-then-z-lt0 c = simp length-set (omega (arith, ap length (below c), c.requires.1))

pub overflow_sub-out : goal.overflow_sub-out
overflow_sub-out c =
    let f : SFits w64 (slot c.args.nodes.now c.args.k) = search rules in
    some_below _ f _ c.magnitude-n.ensures.0 c.if-z-lt0.true

pub bounds-out-at-then-z-lt0-2 : goal.bounds-out-at-then-z-lt0-2
bounds-out-at-then-z-lt0-2 c = simp length-set (omega (arith, ap length (below c), c.requires.1))

pub put_digits-requires : goal.put_digits-requires
put_digits-requires c = (
  c.magnitude-n.ensures.1,
  simp length-set (omega (arith, ap length (above (goal.at.put_digits-requires c).Else-z-lt0), c.requires.1)),
)

pub returns-then-z-lt0 : goal.returns-then-z-lt0
returns-then-z-lt0 c = said (sym (ap (λ t. 44 ∷ t) (below c))) (three _ _ _ _ _)

pub shape_of-out-else-z-lt0 : goal.shape_of-out-else-z-lt0
shape_of-out-else-z-lt0 c = c.put_digits.auto.out ∙ simp length-set

pub returns-else-z-lt0 : goal.returns-else-z-lt0
returns-else-z-lt0 c = said (sym (ap (λ t. 44 ∷ t) (above (goal.at.returns-else-z-lt0 c).Else-z-lt0))) (then (one _ _ _) c.put_digits.ensures)
