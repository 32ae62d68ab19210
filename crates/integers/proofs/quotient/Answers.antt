use borrow.Author.Rules.{rules}
use lib.IntN.{pos}
use lib.Signed.{lt_z}
use mathlib.Core.Bool.{true}
use mathlib.Core.Path.{◌≡◌}
use mir.Syntax.{w64}
use mir.Val.{SFits}
use Rattle.integers.proofs.Division.{divisor, down_fits, down_reads, next_fits, whole_fits, whole_reads}
use Rattle.integers.proofs.Locals.{rd}
use Rattle.integers.proofs.Negation.{add_fits}
use Rattle.integers.proofs.Tests.{not_le}
use Rattle.integers.proofs.quotient.Goals as goal
use Rattle.integers.proofs.quotient.Goals.{Else-x-ge0}

pub nonzero_div-result : goal.nonzero_div-result
nonzero_div-result c =
    let f : SFits w64 c.args.a.0 = search rules in
    (divisor f c.ranges.n c.requires, whole_fits f c.ranges.n c.requires)

pub returns-then-x-ge0 : goal.returns-then-x-ge0
returns-then-x-ge0 c =
    let f : SFits w64 c.args.a.0 = search rules in
    whole_reads f c.ranges.n c.requires c.if-x-ge0.true

below : (c : Else-x-ge0) → lt_z (rd c.args.a.0) (pos 0) ≡ true
below c = not_le (pos 0) (rd c.args.a.0) c.if-x-ge0.false

pub overflow_add-result : goal.overflow_add-result
overflow_add-result c =
    let f : SFits w64 c.args.a.0 = search rules in
    add_fits _ f (below c)

pub nonzero_div-result-2 : goal.nonzero_div-result-2
nonzero_div-result-2 c =
    let f : SFits w64 c.args.a.0 = search rules in
    (divisor f c.ranges.n c.requires, next_fits f c.ranges.n c.requires (below c))

pub overflow_sub-result : goal.overflow_sub-result
overflow_sub-result c =
    let f : SFits w64 c.args.a.0 = search rules in
    down_fits f c.ranges.n c.requires (below c)

pub returns : goal.returns
returns c =
    let f : SFits w64 c.args.a.0 = search rules in
    down_reads f c.ranges.n c.requires (below c)
