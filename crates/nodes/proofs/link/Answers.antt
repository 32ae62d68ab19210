use Prim.Native.Nat.{◌+◌}
use borrow.Author.Rules.{rules}
use mathlib.Core.Path.{ap, subst}
use mir.Syntax.{w64}
use mir.Val.{SFits}
use native.Mathlib.Omega.{arith}
use Rattle.nodes.proofs.Signed.{index_cast, index_reads, nat_of_below}
use Rattle.nodes.specs.Table.{link_at, slot_at}
use Rattle.nodes.proofs.link.Goals as goal

pub overflow_cast-result : goal.overflow_cast-result
overflow_cast-result c =
    let f : SFits w64 c.slot-x.result = search rules in
    index_cast _ _ f c.slot-x.ensures c.requires.2

pub overflow_add-result : goal.overflow_add-result
overflow_add-result c =
    let f : SFits w64 c.slot-x.result = search rules in
    omega (arith, index_reads c.slot-x.result (slot_at c.args.nodes.now c.args.at c.args.k) f c.slot-x.ensures c.requires.2, nat_of_below (slot_at c.args.nodes.now c.args.at c.args.k) (subst (SFits w64) c.slot-x.ensures f))

pub returns : goal.returns
unfolding link_at
returns c =
    let f : SFits w64 c.slot-x.result = search rules in
    ap (λ n. c.args.at + n) (index_reads _ _ f c.slot-x.ensures c.requires.2)
