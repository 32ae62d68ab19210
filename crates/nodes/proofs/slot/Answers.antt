use Prim.Native.Nat.{◌*◌, ◌+◌}
use borrow.Author.Rules.{rules}
use lib.IntN.{pos}
use lib.ListN.{get_or}
use mir.Facts.{to_z-of_z}
use mir.Syntax.{w64}
use mir.Val.{SFits}
use Rattle.nodes.specs.Table.{slot_at}
use Rattle.nodes.proofs.slot.Goals as goal

pub returns : goal.returns
unfolding slot_at
returns c =
    let f : SFits w64 (get_or c.args.nodes.now (c.args.at * 5 + c.args.k) (pos 0)) = search rules in
    to_z-of_z f
