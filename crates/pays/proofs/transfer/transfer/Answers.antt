use borrow.Author.Rules.{rules}
use mir.Syntax.{w64}
use mir.Val.{SFits}
use Rattle.pays.proofs.Pennies.{in_root, not_in_root}
use Rattle.pays.proofs.transfer.transfer.Goals as goal

pub penny-requires : goal.penny-requires
penny-requires c =
    let h = c.requires in
    (h.0, h.3)

pub returns-then-r-m : goal.returns-then-r-m
returns-then-r-m c =
    let fr : SFits w64 c.args.root.0 = search rules in
    let fm : SFits w64 c.args.month.0 = search rules in
    in_root fr fm c.requires.1 c.requires.2 c.if-r-m.true c.penny.ensures

pub returns : goal.returns
returns c =
    let fr : SFits w64 c.args.root.0 = search rules in
    let fm : SFits w64 c.args.month.0 = search rules in
    not_in_root fr fm c.requires.1 c.requires.2 _ c.if-r-m.false
