use borrow.Author.Rules.{rules}
use mir.Syntax.{w64}
use mir.Val.{SFits}
use Rattle.pays.proofs.Pennies as pennies
use Rattle.pays.proofs.transfer.penny_between.Goals as goal

pub returns-then-pair : goal.returns-then-pair
returns-then-pair c =
    let fp : SFits w64 c.args.pair.p = search rules in
    let fq : SFits w64 c.args.pair.q = search rules in
    let fa : SFits w64 c.args.a = search rules in
    let fb : SFits w64 c.args.b = search rules in
    pennies.one_party c.requires fp fq fa fb c.if-pair.true

pub returns-then-a-pair : goal.returns-then-a-pair
returns-then-a-pair c =
    let fp : SFits w64 c.args.pair.p = search rules in
    let fq : SFits w64 c.args.pair.q = search rules in
    let fa : SFits w64 c.args.a = search rules in
    let fb : SFits w64 c.args.b = search rules in
    pennies.from_first c.requires fp fq fa fb c.if-pair.false c.if-a-pair.true

pub returns-then-a-pair-2 : goal.returns-then-a-pair-2
returns-then-a-pair-2 c =
    let fp : SFits w64 c.args.pair.p = search rules in
    let fq : SFits w64 c.args.pair.q = search rules in
    let fa : SFits w64 c.args.a = search rules in
    let fb : SFits w64 c.args.b = search rules in
    pennies.from_second c.requires fp fq fa fb c.if-pair.false c.if-a-pair.false c.if-a-pair-2.true

pub returns : goal.returns
returns c =
    let fp : SFits w64 c.args.pair.p = search rules in
    let fq : SFits w64 c.args.pair.q = search rules in
    let fa : SFits w64 c.args.a = search rules in
    let fb : SFits w64 c.args.b = search rules in
    pennies.between_others c.requires fp fq fa fb c.if-pair.false c.if-a-pair.false c.if-a-pair-2.false
