use borrow.Author.Rules.{rules}
use mathlib.Core.Path.{◌∙◌, ap}
use lib.IntN.{◌*ℤ◌}
use mir.Syntax.{w64}
use mir.Val.{SFits}
use Rattle.amounts.specs.Flat.{flat}
use Rattle.language.specs.Payments.Amounts.{value}
use Rattle.nodes.specs.Found.{amount_at, offset_of}
use Rattle.nodes.specs.Table.{nat_of}
use Rattle.pays.proofs.Pennies.{nothing_of_nothing}
use Rattle.pays.proofs.scale.scaled.Goals as goal

pub returns-then-pence-eq0 : goal.returns-then-pence-eq0
returns-then-pence-eq0 c =
    let f : SFits w64 c.args.x.0 = search rules in
    nothing_of_nothing f c.if-pence-eq0.true (value (flat c.args.tables.now.values.now) (amount_at offset_of 512 c.args.tables.now.nodes.now c.args.at) (nat_of c.args.root.0))

pub times-requires : goal.times-requires
times-requires c =
    rw c.amount_value-a.ensures c.requires.3

pub returns : goal.returns
returns c =
    c.times.ensures ∙ ap (λ a. a *ℤ c.args.x.0) c.amount_value-a.ensures
