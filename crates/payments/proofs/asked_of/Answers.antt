use borrow.Author.Rules.{rules}
use lib.IntN.{ℤ}
use mathlib.Core.Bool.{Bool, ◌&&◌}
use mathlib.Core.Path.{◌∙◌, ap, ap₂}
use mir.Facts.{to_z-of_z}
use mir.Syntax.{w64}
use mir.Val.{SFits}
use Rattle.language.specs.Rules.Table.{is_a_party}
use Rattle.language.specs.Text.Number.{between}
use Rattle.payments.proofs.asked_of.Goals as goal

pub returns : goal.returns
returns c =
    let p : SFits w64 c.args.pair.p = search rules in
    let q : SFits w64 c.args.pair.q = search rules in
    ap₂ ◌&&◌
    (ap₂ ◌&&◌ (c.party_ok.ensures ∙ ap is_a_party (to_z-of_z p)) (c.party_ok-2.ensures ∙ ap is_a_party (to_z-of_z q)))
    (c.is_between.ensures ∙ ap₂ (λ (f : ℤ → Bool) (m : ℤ). f m) (ap₂ between (to_z-of_z c.ranges.today) (to_z-of_z c.ranges.f)) (to_z-of_z c.ranges.month))
