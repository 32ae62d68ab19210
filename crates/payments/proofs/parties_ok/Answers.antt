use mathlib.Core.Bool.{◌&&◌}
use mathlib.Core.Path.{◌∙◌, ap, ap₂}
use mir.Facts.{to_z-of_z}
use mir.Syntax.{w64}
use mir.Val.{SFits}
use Rattle.language.specs.Rules.Table.{is_a_party}
use borrow.Author.Rules.{rules}
use Rattle.payments.proofs.parties_ok.Goals as goal

pub returns : goal.returns
returns c =
    let p : SFits w64 c.args.pair.p = search rules in
    let q : SFits w64 c.args.pair.q = search rules in
    ap₂ ◌&&◌ (c.party_ok.ensures ∙ ap is_a_party (to_z-of_z p)) (c.party_ok-2.ensures ∙ ap is_a_party (to_z-of_z q))
