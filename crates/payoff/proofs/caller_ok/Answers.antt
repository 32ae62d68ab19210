use lib.IntN.{pos}
use mathlib.Core.Bool.{◌&&◌}
use mathlib.Core.Path.{◌∙◌, ap, ap₂}
use mir.Facts.{to_z-of_z}
use mir.Syntax.{w64}
use mir.Val.{SFits}
use Rattle.language.specs.Rules.Table.{is_a_party}
use Rattle.language.specs.Text.Number.{between}
use borrow.Author.Rules.{rules}
use Rattle.payoff.proofs.caller_ok.Goals as goal

pub returns : goal.returns
returns c =
    let a = c.args in
    let ff : SFits w64 a.span.f = search rules in
    let fm : SFits w64 a.month.0 = search rules in
    let fp : SFits w64 a.pair.p = search rules in
    let fq : SFits w64 a.pair.q = search rules in
    ap₂ ◌&&◌ (c.month_ok.ensures ∙ ap₂ (λ y z. between (pos 0) y z) (to_z-of_z ff) (to_z-of_z fm))
    (ap₂ ◌&&◌ (c.party_ok.ensures ∙ ap is_a_party (to_z-of_z fp)) (c.party_ok-2.ensures ∙ ap is_a_party (to_z-of_z fq)))
