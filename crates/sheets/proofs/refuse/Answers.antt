use mathlib.Core.Path.{◌∙◌, ap}
use mir.Syntax.{w64}
use mir.Val.{to_z}
use Rattle.sheets.proofs.Refusals.{number_read, refusal_into_lem}
use Rattle.sheets.proofs.refuse.Goals as goal

pub returns : goal.returns
returns c =
    let e = refusal_into_lem _ _ (ap (to_z w64) c.number_of.ensures ∙ number_read c.args.refusal) c.args.out.now in
    (c.write_refusal.ensures.0 ∙ ap (λ o. o.buffer) e, c.write_refusal.ensures.1 ∙ ap (λ o. o.answer) e)
