use mathlib.Core.Path.{◌∙◌, ap}
use Rattle.sheets.proofs.SheetReads.{too_long}
use Rattle.sheets.proofs.sheet.Goals as goal

-- `sheet` meets its contract.

pub returns-then-input-gt60000 : goal.returns-then-input-gt60000
returns-then-input-gt60000 c =
    let e = too_long c.args.input.now c.if-input-gt60000.true c.args.out.now in
    (c.refuse.ensures.0 ∙ ap (λ o. o.buffer) e, c.refuse.ensures.1 ∙ ap (λ o. o.answer) e)
