use mathlib.Core.Path.{subst}
use native.Mathlib.Omega.{arith}
use Rattle.sheets.specs.Held.{TriedIs}
use Rattle.sheets.proofs.long_sheet.Goals as goal

-- `long_sheet` meets its contract.

pub returns-in-Some : goal.returns-in-Some
returns-in-Some c =
    let r = c.answer_in-tried in
    subst (TriedIs c.args.input.now _ _ c.args.out.now r.new.out) c.in-Some.is r.ensures

pub returns-in-None : goal.returns-in-None
returns-in-None c =
    let r = c.answer_in-tried in
    let t = subst (TriedIs c.args.input.now _ _ c.args.out.now r.new.out) c.in-None.is r.ensures in
    absurd (t.1 (omega arith, omega arith))
