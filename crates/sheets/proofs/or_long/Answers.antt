use mathlib.Core.Path.{◌≡◌, subst}
use Rattle.language.specs.Sheet.{sheet_call}
use Rattle.sheets.specs.Held.{TriedIs}
use Rattle.writer.specs.Answers.{written_answer}
use Rattle.sheets.proofs.or_long.Goals as goal

-- `or_long` meets its contract.

pub returns-in-Some : goal.returns-in-Some
returns-in-Some c = λ m p b h. subst (TriedIs c.args.input.now m p b c.args.out.now) c.in-Some.is h

pub returns-in-None : goal.returns-in-None
returns-in-None c = λ m p b h.
    let a = c.args in
    let t = subst (TriedIs a.input.now m p b a.out.now) c.in-None.is h in
    subst (λ o. (c.long_sheet.new.out ≡ (sheet_call a.input.now o).buffer) × (written_answer c.long_sheet.result ≡ (sheet_call a.input.now o).answer)) t.0 c.long_sheet.ensures
