use lib.ListN.{length}
use mathlib.Core.Path.{◌∙◌, ap, refl, subst, sym}
use native.Mathlib.Omega.{arith}
use Rattle.lines.specs.Sheets.{SheetIs}
use Rattle.sheets.proofs.Rooms.{crowded, held}
use Rattle.sheets.proofs.SheetReads.{faulty}
use Rattle.sheets.proofs.answer_in.Goals as goal

-- `answer_in` meets its contract.

pub answer_read-requires : goal.answer_read-requires
answer_read-requires c =
    let r = c.read_sheet-sheeting in
    let h = held _ _ _ _ (sym c.is_held.ensures ∙ c.if-is_held.true) in
    record { read = subst (SheetIs c.args.input.now r.new.days r.new.factors r.new.bounds r.new.values) c.in-Some.is r.ensures; short = c.requires; settings = r.auto.days; months = h.0; labels = r.auto.bounds; places = h.1 }

pub returns-else-is_held : goal.returns-else-is_held
returns-else-is_held c =
    let r = c.read_sheet-sheeting in
    let sheet = c.in-Some.held in
    let h = crowded sheet.factors (length r.new.factors) sheet.values (length r.new.values) (sym c.is_held.ensures ∙ c.if-is_held.false) in
    (refl, λ k. h (omega (arith, k.0, r.auto.factors), omega (arith, k.1, r.auto.values)))

pub returns-in-None : goal.returns-in-None
returns-in-None c =
    let r = c.read_sheet-sheeting in
    let e = faulty c.args.input.now c.requires (subst (SheetIs c.args.input.now r.new.days r.new.factors r.new.bounds r.new.values) c.in-None.is r.ensures) c.args.out.now in
    (c.refuse.ensures.0 ∙ ap (λ o. o.buffer) e, c.refuse.ensures.1 ∙ ap (λ o. o.answer) e)
