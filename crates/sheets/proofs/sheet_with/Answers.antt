use Rattle.sheets.proofs.sheet_with.Goals as goal

-- `sheet_with` meets its contract.

pub returns : goal.returns
returns g c = c.or_long.ensures _ _ _ c.answer_in-tried.ensures
