use Rattle.std.proofs.Common.{get_or, pos, refl, w64, SFits, rules}
use mir.Facts.{sfits_lit}
use Rattle.nodes.proofs.Signed.{key, no_key}
use Rattle.tables.proofs.Fills.{is_delayed, not_delayed, row_delay, row_without}
use Rattle.tables.proofs.fill.fill_row.Goals as goal

pub returns-in-76 : goal.returns-in-76
returns-in-76 c =
    let a = c.args in
    let f : SFits w64 (get_or a.nodes.now a.at (pos 0)) = search rules in
    row_delay a.days.now a.at a.nodes.now c.fill_slot.new.nodes c.fill_slot.result c.requires.0 (is_delayed a.days.now a.at a.nodes.now _ (key {n = 76} f (search rules)) refl) c.fill_slot.ensures

pub returns-in-87 : goal.returns-in-87
returns-in-87 c =
    let a = c.args in
    let f : SFits w64 (get_or a.nodes.now a.at (pos 0)) = search rules in
    row_delay a.days.now a.at a.nodes.now c.fill_slot-in-87.new.nodes c.fill_slot-in-87.result c.requires.0 (is_delayed a.days.now a.at a.nodes.now _ (key {n = 87} f (search rules)) refl) c.fill_slot-in-87.ensures

pub returns-in_default : goal.returns-in_default
returns-in_default c =
    let a = c.args in
    let f : SFits w64 (get_or a.nodes.now a.at (pos 0)) = search rules in
    row_without a.days.now a.at a.nodes.now (not_delayed a.days.now a.at a.nodes.now (no_key 76 f (sfits_lit tt) (search rules)) (no_key 87 f (sfits_lit tt) (search rules)))
