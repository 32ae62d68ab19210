use native.Mathlib.Omega.{arith}
use lib.IntN.{pos}
use lib.ListN.{get_or}
use mathlib.Core.Path.{refl}
use mir.Facts.{sfits_lit}
use mir.Syntax.{w64}
use mir.Val.{SFits}
use Rattle.nodes.proofs.Signed.{key, no_key}
use Rattle.settling.proofs.RowSettles as rows
use borrow.Author.Rules.{rules}
use Rattle.settling.proofs.settle_row.Goals as goal

pub settle_month-requires : goal.settle_month-requires
settle_month-requires c =
    let a = c.args in
    let f : SFits w64 (get_or a.nodes.now a.at (pos 0)) = search rules in
    (omega (arith, c.requires.0), c.requires.1, rows.index_in a.days.now a.at a.nodes.now _ (key {n = 79} f (search rules)) refl c.requires.2)

pub settle_month-requires-in-70 : goal.settle_month-requires-in-70
settle_month-requires-in-70 c =
    let a = c.args in
    let f : SFits w64 (get_or a.nodes.now a.at (pos 0)) = search rules in
    (omega (arith, c.requires.0), c.requires.1, rows.leaf_in a.days.now a.at a.nodes.now _ (key {n = 70} f (search rules)) refl refl c.requires.2)

pub settle_month-requires-in-72 : goal.settle_month-requires-in-72
settle_month-requires-in-72 c =
    let a = c.args in
    let f : SFits w64 (get_or a.nodes.now a.at (pos 0)) = search rules in
    (omega (arith, c.requires.0), c.requires.1, rows.leaf_in a.days.now a.at a.nodes.now _ (key {n = 72} f (search rules)) refl refl c.requires.2)

pub returns-in-79 : goal.returns-in-79
returns-in-79 c =
    let a = c.args in
    let f : SFits w64 (get_or a.nodes.now a.at (pos 0)) = search rules in
    rows.index_row a.days.now a.at a.nodes.now _ (key {n = 79} f (search rules)) refl c.requires.0 c.settle_month.new.nodes c.settle_month.result c.settle_month.ensures

pub returns-in-70 : goal.returns-in-70
returns-in-70 c =
    let a = c.args in
    let f : SFits w64 (get_or a.nodes.now a.at (pos 0)) = search rules in
    rows.leaf_row a.days.now a.at a.nodes.now _ (key {n = 70} f (search rules)) refl refl c.requires.0 c.settle_month-in-70.new.nodes c.settle_month-in-70.result c.settle_month-in-70.ensures

pub returns-in-72 : goal.returns-in-72
returns-in-72 c =
    let a = c.args in
    let f : SFits w64 (get_or a.nodes.now a.at (pos 0)) = search rules in
    rows.leaf_row a.days.now a.at a.nodes.now _ (key {n = 72} f (search rules)) refl refl c.requires.0 c.settle_month-in-72.new.nodes c.settle_month-in-72.result c.settle_month-in-72.ensures

pub returns-in-87 : goal.returns-in-87
returns-in-87 c =
    let a = c.args in
    let f : SFits w64 (get_or a.nodes.now a.at (pos 0)) = search rules in
    rows.await_row a.days.now a.at a.nodes.now _ (key {n = 87} f (search rules)) refl refl refl c.requires.0 c.fill_slot.new.nodes c.fill_slot.result c.fill_slot.ensures

pub returns-in_default : goal.returns-in_default
returns-in_default c =
    let a = c.args in
    let f : SFits w64 (get_or a.nodes.now a.at (pos 0)) = search rules in
    rows.other_row a.days.now a.at a.nodes.now _ refl (no_key 79 f (sfits_lit tt) (search rules)) (rw (no_key 70 f (sfits_lit tt) (search rules), no_key 72 f (sfits_lit tt) (search rules)) refl) (no_key 87 f (sfits_lit tt) (search rules))
