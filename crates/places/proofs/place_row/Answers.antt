use Prim.Native.Nat.{◌+◌}
use borrow.Author.Rules.{rules}
use lib.IntN.{pos}
use lib.ListN.{get_or}
use mathlib.Core.Path.{◌∙◌, ap₂, refl}
use mir.Facts.{sfits_lit, to_z-of_z}
use mir.Syntax.{w64}
use mir.Val.{SFits}
use Rattle.nodes.proofs.Signed.{key, no_key}
use Rattle.nodes.specs.Table.{nat_of}
use Rattle.places.proofs.RowPlaces.{fields_in, is_index_lem, not_index, row_left, row_placed}
use Rattle.places.specs.Place.{place_found}
use Rattle.places.proofs.place_row.Goals as goal

pub place_of-place-requires : goal.place_of-place-requires
place_of-place-requires c =
    let a = c.args in
    let f0 : SFits w64 (get_or a.nodes.now a.at (pos 0)) = search rules in
    let f1 : SFits w64 (get_or a.nodes.now (a.at + 1) (pos 0)) = search rules in
    let f2 : SFits w64 (get_or a.nodes.now (a.at + 2) (pos 0)) = search rules in
    let o = is_index_lem a.at a.nodes.now _ (key {n = 79} f0 (search rules)) refl in
    (c.requires.1, rw (to_z-of_z f1, to_z-of_z f2) (fields_in a.at a.nodes.now o c.requires.2))

pub returns-in-79 : goal.returns-in-79
returns-in-79 c =
    let a = c.args in
    let r = c.place_of-place in
    let f0 : SFits w64 (get_or a.nodes.now a.at (pos 0)) = search rules in
    let f1 : SFits w64 (get_or a.nodes.now (a.at + 1) (pos 0)) = search rules in
    let f2 : SFits w64 (get_or a.nodes.now (a.at + 2) (pos 0)) = search rules in
    let fr : SFits w64 r.result.0 = search rules in
    let o = is_index_lem a.at a.nodes.now _ (key {n = 79} f0 (search rules)) refl in
    let p = ap₂ (λ x y. place_found a.span.h a.span.f (nat_of x) y) (to_z-of_z f1) (to_z-of_z f2) in
    row_placed a.at a.nodes.now a.span.h a.span.f c.requires.0 o _ (to_z-of_z fr ∙ r.ensures ∙ p)

pub returns-in_default : goal.returns-in_default
returns-in_default c =
    let a = c.args in
    let f0 : SFits w64 (get_or a.nodes.now a.at (pos 0)) = search rules in
    row_left a.at a.nodes.now a.span.h a.span.f (not_index a.at a.nodes.now (no_key 79 f0 (sfits_lit tt) (search rules)))
