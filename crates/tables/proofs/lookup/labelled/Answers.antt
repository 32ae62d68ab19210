use Rattle.std.proofs.Common.{length, sym, ap, ◌∙◌, subst, rules}
use Rattle.tables.proofs.Lookups.{place_inside, place_standing}
use Rattle.tables.specs.Lookup.{Inside, standing}
use Rattle.tables.proofs.lookup.labelled.Goals as goal

pub find_place-requires : goal.find_place-requires
find_place-requires c = (c.requires.0.span, c.requires.0.labels, c.requires.1)

pub lookup-requires : goal.lookup-requires
lookup-requires c =
    let a = c.args in
    subst (Inside (length a.values.now)) (sym c.find_place.ensures) (place_inside a.span.h a.span.f a.bounds.now a.values.now c.requires.0 a.label a.month.0)

pub returns : goal.returns
returns c =
    let a = c.args in
    c.lookup.ensures ∙ ap (standing a.values.now) c.find_place.ensures ∙ place_standing a.span.h a.span.f a.bounds.now a.values.now c.requires.0 a.label a.month.0
