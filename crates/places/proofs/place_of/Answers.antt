use Rattle.places.proofs.Ranges.{first_held, label_held, months_held, place_held, place_made, width_held}
use Rattle.places.proofs.place_of.Goals as goal

pub overflow_add-result : goal.overflow_add-result
overflow_add-result c =
    months_held c.args.span.h c.args.span.f c.args.index.label c.args.index.offset c.requires.0 c.requires.1

pub overflow_add-result-2 : goal.overflow_add-result-2
overflow_add-result-2 c =
    width_held c.args.span.h c.args.span.f c.args.index.label c.args.index.offset c.requires.0 c.requires.1

pub overflow_mul-result : goal.overflow_mul-result
overflow_mul-result c =
    label_held c.args.span.h c.args.span.f c.args.index.label c.args.index.offset c.requires.0 c.requires.1

pub overflow_add-result-3 : goal.overflow_add-result-3
overflow_add-result-3 c =
    first_held c.args.span.h c.args.span.f c.args.index.label c.args.index.offset c.requires.0 c.requires.1

pub overflow_add-result-4 : goal.overflow_add-result-4
overflow_add-result-4 c =
    place_held c.args.span.h c.args.span.f c.args.index.label c.args.index.offset c.requires.0 c.requires.1

pub returns : goal.returns
returns c =
    place_made c.args.span.h c.args.span.f c.args.index.label c.args.index.offset c.requires.0 c.requires.1
