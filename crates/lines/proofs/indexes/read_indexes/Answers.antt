use Prim.Native.Nat.{◌+◌, ◌-◌, ◌<◌, ◌≤◌}
use borrow.Author.Rules.{rules}
use lib.ListN.{drop, length, take}
use mathlib.Core.Path.{◌∙◌, ◌≡◌, ap, subst, sym}
use mir.Facts.{to_z-of_z}
use mir.Syntax.{w64}
use mir.Val.{SFits}
use native.Mathlib.Omega.{arith}
use Rattle.lines.proofs.IndexLists.{Indexed, indexed_full, indexed_kept, indexed_over, indexed_refused, indexed_start}
use Rattle.lines.proofs.LineParts.{line_bytes, line_inside, line_is, line_short}
use Rattle.lines.specs.Indexes.{IndexIs}
use Rattle.lines.proofs.indexes.read_indexes.Goals as goal
use Rattle.lines.proofs.indexes.read_indexes.Goals.{then-labels-bounds, else-labels-bounds}

pub loop-place-init : goal.loop-place-init
loop-place-init c = indexed_start c.requires.0

pub line_end-end-requires : goal.line_end-end-requires
line_end-end-requires c = omega (arith, c.loop-place-test.true)

pub slice_bounds-read_index-count : goal.slice_bounds-read_index-count
slice_bounds-read_index-count c =
    let l = c.loop-place in
    let i : l.place ≤ length c.args.input.now = omega (arith, c.loop-place-test.true) in
    omega (arith, c.line_end-end.ensures)

pub slice_bounds-read_index-end : goal.slice_bounds-read_index-end
slice_bounds-read_index-end c =
    let l = c.loop-place in
    let i : l.place ≤ length c.args.input.now = omega (arith, c.loop-place-test.true) in
    let b = line_inside c.args.input.now l.place i c.line_end-end.ensures in
    search rules

pub read_index-index-requires : goal.read_index-index-requires
read_index-index-requires c =
    let l = c.loop-place in
    let i : l.place ≤ length c.args.input.now = omega (arith, c.loop-place-test.true) in
    (omega (arith, line_short c.args.input.now l.place i c.line_end-end.ensures, c.requires.1), omega (arith, l.invariant.few, l.invariant.inside, c.requires.1), omega (arith, l.invariant.fewer, l.invariant.inside, c.requires.1))

pub offset_bounds-bounds-labels : goal.offset_bounds-bounds-labels
offset_bounds-bounds-labels c =
    let l = c.loop-place in
    let i : l.place ≤ length c.args.input.now = omega (arith, c.loop-place-test.true) in
    let h : l.labels < length l.bounds = c.if-labels-bounds.true in
    search rules

pub bounds-bounds-labels : goal.bounds-bounds-labels
bounds-bounds-labels c = c.if-labels-bounds.true

pub overflow_add-labels : goal.overflow_add-labels
overflow_add-labels c =
    let l = c.loop-place in
    let i : l.place ≤ length c.args.input.now = omega (arith, c.loop-place-test.true) in
    record { fits = omega (arith, l.invariant.few, l.invariant.inside, c.requires.1) }

pub overflow_add-stored : goal.overflow_add-stored
overflow_add-stored c =
    let l = c.loop-place in
    let i : l.place ≤ length c.args.input.now = omega (arith, c.loop-place-test.true) in
    let k = line_is c.args.input.now l.place i c.line_end-end.ensures c.loop-place-test.true in
    let x = subst (IndexIs (take (c.line_end-end.result - l.place) (drop l.place c.args.input.now)) l.labels c.args.months.0 l.values c.read_index-index.new.values l.stored) c.in-Some.is c.read_index-index.ensures in
    let z : length c.read_index-index.new.values ≡ length l.values = search rules in
    let f : l.place + length (take (c.line_end-end.result - l.place) (drop l.place c.args.input.now)) < c.line_end-end.result + 1 = omega (arith, ap length (line_bytes c.args.input.now l.place i c.line_end-end.ensures), c.line_end-end.ensures) in
    record { fits = omega (arith, l.invariant.fewer, x.bounded, f, line_inside c.args.input.now l.place i c.line_end-end.ensures, c.requires.1) }

pub overflow_add-place : goal.overflow_add-place
overflow_add-place c =
    let l = c.loop-place in
    let i : l.place ≤ length c.args.input.now = omega (arith, c.loop-place-test.true) in
    record { fits = omega (arith, line_inside c.args.input.now l.place i c.line_end-end.ensures, c.requires.1) }

pub loop-place-smaller : goal.loop-place-smaller
loop-place-smaller c =
    let l = c.loop-place in
    let i : l.place ≤ length c.args.input.now = omega (arith, c.loop-place-test.true) in
    omega (arith, c.line_end-end.ensures, line_inside c.args.input.now l.place i c.line_end-end.ensures)

pub loop-place-preserved : goal.loop-place-preserved
loop-place-preserved c =
    let l = c.loop-place in
    let i : l.place ≤ length c.args.input.now = omega (arith, c.loop-place-test.true) in
    let k = line_is c.args.input.now l.place i c.line_end-end.ensures c.loop-place-test.true in
    let x = subst (IndexIs (take (c.line_end-end.result - l.place) (drop l.place c.args.input.now)) l.labels c.args.months.0 l.values c.read_index-index.new.values l.stored) c.in-Some.is c.read_index-index.ensures in
    let z : length c.read_index-index.new.values ≡ length l.values = search rules in
    let f : l.place + length (take (c.line_end-end.result - l.place) (drop l.place c.args.input.now)) < c.line_end-end.result + 1 = omega (arith, ap length (line_bytes c.args.input.now l.place i c.line_end-end.ensures), c.line_end-end.ensures) in
    let g : SFits w64 c.in-Some.index.bound = search rules in
    elim c.if-labels-bounds.branch [
      | then-labels-bounds w ↦ subst (λ b. Indexed c.args.input.now c.args.at c.args.months.0 c.args.bounds.now c.args.values.now b c.read_index-index.new.values (c.line_end-end.result + 1) (l.labels + 1) (l.stored + c.in-Some.index.count)) (sym w.bounds-is) (indexed_kept l.invariant k x z f (to_z-of_z g) w.if-labels-bounds.true)
      | else-labels-bounds w ↦ subst (λ b. Indexed c.args.input.now c.args.at c.args.months.0 c.args.bounds.now c.args.values.now b c.read_index-index.new.values (c.line_end-end.result + 1) (l.labels + 1) (l.stored + c.in-Some.index.count)) (sym w.bounds-is) (indexed_full l.invariant k x z f (omega (arith, w.if-labels-bounds.false)))
    ]

pub shape_of-bounds-in-None : goal.shape_of-bounds-in-None
shape_of-bounds-in-None c = c.loop-place.invariant.size_b

pub shape_of-values-in-None : goal.shape_of-values-in-None
shape_of-values-in-None c =
    let z : length c.read_index-index.new.values ≡ length c.loop-place.values = search rules in
    z ∙ c.loop-place.invariant.size_v

pub returns-in-None : goal.returns-in-None
returns-in-None c =
    let l = c.loop-place in
    let i : l.place ≤ length c.args.input.now = omega (arith, c.loop-place-test.true) in
    let k = line_is c.args.input.now l.place i c.line_end-end.ensures c.loop-place-test.true in
    indexed_refused l.invariant k (subst (IndexIs (take (c.line_end-end.result - l.place) (drop l.place c.args.input.now)) l.labels c.args.months.0 l.values c.read_index-index.new.values l.stored) c.in-None.is c.read_index-index.ensures)

pub shape_of-bounds : goal.shape_of-bounds
shape_of-bounds c = c.loop-place.invariant.size_b

pub shape_of-values : goal.shape_of-values
shape_of-values c = c.loop-place.invariant.size_v

pub returns : goal.returns
returns c = indexed_over c.loop-place.invariant (omega (arith, c.loop-place-test.false))
