use mathlib.Core.Path.{◌∙◌, refl, subst, sym}
use native.Mathlib.Omega.{arith}
use mathlib.Core.List.{[]}
use Rattle.integers.proofs.Passed.{handed_up}
use Rattle.text.proofs.LetterCounts.{capitals}
use Rattle.text.specs.Letters.{form_of, kind_at}
use Rattle.text.specs.Rows.{RowIs}
use Rattle.text.proofs.WholeLaws.{Ready, opening_first, opening_next, leaf_finished, leaf_own, leaf_places, places_left, ready_as, ready_last, ready_more, ready_one, ready_third, row_fits, row_room, shut}
use Rattle.text.proofs.whole.read_rows.Goals as goal
use Rattle.text.proofs.whole.read_rows.Goals.{Joined-kind-eq-NONE, then-kind-eq-NONE+else-waiting-eq0+then-entry-lt4, then-kind-eq-NONE+else-waiting-eq0+else-entry-lt4, else-kind-eq-NONE, then-opened-ne-NONE, else-opened-ne-NONE}

pub loop-count-init : goal.loop-count-init
loop-count-init c =
    let a = c.args in
    let row = subst (RowIs (form_of a.form) 32 (kind_at 1) a.text.now 0 a.nodes.now c.open_general.new.nodes 0) (sym c.row_of.ensures ∙ c.in_ok-opened.was) c.open_general.ensures in
    (refl, refl, opening_first (form_of a.form) a.text.now _ _ _ _ c.requires.1 (capitals a.form) row)

pub returns-in_err-opened-clause-is : goal.returns-in_err-opened-clause-is
returns-in_err-opened-clause-is c =
    let a = c.args in
    let row = subst (RowIs (form_of a.form) 32 (kind_at 1) a.text.now 0 a.nodes.now c.open_general.new.nodes 0) (sym c.row_of.ensures ∙ c.in_err-opened.was) c.open_general.ensures in
    rw (handed_up _ c.from_residual.ensures.1) (shut (form_of a.form) a.text.now c.open_general.new.nodes [] _ _ _ _ (opening_first (form_of a.form) a.text.now _ _ _ _ c.requires.1 (capitals a.form) row))

pub returns-then-waiting-eq0-clause-is : goal.returns-then-waiting-eq0-clause-is
returns-then-waiting-eq0-clause-is c =
    let a = c.args in
    let l = c.loop-count in
    leaf_finished (form_of a.form) a.text.now l.nodes l.stack l.waiting l.count l.left l.opened.next l.opened.kids l.invariant.2 c.if-kind-eq-NONE.true c.if-waiting-eq0.true

pub offset_bounds-stack-waiting : goal.offset_bounds-stack-waiting
offset_bounds-stack-waiting c =
    let a = c.args in
    let l = c.loop-count in
    let o = l.invariant.2 in
    omega (arith, (leaf_places (form_of a.form) a.text.now l.nodes l.stack l.waiting l.count l.left l.opened.next l.opened.kids o c.if-kind-eq-NONE.true c.if-waiting-eq0.false))

pub bounds-stack-waiting : goal.bounds-stack-waiting
bounds-stack-waiting c =
    let a = c.args in
    let l = c.loop-count in
    let o = l.invariant.2 in
    omega (arith, (leaf_places (form_of a.form) a.text.now l.nodes l.stack l.waiting l.count l.left l.opened.next l.opened.kids o c.if-kind-eq-NONE.true c.if-waiting-eq0.false), c.if-waiting-eq0.false)

pub put_link-requires : goal.put_link-requires
put_link-requires c =
    let a = c.args in
    let l = c.loop-count in
    let o = l.invariant.2 in
    let own = (leaf_own (form_of a.form) a.text.now l.nodes l.stack l.waiting l.count l.left l.opened.next l.opened.kids o c.if-kind-eq-NONE.true c.if-waiting-eq0.false) in
    let room = row_room (form_of a.form) a.text.now l.nodes l.stack l.waiting l.count l.left l.opened.next l.opened.kids o in
    let fits = row_fits (form_of a.form) a.text.now l.nodes l.stack l.waiting l.count l.left l.opened.next l.opened.kids o in
    (omega (arith, own, fits), omega arith, omega (arith, own), omega (arith, room))

pub overflow_add-stack : goal.overflow_add-stack
overflow_add-stack c =
    let a = c.args in
    let l = c.loop-count in
    let o = l.invariant.2 in
    omega (arith, (leaf_own (form_of a.form) a.text.now l.nodes l.stack l.waiting l.count l.left l.opened.next l.opened.kids o c.if-kind-eq-NONE.true c.if-waiting-eq0.false), row_room (form_of a.form) a.text.now l.nodes l.stack l.waiting l.count l.left l.opened.next l.opened.kids o)

pub overflow_add-stack-else-entry-lt4 : goal.overflow_add-stack-else-entry-lt4
overflow_add-stack-else-entry-lt4 c =
    let a = c.args in
    let l = c.loop-count in
    let o = l.invariant.2 in
    omega (arith, (leaf_own (form_of a.form) a.text.now l.nodes l.stack l.waiting l.count l.left l.opened.next l.opened.kids o c.if-kind-eq-NONE.true c.if-waiting-eq0.false), row_room (form_of a.form) a.text.now l.nodes l.stack l.waiting l.count l.left l.opened.next l.opened.kids o)

pub offset_bounds-stack-waiting-then-opened-ne-NONE : goal.offset_bounds-stack-waiting-then-opened-ne-NONE
offset_bounds-stack-waiting-then-opened-ne-NONE c =
    let a = c.args in
    let l = c.loop-count in
    let o = l.invariant.2 in
    omega (arith, places_left (form_of a.form) a.text.now l.nodes l.stack l.waiting l.count l.left l.opened.next l.opened.kids o)

pub bounds-stack-waiting-then-opened-ne-NONE : goal.bounds-stack-waiting-then-opened-ne-NONE
bounds-stack-waiting-then-opened-ne-NONE c =
    let a = c.args in
    let l = c.loop-count in
    let o = l.invariant.2 in
    places_left (form_of a.form) a.text.now l.nodes l.stack l.waiting l.count l.left l.opened.next l.opened.kids o

pub overflow_add-waiting : goal.overflow_add-waiting
overflow_add-waiting c =
    let a = c.args in
    let l = c.loop-count in
    let o = l.invariant.2 in
    omega (arith, places_left (form_of a.form) a.text.now l.nodes l.stack l.waiting l.count l.left l.opened.next l.opened.kids o)

ready : (c : Joined-kind-eq-NONE)
    → Ready (form_of c.args.form) c.args.text.now c.if-kind-eq-NONE.nodes c.if-kind-eq-NONE.stack c.loop-count.opened.next c.if-kind-eq-NONE.kind c.if-kind-eq-NONE.count c.if-kind-eq-NONE.left c.if-kind-eq-NONE.waiting
ready c =
    let a = c.args in
    let l = c.loop-count in
    let o = l.invariant.2 in
    elim c.if-kind-eq-NONE.branch [
      | then-kind-eq-NONE+else-waiting-eq0+then-entry-lt4 w ↦ ready_as (form_of a.form) a.text.now _ _ _ _ _ _ _ _ _ _ _ _ _
          (ready_last (form_of a.form) a.text.now l.nodes l.stack l.waiting l.count l.left l.opened.next l.opened.kids o w.if-kind-eq-NONE.true w.if-waiting-eq0.false _ w.put_link.ensures l.invariant.1 w.if-entry-lt4.true) w.nodes-is w.stack-is w.waiting-is w.count-is w.left-is w.kind-is
      | then-kind-eq-NONE+else-waiting-eq0+else-entry-lt4 w ↦ ready_as (form_of a.form) a.text.now _ _ _ _ _ _ _ _ _ _ _ _ _
          (ready_third (form_of a.form) a.text.now l.nodes l.stack l.waiting l.count l.left l.opened.next l.opened.kids o w.if-kind-eq-NONE.true w.if-waiting-eq0.false _ w.put_link.ensures l.invariant.1 (λ e. omega (arith, e, w.if-entry-lt4.false)) _ refl) w.nodes-is w.stack-is w.waiting-is w.count-is w.left-is w.kind-is
      | else-kind-eq-NONE w ↦ elim w.if-opened-ne-NONE.branch [
        | then-opened-ne-NONE v ↦ ready_as (form_of a.form) a.text.now _ _ _ _ _ _ _ _ _ _ _ _ _
            (ready_more (form_of a.form) a.text.now l.nodes l.stack l.waiting l.count l.left l.opened.next l.opened.kids o w.if-kind-eq-NONE.false v.if-opened-ne-NONE.true l.invariant.1 _ v.waiting_for.ensures) w.nodes-is (w.stack-is ∙ v.stack-is) (w.waiting-is ∙ v.waiting-is) w.count-is w.left-is w.kind-is
        | else-opened-ne-NONE v ↦ ready_as (form_of a.form) a.text.now _ _ _ _ _ _ _ _ _ _ _ _ _
            (ready_one (form_of a.form) a.text.now l.nodes l.stack l.waiting l.count l.left l.opened.next l.opened.kids o w.if-kind-eq-NONE.false v.if-opened-ne-NONE.false l.invariant.1) w.nodes-is (w.stack-is ∙ v.stack-is) (w.waiting-is ∙ v.waiting-is) w.count-is w.left-is w.kind-is
      ]
    ]

pub open_row-requires : goal.open_row-requires
open_row-requires c =
    let r = ready (goal.at.open_row-requires c).Joined-kind-eq-NONE in
    (r.within, c.requires.0, r.size, r.paced, r.some_kind, r.few_kinds)

pub loop-count-preserved : goal.loop-count-preserved
loop-count-preserved c =
    let a = c.args in
    let r = ready (goal.at.loop-count-preserved c).Joined-kind-eq-NONE in
    (c.open_row.auto.nodes ∙ c.if-kind-eq-NONE.auto.nodes ∙ c.loop-count.invariant.0, r.places, opening_next (form_of a.form) a.text.now _ _ _ _ _ _ _ _ _ r c.in_ok-opened-2.ensures)

pub returns-in_err-opened-2-clause-is : goal.returns-in_err-opened-2-clause-is
returns-in_err-opened-2-clause-is c =
    let a = c.args in
    let r = ready (goal.at.returns-in_err-opened-2-clause-is c).Joined-kind-eq-NONE in
    rw (handed_up _ c.from_residual-in_err-opened-2.ensures.1) (shut (form_of a.form) a.text.now c.open_row.new.nodes _ _ _ _ _ (opening_next (form_of a.form) a.text.now _ _ _ _ _ _ _ _ _ r c.in_err-opened-2.ensures))
