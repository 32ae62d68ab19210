use lib.ListN.{drop, length}
use mathlib.Core.Path.{◌≡◌, ap, subst}
use mir.Syntax.{w64}
use mir.ValLaws.{to_z-of_z}
use native.Mathlib.Omega.{arith}
use Rattle.fields.proofs.Positions.{up_fits}
use Rattle.fields.specs.Fields.{SlotsAre}
use Rattle.fields.specs.Positions.{up_to}
use Rattle.text.specs.Letters.{form_of}
use Rattle.text.specs.Trees.{SoleIs}
use Rattle.text.proofs.OpenLaws.{open_bad, open_behind, open_deep, open_done, open_full, open_kind, open_other, open_unknown, positive_level}
use Rattle.integers.proofs.Passed.{handed_up}
use Rattle.std.proofs.Common.{None, Some}
use Rattle.text.specs.declared.Refusal.TheVariants.{NotOfForm}
use Rattle.text.proofs.trees.open_any.Goals as goal

pub returns-then-text-at : goal.returns-then-text-at
returns-then-text-at c =
    let a = c.args in
    let t = a.text.now in
    open_behind (form_of a.form) a.left a.kind t a.at a.count c.if-text-at.true

pub returns-in_err-letter : goal.returns-in_err-letter
returns-in_err-letter c =
    let a = c.args in
    let none : c.letter_at.result ≡ None = grind arith in
    let e : c.in_err-letter.field-0.0 ≡ NotOfForm = grind arith in
    rw (handed_up _ c.from_residual.ensures.1, e) (open_other (form_of a.form) a.left a.kind a.text.now a.at a.count c.if-text-at.false (subst (SoleIs _) none c.letter_at.ensures))

pub returns-then-s-eq-NONE : goal.returns-then-s-eq-NONE
returns-then-s-eq-NONE c =
    let a = c.args in
    let t = a.text.now in
    let there : c.letter_at.result ≡ Some c.in_ok-letter.letter = grind arith in
    let one = subst (SoleIs _) there c.letter_at.ensures in
    open_unknown (form_of a.form) a.left a.kind t a.at a.count c.if-text-at.false
    c.in_ok-letter.letter c.shape_of-s.result one c.shape_of-s.ensures
    c.if-s-eq-NONE.true

pub returns-then-s-kind : goal.returns-then-s-kind
returns-then-s-kind c =
    let a = c.args in
    let t = a.text.now in
    let there : c.letter_at.result ≡ Some c.in_ok-letter.letter = grind arith in
    let one = subst (SoleIs _) there c.letter_at.ensures in
    open_kind (form_of a.form) a.left a.kind t a.at a.count
    c.if-text-at.false
    c.in_ok-letter.letter c.shape_of-s.result one
    c.shape_of-s.ensures c.if-s-eq-NONE.false
    c.requires.1
    c.requires.2 c.if-s-kind.true

pub returns-then-count-ge-MAX_NODES : goal.returns-then-count-ge-MAX_NODES
returns-then-count-ge-MAX_NODES c =
    let a = c.args in
    let t = a.text.now in
    let there : c.letter_at.result ≡ Some c.in_ok-letter.letter = grind arith in
    let one = subst (SoleIs _) there c.letter_at.ensures in
    open_full (form_of a.form) a.left a.kind t a.at a.count
    c.if-text-at.false
    c.in_ok-letter.letter c.shape_of-s.result
    one c.shape_of-s.ensures c.if-s-eq-NONE.false c.if-s-kind.false c.if-count-ge-MAX_NODES.true

pub returns-then-left-eq0 : goal.returns-then-left-eq0
returns-then-left-eq0 c =
    let a = c.args in
    let t = a.text.now in
    let there : c.letter_at.result ≡ Some c.in_ok-letter.letter = grind arith in
    let one = subst (SoleIs _) there c.letter_at.ensures in
    open_deep (form_of a.form) a.left a.kind t a.at a.count
    c.if-text-at.false
    c.in_ok-letter.letter
    c.shape_of-s.result one c.shape_of-s.ensures
    c.if-s-eq-NONE.false c.if-s-kind.false c.if-count-ge-MAX_NODES.false c.if-left-eq0.true

pub read_fields-requires : goal.read_fields-requires
read_fields-requires c =
    let a = c.args in
    let t = a.text.now in
    let there : c.letter_at.result ≡ Some c.in_ok-letter.letter = grind arith in
    let one = subst (SoleIs _) there c.letter_at.ensures in
    let k : length (up_to 44 (drop a.at t)) ≡ 1 = ap length one in
    omega (
      arith,
      up_fits 44 t a.at
          c.if-text-at.false,
    )

pub returns-in_err-f : goal.returns-in_err-f
returns-in_err-f c =
    let a = c.args in
    let t = a.text.now in
    let there : c.letter_at.result ≡ Some c.in_ok-letter.letter = grind arith in
    let one = subst (SoleIs _) there c.letter_at.ensures in
    let none : c.read_fields.result ≡ None = grind arith in
    let e : c.in_err-f.field-0.0 ≡ NotOfForm = grind arith in
    rw (handed_up _ c.from_residual-in_err-f.ensures.1, e) (open_bad (form_of a.form) a.left a.kind t a.at a.count
    c.if-text-at.false
    c.in_ok-letter.letter
    c.shape_of-s.result one
    c.shape_of-s.ensures
    c.if-s-eq-NONE.false
    c.if-s-kind.false c.if-count-ge-MAX_NODES.false
    (positive_level a.left c.if-left-eq0.false) (subst (SlotsAre _ _ _) none
    c.read_fields.ensures))

pub returns : goal.returns
returns c =
    let a = c.args in
    let t = a.text.now in
    let read : c.read_fields.result ≡ Some c.in_ok-f.f = grind arith in
    let there : c.letter_at.result ≡ Some c.in_ok-letter.letter = grind arith in
    let one = subst (SoleIs _) there c.letter_at.ensures in
    open_done (form_of a.form) a.left a.kind t a.at a.count
    c.if-text-at.false
    c.in_ok-letter.letter
    c.shape_of-s.result one
    c.shape_of-s.ensures
    c.if-s-eq-NONE.false
    c.if-s-kind.false
    c.if-count-ge-MAX_NODES.false (positive_level a.left
    c.if-left-eq0.false) _ _ _ _ _ _ _ _ _ (subst (SlotsAre _ _ _) read
    c.read_fields.ensures) (to_z-of_z w64 c.in_ok-f.f.a (record {
      sfits = omega arith;
    })) (to_z-of_z w64 c.in_ok-f.f.b (record { sfits = omega arith })) (to_z-of_z w64
    c.in_ok-f.f.c (record { sfits = omega arith })) (to_z-of_z w64 c.in_ok-f.f.d
    (record { sfits = omega arith }))
