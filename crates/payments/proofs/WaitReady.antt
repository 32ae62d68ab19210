-- A plan that stands in the placed table and whose root goes on waiting there.
use Prim.Native.Nat.{◌≤◌, ℕ}
use lib.IntN.{nat_abs, pos, ℤ}
use lib.Signed.{le_z}
use mathlib.Core.Bool.{Bool, false, not, true, true≢false}
use mathlib.Core.List.{List}
use mathlib.Core.Path.{◌∙◌, ◌≡◌, ap, refl, subst, sym}
use Rattle.amounts.specs.Flat.{flat}
use Rattle.copies.proofs.PlanLetters.{Is}
use Rattle.language.proofs.Truth.{and_e}
use Rattle.language.specs.Calls.{lookup_of}
use Rattle.language.specs.Limits.{max_months, max_nodes}
use Rattle.language.specs.Payments.Amounts.{holds}
use Rattle.language.specs.Payments.Pays.{Sign}
use Rattle.nodes.specs.Found.{offset_of, test_at}
use Rattle.nodes.specs.Letters.{letter_of_plan}
use Rattle.nodes.specs.Table.{nat_of, slot_at}
use Rattle.nodes.specs.declared.PlanLetter.TheVariants as letter
use Rattle.nodes.specs.declared.PlanLetter.{PlanLetter}
use Rattle.payments.proofs.Waiting.{WaitsOn, later_on, within_on}
use Rattle.payments.specs.Waits.{RootTest, waits_at_root, waits_by}
use Rattle.steps.proofs.StepReady.{by_letter, later_row, later_waits, tested, within_row, within_waits}
use Rattle.steps.specs.Ready.{Ready}
use Rattle.tables.specs.Lookup.{read_table}
use Rattle.writer.specs.Written.{slot}

pub not_true : (b : Bool) → not b ≡ true → b ≡ false
not_true true e = absurd (true≢false (sym e))
not_true false e = refl

module _ {h f : ℤ} {bounds values : List ℤ} {r : ℕ} {nodes : List ℤ} {to : ℕ} (y : Ready h f bounds values r nodes 0 to 32) (early : r ≤ max_months) where
  pub root_test : RootTest values r nodes
  root_test e = let t = tested y (by_letter y refl e) early in (t.0, t.1)

  module _ (sg : Sign) where
    abbrev On : ℕ → Type 0
    On d = WaitsOn (lookup_of (read_table h f bounds values)) sg r y.plan d

    delay_is : {d : ℕ} → slot_at nodes 0 1 ≡ pos d → d ≡ nat_abs (slot nodes 1)
    unfolding slot_at
    delay_is e = ap nat_abs (sym e)

    by_letters : (l : PlanLetter) → letter_of_plan (slot_at nodes 0 0) ≡ l → le_z (pos (nat_of (slot_at nodes 0 1))) (pos 0) ≡ false → waits_by l (holds (flat values) (test_at offset_of max_nodes nodes 1) r) ≡ true → On (nat_abs (slot nodes 1))
    unfolding waits_by
    by_letters letter.Nothing e d w = absurd (true≢false (sym w))
    by_letters letter.Transfer e d w = absurd (true≢false (sym w))
    by_letters letter.Scale e d w = absurd (true≢false (sym w))
    by_letters letter.Later e d w =
        let i : Is letter.Later y.plan = by_letter y refl e in
        subst On (delay_is (later_row y i).1) (subst (λ x. WaitsOn (lookup_of (read_table h f bounds values)) sg r x i.0) (sym i.2) (later_on (lookup_of (read_table h f bounds values)) sg r i.0 i.1 (later_waits y i refl d)))
    by_letters letter.Both e d w = absurd (true≢false (sym w))
    by_letters letter.Within e d w =
        let i : Is letter.Within y.plan = by_letter y refl e in
        let t : holds (lookup_of (read_table h f bounds values)) i.1 r ≡ false = sym (tested y i early).2 ∙ not_true _ w in
        subst On (delay_is (within_row y i).1)
        (subst (λ x. WaitsOn (lookup_of (read_table h f bounds values)) sg r x i.0) (sym i.4) (within_on (lookup_of (read_table h f bounds values)) sg r i.0 i.1 i.2 i.3 t (within_waits y i refl d)))
    by_letters letter.NoPlan e d w = absurd (true≢false (sym w))

    pub waits_on : waits_at_root values r nodes ≡ true → On (nat_abs (slot nodes 1))
    unfolding waits_at_root
    waits_on e =
        let b = le_z (pos (nat_of (slot_at nodes 0 1))) (pos 0) in
        let k = and_e (not b) (waits_by (letter_of_plan (slot_at nodes 0 0)) (holds (flat values) (test_at offset_of max_nodes nodes 1) r)) e in
        by_letters (letter_of_plan (slot_at nodes 0 0)) refl (not_true b k.0) k.1
