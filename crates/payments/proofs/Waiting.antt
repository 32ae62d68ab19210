-- A plan whose root goes on waiting: what it pays today, and its text for tomorrow.
use Prim.Native.Nat.{◌+◌, ◌-◌, ◌<◌, ◌≤◌, suc, zero, ℕ}
use lib.IntN.{pos, ℤ}
use lib.ListN.{length, length-append}
use lib.Seq.{drop_at}
use mathlib.Core.Bool.{cond, false}
use mathlib.Core.List.{List, [], ◌++◌, ◌∷◌}
use mathlib.Core.Path.{◌∙◌, ◌≡◌, ap, refl, sym}
use native.Mathlib.Omega.{arith}
use Rattle.language.proofs.Payments.Spans.{due, due_is}
use Rattle.language.specs.Payments.Amounts.{Lookup, holds}
use Rattle.language.specs.Payments.Pays.{Sign, pays}
use Rattle.language.specs.Payments.Step.{step}
use Rattle.language.specs.Rules.Settings.{closed, map_plan}
use Rattle.language.specs.Text.Classes.{a_number, print_delay, print_field}
use Rattle.language.specs.Text.Fields.{behind, join_with}
use Rattle.language.specs.Text.Letters.{plan_form, plan_row, row_of}
use Rattle.language.specs.Text.Number.{print_nat}
use Rattle.language.specs.Text.Plans.{plan_trees, print_plan}
use Rattle.language.specs.Text.Reader.{end, print_fields, print_text, print_trees}
use Rattle.language.specs.Text.Trees.{Plan, Test, later, within}
use Rattle.language.specs.Text.Typed.{test_tree}
use Rattle.payments.specs.Waits.{sooner}

-- ---- the text: a letter, a comma, the delay, and what stands behind it

abbrev waiting : ℕ → ℕ → List ℕ → List ℕ
waiting letter d r = letter ∷ 44 ∷ (print_nat d ++ r)

later_text : (d : ℕ) (x : Plan ℕ) → print_plan (closed (later d x)) ≡ waiting 76 d (behind 44 (print_trees plan_form (plan_trees (closed x) end) []))
unfolding print_plan print_text plan_trees print_trees print_fields print_field print_delay join_with behind map_plan row_of plan_row
later_text d x = refl

within_text : (d : ℕ) (t : Test ℤ) (x y : Plan ℕ) → print_plan (closed (within d t x y)) ≡ waiting 87 d (behind 44 (print_trees plan_form (test_tree a_number t (plan_trees (closed x) (plan_trees (closed y) end))) []))
unfolding print_plan print_text plan_trees print_trees print_fields print_field print_delay join_with behind map_plan row_of plan_row
within_text d t x y = refl

sooner_text : (letter d : ℕ) (r : List ℕ) → sooner d (waiting letter d r) ≡ waiting letter (d - 1) r
unfolding sooner
sooner_text letter d r = ap (λ b. letter ∷ 44 ∷ (print_nat (d - 1) ++ b)) (drop_at (letter ∷ 44 ∷ print_nat d) r (2 + length (print_nat d)) (omega arith))

long_enough : (letter d : ℕ) (r : List ℕ) → 2 + length (print_nat d) ≤ length (waiting letter d r)
long_enough letter d r = omega (arith, length-append (print_nat d) r)

-- ---- the step

module _ (idx : Lookup) (sg : Sign) (r : ℕ) where
  -- of a plan whose root waits d months
  pub record WaitsOn (y : Plan ℕ) (d : ℕ) : Type 0 where
    pub left : 0 < d
    pub long : 2 + length (print_nat d) ≤ length (print_plan (closed y))
    pub text : print_plan (closed (step idx r y)) ≡ sooner d (print_plan (closed y))
    pub paid : pays idx sg y r r ≡ pos 0

  step_later : (d : ℕ) (x : Plan ℕ) → 0 < d → step idx r (later d x) ≡ later (d - 1) x
  unfolding step
  step_later zero x e = absurd (omega arith)
  step_later (suc d) x e = let n : suc d - 1 ≡ d = omega arith in rw n refl

  step_within : (d : ℕ) (t : Test ℤ) (x y : Plan ℕ) → holds idx t r ≡ false → 0 < d → step idx r (within d t x y) ≡ within (d - 1) t x y
  unfolding step
  step_within zero t x y e z = absurd (omega arith)
  step_within (suc d) t x y e z = let n : suc d - 1 ≡ d = omega arith in rw (e, n) refl

  later_pays : (d : ℕ) (x : Plan ℕ) → 0 < d → pays idx sg (later d x) r r ≡ pos 0
  unfolding due
  later_pays zero x e = absurd (omega arith)
  later_pays (suc d) x e = sym (due_is idx sg (later (suc d) x) r)

  within_pays : (d : ℕ) (t : Test ℤ) (x y : Plan ℕ) → holds idx t r ≡ false → 0 < d → pays idx sg (within d t x y) r r ≡ pos 0
  unfolding due
  within_pays zero t x y h e = absurd (omega arith)
  within_pays (suc d) t x y h e = sym (ap (λ b. cond b (due idx sg x r) (pos 0)) (sym h) ∙ due_is idx sg (within (suc d) t x y) r)

  pub later_on : (d : ℕ) (x : Plan ℕ) → 0 < d → WaitsOn (later d x) d
  later_on d x h =
      let b = behind 44 (print_trees plan_form (plan_trees (closed x) end) []) in
      record {
        left = h;
        long = rw (later_text d x) (long_enough 76 d b);
        text = ap (λ y. print_plan (closed y)) (step_later d x h) ∙ later_text (d - 1) x ∙ sym (sooner_text 76 d b) ∙ ap (sooner d) (sym (later_text d x));
        paid = later_pays d x h;
      }

  pub within_on : (d : ℕ) (t : Test ℤ) (x y : Plan ℕ) → holds idx t r ≡ false → 0 < d → WaitsOn (within d t x y) d
  within_on d t x y e h =
      let b = behind 44 (print_trees plan_form (test_tree a_number t (plan_trees (closed x) (plan_trees (closed y) end))) []) in
      record {
        left = h;
        long = rw (within_text d t x y) (long_enough 87 d b);
        text = ap (λ z. print_plan (closed z)) (step_within d t x y e h) ∙ within_text (d - 1) t x y ∙ sym (sooner_text 87 d b) ∙ ap (sooner d) (sym (within_text d t x y));
        paid = within_pays d t x y e h;
      }
