-- What the letter of a row tells of the plan that lies there.
use Prim.Native.Nat.{◌<◌, ℕ}
use lib.IntN.{pos, ℤ}
use mathlib.Core.List.{List, [], ◌∷◌}
use mathlib.Core.Path.{◌≡◌, refl}
use native.Mathlib.Omega.{arith}
use Rattle.copies.proofs.LyingParts.{laid}
use Rattle.copies.specs.Lies.{Lies}
use Rattle.language.specs.Text.Classes.{a_delay, a_number}
use Rattle.language.specs.Text.Form.{depth_of}
use Rattle.language.specs.Text.Letters as text
use Rattle.language.specs.Text.Letters.{of_root, plan_form, plan_row, row_of}
use Rattle.language.specs.Text.Plans.{plan_trees}
use Rattle.language.specs.Text.Reader.{end}
use Rattle.language.specs.Text.Trees.{Amount, Delay, Plan, Test, both, later, nothing, scale, transfer, within}
use Rattle.nodes.proofs.AmountsFound.{byte_at}
use Rattle.nodes.specs.Letters.{letter_of_plan}
use Rattle.nodes.specs.Table.{slot_at}
use Rattle.nodes.specs.declared.PlanLetter.TheVariants as letter
use Rattle.nodes.specs.declared.PlanLetter.{PlanLetter}

abbrev pub letter_of : {D : Type 0} → Plan D → PlanLetter
letter_of nothing = letter.Nothing
letter_of (transfer p q) = letter.Transfer
letter_of (scale a x) = letter.Scale
letter_of (later d x) = letter.Later
letter_of (both x y) = letter.Both
letter_of (within d t x y) = letter.Within

-- what a plan with this letter is
abbrev pub Is : {D : Type 0} → PlanLetter → Plan D → Type 0
Is letter.Nothing y = y ≡ nothing
Is letter.Transfer y = (p : ℕ) × (q : ℕ) × (y ≡ transfer p q)
Is {D} letter.Scale y = (a : Amount ℤ) × (x : Plan D) × (y ≡ scale a x)
Is {D} letter.Later y = (d : D) × (x : Plan D) × (y ≡ later d x)
Is {D} letter.Both y = (x : Plan D) × (z : Plan D) × (y ≡ both x z)
Is {D} letter.Within y = (d : D) × (t : Test ℤ) × (x : Plan D) × (z : Plan D) × (y ≡ within d t x z)
Is letter.NoPlan y = ⊥

pub is_so : {D : Type 0} (y : Plan D) → Is (letter_of y) y
is_so nothing = refl
is_so (transfer p q) = (p, q, refl)
is_so (scale a x) = (a, x, refl)
is_so (later d x) = (d, x, refl)
is_so (both x y) = (x, y, refl)
is_so (within d t x y) = (d, t, x, y, refl)

pub some_depth : {D : Type 0} (y : Plan D) → 0 < depth_of y
unfolding depth_of
some_depth nothing = omega arith
some_depth (transfer p q) = omega arith
some_depth (scale a x) = omega arith
some_depth (later d x) = omega arith
some_depth (both x y) = omega arith
some_depth (within d t x y) = omega arith

pub letter_is : {nodes : List ℤ} {at to : ℕ} (y : Plan Delay) → Lies nodes at to (plan_trees y end) → letter_of_plan (slot_at nodes at 0) ≡ letter_of y
unfolding plan_trees row_of plan_row letter_of_plan
letter_is {nodes} nothing s = rw (byte_at plan_form nodes (of_root text.PlanLetter.Z) [] end (laid s)) refl
letter_is {nodes} (transfer p q) s = rw (byte_at plan_form nodes (of_root text.PlanLetter.T) (a_number (pos p) ∷ a_number (pos q) ∷ []) end (laid s)) refl
letter_is {nodes} (scale a x) s = rw (byte_at plan_form nodes (of_root text.PlanLetter.S) [] _ (laid s)) refl
letter_is {nodes} (later d x) s = rw (byte_at plan_form nodes (of_root text.PlanLetter.L) (a_delay d ∷ []) _ (laid s)) refl
letter_is {nodes} (both x y) s = rw (byte_at plan_form nodes (of_root text.PlanLetter.B) [] _ (laid s)) refl
letter_is {nodes} (within d u x y) s = rw (byte_at plan_form nodes (of_root text.PlanLetter.W) (a_delay d ∷ []) _ (laid s)) refl
