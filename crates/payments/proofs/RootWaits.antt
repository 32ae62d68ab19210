-- Whether the root waits, as the code finds it.
use Prim.Native.Nat.{ℕ}
use lib.IntN.{pos, ℤ}
use lib.Signed.{le_z}
use mathlib.Core.Bool.{Bool, ◌&&◌, false, not, true}
use mathlib.Core.List.{List}
use mathlib.Core.Path.{◌∙◌, ◌≡◌, ap, refl, sym}
use Rattle.amounts.specs.Flat.{flat}
use Rattle.language.specs.Limits.{max_nodes}
use Rattle.language.specs.Payments.Amounts.{holds}
use Rattle.nodes.specs.Found.{offset_of, test_at}
use Rattle.nodes.specs.Letters.{letter_of_plan}
use Rattle.nodes.specs.Table.{nat_of, slot_at}
use Rattle.nodes.specs.declared.PlanLetter.{PlanLetter}
use Rattle.payments.specs.Waits.{waits_at_root, waits_by}

module _ (values : List ℤ) (r : ℕ) (nodes : List ℤ) {d : ℤ} {b : Bool} (ed : d ≡ pos (nat_of (slot_at nodes 0 1))) (eb : b ≡ le_z d (pos 0)) where
  due_is : {c : Bool} → b ≡ c → le_z (pos (nat_of (slot_at nodes 0 1))) (pos 0) ≡ c
  due_is e = ap (λ z. le_z z (pos 0)) (sym ed) ∙ sym eb ∙ e

  -- no month is left
  pub none_left : b ≡ true → false ≡ waits_at_root values r nodes
  unfolding waits_at_root
  none_left e = rw (due_is e) refl

  -- some are, and the letter is known
  pub by_letter : b ≡ false → {l k : PlanLetter} → l ≡ letter_of_plan (slot_at nodes 0 0) → l ≡ k → waits_by k (holds (flat values) (test_at offset_of max_nodes nodes 1) r) ≡ waits_at_root values r nodes
  unfolding waits_at_root
  by_letter e el ek = rw (due_is e) (ap (λ k. waits_by k (holds (flat values) (test_at offset_of max_nodes nodes 1) r)) (sym ek ∙ el))

-- the root's answer, then the text's
pub waits_then : {b w a o : Bool} → b ≡ w → b ≡ true → a ≡ o → not a ≡ w && not o
waits_then {o = o} e t h = ap not h ∙ ap (λ v. v && not o) (sym t ∙ e)

pub waits_not : {b w : Bool} (o : Bool) → b ≡ w → b ≡ false → false ≡ w && not o
waits_not o e t = ap (λ v. v && not o) (sym t ∙ e)
