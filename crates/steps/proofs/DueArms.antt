-- What a plan pays in the month of its root: a part that starts in this month pays as ever, one that starts later pays nothing yet.
use Prim.Native.Nat.{◌+◌, ◌<◌, suc, zero, ℕ}
use borrow.Author.Tests.{eq-eqb}
use lib.IntN.{pos, ℤ}
use mathlib.Core.Bool.{Bool, cond, false, true}
use mathlib.Core.List.{List}
use mathlib.Core.Path.{◌∙◌, ◌≡◌, ap, refl, sym}
use native.Mathlib.Omega.{arith}
use Rattle.amounts.proofs.RowReads.{month_is}
use Rattle.amounts.specs.Fine.{MonthIn}
use Rattle.amounts.specs.Flat.{flat}
use Rattle.amounts.specs.Waits.{wait_of}
use Rattle.amounts.specs.declared.wait.Wait.TheVariants.{Held, Missed}
use Rattle.integers.specs.declared.Month.{Month}
use Rattle.language.proofs.Payments.Spans.{due, due_is}
use Rattle.language.specs.Limits.{max_nodes}
use Rattle.language.specs.Payments.Amounts.{Lookup, holds}
use Rattle.language.specs.Payments.Pays.{Sign, hit, miss, pays, tried}
use Rattle.language.specs.Text.Trees.{Plan, Test, later, within}
use Rattle.nodes.specs.Found.{offset_of, test_at}
use Rattle.nodes.specs.Table.{nat_of, slot_at}
use Rattle.nodes.specs.declared.PlanLetter.TheVariants as letter
use Rattle.pays.proofs.PayArms.{by_letter, transfer_arm, whole}
use Rattle.pays.proofs.PlanNodes.{PlanNode}

-- ---- a wait of d months from month r on

module _ (t : ℕ → Bool) (r : ℕ) where
  tried_holds : (d : ℕ) → t r ≡ true → tried t d r ≡ hit r
  unfolding tried
  tried_holds zero e = rw e
  tried_holds (suc d) e = rw e

  tried_last : t r ≡ false → tried t 0 r ≡ miss r
  unfolding tried
  tried_last e = rw e

-- ---- plans that wait

module _ (idx : Lookup) (sg : Sign) (r : ℕ) where
  later_pays : (d : ℕ) (x : Plan ℕ) → 0 < d → pos 0 ≡ pays idx sg (later d x) r r
  unfolding due
  later_pays zero x e = absurd (omega arith)
  later_pays (suc d) x e = due_is idx sg (later (suc d) x) r

  within_pays : (d : ℕ) (t : Test ℤ) (x y : Plan ℕ) → holds idx t r ≡ false → 0 < d → pos 0 ≡ pays idx sg (within d t x y) r r
  unfolding due
  within_pays zero t x y h e = absurd (omega arith)
  within_pays (suc d) t x y h e = ap (λ b. cond b (due idx sg x r) (pos 0)) (sym h) ∙ due_is idx sg (within (suc d) t x y) r

-- ---- the node's plan, its root in month r

module _ {values nodes : List ℤ} {sg : Sign} {r left at : ℕ} (n : PlanNode values nodes sg r r left at letter.Transfer) where
  pub penny_arm : {x : ℤ} → x ≡ sg (nat_of (slot_at nodes at 1)) (nat_of (slot_at nodes at 2)) → x ≡ whole values nodes sg r r left at
  penny_arm e = transfer_arm n (rw (eq-eqb r r refl) e)

module _ {values nodes : List ℤ} {sg : Sign} {r left at : ℕ} (n : PlanNode values nodes sg r r left at letter.Later) where
  pub later_now : {z : ℤ} → MonthIn z → nat_of z ≡ r → nat_of (slot_at nodes at 1) ≡ 0 → z ≡ pos (r + nat_of (slot_at nodes at 1))
  later_now {z} h ez e = month_is z h.known ∙ ap pos (omega (arith, ez, e))

  pub later_waits : 0 < nat_of (slot_at nodes at 1) → pos 0 ≡ whole values nodes sg r r left at
  later_waits e = later_pays (flat values) sg r _ _ e ∙ sym (by_letter n)

module _ {values nodes : List ℤ} {sg : Sign} {r left at : ℕ} (n : PlanNode values nodes sg r r left at letter.Within) where
  abbrev test : ℕ → Bool
  test = holds (flat values) (test_at offset_of max_nodes nodes (at + 1))

  abbrev delay : ℕ
  delay = nat_of (slot_at nodes at 1)

  pub held_now : (k : Month) → MonthIn k.0 → nat_of k.0 ≡ r → test r ≡ true → Held k ≡ wait_of (tried test delay r)
  held_now k h ek e = rw (tried_holds test r delay e, ← ek) (ap (λ z. Held (record { 0 = z })) (month_is k.0 h.known))

  pub missed_now : (k : Month) → MonthIn k.0 → nat_of k.0 ≡ r → test r ≡ false → delay ≡ 0 → Missed k ≡ wait_of (tried test delay r)
  missed_now k h ek e l = rw (l, tried_last test r e, ← ek) (ap (λ z. Missed (record { 0 = z })) (month_is k.0 h.known))

  pub within_waits : test r ≡ false → 0 < delay → pos 0 ≡ whole values nodes sg r r left at
  within_waits h e = within_pays (flat values) sg r _ _ _ _ h e ∙ sym (by_letter n)
