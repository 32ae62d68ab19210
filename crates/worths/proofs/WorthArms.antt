-- What each letter makes of its parts' values.
use Prim.Native.Nat.{◌+◌, ◌-◌, ℕ}
use borrow.Author.Tests.{le-ltb}
use lib.IntN.{◌*ℤ◌, ◌+ℤ◌, nat_abs, negsuc, pos, ℤ}
use lib.ListN.{get_or}
use mathlib.Core.Bool.{cond}
use mathlib.Core.List.{List}
use mathlib.Core.Path.{◌∙◌, ◌≡◌, ap, ap₂, refl, sym}
use native.Mathlib.Omega.{arith}
use Rattle.checked.specs.Checked.{test_in, value_found}
use Rattle.integers.specs.Bounded.{SmallValue}
use Rattle.language.specs.Answer.{Answer, ◌>>=◌, got, on_both, refused}
use Rattle.language.specs.Calls.{factors_of, lookup_of, ranges_of, sign_of}
use Rattle.language.specs.Limits.{max_amount, max_nodes, max_value}
use Rattle.language.specs.Payments.Pays.{Tried, hit, miss, started}
use Rattle.language.specs.Payoff.Evaluate.{checked_tried, checked_value, checked_worth, in_range}
use Rattle.language.specs.Rules.Table.{Table, factor_at, readable, value_at}
use Rattle.language.specs.Text.Number.{between}
use Rattle.language.specs.Text.Trees.{Amount, Payoff, Test}
use Rattle.nodes.specs.Found.{amount_at, offset_of, payoff_at, test_at}
use Rattle.nodes.specs.Table.{link_at, nat_of, slot_at}
use Rattle.nodes.specs.declared.PayoffLetter.{PayoffLetter}
use Rattle.nodes.specs.declared.PayoffLetter.TheVariants as letter
use Rattle.tables.specs.Given.{table_of}
use Rattle.worths.proofs.Bounds.{worth_codable, worth_small}
use Rattle.worths.proofs.WorthNodes.{PayoffNode, payoff_of}
use Rattle.worths.specs.Answers.{SmallWorth, worth_answer}
use Rattle.worths.specs.Checked.{worth_in}
use Rattle.checked.specs.Evaluated.{Evaluated}
use Rattle.worths.specs.Leaf.{leaf_in}
use Rattle.std.specs.Prelude.{Result}
use Rattle.integers.specs.declared.Millionths.{Millionths}
use Rattle.text.specs.declared.Refusal.{Refusal}

-- no month of the table lies before month 0
from_zero : (f : ℤ) (factors : List ℤ) (m sign : ℤ) → leaf_in f factors (pos 0) m sign ≡ cond (between (pos 0) f m) (in_range max_value (get_or factors (nat_abs m) (pos 0) *ℤ sign)) (refused 11)
unfolding leaf_in
from_zero f factors (pos n) sign = rw (le-ltb n 0 (omega arith)) refl
from_zero f factors (negsuc n) sign = refl

module _ (h f : ℤ) (factors bounds values : List ℤ) (p q : ℤ) where
  abbrev table : Table
  table = table_of h f factors bounds values

  -- an amount doesn't look at the factors
  same_value : (a : Amount ℤ) (w : ℕ) → value_found h f bounds values a w ≡ checked_value (lookup_of table) (readable table) max_amount a w
  unfolding value_at
  same_value a w = refl

  pub part_small : (x : Payoff ℕ ℤ) (start w : ℕ) (v : Result Millionths Refusal) → worth_answer v ≡ worth_in table p q start x w → SmallWorth v
  part_small x start w v e = worth_small (ranges_of table) (lookup_of table) (factors_of table) (sign_of p q) start refl x w v e

  pub part_codable : (x : Payoff ℕ ℤ) (start w : ℕ) {a : Answer ℤ} → a ≡ worth_in table p q start x w → Evaluated SmallValue a
  part_codable x start w e = worth_codable (ranges_of table) (lookup_of table) (factors_of table) (sign_of p q) start refl x w e

  module _ (nodes : List ℤ) (start w left at : ℕ) where
    abbrev pub whole : Answer ℤ
    whole = worth_in table p q start (payoff_at nat_of offset_of left nodes at) w

    -- the part at place k, with j months waited
    abbrev part : ℕ → ℕ → Answer ℤ
    part k j = worth_in table p q start (payoff_at nat_of offset_of (left - 1) nodes k) j

    by_letter : {l : PayoffLetter} → PayoffNode nodes left at l → whole ≡ worth_in table p q start (payoff_of nodes left at l) w
    by_letter n = ap (λ x. worth_in table p q start x w) n.tree

    pub nil_arm : PayoffNode nodes left at letter.Nil → got (pos 0) ≡ whole
    unfolding checked_worth
    nil_arm n = sym (by_letter n)

    pub no_payoff_arm : PayoffNode nodes left at letter.NoPayoff → got (pos 0) ≡ whole
    unfolding checked_worth
    no_payoff_arm n = sym (by_letter n)

    -- the leaf's month and what its penny counts
    abbrev month : ℤ
    month = slot_at nodes at 1 +ℤ pos w

    abbrev sign : ℤ
    sign = sign_of p q (nat_of (slot_at nodes at 3)) (nat_of (slot_at nodes at 4))

    pub uncut_arm : PayoffNode nodes left at letter.Uncut → {z : Answer ℤ} → z ≡ leaf_in f factors (pos 0) month sign → z ≡ whole
    unfolding checked_worth factor_at
    uncut_arm n e = e ∙ from_zero f factors month sign ∙ sym (by_letter n)

    pub cut_arm : PayoffNode nodes left at letter.Cut → {s : ℤ} → s ≡ pos start → {z : Answer ℤ} → z ≡ leaf_in f factors s month sign → z ≡ whole
    unfolding checked_worth factor_at leaf_in
    cut_arm n es e = e ∙ ap (λ s. leaf_in f factors s month sign) es ∙ sym (by_letter n)

    pub times_arm : PayoffNode nodes left at letter.Times → {k : ℕ} → k ≡ link_at nodes at 3 → {a x z : Answer ℤ} → a ≡ value_found h f bounds values (amount_at offset_of max_nodes nodes (at + 1)) w → x ≡ part k w
        → z ≡ on_both (λ y z. in_range max_value (y *ℤ z)) a x → z ≡ whole
    unfolding checked_worth
    times_arm n ek ea ex ez = ez ∙ ap₂ (on_both (λ y z. in_range max_value (y *ℤ z))) (ea ∙ same_value (amount_at offset_of max_nodes nodes (at + 1)) w) (ex ∙ ap (λ k. part k w) ek) ∙ sym (by_letter n)

    pub plus_arm : PayoffNode nodes left at letter.Plus → {k : ℕ} → k ≡ link_at nodes at 3 → {x y z : Answer ℤ} → x ≡ part (at + 1) w → y ≡ part k w
        → z ≡ on_both (λ y z. in_range max_value (y +ℤ z)) x y → z ≡ whole
    unfolding checked_worth
    plus_arm n ek ex ey ez = ez ∙ ap₂ (on_both (λ y z. in_range max_value (y +ℤ z))) ex (ey ∙ ap (λ k. part k w) ek) ∙ sym (by_letter n)

    module _ (n : PayoffNode nodes left at letter.Await) {d : ℤ} (ed : d ≡ pos (nat_of (slot_at nodes at 1))) where
      abbrev starts : Tried → Answer ℤ
      starts = started (λ j. part (link_at nodes at 3) j) (λ j. part (link_at nodes at 4) j)

      abbrev test : Test ℤ
      test = test_at offset_of max_nodes nodes (at + 1)

      -- the wait ends as a
      ended : {a : Answer Tried} → a ≡ checked_tried (test_in h f bounds values test) (nat_of d) w → (a >>= starts) ≡ whole
      unfolding checked_worth value_at
      ended e = ap (λ b. b >>= starts) (e ∙ ap (λ m. checked_tried (test_in h f bounds values test) (nat_of m) w) ed) ∙ sym (by_letter n)

      pub held_arm : {j : ℕ} → got (hit j) ≡ checked_tried (test_in h f bounds values test) (nat_of d) w → {k : ℕ} → k ≡ link_at nodes at 3 → {z : Answer ℤ} → z ≡ part k j → z ≡ whole
      held_arm {j} e ek ez = ez ∙ ap (λ k. part k j) ek ∙ ended e

      pub missed_arm : {j : ℕ} → got (miss j) ≡ checked_tried (test_in h f bounds values test) (nat_of d) w → {k : ℕ} → k ≡ link_at nodes at 4 → {z : Answer ℤ} → z ≡ part k j → z ≡ whole
      missed_arm {j} e ek ez = ez ∙ ap (λ k. part k j) ek ∙ ended e

      pub stopped_arm : {j : ℕ} → refused j ≡ checked_tried (test_in h f bounds values test) (nat_of d) w → refused j ≡ whole
      stopped_arm e = ended e
