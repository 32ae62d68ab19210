-- The measures of a plan from those of its parts, letter by letter.
use Prim.Native.Nat.{◌*◌, ◌+◌, ◌-◌, ◌≤◌, max, min, ℕ}
use Rattle.language.specs.Limits.{max_months, max_nodes}
use Rattle.language.specs.Rules.Measures.{First, Latest, first_of, from, latest_of, latest_of_test, length_of, magnitude_of, magnitude_of_amount}
use Rattle.language.specs.Rules.Table.{Table}
use Rattle.language.specs.Rules.Tests.{amount_reads, amount_small, known_in_time, not_later, plan_reads, plan_small, test_reads, test_is_small}
use Rattle.language.specs.Text.Trees.{Amount, Plan, Test, both, later, nothing, scale, transfer, within}
use Rattle.measures.proofs.AmountMagnitudes.{amount_limit}
use Rattle.measures.proofs.Firsts.{delayed_first, few_months, first_most, sooner_first}
use Rattle.measures.proofs.Joins.{again, joined_measured, where_measured}
use Rattle.measures.proofs.Lengths.{length_bound}
use Rattle.measures.proofs.PlanMagnitudes.{plan_kept, plan_limit}
use Rattle.measures.proofs.Plans.{plan_is}
use Rattle.measures.specs.Magnitudes.{beyond, joined, measured, measured_amount}
use Rattle.measures.specs.PlanMeasures.{Addable, MeasuresOf}
use Rattle.measures.specs.Ready.{PlanReady}
use Rattle.measures.specs.Timing.{FewMonths, first_month, latest_month, never_month}
use Rattle.measures.specs.declared.plan.Measures.{Measures}
use Rattle.nodes.specs.Found.{amount_at, offset_of, plan_at, test_at}
use Rattle.nodes.specs.Letters.{letter_of_plan}
use Rattle.nodes.specs.Table.{link_at, nat_of, slot_at}
use Rattle.nodes.specs.declared.PlanLetter.TheVariants as plan
use Rattle.nodes.specs.declared.PlanLetter.{PlanLetter}
use lib.IntN.{ℤ}
use mathlib.Core.Bool.{Bool, ◌&&◌, cond, true}
use mathlib.Core.List.{List}
use mathlib.Core.Path.{◌∙◌, ◌≡◌, ap, ap₂, refl, subst, sym}
use native.Mathlib.Omega.{arith}

-- what the code answers of a latest read and a first month
abbrev pub InTime : ℕ → ℕ → Bool → Type 0
InTime k n r = (y : Latest) (x : First) → FewMonths x → k ≡ latest_month y → n ≡ first_month x → r ≡ not_later y x

module _ (t : Table) (a z : ℕ) (bound : ℕ → ℕ) where
  -- another way to write the plan
  pub measures_given : {x y : Plan ℕ} {m : Measures} → x ≡ y → MeasuresOf t a z bound x m → MeasuresOf t a z bound y m
  measures_given {m = m} e h = subst (λ x. MeasuresOf t a z bound x m) e h

  few : {p : Plan ℕ} {x : Measures} → Addable x → MeasuresOf t a z bound p x → FewMonths (first_of p)
  few {p} k h = few_months p (omega (arith, k.length, h.length))

  pub nothing_measures : MeasuresOf t a z bound nothing (record { length = 0; first = never_month; magnitude = 0; known = true; reads = true })
  unfolding length_of first_of known_in_time plan_reads plan_small magnitude_of
  nothing_measures = record { length = refl; first = refl; known = refl; reads = refl; magnitude = refl }

  pub transfer_measures : (p q : ℕ) → MeasuresOf t a z bound (transfer p q) (record { length = 0; first = 0; magnitude = 1; known = true; reads = true })
  unfolding length_of first_of known_in_time plan_reads plan_small magnitude_of
  transfer_measures p q = record { length = refl; first = refl; known = refl; reads = refl; magnitude = refl }

  pub scale_measures : {x r : Measures} {k m : ℕ} {b c : Bool} (n : Amount ℤ) (p : Plan ℕ) → Addable x
      → k ≡ latest_month (latest_of n) → b ≡ amount_reads t a z n → m ≡ measured_amount bound n → MeasuresOf t a z bound p x
      → r.length ≡ x.length → r.first ≡ x.first → InTime k x.first c → r.known ≡ (c && x.known)
      → r.reads ≡ (b && x.reads) → r.magnitude ≡ joined ◌*◌ m x.magnitude → MeasuresOf t a z bound (scale n p) r
  unfolding length_of first_of known_in_time plan_reads plan_small magnitude_of
  scale_measures n p u ek eb em h el ef ec en er ej = record {
    length = el ∙ h.length;
    first = ef ∙ h.first;
    known = en ∙ ap₂ ◌&&◌ (ec (latest_of n) (first_of p) (few u h) ek h.first) h.known;
    reads = er ∙ ap₂ ◌&&◌ eb h.reads;
    magnitude =
        joined_measured ◌*◌ (amount_small bound n) (plan_small bound p) (magnitude_of_amount bound n) (magnitude_of bound p)
        (amount_limit bound n) (plan_limit bound p) em h.magnitude ej;
  }

  pub both_measures : {x y r : Measures} (p q : Plan ℕ) → Addable x → Addable y → MeasuresOf t a z bound p x → MeasuresOf t a z bound q y
      → r.length ≡ max x.length y.length → r.first ≡ min x.first y.first → r.known ≡ (x.known && y.known) → r.reads ≡ (x.reads && y.reads)
      → r.magnitude ≡ joined ◌+◌ x.magnitude y.magnitude → MeasuresOf t a z bound (both p q) r
  unfolding length_of first_of known_in_time plan_reads plan_small magnitude_of
  both_measures p q u v h k el ef en er ej = record {
    length = el ∙ ap₂ max h.length k.length;
    first = ef ∙ ap₂ min h.first k.first ∙ sooner_first (first_of p) (first_of q) (few u h) (few v k);
    known = en ∙ ap₂ ◌&&◌ h.known k.known;
    reads = er ∙ ap₂ ◌&&◌ h.reads k.reads;
    magnitude =
        joined_measured ◌+◌ (plan_small bound p) (plan_small bound q) (magnitude_of bound p) (magnitude_of bound q)
        (plan_limit bound p) (plan_limit bound q) h.magnitude k.magnitude ej;
  }

  pub measures_first : {p : Plan ℕ} {x : Measures} → Addable x → MeasuresOf t a z bound p x → x.first ≤ never_month
  measures_first {p} k h = omega (arith, h.first, first_most (first_of p) (few k h))

  -- a plan that can be walked has measures that can be added to
  pub measures_addable : {left at : ℕ} {nodes : List ℤ} {m : Measures} → PlanReady left nodes at → MeasuresOf t a z bound (plan_at nat_of left nodes at) m → Addable m
  measures_addable {left} {at} {nodes} h k = record {
    length = omega (arith, k.length, length_bound h);
    magnitude = plan_kept bound (plan_at nat_of left nodes at) k.magnitude;
  }

module _ (t : Table) (a z : ℕ) (bound : ℕ → ℕ) where
  pub later_measures : {x r : Measures} (d : ℕ) (p : Plan ℕ) → d ≤ max_months → Addable x → MeasuresOf t (a + d) (z + d) bound p x
      → r.length ≡ d + x.length → r.first ≡ min (d + x.first) never_month → r.known ≡ x.known → r.reads ≡ x.reads → r.magnitude ≡ x.magnitude
      → MeasuresOf t a z bound (later d p) r
  unfolding length_of first_of known_in_time plan_reads plan_small magnitude_of
  later_measures d p b u h el ef en er ej = record {
    length = el ∙ ap (λ n. d + n) h.length;
    first = ef ∙ ap (λ n. min (d + n) never_month) h.first ∙ delayed_first d (first_of p) (omega (arith, b)) (few t (a + d) (z + d) bound u h);
    known = en ∙ h.known;
    reads = er ∙ h.reads;
    magnitude = ej ∙ h.magnitude ∙ sym (ap (λ s. measured s (magnitude_of bound p)) (again (plan_small bound p) (magnitude_of bound p) (plan_limit bound p)));
  }

  pub within_measures : {x y r : Measures} {l : ℕ} {b c e : Bool} (d : ℕ) (u : Test ℤ) (p q : Plan ℕ) → Addable x → Addable y
      → l ≡ latest_month (latest_of_test u) → b ≡ test_reads t a (z + d) u → c ≡ test_is_small bound u
      → MeasuresOf t a (z + d) bound p x → MeasuresOf t (a + d) (z + d) bound q y
      → r.length ≡ d + max x.length y.length → r.first ≡ min x.first y.first
      → ((v : Latest) → l ≡ latest_month v → e ≡ not_later v (from 0)) → r.known ≡ (e && (x.known && y.known))
      → r.reads ≡ (b && (x.reads && y.reads)) → r.magnitude ≡ cond c (joined max x.magnitude y.magnitude) beyond
      → MeasuresOf t a z bound (within d u p q) r
  unfolding length_of first_of known_in_time plan_reads plan_small magnitude_of
  within_measures d u p q i j ek eb ec h k el ef ee en er em = record {
    length = el ∙ ap₂ (λ m n. d + max m n) h.length k.length;
    first = ef ∙ ap₂ min h.first k.first ∙ sooner_first (first_of p) (first_of q) (few t a (z + d) bound i h) (few t (a + d) (z + d) bound j k);
    known = en ∙ ap₂ ◌&&◌ (ee (latest_of_test u) ek) (ap₂ ◌&&◌ h.known k.known);
    reads = er ∙ ap₂ ◌&&◌ eb (ap₂ ◌&&◌ h.reads k.reads);
    magnitude =
        where_measured (test_is_small bound u) _ _ ec
        (joined_measured max (plan_small bound p) (plan_small bound q) (magnitude_of bound p) (magnitude_of bound q)
        (plan_limit bound p) (plan_limit bound q) h.magnitude k.magnitude refl) em;
  }

-- ---- the plan at a node, by its letter; d is its delay, p and q are where its second and third child stand

module _ {left at : ℕ} {nodes : List ℤ} (h : PlanReady left nodes at) {l : PlanLetter} (e : l ≡ letter_of_plan (slot_at nodes at 0)) where
  abbrev here : Plan ℕ
  here = plan_at nat_of left nodes at

  abbrev part : ℕ → Plan ℕ
  part p = plan_at nat_of (left - 1) nodes p

  pub nothing_is : l ≡ plan.Nothing → nothing ≡ here
  nothing_is t = sym (plan_is h e t)

  pub no_plan_is : l ≡ plan.NoPlan → nothing ≡ here
  no_plan_is t = sym (plan_is h e t)

  pub transfer_is : l ≡ plan.Transfer → transfer (nat_of (slot_at nodes at 1)) (nat_of (slot_at nodes at 2)) ≡ here
  transfer_is t = sym (plan_is h e t)

  pub scale_is : l ≡ plan.Scale → {p : ℕ} → p ≡ link_at nodes at 3 → scale (amount_at offset_of max_nodes nodes (at + 1)) (part p) ≡ here
  scale_is t ep = ap (λ p. scale (amount_at offset_of max_nodes nodes (at + 1)) (part p)) ep ∙ sym (plan_is h e t)

  pub later_is : l ≡ plan.Later → {d : ℕ} → d ≡ nat_of (slot_at nodes at 1) → later d (part (at + 1)) ≡ here
  later_is t ed = ap (λ d. later d (part (at + 1))) ed ∙ sym (plan_is h e t)

  pub both_is : l ≡ plan.Both → {p : ℕ} → p ≡ link_at nodes at 3 → both (part (at + 1)) (part p) ≡ here
  both_is t ep = ap (λ p. both (part (at + 1)) (part p)) ep ∙ sym (plan_is h e t)

  pub within_is : l ≡ plan.Within → {d p q : ℕ} → d ≡ nat_of (slot_at nodes at 1) → p ≡ link_at nodes at 3 → q ≡ link_at nodes at 4
      → within d (test_at offset_of max_nodes nodes (at + 1)) (part p) (part q) ≡ here
  within_is t ed ep eq = rw (ed, ep, eq) (sym (plan_is h e t))
