-- A test of every element of a list, from one place on.
use Rattle.std.proofs.Common.{◌≡◌, ℕ, zero, suc, ◌%◌, ◌+◌, ◌-◌, ◌<◌, ◌≤◌, Bool, true, false, ◌&&◌, leb, List, [], ◌∷◌, length, get_or, take, drop, ℤ, pos, neg_ℤ, nat_abs, sym, refl, ap, ◌∙◌, ap₂, add-one, arith, SFits, w64, drop_of_length-le, drop-cons, drop-drop}
use lib.Bits.{bit_or}
use mathlib.Core.Bool.{and-true, and_assoc}
use Rattle.integers.proofs.Locals.{rd}
use Rattle.language.specs.Limits.{max_amount}
use Rattle.language.specs.Rules.Table.{all_of, are_bounded}
use Rattle.language.specs.Text.Number.{between}
use Rattle.tables.proofs.Bounds.{nearer}
use Rattle.tables.proofs.Words.{Ends, clear, joined, within}
use Rattle.tables.specs.Words.{word_of}

module _ (p : ℤ → Bool) (xs : List ℤ) where
  pub all_next : (i : ℕ) → i < length xs → all_of p (drop i xs) ≡ p (get_or xs i (pos 0)) && all_of p (drop (i + 1) xs)
  all_next i h = ap (all_of p) (drop-cons xs i (pos 0) h) ∙ rw (add-one i) refl

  pub all_done : (i : ℕ) → length xs ≤ i → all_of p (drop i xs) ≡ true
  all_done i h = ap (all_of p) (drop_of_length-le xs h)

-- the words that stand for the numbers so far, joined with the two for one more
one_joined : (whole : Bool) (below above y z : ℕ) (one rest : Bool) → whole ≡ (clear below && clear above) && (one && rest) → one ≡ clear y && clear z
    → whole ≡ (clear (bit_or below y) && clear (bit_or above z)) && rest
one_joined whole below above y z one rest e n =
    e ∙ ap (λ r. (clear below && clear above) && (r && rest)) n ∙ turned (clear below) (clear above) (clear y) (clear z) rest
    ∙ ap₂ (λ a b. (a && b) && rest) (sym (joined below y)) (sym (joined above z))
  where
    turned : (a b c d r : Bool) → (a && b) && ((c && d) && r) ≡ ((a && c) && (b && d)) && r
    turned true true c d r = refl
    turned true false true d r = refl
    turned true false false d r = refl
    turned false b c d r = refl

-- ---- two lists in one loop

-- where neither word has its first bit set the numbers in front of the rests lie in every range with these ends
pub record Joining (xs ys left right : List ℤ) (first width over below above : ℕ) : Type 0 where
  pub even : length left ≡ length right
  pub all : (low high : ℤ) → Ends low high first width over
      → all_of (between low high) xs && all_of (between low high) ys ≡ (clear below && clear above) && (all_of (between low high) left && all_of (between low high) right)

pub joining_starts : {xs ys left right : List ℤ} {first width over : ℕ} → left ≡ xs → right ≡ ys → length xs ≡ length ys → Joining xs ys left right first width over 0 0
joining_starts d e h = record { even = ap length d ∙ h ∙ sym (ap length e); all = λ low high k. ap₂ (λ a b. all_of (between low high) a && all_of (between low high) b) (sym d) (sym e) }

-- a less b, round the whole circle of words
abbrev pub from : ℕ → ℕ → ℕ
from b a = (a + (18446744073709551616 - b)) % 18446744073709551616

pub back : (b a : ℕ) → b < 18446744073709551616 → a < 18446744073709551616 → (from b a + b) % 18446744073709551616 ≡ a
back b a h k = omega arith

first_of_both : (p : ℤ → Bool) (x y : ℤ) (xs ys : List ℤ) → all_of p (x ∷ xs) && all_of p (y ∷ ys) ≡ p x && (p y && (all_of p xs && all_of p ys))
first_of_both p x y xs ys = turned (p x) (all_of p xs) (p y) (all_of p ys)
  where
    turned : (a r b s : Bool) → (a && r) && (b && s) ≡ a && (b && (r && s))
    turned true true b s = refl
    turned true false true s = refl
    turned true false false s = refl
    turned false r b s = refl

module _ {xs ys left right : List ℤ} {first width over below above : ℕ} (j : Joining xs ys left right first width over below above) where
  pub joining_on : (x y : ℤ) (us vs : List ℤ) → left ≡ x ∷ us → right ≡ y ∷ vs → SFits w64 x → SFits w64 y → first < 18446744073709551616 → over < 18446744073709551616
      → (n m : ℕ) → n < 18446744073709551616 → m < 18446744073709551616 → n ≡ word_of (rd x) → m ≡ word_of (rd y)
      → Joining xs ys us vs first width over (bit_or (bit_or below (from first n)) (from first m)) (bit_or (bit_or above (from over (from first n))) (from over (from first m)))
  joining_on x y us vs d e f g fb ob n m nb mb nw mw =
      record {
        even = omega (arith, j.even, ap length d, ap length e);
        all = λ low high k.
            one_joined _ (bit_or below (from first n)) (bit_or above (from over (from first n))) (from first m) (from over (from first m)) _ _
            (one_joined _ below above (from first n) (from over (from first n)) _ _ (j.all low high k ∙ ap (λ r. (clear below && clear above) && r) (ap₂ (λ a b. all_of (between low high) a && all_of (between low high) b) d e ∙ first_of_both (between low high) x y us vs))
            (within k x f nw (omega arith) (back first n fb nb) (omega arith) (back over (from first n) ob (omega arith))))
            (within k y g mw (omega arith) (back first m fb mb) (omega arith) (back over (from first m) ob (omega arith)));
      }

  pub joining_ends : length left ≡ 0 → {low high : ℤ} → Ends low high first width over → leb (bit_or below above) 9223372036854775807 ≡ all_of (between low high) xs && all_of (between low high) ys
  joining_ends e {low} {high} k =
      let t : all_of (between low high) left && all_of (between low high) right ≡ true = ap₂ ◌&&◌ (all_done (between low high) left 0 (omega (arith, e))) (all_done (between low high) right 0 (omega (arith, j.even, e))) in
      joined below above ∙ sym (j.all low high k ∙ ap (λ b. (clear below && clear above) && b) t ∙ and-true _)

-- ---- the halves of a list
module _ (p : ℤ → Bool) where
  all_split : (n : ℕ) (xs : List ℤ) → all_of p xs ≡ all_of p (take n xs) && all_of p (drop n xs)
  all_split zero xs = refl
  all_split (suc n) [] = refl
  all_split (suc n) (x ∷ xs) = ap (λ r. p x && r) (all_split n xs) ∙ sym (and_assoc (p x) (all_of p (take n xs)) (all_of p (drop n xs)))

  -- two halves, and what is left
  pub all_halved : (xs : List ℤ) (h : ℕ) → all_of p xs ≡ (all_of p (take h xs) && all_of p (take h (drop h xs))) && all_of p (drop (h + h) xs)
  all_halved xs h =
      all_split h xs ∙ ap (λ r. all_of p (take h xs) && r) (all_split h (drop h xs) ∙ ap (λ l. all_of p (take h (drop h xs)) && all_of p l) (drop-drop h h xs))
      ∙ sym (and_assoc (all_of p (take h xs)) (all_of p (take h (drop h xs))) (all_of p (drop (h + h) xs)))

-- two tests that agree
all_same : (p q : ℤ → Bool) → ((v : ℤ) → p v ≡ q v) → (xs : List ℤ) → all_of p xs ≡ all_of q xs
all_same p q h [] = refl
all_same p q h (x ∷ xs) = ap₂ ◌&&◌ (h x) (all_same p q h xs)

-- ---- the values of one label after the other
module _ (n : ℕ) (bounds values : List ℤ) where
  -- label k, whose values stand from `at` on
  bounded_next : (k at : ℕ) → k < length bounds
      → are_bounded n (drop k bounds) (drop at values) ≡ all_of (λ v. leb (nat_abs v) (nat_abs (get_or bounds k (pos 0)))) (take n (drop at values)) && are_bounded n (drop (k + 1) bounds) (drop (at + n) values)
  unfolding are_bounded
  bounded_next k at h = ap (λ b. are_bounded n b (drop at values)) (drop-cons bounds k (pos 0) h) ∙ rw (add-one k, drop-drop n at values) refl

  -- the code asks whether its values lie from low to high; the part of the table is the code's
  module _ (k at : ℕ) {low high : ℤ} {r : Bool} (h : k < length bounds) (some : between (pos 0) (pos max_amount) (get_or bounds k (pos 0)) ≡ true) (l : low ≡ neg_ℤ (get_or bounds k (pos 0))) (m : high ≡ get_or bounds k (pos 0)) (e : r ≡ all_of (between low high) (take (at + n - at) (drop at values))) where
    tested_as : all_of (λ v. leb (nat_abs v) (nat_abs (get_or bounds k (pos 0)))) (take n (drop at values)) ≡ r
    tested_as =
        let w : at + n - at ≡ n = omega arith in
        let b = get_or bounds k (pos 0) in
        all_same _ _ (λ v. nearer b v some) (take n (drop at values)) ∙ sym (e ∙ ap (λ i. all_of (between low high) (take i (drop at values))) w ∙ rw (l, m) refl)

    pub bounded_passed : r ≡ true → are_bounded n (drop k bounds) (drop at values) ≡ are_bounded n (drop (k + 1) bounds) (drop (at + n) values)
    bounded_passed t = bounded_next k at h ∙ rw (tested_as, t) refl

    pub bounded_failed : r ≡ false → are_bounded n (drop k bounds) (drop at values) ≡ false
    bounded_failed t = bounded_next k at h ∙ rw (tested_as, t) refl

  pub bounded_done : (k at : ℕ) → length bounds ≤ k → are_bounded n (drop k bounds) (drop at values) ≡ true
  unfolding are_bounded
  bounded_done k at h = ap (λ b. are_bounded n b (drop at values)) (drop_of_length-le bounds h)
