-- A month and a label as a place of the values, or outside the table.
use Rattle.std.proofs.Common.{◌≡◌, ℕ, ◌+◌, ◌*◌, ◌<◌, ◌≤◌, Bool, true, false, cond, ◌&&◌, T, ltb, List, [], length, get_or, ℤ, pos, negsuc, ◌+ℤ◌, neg_ℤ, nat_abs, sym, refl, ap, ◌∙◌, subst, true≢false, mul-le-mul_right, mul-le-mul, arith, ltb-true, le-ltb, lt-ltb}
use lib.Signed.{le_z, lt_z, non_neg}
use Rattle.integers.proofs.Laws.{nat_abs_parts}
use Rattle.integers.proofs.Solver.{◌⊕◌, dn, lit, ring, sound, up, var, ⊝}
use Rattle.integers.proofs.Tests.{le_false, le_true, lt_false, lt_true}
use Rattle.language.proofs.Truth.{and_e}
use Rattle.language.specs.Answer.{got, refused}
use Rattle.language.specs.Limits.{max_labels}
use Rattle.language.specs.Rules.Table.{readable, value_at}
use Rattle.language.specs.Text.Number.{between}
use Rattle.tables.specs.Lookup.{Inside, Kept, KeptSpan, looked_up, place_for, read_table, standing}
use Rattle.std.specs.Prelude.{None, Option, Some}

none_below : (z : ℤ) → lt_z z (pos 0) ≡ false → dn z ≡ 0
none_below (pos n) e = refl
none_below (negsuc n) e = absurd (true≢false e)

-- a month before -h, behind f, or between the two, by its distance from -h
before : (a b : ℕ) (m : ℤ) → lt_z (m +ℤ pos a) (pos 0) ≡ true → between (neg_ℤ (pos a)) (pos b) m ≡ false
before a b m e = go (le_z (neg_ℤ (pos a)) m) refl
  where
    go : (t : Bool) → le_z (neg_ℤ (pos a)) m ≡ t → t && le_z m (pos b) ≡ false
    go false c = refl
    go true c = absurd (omega (arith, le_true (neg_ℤ (pos a)) m c, lt_true (m +ℤ pos a) (pos 0) e, sound (var m ⊕ lit a), sound (⊝ (lit a))))

behind : (a b : ℕ) (m : ℤ) → lt_z (m +ℤ pos a) (pos 0) ≡ false → a + b + 1 ≤ nat_abs (m +ℤ pos a) → between (neg_ℤ (pos a)) (pos b) m ≡ false
behind a b m e h = go (le_z (neg_ℤ (pos a)) m) (le_z m (pos b)) refl
  where
    go : (t u : Bool) → le_z m (pos b) ≡ u → t && u ≡ false
    go false u c = refl
    go true false c = refl
    go true true c = absurd (omega (arith, le_true m (pos b) c, none_below (m +ℤ pos a) e, nat_abs_parts (m +ℤ pos a), sound (var m ⊕ lit a)))

inside : (a b : ℕ) (m : ℤ) → lt_z (m +ℤ pos a) (pos 0) ≡ false → nat_abs (m +ℤ pos a) < a + b + 1 → between (neg_ℤ (pos a)) (pos b) m ≡ true
inside a b m e h = go (le_z (neg_ℤ (pos a)) m) (le_z m (pos b)) refl refl
  where
    go : (t u : Bool) → le_z (neg_ℤ (pos a)) m ≡ t → le_z m (pos b) ≡ u → t && u ≡ true
    go true true c d = refl
    go false u c d = absurd (omega (arith, le_false (neg_ℤ (pos a)) m c, lt_false (m +ℤ pos a) (pos 0) e, sound (var m ⊕ lit a), sound (⊝ (lit a))))
    go true false c d = absurd (omega (arith, le_false m (pos b) d, none_below (m +ℤ pos a) e, nat_abs_parts (m +ℤ pos a), sound (var m ⊕ lit a)))

natural : (z : ℤ) → T (non_neg z) → z ≡ pos (nat_abs z)
natural (pos n) h = refl
natural (negsuc n) h = absurd h

module _ (h f : ℤ) (bounds : List ℤ) (k : KeptSpan h f) (label : ℕ) (m : ℤ) where
  abbrev place : Option ℕ
  place = place_for h f bounds label m

  abbrev count : ℕ
  count = nat_abs h + nat_abs f + 1

  pub no_label : length bounds ≤ label → None ≡ place
  unfolding place_for
  no_label l = rw (le-ltb label (length bounds) l) refl

  -- p is the month's distance from -h
  module _ (l : label < length bounds) (p : ℤ) (e : p ≡ m +ℤ h) where
    shifted : p ≡ m +ℤ pos (nat_abs h)
    shifted = e ∙ ap (λ z. m +ℤ z) (natural h k.h_from)

    covers : {b : Bool} → between (neg_ℤ (pos (nat_abs h))) (pos (nat_abs f)) m ≡ b → readable (read_table h f bounds []) label m ≡ b
    covers {b} c = rw (lt-ltb label (length bounds) l, natural h k.h_from, natural f k.f_from) c

    pub too_early : lt_z p (pos 0) ≡ true → None ≡ place
    unfolding place_for
    too_early c = rw (covers (before (nat_abs h) (nat_abs f) m (rw shifted at c))) refl

    module _ (c : lt_z p (pos 0) ≡ false) where
      pub from_zero : T (non_neg p)
      from_zero = go p c
        where
          go : (z : ℤ) → lt_z z (pos 0) ≡ false → T (non_neg z)
          go (pos n) c = tt
          go (negsuc n) c = absurd (true≢false c)

      pub too_late : count ≤ nat_abs p → None ≡ place
      unfolding place_for
      too_late d = rw (covers (behind (nat_abs h) (nat_abs f) m (rw shifted at c) (rw shifted at d))) refl

      module _ (d : nat_abs p < count) where
        pub few : length bounds ≤ max_labels → label * count + nat_abs p ≤ 10_000
        few n = omega (arith, mul-le-mul {n₁ = label} {m₁ = count} {n₂ = max_labels} {m₂ = 661} (omega arith) (omega (arith, k.h_to, k.f_to)), k.h_to, k.f_to)

        pub stands : (i : ℕ) → i ≡ label * count + nat_abs p → Some i ≡ place
        unfolding place_for
        stands i g = let r = covers (inside (nat_abs h) (nat_abs f) m (rw shifted at c) (rw shifted at d)) in rw r (ap Some (g ∙ ap (λ z. label * count + nat_abs z) e))

not_below : (n : ℕ) → lt_z (pos n) (pos 0) ≡ false
not_below n = go (lt_z (pos n) (pos 0)) refl
  where
    go : (b : Bool) → lt_z (pos n) (pos 0) ≡ b → b ≡ false
    go false e = refl
    go true e = absurd (omega (arith, lt_true (pos n) (pos 0) e))

pub nowhere_at : (i : ℕ) → None ≡ Some i → ⊥
nowhere_at i e = let z : ◌≡◌ {A = ℕ} 0 1 = cc in omega arith

pub at_injective : {i j : ℕ} → Some j ≡ Some i → i ≡ j
at_injective e = cc

-- ---- four months in a row: k months after a month whose distance from -h is p

module _ (h f : ℤ) (bounds : List ℤ) (s : KeptSpan h f) (label : ℕ) (m : ℤ) (l : label < length bounds) (p : ℤ) (e : p ≡ m +ℤ h) (c : lt_z p (pos 0) ≡ false) where
  further : (k : ℕ) → p +ℤ pos k ≡ (m +ℤ pos k) +ℤ h
  further k = ap (λ z. z +ℤ pos k) e ∙ ring ((var m ⊕ var h) ⊕ lit k) ((var m ⊕ lit k) ⊕ var h) (omega arith)

  onward : (k : ℕ) → p +ℤ pos k ≡ pos (nat_abs p + k)
  onward k = ap (λ z. z +ℤ pos k) (natural p (from_zero h f bounds s label m l p e c))

  pub stands_on : (n : ℕ) → n ≡ nat_abs h + nat_abs f + 1 → nat_abs p + 3 < n → (i : ℕ) → i ≡ label * n + nat_abs p → (k : ℕ) → k < 4 → Some (i + k) ≡ place_for h f bounds label (m +ℤ pos k)
  stands_on n en d i ei k b =
      let q : nat_abs (p +ℤ pos k) ≡ nat_abs p + k = ap nat_abs (onward k) in
      let z : lt_z (p +ℤ pos k) (pos 0) ≡ false = rw (onward k) (not_below (nat_abs p + k)) in
      stands h f bounds s label (m +ℤ pos k) l (p +ℤ pos k) (further k) z (omega (arith, q, en)) (i + k) (omega (arith, q, ei, ap (λ x. label * x) en))

-- ---- what stands at the place of a label and a month

module _ (h f : ℤ) (bounds values : List ℤ) (k : Kept h f bounds values) (label : ℕ) (m : ℤ) where
  -- a month between -h and f, as a distance from -h
  near : (a b : ℕ) → between (neg_ℤ (pos a)) (pos b) m ≡ true → nat_abs (m +ℤ pos a) < a + b + 1
  near a b e = go (m +ℤ pos a) refl
    where
      go : (z : ℤ) → m +ℤ pos a ≡ z → nat_abs z < a + b + 1
      go (pos n) q = omega (arith, le_true m (pos b) (and_e (le_z (neg_ℤ (pos a)) m) (le_z m (pos b)) e).1, sound (var m ⊕ lit a), ap up q, ap dn q)
      go (negsuc n) q = absurd (omega (arith, le_true (neg_ℤ (pos a)) m (and_e (le_z (neg_ℤ (pos a)) m) (le_z m (pos b)) e).0, sound (var m ⊕ lit a), sound (⊝ (lit a)), ap up q, ap dn q))

  pub place_inside : Inside (length values) (place_for h f bounds label m)
  unfolding place_for Inside
  place_inside = go (ltb label (length bounds)) (between (neg_ℤ h) f m) refl refl
    where
      go : (s u : Bool) → ltb label (length bounds) ≡ s → between (neg_ℤ h) f m ≡ u → Inside (length values) (cond (s && u) (Some (label * (nat_abs h + nat_abs f + 1) + nat_abs (m +ℤ h))) None)
      go false u es eu = tt
      go true false es eu = tt
      go true true es eu =
          let l : label < length bounds = ltb-true label (length bounds) es in
          let w : between (neg_ℤ (pos (nat_abs h))) (pos (nat_abs f)) m ≡ true = rw (natural h k.span.h_from, natural f k.span.f_from) at eu in
          let n : nat_abs (m +ℤ h) < nat_abs h + nat_abs f + 1 = subst (λ z. nat_abs (m +ℤ z) < nat_abs h + nat_abs f + 1) (sym (natural h k.span.h_from)) (near (nat_abs h) (nat_abs f) w) in
          omega (arith, k.count, mul-le-mul_right {m = label + 1} {n = length bounds} (nat_abs h + nat_abs f + 1) (omega arith))

  pub place_standing : standing values (place_for h f bounds label m) ≡ looked_up (read_table h f bounds values) label m
  unfolding place_for standing looked_up value_at
  place_standing = go (readable (read_table h f bounds values) label m)
    where
      go : (b : Bool) → standing values (cond b (Some (label * (nat_abs h + nat_abs f + 1) + nat_abs (m +ℤ h))) None)
          ≡ cond b (got (cond b (get_or values (label * (nat_abs h + nat_abs f + 1) + nat_abs (m +ℤ h)) (pos 0)) (pos 0))) (refused 11)
      go true = refl
      go false = refl
