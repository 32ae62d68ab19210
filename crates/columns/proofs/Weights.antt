-- What each letter makes of a weight and a column: its parts fit, and what they add is what the plan adds.
use Prim.Native.Nat.{◌+◌, ◌*◌, ◌<◌, ◌≤◌, max, suc, zero, ℕ}
use lib.IntN.{◌*ℤ◌, ◌+ℤ◌, *ℤ-zero, nat_abs, pos, ℤ}
use lib.ListN.{get_or, length}
use mathlib.Core.List.{List}
use mathlib.Core.Path.{◌∙◌, ◌≡◌, ap, ap₂, refl, subst, sym}
use native.Mathlib.Nat.{le-max_left, le-max_right, le_trans, mul-add, mul_assoc, mul-le-mul, mul-le-mul_left, mul-le-mul_right}
use native.Mathlib.Omega.{arith}
use Rattle.amounts.specs.Flat.{flat}
use Rattle.columns.proofs.Pennies.{plus_nothing}
use Rattle.columns.proofs.Sizes.{sized_pays}
use Rattle.columns.specs.Column.{Added, PennyFits, Sized, Weighed}
use Rattle.integers.proofs.Laws.{*ℤ-add, *ℤ-assoc, nat_abs_add, nat_abs_mul, nat_abs_zero}
use Rattle.integers.proofs.Solver.{◌⊕◌, ring, var}
use Rattle.integers.specs.Bounded.{Small}
use Rattle.language.specs.Limits.{max_amount, max_months}
use Rattle.language.specs.Payments.Amounts.{holds, value}
use Rattle.language.specs.Payments.Pays.{Sign, hit, miss, pays, started, tried}
use Rattle.language.specs.Rules.Measures.{length_of, magnitude_of, magnitude_of_amount}
use Rattle.language.specs.Text.Trees.{Amount, Plan, Test, both, later, nothing, scale, transfer, within}

-- nothing is paid, nothing is added
pub unchanged : (column : List ℤ) (w : ℤ) (pay : ℕ → ℤ) → ((m : ℕ) → pay m ≡ pos 0) → Added column column w pay
unchanged column w pay h = record { each = λ m l. plus_nothing (get_or column m (pos 0)) w ∙ ap (λ z. get_or column m (pos 0) +ℤ w *ℤ z) (sym (h m)) }

-- the same payments
pub same_added : {before after : List ℤ} {w : ℤ} {pay other : ℕ → ℤ} → ((m : ℕ) → other m ≡ pay m) → Added before after w other → Added before after w pay
same_added {before} {after} {w} e a = record { each = λ m l. a.each m l ∙ ap (λ z. get_or before m (pos 0) +ℤ w *ℤ z) (e m) }

-- a product within the limit, one factor beyond it: the other is 0
beyond_zero : (a n : ℕ) → max_amount < a → a * n ≤ max_amount → n ≡ 0
beyond_zero a zero h k = refl
beyond_zero a (suc n) h k = absurd (omega (arith, mul-le-mul_left {m = 1} {n = suc n} a (omega arith)))

module _ {values : List ℤ} {r : ℕ} {w : ℤ} {column : List ℤ} where
  -- ---- T
  pub transfer_fits : {p q : ℕ} → Weighed values (transfer p q) r w column → PennyFits column r w
  unfolding magnitude_of length_of
  transfer_fits k =
      let l : r < length column = omega (arith, k.months) in
      record { inside = l; room = omega (arith, k.room r l) }

  -- ---- S
  module _ {a : Amount ℤ} {x : Plan ℕ} (k : Weighed values (scale a x) r w column) where
    abbrev v : ℤ
    v = value (flat values) a r

    -- the part's weight times its magnitude
    lighter : nat_abs (w *ℤ v) * magnitude_of k.bound x ≤ nat_abs w * (magnitude_of_amount k.bound a * magnitude_of k.bound x)
    unfolding Sized
    lighter =
        rw (nat_abs_mul, mul_assoc (nat_abs w) (nat_abs v) (magnitude_of k.bound x))
        (mul-le-mul_left (nat_abs w) (mul-le-mul_right (magnitude_of k.bound x) k.sized.2))

    pub scale_weighed : {z : ℤ} → z ≡ w *ℤ v → Small (w *ℤ v) → Weighed values x r z column
    unfolding Sized magnitude_of length_of
    scale_weighed {z} e s = rw e (record {
      bound = k.bound;
      sized = k.sized.3;
      light = s;
      months = k.months;
      room = λ m l. omega (arith, k.room m l, lighter);
    })

    module _ (sg : Sign) (unit : (p q : ℕ) → nat_abs (sg p q) ≤ 1) where
      pub scale_adds : {after : List ℤ} {z : ℤ} → z ≡ w *ℤ v → Added column after z (pays (flat values) sg x r) → Added column after w (pays (flat values) sg (scale a x) r)
      unfolding pays
      scale_adds {after} {z} e d = record { each = λ m l. d.each m l ∙ ap (λ y. get_or column m (pos 0) +ℤ y) (ap (λ y. y *ℤ pays (flat values) sg x r m) e ∙ *ℤ-assoc w v (pays (flat values) sg x r m)) }

      -- beyond the limit: the plan below has magnitude 0
      pub scale_beyond : max_amount < nat_abs (w *ℤ v) → Added column column w (pays (flat values) sg (scale a x) r)
      unfolding pays Sized magnitude_of
      scale_beyond h =
          let l : 0 < length column = omega (arith, k.months) in
          let n : magnitude_of k.bound x ≡ 0 = beyond_zero (nat_abs (w *ℤ v)) (magnitude_of k.bound x) h (omega (arith, k.room 0 l, lighter)) in
          unchanged column w (λ m. v *ℤ pays (flat values) sg x r m) (λ m. ap (λ y. v *ℤ y) (nat_abs_zero (pays (flat values) sg x r m) (omega (arith, n, sized_pays values k.bound sg unit m x r k.sized.3))) ∙ *ℤ-zero v)

  -- ---- B
  module _ {x y : Plan ℕ} (k : Weighed values (both x y) r w column) where
    parts : nat_abs w * (magnitude_of k.bound x + magnitude_of k.bound y) ≡ nat_abs w * magnitude_of k.bound x + nat_abs w * magnitude_of k.bound y
    parts = mul-add (nat_abs w) (magnitude_of k.bound x) (magnitude_of k.bound y)

    pub first_weighed : Weighed values x r w column
    unfolding Sized magnitude_of length_of
    first_weighed = record { bound = k.bound; sized = k.sized.0; light = k.light; months = omega (arith, k.months); room = λ m l. omega (arith, k.room m l, parts) }

    module _ (sg : Sign) (unit : (p q : ℕ) → nat_abs (sg p q) ≤ 1) {mid : List ℤ} (e : length mid ≡ length column) (d : Added column mid w (pays (flat values) sg x r)) where
      grown : (m : ℕ) → m < length column → nat_abs (get_or mid m (pos 0)) ≤ nat_abs (get_or column m (pos 0)) + nat_abs w * magnitude_of k.bound x
      unfolding Sized
      grown m l =
          rw (d.each m l)
          (le_trans (nat_abs_add (get_or column m (pos 0)) (w *ℤ pays (flat values) sg x r m))
          (rw nat_abs_mul (omega (arith, mul-le-mul_left (nat_abs w) (sized_pays values k.bound sg unit m x r k.sized.0)))))

      pub second_weighed : Weighed values y r w mid
      unfolding Sized magnitude_of length_of
      second_weighed = record {
        bound = k.bound;
        sized = k.sized.1;
        light = k.light;
        months = omega (arith, k.months, e);
        room = λ m l. let i : m < length column = omega (arith, e) in omega (arith, k.room m i, parts, grown m i);
      }

      pub both_adds : {after : List ℤ} → Added mid after w (pays (flat values) sg y r) → Added column after w (pays (flat values) sg (both x y) r)
      unfolding pays
      both_adds {after} b = record {
        each = λ m l.
            b.each m (omega (arith, e)) ∙ ap (λ z. z +ℤ w *ℤ pays (flat values) sg y r m) (d.each m l)
            ∙ ring (var (get_or column m (pos 0)) ⊕ var (w *ℤ pays (flat values) sg x r m) ⊕ var (w *ℤ pays (flat values) sg y r m)) (var (get_or column m (pos 0)) ⊕ (var (w *ℤ pays (flat values) sg x r m) ⊕ var (w *ℤ pays (flat values) sg y r m))) (omega arith)
            ∙ ap (λ z. get_or column m (pos 0) +ℤ z) (sym (*ℤ-add w (pays (flat values) sg x r m) (pays (flat values) sg y r m)));
      }

  -- ---- L
  pub later_weighed : {d : ℕ} {x : Plan ℕ} → Weighed values (later d x) r w column → (r + d ≤ max_months) × Weighed values x (r + d) w column
  unfolding Sized magnitude_of length_of
  later_weighed k = (k.sized.0, record { bound = k.bound; sized = k.sized.1; light = k.light; months = omega (arith, k.months); room = k.room })

  -- ---- W
  module _ {d : ℕ} {t : Test ℤ} {x y : Plan ℕ} (k : Weighed values (within d t x y) r w column) where
    greater : (n o : ℕ) → nat_abs w * n ≤ nat_abs w * max n o
    greater n o = mul-le-mul_left (nat_abs w) (le-max_left n o)

    greater_second : (n o : ℕ) → nat_abs w * o ≤ nat_abs w * max n o
    greater_second n o = mul-le-mul_left (nat_abs w) (le-max_right n o)

    pub held_weighed : (j : ℕ) → j ≤ r + d → tried (holds (flat values) t) d r ≡ hit j → Weighed values x j w column
    unfolding Sized magnitude_of length_of
    held_weighed j b e = record {
      bound = k.bound;
      sized = subst (started (λ j. Sized values k.bound x j) (λ j. Sized values k.bound y j)) e k.sized.2;
      light = k.light;
      months = omega (arith, k.months);
      room = λ m l. omega (arith, k.room m l, greater (magnitude_of k.bound x) (magnitude_of k.bound y));
    }

    pub missed_weighed : (j : ℕ) → j ≤ r + d → tried (holds (flat values) t) d r ≡ miss j → Weighed values y j w column
    unfolding Sized magnitude_of length_of
    missed_weighed j b e = record {
      bound = k.bound;
      sized = subst (started (λ j. Sized values k.bound x j) (λ j. Sized values k.bound y j)) e k.sized.2;
      light = k.light;
      months = omega (arith, k.months);
      room = λ m l. omega (arith, k.room m l, greater_second (magnitude_of k.bound x) (magnitude_of k.bound y));
    }
