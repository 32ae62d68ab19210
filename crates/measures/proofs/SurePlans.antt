-- A plan that keeps every rule, from its parts, letter by letter.
use Prim.Native.Nat.{◌%◌, ◌*◌, ◌+◌, ◌-◌, ◌/◌, ◌≤◌, max, min, ℕ}
use Rattle.integers.proofs.Locals.{rd}
use Rattle.integers.proofs.Solver.{N, P, ◌⊕◌, ◌⊖◌, dn, lit, ring, sound, up, var}
use Rattle.language.specs.Limits.{max_amount, max_months}
use Rattle.language.specs.Rules.Measures.{Latest, first_of, from, latest_of, latest_of_test, length_of, never}
use Rattle.language.specs.Rules.Table.{Table}
use Rattle.language.specs.Rules.Tests.{amount_reads, not_later, plan_small, test_reads, test_is_small}
use Rattle.language.specs.Text.Trees.{Amount, Plan, Test, both, later, nothing, scale, transfer, within}
use Rattle.nodes.proofs.Fields.{field_index, field_reads, field_whole}
use Rattle.measures.proofs.Firsts.{in_time_from, in_time_never}
use Rattle.measures.proofs.Joins.{within_joined}
use Rattle.measures.proofs.PlanMagnitudes.{plan_within}
use Rattle.measures.proofs.PlanMeasures as whole
use Rattle.measures.specs.Magnitudes.{beyond, joined, measured, measured_amount}
use Rattle.measures.specs.PlanMeasures.{Addable, MeasuresOf}
use Rattle.measures.specs.Sure.{Sure, SureOf}
use Rattle.measures.specs.Timing.{first_month, latest_month, never_month}
use Rattle.measures.specs.declared.plan.Measures.{Measures}
use Rattle.nodes.specs.Table.{nat_of}
use borrow.Author.Tests.{le-leb, leb-true}
use lib.Dec.{leb}
use lib.IntN.{◌+ℤ◌, ◌-ℤ◌, nat_abs, negsuc, pos, ℤ}
use lib.Signed.{lt_z}
use mathlib.Core.Bool.{Bool, ◌&&◌, false, true}
use mathlib.Core.Path.{◌∙◌, ◌≡◌, ap, refl, subst, sym}
use mir.Syntax.{w64}
use mir.Val.{SFits}
use native.Mathlib.Omega.{arith}

-- ---- two magnitudes joined

module _ (op : ℕ → ℕ → ℕ) (a b : ℕ) where
  -- beyond at most
  pub joined_most : joined op a b ≤ beyond
  unfolding joined
  joined_most = by (leb a max_amount) (leb b max_amount) (leb (op a b) max_amount) refl
    where
      by : (p q r : Bool) → leb (op a b) max_amount ≡ r → measured (p && (q && r)) (op a b) ≤ beyond
      by true true true e = omega (arith, leb-true (op a b) max_amount e)
      by true true false e = omega arith
      by true false r e = omega arith
      by false q r e = omega arith

  -- within the limit only where both are
  pub joined_parts : joined op a b ≤ max_amount → (a ≤ max_amount) × (b ≤ max_amount)
  unfolding joined
  joined_parts = by (leb a max_amount) (leb b max_amount) (leb (op a b) max_amount) refl refl
    where
      by : (p q r : Bool) → leb a max_amount ≡ p → leb b max_amount ≡ q → measured (p && (q && r)) (op a b) ≤ max_amount → (a ≤ max_amount) × (b ≤ max_amount)
      by true true r e f h = (leb-true a max_amount e, leb-true b max_amount f)
      by true false r e f h = absurd (omega (arith, h))
      by false q r e f h = absurd (omega (arith, h))

-- ---- known by the first payment

-- what is needed is known where the walk found it timely
known_by : {k n : ℕ} → min k never_month ≤ n → whole.InTime k n true
known_by h y never few ek en = in_time_never y never few refl
known_by h y (from m) few ek en = sym (le-leb (latest_month y) m (omega (arith, h, few, ek, en))) ∙ in_time_from y m

-- ---- measures and sureness

abbrev found : Plan ℕ → ℕ → Measures
found x r = record { length = length_of x; first = first_month (first_of x); magnitude = r / 1024; known = true; reads = true }

module _ {t : Table} {a z : ℕ} {bound : ℕ → ℕ} where
  to_measures : {need : ℕ} {high : ℤ} {x : Plan ℕ} {r : ℕ} → Sure t a z bound need high x r → MeasuresOf t a z bound x (found x r)
  to_measures s = record {
    length = refl;
    first = refl;
    known = sym s.known;
    reads = sym s.reads;
    magnitude = rw s.small s.magnitude;
  }

  from_measures : {need : ℕ} {high : ℤ} {x : Plan ℕ} {r : ℕ} (m : Measures) → MeasuresOf t a z bound x m → m.known ≡ true → m.reads ≡ true
      → m.magnitude ≡ r / 1024 → r / 1024 ≤ max_amount → min need never_month ≤ m.first → high ≡ pos (m.length + r % 1024) → Sure t a z bound need high x r
  from_measures {x = x} {r = r} m h ek er em i et el =
      let y : plan_small bound x ≡ true = sym (plan_within bound x h.magnitude) ∙ le-leb m.magnitude max_amount (omega (arith, em, i)) in
      record {
        known = sym h.known ∙ ek;
        timely = omega (arith, et, h.first);
        reads = sym h.reads ∙ er;
        small = y;
        magnitude = sym em ∙ h.magnitude ∙ rw y refl;
        length = el ∙ ap (λ n. pos (n + r % 1024)) h.length;
      }

  short : {need : ℕ} {high : ℤ} {x : Plan ℕ} {r : ℕ} → nat_of high ≤ max_months → r / 1024 ≤ max_amount → Sure t a z bound need high x r → Addable (found x r)
  short {x = x} {r = r} b i s = record { length = omega (arith, (rw s.length at b)); magnitude = omega (arith, i) }

-- ---- the months left behind a plan's end

-- d months later there are d fewer
back : (z : ℤ) {d y : ℤ} {n k : ℕ} → d ≡ pos n → y ≡ z -ℤ d → y ≡ pos k → z ≡ pos (n + k)
back z {n = n} {k = k} ed ey e = ring (var z) ((var z ⊖ lit n) ⊕ lit n) (omega arith) ∙ ap (λ w. w +ℤ pos n) (sym (ey ∙ ap (λ d. z -ℤ d) ed) ∙ e) ∙ ap pos (omega arith)

-- d months later no more are left
pub nearer_few : {b : ℕ} (h : ℤ) {d y : ℤ} {n : ℕ} → nat_of h ≤ b → d ≡ pos n → y ≡ h -ℤ d → nat_of y ≤ b
nearer_few h {n = n} i ed ey = rw (ey, ed) (omega (arith, i, less h n))
  where
    less : (h : ℤ) (n : ℕ) → nat_of (h -ℤ pos n) ≤ nat_of h
    less (pos m) n = by (pos m -ℤ pos n) (sound (var (pos m) ⊖ lit n))
      where
        by : (y : ℤ) → up y + N (var (pos m) ⊖ lit n) ≡ dn y + P (var (pos m) ⊖ lit n) → nat_of y ≤ m
        by (pos k) e = omega (arith, e)
        by (negsuc k) e = omega arith
    less (negsuc m) n = by (negsuc m -ℤ pos n) (sound (var (negsuc m) ⊖ lit n))
      where
        by : (y : ℤ) → up y + N (var (negsuc m) ⊖ lit n) ≡ dn y + P (var (negsuc m) ⊖ lit n) → nat_of y ≤ 0
        by (pos k) e = omega (arith, e)
        by (negsuc k) e = omega arith

-- a month that is not below zero, as a plain number
module _ {high : ℤ} (f : SFits w64 high) (t : lt_z (rd high) (pos 0) ≡ false) where
  pub left_is : high ≡ pos (nat_abs (rd high))
  left_is = sym (field_reads f refl) ∙ field_whole f refl t ∙ ap pos (sym (field_index f refl t))

  pub left_few : nat_of high ≤ max_months → nat_abs (rd high) ≤ max_months
  left_few b = omega (arith, b, field_index f refl t)

-- of two plans those behind the later end
both_left : {high : ℤ} (l m x y : ℕ) {r : ℕ} → high ≡ pos (l + x) → high ≡ pos (m + y) → r ≡ min x y → high ≡ pos (max l m + r)
both_left l m x y el em er =
    let e : l + x ≡ m + y = ap nat_abs (sym el ∙ em) in
    el ∙ ap pos (omega (arith, e, er))

-- ---- letter by letter

module _ (t : Table) (a z : ℕ) (bound : ℕ → ℕ) where
  -- not sure
  pub unsure : (need : ℕ) (high : ℤ) (x : Plan ℕ) {r : ℕ} → r / 1024 ≡ beyond → SureOf t a z bound need high x r
  unsure need high x e i = absurd (omega (arith, e, i))

  -- another way to write the plan
  pub sure_given : {need : ℕ} {high : ℤ} {x y : Plan ℕ} {r : ℕ} → x ≡ y → SureOf t a z bound need high x r → SureOf t a z bound need high y r
  sure_given {need} {high} {r = r} e h = subst (λ x. SureOf t a z bound need high x r) e h

  pub nothing_sure : (need : ℕ) {high : ℤ} {r : ℕ} → r ≤ max_months → high ≡ pos r → SureOf t a z bound need high nothing r
  nothing_sure need {r = r} b e i =
      from_measures (record { length = 0; first = never_month; magnitude = 0; known = true; reads = true }) (whole.nothing_measures t a z bound)
      refl refl (omega (arith, b)) i (omega arith) (e ∙ ap pos (omega (arith, b)))

  pub transfer_sure : (p q : ℕ) {need : ℕ} {high : ℤ} {k r : ℕ} → k ≤ max_months → high ≡ pos k → need ≡ 0 → r ≡ 1024 + k → SureOf t a z bound need high (transfer p q) r
  transfer_sure p q b e en er i =
      from_measures (record { length = 0; first = 0; magnitude = 1; known = true; reads = true }) (whole.transfer_measures t a z bound p q)
      refl refl (omega (arith, b, er)) i (omega (arith, en)) (e ∙ ap pos (omega (arith, b, er)))

  pub scale_sure : {need k w m x r : ℕ} {b : Bool} {high : ℤ} (n : Amount ℤ) (p : Plan ℕ) → nat_of high ≤ max_months
      → k ≡ latest_month (latest_of n) → b ≡ amount_reads t a z n → b ≡ true → m ≡ measured_amount bound n → w ≡ max need k
      → SureOf t a z bound w high p x → r / 1024 ≡ joined ◌*◌ m (x / 1024) → r % 1024 ≡ x % 1024 → SureOf t a z bound need high (scale n p) r
  scale_sure {need} {k} {w} {m} {x} {r} n p bh ek eb et em ew g ej er i =
      let j = (joined_parts ◌*◌ m (x / 1024) (omega (arith, ej, i))).1 in
      let s = g j in
      from_measures (record { length = length_of p; first = first_month (first_of p); magnitude = joined ◌*◌ m (x / 1024); known = true; reads = true })
      (whole.scale_measures t a z bound n p (short bh j s) ek (sym et ∙ eb) em (to_measures s) refl refl (known_by (omega (arith, s.timely, ew))) refl refl refl)
      refl refl (sym ej) i (omega (arith, s.timely, ew)) (s.length ∙ ap (λ l. pos (length_of p + l)) (sym er))

  pub both_sure : {need x y r : ℕ} {high : ℤ} (p q : Plan ℕ) → nat_of high ≤ max_months → SureOf t a z bound need high p x → SureOf t a z bound need high q y
      → r / 1024 ≡ joined ◌+◌ (x / 1024) (y / 1024) → r % 1024 ≡ min (x % 1024) (y % 1024) → SureOf t a z bound need high (both p q) r
  both_sure {need} {x} {y} {r} p q bh g h ej er i =
      let j = joined_parts ◌+◌ (x / 1024) (y / 1024) (omega (arith, ej, i)) in
      let u = g j.0 in
      let v = h j.1 in
      from_measures
      (record { length = max (length_of p) (length_of q); first = min (first_month (first_of p)) (first_month (first_of q)); magnitude = joined ◌+◌ (x / 1024) (y / 1024); known = true; reads = true })
      (whole.both_measures t a z bound p q (short bh j.0 u) (short bh j.1 v) (to_measures u) (to_measures v) refl refl refl refl refl)
      refl refl (sym ej) i (omega (arith, u.timely, v.timely)) (both_left (length_of p) (length_of q) (x % 1024) (y % 1024) u.length v.length er)

  -- y is d months less than high
  module _ {need : ℕ} {high d y : ℤ} {n : ℕ} (few : n ≤ max_months) (bh : nat_of y ≤ max_months) (ed : d ≡ pos n) (ey : y ≡ high -ℤ d) where
    pub later_sure : {k r : ℕ} (p : Plan ℕ) → k ≡ need - n → SureOf t (a + n) (z + n) bound k y p r → SureOf t a z bound need high (later n p) r
    later_sure {k} {r} p ek g i =
        let s = g i in
        from_measures (record { length = n + length_of p; first = min (n + first_month (first_of p)) never_month; magnitude = r / 1024; known = true; reads = true })
        (whole.later_measures t a z bound n p few (short bh i s) (to_measures s) refl refl refl refl refl)
        refl refl refl i (omega (arith, s.timely, ek)) (back high ed ey s.length ∙ ap pos (omega arith))

    pub within_sure : {l x v r : ℕ} {b c e : Bool} (u : Test ℤ) (p q : Plan ℕ) → l ≡ latest_month (latest_of_test u)
        → b ≡ test_reads t a (z + n) u → b ≡ true → c ≡ test_is_small bound u → c ≡ true → ((w : Latest) → l ≡ latest_month w → e ≡ not_later w (from 0)) → e ≡ true
        → SureOf t a (z + n) bound need y p x → SureOf t (a + n) (z + n) bound need y q v
        → r / 1024 ≡ max (x / 1024) (v / 1024) → r % 1024 ≡ min (x % 1024) (v % 1024) → SureOf t a z bound need high (within n u p q) r
    within_sure {l} {x} {v} {r} u p q el eb tb ec tc ee te g h em er i =
        let j : x / 1024 ≤ max_amount = omega (arith, em, i) in
        let k : v / 1024 ≤ max_amount = omega (arith, em, i) in
        let sx = g j in
        let sv = h k in
        from_measures
        (record { length = n + max (length_of p) (length_of q); first = min (first_month (first_of p)) (first_month (first_of q)); magnitude = joined max (x / 1024) (v / 1024); known = true; reads = true })
        (whole.within_measures t a z bound n u p q (short bh j sx) (short bh k sv) el (sym tb ∙ eb) (sym tc ∙ ec) (to_measures sx) (to_measures sv) refl refl
        (λ w ew. sym te ∙ ee w ew) refl refl refl)
        refl refl (sym (em ∙ within_joined max (x / 1024) (v / 1024) j k (omega (arith, j, k)))) i (omega (arith, sx.timely, sv.timely))
        (back high ed ey (both_left (length_of p) (length_of q) (x % 1024) (v % 1024) sx.length sv.length er) ∙ ap pos (omega arith))
