-- A node's fields and a plan without parts, from what the code reads of them.
use Prim.Native.Nat.{◌*◌, ◌+◌, ◌-◌, ◌<◌, ◌≤◌, suc, zero, ℕ}
use borrow.Author.Tests.{le-ltb, leb-true, lt-ltb, ltb-false, ltb-true}
use lib.Dec.{T, leb}
use lib.IntN.{nat_abs, negsuc, pos, ℤ}
use lib.ListN.{drop, get_or, length}
use lib.Signed.{le_z, lt_z, non_neg}
use mathlib.Core.Bool.{Bool, ◌&&◌, ◌||◌, false, true, true≢false}
use mathlib.Core.List.{List, [], ◌∷◌}
use mathlib.Core.Option.{Option, none, some}
use mathlib.Core.Path.{◌∙◌, ◌≡◌, ap, refl, subst, sym}
use mir.Facts.{to_z-of_z}
use mir.Syntax.{w64}
use mir.Val.{Fits, SFits}
use native.Mathlib.Omega.{arith}
use Rattle.fields.proofs.ClassLaws.{Held, divisor_reads, figure_reads, small_fits}
use Rattle.fields.proofs.FieldLaws.{taken_at}
use Rattle.fields.proofs.NumberLaws.{going_more, going_over, going_start, led_head, led_natural, number_plus}
use Rattle.fields.proofs.Positions.{up_more}
use Rattle.fields.specs.Classes.{class_of}
use Rattle.fields.specs.declared.field.Class.TheVariants.{FromNode, Label, Party}
use Rattle.fields.specs.Fields.{Four, ReadUpTo, Taken, TriedIs, first_as}
use Rattle.fields.specs.Numbers.{Run, Signed, plus}
use Rattle.fields.specs.Positions.{fields_from, up_to}
use Rattle.integers.proofs.Locals.{rd}
use Rattle.language.proofs.Rules.Tables.{setting_small}
use Rattle.language.proofs.Truth.{and_e}
use Rattle.language.specs.Limits.{max_months, max_party, max_settings}
use Rattle.language.specs.Rules.Settings.{delay_of, delay_set}
use Rattle.language.specs.Rules.Table.{all_of, setting_at, are_settings}
use Rattle.language.specs.Text.Classes.{Field, a_number, as_number, field_of, ranged}
use Rattle.language.specs.Text.Letters.{Class, delay, divisor, figure, from_node, label, party}
use Rattle.language.specs.Text.Number.{between, keep, read_number}
use Rattle.language.specs.Text.Trees.{Delay, months, setting}
use Rattle.measures.proofs.Fields.{field_cast, field_index}
use Rattle.measures.proofs.SurePlans.{left_is}
use Rattle.measures.specs.Magnitudes.{bound_in}
use Rattle.nodes.proofs.Signed.{index_cast}
use Rattle.nodes.specs.Rows.{delay_from, delay_slot, field_slots}
use Rattle.nodes.specs.Table.{nat_of}
use Rattle.one_pass.specs.Packed.{Kept, Packed, behind, magnitude_in}
use Rattle.one_pass.specs.Reads.{Here, Short}
use Rattle.one_pass.specs.Seen.{AmountSeen, DelayOf, DelaySeen, DigitsSeen, DivisorSeen, Ended, Indexed, PlanSeen}
use Rattle.one_pass.proofs.Amounts.{index_seen, number_seen}
use Rattle.one_pass.proofs.Fields.{delayed, divisor_numeric, figure_numeric, label_numeric, number_alone, number_more, offset_numeric, party_numeric}
use Rattle.one_pass.proofs.Plans.{nothing_seen, transfer_seen}
use Rattle.std.specs.Prelude.{Some}

-- the number that tells nothing
pub unsure : {A : Type 0} → Kept 9437184000001048576 → A
unsure k = absurd (omega (arith, k))

-- ---- a row of digits

pub digits_seen : {text : List ℕ} {at v i r : ℕ} → Run (up_to 44 (drop at text)) at v i → Packed v 0 (i + 1) r → DigitsSeen text at r
digits_seen {text} {at} {v} {i} {r} d p =
    let b : behind r - 1 ≡ i = omega (arith, p.place) in
    record { run = rw (p.magnitude, b) d; none = p.months; some = omega (arith, p.place) }

-- with a digit above 0 in front
module _ {text : List ℕ} {at : ℕ} (h : at < length text) (low : 49 ≤ get_or text at 0) (high : get_or text at 0 ≤ 57) {r : ℕ} (d : DigitsSeen text at r) where
  led_signed : Signed (up_to 44 (drop at text)) at (pos (magnitude_in r)) (behind r - 1)
  unfolding plus
  led_signed =
      number_plus (up_to 44 (drop at text)) at (λ e. omega (arith, led_head text at h low high, e, low)) (Some (record { value = magnitude_in r; end = behind r - 1 }))
      (led_natural text at h low high (Some (record { value = magnitude_in r; end = behind r - 1 })) d.run)

  led_taken : (c : Class) → Held c (up_to 44 (drop at text)) (pos (magnitude_in r) ∷ []) → Taken c text at (pos (magnitude_in r) ∷ []) (behind r)
  led_taken c held = taken_at c text at (pos (magnitude_in r) ∷ []) (behind r) (omega (arith, h)) (omega (arith, led_signed.ends, d.some)) held

  pub led_figure : ReadUpTo (figure ∷ []) text at (a_number (pos (magnitude_in r)) ∷ []) (behind r)
  led_figure = number_alone figure_numeric (led_taken figure (figure_reads (up_to 44 (drop at text)) (pos (magnitude_in r)) led_signed.small led_signed.is))

  above_zero : 0 < magnitude_in r
  above_zero =
      let n : get_or text at 0 ≡ 44 → ⊥ = λ e. omega (arith, e, low) in
      let g = going_more _ _ _ _ _ _ _ (going_start (up_to 44 (drop at text)) at) (up_more 44 text at h n n) (omega (arith, low)) high in
      omega (arith, going_over _ _ _ _ _ 0 g (omega (arith, low)), d.run.value)

  pub led_divisor : DivisorSeen text at r
  led_divisor = record {
    by = magnitude_in r;
    is = number_alone divisor_numeric (led_taken divisor (divisor_reads (up_to 44 (drop at text)) (pos (magnitude_in r)) led_signed.small (le-ltb (magnitude_in r) 1 above_zero) led_signed.is));
  }

-- ---- an index

none_of : (p q r s : Bool) → (((p || q) || r) || s) ≡ false → (p ≡ false) × (q ≡ false) × (r ≡ false) × (s ≡ false)
none_of false false false false e = (refl, refl, refl, refl)
none_of false false false true e = absurd (true≢false e)
none_of false false true s e = absurd (true≢false e)
none_of false true r s e = absurd (true≢false e)
none_of true q r s e = absurd (true≢false e)

up_to_lem : (m : ℕ) (z : ℤ) → lt_z (pos m) z ≡ false → T (non_neg z) → nat_abs z ≤ m
up_to_lem m (pos n) e h = ltb-false m n e
up_to_lem m (negsuc n) e h = absurd h

-- a label and an offset, as the code tests them
module _ {l i : ℤ} (fl : SFits w64 l) (fi : SFits w64 i) (t : (((lt_z (rd l) (pos 0) || lt_z (pos 7) (rd l)) || lt_z (rd i) (pos 0)) || lt_z (pos 600) (rd i)) ≡ false) where
  tests : (lt_z (rd l) (pos 0) ≡ false) × (lt_z (pos 7) (rd l) ≡ false) × (lt_z (rd i) (pos 0) ≡ false) × (lt_z (pos 600) (rd i) ≡ false)
  tests = none_of (lt_z (rd l) (pos 0)) (lt_z (pos 7) (rd l)) (lt_z (rd i) (pos 0)) (lt_z (pos 600) (rd i)) t

  pub label_cast : T (non_neg (rd l)) × Fits w64 (nat_abs (rd l))
  label_cast = field_cast fl refl tests.0

  pub label_few : nat_abs (rd l) ≤ 7
  label_few = up_to_lem 7 (rd l) tests.1 label_cast.0

  pub offset_cast : T (non_neg (rd i)) × Fits w64 (nat_abs (rd i))
  offset_cast = field_cast fi refl tests.2

  pub offset_few : nat_abs (rd i) ≤ 600
  offset_few = up_to_lem 600 (rd i) tests.3 offset_cast.0

  pub indexed : {low high : ℤ} {bounds : List ℤ} {n next r : ℕ} → SFits w64 low → SFits w64 high → nat_abs (rd l) < length bounds → (le_z (rd low) (rd i) && le_z (rd i) (rd high)) ≡ true
      → n ≡ bound_in bounds (nat_abs (rd l)) → Packed n (nat_abs (rd i)) next r → Indexed l i low high bounds next r
  indexed {low} {high} {bounds} {n} {next} {r} fa fz inside w e p =
      let b = and_e (le_z (rd low) (rd i)) (le_z (rd i) (rd high)) w in
      record {
        label = nat_abs (rd l);
        is = left_is fl tests.0;
        inside = inside;
        least = (rw (to_z-of_z fa, to_z-of_z fi) at b).0;
        most = (rw (to_z-of_z fi, to_z-of_z fz) at b).1;
        packed = record { magnitude = p.magnitude ∙ e; months = p.months ∙ field_index fi refl tests.2; place = p.place };
      }

-- ---- leaves of amounts

module _ {text : List ℕ} (short : Short text) {left at : ℕ} (level : 0 < left) {low high : ℤ} {bounds : List ℤ} {r : ℕ} (k : Kept r) where
  pub led_read : Here text at 78 → 49 ≤ get_or text (at + 2) 0 → get_or text (at + 2) 0 ≤ 57 → DigitsSeen text (at + 2) r → AmountSeen text left at low high bounds r
  led_read h l u d = number_seen text short left at level low high bounds (pos (magnitude_in r)) h (led_figure (omega (arith, h.room)) l u d) k refl d.none

  pub number_read : {z : ℤ} {m end : ℕ} → Here text at 78 → Signed (up_to 44 (drop (at + 2) text)) (at + 2) z end → m ≡ nat_abs (rd z) → Packed m 0 (end + 1) r → AmountSeen text left at low high bounds r
  number_read {z} {m} {end} h s e p =
      number_seen text short left at level low high bounds z h
      (number_alone figure_numeric (taken_at figure text (at + 2) (z ∷ []) (behind r) (omega (arith, h.room)) (omega (arith, s.ends, p.place)) (figure_reads _ z s.small s.is)))
      k (p.magnitude ∙ e ∙ ap nat_abs (to_z-of_z (small_fits z s.small))) p.months

  pub index_read : {l i a b : ℤ} {m next : ℕ} → Here text at 79 → TriedIs (class_of Label) text (at + 2) (Some (record { value = l; next = m })) → TriedIs (class_of FromNode) text (at + 4) (Some (record { value = i; next = next }))
      → a ≡ l → b ≡ i → Indexed a b low high bounds next r → AmountSeen text left at low high bounds r
  unfolding class_of
  index_read {l} {i} {a} {b} {m} {next} h s t ea eb w =
      let x : Indexed l i low high bounds next r = subst (λ z. Indexed l z low high bounds next r) eb (subst (λ z. Indexed z b low high bounds next r) ea w) in
      let e : m ≡ at + 4 = omega (arith, s.1) in
      let o : ReadUpTo (from_node ∷ []) text (at + 4) (a_number i ∷ []) (behind r) = rw x.packed.place (number_alone offset_numeric t.0) in
      index_seen text short left at level low high bounds x.label i h
      (number_more label_numeric (subst (λ z. Taken label text (at + 2) (z ∷ []) m) x.is s.0) (subst (λ n. ReadUpTo (from_node ∷ []) text n (a_number i ∷ []) (behind r)) (sym e) o))
      x.inside x.least x.most k x.packed.magnitude x.packed.months

-- ---- a penny from one party to another

kept_whole : (b : Bool) (n : ℕ) (v : Field) (z : ℤ) → as_number (keep b (pos n)) ≡ some v → field_slots v ≡ z ∷ [] → z ≡ pos (nat_of z)
unfolding field_slots
kept_whole false n v z e s = let q : ◌≡◌ {A = ℕ} 0 1 = cc in absurd (omega arith)
kept_whole true n v z e s =
    let q : a_number (pos n) ≡ v = cc in
    let t : pos n ∷ [] ≡ z ∷ [] = ap field_slots q ∙ s in
    let u : pos n ≡ z = cc in
    subst (λ y. y ≡ pos (nat_of y)) u refl

-- a party is not below zero
party_whole : {text : List ℕ} {at next : ℕ} {z : ℤ} → Taken party text at (z ∷ []) next → z ≡ pos (nat_of z)
unfolding field_of
party_whole {text} {at} {next} {z} t = go (fields_from text at) t.is
  where
    by : (o : Option ℤ) → as_number (ranged (pos 1) (pos max_party) o) ≡ some t.field → z ≡ pos (nat_of z)
    by none e = let q : ◌≡◌ {A = ℕ} 0 1 = cc in absurd (omega arith)
    by (some (pos n)) e = kept_whole (between (pos 1) (pos max_party) (pos n)) n t.field z e t.slot
    by (some (negsuc n)) e = let q : ◌≡◌ {A = ℕ} 0 1 = cc in absurd (omega arith)

    go : (fs : List (List ℕ)) → first_as party fs ≡ some t.field → z ≡ pos (nat_of z)
    go [] e = let q : ◌≡◌ {A = ℕ} 0 1 = cc in absurd (omega arith)
    go (f ∷ fs) e = by (read_number f) e

pub transfer_read : {text : List ℕ} → Short text → {left at : ℕ} → 0 < left → {low high : ℤ} {bounds : List ℤ} {need : ℕ} {days : List ℤ} {p q : ℤ} {m next r : ℕ}
    → at < length text → up_to 44 (drop at text) ≡ 84 ∷ [] → TriedIs (class_of Party) text (at + 2) (Some (record { value = p; next = m })) → TriedIs (class_of Party) text (at + 4) (Some (record { value = q; next = next }))
    → need ≡ 0 → Kept r → Ended 1 next high r → PlanSeen text left at low high bounds need days r
unfolding class_of
transfer_read {text} short {left} {at} level {low} {high} {bounds} {need} {days} {p} {q} {m} {next} {r} inside alone s t ez k x =
    let e : m ≡ at + 4 = omega (arith, s.1) in
    let y : Taken party text (at + 2) (pos (nat_of p) ∷ []) m = subst (λ z. Taken party text (at + 2) (z ∷ []) m) (party_whole s.0) s.0 in
    let z : Taken party text (at + 4) (pos (nat_of q) ∷ []) next = subst (λ z. Taken party text (at + 4) (z ∷ []) next) (party_whole t.0) t.0 in
    let o : ReadUpTo (party ∷ []) text (at + 4) (a_number (pos (nat_of q)) ∷ []) (behind r) = rw x.packed.place (number_alone party_numeric z) in
    transfer_seen text short left at level low high bounds need days (nat_of p) (nat_of q) inside alone
    (number_more party_numeric y (subst (λ n. ReadUpTo (party ∷ []) text n (a_number (pos (nat_of q)) ∷ []) (behind r)) (sym e) o))
    k x.packed.magnitude x.packed.months x.few x.is ez

-- ---- a letter that stands alone

pub nothing_read : {text : List ℕ} → Short text → {left at : ℕ} → 0 < left → {low high : ℤ} {bounds : List ℤ} {need : ℕ} {days : List ℤ} {r : ℕ}
    → at < length text → get_or text at 0 ≡ 90 → up_to 44 (drop (at + 1) text) ≡ [] → Kept r → Ended 0 (at + 2) high r → PlanSeen text left at low high bounds need days r
nothing_read {text} short {left} {at} level {low} {high} {bounds} {need} {days} inside letter e k x =
    let n : get_or text at 0 ≡ 44 → ⊥ = λ q. omega (arith, q, letter) in
    nothing_seen text short left at level low high bounds need days inside
    (up_more 44 text at inside n n ∙ ap (λ (l : List ℕ). get_or text at 0 ∷ l) e ∙ ap (λ (c : ℕ). c ∷ []) letter)
    k x.packed x.few x.is

-- ---- delays

-- a setting is not below zero
setting_in : (s : List ℤ) → all_of (between (pos 0) (pos max_months)) s ≡ true → (k : ℕ) → T (non_neg (get_or s k (pos 0)))
setting_in [] h k = tt
setting_in (pos n ∷ s) h zero = tt
setting_in (negsuc n ∷ s) h zero = let q : ◌≡◌ {A = ℕ} 0 1 = cc in absurd (omega arith)
setting_in (z ∷ s) h (suc k) = setting_in s (and_e (between (pos 0) (pos max_months) z) (all_of (between (pos 0) (pos max_months)) s) h).1 k

pub setting_above : (s : List ℤ) → are_settings s ≡ true → (k : ℕ) → T (non_neg (get_or s k (pos 0)))
unfolding are_settings
setting_above s h k = setting_in s (and_e (leb (length s) max_settings) (all_of (between (pos 0) (pos max_months)) s) h).1 k

pub few_settings : (s : List ℤ) → are_settings s ≡ true → length s ≤ max_settings
unfolding are_settings
few_settings s h = leb-true (length s) max_settings (and_e (leb (length s) max_settings) (all_of (between (pos 0) (pos max_months)) s) h).0

-- a slot below zero is a setting
slot_setting : (a : ℤ) {m next r : ℕ} (days : List ℤ) → are_settings days ≡ true → lt_z a (pos 0) ≡ true → m ≡ nat_abs a → m - 1 < length days
    → Packed 0 (setting_at days (m - 1)) next r → DelayOf a next days r
unfolding delay_set delay_of
slot_setting (pos n) days ok e em l p = absurd (omega (arith, ltb-true n 0 e))
slot_setting (negsuc k) {m} {next} {r} days ok e em l p =
    let q : m - 1 ≡ k = omega (arith, em) in
    record {
      set = lt-ltb k (length days) (omega (arith, l, q));
      packed = subst (λ j. Packed 0 (setting_at days j) next r) q p;
      few = omega (arith, setting_small days ok (m - 1), p.months);
    }

-- and any other so many months
slot_months : (a : ℤ) {next r : ℕ} (days : List ℤ) → T (non_neg a) → nat_abs a ≤ max_months → Packed 0 (nat_abs a) next r → DelayOf a next days r
unfolding delay_set delay_of
slot_months (negsuc k) days h l p = absurd h
slot_months (pos n) days h l p = record { set = refl; packed = p; few = omega (arith, l, p.months) }

below : (a : ℤ) → lt_z a (pos 0) ≡ true → 0 < nat_abs a
below (pos n) e = absurd (omega (arith, ltb-true n 0 e))
below (negsuc n) e = omega arith

-- as the code tests it
module _ {a : ℤ} (f : SFits w64 a) where
  module _ (t : lt_z (rd a) (pos 0) ≡ true) {m : ℕ} (em : m ≡ nat_abs (rd a)) where
    pub below_zero : 0 < m
    below_zero = omega (arith, below (rd a) t, em)

    module _ (days : List ℤ) (ok : are_settings days ≡ true) (g : SFits w64 (get_or days (m - 1) (pos 0))) where
      pub lent_cast : T (non_neg (rd (get_or days (m - 1) (pos 0)))) × Fits w64 (nat_abs (rd (get_or days (m - 1) (pos 0))))
      lent_cast = index_cast _ _ g refl (setting_above days ok (m - 1))

      pub lent_few : nat_abs (rd (get_or days (m - 1) (pos 0))) ≤ max_months
      lent_few = rw (to_z-of_z g) (setting_small days ok (m - 1))

      pub setting_for : {next r : ℕ} → m - 1 < length days → Packed 0 (nat_abs (rd (get_or days (m - 1) (pos 0)))) next r → DelayOf a next days r
      setting_for {next} {r} l p =
          slot_setting a days ok (rw (to_z-of_z f) at t) (em ∙ ap nat_abs (to_z-of_z f)) l (subst (λ z. Packed 0 (nat_abs z) next r) (to_z-of_z g) p)

  module _ (t : lt_z (rd a) (pos 0) ≡ false) (u : lt_z (pos 600) (rd a) ≡ false) where
    pub months_cast : T (non_neg (rd a)) × Fits w64 (nat_abs (rd a))
    months_cast = field_cast f refl t

    pub months_few : nat_abs (rd a) ≤ max_months
    months_few = up_to_lem 600 (rd a) u months_cast.0

    pub months_for : {days : List ℤ} {next r : ℕ} → Packed 0 (nat_abs (rd a)) next r → DelayOf a next days r
    months_for {days} {next} {r} p = subst (λ z. DelayOf z next days r) (to_z-of_z f) (slot_months (rd a) days months_cast.0 months_few p)

slot_delay : (w : Delay) → delay_from (delay_slot w) ≡ w
unfolding delay_slot
slot_delay (months n) = refl
slot_delay (setting k) = refl

pub delay_read : {text : List ℕ} {at next : ℕ} {a b c d z : ℤ} {days : List ℤ} {r : ℕ} → Four (delay ∷ []) text at a b c d next → z ≡ a → DelayOf z next days r → DelaySeen text at days r
delay_read {text} {at} {next} {a} {z = z} {days} {r} f ez o =
    let w = delayed f.all f.first in
    let e : delay_from z ≡ w.wait = ap delay_from (ez ∙ sym w.slot) ∙ slot_delay w.wait in
    record {
      wait = w.wait;
      is = rw o.packed.place w.is;
      set = subst (λ v. delay_set days v ≡ true) e o.set;
      months = o.packed.months ∙ ap (delay_of (setting_at days)) e;
      few = o.few;
    }
