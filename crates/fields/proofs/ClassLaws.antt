-- Laws of classes of fields and of their ranges.
use Prim.Native.Nat.{◌+◌, ◌-◌, ◌<◌, ◌≤◌, ℕ}
use borrow.Author.Tests.{le-leb, leb-true, lt-leb, ltb-false, ne_eqb}
use lib.Dec.{eqb, leb}
use lib.IntN.{nat_abs, negsuc, neg_ℤ, pos, ℤ}
use lib.ListN.{get_or}
use lib.Signed.{le_z, lt_z}
use mathlib.Core.Bool.{Bool, ◌&&◌, ◌||◌, false, not, true}
use mathlib.Core.List.{List, [], ◌∷◌}
use mathlib.Core.Option.{Option, none, some}
use mathlib.Core.Path.{◌∙◌, ◌≡◌, ap, refl, sym}
use mir.Syntax.{w64}
use mir.Val.{SFits, of_z, to_z}
use mir.ValLaws.{to_z-of_z, to_z_pos}
use native.Mathlib.Omega.{arith}
use Rattle.language.specs.Text.Classes.{Field, a_delay, a_number, as_number, field_of, ranged, read_setting}
use Rattle.language.specs.Text.Letters.{Class, delay, divisor, figure, from_node, label, party}
use Rattle.language.specs.Text.Number.{between, keep, read_natural, read_number, value_of}
use Rattle.language.specs.Text.Trees.{months}
use Rattle.nodes.specs.Rows.{delay_slot, field_slots}
use Rattle.fields.specs.Classes.{Limited, class_of, from, range_of}
use Rattle.fields.specs.Numbers.{BeyondZ}
use Rattle.fields.specs.declared.field.Class as coded
use Rattle.fields.specs.declared.field.Class.TheVariants.{Delay, Divisor, Figure, FromNode, Label, Month, Party}
use Rattle.fields.specs.declared.field.Range.{Range}

-- ---- order

pub and_false : (b : Bool) → (b && false) ≡ false
and_false true = refl
and_false false = refl

or_true : (b : Bool) → (b || true) ≡ true
or_true true = refl
or_true false = refl

ge_le : (a b : ℤ) → lt_z a b ≡ false → le_z b a ≡ true
ge_le (pos a) (pos b) e = le-leb b a (ltb-false a b e)
ge_le (pos a) (negsuc b) e = refl
ge_le (negsuc a) (pos b) e = let z : ◌≡◌ {A = ℕ} 0 1 = cc in absurd (omega arith)
ge_le (negsuc a) (negsuc b) e = le-leb a b (ltb-false b a e)

-- a test of a signed number and a digit, as the machine makes it
pub test_high : (d : ℕ) (w : ℤ) (t : Bool) → d ≤ 9 → SFits w64 w → lt_z (to_z w64 (of_z w64 w)) (to_z w64 d) ≡ t → lt_z w (pos d) ≡ t
test_high d w t h q e = sym (ap (λ (z : ℤ). lt_z (to_z w64 (of_z w64 w)) z) (to_z_pos w64 d (omega arith)) ∙ ap (λ (z : ℤ). lt_z z (pos d)) (to_z-of_z w64 w q)) ∙ e

pub small_fits : (z : ℤ) → nat_abs z ≤ 9000000000000 → SFits w64 z
small_fits (pos n) h = record { sfits = omega arith }
small_fits (negsuc n) h = record { sfits = omega arith }

-- ---- a number within a range

module _ (lo hi v : ℤ) (o : Option ℤ) (is : o ≡ some v) where
  pub ranged_in : (w : ℤ) → w ≡ v → lt_z v lo ≡ false → lt_z hi v ≡ false → ranged lo hi o ≡ some w
  ranged_in w q e f = rw (is, ge_le v lo e, ge_le hi v f, q) refl

outside : (lo hi z : ℤ) → nat_abs lo ≤ 9000000000000 → nat_abs hi ≤ 9000000000000 → 9000000000000 < nat_abs z → between lo hi z ≡ false
outside lo (pos h) (pos n) p q l = rw (lt-leb n h (omega arith), and_false (le_z lo (pos n))) refl
outside lo (negsuc h) (pos n) p q l = and_false (le_z lo (pos n))
outside (pos m) hi (negsuc n) p q l = refl
outside (negsuc m) hi (negsuc n) p q l = rw (lt-leb n m (omega arith)) refl

pub ranged_beyond : (r : Range) → Limited r → (o : Option ℤ) → BeyondZ o → ranged r.low r.high o ≡ none
ranged_beyond r k none h = refl
ranged_beyond r k (some z) h = rw (outside r.low r.high z k.low k.high h) refl

figure_in : (z : ℤ) → nat_abs z ≤ 9000000000000 → between (neg_ℤ (pos 9000000000000)) (pos 9000000000000) z ≡ true
figure_in (pos n) h = le-leb n 9000000000000 h
figure_in (negsuc n) h = rw (le-leb n 8999999999999 (omega arith)) refl

-- ---- a digit alone

pub number_digit : (f : List ℕ) (c : ℕ) → f ≡ c ∷ [] → 48 ≤ c → c ≤ 57 → read_number f ≡ some (pos (c - 48))
unfolding read_number read_natural value_of
number_digit f c e l h =
    let q : 0 + (c - 48) ≡ c - 48 = omega arith in
    rw (e, ne_eqb c 45 (λ q. omega arith), le-leb 48 c l, le-leb c 57 h, or_true (not (eqb c 48))) (ap (λ (n : ℕ). some (pos n)) q)

-- ---- by class

high_in : (z : ℤ) → nat_abs z ≤ 9000000000000 → le_z z (pos 9000000000000) ≡ true
high_in (pos n) h = le-leb n 9000000000000 h
high_in (negsuc n) h = refl

pub by_class : (Q : Class → Range → Type 0) (c : coded.Class)
    → Q figure (from (neg_ℤ (pos 9000000000000)) (pos 9000000000000)) → (c ≡ Delay → Q delay (from (pos 0) (pos 600))) → Q label (from (pos 0) (pos 7))
    → Q from_node (from (neg_ℤ (pos 60)) (pos 600)) → Q divisor (from (pos 1) (pos 9000000000000)) → Q party (from (pos 1) (pos 9)) → Q (class_of c) (range_of c)
unfolding class_of
by_class Q Figure qf qd ql qn qv qp = qf
by_class Q Delay qf qd ql qn qv qp = qd refl
by_class Q Party qf qd ql qn qv qp = qp
by_class Q Label qf qd ql qn qv qp = ql
by_class Q FromNode qf qd ql qn qv qp = qn
by_class Q Divisor qf qd ql qn qv qp = qv
by_class Q Month qf qd ql qn qv qp = qp

pub limited : (c : coded.Class) → Limited (range_of c)
limited c = by_class (λ k r. Limited r) c (lim refl refl) (λ e. lim refl refl) (lim refl refl) (lim refl refl) (lim refl refl) (lim refl refl)
  where
    lim : {r : Range} → leb (nat_abs r.low) 9000000000000 ≡ true → leb (nat_abs r.high) 9000000000000 ≡ true → Limited r
    lim {r} p q = record { low = leb-true (nat_abs r.low) 9000000000000 p; high = leb-true (nat_abs r.high) 9000000000000 q }

-- f is a field of the class, with these numbers
pub record Held (k : Class) (f : List ℕ) (slots : List ℤ) : Type 0 where
  pub field : Field
  pub is : field_of k f ≡ some field
  pub slot : field_slots field ≡ slots

no_setting : (f : List ℕ) → (get_or f 0 0 ≡ 80 → ⊥) → read_setting f ≡ none
unfolding read_setting
no_setting [] n = refl
no_setting (a ∷ []) n = refl
no_setting (a ∷ b ∷ []) n = rw (ne_eqb a 80 n) refl
no_setting (a ∷ b ∷ c ∷ r) n = refl

kept_low : (z w : ℤ) (hi : ℤ) → keep (between (pos 0) hi z) z ≡ some w → pos (nat_abs w) ≡ w
kept_low (pos n) w hi e = go (between (pos 0) hi (pos n)) e
  where
    go : (b : Bool) → keep b (pos n) ≡ some w → pos (nat_abs w) ≡ w
    go true e = let q : pos n ≡ w = cc in rw (sym q) refl
    go false e = let z : ◌≡◌ {A = ℕ} 0 1 = cc in absurd (omega arith)
kept_low (negsuc n) w hi e = let z : ◌≡◌ {A = ℕ} 0 1 = cc in absurd (omega arith)

not_below : (o : Option ℤ) (w hi : ℤ) → ranged (pos 0) hi o ≡ some w → pos (nat_abs w) ≡ w
not_below none w hi e = let z : ◌≡◌ {A = ℕ} 0 1 = cc in absurd (omega arith)
not_below (some z) w hi e = kept_low z w hi e

module _ (f : List ℕ) where
  abbrev Reads : ℤ → Class → Range → Type 0
  Reads z k r = ranged r.low r.high (read_number f) ≡ some z → Held k f (z ∷ [])

  abbrev Fails : Class → Range → Type 0
  Fails k r = ranged r.low r.high (read_number f) ≡ none → field_of k f ≡ none

  held : (k : Class) (z lo hi : ℤ) → field_of k f ≡ as_number (ranged lo hi (read_number f)) → ranged lo hi (read_number f) ≡ some z → Held k f (z ∷ [])
  unfolding field_slots
  held k z lo hi q e = record { field = a_number z; is = q ∙ rw e refl; slot = refl }

  pub plain_reads : (c : coded.Class) (z : ℤ) → (c ≡ Delay → get_or f 0 0 ≡ 80 → ⊥) → Reads z (class_of c) (range_of c)
  unfolding field_of field_slots delay_slot
  plain_reads c z n =
      by_class (Reads z) c (held figure z (neg_ℤ (pos 9000000000000)) (pos 9000000000000) refl)
      (λ q e. record {
        field = a_delay (months (nat_abs z));
        is = rw (no_setting f (n q), e) refl;
        slot = rw (not_below (read_number f) z (pos 600) e) refl;
      })
      (held label z (pos 0) (pos 7) refl) (held from_node z (neg_ℤ (pos 60)) (pos 600) refl) (held divisor z (pos 1) (pos 9000000000000) refl) (held party z (pos 1) (pos 9) refl)

  fails : (k : Class) (lo hi : ℤ) → field_of k f ≡ as_number (ranged lo hi (read_number f)) → ranged lo hi (read_number f) ≡ none → field_of k f ≡ none
  fails k lo hi q e = q ∙ rw e refl

  pub plain_fails : (c : coded.Class) → (c ≡ Delay → get_or f 0 0 ≡ 80 → ⊥) → Fails (class_of c) (range_of c)
  unfolding field_of
  plain_fails c n =
      by_class Fails c (fails figure (neg_ℤ (pos 9000000000000)) (pos 9000000000000) refl) (λ q e. rw (no_setting f (n q), e) refl)
      (fails label (pos 0) (pos 7) refl) (fails from_node (neg_ℤ (pos 60)) (pos 600) refl) (fails divisor (pos 1) (pos 9000000000000) refl) (fails party (pos 1) (pos 9) refl)

  -- every number that is read is a figure, and nothing else is one
  pub figure_reads : (z : ℤ) → nat_abs z ≤ 9000000000000 → read_number f ≡ some z → Held figure f (z ∷ [])
  unfolding field_of
  figure_reads z h e = held figure z (neg_ℤ (pos 9000000000000)) (pos 9000000000000) refl (rw (e, figure_in z h) refl)

  pub figure_fails : BeyondZ (read_number f) → field_of figure f ≡ none
  unfolding field_of
  figure_fails h = fails figure (neg_ℤ (pos 9000000000000)) (pos 9000000000000) refl (ranged_beyond (range_of Figure) (limited Figure) (read_number f) h)

  -- and one from 1 on is a divisor
  pub divisor_reads : (z : ℤ) → nat_abs z ≤ 9000000000000 → lt_z z (pos 1) ≡ false → read_number f ≡ some z → Held divisor f (z ∷ [])
  unfolding field_of
  divisor_reads z h l e = held divisor z (pos 1) (pos 9000000000000) refl (rw (e, ge_le z (pos 1) l, high_in z h) refl)
