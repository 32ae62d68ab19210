-- Laws of fields in their places: the field at a byte, and several, one after the other.
use Prim.Native.Nat.{◌+◌, ◌-◌, ◌<◌, ◌≤◌, ℕ}
use lib.IntN.{pos, ℤ}
use lib.ListN.{drop, get_or, length}
use mathlib.Core.List.{List, [], ◌∷◌}
use mathlib.Core.Option.{none, some}
use mathlib.Core.Path.{◌∙◌, ◌≡◌, ap, refl, subst, sym}
use native.Mathlib.Omega.{arith}
use Rattle.language.specs.Answer.{got, refused}
use Rattle.language.specs.Text.Classes.{Field, field_of}
use Rattle.language.specs.Text.Letters.{Class, month}
use Rattle.language.specs.Text.Reader.{read_fields}
use Rattle.nodes.specs.Rows.{slots_of}
use Rattle.fields.specs.Classes.{class_of, range_of}
use Rattle.fields.specs.Fields.{DigitIs, Four, Malformed, MonthIs, MonthTried, PairIs, ReadUpTo, SlotsAre, SlotsTried, Taken, TakenIs, TriedIs, Two, behind, classes_of_three, classes_of_two, first_as, is_month}
use Rattle.fields.specs.Positions.{fields_from, up_to}
use Rattle.fields.proofs.ClassLaws.{Held, number_digit, plain_fails, plain_reads}
use Rattle.fields.proofs.Positions.{first_field, from_behind, up_comma, up_end, up_fits, up_more}
use Rattle.std.specs.Prelude.{None, Option, Some}
use Rattle.fields.specs.declared.field.Class as coded
use Rattle.fields.specs.declared.field.Class.TheVariants.{Delay, Divisor, Figure, FromNode, Label, Month, Party}
use Rattle.fields.specs.declared.field.Taking.{Taking}
use mathlib.Core.Bool.{false}
use Rattle.fields.specs.declared.slots.Slots.{Slots}
use Rattle.fields.specs.declared.slots.TakingTwo.{TakingTwo}

-- ---- the field at a byte

module _ (k : Class) (text : List ℕ) (at : ℕ) where
  pub taken_at : (slots : List ℤ) (next : ℕ) → at ≤ length text → next ≡ at + length (up_to 44 (drop at text)) + 1 → Held k (up_to 44 (drop at text)) slots → Taken k text at slots next
  taken_at slots next h q held = record {
    field = held.field;
    is = ap (first_as k) (first_field text at h) ∙ held.is;
    rest = ap behind (first_field text at h) ∙ ap (fields_from text) (omega arith);
    slot = held.slot;
    onward = omega (arith, q);
    within = omega (arith, up_fits 44 text at h);
  }

  pub failed_at : at ≤ length text → field_of k (up_to 44 (drop at text)) ≡ none → first_as k (fields_from text at) ≡ none
  failed_at h e = ap (first_as k) (first_field text at h) ∙ e

  pub failed_behind : length text < at → first_as k (fields_from text at) ≡ none
  failed_behind h = ap (first_as k) (from_behind text at h)

-- a field of one digit
pub digit_taken : (text : List ℕ) (at : ℕ) (class : coded.Class) (b : ℕ) → at < length text → 48 ≤ b → b ≤ 57 → up_to 44 (drop at text) ≡ b ∷ []
    → (r : Option Taking) → DigitIs (range_of class) (b - 48) (at + 2) r → TakenIs (class_of class) text at r
digit_taken text at class b h l m e (Some it) d =
    let k : length (up_to 44 (drop at text)) ≡ 1 = ap length e in
    taken_at (class_of class) text at (it.value ∷ []) it.next (omega arith) (omega (arith, d.ends))
    (plain_reads _ class it.value (λ q p. omega (arith, sym (ap (λ (f : List ℕ). get_or f 0 0) e) ∙ p)) (rw (number_digit _ b e l m) d.is))
digit_taken text at class b h l m e None d =
    failed_at (class_of class) text at (omega arith)
    (plain_fails _ class (λ q p. omega (arith, sym (ap (λ (f : List ℕ). get_or f 0 0) e) ∙ p)) (rw (number_digit _ b e l m) d))

-- .. in front of a comma, where any other is not told
pub digit_alone : (text : List ℕ) (at : ℕ) → at + 2 ≤ length text → 48 ≤ get_or text at 0 → get_or text (at + 1) 0 ≡ 44 → up_to 44 (drop at text) ≡ get_or text at 0 ∷ []
digit_alone text at h l comma =
    up_more 44 text at (omega arith) (λ e. omega arith) (λ e. omega arith) ∙ ap (λ (l : List ℕ). get_or text at 0 ∷ l) (up_comma 44 text (at + 1) (omega arith) comma)

module _ (text : List ℕ) (at : ℕ) (class : coded.Class) (l : 48 ≤ get_or text at 0) (m : get_or text at 0 ≤ 57) where
  digit_told : at < length text → up_to 44 (drop at text) ≡ get_or text at 0 ∷ [] → (r : Option Taking) → DigitIs (range_of class) (get_or text at 0 - 48) (at + 2) r
      → TriedIs (class_of class) text at r
  digit_told h e (Some it) d = (digit_taken text at class (get_or text at 0) h l m e (Some (record { value = it.value; next = it.next })) d, d.ends)
  digit_told h e None d = tt

  pub digit_tried : at + 2 ≤ length text → get_or text (at + 1) 0 ≡ 44 → (r : Option Taking) → DigitIs (range_of class) (get_or text at 0 - 48) (at + 2) r
      → TriedIs (class_of class) text at r
  digit_tried h comma r d = digit_told (omega (arith, h)) (digit_alone text at h l comma) r d

  -- .. at the text's end
  pub digit_last : at + 1 ≡ length text → (r : Option Taking) → DigitIs (range_of class) (get_or text at 0 - 48) (at + 2) r → TriedIs (class_of class) text at r
  digit_last h r d =
      digit_told (omega (arith, h))
      (up_more 44 text at (omega (arith, h)) (λ e. omega (arith, e, l)) (λ e. omega (arith, e, l)) ∙ ap (λ (f : List ℕ). get_or text at 0 ∷ f) (up_end 44 text (at + 1) (omega (arith, h)))) r d

-- ---- several fields

-- a first field that is not of its class
malformed_first : (k : Class) (ks : List Class) (n : ℕ) (fs : List (List ℕ)) → first_as k fs ≡ none → read_fields (k ∷ ks) (record { nodes = n; fields = fs }) ≡ refused 2
unfolding read_fields
malformed_first k ks n [] e = refl
malformed_first k ks n (f ∷ fs) e = rw e refl

first_then : (k : Class) (ks : List Class) (n : ℕ) (fs rest : List (List ℕ)) (v : Field) (vs : List Field) → first_as k fs ≡ some v
    → read_fields ks (record { nodes = n; fields = behind fs }) ≡ got (record { value = vs; rest = record { nodes = n; fields = rest } })
    → read_fields (k ∷ ks) (record { nodes = n; fields = fs }) ≡ got (record { value = v ∷ vs; rest = record { nodes = n; fields = rest } })
unfolding read_fields
first_then k ks n [] rest v vs e h = let z : ◌≡◌ {A = ℕ} 0 1 = cc in absurd (omega arith)
first_then k ks n (f ∷ fs) rest v vs e h = rw (e, h) refl

first_fails : (k : Class) (ks : List Class) (n : ℕ) (fs : List (List ℕ)) (v : Field) → first_as k fs ≡ some v
    → read_fields ks (record { nodes = n; fields = behind fs }) ≡ refused 2 → read_fields (k ∷ ks) (record { nodes = n; fields = fs }) ≡ refused 2
unfolding read_fields
first_fails k ks n [] v e h = let z : ◌≡◌ {A = ℕ} 0 1 = cc in absurd (omega arith)
first_fails k ks n (f ∷ fs) v e h = rw (e, h) refl

module _ (text : List ℕ) (at : ℕ) where
  pub read_none : at ≤ length text + 1 → ReadUpTo [] text at [] at
  unfolding read_fields
  read_none h = record { is = λ n. refl; onward = omega arith; within = h }

  module _ (k : Class) (ks : List Class) where
    pub bad_first : first_as k (fields_from text at) ≡ none → Malformed (k ∷ ks) text at
    bad_first e = record { is = λ n. malformed_first k ks n (fields_from text at) e }

    module _ (slots : List ℤ) (next : ℕ) (t : Taken k text at slots next) where
      pub read_more : (values : List Field) (end : ℕ) → ReadUpTo ks text next values end → ReadUpTo (k ∷ ks) text at (t.field ∷ values) end
      read_more values end r = record {
        is = λ n. first_then k ks n (fields_from text at) (fields_from text end) t.field values t.is (rw t.rest (r.is n));
        onward = omega (arith, t.onward, r.onward);
        within = r.within;
      }

      pub bad_later : Malformed ks text next → Malformed (k ∷ ks) text at
      bad_later b = record { is = λ n. first_fails k ks n (fields_from text at) t.field t.is (rw t.rest (b.is n)) }

-- ---- up to two fields, and up to three

pub no_month : (c : coded.Class) → (c ≡ Month → ⊥) → is_month c ≡ false
no_month Figure m = refl
no_month Delay m = refl
no_month Party m = refl
no_month Label m = refl
no_month FromNode m = refl
no_month Divisor m = refl
no_month Month m = absurd (m refl)

pub party_alone : Party ≡ Month → ⊥
party_alone e = let z : ◌≡◌ {A = ℕ} 0 1 = cc in absurd (omega arith)

module _ (text : List ℕ) (at : ℕ) where
  pub two_none : (c d : Option coded.Class) → c ≡ None → at ≤ length text + 1 → Two (classes_of_two c d) text at (pos 0) (pos 0) at
  unfolding classes_of_two slots_of
  two_none c d e h = rw e (record { values = []; all = read_none text at h; first = refl; second = refl; third = refl })

  pub month_alone : (c : coded.Class) (d : Option coded.Class) → c ≡ Month → classes_of_two (Some c) d ≡ month ∷ []
  unfolding classes_of_two
  month_alone c d e = rw e refl

  pub two_month : (r : Option TakingTwo) → MonthIs text at r → PairIs (month ∷ []) text at r
  unfolding slots_of
  two_month (Some it) t = record {
    values = t.field ∷ [];
    all = read_more text at month [] _ it.next t [] it.next (read_none text it.next t.within);
    first = rw t.slot refl;
    second = rw t.slot refl;
    third = rw t.slot refl;
  }
  two_month None e = bad_first text at month [] e

  -- a field with none behind it
  alone : (k : Class) (a : ℤ) (next : ℕ) → Taken k text at (a ∷ []) next → Two (k ∷ []) text at a (pos 0) next
  unfolding slots_of
  alone k a next t = record {
    values = t.field ∷ [];
    all = read_more text at k [] _ next t [] next (read_none text next t.within);
    first = rw t.slot refl;
    second = rw t.slot refl;
    third = rw t.slot refl;
  }

  module _ (c : coded.Class) (d : Option coded.Class) (m : c ≡ Month → ⊥) where
    pub one_class : d ≡ None → classes_of_two (Some c) d ≡ class_of c ∷ []
    unfolding classes_of_two
    one_class e = rw (no_month c m, e) refl

    pub two_classes : (k : coded.Class) → d ≡ Some k → classes_of_two (Some c) d ≡ class_of c ∷ class_of k ∷ []
    unfolding classes_of_two
    two_classes k e = rw (no_month c m, e) refl

    pub two_first_bad : first_as (class_of c) (fields_from text at) ≡ none → Malformed (classes_of_two (Some c) d) text at
    unfolding classes_of_two
    two_first_bad e = rw (no_month c m) (bad_first text at (class_of c) _ e)

    module _ (a : ℤ) (next : ℕ) (t : Taken (class_of c) text at (a ∷ []) next) where
      pub two_one : (z : ℤ) → z ≡ a → d ≡ None → Two (classes_of_two (Some c) d) text at z (pos 0) next
      two_one z q e = rw (one_class e, q) (alone (class_of c) a next t)

      pub two_second_bad : (k : coded.Class) → d ≡ Some k → first_as (class_of k) (fields_from text next) ≡ none → Malformed (classes_of_two (Some c) d) text at
      two_second_bad k e h = rw (two_classes k e) (bad_later text at (class_of c) _ _ next t (bad_first text next (class_of k) [] h))

      pub two_two : (k : coded.Class) (b : ℤ) (end : ℕ) → Taken (class_of k) text next (b ∷ []) end → (y z : ℤ) → y ≡ a → z ≡ b → d ≡ Some k → Two (classes_of_two (Some c) d) text at y z end
      unfolding slots_of
      two_two k b end u y z p q e = rw (two_classes k e, p, q) (record {
        values = t.field ∷ u.field ∷ [];
        all = read_more text at (class_of c) _ _ next t _ end (read_more text next (class_of k) [] _ end u [] end (read_none text end u.within));
        first = rw t.slot refl;
        second = rw (t.slot, u.slot) refl;
        third = rw (t.slot, u.slot) refl;
      })

  pub four_none : (c d e : Option coded.Class) → c ≡ None → at ≤ length text + 1 → Four (classes_of_three c d e) text at (pos 0) (pos 0) (pos 0) (pos 0) at
  unfolding classes_of_three slots_of
  four_none c d e q h = rw q (record { values = []; all = read_none text at h; first = refl; second = refl; third = refl; fourth = refl })

  pub three_month : (c : coded.Class) (d e : Option coded.Class) → c ≡ Month → classes_of_three (Some c) d e ≡ month ∷ classes_of_two d e
  unfolding classes_of_three
  three_month c d e q = rw q refl

  pub three_field : (c : coded.Class) (d e : Option coded.Class) → (c ≡ Month → ⊥) → classes_of_three (Some c) d e ≡ class_of c ∷ classes_of_two d e
  unfolding classes_of_three
  three_field c d e m = rw (no_month c m) refl

  pub four_month : (ks : List Class) (a b c d : ℤ) (next end : ℕ) → Taken month text at (a ∷ b ∷ []) next → Two ks text next c d end
      → (w x y z : ℤ) → w ≡ a → x ≡ b → y ≡ c → z ≡ d → Four (month ∷ ks) text at w x y z end
  unfolding slots_of
  four_month ks a b c d next end t r w x y z p q p' q' = rw (p, q, p', q') (record {
    values = t.field ∷ r.values;
    all = read_more text at month ks _ next t _ end r.all;
    first = rw t.slot refl;
    second = rw t.slot refl;
    third = rw t.slot r.first;
    fourth = rw t.slot r.second;
  })

  pub four_field : (k : Class) (ks : List Class) (a b c : ℤ) (next end : ℕ) → Taken k text at (a ∷ []) next → Two ks text next b c end
      → (x y z : ℤ) → x ≡ a → y ≡ b → z ≡ c → Four (k ∷ ks) text at x y z (pos 0) end
  unfolding slots_of
  four_field k ks a b c next end t r x y z p q p' = rw (p, q, p') (record {
    values = t.field ∷ r.values;
    all = read_more text at k ks _ next t _ end r.all;
    first = rw t.slot refl;
    second = rw t.slot r.first;
    third = rw t.slot r.second;
    fourth = rw t.slot r.third;
  })

  -- ---- one field

  pub four_one : (k : Class) (a : ℤ) (next : ℕ) → Taken k text at (a ∷ []) next → (x : ℤ) → x ≡ a → Four (k ∷ []) text at x (pos 0) (pos 0) (pos 0) next
  unfolding slots_of
  four_one k a next t x p = rw p (record {
    values = t.field ∷ [];
    all = read_more text at k [] _ next t [] next (read_none text next t.within);
    first = rw t.slot refl;
    second = rw t.slot refl;
    third = rw t.slot refl;
    fourth = rw t.slot refl;
  })

  -- ---- fields of one digit, where any others are not told

  module _ (r : Option Taking) (a : ℤ) (next : ℕ) (e : r ≡ Some (record { value = a; next = next })) where
    pub tried_alone : (k : Class) → TriedIs k text at r → Two (k ∷ []) text at a (pos 0) next
    tried_alone k h = alone k a next (subst (TriedIs k text at) e h).0

    pub tried_month : MonthTried text at r → Two (month ∷ []) text at a (pos 0) next
    tried_month h = two_month (Some (record { a = a; b = pos 0; next = next })) (subst (MonthTried text at) e h).0

    -- the first of two: the other stands behind its comma
    pub tried_first : (k : Class) (ks : List Class) → TriedIs k text at r → (b : ℤ) (end : ℕ) → Two ks text (at + 2) b (pos 0) end
        → (x y : ℤ) → x ≡ a → y ≡ b → Four (k ∷ ks) text at x y (pos 0) (pos 0) end
    tried_first k ks h b end two x y p q =
        let t = subst (TriedIs k text at) e h in
        four_field k ks a b (pos 0) (at + 2) end (subst (λ (n : ℕ). Taken k text at (a ∷ []) n) t.1 t.0) two x y (pos 0) p q refl

-- where all is known of fields, something is
pub are_tried : (cs : List Class) (text : List ℕ) (at : ℕ) (r : Option Slots) → SlotsAre cs text at r → SlotsTried cs text at r
are_tried cs text at (Some it) f = f
are_tried cs text at None f = tt
