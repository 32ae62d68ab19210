-- Laws of settings as the code reads them: P and a digit, alone or in a row with plus signs.
use Prim.Native.Nat.{◌+◌, ◌*◌, ◌-◌, ◌<◌, ◌^◌, ◌≤◌, min, suc, ℕ}
use borrow.Author.Tests.{eqb-false, eqb-true, le-leb, le-ltb, leb-false, leb-true, lt-leb, lt-ltb, ltb-false, ltb-true, ne_eqb}
use lib.Dec.{eqb, leb, ltb}
use lib.IntN.{neg_ℤ, pos, ℤ}
use lib.ListN.{drop, get_or, length, length-drop}
use mathlib.Core.Bool.{Bool, ◌||◌, cond, false, true}
use mathlib.Core.List.{List, [], ◌∷◌}
use mathlib.Core.Option.{Option, none, some}
use mathlib.Core.Path.{◌∙◌, ◌≡◌, ap, refl, sym}
use native.Mathlib.Omega.{arith}
use Rattle.language.specs.Text.Classes.{a_delay, as_delay, field_of, read_setting}
use Rattle.language.specs.Text.Letters.{delay}
use Rattle.language.specs.Text.Number.{read_natural, read_number}
use Rattle.language.specs.Text.Trees.{setting}
use Rattle.nodes.specs.Rows.{delay_slot, field_slots}
use Rattle.fields.specs.Positions.{up_to}
use Rattle.fields.specs.Settings.{Summed, one_more, settings_from}
use Rattle.fields.proofs.ClassLaws.{Held, and_false}
use Rattle.fields.proofs.Positions.{head_le, head_ne, up_length, up_more, up_two}

-- ---- P and a digit

pub P-low : (l : List ℕ) → get_or l 0 0 < 48 → read_setting (80 ∷ l) ≡ none
unfolding read_setting
P-low [] h = refl
P-low (b ∷ []) h = rw (lt-leb 48 b h) refl
P-low (b ∷ c ∷ r) h = refl

pub P-high : (l : List ℕ) → 55 < get_or l 0 0 → read_setting (80 ∷ l) ≡ none
unfolding read_setting
P-high [] h = refl
P-high (b ∷ []) h = let k : 48 ≤ b = omega arith in rw (le-leb 48 b k, lt-leb b 55 h) refl
P-high (b ∷ c ∷ r) h = refl

pub P-long : (l : List ℕ) → 1 < length l → read_setting (80 ∷ l) ≡ none
unfolding read_setting
P-long [] h = refl
P-long (b ∷ []) h = absurd (omega arith)
P-long (b ∷ c ∷ r) h = refl

pub P-digit : (b : ℕ) → 48 ≤ b → b ≤ 55 → read_setting (80 ∷ b ∷ []) ≡ some (b - 48)
unfolding read_setting
P-digit b l h = rw (le-leb 48 b l, le-leb b 55 h) refl

-- ---- as a delay: such a field is no number

delay_p : (l : List ℕ) → field_of delay (80 ∷ l) ≡ as_delay (read_setting (80 ∷ l)) none
unfolding field_of read_number read_natural
delay_p l = refl

pub setting_fails : (f l : List ℕ) → f ≡ 80 ∷ l → read_setting (80 ∷ l) ≡ none → field_of delay f ≡ none
setting_fails f l e h = ap (field_of delay) e ∙ delay_p l ∙ rw h refl

pub setting_held : (f : List ℕ) (b : ℕ) (z : ℤ) → f ≡ 80 ∷ b ∷ [] → 48 ≤ b → b ≤ 55 → z ≡ neg_ℤ (pos (b - 47)) → Held delay f (z ∷ [])
unfolding field_slots delay_slot
setting_held f b z e l h q =
    let k : b - 47 ≡ suc (b - 48) = omega arith in
    record {
      field = a_delay (setting (b - 48));
      is = ap (field_of delay) e ∙ delay_p (b ∷ []) ∙ rw (P-digit b l h) refl;
      slot = rw (q, k) refl;
    }

-- ---- in a row: three bytes each

-- bytes are below 256, so only `+P` comes to this number
plus_p : (x y : ℕ) → x < 256 → x + 256 * y ≡ 20523 → (x ≡ 43) × (y ≡ 80)
plus_p x y h e = (omega arith, omega arith)

-- a byte that is neither below the lowest that may come nor above 7
pub row_inside : (c low : ℕ) → (ltb c low || ltb 55 c) ≡ false → (low ≤ c) × (c ≤ 55)
row_inside c low = go (ltb c low) refl
  where
    go : (q : Bool) → ltb c low ≡ q → (q || ltb 55 c) ≡ false → (low ≤ c) × (c ≤ 55)
    go true q o = let z : ◌≡◌ {A = ℕ} 0 1 = cc in absurd (omega arith)
    go false q o = (ltb-false c low q, ltb-false 55 c o)

either_none : (b : Bool) (o : Option ℕ) → o ≡ none → cond b o none ≡ none
either_none true o e = e
either_none false o e = refl

-- behind 31 settings comes no other
none_more : (low n : ℕ) (o : Option ℕ) (next : ℕ → Option ℕ) → 31 ≤ n → one_more low n o next ≡ none
none_more low n none next h = refl
none_more low n (some k) next h = rw (le-ltb n 31 h, and_false (leb low k)) refl

module _ (low n slot : ℕ) where
  row_short : (l : List ℕ) → 0 < length l → length l < 3 → settings_from low n slot l ≡ none
  unfolding settings_from
  row_short [] h k = absurd (omega arith)
  row_short (x ∷ []) h k = refl
  row_short (x ∷ y ∷ []) h k = refl
  row_short (x ∷ y ∷ c ∷ rest) h k = absurd (omega arith)

  row_many : (l : List ℕ) → 0 < length l → 31 ≤ n → settings_from low n slot l ≡ none
  unfolding settings_from
  row_many [] h k = absurd (omega arith)
  row_many (x ∷ []) h k = refl
  row_many (x ∷ y ∷ []) h k = refl
  row_many (x ∷ y ∷ c ∷ rest) h k = either_none (eqb x 43) _ (none_more low n (read_setting (y ∷ c ∷ [])) _ k)

  pub row_plus : (l : List ℕ) → 0 < length l → (get_or l 0 0 ≡ 43 → ⊥) → settings_from low n slot l ≡ none
  unfolding settings_from
  row_plus [] h k = absurd (omega arith)
  row_plus (x ∷ []) h k = refl
  row_plus (x ∷ y ∷ []) h k = refl
  row_plus (x ∷ y ∷ c ∷ rest) h k = rw (ne_eqb x 43 k) refl

  row_p : (l : List ℕ) → (get_or l 0 0 ≡ 80 → ⊥) → settings_from low n slot (43 ∷ l) ≡ none
  unfolding settings_from read_setting
  row_p [] k = refl
  row_p (y ∷ []) k = refl
  row_p (y ∷ c ∷ rest) k = rw (ne_eqb y 80 k) refl

  row_no : (l : List ℕ) → ((c : ℕ) → get_or l 0 0 ≡ c → read_setting (80 ∷ c ∷ []) ≡ none) → settings_from low n slot (43 ∷ 80 ∷ l) ≡ none
  unfolding settings_from
  row_no [] k = refl
  row_no (c ∷ rest) k = rw (k c refl) refl

  module _ (c : ℕ) (rest : List ℕ) (l : 48 ≤ c) (h : c ≤ 55) where
    row_low : c - 48 < low → settings_from low n slot (43 ∷ 80 ∷ c ∷ rest) ≡ none
    unfolding settings_from
    row_low k = rw (P-digit c l h, lt-leb low (c - 48) k) refl

    row_more : low ≤ c - 48 → n < 31 → settings_from low n slot (43 ∷ 80 ∷ c ∷ rest) ≡ settings_from (c - 48) (n + 1) (slot + 32 ^ (c - 48)) rest
    unfolding settings_from
    row_more k m = rw (P-digit c l h, le-leb low (c - 48) k, lt-ltb n 31 m) refl

-- ---- in a text: from byte `at` on, where the row has come to byte i

abbrev pub field_at : List ℕ → ℕ → List ℕ
field_at text i = up_to 44 (drop i text)

-- n settings have been read, and slot is what they come to
pub record Rowing (text : List ℕ) (at low slot i : ℕ) : Type 0 where
  pub n : ℕ
  pub far : i ≡ at + 3 * n
  pub same : settings_from 0 0 0 (field_at text at) ≡ settings_from (low - 48) n slot (field_at text i)
  pub place : at + length (field_at text at) ≡ i + length (field_at text i)

pub row_start : (text : List ℕ) (at : ℕ) → Rowing text at 48 0 at
row_start text at = record { n = 0; far = omega arith; same = refl; place = refl }

module _ (text : List ℕ) (at low slot i : ℕ) (r : Rowing text at low slot i) where
  pub row_done : (z : ℤ) → z ≡ pos slot → field_at text i ≡ [] → Summed (field_at text at) at z (i + 1)
  unfolding settings_from
  row_done z q e = record {
    slot = slot;
    is = r.same ∙ ap (settings_from (low - 48) r.n slot) e;
    value = q;
    ends = let k : length (field_at text i) ≡ 0 = ap length e in omega (arith, r.place);
  }

  -- ---- no comma follows

  module _ (h : i < length text) (m : get_or text i 0 ≡ 44 → ⊥) where
    here : field_at text i ≡ get_or text i 0 ∷ field_at text (i + 1)
    here = up_more 44 text i h m m

    some_byte : 0 < length (field_at text i)
    some_byte = let k : length (field_at text i) ≡ suc (length (field_at text (i + 1))) = ap length here in omega arith

    -- fewer than three bytes, or behind 31 settings
    pub row_last : min (length text) (at + 93) < i + 3 → settings_from 0 0 0 (field_at text at) ≡ none
    row_last k = go (leb 31 r.n) refl
      where
        go : (q : Bool) → leb 31 r.n ≡ q → settings_from 0 0 0 (field_at text at) ≡ none
        go true q = r.same ∙ row_many (low - 48) r.n slot (field_at text i) some_byte (leb-true 31 r.n q)
        go false q =
            let few : r.n < 31 = leb-false 31 r.n q in
            r.same ∙ row_short (low - 48) r.n slot (field_at text i) some_byte (omega (arith, r.far, up_length 44 (drop i text), length-drop i text))

    row_no_p : get_or text i 0 ≡ 43 → i + 1 < length text → (get_or text (i + 1) 0 ≡ 80 → ⊥) → settings_from 0 0 0 (field_at text at) ≡ none
    row_no_p e l k =
        r.same ∙ ap (settings_from (low - 48) r.n slot) (here ∙ ap (λ (b : ℕ). b ∷ field_at text (i + 1)) e)
        ∙ row_p (low - 48) r.n slot (field_at text (i + 1)) (head_ne 44 text (i + 1) 80 l k (omega arith))

    pub row_other : i + 1 < length text → (get_or text i 0 + 256 * get_or text (i + 1) 0 ≡ 20523 → ⊥) → settings_from 0 0 0 (field_at text at) ≡ none
    row_other l k = go (eqb (get_or text i 0) 43) refl
      where
        go : (q : Bool) → eqb (get_or text i 0) 43 ≡ q → settings_from 0 0 0 (field_at text at) ≡ none
        go true q = let e : get_or text i 0 ≡ 43 = eqb-true _ 43 q in row_no_p e l (λ p. k (omega arith))
        go false q =
            r.same ∙ ap (settings_from (low - 48) r.n slot) here
            ∙ row_plus (low - 48) r.n slot (get_or text i 0 ∷ field_at text (i + 1)) (omega arith) (eqb-false _ 43 q)

  -- ---- `+P` follows, and a third byte

  module _ (long : i + 2 < length text) (byte : get_or text i 0 < 256) (s : get_or text i 0 + 256 * get_or text (i + 1) 0 ≡ 20523) where
    two : settings_from 0 0 0 (field_at text at) ≡ settings_from (low - 48) r.n slot (43 ∷ 80 ∷ field_at text (i + 2))
    two =
        let p : (get_or text i 0 ≡ 43) × (get_or text (i + 1) 0 ≡ 80) = plus_p _ _ byte s in
        r.same ∙ ap (settings_from (low - 48) r.n slot) (up_two 44 text i (omega arith) (λ q. omega arith) (λ q. omega arith) (λ q. omega arith) (λ q. omega arith)
        ∙ ap (λ (b : ℕ). b ∷ get_or text (i + 1) 0 ∷ field_at text (i + 2)) p.0 ∙ ap (λ (b : ℕ). 43 ∷ b ∷ field_at text (i + 2)) p.1)

    row_no_digit : get_or text (i + 2) 0 < 48 → settings_from 0 0 0 (field_at text at) ≡ none
    row_no_digit k =
        two ∙ row_no (low - 48) r.n slot (field_at text (i + 2)) (λ c q. P-low (c ∷ []) (omega (arith, head_le 44 text (i + 2) long)))

    module _ (d : 48 ≤ get_or text (i + 2) 0) where
      three : settings_from 0 0 0 (field_at text at) ≡ settings_from (low - 48) r.n slot (43 ∷ 80 ∷ get_or text (i + 2) 0 ∷ field_at text (i + 3))
      three =
          let q : i + 2 + 1 ≡ i + 3 = omega arith in
          two ∙ ap (λ (l : List ℕ). settings_from (low - 48) r.n slot (43 ∷ 80 ∷ l)) (up_more 44 text (i + 2) long (λ x. omega arith) (λ x. omega arith)
          ∙ ap (λ (k : ℕ). get_or text (i + 2) 0 ∷ field_at text k) q)

      row_over : 55 < get_or text (i + 2) 0 → settings_from 0 0 0 (field_at text at) ≡ none
      row_over k = three ∙ row_no (low - 48) r.n slot (get_or text (i + 2) 0 ∷ field_at text (i + 3)) (λ c q. P-high (c ∷ []) (omega arith))

      row_falls : get_or text (i + 2) 0 ≤ 55 → 48 ≤ low → get_or text (i + 2) 0 < low → settings_from 0 0 0 (field_at text at) ≡ none
      row_falls t b k = three ∙ row_low (low - 48) r.n slot (get_or text (i + 2) 0) (field_at text (i + 3)) d t (omega arith)

    row_below : 48 ≤ low → low ≤ 55 → get_or text (i + 2) 0 < low → settings_from 0 0 0 (field_at text at) ≡ none
    row_below b t k = go (leb 48 (get_or text (i + 2) 0)) refl
      where
        go : (q : Bool) → leb 48 (get_or text (i + 2) 0) ≡ q → settings_from 0 0 0 (field_at text at) ≡ none
        go true q = let d : 48 ≤ get_or text (i + 2) 0 = leb-true 48 _ q in row_falls d (omega arith) b k
        go false q = row_no_digit (leb-false 48 _ q)

    pub row_outside : 48 ≤ low → low ≤ 55 → (ltb (get_or text (i + 2) 0) low || ltb 55 (get_or text (i + 2) 0)) ≡ true → settings_from 0 0 0 (field_at text at) ≡ none
    row_outside b t = go (ltb (get_or text (i + 2) 0) low) refl
      where
        go : (q : Bool) → ltb (get_or text (i + 2) 0) low ≡ q → (q || ltb 55 (get_or text (i + 2) 0)) ≡ true → settings_from 0 0 0 (field_at text at) ≡ none
        go true q o = row_below b t (ltb-true _ low q)
        go false q o = let k : low ≤ get_or text (i + 2) 0 = ltb-false _ low q in row_over (omega arith) (ltb-true 55 _ o)

    pub row_next : (w : ℕ) → w ≡ 32 ^ (get_or text (i + 2) 0 - 48) → 48 ≤ low → low ≤ get_or text (i + 2) 0 → get_or text (i + 2) 0 ≤ 55 → i + 3 ≤ at + 93
        → Rowing text at (get_or text (i + 2) 0) (slot + w) (i + 3)
    row_next w q b k t f =
        let p : (get_or text i 0 ≡ 43) × (get_or text (i + 1) 0 ≡ 80) = plus_p _ _ byte s in
        let byte3 : i + 2 + 1 ≡ i + 3 = omega arith in
        let len1 : length (field_at text i) ≡ suc (suc (length (field_at text (i + 2)))) = ap length (up_two 44 text i (omega arith) (λ q. omega arith) (λ q. omega arith) (λ q. omega arith) (λ q. omega arith)) in
        let len2 : length (field_at text (i + 2)) ≡ suc (length (field_at text (i + 3))) =
        ap length (up_more 44 text (i + 2) long (λ x. omega arith) (λ x. omega arith)) ∙ ap (λ (k : ℕ). suc (length (field_at text k))) byte3 in
        record {
          n = r.n + 1;
          far = omega (arith, r.far);
          same = three (omega arith) ∙ row_more (low - 48) r.n slot (get_or text (i + 2) 0) (field_at text (i + 3)) (omega arith) t (omega arith) (omega (arith, r.far))
              ∙ ap (λ (v : ℕ). settings_from (get_or text (i + 2) 0 - 48) (r.n + 1) (slot + v) (field_at text (i + 3))) (sym q);
          place = omega (arith, r.place);
        }
