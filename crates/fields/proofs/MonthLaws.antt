-- Laws of a payoff's month: the row of settings as the code reads it is the definition's.
use Prim.Native.Nat.{◌+◌, ◌-◌, ◌<◌, ◌^◌, ◌≤◌, suc, ℕ}
use borrow.Author.Tests.{eq-eqb, eqb-false, eqb-true, le-leb, le-ltb, lt-leb, ltb-false, ltb-true, ne_eqb}
use lib.Dec.{eqb, leb, ltb}
use lib.IntN.{neg_ℤ, pos, ℤ}
use lib.ListN.{drop, get_or, length}
use lib.Seq.{drop-drop}
use mathlib.Core.Bool.{Bool, ◌&&◌, cond, false, true}
use mathlib.Core.List.{List, [], ◌∷◌}
use mathlib.Core.Option.{Option, none, some}
use mathlib.Core.Path.{◌∙◌, ◌≡◌, ap, refl, sym}
use native.Mathlib.Nat.{add_assoc, add-zero}
use native.Mathlib.Omega.{arith}
use Rattle.language.specs.Text.Classes.{a_month, add_setting, field_of, made_month, month_parts, ranged, read_setting, read_settings, rising, settings_in_order}
use Rattle.language.specs.Text.Fields.{in_front, split_at}
use Rattle.language.specs.Text.Letters.{month}
use Rattle.language.specs.Text.Number.{keep, read_number}
use Rattle.nodes.specs.Rows.{field_slots, settings_slot}
use Rattle.fields.specs.Fields.{Taken, behind}
use Rattle.fields.specs.Positions.{up_to}
use Rattle.fields.specs.Settings.{one_more, settings_from}
use Rattle.fields.proofs.ClassLaws.{Held, number_digit, ranged_in}
use Rattle.fields.proofs.FieldLaws.{digit_alone, taken_at}
use Rattle.fields.proofs.MonthParts.{Starts, later, parted}
use Rattle.fields.proofs.SettingLaws.{row_plus}

and_false : (b : Bool) → (b && false) ≡ false
and_false true = refl
and_false false = refl

-- ---- the row of settings

-- n settings have been read before, none above low, and they come to slot
abbrev summed : ℕ → ℕ → ℕ → Option (List ℕ) → Option ℕ
summed low n slot none = none
summed low n slot (some ks) = keep (leb (n + length ks) 31 && rising low ks) (slot + settings_slot ks)

-- one setting, then those behind it
one_then : (low n slot k : ℕ) (ks : List ℕ) → cond (leb low k && ltb n 31) (summed k (n + 1) (slot + 32 ^ k) (some ks)) none ≡ summed low n slot (some (k ∷ ks))
unfolding rising settings_slot
one_then low n slot k ks = go (leb low k) (ltb n 31) refl
  where
    more : n + suc (length ks) ≡ n + 1 + length ks
    more = omega arith

    sum : slot + 32 ^ k + settings_slot ks ≡ slot + (32 ^ k + settings_slot ks)
    sum = add_assoc slot (32 ^ k) (settings_slot ks)

    go : (a b : Bool) → ltb n 31 ≡ b → cond (a && b) (keep (leb (n + 1 + length ks) 31 && rising k ks) (slot + 32 ^ k + settings_slot ks)) none
        ≡ keep (leb (n + suc (length ks)) 31 && (a && rising k ks)) (slot + (32 ^ k + settings_slot ks))
    go true true e = rw (more, sum) refl
    go true false e = let h : 31 ≤ n = ltb-false n 31 e in rw (lt-leb (n + suc (length ks)) 31 (omega arith)) refl
    go false b e = rw (and_false (leb (n + suc (length ks)) 31)) refl

one_or_none : (low n slot k : ℕ) (o : Option (List ℕ)) → cond (leb low k && ltb n 31) (summed k (n + 1) (slot + 32 ^ k) o) none ≡ summed low n slot (add_setting (some k) o)
one_or_none low n slot k none = go (leb low k && ltb n 31)
  where
    go : (b : Bool) → ◌≡◌ {A = Option ℕ} (cond b none none) none
    go true = refl
    go false = refl
one_or_none low n slot k (some ks) = one_then low n slot k ks

more_none : (low n : ℕ) (o : Option ℕ) (next : ℕ → Option ℕ) → ((k : ℕ) → next k ≡ none) → one_more low n o next ≡ none
more_none low n none next h = refl
more_none low n (some k) next h = go (leb low k && ltb n 31)
  where
    go : (b : Bool) → cond b (next k) none ≡ none
    go true = h k
    go false = refl

-- the settings behind agree where there is room for one more
more_same : (low n slot : ℕ) (o : Option ℕ) (rest : List ℕ) (q : Option (List ℕ))
    → ((k : ℕ) → n + 1 ≤ 31 → settings_from k (n + 1) (slot + 32 ^ k) rest ≡ summed k (n + 1) (slot + 32 ^ k) q)
    → one_more low n o (λ k. settings_from k (n + 1) (slot + 32 ^ k) rest) ≡ summed low n slot (add_setting o q)
more_same low n slot none rest q h = refl
more_same low n slot (some k) rest q h = go (leb low k) (ltb n 31) refl ∙ one_or_none low n slot k q
  where
    go : (a b : Bool) → ltb n 31 ≡ b → cond (a && b) (settings_from k (n + 1) (slot + 32 ^ k) rest) none ≡ cond (a && b) (summed k (n + 1) (slot + 32 ^ k) q) none
    go true true e = let l : n < 31 = ltb-true n 31 e in h k (omega arith)
    go true false e = refl
    go false b e = refl

-- the first of the parts: two bytes, where nothing or a plus follows them
two_bytes : (y c : ℕ) (rest : List ℕ) → (y ≡ 43 → ⊥) → (c ≡ 43 → ⊥) → Starts rest → split_at 43 (y ∷ c ∷ rest) ≡ (y ∷ c ∷ []) ∷ behind (split_at 43 rest)
unfolding split_at
two_bytes y c [] n m s = rw (ne_eqb y 43 n, ne_eqb c 43 m) refl
two_bytes y c (d ∷ r) n m s = rw (ne_eqb y 43 n, ne_eqb c 43 m, eq-eqb d 43 s) refl

three_bytes : (y c d : ℕ) (parts : List (List ℕ)) → read_settings (in_front y (in_front c (in_front d parts))) ≡ none
unfolding read_settings read_setting
three_bytes y c d [] = refl
three_bytes y c d (f ∷ fs) = refl

no_plus : (y : ℕ) → read_setting (y ∷ 43 ∷ []) ≡ none
unfolding read_setting
no_plus y = rw (and_false (eqb y 80)) refl

-- the settings behind one of number k, where there is room for it
abbrev Behind : ℕ → ℕ → ℕ → List ℕ → Type 0
Behind n slot k rest = n + 1 ≤ 31 → settings_from k (n + 1) (slot + 32 ^ k) rest ≡ summed k (n + 1) (slot + 32 ^ k) (read_settings (behind (split_at 43 rest)))

module _ (low n slot y c : ℕ) (rest : List ℕ) where
  abbrev Same : Type 0
  Same = one_more low n (read_setting (y ∷ c ∷ [])) (λ k. settings_from k (n + 1) (slot + 32 ^ k) rest) ≡ summed low n slot (read_settings (split_at 43 (y ∷ c ∷ rest)))

  at_once : y ≡ 43 → Same
  unfolding split_at read_settings read_setting
  at_once e = rw e refl

  after_one : (y ≡ 43 → ⊥) → c ≡ 43 → Same
  unfolding split_at read_settings read_setting
  after_one n e = rw (e, no_plus y, ne_eqb y 43 n) refl

  after_two : (y ≡ 43 → ⊥) → (c ≡ 43 → ⊥) → Starts rest
      → ((k : ℕ) → Behind n slot k rest) → Same
  unfolding read_settings
  after_two p q s h =
      more_same low n slot (read_setting (y ∷ c ∷ [])) rest (read_settings (behind (split_at 43 rest))) h
      ∙ ap (λ (ps : List (List ℕ)). summed low n slot (read_settings ps)) (sym (two_bytes y c rest p q s))

after_three : (low n slot y c d : ℕ) (r : List ℕ) → (y ≡ 43 → ⊥) → (c ≡ 43 → ⊥) → (d ≡ 43 → ⊥) → Same low n slot y c (d ∷ r)
unfolding split_at
after_three low n slot y c d r p q m =
    more_none low n (read_setting (y ∷ c ∷ [])) (λ k. settings_from k (n + 1) (slot + 32 ^ k) (d ∷ r)) (λ k. row_plus k (n + 1) (slot + 32 ^ k) (d ∷ r) (omega arith) m)
    ∙ rw (ne_eqb y 43 p, ne_eqb c 43 q, ne_eqb d 43 m, three_bytes y c d (split_at 43 r)) refl

starts_or : (rest : List ℕ) (Q : List ℕ → Type 0) → (Starts rest → Q rest) → ((d : ℕ) (r : List ℕ) → (d ≡ 43 → ⊥) → Q (d ∷ r)) → Q rest
starts_or [] Q h k = h tt
starts_or (d ∷ r) Q h k = go (eqb d 43) refl
  where
    go : (b : Bool) → eqb d 43 ≡ b → Q (d ∷ r)
    go true e = h (eqb-true d 43 e)
    go false e = k d r (eqb-false d 43 e)

by_bytes : (low n slot y c : ℕ) (rest : List ℕ)
    → (Starts rest → (k : ℕ) → Behind n slot k rest) → Same low n slot y c rest
by_bytes low n slot y c rest h = go (eqb y 43) (eqb c 43) refl refl
  where
    go : (a b : Bool) → eqb y 43 ≡ a → eqb c 43 ≡ b → Same low n slot y c rest
    go true b e f = at_once low n slot y c rest (eqb-true y 43 e)
    go false true e f = after_one low n slot y c rest (eqb-false y 43 e) (eqb-true c 43 f)
    go false false e f =
        starts_or rest (λ l. (Starts l → (k : ℕ) → Behind n slot k l) → Same low n slot y c l)
        (λ s g. after_two low n slot y c rest (eqb-false y 43 e) (eqb-false c 43 f) s (g s))
        (λ d r m g. after_three low n slot y c d r (eqb-false y 43 e) (eqb-false c 43 f) m) h

-- what the code reads byte by byte is what the definition reads part by part
row_is : (low n slot : ℕ) (l : List ℕ) → n ≤ 31 → Starts l → settings_from low n slot l ≡ summed low n slot (read_settings (behind (split_at 43 l)))
unfolding settings_from read_settings read_setting split_at rising settings_slot
row_is low n slot [] h s = rw (add-zero n, add-zero slot, le-leb n 31 h) refl
row_is low n slot (x ∷ []) h s = rw (eq-eqb x 43 s) refl
row_is low n slot (x ∷ y ∷ []) h s = rw (eq-eqb x 43 s) (go (eqb y 43))
  where
    go : (b : Bool) → ◌≡◌ {A = Option ℕ} none (summed low n slot (read_settings (cond b ([] ∷ [] ∷ []) ((y ∷ []) ∷ []))))
    go true = refl
    go false = refl
row_is low n slot (x ∷ y ∷ c ∷ rest) h s = rw (eq-eqb x 43 s) (by_bytes low n slot y c rest (λ t k g. row_is k (n + 1) (slot + 32 ^ k) rest g t))

-- ---- the whole month

plus_zero : (n : ℕ) → n ≡ 0 + n
plus_zero n = omega arith

summed_some : (o : Option (List ℕ)) (slot : ℕ) (z : ℤ) → summed 0 0 0 o ≡ some slot → (ks : List ℕ) × (o ≡ some ks) × (settings_in_order ks ≡ true) × (settings_slot ks ≡ slot)
summed_some none slot z e = let q : ◌≡◌ {A = ℕ} 0 1 = cc in absurd (omega arith)
summed_some (some ks) slot z e = go (leb (0 + length ks) 31 && rising 0 ks) refl e
  where
    go : (b : Bool) → (leb (0 + length ks) 31 && rising 0 ks) ≡ b → keep b (0 + settings_slot ks) ≡ some slot
        → (js : List ℕ) × (some ks ≡ some js) × (settings_in_order js ≡ true) × (settings_slot js ≡ slot)
    go true q e = (ks, refl, ap (λ (n : ℕ). leb n 31 && rising 0 ks) (plus_zero (length ks)) ∙ q, let k : 0 + settings_slot ks ≡ slot = cc in omega arith)
    go false q e = let r : ◌≡◌ {A = ℕ} 0 1 = cc in absurd (omega arith)

summed_none : (o : Option (List ℕ)) (z : ℤ) → summed 0 0 0 o ≡ none → made_month (some z) o ≡ none
summed_none none z e = refl
summed_none (some ks) z e = go (leb (0 + length ks) 31 && rising 0 ks) refl e
  where
    go : (b : Bool) → (leb (0 + length ks) 31 && rising 0 ks) ≡ b → keep b (0 + settings_slot ks) ≡ none → made_month (some z) (some ks) ≡ none
    go true q e = let r : ◌≡◌ {A = ℕ} 0 1 = cc in absurd (omega arith)
    go false q e = let p : settings_in_order ks ≡ false = ap (λ (n : ℕ). leb n 31 && rising 0 ks) (plus_zero (length ks)) ∙ q in rw p refl

made : (o : Option ℤ) (q : Option (List ℕ)) (z : ℤ) (ks : List ℕ) → o ≡ some z → q ≡ some ks → settings_in_order ks ≡ true
    → made_month o q ≡ some (a_month (record { plain = z; settings = ks }))
made o q z ks e f g = rw (e, f, g) refl

module _ (l : List ℕ) where
  abbrev number : Option ℤ
  number = ranged (neg_ℤ (pos 60)) (pos 19200) (read_number (up_to 43 l))

  abbrev rest : Option (List ℕ)
  rest = read_settings (behind (split_at 43 (later l)))

  month_is : field_of month (up_to 44 l) ≡ made_month number rest
  unfolding field_of
  month_is = ap month_parts (parted l).parts

  row : settings_from 0 0 0 (later l) ≡ summed 0 0 0 rest
  row = row_is 0 0 0 (later l) (omega arith) (parted l).starts

  pub month_number_fails : number ≡ none → field_of month (up_to 44 l) ≡ none
  month_number_fails e = month_is ∙ rw e refl

  pub month_row_fails : (z : ℤ) → number ≡ some z → settings_from 0 0 0 (later l) ≡ none → field_of month (up_to 44 l) ≡ none
  month_row_fails z e f = month_is ∙ ap (λ (o : Option ℤ). made_month o rest) e ∙ summed_none rest z (sym row ∙ f)

  pub month_held : (z : ℤ) (slot : ℕ) → number ≡ some z → settings_from 0 0 0 (later l) ≡ some slot → Held month (up_to 44 l) (z ∷ pos slot ∷ [])
  unfolding field_slots
  month_held z slot e f =
      let r = summed_some rest slot z (sym row ∙ f) in
      record {
        field = a_month (record { plain = z; settings = r.0 });
        is = month_is ∙ made number rest z r.0 e r.1 r.2;
        slot = ap (λ (n : ℕ). z ∷ pos n ∷ []) r.3;
      }

-- ---- a month of one digit and no settings

digit_held : (f : List ℕ) (b : ℕ) → f ≡ b ∷ [] → 48 ≤ b → b ≤ 57 → Held month f (pos (b - 48) ∷ pos 0 ∷ [])
unfolding field_of field_slots split_at read_settings rising settings_slot
digit_held f b e l m =
    let q : ranged (neg_ℤ (pos 60)) (pos 19200) (read_number (b ∷ [])) ≡ some (pos (b - 48)) =
    ranged_in (neg_ℤ (pos 60)) (pos 19200) (pos (b - 48)) (read_number (b ∷ [])) (number_digit (b ∷ []) b refl l m) (pos (b - 48)) refl refl (le-ltb 19200 (b - 48) (omega arith)) in
    record {
      field = a_month (record { plain = pos (b - 48); settings = [] });
      is = ap (field_of month) e ∙ rw (ne_eqb b 43 (λ r. omega arith), q) refl;
      slot = refl;
    }

pub digit_month : (text : List ℕ) (at : ℕ) → at + 2 ≤ length text → 48 ≤ get_or text at 0 → get_or text at 0 ≤ 57 → get_or text (at + 1) 0 ≡ 44
    → (z : ℤ) → z ≡ pos (get_or text at 0 - 48) → Taken month text at (z ∷ pos 0 ∷ []) (at + 2)
digit_month text at h l m comma z e =
    let one = digit_alone text at h l comma in
    let k : length (up_to 44 (drop at text)) ≡ 1 = ap length one in
    rw e (taken_at month text at (pos (get_or text at 0 - 48) ∷ pos 0 ∷ []) (at + 2) (omega arith) (omega arith) (digit_held (up_to 44 (drop at text)) (get_or text at 0) one l m))

-- ---- in a text: the number ends at byte `end`, and the settings stand from there on

module _ (text : List ℕ) (at end : ℕ) (e : end ≡ at + length (up_to 43 (drop at text))) where
  pub later_is : later (drop at text) ≡ up_to 44 (drop end text)
  later_is = ap (up_to 44) (drop-drop (length (up_to 43 (drop at text))) at text ∙ ap (λ (n : ℕ). drop n text) (sym e))

  pub month_length : at + length (up_to 44 (drop at text)) ≡ end + length (up_to 44 (drop end text))
  month_length =
      let k : length (later (drop at text)) ≡ length (up_to 44 (drop end text)) = ap length later_is in
      omega (arith, (parted (drop at text)).lengths)
