-- Laws of the fields from a byte on, and of the bytes up to the next comma or stop.
use Prim.Native.Nat.{◌+◌, ◌<◌, ◌≤◌, suc, zero, ℕ}
use borrow.Author.Tests.{eq-eqb, le-leb, leb-false, leb-true, lt-leb, ne_eqb}
use lib.Dec.{eqb, leb}
use lib.ListN.{drop, drop_of_length-le, get_or, length, length-drop}
use lib.Seq.{drop-cons}
use mathlib.Core.Bool.{Bool, ◌||◌, cond, false, true}
use mathlib.Core.List.{List, [], ◌∷◌}
use mathlib.Core.Path.{◌∙◌, ◌≡◌, ap, refl, sym}
use native.Mathlib.Numerals.{add-one}
use native.Mathlib.Omega.{arith}
use Rattle.language.specs.Text.Fields.{in_front, split, split_at}
use Rattle.fields.specs.Positions.{fields_from, up_to}

pub drop_at_index : (f : List ℕ) (i : ℕ) → i < length f → drop i f ≡ get_or f i 0 ∷ drop (i + 1) f
drop_at_index f i h = rw (add-one, drop-cons f i 0)

or_true : (b : Bool) → (b || true) ≡ true
or_true true = refl
or_true false = refl

-- ---- up to a stop, by the next byte

module _ (stop : ℕ) (text : List ℕ) (i : ℕ) where
  pub up_end : length text ≤ i → up_to stop (drop i text) ≡ []
  unfolding up_to
  up_end h = rw drop_of_length-le

  pub up_comma : i < length text → get_or text i 0 ≡ 44 → up_to stop (drop i text) ≡ []
  unfolding up_to
  up_comma h e = ap (up_to stop) (drop_at_index text i h) ∙ simp (eq-eqb (get_or text i 0) 44 e)

  pub up_stop : i < length text → get_or text i 0 ≡ stop → up_to stop (drop i text) ≡ []
  unfolding up_to
  up_stop h e = ap (up_to stop) (drop_at_index text i h) ∙ simp (eq-eqb (get_or text i 0) stop e, or_true (eqb (get_or text i 0) 44))

  pub up_more : i < length text → (get_or text i 0 ≡ 44 → ⊥) → (get_or text i 0 ≡ stop → ⊥) → up_to stop (drop i text) ≡ get_or text i 0 ∷ up_to stop (drop (i + 1) text)
  unfolding up_to
  up_more h e f = ap (up_to stop) (drop_at_index text i h) ∙ simp (ne_eqb (get_or text i 0) 44 e, ne_eqb (get_or text i 0) stop f)

pub up_two : (stop : ℕ) (text : List ℕ) (i : ℕ) → i + 1 < length text → (get_or text i 0 ≡ 44 → ⊥) → (get_or text i 0 ≡ stop → ⊥)
    → (get_or text (i + 1) 0 ≡ 44 → ⊥) → (get_or text (i + 1) 0 ≡ stop → ⊥)
    → up_to stop (drop i text) ≡ get_or text i 0 ∷ get_or text (i + 1) 0 ∷ up_to stop (drop (i + 2) text)
up_two stop text i h a b c d =
    let e : i + 1 + 1 ≡ i + 2 = omega arith in
    up_more stop text i (omega arith) a b
    ∙ ap (λ (l : List ℕ). get_or text i 0 ∷ l) (up_more stop text (i + 1) h c d ∙ ap (λ (k : ℕ). get_or text (i + 1) 0 ∷ up_to stop (drop k text)) e)

-- ---- how far that is

cut_length : (b : Bool) (c : ℕ) (l : List ℕ) (n : ℕ) → length l ≤ n → length (cond b [] (c ∷ l)) ≤ suc n
cut_length true c l n h = omega arith
cut_length false c l n h = omega arith

pub up_length : (stop : ℕ) (l : List ℕ) → length (up_to stop l) ≤ length l
unfolding up_to
up_length stop [] = omega arith
up_length stop (b ∷ bs) = cut_length (eqb b 44 || eqb b stop) b (up_to stop bs) (length bs) (up_length stop bs)

pub up_fits : (stop : ℕ) (text : List ℕ) (at : ℕ) → at ≤ length text → at + length (up_to stop (drop at text)) ≤ length text
up_fits stop text at h = omega (arith, up_length stop (drop at text), length-drop at text)

-- ---- the first field, and those behind it

leb_suc : (n m : ℕ) → leb (suc n) (suc m) ≡ leb n m
leb_suc n m = go (leb n m) refl
  where
    go : (b : Bool) → leb n m ≡ b → leb (suc n) (suc m) ≡ leb n m
    go true e = let h : n ≤ m = leb-true n m e in le-leb (suc n) (suc m) (omega arith) ∙ sym e
    go false e = let h : m < n = leb-false n m e in lt-leb (suc n) (suc m) (omega arith) ∙ sym e

fields_cons : (b : ℕ) (bs : List ℕ) (n : ℕ) → fields_from (b ∷ bs) (suc n) ≡ fields_from bs n
unfolding fields_from
fields_cons b bs n = rw (leb_suc n (length bs)) refl

fields_drop : (text : List ℕ) (at n : ℕ) → at ≤ length text → fields_from (drop at text) n ≡ fields_from text (at + n)
fields_drop text zero n h = ap (fields_from text) (omega arith)
fields_drop [] (suc at) n h = absurd (omega arith)
fields_drop (b ∷ bs) (suc at) n h = fields_drop bs at n (omega arith) ∙ sym (fields_cons b bs (at + n)) ∙ ap (fields_from (b ∷ bs)) (omega arith)

pub at_start : (bs : List ℕ) → fields_from bs 0 ≡ split bs
unfolding fields_from
at_start bs = rw (le-leb 0 (length bs) (omega arith)) refl

first_split : (l : List ℕ) → split l ≡ up_to 44 l ∷ fields_from l (length (up_to 44 l) + 1)
unfolding split_at up_to fields_from
first_split [] = refl
first_split (b ∷ bs) = go (eqb b 44) (first_split bs)
  where
    go : (c : Bool) → split bs ≡ up_to 44 bs ∷ fields_from bs (length (up_to 44 bs) + 1)
        → cond c ([] ∷ split bs) (in_front b (split bs)) ≡ cond (c || c) [] (b ∷ up_to 44 bs) ∷ fields_from (b ∷ bs) (length (cond (c || c) [] (b ∷ up_to 44 bs)) + 1)
    go true e = ap (λ (fs : List (List ℕ)). [] ∷ fs) (sym (fields_cons b bs 0 ∙ at_start bs))
    go false e = ap (in_front b) e ∙ ap (λ (fs : List (List ℕ)). (b ∷ up_to 44 bs) ∷ fs) (sym (fields_cons b bs (length (up_to 44 bs) + 1)) ∙ ap (fields_from (b ∷ bs)) (omega arith))

pub from_inside : (text : List ℕ) (at : ℕ) → at ≤ length text → fields_from text at ≡ split (drop at text)
unfolding fields_from
from_inside text at h = simp (le-leb at (length text) h)

pub from_behind : (text : List ℕ) (at : ℕ) → length text < at → fields_from text at ≡ []
unfolding fields_from
from_behind text at h = simp (lt-leb at (length text) h)

pub first_field : (text : List ℕ) (at : ℕ) → at ≤ length text
    → fields_from text at ≡ up_to 44 (drop at text) ∷ fields_from text (at + (length (up_to 44 (drop at text)) + 1))
first_field text at h =
    from_inside text at h ∙ first_split (drop at text)
    ∙ ap (λ (fs : List (List ℕ)). up_to 44 (drop at text) ∷ fs) (fields_drop text at (length (up_to 44 (drop at text)) + 1) h)

-- ---- its first byte

module _ (stop : ℕ) (text : List ℕ) (i : ℕ) where
  cut_head : (b : Bool) (c : ℕ) (l : List ℕ) → get_or (cond b [] (c ∷ l)) 0 0 ≤ c
  cut_head true c l = omega arith
  cut_head false c l = omega arith

  cut_head_ne : (b : Bool) (c k : ℕ) (l : List ℕ) → (c ≡ k → ⊥) → 0 < k → get_or (cond b [] (c ∷ l)) 0 0 ≡ k → ⊥
  cut_head_ne true c k l h p e = omega arith
  cut_head_ne false c k l h p e = h e

  pub head_le : i < length text → get_or (up_to stop (drop i text)) 0 0 ≤ get_or text i 0
  unfolding up_to
  head_le h = rw (drop_at_index text i h) (cut_head (eqb (get_or text i 0) 44 || eqb (get_or text i 0) stop) _ _)

  pub head_ne : (k : ℕ) → i < length text → (get_or text i 0 ≡ k → ⊥) → 0 < k → get_or (up_to stop (drop i text)) 0 0 ≡ k → ⊥
  unfolding up_to
  head_ne k h n p = rw (drop_at_index text i h) (cut_head_ne (eqb (get_or text i 0) 44 || eqb (get_or text i 0) stop) _ k _ n p)

  cut_whole : (b : Bool) (c : ℕ) (l : List ℕ) → 0 < length (cond b [] (c ∷ l)) → get_or (cond b [] (c ∷ l)) 0 0 ≡ c
  cut_whole true c l h = absurd (omega arith)
  cut_whole false c l h = refl

  pub head_of : i < length text → 0 < length (up_to stop (drop i text)) → get_or (up_to stop (drop i text)) 0 0 ≡ get_or text i 0
  unfolding up_to
  head_of h k = rw (drop_at_index text i h) (cut_whole (eqb (get_or text i 0) 44 || eqb (get_or text i 0) stop) _ _ (rw (drop_at_index text i h) at k))

  pub head_none : (k : ℕ) → length text ≤ i → 0 < k → get_or (up_to stop (drop i text)) 0 0 ≡ k → ⊥
  head_none k h p = rw (up_end stop text i h) (λ e. omega arith)
