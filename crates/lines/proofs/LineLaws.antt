-- Lines by their places: where one ends, and which lines follow.
use Prim.Native.Nat.{◌+◌, ◌-◌, ◌<◌, ◌≤◌, suc, zero, ℕ}
use borrow.Author.Tests.{eq-eqb, ne_eqb}
use lib.Dec.{eqb}
use lib.ListN.{drop, drop_of_length-le, get_or, length, length-drop}
use lib.Seq.{drop-drop}
use mathlib.Core.Bool.{Bool, ◌||◌, cond, false, true, true≢false}
use mathlib.Core.List.{List, [], ◌∷◌}
use mathlib.Core.Path.{◌∙◌, ◌≡◌, ap, refl, sym}
use native.Mathlib.Decide.{dec_lt}
use native.Mathlib.Omega.{arith}
use Rattle.fields.proofs.Positions.{drop_at_index}
use Rattle.language.proofs.Acceptance.{no_answer}
use Rattle.language.specs.Answer.{Answer, ◌>>=◌, ◌>>◌, got, refused, require}
use Rattle.language.specs.Sheet.{lines_of, same_bytes}
use Rattle.language.specs.Text.Fields.{in_front, split_at}
use Rattle.lines.specs.Lines.{LineFrom, NoFeed, ends_well, line_of, lines_in}

-- ---- one line, by the next byte
module _ (text : List ℕ) (i : ℕ) where
  pub line_stops : i < length text → get_or text i 0 ≡ 10 → line_of (drop i text) ≡ []
  unfolding line_of
  line_stops h e = ap line_of (drop_at_index text i h) ∙ simp (eq-eqb (get_or text i 0) 10 e)

  pub line_goes_on : i < length text → (get_or text i 0 ≡ 10 → ⊥) → line_of (drop i text) ≡ get_or text i 0 ∷ line_of (drop (i + 1) text)
  unfolding line_of
  line_goes_on h e = ap line_of (drop_at_index text i h) ∙ simp (ne_eqb (get_or text i 0) 10 e)

  pub no_line : length text ≤ i → line_of (drop i text) ≡ []
  unfolding line_of
  no_line h = rw drop_of_length-le

-- ---- bytes passed at a time
module _ (text : List ℕ) where
  pub line_here : (at : ℕ) → at ≤ length text → LineFrom text at at
  line_here at h = record { inside = h; ends = refl }

  none_passed : (at : ℕ) → length (line_of (drop at text)) ≡ length (line_of (drop (at + 0) text))
  none_passed at = let e : at + 0 ≡ at = omega arith in rw e refl

  without_feed : (at n : ℕ) → at + n ≤ length text → NoFeed text at n → length (line_of (drop at text)) ≡ n + length (line_of (drop (at + n) text))
  without_feed at zero h f = omega (arith, none_passed at)
  without_feed at (suc n) h f =
      let e : at + suc n ≡ at + n + 1 = omega arith in
      rw e (omega (arith, without_feed at n (omega arith) (λ k l. f k (omega arith)), ap length (line_goes_on text (at + n) (omega arith) (f n (omega arith)))))

  pub line_on : {at i : ℕ} (n : ℕ) → i + n ≤ length text → LineFrom text at i → NoFeed text i n → LineFrom text at (i + n)
  line_on {at} {i} n h l f = record { inside = h; ends = omega (arith, l.ends, without_feed i n h f) }

  -- found so far, or not among the first k
  pub or_none : (found : Bool) (at k : ℕ) → (found ≡ false → NoFeed text at k) → found || eqb (get_or text (at + k) 0) 10 ≡ false → NoFeed text at (k + 1)
  or_none true at k f e j l q = true≢false e
  or_none false at k f e j l q = by (dec_lt j k)
    where
      by : Dec (j < k) → ⊥
      by (yes h) = f refl j h q
      by (no h) =
          let s : j ≡ k = omega arith in
          true≢false (sym (eq-eqb (get_or text (at + k) 0) 10 (rw s at q)) ∙ e)

-- ---- the lines
first_line : (b : ℕ) (bs : List ℕ) → lines_in (b ∷ bs) ≡ line_of (b ∷ bs) ∷ lines_in (drop (length (line_of (b ∷ bs)) + 1) (b ∷ bs))
unfolding lines_in line_of
first_line b [] = go (eqb b 10)
  where
    go : (t : Bool) → cond t ([] ∷ []) (in_front b []) ≡ cond t [] (b ∷ []) ∷ lines_in (drop (length (cond t [] (b ∷ [])) + 1) (b ∷ []))
    go true = refl
    go false = refl
first_line b (d ∷ r) = go (eqb b 10) (first_line d r)
  where
    go : (t : Bool) → lines_in (d ∷ r) ≡ line_of (d ∷ r) ∷ lines_in (drop (length (line_of (d ∷ r)) + 1) (d ∷ r))
        → cond t ([] ∷ lines_in (d ∷ r)) (in_front b (lines_in (d ∷ r))) ≡ cond t [] (b ∷ line_of (d ∷ r)) ∷ lines_in (drop (length (cond t [] (b ∷ line_of (d ∷ r))) + 1) (b ∷ d ∷ r))
    go true h = refl
    go false h =
        let e : suc (length (line_of (d ∷ r))) + 1 ≡ suc (length (line_of (d ∷ r)) + 1) = omega arith in
        ap (in_front b) h ∙ ap (λ k. (b ∷ line_of (d ∷ r)) ∷ lines_in (drop k (b ∷ d ∷ r))) (sym e)

module _ (input : List ℕ) where
  pub no_lines : (at : ℕ) → length input ≤ at → lines_in (drop at input) ≡ []
  unfolding lines_in
  no_lines at h = rw drop_of_length-le

  pub next_line : (at : ℕ) → at < length input → lines_in (drop at input) ≡ line_of (drop at input) ∷ lines_in (drop (at + length (line_of (drop at input)) + 1) input)
  next_line at h =
      let e : at + length (line_of (drop at input)) + 1 ≡ at + (length (line_of (drop at input)) + 1) = omega arith in
      go (drop at input) (omega (arith, length-drop at input)) ∙ ap (λ l. line_of (drop at input) ∷ lines_in l) (drop-drop (length (line_of (drop at input)) + 1) at input ∙ ap (λ k. drop k input) (sym e))
    where
      go : (l : List ℕ) → 0 < length l → lines_in l ≡ line_of l ∷ lines_in (drop (length (line_of l) + 1) l)
      go [] k = absurd (omega arith)
      go (b ∷ bs) k = first_line b bs

-- ---- all lines are ended, or it is 2
some_line : (b : ℕ) (bs : List ℕ) → lines_in (b ∷ bs) ≡ [] → ⊥
some_line b bs e =
    let z : suc (length (lines_in (drop (length (line_of (b ∷ bs)) + 1) (b ∷ bs)))) ≡ 0 = ap length (sym (first_line b bs) ∙ e) in omega arith

-- what the lines are if c stands in front of them
module _ (c : ℕ) where
  longer : (X : List (List ℕ)) (L : List (List ℕ)) → (L ≡ [] → ⊥) → lines_of X ≡ got L → lines_of (in_front c X) ≡ got (in_front c L)
  unfolding lines_of
  longer [] L n e = no_answer e
  longer (m ∷ []) L n e = by (same_bytes m []) e
    where
      by : (b : Bool) → (require 2 b >> got []) ≡ got L → lines_of ((c ∷ m) ∷ []) ≡ got (in_front c L)
      by true e = absurd (n (sym (let z : ◌≡◌ {A = List (List ℕ)} [] L = cc in z)))
      by false e = no_answer e
  longer (m ∷ o ∷ ls) L n e = by (lines_of (o ∷ ls)) e
    where
      by : (A : Answer (List (List ℕ))) → (A >>= λ rest. got (m ∷ rest)) ≡ got L → (A >>= λ rest. got ((c ∷ m) ∷ rest)) ≡ got (in_front c L)
      by (refused k) e = no_answer e
      by (got r) e = let z : m ∷ r ≡ L = cc in ap (λ l. got (in_front c l)) z

  still_refused : (X : List (List ℕ)) → lines_of X ≡ refused 2 → lines_of (in_front c X) ≡ refused 2
  unfolding lines_of
  still_refused [] e = refl
  still_refused (m ∷ []) e = refl
  still_refused (m ∷ o ∷ ls) e = by (lines_of (o ∷ ls)) e
    where
      by : (A : Answer (List (List ℕ))) → (A >>= λ rest. got (m ∷ rest)) ≡ refused 2 → (A >>= λ rest. got ((c ∷ m) ∷ rest)) ≡ refused 2
      by (refused k) e = let z : k ≡ 2 = cc in ap refused z
      by (got r) e = no_answer (sym e)

  empty_first : (X : List (List ℕ)) (A : Answer (List (List ℕ))) → (X ≡ [] → ⊥) → lines_of X ≡ A → lines_of ([] ∷ X) ≡ (A >>= λ rest. got ([] ∷ rest))
  unfolding lines_of
  empty_first [] A n e = absurd (n refl)
  empty_first (m ∷ ls) A n e = rw e refl

pub some_field : (sep : ℕ) (l : List ℕ) → split_at sep l ≡ [] → ⊥
unfolding split_at
some_field sep [] e = let z : ◌≡◌ {A = ℕ} 1 0 = ap length e in omega arith
some_field sep (c ∷ cs) e = go (eqb c sep) (split_at sep cs) e
  where
    go : (b : Bool) (X : List (List ℕ)) → cond b ([] ∷ X) (in_front c X) ≡ [] → ⊥
    go true X e = let z : ◌≡◌ {A = ℕ} (suc (length X)) 0 = ap length e in omega arith
    go false [] e = let z : ◌≡◌ {A = ℕ} 1 0 = ap length e in omega arith
    go false (m ∷ ls) e = let z : ◌≡◌ {A = ℕ} (suc (length ls)) 0 = ap length e in omega arith

ends_next : (c d : ℕ) (r : List ℕ) → ends_well (c ∷ d ∷ r) ≡ ends_well (d ∷ r)
ends_next c d r =
    let e : suc (suc (length r)) - 1 ≡ suc (length r) = omega arith in
    let f : suc (length r) - 1 ≡ length r = omega arith in
    rw (e, f, ne_eqb (suc (suc (length r))) 0 (λ z. omega arith), ne_eqb (suc (length r)) 0 (λ z. omega arith)) refl

pub lines_ended : (l : List ℕ) → lines_of (split_at 10 l) ≡ cond (ends_well l) (got (lines_in l)) (refused 2)
unfolding lines_of split_at lines_in
lines_ended [] = refl
lines_ended (c ∷ []) = go (eqb c 10)
  where
    go : (b : Bool) → lines_of (cond b ([] ∷ [] ∷ []) (in_front c ([] ∷ []))) ≡ cond b (got (cond b ([] ∷ []) (in_front c []))) (refused 2)
    go true = refl
    go false = refl
lines_ended (c ∷ d ∷ r) =
    go (eqb c 10) (ends_well (d ∷ r)) (lines_ended (d ∷ r))
    ∙ ap (λ t. cond t (got (lines_in (c ∷ d ∷ r))) (refused 2)) (sym (ends_next c d r))
  where
    go : (b t : Bool) → lines_of (split_at 10 (d ∷ r)) ≡ cond t (got (lines_in (d ∷ r))) (refused 2)
        → lines_of (cond b ([] ∷ split_at 10 (d ∷ r)) (in_front c (split_at 10 (d ∷ r)))) ≡ cond t (got (cond b ([] ∷ lines_in (d ∷ r)) (in_front c (lines_in (d ∷ r))))) (refused 2)
    go true true e = empty_first c (split_at 10 (d ∷ r)) (got (lines_in (d ∷ r))) (some_field 10 (d ∷ r)) e
    go true false e = empty_first c (split_at 10 (d ∷ r)) (refused 2) (some_field 10 (d ∷ r)) e
    go false true e = longer c (split_at 10 (d ∷ r)) (lines_in (d ∷ r)) (some_line d r) e
    go false false e = still_refused c (split_at 10 (d ∷ r)) e
