-- Laws of the table's rows: a row that is written behind others.
use Prim.Native.Nat.{◌*◌, ◌+◌, ◌≤◌, ◌<◌, suc, ℕ}
use borrow.Author.Tests.{eq-eqb, ne_eqb}
use lib.Dec.{eqb}
use lib.IntN.{pos, ℤ}
use lib.ListN.{drop, drop_of_length-le, length, set, take}
use lib.Seq.{length-take-le, sets, sets-eq, take-set-lt, take-take}
use mathlib.Core.Bool.{Bool, cond, false, true}
use mathlib.Core.List.{List, [], ◌++◌, ◌∷◌, append-nil}
use mathlib.Core.Path.{◌∙◌, ◌≡◌, ap, refl, sym}
use native.Mathlib.Omega.{arith}
use Rattle.fields.specs.Fields.{slot_at}
use Rattle.language.specs.Text.Classes.{Field}
use Rattle.language.specs.Text.Letters.{Letter}
use Rattle.language.specs.Text.Reader.{end, node}
use Rattle.nodes.specs.Rows.{behind_first, last_slots, link_to, row_for, slots_of}
use Rattle.text.specs.Rows.{open_row, row_with}
use Rattle.text.specs.declared.trees.Head.{Head}

take_sets : (n : ℕ) (l : List ℤ) (i : ℕ) (vs : List ℤ) → i + length vs ≤ n → take n (sets l i vs) ≡ sets (take n l) i vs
take_sets n l i [] h = refl
take_sets n l i (v ∷ vs) h =
    let k : suc i + length vs ≤ n = omega arith in
    let j : i < n = omega arith in
    take_sets n (set l i v) (suc i) vs k ∙ ap (λ (r : List ℤ). sets r (suc i) vs) (take-set-lt n l i v j)

-- row number count, and all before it
pub row_behind : (old row : List ℤ) (count : ℕ) → length row ≡ 5 → 5 * count + 5 ≤ length old → take (5 * (count + 1)) (sets old (5 * count) row) ≡ take (5 * count) old ++ row
row_behind old row count e room =
    let Q : List ℤ = take (5 * (count + 1)) old in
    let lenQ : length Q ≡ 5 * count + 5 = length-take-le (5 * (count + 1)) old (omega arith) ∙ omega arith in
    take_sets (5 * (count + 1)) old (5 * count) row (omega arith)
    ∙ sets-eq row Q (5 * count) (omega (arith, lenQ, e))
    ∙ ap (λ (r : List ℤ). r ++ row ++ drop (5 * count + length row) Q) (take-take (5 * count) (5 * (count + 1)) old (omega arith))
    ∙ ap (λ (r : List ℤ). (take (5 * count) old ++ row) ++ r) (drop_all Q (5 * count + length row) (omega (arith, lenQ, e)))
    ∙ append-nil (take (5 * count) old ++ row)
  where
    drop_all : (l : List ℤ) (n : ℕ) → length l ≤ n → drop n l ≡ []
    drop_all l n h = rw drop_of_length-le

-- ---- the row of a node that was opened: without children its fields, else links that are still 0

module _ (h : Head) (values : List Field) (letter : ℕ) (e : letter ≡ h.letter) (p : slot_at values 0 ≡ h.a) (q : slot_at values 1 ≡ h.b) where
  pub row_leaf : (P : Type 0) → slot_at values 2 ≡ h.c → slot_at values 3 ≡ h.d → h.kid1 ≡ 0 → open_row h ≡ row_for {P = P} letter (slots_of values) end
  unfolding last_slots
  row_leaf P r s z = rw (eq-eqb h.kid1 0 z, e, sym p, sym q, sym r, sym s) refl

  pub row_over : {P : Type 0} → (h.kid1 ≡ 0 → ⊥) → (l : Letter P) → open_row h ≡ row_for letter (slots_of values) (node l [] end end)
  unfolding last_slots link_to behind_first
  row_over n l = rw (ne_eqb h.kid1 0 n, e, sym p, sym q) refl

-- ---- a row, from the machine's numbers

pub row_put : (mid new : List ℤ) (i letter : ℕ) (a b c d a' b' c' d' : ℤ) → new ≡ sets mid (5 * i) (pos letter ∷ a' ∷ b' ∷ c' ∷ d' ∷ [])
    → a' ≡ a → b' ≡ b → c' ≡ c → d' ≡ d → new ≡ sets mid (5 * i) (pos letter ∷ a ∷ b ∷ c ∷ d ∷ [])
row_put mid new i letter a b c d a' b' c' d' e p q r s =
    e ∙ ap (λ (z : ℤ). sets mid (5 * i) (pos letter ∷ z ∷ b' ∷ c' ∷ d' ∷ [])) p ∙ ap (λ (z : ℤ). sets mid (5 * i) (pos letter ∷ a ∷ z ∷ c' ∷ d' ∷ [])) q
    ∙ ap (λ (z : ℤ). sets mid (5 * i) (pos letter ∷ a ∷ b ∷ z ∷ d' ∷ [])) r ∙ ap (λ (z : ℤ). sets mid (5 * i) (pos letter ∷ a ∷ b ∷ c ∷ z ∷ [])) s

-- without fields, whatever the children
pub with_zeros : (letter kids : ℕ) → pos letter ∷ pos 0 ∷ pos 0 ∷ pos 0 ∷ pos 0 ∷ [] ≡ row_with letter (pos 0) (pos 0) (pos 0) (pos 0) kids
with_zeros letter kids = go (eqb kids 0)
  where
    go : (b : Bool) → pos letter ∷ pos 0 ∷ pos 0 ∷ pos 0 ∷ pos 0 ∷ [] ≡ pos letter ∷ pos 0 ∷ pos 0 ∷ cond b (pos 0) (pos 0) ∷ cond b (pos 0) (pos 0) ∷ []
    go true = refl
    go false = refl
