-- A line's first field, by the place of the first comma.
use Prim.Native.Nat.{◌+◌, ◌<◌, suc, ℕ, zero}
use lib.Dec.{eqb}
use lib.ListN.{length, take}
use lib.Pointwise.{pointwise}
use mathlib.Core.Bool.{Bool, ◌&&◌, ◌||◌, cond, false, not, true}
use mathlib.Core.List.{List, [], ◌∷◌}
use mathlib.Core.Path.{◌∙◌, ◌≡◌, ap, refl}
use native.Mathlib.Omega.{arith}
use Rattle.fields.specs.Positions.{up_to}
use Rattle.language.specs.Sheet.{same_bytes}
use Rattle.std.proofs.Common.{Option}
use Rattle.std.proofs.lemmas.Bool.Decides.{nat_tests}
use Rattle.std.proofs.lemmas.List.Sums.{prefix_len-le-length}
use Rattle.std.specs.List.{position, position_or_len}
use Rattle.std.specs.Option.{unwrap_or}

abbrev comma : ℕ → Bool
comma b = eqb b 44

up_to_comma : (line : List ℕ) → take (position_or_len comma line) line ≡ up_to 44 line
unfolding up_to
up_to_comma [] = refl
up_to_comma (b ∷ bs) = go (eqb b 44) (up_to_comma bs)
  where
    go : (t : Bool) → take (position_or_len comma bs) bs ≡ up_to 44 bs → take (cond (not t) (1 + position_or_len comma bs) 0) (b ∷ bs) ≡ cond (t || t) [] (b ∷ up_to 44 bs)
    go true h = refl
    go false h = let e : 1 + position_or_len comma bs ≡ suc (position_or_len comma bs) = omega arith in rw e (ap (λ l. b ∷ l) h)

-- a part of the line that is cut off behind more bytes than the word has tells as much
pub clipped : (line word : List ℕ) (n : ℕ) → (n < length line → length word < n) → same_bytes (up_to 44 (take n line)) word ≡ same_bytes (up_to 44 line) word
unfolding up_to
clipped [] word zero h = refl
clipped [] word (suc n) h = refl
clipped (b ∷ bs) word zero h = absurd (omega (arith, h (omega arith)))
clipped (b ∷ bs) [] (suc n) h = go (eqb b 44)
  where
    go : (t : Bool) → same_bytes (cond (t || t) [] (b ∷ up_to 44 (take n bs))) [] ≡ same_bytes (cond (t || t) [] (b ∷ up_to 44 bs)) []
    go true = refl
    go false = refl
clipped (b ∷ bs) (w ∷ ws) (suc n) h = go (eqb b 44) (clipped bs ws n (λ k. omega (arith, h (omega (arith, k)))))
  where
    go : (t : Bool) → same_bytes (up_to 44 (take n bs)) ws ≡ same_bytes (up_to 44 bs) ws
        → same_bytes (cond (t || t) [] (b ∷ up_to 44 (take n bs))) (w ∷ ws) ≡ same_bytes (cond (t || t) [] (b ∷ up_to 44 bs)) (w ∷ ws)
    go true e = refl
    go false e = ap (λ s. eqb b w && s) e

same_pointwise : (a b : List ℕ) → pointwise eqb a b ≡ same_bytes a b
same_pointwise [] [] = refl
same_pointwise [] (y ∷ ys) = refl
same_pointwise (x ∷ xs) [] = refl
same_pointwise (x ∷ xs) (y ∷ ys) = ap (λ t. eqb x y && t) (same_pointwise xs ys)

unwrapped : (line : List ℕ) → unwrap_or (position comma line) (length line) ≡ position_or_len comma line
unwrapped line = grind (arith, nat_tests, prefix_len-le-length (λ b. not (comma b)) line)

module _ (line word : List ℕ) {p : Option ℕ} {end : ℕ} (d : p ≡ position comma line) (e : end ≡ unwrap_or p (length line)) where
  ends : end ≡ position_or_len comma line
  ends = e ∙ ap (λ q. unwrap_or q (length line)) d ∙ unwrapped line

  pub word_is : {b : Bool} → b ≡ pointwise eqb (take end line) word → b ≡ same_bytes (up_to 44 line) word
  word_is f = f ∙ same_pointwise (take end line) word ∙ ap (λ l. same_bytes l word) (ap (λ k. take k line) ends ∙ up_to_comma line)
