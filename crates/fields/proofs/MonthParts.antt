-- A payoff's month in two parts: up to the first plus, and from there on.
use Prim.Native.Nat.{◌+◌, ℕ}
use borrow.Author.Tests.{eqb-false, eqb-true, ne_eqb}
use lib.Dec.{eqb}
use lib.ListN.{drop, length}
use mathlib.Core.Bool.{Bool, false, true}
use mathlib.Core.List.{List, [], ◌∷◌}
use mathlib.Core.Path.{◌≡◌, ap, refl}
use native.Mathlib.Omega.{arith}
use Rattle.language.specs.Text.Fields.{in_front, split_at}
use Rattle.fields.specs.Fields.{behind}
use Rattle.fields.specs.Positions.{up_to}

abbrev pub later : List ℕ → List ℕ
later l = up_to 44 (drop (length (up_to 43 l)) l)

-- nothing, or a plus in front
abbrev pub Starts : List ℕ → Type 0
Starts [] = Unit {0}
Starts (b ∷ bs) = b ≡ 43

pub record Parted (l : List ℕ) : Type 0 where
  pub parts : split_at 43 (up_to 44 l) ≡ up_to 43 l ∷ behind (split_at 43 (later l))
  pub starts : Starts (later l)
  pub lengths : length (up_to 44 l) ≡ length (up_to 43 l) + length (later l)

module _ (b : ℕ) (bs : List ℕ) where
  -- by the first byte: a comma, a plus, another
  first_comma : b ≡ 44 → Parted (b ∷ bs)
  unfolding up_to split_at
  first_comma e = rw e (record { parts = refl; starts = tt; lengths = refl })

  first_plus : b ≡ 43 → Parted (b ∷ bs)
  unfolding up_to split_at
  first_plus e = rw e (record { parts = refl; starts = refl; lengths = omega arith })

  module _ (n : b ≡ 44 → ⊥) (m : b ≡ 43 → ⊥) where
    whole : up_to 44 (b ∷ bs) ≡ b ∷ up_to 44 bs
    unfolding up_to
    whole = rw (ne_eqb b 44 n) refl

    front : up_to 43 (b ∷ bs) ≡ b ∷ up_to 43 bs
    unfolding up_to
    front = rw (ne_eqb b 44 n, ne_eqb b 43 m) refl

    apart : (l : List ℕ) → split_at 43 (b ∷ l) ≡ in_front b (split_at 43 l)
    unfolding split_at
    apart l = rw (ne_eqb b 43 m) refl

    same_later : later (b ∷ bs) ≡ later bs
    same_later = ap (λ (l : List ℕ). up_to 44 (drop (length l) (b ∷ bs))) front

    first_other : Parted bs → Parted (b ∷ bs)
    first_other p = record {
      parts = rw (whole, same_later, front, apart (up_to 44 bs), p.parts) refl;
      starts = rw same_later p.starts;
      lengths = rw (whole, same_later, front) (omega (arith, p.lengths));
    }

pub parted : (l : List ℕ) → Parted l
unfolding up_to split_at
parted [] = record { parts = refl; starts = tt; lengths = refl }
parted (b ∷ bs) = go (eqb b 44) (eqb b 43) refl refl (parted bs)
  where
    go : (c d : Bool) → eqb b 44 ≡ c → eqb b 43 ≡ d → Parted bs → Parted (b ∷ bs)
    go true d e f p = first_comma b bs (eqb-true b 44 e)
    go false true e f p = first_plus b bs (eqb-true b 43 f)
    go false false e f p = first_other b bs (eqb-false b 44 e) (eqb-false b 43 f) p
