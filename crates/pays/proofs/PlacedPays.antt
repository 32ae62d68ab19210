-- An accepted plan pays by places what it pays by the table.
use Prim.Native.Nat.{◌+◌, ◌≤◌, ℕ}
use lib.IntN.{◌*ℤ◌, ◌+ℤ◌, ℤ}
use mathlib.Core.Bool.{Bool, true}
use mathlib.Core.Path.{◌∙◌, ◌≡◌, ap, ap₂, refl, subst, sym}
use Rattle.amounts.proofs.TablePlaces.{flat_value, may_read}
use Rattle.amounts.proofs.WaitPlaces.{flat_tried}
use Rattle.amounts.specs.Flat.{flat}
use Rattle.amounts.specs.Placed.{place_in}
use Rattle.language.proofs.Payments.Tried.{Tries, tried_spec}
use Rattle.language.specs.Calls.{lookup_of}
use Rattle.language.specs.Payments.Amounts.{holds}
use Rattle.language.specs.Payments.Pays.{Sign, Tried, hit, miss, pays, started, tried}
use Rattle.language.specs.Rules.Accepted.{reads_of}
use Rattle.language.specs.Rules.Table.{Table, is_table}
use Rattle.language.specs.Text.Trees.{Plan, both, later, nothing, scale, transfer, within}
use Rattle.amounts.specs.Placed.{placed_plan}

-- what is started has a property that the first plan has in each month tried, and the second in the last
pub started_all : (t : ℕ → Bool) (d r : ℕ) (q : Tried) → Tries t r d q → (P : Tried → Type 0) → ((j : ℕ) → r ≤ j → j ≤ r + d → P (hit j)) → P (miss (r + d)) → P q
unfolding Tries
started_all t d r (hit k) h P f g = f k h.0 h.1
started_all t d r (miss k) h P f g = subst (λ j. P (miss j)) (sym h.0) g

module _ (t : Table) (ok : is_table t ≡ true) (sg : Sign) (m : ℕ) where
  abbrev told : Plan ℕ → ℕ → ℤ
  told x r = pays (lookup_of t) sg x r m

  abbrev found : Plan ℕ → ℕ → ℤ
  found x r = pays (flat t.values) sg (placed_plan (place_in t) x) r m

  pub flat_pays : (x : Plan ℕ) (r : ℕ) → reads_of (may_read t) x r → found x r ≡ told x r
  unfolding pays placed_plan reads_of
  flat_pays nothing r h = refl
  flat_pays (transfer p q) r h = refl
  flat_pays (scale a x) r h = ap₂ ◌*ℤ◌ (flat_value t ok r a h.0) (flat_pays x r h.1)
  flat_pays (later d x) r h = flat_pays x (r + d) h
  flat_pays (both x y) r h = ap₂ ◌+ℤ◌ (flat_pays x r h.0) (flat_pays y r h.1)
  flat_pays (within d s x y) r h =
      ap (started (λ k. found x k) (λ k. found y k)) (flat_tried t ok s d r (λ j l k. (h.0 j l k).0))
      ∙ started_all (holds (lookup_of t) s) d r (tried (holds (lookup_of t) s) d r) (tried_spec (holds (lookup_of t) s) d r)
      (λ q. started (λ k. found x k) (λ k. found y k) q ≡ started (λ k. told x k) (λ k. told y k) q)
      (λ j l k. flat_pays x j (h.0 j l k).1)
      (flat_pays y (r + d) h.1)
