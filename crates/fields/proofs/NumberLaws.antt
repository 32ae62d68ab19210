-- Laws of whole numbers, as the code reads them digit by digit.
use Prim.Native.Nat.{◌*◌, ◌+◌, ◌-◌, ◌<◌, ◌≤◌, suc, zero, ℕ}
use borrow.Author.Tests.{eq-eqb, eqb-false, eqb-true, le-leb, lt-leb, ne_eqb}
use lib.Dec.{eqb}
use lib.IntN.{◌-ℤ◌, +ℤ_idl, neg_ℤ, pos, ℤ}
use lib.ListN.{drop, get_or, length}
use lib.Signed.{mag}
use mathlib.Core.Bool.{Bool, ◌&&◌, ◌||◌, false, not, true}
use mathlib.Core.List.{List, [], ◌∷◌, foldl}
use mathlib.Core.Logic.{◌⊎◌, inl, inr}
use mathlib.Core.Option.{Option, none, some}
use Rattle.language.specs.Limits.{max_amount}
use mathlib.Core.Path.{◌∙◌, ◌≡◌, ap, refl}
use native.Mathlib.Omega.{arith}
use mir.Syntax.{w64}
use mir.Val.{SFits, to_z}
use mir.ValLaws.{to_z_pos}
use Rattle.language.specs.Text.Number.{alone, digits, keep, negative, positive, read_natural, read_number, shift, value_of}
use Rattle.fields.specs.Numbers.{Beyond, BeyondZ, DigitsAre, FewAre, NaturalIs, NumberIs, NumberTried, Run, SmallNatural, Whole, minus, plus}
use Rattle.fields.specs.Positions.{up_to}
use Rattle.fields.proofs.Positions.{up_more}
use Rattle.std.specs.Prelude.{None, Some}
use Rattle.fields.specs.declared.numbers.Natural.{Natural}
use Rattle.fields.specs.declared.numbers.Number.{Number}
use Rattle.std.specs.Prelude as std

-- ---- digits: `rest` is left of `f`, and those before have the value v

pub record Going (f rest : List ℕ) (v at i : ℕ) : Type 0 where
  pub same : digits f ≡ digits rest
  pub value : foldl shift 0 f ≡ foldl shift v rest
  pub place : at + length f ≡ i + length rest

pub going_start : (f : List ℕ) (at : ℕ) → Going f f 0 at at
going_start f at = record { same = refl; value = refl; place = refl }

module _ (f rest : List ℕ) (v at i b : ℕ) (bs : List ℕ) (g : Going f rest v at i) (e : rest ≡ b ∷ bs) where
  pub going_more : 48 ≤ b → b ≤ 57 → Going f bs (v * 10 + (b - 48)) at (i + 1)
  going_more l h = record {
    same = g.same ∙ ap digits e ∙ simp (le-leb 48 b l, le-leb b 57 h);
    value = g.value ∙ ap (foldl shift v) e;
    place = let q : length rest ≡ length (b ∷ bs) = ap length e in omega (arith, g.place);
  }

  pub going_low : b < 48 → digits f ≡ false
  going_low h = g.same ∙ ap digits e ∙ simp (lt-leb 48 b h)

  pub going_high : 57 < b → digits f ≡ false
  going_high h = let l : 48 ≤ b = omega arith in g.same ∙ ap digits e ∙ simp (le-leb 48 b l, lt-leb b 57 h)

larger : (v : ℕ) (bs : List ℕ) → v ≤ foldl shift v bs
larger v [] = omega arith
larger v (b ∷ bs) = let h : v * 10 + (b - 48) ≤ foldl shift (v * 10 + (b - 48)) bs = larger (v * 10 + (b - 48)) bs in omega arith

pub going_over : (f rest : List ℕ) (v at i m : ℕ) → Going f rest v at i → m < v → m < value_of f
unfolding value_of
going_over f rest v at i m g h =
    let e : foldl shift 0 f ≡ foldl shift v rest = g.value in
    omega (arith, larger v rest)

pub going_done : (f rest : List ℕ) (v at i : ℕ) → Going f rest v at i → rest ≡ [] → v ≤ 9000000000000 → Run f at v i
unfolding value_of
going_done f rest v at i g e h = record {
  all = g.same ∙ ap digits e;
  value = g.value ∙ ap (foldl shift v) e;
  small = h;
  ends = let q : length rest ≡ 0 = ap length e in omega (arith, g.place);
}

-- ---- naturals

and_false : (b : Bool) → (b && false) ≡ false
and_false true = refl
and_false false = refl

or_true : (b : Bool) → (b || true) ≡ true
or_true true = refl
or_true false = refl

kept : (b : Bool) (n : ℕ) → 9000000000000 < n → Beyond (keep b n)
kept true n h = h
kept false n h = tt

pub natural_broken : (f : List ℕ) → (digits f ≡ false) ⊎ (9000000000000 < value_of f) → Beyond (read_natural f)
unfolding read_natural
natural_broken [] h = tt
natural_broken (c ∷ cs) (inl e) = rw e tt
natural_broken (c ∷ cs) (inr h) = kept (digits (c ∷ cs) && (not (eqb c 48) || alone cs)) _ h

pub natural_empty : (f : List ℕ) → length f ≡ 0 → Beyond (read_natural f)
unfolding read_natural
natural_empty [] h = tt
natural_empty (c ∷ cs) h = absurd (omega arith)

module _ (f : List ℕ) (at v end : ℕ) (r : Run f at v end) where
  pub natural_one : length f ≡ 1 → Whole f at v end
  unfolding read_natural
  natural_one h = record { is = go f h r.all r.value; small = r.small; ends = r.ends }
    where
      go : (f : List ℕ) → length f ≡ 1 → digits f ≡ true → value_of f ≡ v → read_natural f ≡ some v
      go [] h a e = absurd (omega arith)
      go (c ∷ []) h a e = rw (a, or_true (not (eqb c 48)), e) refl
      go (c ∷ d ∷ cs) h a e = absurd (omega arith)

  pub natural_more : 1 < length f → (get_or f 0 0 ≡ 48 → ⊥) → Whole f at v end
  unfolding read_natural
  natural_more h n = record { is = go f h n r.all r.value; small = r.small; ends = r.ends }
    where
      go : (f : List ℕ) → 1 < length f → (get_or f 0 0 ≡ 48 → ⊥) → digits f ≡ true → value_of f ≡ v → read_natural f ≡ some v
      go [] h n a e = absurd (omega arith)
      go (c ∷ cs) h n a e = rw (a, ne_eqb c 48 n, e) refl

pub natural_zero : (f : List ℕ) → 1 < length f → get_or f 0 0 ≡ 48 → Beyond (read_natural f)
unfolding read_natural
natural_zero [] h e = absurd (omega arith)
natural_zero (c ∷ []) h e = absurd (omega arith)
natural_zero (c ∷ d ∷ cs) h e = rw (eq-eqb c 48 e, and_false (digits (c ∷ d ∷ cs))) tt

-- a row of digits that does not start with a zero
pub natural_led : (f : List ℕ) (at : ℕ) → 0 < length f → (get_or f 0 0 ≡ 48 → ⊥) → (n : std.Option Natural) → DigitsAre f at n → NaturalIs f at n
natural_led f at some-digit led (Some it) r = go (eqb (length f) 1) refl
  where
    go : (b : Bool) → eqb (length f) 1 ≡ b → Whole f at it.value it.end
    go true e = natural_one f at it.value it.end r (eqb-true (length f) 1 e)
    go false e = let n : length f ≡ 1 → ⊥ = eqb-false (length f) 1 e in natural_more f at it.value it.end r (omega (arith, n)) led
natural_led f at some-digit led None d = natural_broken f d

-- .. in a text, from byte `at` on to a comma
module _ (text : List ℕ) (at : ℕ) (h : at < length text) (low : 49 ≤ get_or text at 0) (high : get_or text at 0 ≤ 57) where
  led : up_to 44 (drop at text) ≡ get_or text at 0 ∷ up_to 44 (drop (at + 1) text)
  led = up_more 44 text at h (λ e. omega arith) (λ e. omega arith)

  pub led_head : get_or (up_to 44 (drop at text)) 0 0 ≡ get_or text at 0
  led_head = ap (λ (f : List ℕ). get_or f 0 0) led

  pub led_natural : (n : std.Option Natural) → DigitsAre (up_to 44 (drop at text)) at n → NaturalIs (up_to 44 (drop at text)) at n
  led_natural n d =
      let k : length (up_to 44 (drop at text)) ≡ suc (length (up_to 44 (drop (at + 1) text))) = ap length led in
      natural_led (up_to 44 (drop at text)) at (omega (arith, k)) (λ e. omega (arith, led_head, e)) n d

-- ---- numbers

beyond_plus : (n : Option ℕ) → Beyond n → BeyondZ (positive n)
beyond_plus none h = tt
beyond_plus (some n) h = h

beyond_minus : (n : Option ℕ) → Beyond n → BeyondZ (negative n)
beyond_minus none h = tt
beyond_minus (some zero) h = tt
beyond_minus (some (suc n)) h = h

number_plain : (f : List ℕ) → (get_or f 0 0 ≡ 45 → ⊥) → read_number f ≡ positive (read_natural f)
unfolding read_number read_natural
number_plain [] n = refl
number_plain (c ∷ cs) n = rw (ne_eqb c 45 n) refl

pub number_plus : (f : List ℕ) (at : ℕ) → (get_or f 0 0 ≡ 45 → ⊥) → (n : std.Option Natural) → NaturalIs f at n → NumberIs f at (plus n)
unfolding plus
number_plus f at q (Some it) w = record { is = number_plain f q ∙ ap positive w.is; small = w.small; ends = w.ends }
number_plus f at q None w = rw (number_plain f q) (beyond_plus (read_natural f) w)

pub number_minus : (f g : List ℕ) (at : ℕ) → f ≡ 45 ∷ g → (n : std.Option Natural) → NaturalIs g (at + 1) n → NumberIs f at (minus n)
unfolding minus read_number
number_minus f g at e (Some it) w = by it.value w.is w.small
  where
    by : (v : ℕ) → read_natural g ≡ some v → v ≤ max_amount → NumberIs f at (minus (Some (record { value = v; end = it.end })))
    by zero is small = rw (e, is) tt
    by (suc v) is small = rw (ne_eqb (suc v) 0 (λ q. omega arith)) (record {
      is = rw (e, is) refl;
      small = small;
      ends = let q : length f ≡ suc (length g) = ap length e in omega (arith, w.ends);
    })
number_minus f g at e None w = rw e (beyond_minus (read_natural g) w)

-- ---- a magnitude within the limit, as the machine reads it

pub read_pos : (v : ℕ) → v ≤ 9000000000000 → to_z w64 v ≡ pos v
read_pos v h = to_z_pos w64 v (omega arith)

pub sub_pos : (v : ℕ) → pos 0 -ℤ pos v ≡ neg_ℤ (pos v)
sub_pos v = +ℤ_idl (neg_ℤ (pos v))

pub mag_neg : (v : ℕ) → mag (neg_ℤ (pos v)) ≤ v
mag_neg zero = omega arith
mag_neg (suc v) = omega arith

pub neg_fits : (v : ℕ) → v ≤ 9000000000000 → SFits w64 (neg_ℤ (pos v))
neg_fits v h = record { sfits = omega (arith, mag_neg v) }

pub small_natural : (f : List ℕ) (at : ℕ) (n : std.Option Natural) → NaturalIs f at n → SmallNatural n
small_natural f at (Some it) w = w.small
small_natural f at None w = tt

-- ---- with a sign, from the machine's number

pub plus_some : (v end : ℕ) (z : ℤ) → z ≡ pos v → ◌≡◌ {A = std.Option Number} (Some (record { value = z; end = end })) (plus (Some (record { value = v; end = end })))
unfolding plus
plus_some v end z e = rw e refl

pub plus_bad : None ≡ plus None
unfolding plus
plus_bad = refl

pub minus_zero : (v end : ℕ) → v ≡ 0 → None ≡ minus (Some (record { value = v; end = end }))
unfolding minus
minus_zero v end h = simp (eq-eqb v 0 h)

pub minus_some : (v end : ℕ) (z : ℤ) → (v ≡ 0 → ⊥) → z ≡ neg_ℤ (pos v) → ◌≡◌ {A = std.Option Number} (Some (record { value = z; end = end })) (minus (Some (record { value = v; end = end })))
unfolding minus
minus_some v end z h e = rw (ne_eqb v 0 h, e) refl

pub minus_bad : None ≡ minus None
unfolding minus
minus_bad = refl

-- ---- up to three digits

pub few_small : (f : List ℕ) (at : ℕ) (n : std.Option Natural) → FewAre f at n → SmallNatural n
few_small f at (Some it) r = r.small
few_small f at None r = tt

-- with a digit above 0 in front
pub tried_plus : (text : List ℕ) (at : ℕ) → at < length text → 48 < get_or text at 0 → get_or text at 0 ≤ 57 → (n : std.Option Natural) → FewAre (up_to 44 (drop at text)) at n
    → NumberTried (up_to 44 (drop at text)) at (plus n)
unfolding plus
tried_plus text at h l u (Some it) r =
    number_plus (up_to 44 (drop at text)) at (λ e. omega (arith, led_head text at h l u, e)) (Some (record { value = it.value; end = it.end })) (led_natural text at h l u (Some (record { value = it.value; end = it.end })) r)
tried_plus text at h l u None r = tt
