-- A call that writes into the usable part of `out`, and its numbers put into `answer`: together they are the call on the whole of `out`.
use Prim.Native.Nat.{◌<◌, ◌≤◌, ◌^◌, ℕ}
use borrow.Author.Tests.{leb-true}
use lib.Dec.{leb}
use lib.IntN.{pos, ℤ}
use lib.ListN.{drop, drop_of_length-le, length, take}
use lib.Seq.{length-take-le}
use mathlib.Core.Bool.{Bool, cond, false, true}
use mathlib.Core.List.{List, ◌++◌, ◌∷◌, [], append-nil}
use mathlib.Core.Path.{◌∙◌, ◌≡◌, ap, ap₂, refl, sym}
use mir.Facts.{to_z-of_z}
use mir.Syntax.{w32}
use mir.Val.{SFits, of_z, to_z}
use native.Mathlib.Omega.{arith}
use Rattle.language.proofs.Acceptance.{no_answer}
use Rattle.language.specs.Answer.{Answer, got, refused}
use Rattle.language.specs.Calls.{Outcome, Writes, Wrote, into_buffer}
use Rattle.unit.specs.Returned.{into_answer, into_both, out_after, put}
use Rattle.unit.specs.Within.{Counted}

-- what a text leaves, by whether the buffer has room for it
abbrev by_room : {A : Type 0} → List ℕ → Writes A → Bool → Outcome (Wrote A)
by_room buffer w t =
    cond t (record { answer = got (record { value = w.value; count = length w.text }); buffer = w.text ++ drop (length w.text) buffer }) (record { answer = refused 13; buffer = buffer })

-- ---- how many bytes

pub within_out : (t : Bool) {end m : ℕ} → end ≡ cond t m 0 → end ≤ m
within_out true e = omega (arith, e)
within_out false e = omega (arith, e)

pub part_length : (end : ℕ) (out : List ℕ) → end ≤ length out → end ≡ length (take end out)
part_length end out h = sym (length-take-le end out h)

module _ {A : Type 0} (buffer : List ℕ) where
  below : (w : Answer (Writes A)) (x : Wrote A) → (into_buffer buffer w).answer ≡ got x → x.count ≤ length buffer
  unfolding into_buffer
  below (refused n) x e = no_answer e
  below (got w) x e = go (leb (length w.text) (length buffer)) refl e
    where
      go : (t : Bool) → leb (length w.text) (length buffer) ≡ t → (by_room buffer w t).answer ≡ got x → x.count ≤ length buffer
      go false h e = no_answer e
      go true h e =
          let same : length w.text ≡ x.count = counts e in
          omega (arith, same, leb-true (length w.text) (length buffer) h)
        where
          counts : {v y : Wrote A} → ◌≡◌ {A = Answer (Wrote A)} (got v) (got y) → v.count ≡ y.count
          counts e = cc

-- a count of bytes written fits, since `out` fits
pub counted : {A : Type 0} (t : Bool) {end : ℕ} (out : List ℕ) → end ≡ cond t (length out) 0 → length out < 2 ^ 63
    → (w : Answer (Writes A)) {a : Answer (Wrote A)} → a ≡ (into_buffer (take end out) w).answer → Counted a
counted t {end} out i h w e =
    let j = within_out t i in
    let p = part_length end out j in
    record { within = λ x g. let b = below (take end out) w x (sym e ∙ g) in omega (arith, b, p, j, h) }

whole : (l : List ℕ) → take (length l) l ≡ l
whole [] = refl
whole (x ∷ l) = ap (λ r. x ∷ r) (whole l)

-- nothing is written where there is no byte
nothing : {A : Type 0} (w : Answer (Writes A)) → (into_buffer [] w).buffer ≡ []
unfolding into_buffer
nothing (refused k) = refl
nothing {A} (got w) = go (leb (length w.text) 0) refl
  where
    none : (text : List ℕ) → length text ≤ 0 → text ++ drop (length text) [] ≡ []
    none [] h = refl
    none (b ∷ text) h = absurd (omega (arith, h))

    go : (t : Bool) → leb (length w.text) 0 ≡ t → (by_room [] w t).buffer ≡ []
    go false e = refl
    go true e = none w.text (leb-true (length w.text) 0 e)

-- ---- `answer` and `out` together

module _ {A : Type 0} (numbers : Wrote A → List ℤ) (n : ℕ) (each : (x : Wrote A) → length (numbers x) ≡ n) (answer : List ℤ) (out : List ℕ) where
  -- an `answer` too short: 13, whatever room the text has, and `out` as it was
  all_13 : leb n (length answer) ≡ false → (buffer : List ℕ) (w : Writes A) (t : Bool) → into_answer numbers answer (by_room buffer w t).answer ≡ (pos 13, answer)
  unfolding into_answer put
  all_13 h buffer w false = refl
  all_13 h buffer w true = rw (each (record { value = w.value; count = length w.text }), h)

  same_number : leb n (length answer) ≡ false → (w : Answer (Writes A)) → into_answer numbers answer (into_buffer [] w).answer ≡ into_answer numbers answer (into_buffer out w).answer
  unfolding into_buffer
  same_number h (refused k) = refl
  same_number h (got w) = all_13 h [] w (leb (length w.text) 0) ∙ sym (all_13 h out w (leb (length w.text) (length out)))

  as_it_was : leb n (length answer) ≡ false → (a : Answer (Wrote A)) (left : List ℕ) → out_after numbers answer out a left ≡ out
  unfolding out_after
  as_it_was h (refused k) left = refl
  as_it_was h (got x) left = rw (each x, h)

  -- room in `answer`: `out` is as the call left it
  as_left : leb n (length answer) ≡ true → (w : Answer (Writes A)) → out_after numbers answer out (into_buffer out w).answer (into_buffer out w).buffer ≡ (into_buffer out w).buffer
  unfolding out_after into_buffer
  as_left h (refused k) = refl
  as_left h (got w) = go (leb (length w.text) (length out))
    where
      go : (t : Bool) → out_after numbers answer out (by_room out w t).answer (by_room out w t).buffer ≡ (by_room out w t).buffer
      go false = refl
      go true = rw (each (record { value = w.value; count = length w.text }), h)

  -- by the bytes of `out` that may be written
  by_end : (w : Answer (Writes A)) (t : Bool) → leb n (length answer) ≡ t → (end : ℕ) → end ≡ cond t (length out) 0
      → ◌≡◌ {A = (ℤ × List ℤ) × List ℕ} (into_answer numbers answer (into_buffer (take end out) w).answer, (into_buffer (take end out) w).buffer ++ drop end out) (into_both numbers answer out (into_buffer out w))
  unfolding into_both
  by_end w true h end e =
      rw (e, whole out, drop_of_length-le out {i = length out} (omega arith), append-nil (into_buffer out w).buffer, as_left h w)
  by_end w false h end e = rw (e, nothing w, as_it_was h (into_buffer out w).answer (into_buffer out w).buffer, same_number h w)

  pub both : (w : Answer (Writes A)) (end : ℕ) → end ≡ cond (leb n (length answer)) (length out) 0
      → {a : Answer (Wrote A)} {new : List ℕ} → new ≡ (into_buffer (take end out) w).buffer → a ≡ (into_buffer (take end out) w).answer
      → (r : ℤ) (last : List ℤ) → SFits w32 r → (r, last) ≡ into_answer numbers answer a
      → ((to_z w32 (of_z w32 r), last), new ++ drop end out) ≡ into_both numbers answer out (into_buffer out w)
  both w end e {a} {new} eb ea r last f h =
      ap₂ (λ z b. ((z, last), b ++ drop end out)) (to_z-of_z f) eb ∙ ap (λ p. (p, (into_buffer (take end out) w).buffer ++ drop end out)) (h ∙ ap (into_answer numbers answer) ea) ∙ by_end w (leb n (length answer)) refl end e
