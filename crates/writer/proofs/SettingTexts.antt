-- The text of a month's settings: setting after setting, from digits in base 32.
use Prim.Native.Nat.{◌%◌, ◌*◌, ◌+◌, ◌-◌, ◌/◌, ◌<◌, ◌≤◌, suc, zero, ℕ}
use lib.ListN.{length, length-append, replicate, set}
use mathlib.Core.List.{List, [], ◌++◌, ◌∷◌, append_assoc, append-nil}
use mathlib.Core.Path.{◌∙◌, ◌≡◌, ap, refl, sym}
use native.Mathlib.Omega.{arith}
use Rattle.language.specs.Text.Classes.{print_setting, setting_fields}
use Rattle.language.specs.Text.Fields.{behind}
use Rattle.nodes.specs.Rows.{settings_from}
use Rattle.writer.proofs.Puts.{kept, none, room_first, room_next, said, then, three}
use Rattle.writer.specs.Put.{Put}
use Rattle.writer.specs.Shapes.{settings_text}

-- the settings of n digits, the last of them for Pk
abbrev pub run : ℕ → ℕ → ℕ → List ℕ
run n k digits = behind 43 (setting_fields (settings_from n k digits))

-- the setting Pk n times
abbrev pub copies : ℕ → ℕ → List ℕ
copies n k = behind 43 (setting_fields (replicate n k))

texts_append : (xs ys : List ℕ) → behind 43 (setting_fields (xs ++ ys)) ≡ behind 43 (setting_fields xs) ++ behind 43 (setting_fields ys)
unfolding behind setting_fields print_setting
texts_append [] ys = refl
texts_append (x ∷ xs) ys = rw (texts_append xs ys)

-- ---- copies of one setting

pub copies_more : (n k : ℕ) → copies (suc n) k ≡ copies n k ++ (43 ∷ 80 ∷ (48 + k) ∷ [])
unfolding behind setting_fields print_setting
copies_more zero k = refl
copies_more (suc n) k = ap (λ (t : List ℕ). 43 ∷ 80 ∷ (48 + k) ∷ t) (copies_more n k)

pub copies_length : (n k : ℕ) → length (copies n k) ≡ 3 * n
unfolding behind setting_fields print_setting
copies_length zero k = refl
copies_length (suc n) k = omega (arith, copies_length n k)

pub no_copies : (k : ℕ) → copies 0 k ≡ []
unfolding behind setting_fields
no_copies k = refl

-- ---- digits

pub run_more : (n k digits : ℕ) → run (suc n) k digits ≡ copies (digits % 32) k ++ run n (suc k) (digits / 32)
unfolding settings_from
run_more n k digits = texts_append (replicate (digits % 32) k) (settings_from n (suc k) (digits / 32))

pub run_zero : (n k : ℕ) → run n k 0 ≡ []
unfolding settings_from behind setting_fields
run_zero zero k = refl
run_zero (suc n) k = run_zero n (suc k)

pub run_most : (n k digits : ℕ) → length (run n k digits) ≤ 93 * n
unfolding behind setting_fields settings_from
run_most zero k digits = omega arith
run_most (suc n) k digits =
    omega (
      arith,
      ap length (run_more n k digits),
      length-append (copies (digits % 32) k) (run n (suc k) (digits / 32)),
      copies_length (digits % 32) k,
      run_most n (suc k) (digits / 32),
    )

pub settings_most : (digits : ℕ) → length (settings_text digits) ≤ 744
settings_most digits = run_most 8 0 digits

next_run : (k digits : ℕ) → k < 8 → run (8 - k) k digits ≡ copies (digits % 32) k ++ run (8 - (k + 1)) (k + 1) (digits / 32)
next_run k digits h =
    let e : 8 - k ≡ suc (8 - (k + 1)) = omega arith in let s : k + 1 ≡ suc k = omega arith in
    rw e (run_more (8 - (k + 1)) k digits ∙ ap (λ (j : ℕ). copies (digits % 32) k ++ run (8 - (k + 1)) j (digits / 32)) (sym s))

last_run : (k digits : ℕ) → 8 ≤ k → run (8 - k) k digits ≡ []
unfolding settings_from behind setting_fields
last_run k digits h = let e : 8 - k ≡ 0 = omega arith in rw e

-- ---- counting

pub record Summing (digits sum left k : ℕ) : Type 0 where
  pub all : length (settings_text digits) ≡ sum + length (run (8 - k) k left)

pub summing_starts : (digits : ℕ) → Summing digits 0 digits 0
summing_starts digits = record { all = omega arith }

pub summing_on : {digits sum left k : ℕ} → Summing digits sum left k → k < 8 → Summing digits (sum + 3 * (left % 32)) (left / 32) (k + 1)
summing_on {digits} {sum} {left} {k} s h = record {
  all =
      omega (
        arith,
        s.all,
        ap length (next_run k left h),
        length-append (copies (left % 32) k) (run (8 - (k + 1)) (k + 1) (left / 32)),
        copies_length (left % 32) k,
      );
}

pub summing_ends : {digits sum left k : ℕ} → Summing digits sum left k → 8 ≤ k → sum ≡ length (settings_text digits)
summing_ends {digits} {sum} {left} {k} s h = omega (arith, s.all, ap length (last_run k left h))

pub sum_most : {digits sum left k : ℕ} → Summing digits sum left k → sum ≤ 744
sum_most {digits} s = omega (arith, s.all, settings_most digits)

pub no_settings : (digits : ℕ) → digits ≡ 0 → settings_text digits ≡ []
no_settings digits e = rw e (run_zero 8 0)

-- ---- writing

pub record Settling (digits : ℕ) (old out : List ℕ) (at place left k : ℕ) : Type 0 where
  pub done : List ℕ
  pub put : Put old out at place done
  pub all : settings_text digits ≡ done ++ run (8 - k) k left

pub settling_starts : (digits : ℕ) (out : List ℕ) (at : ℕ) → Settling digits out out at at digits 0
settling_starts digits out at = record { done = []; put = none; all = refl }

module _ {digits : ℕ} {old out : List ℕ} {at place left k : ℕ} (s : Settling digits old out at place left k) where
  module _ (h : k < 8) where
    split : settings_text digits ≡ s.done ++ (copies (left % 32) k ++ run (8 - (k + 1)) (k + 1) (left / 32))
    split = s.all ∙ ap (λ (t : List ℕ). s.done ++ t) (next_run k left h)

    pub settling_room : at + length (settings_text digits) ≤ length old → place + 3 * (left % 32) ≤ length out
    settling_room r =
        let q : at + length (s.done ++ (copies (left % 32) k ++ run (8 - (k + 1)) (k + 1) (left / 32))) ≤ length old = rw split at r in
        let p : place + length (copies (left % 32) k ++ run (8 - (k + 1)) (k + 1) (left / 32)) ≤ length out = room_next _ q s.put in
        omega (arith, room_first place (length out) (copies (left % 32) k) (run (8 - (k + 1)) (k + 1) (left / 32)) p, copies_length (left % 32) k)

    pub settling_on : {new : List ℕ} {next : ℕ} → Put out new place next (copies (left % 32) k) → Settling digits old new at next (left / 32) (k + 1)
    settling_on p = record {
      done = s.done ++ copies (left % 32) k;
      put = then s.put p;
      all = split ∙ sym (append_assoc s.done (copies (left % 32) k) (run (8 - (k + 1)) (k + 1) (left / 32)));
    }

  pub settling_ends : 8 ≤ k → Put old out at place (settings_text digits)
  settling_ends h = said (sym (s.all ∙ rw (last_run k left h) (append-nil s.done))) s.put

-- ---- writing copies

pub record Copying (k : ℕ) (old out : List ℕ) (at place i : ℕ) : Type 0 where
  pub put : Put old out at place (copies i k)
  pub end : place ≡ at + 3 * i

pub copying_starts : (k : ℕ) (out : List ℕ) (at : ℕ) → Copying k out out at at 0
copying_starts k out at = record { put = said (sym (no_copies k)) none; end = omega arith }

pub copying_on : {k : ℕ} {old out : List ℕ} {at place i : ℕ} → Copying k old out at place i → Copying k old (set (set (set out place 43) (place + 1) 80) (place + 2) (48 + k)) at (place + 3) (i + 1)
copying_on {k} {old} {out} {at} {place} {i} s =
    let e : i + 1 ≡ suc i = omega arith in
    record { put = said (sym (rw e (copies_more i k))) (then s.put (three out place 43 80 (48 + k))); end = omega (arith, s.end) }
