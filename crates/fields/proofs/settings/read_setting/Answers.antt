use Prim.Native.Nat.{◌+◌, ◌-◌, suc, ℕ}
use lib.IntN.{◌-ℤ◌, pos, ℤ}
use lib.ListN.{drop, get_or, length}
use mathlib.Core.List.{List, [], ◌∷◌}
use mathlib.Core.Path.{◌∙◌, ◌≡◌, ap}
use mir.Syntax.{w64}
use mir.Val.{of_z, to_z}
use mir.ValLaws.{to_z-of_z}
use native.Mathlib.Omega.{arith}
use Rattle.language.specs.Text.Letters.{delay}
use Rattle.fields.specs.Positions.{up_to}
use Rattle.fields.proofs.FieldLaws.{failed_at, taken_at}
use Rattle.fields.proofs.NumberLaws.{neg_fits, sub_pos}
use Rattle.fields.proofs.Positions.{head_le, up_comma, up_end, up_more, up_two}
use Rattle.fields.proofs.SettingLaws.{P-high, P-long, P-low, setting_fails, setting_held}
use Rattle.fields.proofs.settings.read_setting.Goals as goal
use Rattle.fields.proofs.settings.read_setting.Goals.{then-c-lt48-via-then-c-lt48, then-c-lt48-via-else-c-lt48+then-c-gt55, else-text-at-ne2-via-then-text-at-ne2+else-text-at-ne44, else-text-at-ne2-via-else-text-at-ne2}

pub returns-then-text-at-lt2 : goal.returns-then-text-at-lt2
returns-then-text-at-lt2 c =
    let a = c.args in
    let p = c.requires.1 in
    failed_at delay a.text.now a.at (omega arith) (setting_fails _ _ (up_more 44 a.text.now a.at c.requires.0 (λ e. omega arith)
    (λ e. omega arith) ∙ ap (λ (b : ℕ). b ∷ up_to 44 (drop (a.at + 1) a.text.now)) p) (P-low _ (rw (up_end 44 a.text.now (a.at + 1) (omega
    arith)) (omega arith))))

pub returns-then-c-lt48 : goal.returns-then-c-lt48
returns-then-c-lt48 c =
    let a = c.args in
    let p = c.requires.1 in
    elim c.then-c-lt48.branch [
      | then-c-lt48-via-then-c-lt48 w ↦ failed_at delay a.text.now a.at (omega arith) (setting_fails _ (up_to 44 (drop (a.at + 1) a.text.now)) (up_more 44 a.text.now
          a.at c.requires.0 (λ e. omega arith) (λ e. omega arith) ∙ ap (λ (b : ℕ). b ∷ up_to 44 (drop (a.at + 1)
          a.text.now)) p) (P-low (up_to 44 (drop (a.at + 1) a.text.now)) (omega (arith, head_le 44 a.text.now (a.at + 1) (omega arith)))))
      | then-c-lt48-via-else-c-lt48+then-c-gt55 w ↦ failed_at delay a.text.now a.at (omega arith) (setting_fails _ _ (up_two 44 a.text.now a.at (omega arith) (λ e. omega arith) (λ e.
          omega arith) (λ e. omega arith) (λ e. omega arith) ∙ ap (λ (b : ℕ). b ∷ get_or a.text.now (a.at + 1) 0 ∷ up_to 44 (drop (a.at + 2)
          a.text.now)) p) (P-high (get_or a.text.now (a.at + 1) 0 ∷ up_to 44 (drop (a.at + 2) a.text.now)) w.if-c-gt55.true))
    ]

pub returns-then-text-at-ne44 : goal.returns-then-text-at-ne44
returns-then-text-at-ne44 c =
    let a = c.args in
    let p = c.requires.1 in
    let k : length (up_to 44 (drop (a.at + 2) a.text.now)) ≡ suc (length (up_to 44 (drop (a.at + 2 + 1) a.text.now))) = ap length (up_more 44
    a.text.now (a.at + 2) (omega arith) c.if-text-at-ne44.true c.if-text-at-ne44.true) in
    failed_at delay a.text.now a.at (omega arith) (setting_fails _ _ (up_two 44 a.text.now a.at (omega arith) (λ e. omega arith) (λ e.
    omega arith) (λ e. omega arith) (λ e. omega arith) ∙ ap (λ (b : ℕ). b ∷ get_or a.text.now (a.at + 1) 0 ∷ up_to 44 (drop (a.at + 2)
    a.text.now)) p) (P-long (get_or a.text.now (a.at + 1) 0 ∷ up_to 44 (drop (a.at + 2) a.text.now)) (omega arith)))

pub returns : goal.returns
returns c =
    let a = c.args in
    let p = c.requires.1 in
    let v : ℕ = get_or a.text.now (a.at + 1) 0 - 47 in
    let none : up_to 44 (drop (a.at + 2) a.text.now) ≡ [] = elim c.else-text-at-ne2.branch [
      | else-text-at-ne2-via-then-text-at-ne2+else-text-at-ne44 w ↦ up_comma 44 a.text.now (a.at + 2) (omega arith) w.if-text-at-ne44.false
      | else-text-at-ne2-via-else-text-at-ne2 w ↦ up_end 44 a.text.now (a.at + 2) (omega arith)
    ] in
    let f : up_to 44 (drop a.at a.text.now) ≡ 80 ∷ get_or a.text.now (a.at + 1) 0 ∷ [] = (up_two 44 a.text.now a.at (omega arith) (λ
    e. omega arith) (λ e. omega arith) (λ e. omega arith) (λ e. omega arith) ∙ ap (λ (b : ℕ). b ∷ get_or a.text.now (a.at + 1) 0 ∷ up_to 44 (drop
    (a.at + 2) a.text.now)) p) ∙ ap (λ (l : List ℕ). 80 ∷ get_or a.text.now (a.at + 1) 0 ∷ l) none in
    let k : length (up_to 44 (drop a.at a.text.now)) ≡ 2 = ap length f in
    taken_at delay a.text.now a.at _ _ (omega arith) (omega arith) (setting_held _ (get_or a.text.now (a.at + 1) 0) _ f (omega arith) (omega
    arith) (ap (λ (z : ℤ). to_z w64 (of_z w64 (pos 0 -ℤ to_z w64 (of_z w64 z)))) c.from.ensures ∙ ap (λ (z : ℤ). to_z w64 (of_z w64 (pos 0 -ℤ z))) (to_z-of_z w64 (pos v) (record { sfits = omega arith })) ∙ ap (λ (z : ℤ). to_z w64 (of_z w64 z)) (sub_pos v) ∙ to_z-of_z w64 _ (neg_fits v (omega arith))))
