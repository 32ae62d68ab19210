use Prim.Native.Nat.{◌+◌, suc, ℕ}
use lib.ListN.{drop, get_or, length}
use mathlib.Core.List.{List, [], ◌∷◌}
use mathlib.Core.Path.{◌∙◌, ◌≡◌, ap}
use native.Mathlib.Omega.{arith}
use Rattle.fields.proofs.Positions.{up_comma, up_end, up_more}
use Rattle.fields.specs.Positions.{up_to}
use Rattle.text.proofs.trees.letter_at.Goals as goal
use Rattle.text.proofs.trees.letter_at.Goals.{then-at-text-via-then-at-text, then-at-text-via-else-at-text+then-text-at-eq44, else-text-at-ne1-via-then-text-at-ne1+else-text-at-ne44, else-text-at-ne1-via-else-text-at-ne1}

pub returns-then-at-text : goal.returns-then-at-text
returns-then-at-text c =
    let a = c.args in
    let t = a.text.now in
    let none : up_to 44 (drop a.at t) ≡ [] = elim c.then-at-text.branch [
      | then-at-text-via-then-at-text w ↦ up_end 44 t a.at (omega arith)
      | then-at-text-via-else-at-text+then-text-at-eq44 w ↦ up_comma 44 t a.at (omega (arith, w.if-at-text.false)) w.if-text-at-eq44.true
    ] in
    let k : length (up_to 44 (drop a.at t)) ≡ 0 = ap length none in
    λ e. omega arith

pub returns-then-text-at-ne44 : goal.returns-then-text-at-ne44
returns-then-text-at-ne44 c =
    let a = c.args in
    let t = a.text.now in
    let k : length (up_to 44 (drop a.at t)) ≡ suc (suc (length (up_to 44 (drop (a.at + 1 + 1) t)))) = ap length (up_more 44 t a.at (omega arith)
    c.if-text-at-eq44.false c.if-text-at-eq44.false ∙ ap (λ (l : List ℕ). get_or t a.at 0 ∷ l) (up_more 44 t (a.at +
    1) (omega arith) c.if-text-at-ne44.true c.if-text-at-ne44.true)) in
    λ e. omega arith

pub returns : goal.returns
returns c =
    let a = c.args in
    let t = a.text.now in
    let last : up_to 44 (drop (a.at + 1) t) ≡ [] = elim c.else-text-at-ne1.branch [
      | else-text-at-ne1-via-then-text-at-ne1+else-text-at-ne44 w ↦ up_comma 44 t (a.at + 1) (omega arith) w.if-text-at-ne44.false
      | else-text-at-ne1-via-else-text-at-ne1 w ↦ up_end 44 t (a.at + 1) (omega arith)
    ] in
    up_more 44 t a.at (omega arith) c.if-text-at-eq44.false c.if-text-at-eq44.false ∙ ap (λ (l : List ℕ). get_or t a.at 0 ∷ l) last
