use Rattle.std.proofs.Common.{◌+◌, ◌*◌, get_or, pos, sym, refl, ap, subst, arith, w64, Fits, SFits, rules}
use mir.Facts.{sfits_lit}
use Rattle.nodes.proofs.Signed.{key, no_key}
use Rattle.tables.proofs.Skips.{link_cast, link_leads, step_one}
use Rattle.tables.proofs.fill.next_plan.Goals as goal

pub overflow_cast-result : goal.overflow_cast-result
overflow_cast-result c =
    let a = c.args in
    let f : SFits w64 (get_or a.nodes.now (5 * a.i) (pos 0)) = search rules in
    let g : SFits w64 (get_or a.nodes.now (5 * a.i + 3) (pos 0)) = search rules in
    link_cast a.i a.nodes.now _ (key {n = 83} f (search rules)) refl c.requires.0 g

pub overflow_add-result-in-83 : goal.overflow_add-result-in-83
overflow_add-result-in-83 c =
    let a = c.args in
    let f : SFits w64 (get_or a.nodes.now (5 * a.i) (pos 0)) = search rules in
    let g : SFits w64 (get_or a.nodes.now (5 * a.i + 3) (pos 0)) = search rules in
    subst (Fits w64) (sym (link_leads a.i a.nodes.now _ (key {n = 83} f (search rules)) refl c.requires.0 g)) (omega (arith, c.requires.1))

pub overflow_cast-result-in-87 : goal.overflow_cast-result-in-87
overflow_cast-result-in-87 c =
    let a = c.args in
    let f : SFits w64 (get_or a.nodes.now (5 * a.i) (pos 0)) = search rules in
    let g : SFits w64 (get_or a.nodes.now (5 * a.i + 3) (pos 0)) = search rules in
    link_cast a.i a.nodes.now _ (key {n = 87} f (search rules)) refl c.requires.0 g

pub overflow_add-result-in-87-2 : goal.overflow_add-result-in-87-2
overflow_add-result-in-87-2 c =
    let a = c.args in
    let f : SFits w64 (get_or a.nodes.now (5 * a.i) (pos 0)) = search rules in
    let g : SFits w64 (get_or a.nodes.now (5 * a.i + 3) (pos 0)) = search rules in
    subst (Fits w64) (sym (link_leads a.i a.nodes.now _ (key {n = 87} f (search rules)) refl c.requires.0 g)) (omega (arith, c.requires.1))

pub returns-in-83 : goal.returns-in-83
returns-in-83 c =
    let a = c.args in
    let f : SFits w64 (get_or a.nodes.now (5 * a.i) (pos 0)) = search rules in
    let g : SFits w64 (get_or a.nodes.now (5 * a.i + 3) (pos 0)) = search rules in
    link_leads a.i a.nodes.now _ (key {n = 83} f (search rules)) refl c.requires.0 g

pub returns-in-87 : goal.returns-in-87
returns-in-87 c =
    let a = c.args in
    let f : SFits w64 (get_or a.nodes.now (5 * a.i) (pos 0)) = search rules in
    let g : SFits w64 (get_or a.nodes.now (5 * a.i + 3) (pos 0)) = search rules in
    link_leads a.i a.nodes.now _ (key {n = 87} f (search rules)) refl c.requires.0 g

pub returns-in_default : goal.returns-in_default
returns-in_default c =
    let a = c.args in
    let f : SFits w64 (get_or a.nodes.now (5 * a.i) (pos 0)) = search rules in
    ap (λ n. a.i + n) (sym (step_one a.i a.nodes.now (no_key 83 f (sfits_lit tt) (search rules)) (no_key 87 f (sfits_lit tt) (search rules))))
