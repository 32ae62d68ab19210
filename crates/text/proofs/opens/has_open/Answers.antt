use Rattle.std.proofs.Common.{◌≡◌, ◌∙◌, ℕ, List, [], ◌∷◌, eqb, refl}
use Rattle.std.specs.List.{list_any}
use Rattle.text.specs.Opens.{opens}
use Rattle.text.proofs.opens.has_open.Goals as goal

any_opens : (text : List ℕ) → list_any (λ b. eqb b 80) text ≡ opens text
unfolding opens
any_opens [] = refl
any_opens (b ∷ bs) = rw (any_opens bs) refl

pub returns : goal.returns
returns c = c.contains.ensures.value ∙ any_opens c.args.text.now
