-- Steps of a file after others.
use Rattle.std.proofs.Common.{◌≡◌, ◌∙◌, ap, List, ◌++◌, Option}
use Rattle.pk_nand.{specs.Calls.longer, proofs.Reaching.longer-longer}

pub steps_more : {X : Type 0} (a b c : Option (List X)) (xs ys : List X) → b ≡ longer a xs → c ≡ longer b ys → c ≡ longer a (xs ++ ys)
steps_more a b c xs ys first next = next ∙ (ap (λ (o : Option (List _)). longer o ys) first ∙ longer-longer a xs ys)
