-- The operands of a line as the program holds them.
use Rattle.std.{specs.Prelude.ℕ, specs.Prelude.List, specs.Prelude.[], specs.Prelude.◌∷◌, specs.Prelude.Option, specs.Prelude.Some, specs.Prelude.None, specs.Borrow.Bor}
use Rattle.pk_asm.{specs.Words.words, specs.declared.operands.Operands.Operands}
use Rattle.pk_asm.specs.declared.operands.Operands.TheVariants.{Nothing, One, Two, Three, Many}

-- the words after the first, if something follows it
abbrev pub rest_words : Option (Bor (List ℕ)) → List (List ℕ)
rest_words None = []
rest_words (Some rest) = words rest.now

abbrev pub words_in : Operands → List (List ℕ)
words_in Nothing = []
words_in (One a) = a.now ∷ []
words_in (Two a b) = a.now ∷ b.now ∷ []
words_in (Three a b c) = a.now ∷ b.now ∷ c.now ∷ []
words_in (Many a b c d rest) = a.now ∷ b.now ∷ c.now ∷ d.now ∷ rest_words rest
