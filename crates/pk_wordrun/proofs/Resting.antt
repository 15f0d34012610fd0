-- A flash rests while commands only read, and a text is posted after them.
use Rattle.std.proofs.Common.{◌≡◌, List, ℕ, refl, ap, true, false}
use Rattle.pk_base.specs.Shape.{Shape}
use Rattle.pk_nand.{specs.BoardState.BoardState, specs.Operations.after_post, specs.Operations.PostFailed, specs.Effects.OnlyReading, specs.Resting.RestsFlash}
use Rattle.pk_nand.proofs.Resting.{Rests-start, Rests-then, Rests-post, Rests-post_failed}
use Rattle.pk_call.specs.Calling.{only_looks}
use Rattle.pk_words.specs.Question.{Question, put, get, delete, has, stat, command_of}
use Rattle.pk_wordrun.specs.Tasks.{only_asked}

pub never_both : {A : Type 0} → false ≡ true → A
never_both e = absurd (cc)

-- the command of a question that only asks
pub asked_looks : (shape : Shape) (q : Question) → only_asked q ≡ true → only_looks (command_of shape q).opcode ≡ true
asked_looks shape (put key value) e = never_both e
asked_looks shape (get key) e = refl
asked_looks shape (delete key) e = never_both e
asked_looks shape (has key) e = refl
asked_looks shape stat e = refl

pub rests-reading : (a b : BoardState) → OnlyReading a b → RestsFlash a b
rests-reading a b only = Rests-start a b (ap (λ (s : BoardState). s.shape) only) (ap (λ (s : BoardState). s.pages) only)
    (ap (λ (s : BoardState). s.trail) only) (ap (λ (s : BoardState). s.posted) only)

pub rests-posted : (a b c : BoardState) (text : List ℕ) → OnlyReading a b → c ≡ after_post b text → RestsFlash a c
rests-posted a b c text only is = Rests-then a b c (ap (λ (s : BoardState). s.pages) only) (rests-reading a b only) (Rests-post b c text is)

pub rests-unposted : (a b c : BoardState) (text : List ℕ) → OnlyReading a b → PostFailed b c text → RestsFlash a c
rests-unposted a b c text only failed = Rests-then a b c (ap (λ (s : BoardState). s.pages) only) (rests-reading a b only) (Rests-post_failed b c text failed)
