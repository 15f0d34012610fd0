-- What the marks of a board posted, and how much of it left.
use Rattle.std.proofs.Common.{◌≡◌, ◌∙◌, ℕ, ◌≤◌, List, [], ◌∷◌, ◌++◌, length, take, sym, ap, subst, refl, append_assoc}
use Rattle.std.{proofs.lemmas.List.append-nil, proofs.lemmas.List.take-append-le, proofs.Math.Seq.take-length}
use Rattle.pk_base.{specs.Mark.Mark, specs.Mark.post, specs.Mark.posted_by, specs.Mark.all_posted}
use Rattle.pk_nand.proofs.CutLemmas.{posted-append}

-- one more mark
pub posted_more : (marks : List Mark) (mark : Mark) → all_posted (marks ++ mark ∷ []) ≡ all_posted marks ++ posted_by mark
posted_more marks mark = posted-append marks (mark ∷ []) ∙ ap (λ (bs : List ℕ). all_posted marks ++ bs) (append-nil (posted_by mark))

-- a mark that posts nothing
pub posted_same : (marks later : List Mark) (mark : Mark) (sent waiting : List ℕ) → later ≡ marks ++ mark ∷ [] → posted_by mark ≡ [] → sent ++ waiting ≡ all_posted marks
    → sent ++ waiting ≡ all_posted later
posted_same marks later mark sent waiting is silent before =
    before ∙ (sym (append-nil (all_posted marks)) ∙ (ap (λ (bs : List ℕ). all_posted marks ++ bs) (sym silent) ∙ (sym (posted_more marks mark) ∙ ap all_posted (sym is))))

-- a post
pub posted_post : (marks later : List Mark) (bytes sent waiting more : List ℕ) → later ≡ marks ++ post bytes ∷ [] → more ≡ waiting ++ bytes → sent ++ waiting ≡ all_posted marks
    → sent ++ more ≡ all_posted later
posted_post marks later bytes sent waiting more is grown before =
    ap (λ (bs : List ℕ). sent ++ bs) grown
    ∙ (sym (append_assoc sent waiting bytes) ∙ (ap (λ (bs : List ℕ). bs ++ bytes) before ∙ (sym (posted_more marks (post bytes)) ∙ ap all_posted (sym is))))

-- the first marks are the same after one more
pub first_same : (marks later : List Mark) (mark : Mark) (n : ℕ) (sent : List ℕ) → later ≡ marks ++ mark ∷ [] → n ≤ length marks → sent ≡ all_posted (take n marks)
    → sent ≡ all_posted (take n later)
first_same marks later mark n sent is low before = before ∙ ap all_posted (sym (take-append-le n marks (mark ∷ []) low) ∙ ap (λ (ms : List Mark). take n ms) (sym is))

-- all of them
pub first_all : (marks : List Mark) (n : ℕ) (sent : List ℕ) → n ≡ length marks → sent ≡ all_posted marks → sent ≡ all_posted (take n marks)
first_all marks n sent is all = all ∙ ap all_posted (sym (take-length marks) ∙ ap (λ (m : ℕ). take m marks) (sym is))
