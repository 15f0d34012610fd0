-- A flash rests while nothing is done, or bytes are posted.
use Rattle.std.proofs.Common.{◌≡◌, inl, inr, ℕ, List, [], ◌∷◌, ◌++◌, refl, sym, ◌∙◌, ap, subst}
use Rattle.pk_base.{specs.Page.Flash, specs.Mark.post}
use Rattle.pk_nand.{specs.BoardState.BoardState, specs.Calls.longer, specs.Operations.after_post, specs.Operations.PostFailed, specs.Crash.ReachedBy, specs.Resting.Standing, specs.Resting.RestsFlash}
use Rattle.pk_nand.proofs.Reaching.{Reached-start, Reached-then, Reached-post, longer-nil}

-- neither the flash nor what the host sees changed
pub Rests-start : (a b : BoardState) → b.shape ≡ a.shape → b.pages ≡ a.pages → b.trail ≡ a.trail → b.posted ≡ a.posted → RestsFlash a b
Rests-start a b shape pages trail posted =
    record { marks = []; reached = Reached-start a b (Standing a.pages) shape pages trail posted refl }

pub Rests-same : (a b : BoardState) → b ≡ a → RestsFlash a b
Rests-same a b same =
    Rests-start a b (ap (λ s. s.shape) same) (ap (λ s. s.pages) same) (ap (λ s. s.trail) same) (ap (λ s. s.posted) same)

-- one after the other
pub Rests-then : (a b c : BoardState) → b.pages ≡ a.pages → RestsFlash a b → RestsFlash b c → RestsFlash a c
Rests-then a b c pages p q =
    let T : Flash → Type 0 = λ f. ReachedBy q.marks b c (Standing f) in
    record {
      marks = p.marks ++ q.marks;
      reached = Reached-then p.marks q.marks a b c (Standing a.pages) p.reached (subst T pages q.reached);
    }

-- bytes were posted
pub Rests-post : (a b : BoardState) (bytes : List ℕ) → b ≡ after_post a bytes → RestsFlash a b
Rests-post a b bytes is =
    let T : BoardState → Type 0 = λ s. RestsFlash a s in
    subst T (sym is) (record { marks = post bytes ∷ []; reached = Reached-post a bytes (Standing a.pages) (λ out rest front. refl) })

-- a prefix of them was
pub Rests-post_failed : (a b : BoardState) (bytes : List ℕ) → PostFailed a b bytes → RestsFlash a b
Rests-post_failed a b bytes failed =
    let shape : b.shape ≡ a.shape = ap (λ s. s.shape) failed.rest in
    let pages : b.pages ≡ a.pages = ap (λ s. s.pages) failed.rest in
    let out = failed.left.out in
    elim failed.left.trail_is [
      | inl marked ↦
          let given = Reached-post a out (Standing a.pages) (λ front rest is. refl) in record {
            marks = post out ∷ [];
            reached = record {
              trail = marked;
              posted = failed.left.posted_is ∙ given.posted;
              same_shape = shape;
              cuts = given.cuts;
              stands = pages;
            };
          }
      | inr nothing ↦
          Rests-start a b shape pages nothing.1
          (failed.left.posted_is ∙ (ap (λ t. longer a.posted t) nothing.0 ∙ longer-nil a.posted))
    ]
