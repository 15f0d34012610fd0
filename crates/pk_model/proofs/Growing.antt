-- Consecutive runs along which the tree grows.
use Rattle.std.proofs.Common.{◌≡◌, ℕ, List, [], ◌∷◌, ◌++◌, Some, refl, sym, ◌∙◌, ap, subst, inl, inr, append_assoc, append-nil}
use Rattle.pk_base.{specs.Shape.Shape, specs.Page.Flash, specs.Page.page_at, specs.Mark.Mark, specs.Mark.after, specs.Mark.after_all, specs.Mark.all_posted, specs.Mark.post}
use Rattle.pk_nand.{specs.BoardState.BoardState, specs.BoardState.shape_of, specs.BoardState.shape_or_none, specs.Calls.longer, specs.Operations.after_post, specs.Operations.PostFailed, specs.Cut.Cut}
use Rattle.pk_nand.{specs.Crash.ReachedBy, specs.Crash.WentBy, proofs.CutLemmas.cut_end, proofs.Leaving.interrupted_done, proofs.Leaving.same_pages}
use Rattle.pk_nand.proofs.Reaching.{Reached-then, Went-then, Went-reached, Reached-start, Reached-post, longer-nil}
use Rattle.pk_rootfmt.specs.Newest.{newest_root, limits_if}
use Rattle.pk_model.{specs.Spaces.limits_at, specs.Growth.KeepsLimits, specs.Growth.GrowsAlong, specs.Growth.Reaches, specs.Growth.Goes}

pub GrowsAlong-append : (shape : Shape) (start : Flash) (first second : List Mark) → GrowsAlong shape start first
    → GrowsAlong shape (after_all shape first start) second → GrowsAlong shape start (first ++ second)
GrowsAlong-append shape start [] second before behind = behind
GrowsAlong-append shape start (mark ∷ first) second before behind = (before.0, GrowsAlong-append shape (after shape mark start) first second before.1 behind)

-- ---- limits

-- those of flashes with the same newest root
pub top_limits : (shape : Shape) (f g : Flash) → newest_root shape (page_at f) ≡ newest_root shape (page_at g) → limits_at shape f ≡ limits_at shape g
unfolding limits_at
top_limits shape f g same = ap (limits_if shape) same

-- a post leaves the pages
KeepsLimits-post : (shape : Shape) (start : Flash) (bytes : List ℕ) → KeepsLimits shape start (post bytes)
KeepsLimits-post shape start bytes flash posted cut = ap (limits_at shape) (same_pages start flash cut.same_size cut.pages)

-- wherever a trail is cut
pub cut_limits : (shape : Shape) (start : Flash) (marks : List Mark) → GrowsAlong shape start marks → (flash : Flash) (posted : List ℕ) → Cut shape start marks flash posted → limits_at shape flash ≡ limits_at shape start
cut_limits shape start [] along flash posted cut = ap (limits_at shape) cut.0
cut_limits shape start (mark ∷ marks) along flash posted (inl cut) = along.0.1 flash posted cut
cut_limits shape start (mark ∷ marks) along flash posted (inr (later, is, cut)) =
    cut_limits shape (after shape mark start) marks along.1 flash later cut ∙ along.0.1 (after shape mark start) [] (interrupted_done shape mark start)

-- a post leaves the tree
pub GrowsAlong-post : (shape : Shape) (start : Flash) (bytes : List ℕ) → GrowsAlong shape start (post bytes ∷ [])
GrowsAlong-post shape start bytes = ((inl refl, KeepsLimits-post shape start bytes), tt)

-- ---- what holds at every cut may be weakened

pub weaken : (marks : List Mark) (a b : BoardState) (P Q : Flash → List ℕ → Type 0) → ((f : Flash) (q : List ℕ) → P f q → Q f q) → ReachedBy marks a b P → ReachedBy marks a b Q
weaken marks a b P Q f run = record { trail = run.trail; posted = run.posted; same_shape = run.same_shape; cuts = λ g q cut. f g q (run.cuts g q cut); stands = run.stands }

pub weaken_went : (marks : List Mark) (a b : BoardState) (P Q : Flash → List ℕ → Type 0) → ((f : Flash) (q : List ℕ) → P f q → Q f q) → WentBy marks a b P → WentBy marks a b Q
weaken_went marks a b P Q f run = record { trail = run.trail; posted = run.posted; same_shape = run.same_shape; cuts = λ g q cut. f g q (run.cuts g q cut); stands = run.stands }

-- what holds at every cut holds if the marks end
pub at_end : (marks : List Mark) (a b : BoardState) (P : Flash → List ℕ → Type 0) → ReachedBy marks a b P → P b.pages (all_posted marks)
at_end marks a b P run = let T : Flash → Type 0 = λ f. P f (all_posted marks) in subst T (sym run.stands) (run.cuts _ _ (cut_end (shape_of a) a.pages marks))

-- ---- two parts of a run

module _ (shape : Shape) (first : List Mark) (a b : BoardState) (P : Flash → List ℕ → Type 0)
    (has : a.shape ≡ Some shape) (begun : ReachedBy first a b P) (grown : GrowsAlong shape a.pages first) where
  -- the tree grows along both
  pub grows_behind : (second : List Mark) → GrowsAlong shape b.pages second → GrowsAlong shape a.pages (first ++ second)
  grows_behind second more =
      let same : b.pages ≡ after_all shape first a.pages = begun.stands ∙ ap (λ o. after_all (shape_or_none o) first a.pages) has in
      let T : Flash → Type 0 = λ f. GrowsAlong shape f second in
      GrowsAlong-append shape a.pages first second grown (subst T same more)

  pub Reaches-then : (c : BoardState) (Q : Flash → List ℕ → Type 0) → ((f : Flash) (q : List ℕ) → Q f q → P f (all_posted first ++ q)) → Reaches shape b c Q → Reaches shape a c P
  Reaches-then c Q seen more = (
    first ++ more.0,
    Reached-then first more.0 a b c P begun (weaken more.0 b c Q (λ f q. P f (all_posted first ++ q)) seen more.1),
    grows_behind more.0 more.2,
  )

  pub Goes-then : (c : BoardState) (Q : Flash → List ℕ → Type 0) → ((f : Flash) (q : List ℕ) → Q f q → P f (all_posted first ++ q)) → Goes shape b c Q → Goes shape a c P
  Goes-then c Q seen more = (
    first ++ more.0,
    Went-then first more.0 a b c P begun (weaken_went more.0 b c Q (λ f q. P f (all_posted first ++ q)) seen more.1),
    grows_behind more.0 more.2,
  )

-- ---- limits of a run

-- the flash has the limits of this board besides
abbrev pub Limited : Shape → BoardState → (Flash → List ℕ → Type 0) → Flash → List ℕ → Type 0
Limited shape old P flash posted = P flash posted × (limits_at shape flash ≡ limits_at shape old.pages)

module _ (shape : Shape) (a b : BoardState) (P : Flash → List ℕ → Type 0) (has : a.shape ≡ Some shape) where
  limited_cut : (marks : List Mark) → GrowsAlong shape a.pages marks → (f : Flash) (q : List ℕ) → Cut (shape_of a) a.pages marks f q → limits_at shape f ≡ limits_at shape a.pages
  limited_cut marks along f q cut = cut_limits shape a.pages marks along f q (subst (λ s. Cut s a.pages marks f q) (ap shape_or_none has) cut)

  pub Reaches-limited : Reaches shape a b P → Reaches shape a b (Limited shape a P)
  Reaches-limited (marks, run, along) = (
    marks,
    record { trail = run.trail; posted = run.posted; same_shape = run.same_shape; cuts = λ f q cut. (run.cuts f q cut, limited_cut marks along f q cut); stands = run.stands },
    along,
  )

  pub Goes-limited : Goes shape a b P → Goes shape a b (Limited shape a P)
  Goes-limited (marks, run, along) = (
    marks,
    record { trail = run.trail; posted = run.posted; same_shape = run.same_shape; cuts = λ f q cut. (run.cuts f q cut, limited_cut marks along f q cut); stands = run.stands },
    along,
  )

  -- and so it is at the end
  pub reached_limits : Reaches shape a b P → limits_at shape b.pages ≡ limits_at shape a.pages
  reached_limits (marks, run, along) = ap (limits_at shape) run.stands ∙ limited_cut marks along (after_all (shape_of a) marks a.pages) (all_posted marks) (cut_end (shape_of a) a.pages marks)

  pub went_limits : Goes shape a b P → limits_at shape b.pages ≡ limits_at shape a.pages
  went_limits (marks, run, along) = limited_cut marks along b.pages (all_posted marks) run.stands

-- a run that did not fail is one that may have
pub Goes-reaches : (shape : Shape) (a b : BoardState) (P : Flash → List ℕ → Type 0) → Reaches shape a b P → Goes shape a b P
Goes-reaches shape a b P run = (run.0, Went-reached run.0 a b P run.1, run.2)

-- ---- single calls

-- a post that failed leaves the tree
pub Goes-post_failed : (shape : Shape) (old : BoardState) (bytes : List ℕ) (P : Flash → List ℕ → Type 0) → ((out rest : List ℕ) → out ++ rest ≡ bytes → P old.pages out)
    → (new : BoardState) → PostFailed old new bytes → Goes shape old new P
Goes-post_failed shape old bytes P fronts new failed =
    let pages : new.pages ≡ old.pages = ap (λ s. s.pages) failed.rest in
    let same_shape : new.shape ≡ old.shape = ap (λ s. s.shape) failed.rest in
    let before : ReachedBy (post failed.left.out ∷ []) old (after_post old failed.left.out) P = Reached-post old failed.left.out P (λ o r e. fronts o (r ++ failed.left.unposted)
    (sym (append_assoc o r failed.left.unposted) ∙ (ap (λ t. t ++ failed.left.unposted) e ∙ failed.left.front))) in
    elim failed.left.trail_is [
      | inl marked ↦ (
        post failed.left.out ∷ [],
        record {
          trail = marked;
          posted = failed.left.posted_is ∙ ap (λ t. longer old.posted t) (sym (append-nil failed.left.out));
          same_shape = same_shape;
          cuts = before.cuts;
          stands = inr ([], refl, (pages, refl));
        },
        GrowsAlong-post shape old.pages failed.left.out,
      )
      | inr nothing ↦ (
        [],
        Went-reached [] old new P (Reached-start old new P same_shape pages nothing.1
            (failed.left.posted_is ∙ (ap (λ t. longer old.posted t) nothing.0 ∙ longer-nil old.posted)) (fronts [] bytes refl)),
        tt,
      )
    ]
