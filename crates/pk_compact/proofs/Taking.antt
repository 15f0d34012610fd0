-- A block that is taken from the pool.
use Rattle.std.proofs.Common.{◌≡◌, ◌≢◌, ◌⊎◌, inl, inr, ℕ, ◌*◌, ◌/◌, ◌<◌, ◌≤◌, List, [], Some, refl, sym, ap, subst, ◌∙◌, arith, zero-add, div-lt_iff_lt-mul}
use Rattle.std.{specs.Prelude.slice_get, proofs.Math.ListN.set}
use Rattle.pk_base.{specs.Shape.Shape, specs.Shape.IsShape, specs.Page.Flash, specs.Page.page_at, specs.Map.Map, specs.Mark.Mark, specs.Mark.erase, specs.Mark.after, proofs.ShapeLemmas.block_pages_positive}
use Rattle.pk_plan.specs.declared.owner.Owner.TheVariants.{Journal}
use Rattle.pk_nand.{specs.BoardState.BoardState, specs.BoardState.shape_of, specs.Cut.Interrupted, specs.Calls.IsReady, specs.Operations.EraseFailed, specs.Operations.IsErasedBlock}
use Rattle.pk_nand.{proofs.Leaving.erased_leaves, proofs.Leaving.page_at-erased_from, proofs.Leaving.interrupted_done, proofs.Touching.untouched, proofs.Writing.shape_is, specs.Effects.Works}
use Rattle.pk_nand.proofs.Effects.{works_none, works_erase}
use Rattle.pk_rootfmt.specs.Root.{Root, named}
use Rattle.pk_model.{specs.Found.Found, specs.Laws.AnyByRecursion, specs.Growth.Grows, specs.Growth.Reaches, specs.Growth.Goes, specs.Crashes.CrashFinds, specs.Crashes.background}
use Rattle.pk_model.{specs.Spaces.limits_at, proofs.Growing.top_limits, proofs.Running.Reaches-none, proofs.Running.Reaches-erase, proofs.Running.Goes-erase}
use Rattle.pk_pool.{specs.declared.state.BlockState.BlockState, specs.Blocks.Blocks, specs.Blocks.IsSpare, specs.Blocks.with_state, specs.Taking.TakesReady, specs.Taking.ErasesFree}
use Rattle.pk_pool.specs.declared.state.BlockState.TheVariants.{Free, Ready, Owned}
use Rattle.pk_pool.{proofs.States.get-set_other, proofs.States.get-set_same, proofs.States.owned_is_not_free, proofs.States.owned_is_not_ready}
use Rattle.pk_law_steps.{specs.Under.IsUnder, specs.Under.IsValuePage, specs.Under.places, proofs.Untouched.erases, proofs.Untouched.under_reads}
use Rattle.pk_compact.specs.Steps.{AtMostErases}

-- at most one erase works
pub works_at_most : (block : ℕ) (old new : BoardState) → AtMostErases block old new → Works old new
works_at_most block old new (inl same) = works_none old new same
works_at_most block old new (inr made) = works_erase old new block made

-- ---- the pool

-- what is spare after a take was spare, and is another block
other_state : (states : List BlockState) (a b : ℕ) (s : BlockState) → (Owned Journal ≡ s → ⊥) → slice_get (set states a (Owned Journal)) b ≡ Some s → (b ≢ a) × (slice_get states b ≡ Some s)
other_state states a b s not_owned is =
    let other : b ≢ a = λ e. not_owned (sym (get-set_same states a (Owned Journal) s (subst (λ x. slice_get (set states a (Owned Journal)) x ≡ Some s) e is))) in
    (other, sym (get-set_other states a b (Owned Journal) other) ∙ is)

pub spare_before : (pool : Blocks) (a b : ℕ) → IsSpare (with_state pool a (Owned Journal)) b → (b ≢ a) × IsSpare pool b
spare_before pool a b (inl free) = let was = other_state pool.states a b Free owned_is_not_free free in (was.0, inl was.1)
spare_before pool a b (inr ready) = let was = other_state pool.states a b Ready owned_is_not_ready ready in (was.0, inr was.1)

pub chosen : (pool : Blocks) (old : BoardState) (b : ℕ) (new : BoardState) → TakesReady pool old b new ⊎ ErasesFree pool old b new → AtMostErases b old new
chosen pool old b new (inl ready) = inl ready.same
chosen pool old b new (inr free) = inr free.erase

-- an erase leaves erased blocks erased
pub erased_stays : (shape : Shape) (b block : ℕ) (old new : BoardState) → AtMostErases block old new → IsErasedBlock shape old.pages b → IsErasedBlock shape new.pages b
erased_stays shape b block old new (inl same) is = let T : BoardState → Type 0 = λ s. IsErasedBlock shape s.pages b in subst T (sym same) is
erased_stays shape b block old new (inr made) is =
    let T : BoardState → Type 0 = λ s. IsErasedBlock shape s.pages b in
    subst T (sym made) (λ k low high. elim (erased_leaves (shape_of old) block 0 old.pages k) [ inl same ↦ same ∙ is k low high | inr now ↦ now.1 ])

-- ---- the flash

module _ (shape : Shape) (block : ℕ) (old new : BoardState) (taken : AtMostErases block old new) (ready : IsReady old shape) where
  -- no other block differs
  pub leaves_others : (k : ℕ) → k / shape.block_pages ≢ block → page_at new.pages k ≡ page_at old.pages k
  leaves_others k other = elim taken [
    | inl same ↦ ap (λ s. page_at s.pages k) same
    | inr made ↦ ap (λ s. page_at s.pages k) made
        ∙ (let T : Shape → Type 0 = λ s. page_at (after s (erase block) old.pages) k ≡ page_at old.pages k in
        subst T (sym (shape_is old shape ready)) (page_at-erased_from shape block 0 old.pages k (λ e. other (ap (λ n. n / shape.block_pages) (sym (zero-add k)) ∙ e))))
  ]

-- a page of the root blocks is in no block after them
pub not_behind : (shape : Shape) (block k : ℕ) → IsShape shape → 2 ≤ block → k < 2 * shape.block_pages → k / shape.block_pages ≢ block
not_behind shape block k is_shape behind low e = let small : k / shape.block_pages < 2 = (div-lt_iff_lt-mul (block_pages_positive shape is_shape)).1 low in omega (arith, small, e, behind)

-- ---- a call that changes nothing that is read

-- whether it is done or interrupted, the map is as before
pub record IsBesideRead (shape : Shape) (mark : Mark) (old : BoardState) (top : ℕ × Root) (found : Found) (m : Map) : Type 0 where
  pub holds : (f : Flash) → Interrupted shape mark old.pages f [] → CrashFinds shape background old.pages m f []
  pub grows : Grows shape old.pages (after shape mark old.pages)
  pub limited : (f : Flash) → Interrupted shape mark old.pages f [] → limits_at shape f ≡ limits_at shape old.pages
  pub under_after : (new : BoardState) → new.pages ≡ after (shape_of old) mark old.pages → IsUnder shape new.pages [] top found m

pub beside_read : (shape : Shape) (mark : Mark) (old : BoardState) (top : ℕ × Root) (found : Found) (m : Map) → IsReady old shape → IsUnder shape old.pages [] top found m
    → ((f : Flash) → Interrupted shape mark old.pages f [] → IsUnder shape f [] top found m) → IsBesideRead shape mark old top found m
beside_read shape mark old top found m ready under still =
    let done : IsUnder shape (after shape mark old.pages) [] top found m = still (after shape mark old.pages) (interrupted_done shape mark old.pages) in
    record {
      holds = λ f cut. (refl, under_reads shape f [] top found m (still f cut));
      grows = inl (done.is_top ∙ sym under.is_top);
      limited = λ f cut. top_limits shape f old.pages ((still f cut).is_top ∙ sym under.is_top);
      under_after = λ new made. subst (λ (f : Flash). IsUnder shape f [] top found m) (sym made)
          (subst (λ (s : Shape). IsUnder shape (after s mark old.pages) [] top found m) (sym (shape_is old shape ready)) done);
    }

module _ (shape : Shape) (is_shape : IsShape shape) (top : ℕ × Root) (found : Found) (m : Map) (block : ℕ) (behind : 2 ≤ block) (unnamed : AnyByRecursion (λ c. block ≡ c) (named top.1) → ⊥)
    (no_value : (k : ℕ) → k / shape.block_pages ≡ block → IsValuePage shape (places found []) k → ⊥)
    (old : BoardState) (ready : IsReady old shape) (under : IsUnder shape old.pages [] top found m) where
  -- an erase of a block that is not read, done or interrupted
  still_under : (f : Flash) → Interrupted shape (erase block) old.pages f [] → IsUnder shape f [] top found m
  still_under f cut = erases shape old.pages f [] top found m block is_shape under behind unnamed no_value (λ k other. untouched shape (erase block) k _ _ other (cut.pages k))

  its : IsBesideRead shape (erase block) old top found m
  its = beside_read shape (erase block) old top found m ready under still_under

  pub take_reaches : (new : BoardState) → AtMostErases block old new → Reaches shape old new (CrashFinds shape background old.pages m)
  take_reaches new (inl same) = Reaches-none shape old (CrashFinds shape background old.pages m) ready.shape_is new same (refl, under_reads shape old.pages [] top found m under)
  take_reaches new (inr made) = Reaches-erase shape old (CrashFinds shape background old.pages m) ready.shape_is block its.holds its.grows its.limited new made

  pub take_under : (new : BoardState) → AtMostErases block old new → IsUnder shape new.pages [] top found m
  take_under new (inl same) = let T : BoardState → Type 0 = λ s. IsUnder shape s.pages [] top found m in subst T (sym same) under
  take_under new (inr made) = its.under_after new (ap (λ (s : BoardState). s.pages) made)

  pub take_goes : (new : BoardState) → EraseFailed old new block → Goes shape old new (CrashFinds shape background old.pages m)
  take_goes new failed = Goes-erase shape old (CrashFinds shape background old.pages m) ready.shape_is block its.holds its.grows its.limited new failed
