-- A freeze takes one block more.
use Rattle.std.proofs.Common.{◌≡◌, inl, inr, ℕ, ◌+◌, ◌/◌, ◌<◌, ◌≤◌, List, [], ◌∷◌, ◌++◌, T, Bool, true, false, not, length, Some, refl, sym, ap, subst, ◌∙◌, arith, length-append, eqb→eq}
use Rattle.std.{specs.Prelude.slice_get, specs.Prelude.◌&&◌, specs.Prelude.◌||◌, specs.Prelude.◌==◌, specs.List.AllByRecursion}
use Rattle.pk_base.{specs.Shape.Shape, specs.Shape.IsShape, specs.Page.page_at, specs.Map.Map}
use Rattle.pk_law_work.{specs.Rest.Lowers, specs.Rest.steps_of, specs.Jobs.freeze_rest}
use Rattle.pk_plan.specs.declared.owner.Owner.TheVariants.{Journal}
use Rattle.pk_nand.{specs.BoardState.BoardState, specs.Calls.IsReady, specs.Operations.IsErasedBlock}
use Rattle.pk_rootfmt.{specs.Root.Root, specs.Root.is_root, specs.Root.named, specs.Root.differ, specs.Held.Held}
use Rattle.pk_model.{specs.Found.Found, specs.Growth.Goes, specs.Crashes.CrashFinds, specs.Crashes.background, specs.Wear.root_number, proofs.Roots.newest_sound, proofs.Commits.root_valid}
use Rattle.pk_pool.{specs.declared.state.BlockState.TheVariants.Free, specs.declared.state.BlockState.TheVariants.Ready, specs.declared.state.BlockState.TheVariants.Owned, specs.Taking.FailsToErase}
use Rattle.pk_pool.{specs.Blocks.Blocks, specs.Blocks.IsShared, specs.Blocks.IsSpare, specs.Blocks.PoolOnFlash, specs.Blocks.used_by, specs.Blocks.with_state, specs.Unready.unready}
use Rattle.pk_pool.{proofs.Counting.take_pays, proofs.States.set_is, proofs.States.free_is_not_root, proofs.States.ready_is_not_root, proofs.Sharing.behind_roots}
use Rattle.pk_root.{specs.declared.next.Next.Next, specs.Laws.SameFront, proofs.Places.InstallerOnFlash-by_same}
use Rattle.pk_law_steps.proofs.Places.{In}
use Rattle.pk_compact.{specs.Freezing.IsApart, specs.Steps.AtMostErases, specs.declared.freezing.FreezeJob.FreezeJob, proofs.Grammar.Known, proofs.Grammar.known, proofs.Apart.owned_not_spare}
use Rattle.pk_compact.specs.FreezeSteps.{IsFreezing, IsTaken, FreezeGoesOn, taken_by, install_steps, freeze_left}
use Rattle.pk_compact.proofs.Taking.{spare_before, leaves_others, not_behind, take_reaches, take_under, take_goes as erase_goes, erased_stays}
use Rattle.pk_compact.{proofs.Numbering.same_front, proofs.Numbering.failed_front, proofs.Pairs.still_owned}

-- a spare block is the journal's once it was taken
now_owned : (pool : Blocks) (b : ℕ) → IsSpare pool b → slice_get (with_state pool b (Owned Journal)).states b ≡ Some (Owned Journal)
now_owned pool b (inl free) = set_is pool.states b Free (Owned Journal) free
now_owned pool b (inr ready) = set_is pool.states b Ready (Owned Journal) ready

-- ---- few blocks

-- one block that is added to at most one other
one_differs : (xs : List ℕ) (b : ℕ) → length xs < 2 → (In b xs → ⊥) → differ (xs ++ b ∷ []) ≡ true
one_differs [] b few new = refl
one_differs (x ∷ []) b few new = elim (x == b) as (λ t. (x == b) ≡ t
    → (not (t || false) && true) ≡ true) [ true ↦ λ e. absurd (new (inl (sym (eqb→eq x b (subst T (sym e) tt))))) | false ↦ λ e. refl ] refl
one_differs (x ∷ y ∷ xs) b few new = absurd (omega (arith, few))

in_last : (b : ℕ) (xs : List ℕ) → In b (xs ++ b ∷ [])
in_last b [] = inl refl
in_last b (x ∷ xs) = inr (in_last b xs)

all_behind : (P : ℕ → Type 0) (xs : List ℕ) (b : ℕ) → AllByRecursion P xs → P b → AllByRecursion P (xs ++ b ∷ [])
all_behind P [] b all here = (here, tt)
all_behind P (x ∷ xs) b all here = (all.0, all_behind P xs b all.1 here)

pub all_more : (P Q : ℕ → Type 0) (xs : List ℕ) → ((x : ℕ) → P x → Q x) → AllByRecursion P xs → AllByRecursion Q xs
all_more P Q [] more all = tt
all_more P Q (x ∷ xs) more all = (more x all.0, all_more P Q xs more all.1)

pub all_in : (P : ℕ → Type 0) (xs : List ℕ) (b : ℕ) → AllByRecursion P xs → In b xs → P b
all_in P [] b all is = absurd is
all_in P (x ∷ xs) b all (inl e) = subst P (sym e) all.0
all_in P (x ∷ xs) b all (inr is) = all_in P xs b all.1 is

-- a block that is taken leaves two steps less
two_fewer : (t u i : ℕ) → u ≡ t + 1 → t < 2 → steps_of (freeze_rest u i) + 2 ≤ steps_of (freeze_rest t i)
two_fewer t u i e few = omega (arith, e, few)

-- ---- the step

module _ (pool : Blocks) (root : Held) (next : Next) (job : FreezeJob) (has_entries : Bool) (old : BoardState) (shared : IsShared pool.shape pool.states) (ready : IsReady old root.shape)
    (top : ℕ × Root) (found : Found) (m : Map) (is : IsFreezing pool root next job old.pages has_entries top found m) where
  pub is_shape : IsShape root.shape
  is_shape = let P : Shape → Type 0 = λ s. IsShape s in subst P is.pool_shape shared.plan.is_shape

  pub valid : T (is_root root.shape root.root)
  valid = let P : Root → Type 0 = λ r. T (is_root root.shape r) in subst P is.top_is
      (root_valid root.shape (page_at old.pages top.0) top.1 (newest_sound root.shape (page_at old.pages) top is.under.is_top).there)

  pub grammar : Known root.shape root.root
  grammar = known root.shape root.root valid

  pub spare_behind : (b : ℕ) → IsSpare pool b → 2 ≤ b
  spare_behind b (inl free) = behind_roots pool.shape pool.states b Free free_is_not_root free shared
  spare_behind b (inr ready) = behind_roots pool.shape pool.states b Ready ready_is_not_root ready shared

  apart_top : IsApart root.shape pool top.1 found
  apart_top = let P : Root → Type 0 = λ r. IsApart root.shape pool r found in subst P (sym is.top_is) is.apart

  -- a failed erase of a spare block
  pub take_goes : (new : BoardState) → FailsToErase pool old new → Goes root.shape old new (CrashFinds root.shape background old.pages m)
  take_goes new f =
      let spare : IsSpare pool f.block = inl f.lowest.here in
      erase_goes root.shape is_shape top found m f.block (spare_behind f.block spare) (apart_top.unnamed f.block spare) (λ k. apart_top.no_value f.block k spare) old ready is.under new f.failed

  pub take_failed_number : (new : BoardState) → FailsToErase pool old new → root_number root.shape new.pages ≡ root_number root.shape old.pages
  take_failed_number new f = same_front root.shape old.pages new.pages (failed_front root.shape is_shape f.block (spare_behind f.block (inl f.lowest.here)) old new ready f.failed)

  module _ (few : length (taken_by job) < 2) (b : ℕ) (new : BoardState) (taken : AtMostErases b old new)
      (spare : IsSpare pool b) (place : (2 ≤ b) × (b < pool.shape.blocks)) (is_erased : IsErasedBlock pool.shape new.pages b) where
    front : SameFront root.shape old.pages new.pages
    front k low = leaves_others root.shape b old new taken ready k (not_behind root.shape b k is_shape place.0 low)

    pub took_number : root_number root.shape new.pages ≡ root_number root.shape old.pages
    took_number = same_front root.shape old.pages new.pages front

    not_taken : In b (taken_by job) → ⊥
    not_taken there = owned_not_spare pool b (all_in (IsTaken root.shape pool old.pages root.root) (taken_by job) b is.taken there).owned spare

    -- what the freeze had it has still
    earlier : (x : ℕ) → IsTaken root.shape pool old.pages root.root x → IsTaken root.shape (with_state pool b (Owned Journal)) new.pages root.root x
    earlier x was = record {
      least = was.least;
      most = was.most;
      owned = still_owned pool.states b x was.owned;
      is_erased = erased_stays root.shape x b old new taken was.is_erased;
      unnamed = was.unnamed;
    }

    latest : IsTaken root.shape (with_state pool b (Owned Journal)) new.pages root.root b
    latest = record {
      least = place.0;
      most = let P : Shape → Type 0 = λ s. b < s.blocks in subst P is.pool_shape place.1;
      owned = now_owned pool b spare;
      is_erased = let P : Shape → Type 0 = λ s. IsErasedBlock s new.pages b in subst P is.pool_shape is_erased;
      unnamed = is.apart.unnamed b spare;
    }

    unnamed_top : In b (named top.1) → ⊥
    unnamed_top = apart_top.unnamed b spare

    -- the freeze after the step
    module _ (job' : FreezeJob) (job_is : taken_by job' ≡ taken_by job ++ b ∷ []) (fits : PoolOnFlash (with_state pool b (Owned Journal)) new.pages)
        (counted : used_by Journal (with_state pool b (Owned Journal)).states ≡ used_by Journal pool.states + 1) where
      size : length (taken_by job') ≡ length (taken_by job) + 1
      size = ap (λ (xs : List ℕ). length xs) job_is ∙ length-append (taken_by job) (b ∷ [])

      still : IsFreezing (with_state pool b (Owned Journal)) root next job' new.pages has_entries top found m
      still = record {
        pool_shape = is.pool_shape;
        pool_fits = fits;
        installs = InstallerOnFlash-by_same root.shape next top old.pages new.pages front is.installs;
        whole = is.whole;
        top_is = is.top_is;
        under = take_under root.shape is_shape top found m b place.0 unnamed_top (λ k. is.apart.no_value b k spare) old ready is.under new taken;
        none_older = is.none_older;
        none_named = is.none_named;
        told = is.told;
        number = is.number;
        room = let r = is.room in let n = size in let c = counted in omega (arith, r, n, c);
        owned = λ x among. still_owned pool.states b x (is.owned x among);
        apart = record {
          unnamed = λ x spare_now. is.apart.unnamed x (spare_before pool b x spare_now).1;
          no_value = λ x k spare_now. is.apart.no_value x k (spare_before pool b x spare_now).1;
        };
        taken = subst (AllByRecursion (IsTaken root.shape (with_state pool b (Owned Journal)) new.pages root.root)) (sym job_is)
            (all_behind (IsTaken root.shape (with_state pool b (Owned Journal)) new.pages root.root) (taken_by job) b
            (all_more (IsTaken root.shape pool old.pages root.root) (IsTaken root.shape (with_state pool b (Owned Journal)) new.pages root.root) (taken_by job) earlier is.taken) latest);
        different = ap differ job_is ∙ one_differs (taken_by job) b few not_taken;
      }

      lowers : Lowers (freeze_left job next) (unready pool.states) (freeze_left job' next) (unready (with_state pool b (Owned Journal)).states)
      lowers = take_pays pool b Journal (freeze_left job next) (freeze_left job' next) spare (two_fewer (length (taken_by job)) (length (taken_by job')) (install_steps next) size few)

      pub take_goes_on : FreezeGoesOn pool root next job old has_entries top found m (with_state pool b (Owned Journal)) root next job' new
      take_goes_on = record {
        still = still;
        same_root = refl;
        lowers = lowers;
        takes = inr (b, spare, refl, job_is);
        some = (let n = size in omega (arith, n));
        elsewhere = λ k high other. leaves_others root.shape b old new taken ready k
            (λ here. other (subst (λ xs. In (k / root.shape.block_pages) xs) (sym job_is) (subst (λ x. In x (taken_by job ++ b ∷ [])) (sym here) (in_last b (taken_by job)))));
        cuts = take_reaches root.shape is_shape top found m b place.0 unnamed_top (λ k. is.apart.no_value b k spare) old ready is.under new taken;
      }
