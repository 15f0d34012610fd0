-- What is read of a flash is not in a block without an owner, and the blocks of the journal and of runs are as before if no page of theirs differs.
use Rattle.std.proofs.Common.{◌≡◌, ◌⊎◌, inl, inr, ℕ, zero, suc, ◌+◌, ◌*◌, ◌/◌, ◌%◌, ◌<◌, ◌≤◌, sym, ap, subst, ◌∙◌, arith, List, [], ◌++◌, Some, slice_get, div-lt_iff_lt-mul}
use Rattle.std.{specs.List.concat, proofs.lemmas.Bool.cases_eq, proofs.lemmas.Nat.div-add-mod', specs.Prelude.◌-◌, specs.Prelude.not}
use Rattle.pk_base.{specs.Shape.Shape, specs.Shape.IsShape, specs.Page.Flash, specs.Page.page_at, specs.Page.erased, specs.Page.whole, specs.Map.Map, proofs.ShapeLemmas.block_pages_positive}
use Rattle.pk_rootfmt.{specs.Root.Root, specs.Root.named, specs.Newest.newest_root}
use Rattle.pk_plan.{specs.declared.owner.Owner.Owner, specs.declared.owner.Owner.TheVariants.Journal, specs.declared.owner.Owner.TheVariants.Meta, specs.declared.owner.Owner.TheVariants.Values}
use Rattle.pk_nand.specs.BoardState.{BoardState, shape_or_none}
use Rattle.pk_pool.{specs.declared.state.BlockState.BlockState, proofs.States.get-set_other, proofs.Sharing.count-set, proofs.Fitting.block_of}
use Rattle.pk_pool.specs.declared.state.BlockState.TheVariants.{Free, Ready, Owned}
use Rattle.pk_pool.specs.Blocks.{Blocks, PoolOnFlash, IsShared, IsSpare, is_owned_by, used_by, with_state}
use Rattle.pk_model.{specs.Found.Found, specs.Laws.AnyByRecursion, specs.Wear.number_of, specs.Wear.root_number, specs.Wear.roots}
use Rattle.pk_law_steps.{specs.Under.IsNamed, specs.Under.IsValuePage, specs.Under.places, proofs.Untouched.value_page_whole, proofs.Untouched.not_erased}
use Rattle.pk_values.specs.Placed.{HoldsValues}
use Rattle.pk_parts.{specs.Parts.Parts, specs.Agreeing.DriveOnFlashWith}
use Rattle.pk_schedule.proofs.Keeping.{IsBeside, any_split}
use Rattle.pk_background.{proofs.Unread.IsReadBy, proofs.Unread.SameRead, proofs.Unread.KeepsOwners, proofs.Stills.IsStill, proofs.Stills.SameStill}

-- ---- blocks and their owners

spare_or_owned : (p : Blocks) (b : ℕ) (o : Owner) → IsSpare p b → slice_get p.states b ≡ Some (Owned o) → ⊥
spare_or_owned p b o (inl free) is = cc
spare_or_owned p b o (inr ready) is = cc

pub owners_taken : (p : Blocks) (block : ℕ) (s : BlockState) → IsSpare p block → KeepsOwners p (with_state p block s)
owners_taken p block s spare b o is = elim (cases_eq b block) [
  | inl e ↦ absurd (spare_or_owned p block o spare (subst (λ (c : ℕ). slice_get p.states c ≡ Some (Owned o)) e is))
  | inr ne ↦ get-set_other p.states block b s ne ∙ is
]

pub journal_taken : (p : Blocks) (block : ℕ) → IsSpare p block → used_by Journal (with_state p block (Owned Values)).states ≡ used_by Journal p.states
journal_taken p block (inl free) = let all = count-set (is_owned_by Journal) p.states block Free (Owned Values) free in omega (arith, all)
journal_taken p block (inr ready) = let all = count-set (is_owned_by Journal) p.states block Ready (Owned Values) ready in omega (arith, all)

pub meta_taken : (p : Blocks) (block : ℕ) → IsSpare p block → used_by Meta (with_state p block (Owned Values)).states ≡ used_by Meta p.states
meta_taken p block (inl free) = let all = count-set (is_owned_by Meta) p.states block Free (Owned Values) free in omega (arith, all)
meta_taken p block (inr ready) = let all = count-set (is_owned_by Meta) p.states block Ready (Owned Values) ready in omega (arith, all)

pub journal_or_values : (p : Blocks) (b : ℕ) → slice_get p.states b ≡ Some (Owned Journal) → HoldsValues p b → ⊥
journal_or_values p b is held = cc

pub meta_or_values : (p : Blocks) (b : ℕ) → slice_get p.states b ≡ Some (Owned Meta) → HoldsValues p b → ⊥
meta_or_values p b is held = cc

-- a root block is not free
pub behind_roots : (shape : Shape) (states : List BlockState) (b : ℕ) → IsShared shape states → slice_get states b ≡ Some Free → 2 ≤ b
behind_roots shape states zero shared free = let first = shared.first in cc
behind_roots shape states (suc zero) shared free = let second = shared.second in cc
behind_roots shape states (suc (suc b)) shared free = omega arith

-- the pages of a value are in the block of the first
pub same_block : (n page count k : ℕ) → page % n + count ≤ n → page ≤ k → k < page + count → k / n ≡ page / n
same_block n page count k inside low high =
    let whole = div-add-mod' page n in
    block_of n k (page / n) (omega (arith, whole, low)) (omega (arith, whole, high, inside))

-- the page is after the root blocks
pub not_low : (n page k : ℕ) → 0 < n → 2 ≤ page / n → page ≤ k → k < 2 * n → ⊥
not_low n page k positive behind low small =
    let less : page / n < 2 = (div-lt_iff_lt-mul positive).1 (omega (arith, low, small)) in
    omega (arith, less, behind)

-- the page is in a block of the journal or of a run
abbrev pub IsIndexed : Blocks → Shape → ℕ → Type 0
IsIndexed pool shape k = (slice_get pool.states (k / shape.block_pages) ≡ Some (Owned Journal)) ⊎ (slice_get pool.states (k / shape.block_pages) ≡ Some (Owned Meta))

-- ---- what is read

module _ (d : Parts) (shape : Shape) (old : Flash) (top : ℕ × Root) (found : Found) (without all : Map) (with : DriveOnFlashWith d shape old top found without all) where
  shape_ok : IsShape shape
  shape_ok = subst IsShape with.shape_is with.index.logs.is_shape

  positive : 0 < shape.block_pages
  positive = block_pages_positive shape shape_ok

  -- a block that the root names has another owner than values
  pub named_owner : (b : ℕ) → AnyByRecursion (λ c. b ≡ c) (named top.1) → (slice_get d.pool.states b ≡ Some (Owned Journal)) ⊎ (slice_get d.pool.states b ≡ Some (Owned Meta))
  named_owner b is = elim (any_split (λ c. b ≡ c) (top.1.newest ++ top.1.older) (concat top.1.runs) is) [ inl front ↦ inl (with.index.journal b front) | inr back ↦ inr (with.index.runs b back) ]

  -- the page of a value is in a block for values
  value_owner : (k : ℕ) → IsValuePage shape (places found []) k ⊎ IsValuePage shape (places found d.log.pending) k → HoldsValues d.pool (k / shape.block_pages)
  value_owner k (inl is) = with.former k is
  value_owner k (inr is) = with.placed.owned k is

  -- no page is read of a block that has no owner
  pub spare_unread : (block : ℕ) → IsSpare d.pool block → 2 ≤ block → (k : ℕ) → k / shape.block_pages ≡ block → IsReadBy shape top.1 found d.log.pending k → ⊥
  spare_unread block spare behind k here is = elim is [
    | inl first ↦ elim first [ inl low ↦ root low | inr rest ↦ elim rest [ inl in_named ↦ by_named in_named | inr value ↦ by_value (inl value) ] ]
    | inr second ↦ elim second [ inl low ↦ root low | inr rest ↦ elim rest [ inl in_named ↦ by_named in_named | inr value ↦ by_value (inr value) ] ]
  ]
    where
      root : k < 2 * shape.block_pages → ⊥
      root low = not_low shape.block_pages k k positive (omega (arith, here, behind)) (omega arith) low

      by_named : IsNamed shape top.1 k → ⊥
      by_named in_named = elim (named_owner block (subst (λ (x : ℕ). AnyByRecursion (λ b. x ≡ b) (named top.1)) here in_named)) [
        | inl journal ↦ spare_or_owned d.pool block Journal spare journal
        | inr meta ↦ spare_or_owned d.pool block Meta spare meta
      ]

      by_value : IsValuePage shape (places found []) k ⊎ IsValuePage shape (places found d.log.pending) k → ⊥
      by_value value = spare_or_owned d.pool block Values spare (subst (λ (x : ℕ). HoldsValues d.pool x) here (value_owner k value))

  -- no page is read that is Erased and is in a block for values
  pub erased_unread : (q : Blocks) (now : Flash) → KeepsOwners d.pool q → SameRead shape top.1 found d.log.pending old now
      → (k : ℕ) → 2 * shape.block_pages ≤ k → HoldsValues q (k / shape.block_pages) → page_at now k ≡ erased → IsReadBy shape top.1 found d.log.pending k → ⊥
  erased_unread q now owners same k high held none is = elim is [
    | inl first ↦ elim first [
      | inl low ↦ omega
          (arith, low, high)
      | inr rest ↦ elim rest [ inl in_named ↦ by_named in_named | inr value ↦ not_erased _ (value_page_whole shape old [] top found without with.committed k value) was ]
    ]
    | inr second ↦ elim second [
      | inl low ↦ omega
          (arith, low, high)
      | inr rest ↦ elim rest [ inl in_named ↦ by_named in_named | inr value ↦ not_erased _ (value_page_whole shape old d.log.pending top found all with.pending k value) was ]
    ]
  ]
    where
      was : page_at old k ≡ erased
      was = sym (same k is) ∙ none

      by_named : IsNamed shape top.1 k → ⊥
      by_named in_named = elim (named_owner (k / shape.block_pages) in_named) [
        | inl journal ↦ journal_or_values q (k / shape.block_pages) (owners (k / shape.block_pages) Journal journal) held
        | inr meta ↦ meta_or_values q (k / shape.block_pages) (owners (k / shape.block_pages) Meta meta) held
      ]

  -- ---- what is kept besides

  -- no page is kept of a block that has no owner
  pub spare_still : (block : ℕ) → IsSpare d.pool block → 2 ≤ block → (k : ℕ) → k / shape.block_pages ≡ block → IsStill shape top.1 found d.log.pending (IsIndexed d.pool shape) k → ⊥
  spare_still block spare behind k here (inl is) = spare_unread block spare behind k here is
  spare_still block spare behind k here (inr (inl journal)) = spare_or_owned d.pool block Journal spare (subst (λ (b : ℕ). slice_get d.pool.states b ≡ Some (Owned Journal)) here journal)
  spare_still block spare behind k here (inr (inr meta)) = spare_or_owned d.pool block Meta spare (subst (λ (b : ℕ). slice_get d.pool.states b ≡ Some (Owned Meta)) here meta)

  -- nor is one that is Erased and is in a block for values
  pub erased_still : (q : Blocks) (now : Flash) → KeepsOwners d.pool q → SameRead shape top.1 found d.log.pending old now
      → (k : ℕ) → 2 * shape.block_pages ≤ k → HoldsValues q (k / shape.block_pages) → page_at now k ≡ erased → IsStill shape top.1 found d.log.pending (IsIndexed d.pool shape) k → ⊥
  erased_still q now owners same k high held none (inl is) = erased_unread q now owners same k high held none is
  erased_still q now owners same k high held none (inr (inl journal)) = journal_or_values q (k / shape.block_pages) (owners (k / shape.block_pages) Journal journal) held
  erased_still q now owners same k high held none (inr (inr meta)) = meta_or_values q (k / shape.block_pages) (owners (k / shape.block_pages) Meta meta) held

  -- so the blocks of the journal and of runs are as before
  pub beside_still : (q : Blocks) (now : Flash) → KeepsOwners d.pool q → q.shape ≡ shape → PoolOnFlash q now
      → used_by Journal q.states ≡ used_by Journal d.pool.states → used_by Meta q.states ≡ used_by Meta d.pool.states
      → SameStill shape top.1 found d.log.pending (IsIndexed d.pool shape) old now → IsBeside d.pool old q now
  beside_still q now owners q_shape fits journal meta same =
      let its : d.pool.shape ≡ shape = with.placed.shape_is in
      let at : (b k : ℕ) → k / d.pool.shape.block_pages ≡ b → b ≡ k / shape.block_pages = λ b k here. sym here ∙ ap (λ (s : Shape). k / s.block_pages) its in
      record {
        meta = record {
          shape = q_shape ∙ sym its;
          fits = fits;
          used = meta;
          owned = λ b is. owners b Meta is;
          same = λ b k is here. same k (inr (inr (subst (λ (c : ℕ). slice_get d.pool.states c ≡ Some (Owned Meta)) (at b k here) is)));
        };
        low = λ k small. same k (inl (inl (inl (subst (λ (s : Shape). k < 2 * s.block_pages) its small))));
        owned = λ b is. owners b Journal is;
        used = journal;
        same = λ b k is here. same k (inr (inl (subst (λ (c : ℕ). slice_get d.pool.states c ≡ Some (Owned Journal)) (at b k here) is)));
      }

-- ---- the roots

-- a board on which the newest root is the same
pub same_roots : (shape : Shape) (old new : BoardState) → old.shape ≡ Some shape → new.shape ≡ Some shape
    → newest_root shape (page_at new.pages) ≡ newest_root shape (page_at old.pages) → roots new ≡ roots old
unfolding root_number
same_roots has_shape old new has has_new same =
    ap (λ s. root_number (shape_or_none s) new.pages) has_new ∙ ap number_of same ∙ ap (λ s. root_number (shape_or_none s) old.pages) (sym has)
