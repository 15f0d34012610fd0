-- What a step of a merge's job leaves of the pool, of pages and of frames: at most one block more for the output, and no page of another's block.
use Rattle.std.proofs.Common.{◌≡◌, ◌⊎◌, inl, inr, ℕ, zero, suc, ◌+◌, ◌*◌, ◌/◌, Bool, true, not, ◌==◌, eqb→eq, T, List, [], ◌∷◌, ◌++◌, length, Option, Some, None, refl, sym, ap, subst, ◌∙◌, arith}
use Rattle.std.proofs.Common.{length-append}
use Rattle.std.{specs.Prelude.slice_get, specs.List.list_any, specs.List.concat, proofs.lemmas.List.length-set, proofs.lemmas.Option.same_Some}
use Rattle.pk_base.{specs.Shape.Shape, specs.Entry.Entry, specs.Page.Flash, specs.Page.page_at, proofs.Logic.both, proofs.Logic.or_cases}
use Rattle.pk_nand.specs.BoardState.{BoardState}
use Rattle.pk_pin.specs.Frames.{Frames, KeepsPage}
use Rattle.pk_plan.{specs.declared.owner.Owner.TheVariants.Meta}
use Rattle.pk_rootfmt.specs.Root.{differ}
use Rattle.pk_pool.{specs.declared.state.BlockState.TheVariants.Owned, specs.Taking.SameButBlock}
use Rattle.pk_pool.{specs.Blocks.Blocks, specs.Blocks.IsSpare, specs.Blocks.with_state, specs.Blocks.NoneLeaves, proofs.Fitting.block_of}
use Rattle.pk_run.specs.Kept.{Kept}
use Rattle.pk_level.specs.Levels.{RunsOnFlash, HaveBlocks}
use Rattle.pk_model.{proofs.Growing.at_end, proofs.SamePages.any_front, proofs.SamePages.any_back}
use Rattle.pk_law_steps.{proofs.Places.In, proofs.Places.in_append, proofs.Places.not_of, proofs.Untouched.in_or_out}
use Rattle.pk_merge.{specs.declared.source.Source.Source, specs.declared.next.Next.Next, specs.Merging.Merger, specs.Steps.Acts}
use Rattle.pk_merge.specs.declared.next.Next.TheVariants.{LoadSource, LoadTarget, Gather, TakeBlock, Program, End}
use Rattle.pk_merge.specs.Elsewhere.{IsForOutput, StepReaches, StepWent, LeavesRuns}
use Rattle.pk_schedule.{proofs.Settled.none_leaves_set, proofs.Giving.Grown, proofs.Giving.grown_none, proofs.Giving.grown_one}

-- ---- lists

pub got_in : (xs : List ℕ) (i b : ℕ) → slice_get xs i ≡ Some b → In b xs
got_in [] i b e = absurd (let x : ⊥ = cc in x)
got_in (x ∷ xs) zero b e = inl (sym (same_Some x b e))
got_in (x ∷ xs) (suc i) b e = inr (got_in xs i b e)

pub in_got : (xs : List ℕ) (b : ℕ) → In b xs → (i : ℕ) × (slice_get xs i ≡ Some b)
in_got [] b is = absurd is
in_got (x ∷ xs) b (inl e) = (0, ap (λ (y : ℕ). Some y) (sym e))
in_got (x ∷ xs) b (inr is) = let r = in_got xs b is in (suc r.0, r.1)

-- elements at different places that are different
pub differ_of : (xs : List ℕ) → ((i j b : ℕ) → slice_get xs i ≡ Some b → slice_get xs j ≡ Some b → i ≡ j) → T (differ xs)
differ_of [] d = tt
differ_of (x ∷ xs) d =
    both (not (list_any (λ c. x == c) xs)) (differ xs)
    (not_of (list_any (λ c. x == c) xs) (λ t. first t))
    (differ_of xs (λ i j b got had. let same = d (suc i) (suc j) b got had in omega (arith, same)))
  where
    swapped : (ys : List ℕ) → T (list_any (λ c. x == c) ys) → In x ys
    swapped [] t = absurd t
    swapped (y ∷ ys) t = elim (or_cases (x == y) (list_any (λ c. x == c) ys) t) [ inl is ↦ inl (eqb→eq x y is) | inr is ↦ inr (swapped ys is) ]

    first : T (list_any (λ c. x == c) xs) → ⊥
    first t = let there = in_got xs x (swapped xs t) in let same = d 0 (suc there.0) x refl there.1 in omega (arith, same)

-- ---- the pool

-- the pool and the output are as before, or the output has one spare block more
abbrev pub Grew : Blocks → Kept → Blocks → Kept → Type 0
Grew pool out pool' out' =
    ((pool' ≡ pool) × (out'.blocks ≡ out.blocks))
    ⊎ ((b : ℕ) × IsSpare pool b × (pool' ≡ with_state pool b (Owned Meta)) × (out'.blocks ≡ out.blocks ++ b ∷ []))

-- no block leaves then that did not before
pub grew_none_leaves : (pool : Blocks) (out : Kept) (pool' : Blocks) (out' : Kept) → NoneLeaves pool → Grew pool out pool' out' → NoneLeaves pool'
grew_none_leaves pool out pool' out' none (inl s) = subst NoneLeaves (sym s.0) none
grew_none_leaves pool out pool' out' none (inr (b, spare, is, more)) = subst NoneLeaves (sym is) (none_leaves_set pool b (Owned Meta) refl none)

pub grew_by : (pool : Blocks) (out : Kept) (pool' : Blocks) (out' : Kept) → Grew pool out pool' out' → (n : ℕ) × Grown Meta pool pool' n × (length out'.blocks ≡ length out.blocks + n)
grew_by pool out pool' out' (inl s) = (0, grown_none Meta pool pool' s.0, (let same = ap (λ (bs : List ℕ). length bs) s.1 in omega (arith, same)))
grew_by pool out pool' out' (inr (b, spare, is, more)) = (1, grown_one Meta pool pool' b spare is, ap (λ (bs : List ℕ). length bs) more ∙ length-append out.blocks (b ∷ []))

-- a block of the output was its before, or was spare
pub grew_from : (pool : Blocks) (out : Kept) (pool' : Blocks) (out' : Kept) → Grew pool out pool' out' → (c : ℕ) → In c out'.blocks → In c out.blocks ⊎ IsSpare pool c
grew_from pool out pool' out' (inl s) c is = inl (subst (λ (bs : List ℕ). In c bs) s.1 is)
grew_from pool out pool' out' (inr (b, spare, e, more)) c is = elim (in_append c out.blocks (b ∷ []) (subst (λ (bs : List ℕ). In c bs) more is)) [
  | inl was ↦ inl was
  | inr (inl here) ↦ inr (subst (λ (y : ℕ). IsSpare pool y) (sym here) spare)
  | inr (inr none) ↦ absurd none
]

-- ---- each action

pub acts_grow : {X : Type 0} (source : Source X) (target : Kept) (pins : Bool) (out : Kept) (m : Merger) (pool : Blocks)
    (old : BoardState) (before : Frames) (next : Next) (out' : Kept) (m' : Merger) (pool' : Blocks) (new : BoardState) (after : Frames)
    → Acts source target pins out m pool old before next out' m' pool' new after → Grew pool out pool' out'
acts_grow source target pins out m pool old before LoadSource out' m' pool' new after (l, o, p, a) = inl (p, ap (λ (r : Kept). r.blocks) o)
acts_grow source target pins out m pool old before LoadTarget out' m' pool' new after (l, o, p, a) = inl (p, ap (λ (r : Kept). r.blocks) o)
acts_grow source target pins out m pool old before Gather out' m' pool' new after (n, e, o, p, a) = inl (p, ap (λ (r : Kept). r.blocks) o)
acts_grow source target pins out m pool old before End out' m' pool' new after (n, e, o, p, a) = inl (p, ap (λ (r : Kept). r.blocks) o)
acts_grow source target pins out m pool old before TakeBlock out' m' pool' new after (k, e, a, fits) = inr (k.block, k.spare, k.pool_is, ap (λ (r : Kept). r.blocks) k.run_is)
acts_grow source target pins out m pool old before Program out' m' pool' new after (k, e, p) = inl (p, ap (λ (r : Kept). r.blocks) k.run_is)

page_frames : (pins : Bool) (old new : Frames) (bytes : List ℕ) (lease : Option ℕ) → KeepsPage pins old new bytes lease → length new.used ≡ length old.used
page_frames pins old new bytes None k = ap (λ (a : Frames). length a.used) k.1
page_frames pins old new bytes (Some l) k = ap (λ (a : Frames). length a.used) k.2 ∙ length-set old.used l true

-- there are as many frames
pub acts_frames : {X : Type 0} (source : Source X) (target : Kept) (pins : Bool) (out : Kept) (m : Merger) (pool : Blocks)
    (old : BoardState) (before : Frames) (next : Next) (out' : Kept) (m' : Merger) (pool' : Blocks) (new : BoardState) (after : Frames)
    → Acts source target pins out m pool old before next out' m' pool' new after → length after.used ≡ length before.used
acts_frames source target pins out m pool old before LoadSource out' m' pool' new after (l, o, p, a) = ap (λ (f : Frames). length f.used) a
acts_frames source target pins out m pool old before LoadTarget out' m' pool' new after (l, o, p, a) = ap (λ (f : Frames). length f.used) a
acts_frames source target pins out m pool old before Gather out' m' pool' new after (n, e, o, p, a) = ap (λ (f : Frames). length f.used) a
acts_frames source target pins out m pool old before End out' m' pool' new after (n, e, o, p, a) = ap (λ (f : Frames). length f.used) a
acts_frames source target pins out m pool old before TakeBlock out' m' pool' new after (k, e, a, fits) = ap (λ (f : Frames). length f.used) a
acts_frames source target pins out m pool old before Program out' m' pool' new after (k, e, p) = page_frames pins before after _ k.lease k.frame

-- ---- pages

-- no page differs, or none outside a block that is for the output
abbrev pub SameEnd : Blocks → Kept → Flash → Flash → Type 0
SameEnd pool out old new = (new ≡ old) ⊎ ((b : ℕ) × IsForOutput pool out b × SameButBlock out.shape b old new)

pub reached_end : (pool : Blocks) (out : Kept) (old new : BoardState) → StepReaches pool out old new → SameEnd pool out old.pages new.pages
reached_end pool out old new (inl (inl e)) = inl (ap (λ (b : BoardState). b.pages) e)
reached_end pool out old new (inl (inr e)) = inl (ap (λ (b : BoardState). b.pages) e)
reached_end pool out old new (inr (b, is, (marks, r))) = inr (b, is, at_end marks old new (λ f q. SameButBlock out.shape b old.pages f) r)

pub went_end : (pool : Blocks) (out : Kept) (old new : BoardState) → StepWent pool out old new → SameEnd pool out old.pages new.pages
went_end pool out old new (b, is, (marks, r)) = inr (b, is, r.cuts new.pages _ r.stands)

pub same_page : (pool : Blocks) (out : Kept) (old new : Flash) → SameEnd pool out old new → (k : ℕ) → (IsForOutput pool out (k / out.shape.block_pages) → ⊥) → page_at new k ≡ page_at old k
same_page pool out old new (inl e) k other = ap (λ (f : Flash). page_at f k) e
same_page pool out old new (inr (b, is, s)) k other =
    let n : ℕ = out.shape.block_pages in
    elim (in_or_out (b * n) n k) [
      | inl low ↦ s.below k low
      | inr (inl high) ↦ s.above k high
      | inr (inr within) ↦ absurd (other (subst (λ (y : ℕ). IsForOutput pool out y) (sym (block_of n k b within.0 within.1)) is))
    ]

-- ---- runs

-- runs whose blocks are none of the output's are unchanged
pub runs_leave : (shape : Shape) (pool : Blocks) (out : Kept) (old : Flash) (before : Frames) (new : Flash) (after : Frames) → LeavesRuns pool out old before new after → out.shape ≡ shape
    → (rs : List Kept) (bss : List (List ℕ)) (ess : List (List Entry)) → HaveBlocks shape rs bss
    → ((b : ℕ) → In b (concat bss) → slice_get pool.states b ≡ Some (Owned Meta)) → ((b : ℕ) → In b (concat bss) → In b out.blocks → ⊥)
    → RunsOnFlash old before rs ess → RunsOnFlash new after rs ess
runs_leave shape pool out old before new after leaves is [] [] [] have meta apart s = tt
runs_leave shape pool out old before new after leaves is (r ∷ rs) (bs ∷ bss) (es ∷ ess) have meta apart s =
    let front : (i b : ℕ) → slice_get r.blocks i ≡ Some b
    → In b (concat (bs ∷ bss)) = λ i b got. any_front (λ y. b ≡ y) bs (concat bss) (got_in bs i b (subst (λ (xs : List ℕ). slice_get xs i ≡ Some b) have.1 got)) in (
      leaves r es (have.0 ∙ sym is) (λ i b got. meta b (front i b got)) (λ i j b got had. apart b (front i b got) (got_in out.blocks j b had)) s.0,
      runs_leave shape pool out old before new after leaves is rs bss ess have.2
          (λ b among. meta b (any_back (λ y. b ≡ y) bs (concat bss) among)) (λ b among. apart b (any_back (λ y. b ≡ y) bs (concat bss) among)) s.1,
    )
runs_leave shape pool out old before new after leaves is _ _ _ have meta apart s = search
