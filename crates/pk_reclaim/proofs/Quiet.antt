-- A block that only values may use, and of which no value is read: whatever happens to it does not change map and log.
use Rattle.std.proofs.Common.{◌≡◌, inl, inr, ℕ, ◌*◌, ◌/◌, ◌<◌, ◌≤◌, refl, sym, ap, subst, ◌∙◌, arith, List, [], ◌++◌, Some, div-lt_iff_lt-mul}
use Rattle.std.{specs.Prelude.slice_get, specs.List.concat}
use Rattle.pk_base.{specs.Shape.Shape, specs.Page.Flash, specs.Page.page_at, specs.Map.Map, specs.Mark.Mark, specs.Mark.program, specs.Mark.erase, specs.Mark.after}
use Rattle.pk_base.proofs.ShapeLemmas.{block_pages_positive}
use Rattle.pk_plan.specs.declared.owner.Owner.TheVariants.{Journal, Meta}
use Rattle.pk_nand.{specs.BoardState.BoardState, specs.BoardState.shape_or_none, specs.Cut.Interrupted, specs.Cut.Touches, specs.Calls.after_program, specs.Calls.ProgramFailed}
use Rattle.pk_nand.{specs.Operations.after_erase, specs.Operations.EraseFailed, proofs.Touching.untouched, proofs.Touching.untouched_after, proofs.Touching.partner_block}
use Rattle.pk_rootfmt.specs.Root.{Root, named}
use Rattle.pk_pool.{specs.declared.state.BlockState.TheVariants.Owned, specs.Blocks.Blocks}
use Rattle.pk_model.{specs.Found.Found, specs.Laws.AnyByRecursion, specs.Spaces.limits_at, specs.Growth.Grows, specs.Growth.Reaches, specs.Growth.Goes, proofs.Growing.top_limits}
use Rattle.pk_model.specs.Crashes.{CrashFinds, background}
use Rattle.pk_model.proofs.Running.{Reaches-none, Reaches-erase, Goes-erase, Reaches-program, Goes-program}
use Rattle.pk_law_steps.{specs.Under.IsUnder, specs.Under.IsValuePage, specs.Under.places, proofs.Places.in_append, proofs.Untouched.under_reads, proofs.Untouched.erases}
use Rattle.pk_log.{specs.State.LogState, specs.Logs.LogOnFlash, specs.Laws.SameNamed, proofs.Standing.logs_elsewhere}

-- the blocks of the journal and of runs that the root names are those of the pool
pub record NamesOwned (pool : Blocks) (root : Root) : Type 0 where
  pub journal : (b : ℕ) → AnyByRecursion (λ c. b ≡ c) (root.newest ++ root.older) → slice_get pool.states b ≡ Some (Owned Journal)
  pub runs : (b : ℕ) → AnyByRecursion (λ c. b ≡ c) (concat root.runs) → slice_get pool.states b ≡ Some (Owned Meta)

-- neither the journal nor runs have the block
pub record IsAside (pool : Blocks) (b : ℕ) : Type 0 where
  pub no_journal : slice_get pool.states b ≡ Some (Owned Journal) → ⊥
  pub no_meta : slice_get pool.states b ≡ Some (Owned Meta) → ⊥

pub aside_unnamed : (pool : Blocks) (root : Root) (b : ℕ) → NamesOwned pool root → IsAside pool b → AnyByRecursion (λ c. b ≡ c) (named root) → ⊥
aside_unnamed pool root b names aside is = elim (in_append b (root.newest ++ root.older) (concat root.runs) is) [
  | inl first ↦ aside.no_journal (names.journal b first)
  | inr second ↦ aside.no_meta (names.runs b second)
]

-- a page below the first block after the root blocks is in none after them
pub low_block : (n k b : ℕ) → 0 < n → k < 2 * n → 2 ≤ b → k / n ≡ b → ⊥
low_block n k b some low behind here = let less : k / n < 2 = (div-lt_iff_lt-mul some).1 low in omega (arith, less, behind, here)

-- The log matches the pages of a board, whose map this is; the block is aside, after the root blocks, and no value is read of it.
pub record IsQuiet (log : LogState) (pool : Blocks) (old : BoardState) (top : ℕ × Root) (found : Found) (m : Map) (b : ℕ) : Type 0 where
  pub has : old.shape ≡ Some log.shape
  pub logs : LogOnFlash log old.pages top found
  pub under : IsUnder log.shape old.pages [] top found m
  pub names : NamesOwned pool top.1
  pub behind : 2 ≤ b
  pub aside : IsAside pool b
  pub unread : (k : ℕ) → k / log.shape.block_pages ≡ b → IsValuePage log.shape (places found []) k → ⊥

module _ {log : LogState} {pool : Blocks} {old : BoardState} {top : ℕ × Root} {found : Found} {m : Map} {b : ℕ} (q : IsQuiet log pool old top found m b) where
  abbrev shape : Shape
  shape = log.shape

  abbrev n : ℕ
  n = shape.block_pages

  positive : 0 < n
  positive = block_pages_positive shape q.logs.is_shape

  -- no page of another block differs
  abbrev pub SameBut : Flash → Type 0
  SameBut flash = (k : ℕ) → (k / n ≡ b → ⊥) → page_at flash k ≡ page_at old.pages k

  pub under_quiet : (flash : Flash) → SameBut flash → IsUnder shape flash [] top found m
  under_quiet flash same = erases shape old.pages flash [] top found m b q.logs.is_shape q.under q.behind (aside_unnamed pool top.1 b q.names q.aside) q.unread same

  pub low_quiet : (flash : Flash) → SameBut flash → (k : ℕ) → k < 2 * n → page_at flash k ≡ page_at old.pages k
  low_quiet flash same k low = same k (low_block n k b positive low q.behind)

  named_quiet : (flash : Flash) → SameBut flash → SameNamed shape top.1 old.pages flash
  named_quiet flash same k (inl low) = low_quiet flash same k low
  named_quiet flash same k (inr is) = same k (λ here. aside_unnamed pool top.1 b q.names q.aside (subst (λ (x : ℕ). AnyByRecursion (λ c. x ≡ c) (named top.1)) here is))

  pub log_quiet : (flash : Flash) → SameBut flash → LogOnFlash log flash top found
  log_quiet flash same = logs_elsewhere log old.pages flash top found (named_quiet flash same) q.logs

  pub meta_quiet : (flash : Flash) → SameBut flash → (k : ℕ) → slice_get pool.states (k / n) ≡ Some (Owned Meta) → page_at flash k ≡ page_at old.pages k
  meta_quiet flash same k owned = same k (λ here. q.aside.no_meta (subst (λ (x : ℕ). slice_get pool.states x ≡ Some (Owned Meta)) here owned))

  pub journal_quiet : (flash : Flash) → SameBut flash → (k : ℕ) → slice_get pool.states (k / n) ≡ Some (Owned Journal) → page_at flash k ≡ page_at old.pages k
  journal_quiet flash same k owned = same k (λ here. q.aside.no_journal (subst (λ (x : ℕ). slice_get pool.states x ≡ Some (Owned Journal)) here owned))

  -- ---- cuts

  abbrev pub Finds : Flash → List ℕ → Type 0
  Finds = CrashFinds shape background old.pages m

  finds : (flash : Flash) → SameBut flash → Finds flash []
  finds flash same = (refl, under_reads shape flash [] top found m (under_quiet flash same))

  grows : (flash : Flash) → SameBut flash → Grows shape old.pages flash
  grows flash same = inl ((under_quiet flash same).is_top ∙ sym q.under.is_top)

  limited : (flash : Flash) → SameBut flash → limits_at shape flash ≡ limits_at shape old.pages
  limited flash same = top_limits shape flash old.pages ((under_quiet flash same).is_top ∙ sym q.under.is_top)

  pub none_reaches : (new : BoardState) → new ≡ old → Reaches shape old new Finds
  none_reaches new same = Reaches-none shape old Finds q.has new same (finds old.pages (λ k other. refl))

  within : (mark : Mark) → ((k : ℕ) → Touches shape mark k → k / n ≡ b) → (flash : Flash) → Interrupted shape mark old.pages flash [] → SameBut flash
  within mark inside flash cut k other = untouched shape mark k _ _ (λ is. other (inside k is)) (cut.pages k)

  done : (mark : Mark) → ((k : ℕ) → Touches shape mark k → k / n ≡ b) → SameBut (after shape mark old.pages)
  done mark inside k other = untouched_after shape mark old.pages k (λ is. other (inside k is))

  -- an erase of the block
  in_erased : (k : ℕ) → Touches shape (erase b) k → k / n ≡ b
  in_erased k is = is

  pub erase_quiet : (new : BoardState) → new ≡ after_erase old b → SameBut new.pages
  erase_quiet new made = subst (λ (s : BoardState). SameBut s.pages) (sym made) (subst (λ (s : Shape). SameBut (after s (erase b) old.pages)) (sym (ap shape_or_none q.has)) (done (erase b) in_erased))

  pub erase_reaches : (new : BoardState) → new ≡ after_erase old b → Reaches shape old new Finds
  erase_reaches new made = Reaches-erase shape old Finds q.has b (λ f cut. finds f (within (erase b) in_erased f cut)) (grows _ (done (erase b) in_erased))
      (λ f cut. limited f (within (erase b) in_erased f cut)) new made

  pub erase_goes : (new : BoardState) → EraseFailed old new b → Goes shape old new Finds
  erase_goes new failed = Goes-erase shape old Finds q.has b (λ f cut. finds f (within (erase b) in_erased f cut)) (grows _ (done (erase b) in_erased))
      (λ f cut. limited f (within (erase b) in_erased f cut)) new failed

  -- a program of a page in it
  module _ (at : ℕ) (bytes : List ℕ) (here : at / n ≡ b) where
    in_programmed : (k : ℕ) → Touches shape (program at bytes) k → k / n ≡ b
    in_programmed k (inl is) = ap (λ (x : ℕ). x / n) is ∙ here
    in_programmed k (inr partner) = sym (partner_block shape at k partner) ∙ here

    pub program_quiet : (new : BoardState) → new ≡ after_program old at bytes → SameBut new.pages
    program_quiet new made = subst (λ (s : BoardState). SameBut s.pages) (sym made)
        (subst (λ (s : Shape). SameBut (after s (program at bytes) old.pages)) (sym (ap shape_or_none q.has)) (done (program at bytes) in_programmed))

    pub program_reaches : (new : BoardState) → new ≡ after_program old at bytes → Reaches shape old new Finds
    program_reaches new made = Reaches-program shape old Finds q.has at bytes
        (λ f cut. finds f (within (program at bytes) in_programmed f cut)) (grows _ (done (program at bytes) in_programmed))
        (λ f cut. limited f (within (program at bytes) in_programmed f cut)) new made

    pub program_goes : (new : BoardState) → ProgramFailed old new at bytes → Goes shape old new Finds
    program_goes new failed = Goes-program shape old Finds q.has at bytes
        (λ f cut. finds f (within (program at bytes) in_programmed f cut)) (grows _ (done (program at bytes) in_programmed))
        (λ f cut. limited f (within (program at bytes) in_programmed f cut)) new failed
