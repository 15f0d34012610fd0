-- The erase of the other root block, and what is unchanged of others.
use Rattle.std.proofs.Common.{◌≡◌, inl, ℕ, zero, suc, ◌+◌, ◌*◌, ◌/◌, ◌%◌, ◌<◌, ◌≤◌, [], ◌∷◌, slice_index, Some, refl, sym, ap, subst, ◌∙◌, arith, mod-lt, div-lt_iff_lt-mul, mul-le-mul_right}
use Rattle.pk_base.{specs.Shape.Shape, specs.Shape.IsShape, specs.Shape.epoch_pages, specs.Page.Flash, specs.Page.page_at, specs.Page.page_in, specs.Page.erased, specs.Page.SameBehind, specs.Map.Map}
use Rattle.pk_base.{specs.EntryChecks.IsEntry, specs.Firsts.firsts, specs.Mark.erase, specs.Mark.after, proofs.ShapeLemmas.block_pages_positive}
use Rattle.pk_nand.{specs.BoardState.BoardState, specs.Cut.Interrupted, specs.Calls.IsReady, specs.Operations.after_erase, specs.Operations.EraseFailed, specs.Operations.IsErasedBlock}
use Rattle.pk_nand.{proofs.Leaving.interrupted_done, proofs.Writing.shape_is}
use Rattle.pk_rootfmt.{specs.Root.Root, specs.Newest.newest_root}
use Rattle.pk_model.{specs.Found.Found, specs.Found.entries_in_order, proofs.Roots.newest_sound, proofs.Roots.root_erase, proofs.RootAlone.found_alone, proofs.RootAlone.values_behind}
use Rattle.pk_model.{proofs.SamePages.map_under_same, proofs.Commits.root_valid, proofs.Entries.counting_all, proofs.Entries.journal_are, proofs.Entries.meta_are}
use Rattle.pk_model.{specs.Growth.Reaches, specs.Growth.Goes, specs.Crashes.CrashFinds, specs.Crashes.background}
use Rattle.pk_model.proofs.Running.{Reaches-erase, Goes-erase}
use Rattle.pk_root.{specs.declared.next.Next.TheVariants.Erase, specs.Installing.other_block, specs.Installing.InstallerOnFlash, proofs.Installs.behind_block}
use Rattle.pk_law_steps.specs.Under.{IsUnder}
use Rattle.pk_compact.proofs.Taking.{IsBesideRead, beside_read}

-- if the newest root is the same, in whatever page, and nothing after the root blocks differs
pub under_at : (shape : Shape) (flash cut : Flash) (top : ℕ × Root) (page : ℕ) (found : Found) (m : Map) → IsShape shape → IsUnder shape flash [] top found m
    → newest_root shape (page_at cut) ≡ Some (page, top.1) → SameBehind shape flash cut → IsUnder shape cut [] (page, top.1) found m
under_at shape flash cut top page found m is_shape under newest same =
    let was_valid = root_valid shape (page_at flash top.0) top.1 (newest_sound shape (page_at flash) top under.is_top).there in
    record {
      is_top = newest;
      is_found = found_alone shape is_shape (page_at flash) (page_at cut) same top.1 was_valid ∙ under.is_found;
      is_map = map_under_same shape (page_at flash) (page_at cut) top.1 found [] (λ k is. same k (values_behind shape (firsts (entries_in_order found []))
          (counting_all (IsEntry shape) shape (page_at flash) (λ k number index bytes es stands read. journal_are shape number index bytes es read)
          (λ k level index count bytes es stands read. meta_are shape level index count bytes es read) top.1 found [] under.is_found tt) k is)) ∙ under.is_map;
    }

pub under_behind : (shape : Shape) (flash cut : Flash) (top : ℕ × Root) (found : Found) (m : Map) → IsShape shape → IsUnder shape flash [] top found m
    → newest_root shape (page_at cut) ≡ Some top → SameBehind shape flash cut → IsUnder shape cut [] top found m
under_behind shape flash cut top = under_at shape flash cut top top.0

-- ---- an erase of the other root block

module _ (shape : Shape) (is_shape : IsShape shape) (top : ℕ × Root) (found : Found) (m : Map) (beside : ℕ) (old : BoardState) (ready : IsReady old shape)
    (fits : InstallerOnFlash shape (Erase beside) top old.pages) (under : IsUnder shape old.pages [] top found m) where
  abbrev other : ℕ
  other = other_block shape beside

  nothing_behind : (f : Flash) → Interrupted shape (erase other) old.pages f [] → SameBehind shape old.pages f
  nothing_behind f cut k high = behind_block shape (erase other) k other _ _ (block_pages_positive shape is_shape) refl (omega arith) high (cut.pages k)

  still_under : (f : Flash) → Interrupted shape (erase other) old.pages f [] → IsUnder shape f [] top found m
  still_under f cut = under_behind shape old.pages f top found m is_shape under (root_erase shape old.pages top other f [] fits.newest fits.possible.elsewhere (inl cut)) (nothing_behind f cut)

  its : IsBesideRead shape (erase other) old top found m
  its = beside_read shape (erase other) old top found m ready under still_under

  pub other_reaches : (new : BoardState) → new ≡ after_erase old other → Reaches shape old new (CrashFinds shape background old.pages m)
  other_reaches new made = Reaches-erase shape old (CrashFinds shape background old.pages m) ready.shape_is other its.holds its.grows its.limited new made

  pub other_goes : (new : BoardState) → EraseFailed old new other → Goes shape old new (CrashFinds shape background old.pages m)
  other_goes new failed = Goes-erase shape old (CrashFinds shape background old.pages m) ready.shape_is other its.holds its.grows its.limited new failed

  pub other_under : (new : BoardState) → new ≡ after_erase old other → IsUnder shape new.pages [] top found m
  other_under new made = its.under_after new (ap (λ (s : BoardState). s.pages) made)

  pub other_behind : (new : BoardState) → new ≡ after_erase old other → SameBehind shape old.pages new.pages
  other_behind new made =
      let T : BoardState → Type 0 = λ s. SameBehind shape old.pages s.pages in
      let S : Shape → Type 0 = λ s. SameBehind shape old.pages (after s (erase other) old.pages) in
      subst T (sym made) (subst S (sym (shape_is old shape ready)) (nothing_behind (after shape (erase other) old.pages) (interrupted_done shape (erase other) old.pages)))

-- ---- erased blocks

-- the pages of two erased blocks
new_erased : (flash : Flash) (n first second q r : ℕ) → ((k : ℕ) → first * n ≤ k → k < first * n + n → page_at flash k ≡ erased)
    → ((k : ℕ) → second * n ≤ k → k < second * n + n → page_at flash k ≡ erased)
    → q < 2 → r < n → page_at flash (slice_index (first ∷ second ∷ []) q * n + r) ≡ erased
new_erased flash n first second zero r one other low small = one (first * n + r) (omega arith) (omega (arith, small))
new_erased flash n first second (suc zero) r one other low small = other (second * n + r) (omega arith) (omega (arith, small))
new_erased flash n first second (suc (suc q)) r one other low small = absurd (omega (arith, low))

pub epoch_erased : (shape : Shape) (flash : Flash) (first second : ℕ) → IsShape shape → IsErasedBlock shape flash first → IsErasedBlock shape flash second
    → (j : ℕ) → j < epoch_pages shape → page_at flash (page_in shape (first ∷ second ∷ []) j) ≡ erased
epoch_erased shape flash first second is_shape one other j low =
    let positive = block_pages_positive shape is_shape in
    new_erased flash shape.block_pages first second (j / shape.block_pages) (j % shape.block_pages) one other ((div-lt_iff_lt-mul positive).1 low) (mod-lt j positive)

-- pages of a block after the root blocks stay erased
pub erased_behind : (shape : Shape) (b : ℕ) (old new : Flash) → 2 ≤ b → SameBehind shape old new → IsErasedBlock shape old b → IsErasedBlock shape new b
erased_behind shape b old new least same is k low high = let twice : 2 * shape.block_pages ≤ b * shape.block_pages = mul-le-mul_right shape.block_pages least in same k (omega (arith, twice, low))
    ∙ is k low high
