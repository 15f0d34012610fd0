-- The install of a root that may follow: the erase before it, and its first program.
use Rattle.std.proofs.Common.{◌≡◌, inl, inr, ℕ, ◌+◌, ◌<◌, ◌≤◌, List, [], Some, false, refl, sym, ap, subst, ◌∙◌, arith, true}
use Rattle.pk_base.{specs.Shape.Shape, specs.Shape.IsShape, specs.Page.Flash, specs.Page.page_at, specs.Page.whole, specs.Page.SameBehind, specs.Map.Map}
use Rattle.pk_base.specs.Mark.{program, after, all_posted}
use Rattle.pk_nand.{specs.BoardState.BoardState, specs.Cut.Interrupted, specs.Calls.IsReady, specs.Calls.after_program, specs.Calls.ProgramFailed}
use Rattle.pk_nand.{specs.Pairs.IsPairCut, proofs.Writing.shape_is}
use Rattle.pk_nand.proofs.Pairing.{IsPairCut-start, IsPairCut-cut, IsPairCut-done}
use Rattle.pk_rootfmt.{specs.Root.Root, specs.Root.root_bytes, specs.Newest.newest_root, proofs.AgainLemmas.reads_back}
use Rattle.pk_model.{specs.Found.Found, specs.Laws.IsInstall, specs.Spaces.limits_at, specs.RootLimits.root_limits, specs.Tree.Follows, specs.Growth.Reaches, specs.Growth.Goes}
use Rattle.pk_model.{specs.Crashes.CrashFinds, specs.Crashes.background, specs.Wear.root_number, specs.Wear.roots, proofs.Growing.at_end, proofs.Growing.top_limits}
use Rattle.pk_model.{proofs.RootLimits.limits_under, proofs.RootLimits.limits_alike, proofs.Roots.root_pair, proofs.Roots.root_installed, proofs.Running.Reaches-program, proofs.Running.Goes-program}
use Rattle.pk_root.{specs.declared.next.Next.Next, specs.declared.next.Next.TheVariants.Erase, specs.declared.next.Next.TheVariants.Program}
use Rattle.pk_root.specs.Installing.{erases_next, programs_next, repeats_next, before_pair, InstallerOnFlash, KeepsRoot, Installs, ErasesOther, FailsToInstall, FailsToErase}
use Rattle.pk_root.{proofs.Installs.install, proofs.Places.set_back}
use Rattle.pk_law_steps.{specs.Under.IsUnder, specs.Next.IsNext, proofs.Untouched.under_reads, proofs.Standing.installed}
use Rattle.pk_compact.{specs.Installing.CanPrepare, specs.Installing.Prepares, specs.Installing.PrepareBreaks, specs.Installing.CanInstall, specs.Installing.IsInstalled, proofs.Numbering.same_newest}
use Rattle.pk_compact.proofs.Installing.{under_behind, other_reaches, other_goes, other_under, other_behind}

-- ---- numbers

pub number_of_top : (shape : Shape) (flash : Flash) (top : ℕ × Root) → newest_root shape (page_at flash) ≡ Some top → root_number shape flash ≡ top.1.number
unfolding root_number
number_of_top shape flash top is = rw is refl

-- the root that follows has the next number
number_next : (shape : Shape) (flash : Flash) (top : ℕ × Root) (found then_found : Found) (root : Root) → IsNext shape flash [] top found root then_found → root.number ≡ top.1.number + 1
number_next shape flash top found then_found root next = elim next.step [ inl freezes ↦ freezes.number | inr merges ↦ merges.number ]

-- and the same limits
limits_next : (shape : Shape) (flash : Flash) (top : ℕ × Root) (found then_found : Found) (root : Root) → IsNext shape flash [] top found root then_found → root_limits shape root ≡ root_limits shape top.1
limits_next shape flash top found then_found root next = limits_alike shape top.1 root (elim next.step [ inl freezes ↦ freezes.limits | inr merges ↦ merges.limits ])

-- ---- the erase

module _ (shape : Shape) (is_shape : IsShape shape) (next : Next) (old : BoardState) (ready : IsReady old shape) where
  known : (top : ℕ × Root) (found : Found) (m : Map) → CanPrepare shape next old.pages top found m → (beside : ℕ) → next ≡ Erase beside → InstallerOnFlash shape (Erase beside) top old.pages
  known top found m can beside was = let S : Next → Type 0 = λ n. InstallerOnFlash shape n top old.pages in subst S was can.installs

  pub prepares : (next' : Next) (new : BoardState) → ErasesOther shape next old next' new → Prepares shape next old next' new
  prepares next' new e top found m can =
      let there = known top found m can e.beside e.was in
      record {
        installs = e.fits top can.installs;
        programs = ap programs_next e.then_next;
        under = other_under shape is_shape top found m e.beside old ready there can.under new e.erase;
        behind = other_behind shape is_shape top found m e.beside old ready there can.under new e.erase;
        cuts = other_reaches shape is_shape top found m e.beside old ready there can.under new e.erase;
      }

  pub prepare_breaks : (new : BoardState) → FailsToErase shape next old new → PrepareBreaks shape next old new
  prepare_breaks new f top found m can = other_goes shape is_shape top found m f.beside old ready (known top found m can f.beside f.was) can.under new f.failed

-- the number of the newest root is the former's
pub roots_same : (shape : Shape) (old new : BoardState) → IsReady old shape → IsReady new shape → root_number shape new.pages ≡ root_number shape old.pages → roots new ≡ roots old
roots_same shape old new before after same =
    let now : roots new ≡ root_number shape new.pages = ap (λ (s : Shape). root_number s new.pages) (shape_is new shape after) in
    let was : roots old ≡ root_number shape old.pages = ap (λ (s : Shape). root_number s old.pages) (shape_is old shape before) in
    now ∙ same ∙ sym was

pub prepare_number : (shape : Shape) (next next' : Next) (old new : BoardState) → ErasesOther shape next old next' new → root_number shape new.pages ≡ root_number shape old.pages
prepare_number shape next next' old new e = same_newest shape old.pages new.pages (at_end e.cuts.0 old new (λ cut _. KeepsRoot shape old.pages cut) e.cuts.1).newest

pub prepare_failed_number : (shape : Shape) (next : Next) (old new : BoardState) → FailsToErase shape next old new → root_number shape new.pages ≡ root_number shape old.pages
prepare_failed_number shape next old new f = same_newest shape old.pages new.pages (f.cuts.1.cuts new.pages (all_posted f.cuts.0) f.cuts.1.stands).newest

-- ---- the first program

module _ (shape : Shape) (is_shape : IsShape shape) (root : Root) (next : Next) (old : BoardState) (ready : IsReady old shape)
    (top : ℕ × Root) (found then_found : Found) (m : Map) (can : CanInstall shape root next old.pages top found then_found m) where
  pub greater : top.1.number < root.number
  greater = let follows = number_next shape old.pages top found then_found root can.follows in omega (arith, follows)

  pub few : root.number ≤ root_number shape old.pages + 1
  few = let a = number_of_top shape old.pages top can.under.is_top in let b = number_next shape old.pages top found then_found root can.follows in omega (arith, a, b)

  module _ (page : ℕ) (was : next ≡ Program page) where
    fits : InstallerOnFlash shape (Program page) top old.pages
    fits = let S : Next → Type 0 = λ n. InstallerOnFlash shape n top old.pages in subst S was can.installs

    abbrev bytes : List ℕ
    bytes = root_bytes shape root

    is_install : IsInstall shape old.pages top page bytes root
    is_install = install shape old page top bytes root is_shape ready fits (reads_back shape root is_shape can.follows.grammar) greater

    behind_cut : (f : Flash) → IsPairCut page bytes old.pages f → SameBehind shape old.pages f
    behind_cut f cut k high = cut.outside.above k (let below = is_install.in_root_blocks in omega (arith, below, high))

    under_new : (at : ℕ) (f : Flash) → IsPairCut page bytes old.pages f → newest_root shape (page_at f) ≡ Some (at, root) → IsUnder shape f [] (at, root) then_found m
    under_new at f cut newest = (installed shape old.pages f [] top at found root then_found m is_shape tt can.under can.follows newest (behind_cut f cut)).0

    cut_reads : (f : Flash) → IsPairCut page bytes old.pages f → CrashFinds shape background old.pages m f []
    cut_reads f cut = elim (root_pair shape old.pages top page bytes root f is_install cut) [
      | inl former ↦ (refl, under_reads shape f [] top found m (under_behind shape old.pages f top found m is_shape can.under former (behind_cut f cut)))
      | inr (inl first) ↦ (refl, under_reads shape f [] (page, root) then_found m (under_new page f cut first))
      | inr (inr second) ↦ (refl, under_reads shape f [] (page + 1, root) then_found m (under_new (page + 1) f cut second))
    ]

    start : IsPairCut page bytes old.pages old.pages
    start = IsPairCut-start page bytes old.pages (inr (inl is_install.first_erased)) (inr (inl is_install.second_erased))

    holds : (f : Flash) → Interrupted shape (program page bytes) old.pages f [] → CrashFinds shape background old.pages m f []
    holds f cut = cut_reads f (IsPairCut-cut shape page bytes is_install.even page old.pages old.pages f [] (omega arith) (omega arith) start cut)

    limits_new : (at : ℕ) (f : Flash) → newest_root shape (page_at f) ≡ Some (at, root) → limits_at shape f ≡ limits_at shape old.pages
    limits_new at f newest =
        limits_under shape f (at, root) newest ∙ limits_next shape old.pages top found then_found root can.follows ∙ sym (limits_under shape old.pages top can.under.is_top)

    limited : (f : Flash) → Interrupted shape (program page bytes) old.pages f [] → limits_at shape f ≡ limits_at shape old.pages
    limited f cut =
        elim (root_pair shape old.pages top page bytes root f is_install (IsPairCut-cut shape page bytes is_install.even page old.pages old.pages f [] (omega arith) (omega arith) start cut)) [
          | inl former ↦ top_limits shape f old.pages (former ∙ sym can.under.is_top)
          | inr (inl first) ↦ limits_new page f first
          | inr (inr second) ↦ limits_new (page + 1) f second
        ]

    abbrev then_pages : Flash
    then_pages = after shape (program page bytes) old.pages

    there : IsUnder shape then_pages [] (page, root) then_found m × Follows shape old.pages then_pages
    there = installed shape old.pages then_pages [] top page found root then_found m is_shape tt can.under can.follows (root_installed shape old.pages top page bytes root is_install).0
        (behind_cut then_pages (IsPairCut-done shape page bytes is_install.even page old.pages old.pages (omega arith) (omega arith) start))

    root_reaches : (new : BoardState) → new ≡ after_program old page bytes → Reaches shape old new (CrashFinds shape background old.pages m)
    root_reaches new made = Reaches-program shape old (CrashFinds shape background old.pages m) ready.shape_is page bytes holds (inr there.1) limited new made

    root_goes : (new : BoardState) → ProgramFailed old new page bytes → Goes shape old new (CrashFinds shape background old.pages m)
    root_goes new failed = Goes-program shape old (CrashFinds shape background old.pages m) ready.shape_is page bytes holds (inr there.1) limited new failed

    root_under : (new : BoardState) → newest_root shape (page_at new.pages) ≡ Some (page, root) → SameBehind shape old.pages new.pages → IsUnder shape new.pages [] (page, root) then_found m
    root_under new newest behind = (installed shape old.pages new.pages [] top page found root then_found m is_shape tt can.under can.follows newest behind).0

    -- the flash before it
    set_before : (new : BoardState) → new ≡ after_program old page bytes → before_pair new.pages page ≡ old.pages
    set_before new made = ap (λ (b : BoardState). before_pair b.pages page) made ∙ set_back old.pages page (whole bytes) is_install.first_erased

    before_it : (new : BoardState) → new ≡ after_program old page bytes → IsUnder shape (before_pair new.pages page) [] top found m
    before_it new made = subst (λ (f : Flash). IsUnder shape f [] top found m) (sym (set_before new made)) can.under

    before_limits : (new : BoardState) → new ≡ after_program old page bytes → newest_root shape (page_at new.pages) ≡ Some (page, root) → limits_at shape (before_pair new.pages page) ≡ limits_at shape new.pages
    before_limits new made newest = ap (limits_at shape) (set_before new made) ∙ sym (limits_new page new.pages newest)

  pub is_installed : (next' : Next) (new : BoardState) → SameBehind shape old.pages new.pages → Installs shape root next old next' new → IsInstalled shape root then_found m old next' new
  is_installed next' new behind i =
      let under = root_under i.page i.was new i.fits.newest behind in
      let former = number_of_top shape old.pages top can.under.is_top in
      let now = number_of_top shape new.pages (i.page, root) under.is_top in
      let step = number_next shape old.pages top found then_found root can.follows in
      record {
        page = i.page;
        under = under;
        installs = i.fits;
        half = record { page = i.page; again = i.then_next; former = top; former_found = found; was = before_it i.page i.was new i.program; same_limits = before_limits i.page i.was new i.program i.fits.newest };
        number = omega (arith, former, now, step);
        behind = behind;
        cuts = root_reaches i.page i.was new i.program;
      }

  pub install_breaks : (new : BoardState) → FailsToInstall shape root next old new → Goes shape old new (CrashFinds shape background old.pages m)
  install_breaks new f = root_goes f.page f.was new f.failed

-- ---- what is next

-- an erase, or the first program of a root, if no pair is half made
pub programs_then : (next : Next) → repeats_next next ≡ false → erases_next next ≡ false → programs_next next ≡ true
programs_then (Program page) is_whole no_erase = refl
programs_then _ is_whole no_erase = cc

pub programs_whole : (next : Next) → programs_next next ≡ true → repeats_next next ≡ false
programs_whole (Program page) programs = refl
programs_whole _ programs = cc
