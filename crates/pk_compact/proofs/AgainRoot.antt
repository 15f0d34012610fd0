-- The second program of a root: its pair is a cut of the flash before the first one.
use Rattle.std.proofs.Common.{◌≡◌, inl, inr, ℕ, ◌+◌, ◌≤◌, List, [], Some, false, refl, sym, ap, subst, ◌∙◌, arith, Result, Ok, Err, T, true}
use Rattle.std.specs.Prelude.{OnOk, OnErr, IfErr, slice_set}
use Rattle.pk_base.{specs.Shape.Shape, specs.Shape.IsShape, specs.Page.Flash, specs.Page.page_at, specs.Page.whole, specs.Page.SameBehind, specs.Map.Map, specs.Mark.program, specs.Mark.after}
use Rattle.pk_base.proofs.Logic.{is_true}
use Rattle.pk_nand.{specs.BoardState.BoardState, specs.Cut.Interrupted, specs.Calls.IsReady, specs.Calls.after_program, specs.Calls.ProgramFailed, specs.Effects.OneProgram, specs.Pairs.IsPairCut}
use Rattle.pk_nand.{specs.declared.types.Fault.Fault, specs.declared.types.Fault.TheVariants.Stopped, proofs.Effects.works_program, proofs.Effects.stops_program}
use Rattle.pk_nand.proofs.Pairing.{IsPairCut-cut, IsPairCut-done}
use Rattle.pk_rootfmt.{specs.Root.Root, specs.Root.root_bytes, specs.Root.is_root, specs.Newest.newest_root}
use Rattle.pk_model.{specs.Found.Found, specs.Laws.IsInstall, specs.Spaces.limits_at, specs.Growth.Grows, specs.Growth.Reaches, specs.Growth.Goes, specs.Crashes.CrashFinds, specs.Crashes.background}
use Rattle.pk_model.{specs.Wear.root_number, specs.Wear.roots, proofs.Roots.root_pair, proofs.Roots.newest_sound, proofs.Growing.top_limits, proofs.RootLimits.limits_under, proofs.Steps.roots_few}
use Rattle.pk_model.{proofs.Running.Reaches-program, proofs.Running.Goes-program, proofs.Commits.root_valid}
use Rattle.pk_root.{specs.declared.next.Next.Next, specs.declared.next.Next.TheVariants.Again}
use Rattle.pk_root.specs.Installing.{repeats_next, before_pair, InstallerOnFlash, Repeats, FailsToRepeat}
use Rattle.pk_root.proofs.Installs.{again_install, again_start, again_fits, again_behind}
use Rattle.pk_law_steps.{specs.Under.IsUnder, proofs.Untouched.under_reads}
use Rattle.pk_compact.{specs.Installing.CanRepeat, specs.Installing.IsRepeated, specs.Installing.RepeatsRoot, specs.Installing.RepeatBreaks, specs.Steps.StepByCall, proofs.NextRoot.number_of_top}
use Rattle.pk_compact.{proofs.Installing.under_at, proofs.Installing.under_behind, proofs.Growing.made_by, proofs.Growing.failed_by, proofs.Growing.program_calls, proofs.Growing.program_failed_calls, proofs.Numbering.repeat_number}

-- the page whose second one is next
abbrev again_page : Next → ℕ
again_page (Again page) = page
again_page _ = 0

module _ (shape : Shape) (is_shape : IsShape shape) (root : Root) (next : Next) (old : BoardState) (ready : IsReady old shape)
    (top : ℕ × Root) (found : Found) (m : Map) (can : CanRepeat shape root next old.pages top found m) where
  module _ (page : ℕ) (was : next ≡ Again page) where
    pub fits : InstallerOnFlash shape (Again page) top old.pages
    fits = let S : Next → Type 0 = λ n. InstallerOnFlash shape n top old.pages in subst S was can.installs

    abbrev bytes : List ℕ
    bytes = root_bytes shape top.1

    abbrev start : Flash
    start = before_pair old.pages page

    is_install : IsInstall shape start fits.possible.former page bytes top.1
    is_install = again_install shape old page top.0 top.1 is_shape fits

    -- before the pair the map was under the former root
    formerly : IsUnder shape start [] can.half.former can.half.former_found m
    formerly = subst (λ (p : ℕ). IsUnder shape (before_pair old.pages p) [] can.half.former can.half.former_found m) (ap again_page (sym can.half.again ∙ was)) can.half.was

    -- with the same limits
    formerly_limited : limits_at shape start ≡ limits_at shape old.pages
    formerly_limited = subst (λ (p : ℕ). limits_at shape (before_pair old.pages p) ≡ limits_at shape old.pages) (ap again_page (sym can.half.again ∙ was)) can.half.same_limits

    behind_cut : (f : Flash) → IsPairCut page bytes start f → SameBehind shape old.pages f
    behind_cut = again_behind shape old page top.0 top.1 is_shape fits

    cut_reads : (f : Flash) → IsPairCut page bytes start f → CrashFinds shape background old.pages m f []
    cut_reads f cut = elim (root_pair shape start fits.possible.former page bytes top.1 f is_install cut) [
      | inl former ↦ (
        refl,
        under_reads shape f [] can.half.former can.half.former_found m
            (under_behind shape start f can.half.former can.half.former_found m is_shape formerly (former ∙ sym is_install.was ∙ formerly.is_top)
            (λ k high. cut.outside.above k (let below = is_install.in_root_blocks in omega (arith, below, high)))),
      )
      | inr (inl first) ↦ (refl, under_reads shape f [] (page, top.1) found m (under_at shape old.pages f top page found m is_shape can.under first (behind_cut f cut)))
      | inr (inr second) ↦ (refl, under_reads shape f [] (page + 1, top.1) found m (under_at shape old.pages f top (page + 1) found m is_shape can.under second (behind_cut f cut)))
    ]

    so_far : IsPairCut page bytes start old.pages
    so_far = again_start shape old page top.0 top.1 is_shape fits

    holds : (f : Flash) → Interrupted shape (program (page + 1) bytes) old.pages f [] → CrashFinds shape background old.pages m f []
    holds f cut = cut_reads f (IsPairCut-cut shape page bytes is_install.even (page + 1) start old.pages f [] (omega arith) (omega arith) so_far cut)

    same_root : (at : ℕ) (f : Flash) → newest_root shape (page_at f) ≡ Some (at, top.1) → limits_at shape f ≡ limits_at shape old.pages
    same_root at f newest = limits_under shape f (at, top.1) newest ∙ sym (limits_under shape old.pages top can.under.is_top)

    limited : (f : Flash) → Interrupted shape (program (page + 1) bytes) old.pages f [] → limits_at shape f ≡ limits_at shape old.pages
    limited f cut =
        elim (root_pair shape start fits.possible.former page bytes top.1 f is_install
        (IsPairCut-cut shape page bytes is_install.even (page + 1) start old.pages f [] (omega arith) (omega arith) so_far cut)) [
          | inl former ↦ top_limits shape f start (former ∙ sym is_install.was) ∙ formerly_limited
          | inr (inl first) ↦ same_root page f first
          | inr (inr second) ↦ same_root (page + 1) f second
        ]

    both : IsPairCut page bytes start (after shape (program (page + 1) bytes) old.pages)
    both = IsPairCut-done shape page bytes is_install.even (page + 1) start old.pages (omega arith) (omega arith) so_far

    grows : Grows shape old.pages (after shape (program (page + 1) bytes) old.pages)
    grows = inl ((again_fits shape old page top.0 top.1 is_shape fits (after_program old (page + 1) bytes) refl both).newest
        ∙ ap (λ (p : ℕ). Some (p, top.1)) (sym fits.possible.at_first) ∙ sym can.under.is_top)

    again_reaches : (new : BoardState) → new ≡ after_program old (page + 1) bytes → Reaches shape old new (CrashFinds shape background old.pages m)
    again_reaches new made = Reaches-program shape old (CrashFinds shape background old.pages m) ready.shape_is (page + 1) bytes holds grows limited new made

    again_goes : (new : BoardState) → ProgramFailed old new (page + 1) bytes → Goes shape old new (CrashFinds shape background old.pages m)
    again_goes new failed = Goes-program shape old (CrashFinds shape background old.pages m) ready.shape_is (page + 1) bytes holds grows limited new failed

    pub before_less : root_number shape start ≤ root.number
    before_less =
        let former = number_of_top shape start fits.possible.former is_install.was in
        let less = is_install.greater_number in
        let same = ap (λ (r : Root). r.number) can.top_is in
        omega (arith, former, less, same)

  same_top : (page : ℕ) → next ≡ Again page → (page, root) ≡ top
  same_top page was = ap (λ (p : ℕ). (p, root)) (sym (fits page was).possible.at_first) ∙ ap (λ (r : Root). (top.0, r)) (sym can.top_is)

  by_top : (P : List ℕ → Type 0) → P (root_bytes shape root) → P (root_bytes shape top.1)
  by_top P is = subst (λ (r : Root). P (root_bytes shape r)) (sym can.top_is) is

  pub is_repeated : (next' : Next) (new : BoardState) → repeats_next next' ≡ false → SameBehind shape old.pages new.pages
      → Repeats shape root next old next' new → IsRepeated shape old top found m next' new
  is_repeated next' new is_whole behind r =
      let installs : InstallerOnFlash shape next' top new.pages = subst (λ (t : ℕ × Root). InstallerOnFlash shape next' t new.pages) (same_top r.page r.was) r.fits in
      let now = number_of_top shape new.pages top installs.newest in
      let before = number_of_top shape old.pages top can.under.is_top in
      let program = by_top (λ bs. new ≡ after_program old (r.page + 1) bs) r.program in
      record {
        under = under_behind shape old.pages new.pages top found m is_shape can.under installs.newest behind;
        installs = installs;
        whole = is_whole;
        pages = ap (λ (b : BoardState). b.pages) program
            ∙ ap (λ (p : ℕ). slice_set old.pages (p + 1) (whole (root_bytes shape top.1))) (sym (fits r.page r.was).possible.at_first);
        number = now ∙ sym before;
        behind = behind;
        cuts = again_reaches r.page r.was new program;
      }

  pub repeat_breaks : (new : BoardState) → FailsToRepeat shape root next old new → Goes shape old new (CrashFinds shape background old.pages m)
  repeat_breaks new f = again_goes f.page f.was new (by_top (ProgramFailed old new (f.page + 1)) f.failed)

  pub number_is : root.number ≡ root_number shape old.pages
  number_is = ap (λ (r : Root). r.number) (sym can.top_is) ∙ sym (number_of_top shape old.pages top can.under.is_top)

-- ---- the call

-- what it asks of the installer
pub repeat_grammar : (shape : Shape) (root : Root) (next : Next) (flash : Flash) (top : ℕ × Root) (found : Found) (m : Map) → CanRepeat shape root next flash top found m → is_root shape root ≡ true
repeat_grammar shape root next flash top found m can =
    is_true (is_root shape root) (subst (λ (r : Root). T (is_root shape r)) can.top_is (root_valid shape (page_at flash top.0) top.1 (newest_sound shape (page_at flash) top can.under.is_top).there))

pub repeat_fits : (shape : Shape) (root : Root) (next : Next) (flash : Flash) (top : ℕ × Root) (found : Found) (m : Map)
    → CanRepeat shape root next flash top found m → (at : ℕ) × InstallerOnFlash shape next (at, root) flash
repeat_fits shape root next flash top found m can = (top.0, subst (λ (r : Root). InstallerOnFlash shape next (top.0, r) flash) can.top_is can.installs)

module _ (shape : Shape) (is_shape : IsShape shape) (root : Root) (next next' : Next) (old new : BoardState) (ready : IsReady old shape) (then_ready : IsReady new shape)
    (can : (top : ℕ × Root) × (found : Found) × (m : Map) × CanRepeat shape root next old.pages top found m) (behind : SameBehind shape old.pages new.pages) where
  number : root.number ≡ root_number shape old.pages
  number = number_is shape is_shape root next old ready can.0 can.1 can.2 can.3

  failed_less : FailsToRepeat shape root next old new → root_number shape new.pages ≤ root_number shape old.pages
  failed_less f = repeat_number shape root next old new (omega (arith, number)) (λ page was. before_less shape is_shape root next old ready can.0 can.1 can.2 can.3 page was) f

  -- one program is made, also if it fails
  pub repeat_program : (r : Result Unit Fault) → OnOk r (Repeats shape root next old next' new) → OnErr r (FailsToRepeat shape root next old new) → OneProgram old new
  repeat_program (Ok u) r failed = record {
    programs = ap (λ (b : BoardState). b.programs) r.program;
    erases = ap (λ (b : BoardState). b.erases) r.program;
    reads = ap (λ (b : BoardState). b.reads) r.program;
  }
  repeat_program (Err fault) r f = record {
    programs = ap (λ (b : BoardState). b.programs) f.failed.rest;
    erases = ap (λ (b : BoardState). b.erases) f.failed.rest;
    reads = ap (λ (b : BoardState). b.reads) f.failed.rest;
  }

  -- a program that fails may bring the former root back, and none that follows
  pub repeat_roots : (r : Result Unit Fault) → OnOk r (Repeats shape root next old next' new)
      → OnOk r (repeats_next next' ≡ false) → OnErr r (FailsToRepeat shape root next old new) → roots new ≤ roots old
  repeat_roots (Ok u) r is_whole failed =
      let same = (is_repeated shape is_shape root next old ready can.0 can.1 can.2 can.3 next' new is_whole behind r).number in
      let few = roots_few shape 0 old new ready then_ready (omega (arith, same)) in
      omega (arith, few)
  repeat_roots (Err fault) r is_whole f =
      let less = failed_less f in
      let few = roots_few shape 0 old new ready then_ready (omega (arith, less)) in
      omega (arith, few)

  pub repeat_step : (r : Result Unit Fault) → OnOk r (Repeats shape root next old next' new)
      → OnOk r (repeats_next next' ≡ false) → IfErr r (λ e. e ≡ Stopped) → OnErr r (FailsToRepeat shape root next old new)
      → StepByCall (λ u. RepeatsRoot shape root next old next' new) (RepeatBreaks shape root next old new) shape 1 old new r
  repeat_step (Ok u) r is_whole stopped failed =
      let same = (is_repeated shape is_shape root next old ready can.0 can.1 can.2 can.3 next' new is_whole behind r).number in
      made_by (λ top found m may. is_repeated shape is_shape root next old ready top found m may next' new is_whole behind r)
      (works_program old new (r.page + 1) (root_bytes shape root) r.program) (roots_few shape 1 old new ready then_ready (omega (arith, same))) then_ready
      (program_calls old new (r.page + 1) (root_bytes shape root) r.program)
      (inl ((is_repeated shape is_shape root next old ready can.0 can.1 can.2 can.3 next' new is_whole behind r).under.is_top ∙ sym can.3.under.is_top))
  repeat_step (Err fault) r is_whole stopped f =
      failed_by (λ top found m may. repeat_breaks shape is_shape root next old ready top found m may new f) (stops_program old new (f.page + 1) (root_bytes shape root) f.failed) stopped
      (roots_few shape 1 old new ready then_ready (let less = failed_less f in omega (arith, less))) then_ready (program_failed_calls old new (f.page + 1) (root_bytes shape root) f.failed)
