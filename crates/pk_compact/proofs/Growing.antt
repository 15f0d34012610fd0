-- The call of a step, whether it was made or failed, and the tree of lists after it: the newest root is the former, or the one that follows.
use Rattle.std.proofs.Common.{◌≡◌, inl, inr, ℕ, ◌≤◌, List, [], Some, ap, Result, Ok, Err, arith}
use Rattle.std.specs.Prelude.{OnOk, OnErr, IfErr}
use Rattle.pk_base.{specs.Shape.Shape, specs.Shape.IsShape, specs.Page.Flash, specs.Page.page_at, specs.Page.SameBehind, specs.Map.Map}
use Rattle.pk_nand.{specs.BoardState.BoardState, specs.Calls.IsReady, specs.Calls.after_program, specs.Calls.ProgramFailed, specs.Operations.after_erase, specs.Operations.EraseFailed}
use Rattle.pk_nand.{specs.Effects.AtMostOneCall, specs.Effects.Works, specs.Effects.Stops, specs.Effects.made_no_call, specs.Effects.made_program, specs.Effects.made_erase, specs.declared.types.Fault.Fault}
use Rattle.pk_nand.{specs.declared.types.Fault.TheVariants.Stopped, proofs.Effects.works_erase, proofs.Effects.works_program, proofs.Effects.stops_erase, proofs.Effects.stops_program}
use Rattle.pk_rootfmt.{specs.Root.Root, specs.Root.root_bytes, specs.Newest.newest_root}
use Rattle.pk_model.{specs.Found.Found, specs.Growth.Grows, specs.Steps.RootsUpTo, proofs.Growing.at_end, proofs.SamePages.newest_root_same, proofs.Steps.roots_few}
use Rattle.pk_root.{specs.declared.next.Next.Next, specs.Laws.SameFront}
use Rattle.pk_root.specs.Installing.{other_block, KeepsRoot, Installs, ErasesOther, FailsToInstall, FailsToErase}
use Rattle.pk_law_steps.proofs.Standing.{installed}
use Rattle.pk_compact.specs.Installing.{Prepares, PrepareBreaks, CanInstall, InstallsRoot, InstallBreaks}
use Rattle.pk_compact.proofs.NextRoot.{prepares, prepare_breaks, prepare_number, prepare_failed_number, roots_same, few, is_installed, install_breaks}
use Rattle.pk_compact.{specs.Steps.StepByCall, specs.Steps.AtMostErases, proofs.Taking.leaves_others, proofs.Taking.not_behind, proofs.Numbering.install_number}

-- no page of the root blocks differs
front_grows : (shape : Shape) (old new : Flash) → SameFront shape old new → Grows shape old new
front_grows shape old new same = inl (newest_root_same shape (page_at old) (page_at new) same)

-- a block after the root blocks was erased, or nothing was done
pub took_grows : (shape : Shape) → IsShape shape → (b : ℕ) (old new : BoardState) → AtMostErases b old new → IsReady old shape → 2 ≤ b → Grows shape old.pages new.pages
took_grows shape is_shape b old new taken ready behind = front_grows shape old.pages new.pages (λ k low. leaves_others shape b old new taken ready k (not_behind shape b k is_shape behind low))

-- the program of a root that may follow
module _ (shape : Shape) (is_shape : IsShape shape) (root : Root) (next : Next) (old new : BoardState) (top : ℕ × Root) (found then_found : Found)
    (m : Map) (can : CanInstall shape root next old.pages top found then_found m) (behind : SameBehind shape old.pages new.pages) where
  follows : (page : ℕ) → newest_root shape (page_at new.pages) ≡ Some (page, root) → Grows shape old.pages new.pages
  follows page is = inr (installed shape old.pages new.pages [] top page found root then_found m is_shape tt can.under can.follows is behind).1

  pub install_grows : (next' : Next) → Installs shape root next old next' new → Grows shape old.pages new.pages
  install_grows next' i = follows i.page i.fits.newest

-- ---- the one call

pub erase_calls : (old new : BoardState) (b : ℕ) → new ≡ after_erase old b → AtMostOneCall old new
erase_calls old new b e = made_erase (ap (λ (s : BoardState). s.reads) e, ap (λ (s : BoardState). s.programs) e, ap (λ (s : BoardState). s.erases) e)

pub erase_failed_calls : (old new : BoardState) (b : ℕ) → EraseFailed old new b → AtMostOneCall old new
erase_failed_calls old new b f = made_erase (ap (λ (s : BoardState). s.reads) f.rest, ap (λ (s : BoardState). s.programs) f.rest, ap (λ (s : BoardState). s.erases) f.rest)

pub program_calls : (old new : BoardState) (page : ℕ) (bytes : List ℕ) → new ≡ after_program old page bytes → AtMostOneCall old new
program_calls old new page bytes e = made_program (ap (λ (s : BoardState). s.reads) e, ap (λ (s : BoardState). s.programs) e, ap (λ (s : BoardState). s.erases) e)

pub program_failed_calls : (old new : BoardState) (page : ℕ) (bytes : List ℕ) → ProgramFailed old new page bytes → AtMostOneCall old new
program_failed_calls old new page bytes f = made_program (ap (λ (s : BoardState). s.reads) f.rest, ap (λ (s : BoardState). s.programs) f.rest, ap (λ (s : BoardState). s.erases) f.rest)

pub took_calls : (b : ℕ) (old new : BoardState) → AtMostErases b old new → AtMostOneCall old new
took_calls b old new (inl same) = made_no_call (ap (λ (s : BoardState). s.reads) same, ap (λ (s : BoardState). s.programs) same, ap (λ (s : BoardState). s.erases) same)
took_calls b old new (inr e) = erase_calls old new b e

-- ---- a step by one call

module _ {T : Type 0} {Ended : T → Type 0} {Broken : Type 0} {shape : Shape} {most : ℕ} {old new : BoardState} where
  pub made_by : {x : T} → Ended x → Works old new → RootsUpTo most old new → IsReady new shape → AtMostOneCall old new → Grows shape old.pages new.pages
      → StepByCall Ended Broken shape most old new (Ok x)
  made_by ended works few ready calls grows = record {
    step = record { ended = ended; broken = tt; works = works; stops = tt; stopped = tt; roots_few = few; ready = ready };
    calls = calls;
    grows = grows;
  }

  pub failed_by : {fault : Fault} → Broken → Stops old new → fault ≡ Stopped → RootsUpTo most old new → IsReady new shape → AtMostOneCall old new
      → StepByCall Ended Broken shape most old new (Err fault)
  failed_by broken stops stopped few ready calls = record {
    step = record { ended = tt; broken = broken; works = tt; stops = stops; stopped = stopped; roots_few = few; ready = ready };
    calls = calls;
    grows = tt;
  }

-- ---- the erase before a root

module _ (shape : Shape) (is_shape : IsShape shape) (next next' : Next) (old new : BoardState) (ready : IsReady old shape) (then_ready : IsReady new shape) where
  pub prepare_step : (r : Result Unit Fault) → OnOk r (ErasesOther shape next old next' new) → IfErr r (λ e. e ≡ Stopped) → OnErr r (FailsToErase shape next old new)
      → StepByCall (λ u. Prepares shape next old next' new) (PrepareBreaks shape next old new) shape 0 old new r
  prepare_step (Ok u) e stopped failed =
      made_by (prepares shape is_shape next old ready next' new e) (works_erase old new (other_block shape e.beside) e.erase)
      (roots_same shape old new ready then_ready (prepare_number shape next next' old new e)) then_ready
      (erase_calls old new (other_block shape e.beside) e.erase) (inl (at_end e.cuts.0 old new (λ cut _. KeepsRoot shape old.pages cut) e.cuts.1).newest)
  prepare_step (Err fault) e stopped f =
      failed_by (prepare_breaks shape is_shape next old ready new f) (stops_erase old new (other_block shape f.beside) f.failed) stopped
      (roots_same shape old new ready then_ready (prepare_failed_number shape next old new f)) then_ready (erase_failed_calls old new (other_block shape f.beside) f.failed)

-- ---- the first program of a root

module _ (shape : Shape) (is_shape : IsShape shape) (root : Root) (next next' : Next) (old new : BoardState) (ready : IsReady old shape) (then_ready : IsReady new shape)
    (can : (top : ℕ × Root) × (found : Found) × (then_found : Found) × (m : Map) × CanInstall shape root next old.pages top found then_found m) (behind : SameBehind shape old.pages new.pages) where
  pub install_step : (r : Result Unit Fault) → OnOk r (Installs shape root next old next' new) → IfErr r (λ e. e ≡ Stopped) → OnErr r (FailsToInstall shape root next old new)
      → StepByCall (λ u. InstallsRoot shape root next old next' new) (InstallBreaks shape root next old new) shape 1 old new r
  install_step (Ok u) made stopped failed =
      let one = (is_installed shape is_shape root next old ready can.0 can.1 can.2 can.3 can.4 next' new behind made).number in
      made_by (λ top found then_found m may. is_installed shape is_shape root next old ready top found then_found m may next' new behind made)
      (works_program old new made.page (root_bytes shape root) made.program) (roots_few shape 1 old new ready then_ready (omega (arith, one))) then_ready
      (program_calls old new made.page (root_bytes shape root) made.program) (install_grows shape is_shape root next old new can.0 can.1 can.2 can.3 can.4 behind next' made)
  install_step (Err fault) made stopped f =
      let most = few shape is_shape root next old ready can.0 can.1 can.2 can.3 can.4 in
      failed_by (λ top found then_found m may. install_breaks shape is_shape root next old ready top found then_found m may new f)
      (stops_program old new f.page (root_bytes shape root) f.failed) stopped (roots_few shape 1 old new ready then_ready (install_number shape root next old new most f)) then_ready
      (program_failed_calls old new f.page (root_bytes shape root) f.failed)
