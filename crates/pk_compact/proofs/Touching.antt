-- Calls that touch no page that is read.
use Rattle.std.proofs.Common.{◌≡◌, inr, ℕ, ◌/◌, List, [], Some, ap}
use Rattle.pk_base.{specs.Shape.Shape, specs.Shape.IsShape, specs.Page.Flash, specs.Map.Map, specs.Mark.program}
use Rattle.pk_nand.{specs.BoardState.BoardState, specs.Cut.Interrupted, specs.Calls.IsReady, specs.Calls.after_program, specs.Calls.ProgramFailed}
use Rattle.pk_nand.{proofs.Touching.elsewhere, proofs.Writing.shape_is}
use Rattle.pk_rootfmt.specs.Root.{Root}
use Rattle.pk_model.{specs.Found.Found, specs.Growth.Goes, specs.Crashes.CrashFinds, specs.Crashes.background}
use Rattle.pk_model.proofs.Running.{Reaches-program, Goes-program}
use Rattle.pk_law_steps.{specs.Under.IsUnder, proofs.Untouched.erases}
use Rattle.pk_compact.{specs.Laws.IsUnread, specs.Laws.CallLeaves, specs.Laws.ProgramUnread, specs.Laws.EraseUnread, proofs.Taking.IsBesideRead, proofs.Taking.beside_read, proofs.Taking.take_reaches, proofs.Taking.take_under, proofs.Taking.take_goes}

module _ (shape : Shape) (old : BoardState) (top : ℕ × Root) (found : Found) (m : Map) (block page : ℕ) (bytes : List ℕ)
    (is_shape : IsShape shape) (ready : IsReady old shape) (under : IsUnder shape old.pages [] top found m)
    (is : IsUnread shape top.1 found block) (within : page / shape.block_pages ≡ block) where
  still_under : (f : Flash) → Interrupted shape (program page bytes) old.pages f [] → IsUnder shape f [] top found m
  still_under f cut = erases shape old.pages f [] top found m block is_shape under is.least is.unnamed is.no_value
      (λ k other. elsewhere shape (program page bytes) k block _ _ (ap (λ (b : ℕ). Some b) within) other (cut.pages k))

  its : IsBesideRead shape (program page bytes) old top found m
  its = beside_read shape (program page bytes) old top found m ready under still_under

  program_leaves : (new : BoardState) → new ≡ after_program old page bytes → CallLeaves shape old top found m new
  program_leaves new made = record {
    under = its.under_after new (ap (λ (s : BoardState). s.pages) made);
    cuts = Reaches-program shape old (CrashFinds shape background old.pages m) ready.shape_is page bytes its.holds its.grows its.limited new made;
  }

  program_goes : (new : BoardState) → ProgramFailed old new page bytes → Goes shape old new (CrashFinds shape background old.pages m)
  program_goes new failed = Goes-program shape old (CrashFinds shape background old.pages m) ready.shape_is page bytes its.holds its.grows its.limited new failed

pub program_unread : ProgramUnread
program_unread shape old new top found m block page bytes is_shape ready under is within = (
  program_leaves shape old top found m block page bytes is_shape ready under is within new,
  program_goes shape old top found m block page bytes is_shape ready under is within new,
)

pub erase_unread : EraseUnread
erase_unread shape old new top found m block is_shape ready under is = (
  λ made. record {
    under = take_under shape is_shape top found m block is.least is.unnamed is.no_value old ready under new (inr made);
    cuts = take_reaches shape is_shape top found m block is.least is.unnamed is.no_value old ready under new (inr made);
  },
  take_goes shape is_shape top found m block is.least is.unnamed is.no_value old ready under new,
)
