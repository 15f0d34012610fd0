-- A command that is refused by the checks that read it alone.
use Rattle.std.proofs.Common.{◌≡◌, ◌≤◌, inl, ℕ, length, refl, sym, ap, subst, ◌∙◌, arith, false, List, [], Some}
use Rattle.pk_base.specs.declared.sizes.TheConstants.{MOST_SPACES}
use Rattle.pk_nvme.{specs.Command.Command, specs.Reply.refusal, specs.Opcode.op_of, specs.Seen.command_of, specs.declared.opcode.Opcode.Opcode, specs.declared.request.Request.Request}
use Rattle.pk_nand.{specs.BoardState.BoardState, specs.BoardState.shape_of as shape_told, specs.BoardState.shape_or_none, specs.Calls.last_count}
use Rattle.pk_model.{specs.Answer.early, proofs.Answering.refuses_early, proofs.Answering.NamesSpace, proofs.Answering.key_spaced}
use Rattle.pk_call.{specs.Seen.reply_of, specs.declared.types.Outcome.Outcome}
use Rattle.pk_parts.{specs.Parts.Parts, specs.Parts.drive_limits, specs.Parts.sight_of, specs.Parts.terms_of, specs.Agreeing.DriveOnFlash}
use Rattle.pk_core.{specs.Done.Does, specs.Quiet.eleven, specs.Serving.IsServable, proofs.Statuses.early_refuses, proofs.Unchanging.does_none}

-- a command that is served names a namespace that there may be
pub request_space : (d : Parts) (board : BoardState) (r : Request) (k : Opcode) → NamesSpace k → op_of r.opcode ≡ Some k → IsServable d board r → (1 ≤ r.namespace) × (r.namespace ≤ MOST_SPACES)
request_space d board r k names is s =
    let spaced = key_spaced (length (drive_limits d)) d.log.shape (command_of r []) k names is s.passed in
    (spaced.some, omega (arith, spaced.most, s.few_spaces))

-- the board has the drive's shape
pub told_shape : (d : Parts) (board : BoardState) → DriveOnFlash d board.shape board.pages → shape_told board ≡ d.log.shape
told_shape d board agrees = ap shape_or_none agrees.told_is ∙ sym agrees.with.shape_is

-- a command that is refused so does nothing
pub refused_done : (d : Parts) (board : BoardState) (c : Command) (status : ℕ) (a : DriveOnFlash d board.shape board.pages) → early (length (drive_limits d)) d.log.shape c ≡ Some status
    → (o : Outcome) (into : List ℕ) → board.reads ≤ last_count → o ≡ record { status = status; result = 0; data_len = 0; reads = 0; stopped = false }
    → Does board board (sight_of d) (sight_of d) c (reply_of o into) o.reads o.stopped
refused_done d board c status a refused o into few told =
    let s = refuses_early d.log.shape (terms_of d) a.all eleven c status refused in
    subst (λ (x : Outcome). Does board board (sight_of d) (sight_of d) c (reply_of x into) x.reads x.stopped) (sym told)
    (does_none d board a c (refusal status) few (early_refuses (length (drive_limits d)) d.log.shape c status refused).1
    (inl (record { own = eleven; eleven = refl; replied = sym s.replied; leaves = sym s.leaves })))
