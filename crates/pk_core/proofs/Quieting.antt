-- A Store and a Delete that wait for nothing, as the contract of a drive has them.
use Rattle.std.proofs.Common.{◌≡◌, ℕ, ◌+◌, ◌-◌, ◌≤◌, sym, ap, subst, ◌∙◌, List, true}
use Rattle.pk_base.specs.Shape.{charge, pinned}
use Rattle.pk_nvme.{specs.Command.key, specs.Seen.command_of, specs.declared.request.Request.Request}
use Rattle.pk_nand.specs.BoardState.{BoardState, shape_or_none}
use Rattle.pk_pool.specs.Blocks.{freed}
use Rattle.pk_values.specs.State.{fits_open}
use Rattle.pk_call.{specs.Moving.IsQuiet, specs.Moving.HasOpenRoom, specs.Moving.Quietly, specs.Moving.commits_for, specs.declared.types.Outcome.Outcome}
use Rattle.pk_parts.{specs.Parts.Parts, specs.Parts.sight_of, specs.Parts.frames_of, specs.Agreeing.DriveOnFlash}
use Rattle.pk_core.{specs.Programming.QuietStore, specs.Programming.QuietDelete, proofs.Noted.left_is, proofs.Programming.quiet_needs_none}
use Rattle.pk_changes.specs.Programming.{Programs}

module _ (d : Parts) (old new : BoardState) (a : DriveOnFlash d old.shape old.pages) (r : Request) (v : List ℕ) (o : Outcome) where
  -- the shape of the board is the drive's
  told : shape_or_none old.shape ≡ a.shape
  told = ap shape_or_none a.told_is

  reads_few : o.reads ≤ 4 - d.levels.pinned → o.reads ≤ 4 - pinned a.shape (frames_of d)
  reads_few few = subst (λ p. o.reads ≤ 4 - p) (a.with.index.levels_pinned ∙ ap (λ s. pinned s (frames_of d)) a.with.shape_is) few

  quietly : (count : ℕ) → Programs count old new → o.reads ≤ 4 - d.levels.pinned → Quietly a.shape old new (frames_of d) o.reads count
  quietly count made few = record { programs_are = made.programs; no_erase = made.erases; few_reads = reads_few few }

  pub quietly_stores : QuietStore d old new r v o → o.status ≡ 0 → IsQuiet (shape_or_none old.shape) old.pages (sight_of d) (key (command_of r v))
      → HasOpenRoom (shape_or_none old.shape) old.pages (sight_of d) (charge (shape_or_none old.shape) r.size)
      → Quietly (shape_or_none old.shape) old new (frames_of d) o.reads (charge (shape_or_none old.shape) r.size + commits_for (shape_or_none old.shape) (sight_of d))
  quietly_stores does zero quiet room =
      let its_quiet = subst (λ s. IsQuiet s old.pages (sight_of d) (key (command_of r v))) told quiet in
      let its_room = subst (λ s. HasOpenRoom s old.pages (sight_of d) (charge s r.size)) told room in
      let none = quiet_needs_none d a.shape old.pages a.top a.found a.without a.all a.with (key (command_of r v)) its_quiet in
      let left : fits_open a.shape d.values (charge a.shape r.size) ≡ true = left_is a.shape
      (freed d.pool) old.pages d.values.open_block its_room.0 (charge a.shape r.size) a.with.placed.open_is its_room.1 its_room.2 in
      let made = does zero its_quiet.whole none (subst (λ s. fits_open s d.values (charge s r.size) ≡ true) (sym a.with.shape_is) left) in
      subst (λ s. Quietly s old new (frames_of d) o.reads (charge s r.size + commits_for s (sight_of d))) (sym told)
      (quietly (charge a.shape r.size + commits_for a.shape (sight_of d)) (subst (λ s. Programs (charge s r.size + commits_for s (sight_of d)) old new) a.with.shape_is made.0) made.1)

  pub quietly_deletes : QuietDelete d old new r o → o.status ≡ 0 → IsQuiet (shape_or_none old.shape) old.pages (sight_of d) (key (command_of r v))
      → Quietly (shape_or_none old.shape) old new (frames_of d) o.reads (commits_for (shape_or_none old.shape) (sight_of d))
  quietly_deletes does zero quiet =
      let its_quiet = subst (λ s. IsQuiet s old.pages (sight_of d) (key (command_of r v))) told quiet in
      let none = quiet_needs_none d a.shape old.pages a.top a.found a.without a.all a.with (key (command_of r v)) its_quiet in
      let made = does zero its_quiet.whole none in
      subst (λ s. Quietly s old new (frames_of d) o.reads (commits_for s (sight_of d))) (sym told)
      (quietly (commits_for a.shape (sight_of d)) (subst (λ s. Programs (commits_for s (sight_of d)) old new) a.with.shape_is made.0) made.1)
