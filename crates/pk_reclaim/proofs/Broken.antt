-- A step of which the one call failed.
use Rattle.std.proofs.Common.{◌≡◌, inl, ℕ, ◌*◌, ◌<◌, ◌≤◌, refl, sym, subst, ◌∙◌, arith, true, false, List, []}
use Rattle.std.proofs.Math.Nat.{mul-le-mul_right}
use Rattle.pk_base.{specs.Key.Key, specs.Shape.Shape, specs.Shape.epoch_commits, specs.Page.Flash, specs.Page.commit_page, specs.Entry.Entry, specs.Entry.Place, specs.Map.Map}
use Rattle.pk_base.proofs.ShapeLemmas.{block_pages_positive}
use Rattle.pk_nand.{specs.BoardState.BoardState, specs.Calls.IsReady, specs.Calls.ProgramFailed, specs.declared.types.Fault.Fault}
use Rattle.pk_rootfmt.specs.Root.{Root}
use Rattle.pk_pool.{specs.declared.state.BlockState.TheVariants.Free, specs.Blocks.Blocks, specs.Blocks.IsShared, specs.Taking.FailsToErase, proofs.Sharing.behind_roots}
use Rattle.pk_pool.proofs.States.{free_is_not_root}
use Rattle.pk_jrn.{specs.Epochs.left_of, specs.Epochs.next_page, proofs.Appending.commit_left}
use Rattle.pk_model.{specs.Found.Found, specs.Growth.Goes, specs.Crashes.CrashFinds, specs.Crashes.background}
use Rattle.pk_law_steps.specs.Under.{places}
use Rattle.pk_gc.{specs.declared.course.Course.Course, specs.declared.course.Phase.TheVariants.Idle, specs.declared.course.Phase.TheVariants.Copies, specs.declared.moves.Move.Move, specs.State.target}
use Rattle.pk_gc.{specs.Running.IsRunning, specs.Breaking.FailsToCopy}
use Rattle.pk_values.{specs.State.ValuesState, proofs.Unchanged.none_in_spare}
use Rattle.pk_log.specs.State.{LogState}
use Rattle.pk_reclaim.{specs.Space.SpaceOnFlash, specs.Space.MayReclaim, proofs.Owners.spare_aside, proofs.Quiet.IsQuiet, proofs.Quiet.erase_goes, proofs.Quiet.program_goes, proofs.Still.names_of}
use Rattle.pk_reclaim.{proofs.Boards.SameRoots, proofs.Boards.erase_low, proofs.Boards.program_low, proofs.Places.high as pair_high, proofs.Ready.job_in, proofs.Ready.space_in}
use Rattle.pk_reclaim.proofs.Copies.{quiet, in_output}

-- the bytes that were read matter no more than they are held
pub other_page : (shape : Shape) (c : Course) (moves : List Move) (page other : List ℕ) (flash : Flash) (es : List (Key × Place))
    → c.held ≡ false → IsRunning shape c moves page flash es → IsRunning shape c moves other flash es
other_page shape c moves page other flash es free runs = record {
  is_shape = runs.is_shape;
  other = runs.other;
  behind_roots = runs.behind_roots;
  victim_exists = runs.victim_exists;
  output_exists = runs.output_exists;
  within = runs.within;
  room = runs.room;
  even = runs.even;
  free = runs.free;
  written = runs.written;
  unwritten = runs.unwritten;
  wholes = runs.wholes;
  held_is = λ held. absurd (not_both (sym free ∙ held));
  few = runs.few;
  moves_are = runs.moves_are;
  apart = runs.apart;
  order = runs.order;
  covers = runs.covers;
}
  where
    not_both : false ≡ true → ⊥
    not_both e = cc

module _ (log : LogState) (values : ValuesState) (pool : Blocks) (moves : List Move) (entries : List Entry)
    (page : List ℕ) (old new : BoardState) (top : ℕ × Root) (found : Found) (m : Map) (ready : IsReady old log.shape) where
  abbrev shape : Shape
  shape = log.shape

  -- ---- the erase of the output

  module _ (shared : IsShared pool.shape pool.states) (stands : SpaceOnFlash (space_in log values pool moves entries page Idle) old.pages top found m) (f : FailsToErase pool old new) where
    behind : 2 ≤ f.block
    behind = behind_roots pool.shape pool.states f.block Free (λ e. free_is_not_root e) f.lowest.here shared

    erased : IsQuiet log pool old top found m f.block
    erased = record {
      has = ready.shape_is;
      logs = stands.logs;
      under = stands.under;
      names = names_of (space_in log values pool moves entries page Idle) old.pages top found m stands;
      behind = behind;
      aside = spare_aside pool f.block (inl f.lowest.here);
      unread = λ k here. none_in_spare shape values pool [] old.pages (places found []) f.block stands.placed (inl f.lowest.here) k here;
    }

    pub erase_breaks : Goes shape old new (CrashFinds shape background old.pages m)
    erase_breaks = erase_goes erased new f.failed

    pub erase_roots : SameRoots shape old new
    erase_roots = erase_low shape old new f.block ready (block_pages_positive shape stands.logs.is_shape) behind f.failed

  -- ---- the program of a copied page

  module _ (c : Course) (stands : SpaceOnFlash (space_in log values pool moves entries page (Copies c)) old.pages top found m)
      (e : Fault) (f : FailsToCopy c (job_in log moves entries page (Copies c)) old new e) where
    pub copy_breaks : Goes shape old new (CrashFinds shape background old.pages m)
    copy_breaks =
        program_goes (quiet log values pool c moves entries page old new top found m ready stands) (target shape c) page
        (in_output log values pool c moves entries page old new top found m ready stands f.held) new f.failed

    high : 2 * shape.block_pages ≤ target shape c
    high =
        let low = stands.reclaim.stands.runs.behind_roots in
        let more : 2 * shape.block_pages ≤ c.output * shape.block_pages = mul-le-mul_right shape.block_pages low in
        omega (arith, more)

    pub copy_roots : SameRoots shape old new
    copy_roots = program_low shape old new (target shape c) page ready high f.failed

  -- ---- the first program of the moves

  module _ (c : Course) (stands : SpaceOnFlash (space_in log values pool moves entries page (Copies c)) old.pages top found m) (left : 0 < left_of log.epoch) where
    next_high : 2 * shape.block_pages ≤ next_page log.epoch
    next_high =
        let logs = stands.logs in
        let inside : log.epoch.used < epoch_commits shape = subst (λ (s : Shape). log.epoch.used < epoch_commits s) logs.epoch_shape (commit_left log.epoch left) in
        let same : commit_page shape top.1.newest log.epoch.used ≡ next_page log.epoch = λ i. commit_page (sym logs.epoch_shape i) (sym logs.epoch_blocks i) log.epoch.used in
        subst (λ (k : ℕ). 2 * shape.block_pages ≤ k) same (pair_high (space_in log values pool moves entries page (Copies c)) old.pages top found m stands log.epoch.used inside)

    pub commit_roots : (bytes : List ℕ) → ProgramFailed old new (next_page log.epoch) bytes → SameRoots shape old new
    commit_roots bytes failed = program_low shape old new (next_page log.epoch) bytes ready next_high failed

  -- ---- a read

  module _ (c : Course) (other : List ℕ) (may : MayReclaim (space_in log values pool moves entries page (Copies c)) old.pages top found m) (free : c.held ≡ false) (same : new.pages ≡ old.pages) where
    pub read_again : MayReclaim (space_in log values pool moves entries other (Copies c)) new.pages top found m
    read_again =
        let s = may.stands in
        let P : Flash → Type 0 = λ g. MayReclaim (space_in log values pool moves entries other (Copies c)) g top found m in
        subst P (sym same) (record {
          stands = record {
            logs = s.logs;
            none_pending = s.none_pending;
            under = s.under;
            placed = s.placed;
            reclaim = record {
              shape_is = refl;
              stands = record { runs = other_page shape c moves page other old.pages (places found []) free s.reclaim.stands.runs; sparse = s.reclaim.stands.sparse; closed = s.reclaim.stands.closed };
              full = s.reclaim.full;
            };
            half = s.half;
            journal = s.journal;
            runs = s.runs;
            none_leaves = s.none_leaves;
          };
          turn = may.turn;
        })
