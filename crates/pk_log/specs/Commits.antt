-- What a commit does to a log and a board, and what every cut of it leaves.
use Rattle.std.specs.Prelude.{◌≡◌, ◌≢◌, ◌⊎◌, ℕ, List, []}
use Rattle.pk_base.{specs.Shape.Shape, specs.Page.Flash, specs.Entry.Entry, specs.Map.Map}
use Rattle.pk_nand.{specs.BoardState.BoardState, specs.Calls.after_programs, specs.Calls.ProgramsFailed}
use Rattle.pk_rootfmt.specs.Root.{Root}
use Rattle.pk_jrn.specs.Appends.{programs_of_commit}
use Rattle.pk_model.{specs.Found.Found, specs.Growth.Reaches, specs.Growth.Goes}
use Rattle.pk_law_steps.{specs.Under.IsUnder, specs.Roots.committed}
use Rattle.pk_log.{specs.State.LogState, specs.State.all_committed, specs.Logs.LogOnFlash}

-- nothing is pending, and nothing is done
pub record CommitsNone (log : LogState) (old : BoardState) (log' : LogState) (new : BoardState) : Type 0 where
  pub none : log.pending ≡ []
  pub kept : log' ≡ log
  pub board : new ≡ old

-- the pending entries are the next commit of the epoch, and none is pending then
pub record CommitsAll (log : LogState) (old : BoardState) (log' : LogState) (new : BoardState) : Type 0 where
  pub some : log.pending ≢ []
  pub taken : log' ≡ all_committed log
  pub board : new ≡ after_programs old (programs_of_commit log.epoch log.pending)

-- one of these programs failed
pub record CommitFailed (log : LogState) (old new : BoardState) : Type 0 where
  pub some : log.pending ≢ []
  pub failed : ProgramsFailed old new (programs_of_commit log.epoch log.pending)

-- the entries are in the newest epoch now
abbrev pub CommitStands : LogState → BoardState → LogState → BoardState → Type 0
CommitStands log old log' new = (top : ℕ × Root) (found : Found) → LogOnFlash log old.pages top found → LogOnFlash log' new.pages top (committed found log.pending)

-- a cut gave nothing out, and holds the map without the entries, or with them in the newest epoch
abbrev pub CommitCut : Shape → ℕ × Root → Found → List Entry → Map → Map → Flash → List ℕ → Type 0
CommitCut shape top found es m0 m1 cut posted = (posted ≡ []) × (IsUnder shape cut [] top found m0 ⊎ IsUnder shape cut [] top (committed found es) m1)

-- the maps of the flash, without the pending entries and with them
pub record Maps (log : LogState) (board : BoardState) (top : ℕ × Root) (found : Found) (m0 m1 : Map) : Type 0 where
  pub logs : LogOnFlash log board.pages top found
  pub without : IsUnder log.shape board.pages [] top found m0
  pub all : IsUnder log.shape board.pages log.pending top found m1

-- the flash holds the map with the entries
abbrev pub CommitHolds : LogState → BoardState → BoardState → Type 0
CommitHolds log old new =
    (top : ℕ × Root) (found : Found) (m0 m1 : Map) → Maps log old top found m0 m1 → IsUnder log.shape new.pages [] top (committed found log.pending) m1

-- every cut between the two boards is one of the commit, and the tree of lists is unchanged
abbrev pub CommitReaches : LogState → BoardState → BoardState → Type 0
CommitReaches log old new =
    (top : ℕ × Root) (found : Found) (m0 m1 : Map) → Maps log old top found m0 m1 → Reaches log.shape old new (CommitCut log.shape top found log.pending m0 m1)

-- the same if the call may have stopped
abbrev pub CommitGoes : LogState → BoardState → BoardState → Type 0
CommitGoes log old new =
    (top : ℕ × Root) (found : Found) (m0 m1 : Map) → Maps log old top found m0 m1 → Goes log.shape old new (CommitCut log.shape top found log.pending m0 m1)
