-- A drive that is whole, and one of which a pair is half made.
use Rattle.std.proofs.Common.{◌≡◌, ◌⊎◌, inl, inr, ℕ, Bool, true, false, ◌||◌, [], sym, ap, subst, ◌∙◌, Err}
use Rattle.std.{specs.Prelude.IsOk, proofs.lemmas.Bool.or_parts}
use Rattle.pk_base.{specs.Shape.Shape, specs.Page.Flash, specs.Map.Map, proofs.Logic.not_both}
use Rattle.pk_plan.specs.declared.owner.Owner.TheVariants.{Values}
use Rattle.pk_pool.{specs.Blocks.Blocks, specs.Blocks.NoneLeaves, specs.Blocks.used_by, specs.Blocks.freed, proofs.Leaving.freed_same}
use Rattle.pk_rootfmt.specs.Root.{Root}
use Rattle.pk_root.specs.Installing.{repeats_next}
use Rattle.pk_nand.{specs.declared.types.Fault.Fault, specs.BoardState.BoardState}
use Rattle.pk_model.specs.Found.{Found}
use Rattle.pk_gc.{specs.declared.course.Phase.Phase, specs.declared.course.Phase.TheVariants.Commits}
use Rattle.pk_reclaim.specs.Space.{ReclaimParts, HalfIn}
use Rattle.pk_schedule.specs.Index.{Index, IsSettled, HalfStands}
use Rattle.pk_parts.specs.Parts.{Parts, index_of, settled_parts, commits_in, is_half}
use Rattle.pk_parts.specs.Agreeing.{DriveOnFlashWith, IsWhole, IsHalfRoot, IsHalfCommit, IsHalfAtMost}
use Rattle.pk_parts.specs.Moves.{StandsFor, StandsBetween, MayStep, MayCommit}

-- what failed did not end
pub not_made : (f : Fault) → IsOk {T = Unit {0}} (Err f) → ⊥
not_made f e = cc

-- ---- if no block leaves, nothing differs

pub pool_same : (d : Parts) → IsSettled (index_of d) → freed d.pool ≡ d.pool
pool_same d settles = freed_same d.pool settles.none_leaves

pub parts_same : (d : Parts) → IsSettled (index_of d) → settled_parts d ≡ d
parts_same d settles = λ i. record d { pool = pool_same d settles i }

pub with_whole : (d : Parts) (shape : Shape) (flash : Flash) (top : ℕ × Root) (found : Found) (without all : Map)
    → IsSettled (index_of d) → DriveOnFlashWith (settled_parts d) shape flash top found without all
    → DriveOnFlashWith d shape flash top found without all
with_whole d shape flash top found without all settles with = subst (λ (p : Parts). DriveOnFlashWith p shape flash top found without all) (parts_same d settles) with

pub with_settled : (d : Parts) (shape : Shape) (flash : Flash) (top : ℕ × Root) (found : Found) (without all : Map) → IsSettled (index_of d) → DriveOnFlashWith d shape flash top found without all
    → DriveOnFlashWith (settled_parts d) shape flash top found without all
with_settled d shape flash top found without all settles with = subst (λ (p : Parts). DriveOnFlashWith p shape flash top found without all) (sym (parts_same d settles)) with

-- ---- which pair is half made

or_then : (a b : Bool) → (a || b) ≡ true → a ≡ false → b ≡ true
or_then false b e none = e
or_then true b e none = cc

-- no pair of a root is half made, and no commit of moves
pub root_whole : (d : Parts) → is_half d ≡ false → repeats_next d.log.next ≡ false
root_whole d whole = (or_parts (repeats_next d.log.next) (commits_in d.reclaim.phase) whole).0

pub moves_whole : (d : Parts) → is_half d ≡ false → commits_in d.reclaim.phase ≡ false
moves_whole d whole = (or_parts (repeats_next d.log.next) (commits_in d.reclaim.phase) whole).1

-- if the root's is not, the commit is
pub commit_half : (d : Parts) → is_half d ≡ true → repeats_next d.log.next ≡ false → commits_in d.reclaim.phase ≡ true
commit_half d half whole = or_then (repeats_next d.log.next) (commits_in d.reclaim.phase) half whole

pub is_whole : (d : Parts) → IsWhole d → is_half d ≡ false
is_whole d whole = ap (λ (a : Bool). a || commits_in d.reclaim.phase) whole.settles.whole ∙ whole.moves

module _ (d : Parts) (flash : Flash) (top : ℕ × Root) (found : Found) (m : Map) where
  root_repeats : IsHalfRoot d flash m → repeats_next d.log.next ≡ true
  root_repeats half = ap repeats_next half.index.half.again

  commit_is : IsHalfCommit d flash top found m → commits_in d.reclaim.phase ≡ true
  commit_is half = ap commits_in half.phase

  pub whole_of : IsHalfAtMost d flash top found m → is_half d ≡ false → IsWhole d
  whole_of (inl whole) none = whole
  whole_of (inr (inl root)) none = absurd (not_both (repeats_next d.log.next) (root_repeats root) (root_whole d none))
  whole_of (inr (inr commit)) none = absurd (not_both (commits_in d.reclaim.phase) (commit_is commit) (moves_whole d none))

  pub root_of : IsHalfAtMost d flash top found m → repeats_next d.log.next ≡ true → IsHalfRoot d flash m
  root_of (inl whole) half = absurd (not_both (repeats_next d.log.next) half whole.settles.whole)
  root_of (inr (inl root)) half = root
  root_of (inr (inr commit)) half = absurd (not_both (repeats_next d.log.next) half commit.settles.whole)

  pub commit_of : IsHalfAtMost d flash top found m → commits_in d.reclaim.phase ≡ true → IsHalfCommit d flash top found m
  commit_of (inl whole) half = absurd (not_both (commits_in d.reclaim.phase) half whole.moves)
  commit_of (inr (inl root)) half = absurd (not_both (commits_in d.reclaim.phase) half root.moves)
  commit_of (inr (inr commit)) half = commit

  -- nothing is pending while one is
  pub none_half : IsHalfAtMost d flash top found m → is_half d ≡ true → d.log.pending ≡ []
  none_half (inl whole) half = absurd (not_both (is_half d) half (is_whole d whole))
  none_half (inr (inl root)) half = root.none_pending
  none_half (inr (inr commit)) half = commit.none_pending

  -- no block for values leaves
  pub counted_of : IsHalfAtMost d flash top found m → used_by Values d.pool.states ≡ used_by Values (freed d.pool).states
  counted_of (inl whole) = ap (λ (p : Blocks). used_by Values p.states) (sym (pool_same d whole.settles))
  counted_of (inr (inl root)) = root.index.counted
  counted_of (inr (inr commit)) = ap (λ (p : Blocks). used_by Values p.states) (sym (pool_same d commit.settles))

-- the same of an index
pub counted_index : (x : Index) (flash : Flash) (m : Map) → IsSettled x ⊎ HalfStands x flash m → used_by Values x.pool.states ≡ used_by Values (freed x.pool).states
counted_index x flash m (inl settles) = ap (λ (p : Blocks). used_by Values p.states) (sym (freed_same x.pool settles.none_leaves))
counted_index x flash m (inr half) = half.counted

-- a drive remains whole if its installer, its blocks, its reclaim and its epoch are as far
pub whole_like : (d e : Parts) → repeats_next e.log.next ≡ repeats_next d.log.next → (NoneLeaves d.pool → NoneLeaves e.pool)
    → e.reclaim.phase ≡ d.reclaim.phase → e.log.epoch.half ≡ d.log.epoch.half → IsWhole d → IsWhole e
whole_like d e next pool phase epoch whole = record {
  settles = record { whole = next ∙ whole.settles.whole; none_leaves = pool whole.settles.none_leaves };
  moves = ap commits_in phase ∙ whole.moves;
  epoch = epoch ∙ whole.epoch;
}

-- ---- the relations

pub between : (d : Parts) (shape : Shape) (flash : Flash) (m : Map) → StandsFor d shape flash m → StandsBetween d shape flash m
between d shape flash m s = record {
  top = s.top;
  found = s.found;
  without = s.without;
  with = with_settled d shape flash s.top s.found s.without m s.whole.settles s.with;
  course = inl s.whole;
}

pub whole_between : (d : Parts) (shape : Shape) (flash : Flash) (m : Map) → IsWhole d → StandsBetween d shape flash m → StandsFor d shape flash m
whole_between d shape flash m whole s = record {
  top = s.top;
  found = s.found;
  without = s.without;
  with = with_whole d shape flash s.top s.found s.without m whole.settles s.with;
  whole = whole;
}

pub stands : (d : Parts) (shape : Shape) (flash : Flash) (m : Map) → StandsBetween d shape flash m → is_half d ≡ false → StandsFor d shape flash m
stands d shape flash m s none = whole_between d shape flash m (whole_of d flash s.top s.found s.without s.course none) s

pub may_commit : (d : Parts) (board : BoardState) → MayStep d board → MayCommit d board
may_commit d board may = record { ready = may.ready; stands = (may.stands.0, between d d.log.shape board.pages may.stands.0 may.stands.1) }

-- ---- the reclaim of a drive that is whole

pub half_in : (p : Phase) (x : ReclaimParts) (flash : Flash) (top : ℕ × Root) (found : Found) (m : Map) → commits_in p ≡ false → x.log.epoch.half ≡ false → HalfIn p x flash top found m
half_in (Commits victim) x flash top found m moves epoch = absurd cc
half_in p x flash top found m moves epoch = epoch
