-- The install of a merge over a log, and the second program of a root.
use Rattle.std.proofs.Common.{◌≡◌, ℕ, ◌*◌, ◌≤◌, refl, sym, ap, subst, ◌∙◌, arith, Bool, true, false, List, [], length, slice_index, ◌==◌, if◌then◌else◌, mul-le-mul_right}
use Rattle.pk_base.{specs.Shape.Shape, specs.Page.Flash, specs.Page.page_at, specs.Page.SameBehind, specs.Entry.Entry, specs.Map.Map}
use Rattle.pk_nand.specs.BoardState.{BoardState}
use Rattle.pk_space.specs.Entries.{in_spaces}
use Rattle.pk_rootfmt.specs.Root.{Root}
use Rattle.pk_root.specs.declared.next.Next.{Next}
use Rattle.pk_buf.specs.Table.{Table}
use Rattle.pk_jrn.{specs.Epochs.EpochOnFlash, specs.Replays.buffer_of}
use Rattle.pk_model.{specs.Found.Found, specs.RootLimits.root_spaces, proofs.RootLimits.limits_alike, proofs.Commits.blocks_of_root}
use Rattle.pk_law_steps.proofs.NewestBlocks.{valid_root}
use Rattle.pk_compact.{specs.Installing.CanPrepare, specs.Installing.IsPrepared, specs.Installing.CanRepeat, specs.Installing.IsRepeated, specs.Merging.CanMerge, specs.Merging.HasMerged}
use Rattle.pk_log.{specs.State.LogState, specs.Logs.LogOnFlash, specs.Finishing.MayFinish, specs.Finishing.LogFinished, proofs.Standing.epoch_stays, proofs.Standing.stands_on}
use Rattle.pk_log.specs.MergeSteps.{MayPrepare, LogPrepared, MayMerge, LogMerged, frozen_after}

-- the epoch that a log writes is not in the root blocks
epoch_behind : (log : LogState) (old new : Flash) (top : ℕ × Root) (found : Found) → LogOnFlash log old top found → SameBehind log.shape old new → EpochOnFlash log.epoch new
epoch_behind log old new top found logs behind =
    let blocks = blocks_of_root log.shape top.1 (valid_root log.shape (page_at old) top logs.is_top) in
    epoch_stays log old new top found logs (λ n small k low high. behind k
    (let twice : 2 * log.shape.block_pages ≤ slice_index top.1.newest n * log.shape.block_pages = mul-le-mul_right log.shape.block_pages (blocks.beyond n small) in omega (arith, twice, low)))

-- ---- the erase

pub can_prepare : (log : LogState) (flash : Flash) (top : ℕ × Root) (found : Found) (m : Map) → MayPrepare log flash top found m → CanPrepare log.shape log.next flash top found m
can_prepare log flash top found m may = record { installs = may.logs.installs; under = may.under }

pub log_prepared : (log : LogState) (old new : BoardState) (top : ℕ × Root) (found : Found) (m : Map) (next' : Next)
    → MayPrepare log old.pages top found m → IsPrepared log.shape old top found m next' new
    → LogPrepared log old top found m (record log { next = next' }) new
log_prepared log old new top found m next' may is = search (stands_on, epoch_behind, may.logs, old.pages, new.pages, is.under.is_top, is.under.is_found, is.installs)

-- ---- the first program

-- a root that keeps the limits has the same namespaces
spaced_alike : (shape : Shape) (old new : Root) (es : List Entry) → new.limits ≡ old.limits → in_spaces (root_spaces shape old) es ≡ true → in_spaces (root_spaces shape new) es ≡ true
spaced_alike shape old new es same all = ap (λ (limits : List ℕ). in_spaces (length limits) es) (limits_alike shape old new same) ∙ all

pub can_merge : (log : LogState) (flash : Flash) (top : ℕ × Root) (found : Found) (m : Map) (level count : ℕ) (taken : List ℕ) → MayMerge log flash top found m level count taken
    → CanMerge (record { shape = log.shape; root = log.root }) log.next flash top found m level count taken
can_merge log flash top found m level count taken may = search

-- the frozen buffer holds what remains of the older epoch
emptied : (one : Bool) (shape : Shape) (frozen : Table) (older : List Entry) → frozen ≡ buffer_of shape older
    → (if one then record frozen { entries = [] } else frozen) ≡ buffer_of shape (if one then [] else older)
emptied true shape frozen older is = ap (λ (t : Table). record t { entries = [] }) is
emptied false shape frozen older is = is

pub log_merged : (log : LogState) (old new : BoardState) (top : ℕ × Root) (found : Found) (m : Map) (level count : ℕ) (taken : List ℕ) (root' : Root) (next' : Next) (frozen' : Table) (log' : LogState)
    → MayMerge log old.pages top found m level count taken → HasMerged log.shape old top found m level count taken root' next' new → frozen' ≡ frozen_after level log.frozen
    → log' ≡ record log { root = root'; next = next'; frozen = frozen' } → LogMerged log old top found m level count taken log' new
log_merged log old new top found m level count taken root' next' frozen' log' may is emptied_is log_is =
    let logs = may.logs in
    let there : LogMerged log old top found m level count taken (record log { root = root'; next = next'; frozen = frozen' }) new = record {
      page = is.page;
      merged_is = (λ i. record log { root = is.root_is i; next = next'; frozen = emptied_is i });
      logs = search (
        logs.epoch_number ∙ sym (ap (λ (r : Root). r.epoch) is.root_is),
        logs.epoch_blocks ∙ sym (ap (λ (r : Root). r.newest) is.root_is),
        epoch_behind log old.pages new.pages top found logs is.behind,
        emptied_is ∙ emptied (level == 1) log.shape log.frozen found.older logs.frozen_is,
        spaced_alike log.shape top.1 root' log.pending (ap (λ (r : Root). r.limits) is.root_is) logs.spaced,
      );
      under = is.under;
      half = is.half;
      number = is.number;
      behind = is.behind;
      cuts = is.cuts;
    } in
    let P : LogState → Type 0 = λ l. LogMerged log old top found m level count taken l new in
    subst P (sym log_is) there

-- ---- the second program

pub can_repeat : (log : LogState) (flash : Flash) (top : ℕ × Root) (found : Found) (m : Map) → MayFinish log flash top found m → CanRepeat log.shape log.root log.next flash top found m
can_repeat log flash top found m may = record { installs = may.logs.installs; top_is = sym may.logs.root_is; under = may.under; half = may.half }

pub log_finished : (log : LogState) (old new : BoardState) (top : ℕ × Root) (found : Found) (m : Map) (next' : Next)
    → MayFinish log old.pages top found m → IsRepeated log.shape old top found m next' new
    → LogFinished log old top found m (record log { next = next' }) new
log_finished log old new top found m next' may is = search (stands_on, epoch_behind, may.logs, old.pages, new.pages, is.under.is_top, is.under.is_found, is.installs)
