-- What a lookup reads.
use Rattle.std.proofs.Common.{◌≡◌, ℕ, zero, suc, ◌+◌, ◌<◌, ◌≤◌, refl, sym, ap, subst, ◌∙◌, arith, min, List, Option, Some, Ok, Result}
use Rattle.std.specs.Prelude.{OnOk, OnErr, Err}
use Rattle.pk_base.{specs.Key.Key, specs.Shape.Shape, specs.Page.IsFlash, specs.Entry.Place, specs.Map.Map, proofs.Logic.some_same}
use Rattle.pk_nand.{specs.BoardState.BoardState, specs.Calls.Rose, specs.Calls.counted, specs.Calls.last_count, specs.Calls.IsReady, specs.Operations.ReadFailed}
use Rattle.pk_nand.specs.Counts.{counted_by, after_reads}
use Rattle.pk_level.specs.Levels.{ReadsUpTo, ReadFailsWithin}
use Rattle.pk_model.{specs.Laws.IsHeldMap, specs.Spaces.Terms, specs.Spaces.limits_at, specs.Reading.reading, proofs.HeldMap.map_held}
use Rattle.pk_law_steps.proofs.Untouched.{under_reads}
use Rattle.pk_call.specs.Drive.{HoldsMap}
use Rattle.pk_parts.{specs.Parts.Parts, specs.Parts.sight_of, specs.Parts.drive_limits, specs.Parts.terms_of, specs.Parts.settled_parts, specs.Finding.IsPlaceIn, proofs.Halves.with_whole}
use Rattle.pk_parts.{specs.Agreeing.DriveOnFlashWith, specs.Agreeing.DriveOnFlash, specs.Agreeing.IsWhole, specs.Quiet.ReadsOnly, specs.Quiet.ReadsFailing, specs.Quiet.Looks}
use Rattle.pk_parts.proofs.OwnLimits.{limits_on}

-- ---- the board

pub counted_by-min : (k n : ℕ) → n ≤ last_count → counted_by k n ≡ min (n + k) last_count
counted_by-min zero n few = omega (arith, few)
counted_by-min (suc k) n few = ap counted (counted_by-min k n few) ∙ omega (arith, few)

pub reads_none : (old : BoardState) → old.reads ≤ last_count → ReadsOnly old old 0
reads_none old few = record { board = refl; few = few; up = omega arith; within = omega arith }

-- some more reads
pub reads_more : (old mid new : BoardState) (most k : ℕ) → ReadsOnly old mid most → new ≡ after_reads k mid → ReadsOnly old new (most + k)
reads_more old mid new most k before made =
    let few' = before.few in
    let count : new.reads ≡ min (mid.reads + k) last_count = ap (λ b. b.reads) made ∙ counted_by-min k mid.reads few' in
    let T : BoardState → Type 0 = λ b. record b { reads = new.reads } ≡ record old { reads = new.reads } in
    let same : record mid { reads = new.reads } ≡ record old { reads = new.reads } = subst T (sym before.board) refl in
    let U : ℕ → Type 0 = λ n. new ≡ record mid { reads = n } in
    let whole : new ≡ record mid { reads = new.reads } = subst U (sym (ap (λ b. b.reads) made)) made in
    let up = before.up in
    let within = before.within in
    record { board = whole ∙ same; few = omega (arith, count); up = omega (arith, count, up, few'); within = omega (arith, count, within) }

-- a read after some more fails
pub reads_break : (old mid new : BoardState) (most k n at : ℕ) → ReadsOnly old mid most → k < n → ReadFailed (after_reads k mid) new at → ReadsFailing old new (most + n)
reads_break old mid new most k n at before less failed =
    let few' = before.few in
    let count : new.reads ≡ min (mid.reads + suc k) last_count = ap (λ b. b.reads) failed.rest ∙ counted_by-min (suc k) mid.reads few' in
    let up = before.up in
    let within = before.within in
    let S : BoardState → Type 0 = λ b. new ≡ record b { reads = new.reads; flash_faults = new.flash_faults; read_faults = new.read_faults; failed_at = new.failed_at } in
    let behind : S mid = broken mid new k at failed in
    let base : S (record old { reads = mid.reads }) = subst S before.board behind in
    let same_faults : mid.read_faults ≡ old.read_faults = ap (λ b. b.read_faults) before.board in
    let same_flash : mid.flash_faults ≡ old.flash_faults = ap (λ b. b.flash_faults) before.board in
    record {
      board = base;
      few = omega (arith, count);
      up = omega (arith, count, up, few');
      within = omega (arith, count, within, less);
      rose = subst (λ f. Rose f new.read_faults) same_faults failed.read;
      flash = subst (λ f. Rose f new.flash_faults) same_flash failed.flash;
    }
  where
    broken : (mid new : BoardState) (k at : ℕ) → ReadFailed (after_reads k mid) new at
        → new ≡ record mid { reads = new.reads; flash_faults = new.flash_faults; read_faults = new.read_faults; failed_at = new.failed_at }
    broken mid new k at failed =
        failed.rest
        ∙ (λ i. record mid { reads = ap (λ b. b.reads) (sym failed.rest) i; flash_faults = new.flash_faults; read_faults = new.read_faults; failed_at = ap (λ b. b.failed_at) (sym failed.rest) i })

-- ---- the map of a drive

pub same_ok : {E : Type 0} (x y : Map) → ◌≡◌ {A = Result Map E} (Ok x) (Ok y) → x ≡ y
same_ok x y e = cc

module _ (d : Parts) (board : BoardState) (a : DriveOnFlash d board.shape board.pages) where
  -- on its own shape, as if the blocks that leave were free
  pub own : DriveOnFlashWith (settled_parts d) d.log.shape board.pages a.top a.found a.without a.all
  own = subst (λ s. DriveOnFlashWith (settled_parts d) s board.pages a.top a.found a.without a.all) (sym a.with.shape_is) a.with

  -- as it is, if no pair is half made
  pub own_whole : IsWhole d → DriveOnFlashWith d d.log.shape board.pages a.top a.found a.without a.all
  own_whole whole = with_whole d d.log.shape board.pages a.top a.found a.without a.all whole.settles own

  -- what holds of its one map holds of every map that it represents
  pub for_its_map : (P : Shape → Terms → Map → Type 0) → P d.log.shape (terms_of d) a.all → (shape : Shape) (terms : Terms) (m : Map) → HoldsMap shape terms board (sight_of d) m → P shape terms m
  for_its_map P here shape terms m st =
      let same_shape : d.log.shape ≡ shape = a.with.shape_is ∙ some_same a.shape shape (sym a.told_is ∙ st.shape_is) in
      let read = under_reads d.log.shape board.pages d.log.pending a.top a.found a.all own.pending in
      let same_limits : drive_limits d ≡ terms.limits = sym (limits_on d board.shape board.pages a) ∙ ap (λ (s : Shape). limits_at s board.pages) same_shape ∙ st.limits_is in
      let same_terms : terms_of d ≡ terms = λ i. record { frames = st.frames_is i; limits = same_limits i } in
      let Q : Shape → Type 0 = λ s. P s terms m in
      let R : Terms → Type 0 = λ t. P d.log.shape t m in
      let S : Map → Type 0 = λ x. P d.log.shape (terms_of d) x in
      let U : Shape → Type 0 = λ s. reading s board.pages d.log.pending ≡ Ok m in
      let same_map : a.all ≡ m = same_ok a.all m (sym read ∙ subst U (sym same_shape) st.map_is) in
      subst Q same_shape (subst R same_terms (subst S same_map here))

  -- its map is one that a flash holds within its limits
  pub held_own : IsHeldMap d.log.shape (drive_limits d) a.all
  held_own =
      subst (λ (limits : List ℕ). IsHeldMap d.log.shape limits a.all) (limits_on d board.shape board.pages a)
      (map_held d.log.shape board.pages d.log.pending a.all own.index.logs.is_shape own.is_flash own.index.logs.pending_are
      (under_reads d.log.shape board.pages d.log.pending a.top a.found a.all own.pending))

  -- what a lookup says of this map
  pub looked : (k : Key) (p : Option Place) → Looks d board.pages k p → IsPlaceIn d.log.shape board.pages a.found d.log.pending a.all k p
  looked k p looks = looks a.top a.found a.all own.index.logs own.index.stand own.pending

-- ---- what a lookup read

less_reads : (old new : BoardState) (n k : ℕ) → n ≤ k → ReadsOnly old new n → ReadsOnly old new k
less_reads old new n k less r = record { board = r.board; few = r.few; up = r.up; within = (let w = r.within in omega (arith, less, w)) }

less_failing : (old new : BoardState) (n k : ℕ) → n ≤ k → ReadsFailing old new n → ReadsFailing old new k
less_failing old new n k less r = record { board = r.board; few = r.few; up = r.up; within = (let w = r.within in omega (arith, less, w)); rose = r.rose; flash = r.flash }

pub looked_reads : {X Y : Type 0} (r : Result X Y) (old new : BoardState) (n most : ℕ) → old.reads ≤ last_count → n ≤ most → OnOk r (ReadsUpTo n old new) → OnOk r (ReadsOnly old new most)
looked_reads (Ok x) old new n most few least (k, within, made) = less_reads old new (0 + k) most (omega (arith, within, least)) (reads_more old old new 0 k (reads_none old few) made)
looked_reads (Err y) old new n most few least made = tt

pub looked_failing : {X Y : Type 0} (r : Result X Y) (old new : BoardState) (n most : ℕ) → old.reads ≤ last_count
    → n ≤ most → OnErr r (ReadFailsWithin n old new) → OnErr r (ReadsFailing old new most)
looked_failing (Ok x) old new n most few least made = tt
looked_failing (Err y) old new n most few least (k, at, less, failed) = less_failing old new (0 + n) most (omega (arith, least)) (reads_break old old new 0 k n at (reads_none old few) less failed)

-- ---- the answers of commands that look a key up

pub agrees_ready : (d : Parts) (board : BoardState) → DriveOnFlash d board.shape board.pages → IsReady board d.log.shape
agrees_ready d board a = record { shape_is = a.told_is ∙ ap (λ s. Some s) (sym a.with.shape_is); flash = subst (λ s. IsFlash s board.pages) (sym a.with.shape_is) a.with.is_flash }
