-- The steps of opening, in the order of the reading of a flash.
use Rattle.std.proofs.Common.{◌≡◌, ℕ, List, [], refl, subst, None, Result, Ok, Err}
use Rattle.pk_base.{specs.Shape.Shape, specs.Entry.Entry, specs.Page.Page, specs.Page.Flash, specs.Page.page_at, specs.Refusal.Refusal, specs.Refusal.damaged, specs.Refusal.not_formatted}
use Rattle.pk_nand.specs.BoardState.{BoardState}
use Rattle.pk_rootfmt.{specs.Root.Root, specs.Newest.newest_root}
use Rattle.pk_buf.specs.Table.{Table}
use Rattle.pk_jrn.specs.Epochs.{JournalEpoch}
use Rattle.pk_pin.specs.Frames.{Frames}
use Rattle.pk_level.specs.Levels.{Levels}
use Rattle.pk_model.{specs.RootLimits.root_spaces, specs.Found.Found, specs.Found.found_under, specs.Found.newest_epoch, specs.Found.older_epoch, specs.Found.runs_from}
use Rattle.pk_model.specs.Reading.{reading, reading_of}
use Rattle.pk_scan.{specs.Opening.OnlyReads, proofs.Boards.reads_both, proofs.Boards.counted_behind, specs.declared.errors.PageError.PageError, specs.declared.errors.OpenError.OpenError}
use Rattle.pk_scan.specs.OpeningParts.{PartNotOpened, PartNotRead, OlderHeld, NewestHeld, HoldsRuns, HoldsFound, opening_of}
use Rattle.pk_scan.specs.declared.errors.PageError.TheVariants.{Damaged as PageDamaged, Fault as PageFault}
use Rattle.pk_scan.specs.declared.errors.OpenError.TheVariants.{NotFormatted, Damaged, Fault, Memory}

pub no_root : (shape : Shape) (flash : Flash) → newest_root shape (page_at flash) ≡ None → reading shape flash [] ≡ Err not_formatted
unfolding reading_of
no_root shape flash none = rw none refl

-- a part that takes no memory refuses as any part does
pub as_part : {X : Type 0} (part : Result X Refusal) (old new : BoardState) (e : PageError) → PartNotRead part old new e → PartNotOpened part old new (opening_of e)
as_part part old new (PageDamaged page) why = why
as_part part old new PageFault why = why

-- a refusal after reads is one of all that was done
pub behind_reads : {X : Type 0} (part : Result X Refusal) (old now new : BoardState) (e : OpenError) → OnlyReads old now → PartNotOpened part now new e → PartNotOpened part old new e
behind_reads part old now new NotFormatted reads why = why
behind_reads part old now new (Damaged page) reads why = (why.0, reads_both old now new reads why.1)
behind_reads part old now new Fault reads why = counted_behind old now new reads why
behind_reads part old now new Memory reads why = reads_both old now new reads why

-- if a part refuses, so does the whole that begins with it
pub whole_refuses : {X Y : Type 0} (part : Result X Refusal) (whole : Result Y Refusal) (old new : BoardState) (e : OpenError)
    → ((refusal : Refusal) → part ≡ Err refusal → whole ≡ Err refusal) → PartNotOpened part old new e → PartNotOpened whole old new e
whole_refuses part whole old new (Damaged page) passes why = (passes (damaged page) why.0, why.1)
whole_refuses part whole old new _ passes why = why

module _ (shape : Shape) (at : ℕ → Page) (root : Root) where
  pub older_first : (e : Refusal) → older_epoch shape at root ≡ Err e → found_under shape at root ≡ Err e
  unfolding found_under
  older_first e older = rw older refl

  pub newest_second : (es : List Entry) → older_epoch shape at root ≡ Ok es → (e : Refusal) → newest_epoch shape at root ≡ Err e → found_under shape at root ≡ Err e
  unfolding found_under
  newest_second es older e newest = rw (older, newest) refl

  pub runs_third : (es fs : List Entry) → older_epoch shape at root ≡ Ok es → newest_epoch shape at root ≡ Ok fs
      → (e : Refusal) → runs_from shape (root_spaces shape root) at 1 root.counts root.runs ≡ Err e → found_under shape at root ≡ Err e
  unfolding found_under
  runs_third es fs older newest e runs = rw (older, newest, runs) refl

  pub all_found : (es fs : List Entry) (ess : List (List Entry)) → older_epoch shape at root ≡ Ok es → newest_epoch shape at root ≡ Ok fs → runs_from shape (root_spaces shape root) at 1 root.counts root.runs ≡ Ok ess
      → found_under shape at root ≡ Ok (record { newest = fs; older = es; runs = ess })
  unfolding found_under
  all_found es fs ess older newest runs = rw (older, newest, runs) refl

pub lists_held : (shape : Shape) (flash : Flash) (root : Root) (active frozen : Table) (epoch : JournalEpoch) (arena : Frames) (levels : Levels)
    → OlderHeld shape flash root frozen → NewestHeld shape flash root active epoch
    → ((ess : List (List Entry)) × HoldsRuns shape flash root arena levels ess) → (found : Found) × HoldsFound shape flash root active frozen epoch arena levels found
lists_held shape flash root active frozen epoch arena levels older newest runs = (
  record { newest = newest.0.0; older = older.0; runs = runs.0 },
  record {
    finds = all_found shape (page_at flash) root older.0 newest.0.0 runs.0 older.1.finds newest.0.1.finds runs.1.finds;
    active_is = newest.0.1.held;
    frozen_is = older.1.held;
    stand = runs.1.stand;
    run_blocks = runs.1.run_blocks;
    run_frames = runs.1.run_frames;
    epoch_is = newest.1;
    epoch_fits = newest.2;
  },
)

module _ (shape : Shape) (root : Root) (old : BoardState) where
  abbrev all : Result Found Refusal
  all = found_under shape (page_at old.pages) root

  pub older_refuses : (new : BoardState) (e : PageError) → PartNotRead (older_epoch shape (page_at old.pages) root) old new e → PartNotOpened all old new (opening_of e)
  older_refuses new e why =
      whole_refuses (older_epoch shape (page_at old.pages) root) all old new (opening_of e)
      (older_first shape (page_at old.pages) root) (as_part (older_epoch shape (page_at old.pages) root) old new e why)

  module _ (frozen : Table) (older : OlderHeld shape old.pages root frozen) (now : BoardState) (reads : OnlyReads old now) (same : now.pages ≡ old.pages) where
    pub newest_refuses : (new : BoardState) (e : PageError) → PartNotRead (newest_epoch shape (page_at now.pages) root) now new e → PartNotOpened all old new (opening_of e)
    newest_refuses new e why =
        let part = newest_epoch shape (page_at old.pages) root in
        whole_refuses part all old new (opening_of e) (newest_second shape (page_at old.pages) root older.0 older.1.finds)
        (behind_reads part old now new (opening_of e) reads (as_part part now new e (subst (λ (f : Flash). PartNotRead (newest_epoch shape (page_at f) root) now new e) same why)))

    pub newest_here : (active : Table) (epoch : JournalEpoch) → NewestHeld shape now.pages root active epoch → NewestHeld shape old.pages root active epoch
    newest_here active epoch held = subst (λ (f : Flash). NewestHeld shape f root active epoch) same held

  module _ (frozen active : Table) (epoch : JournalEpoch) (older : OlderHeld shape old.pages root frozen)
      (newest : NewestHeld shape old.pages root active epoch) (now : BoardState) (reads : OnlyReads old now) (same : now.pages ≡ old.pages) where
    pub runs_refuse : (new : BoardState) (e : OpenError) → PartNotOpened (runs_from shape (root_spaces shape root) (page_at now.pages) 1 root.counts root.runs) now new e → PartNotOpened all old new e
    runs_refuse new e why =
        let part = runs_from shape (root_spaces shape root) (page_at old.pages) 1 root.counts root.runs in
        whole_refuses part all old new e (runs_third shape (page_at old.pages) root older.0 newest.0.0 older.1.finds newest.0.1.finds)
        (behind_reads part old now new e reads (subst (λ (f : Flash). PartNotOpened (runs_from shape (root_spaces shape root) (page_at f) 1 root.counts root.runs) now new e) same why))

    pub all_held : (arena : Frames) (levels : Levels) → ((ess : List (List Entry)) × HoldsRuns shape now.pages root arena levels ess)
        → (found : Found) × HoldsFound shape old.pages root active frozen epoch arena levels found
    all_held arena levels runs = lists_held shape old.pages root active frozen epoch arena levels older newest (runs.0, subst (λ (f : Flash). HoldsRuns shape f root arena levels runs.0) same runs.1)
