-- Boards after reads, of which the last one may have failed.
use Rattle.std.proofs.Common.{◌≡◌, ℕ, zero, ◌+◌, Bool, true, false, List, refl, sym, ap, subst, ◌∙◌}
use Rattle.std.specs.Prelude.{if◌then◌else◌}
use Rattle.pk_base.{specs.Shape.Shape, specs.Page.IsFlash}
use Rattle.pk_nand.{specs.BoardState.BoardState, specs.Calls.IsReady, specs.Operations.ReadFailed, specs.Counts.after_reads, specs.Effects.OnlyReading}
use Rattle.pk_level.proofs.Looking.{reads_more}
use Rattle.pk_scan.{specs.Opening.OnlyReads, specs.Opening.FaultCounted, specs.Board.StaysReady, specs.Runs.NotRead, specs.declared.errors.PageError.PageError}
use Rattle.pk_scan.specs.declared.errors.PageError.TheVariants.{Damaged, Fault}

-- ---- reads of which none failed

pub reads_none : (old : BoardState) → OnlyReads old old
reads_none old = (zero, refl)

pub reads_both : (old now new : BoardState) → OnlyReads old now → OnlyReads now new → OnlyReads old new
reads_both old now new a b = (b.0 + a.0, b.1 ∙ ap (after_reads b.0) a.1 ∙ reads_more b.0 a.0 old)

-- this many reads, or none
pub reads_if : (b : Bool) (n : ℕ) (old new : BoardState) → new ≡ (if b then after_reads n old else old) → OnlyReads old new
reads_if true n old new is = (n, is)
reads_if false n old new is = (zero, is)

-- ---- the frame

pub rest_reads : (old new : BoardState) → OnlyReads old new → OnlyReading old new
rest_reads old new reads = subst (λ (b : BoardState). OnlyReading old b) (sym reads.1) refl

pub rest_failed : (old new : BoardState) (made page : ℕ) → ReadFailed (after_reads made old) new page → OnlyReading old new
rest_failed old new made page failed =
    let reads = ap (λ (b : BoardState). b.reads) failed.rest in
    let place = ap (λ (b : BoardState). b.failed_at) failed.rest in
    failed.rest ∙ (λ i. record old { reads = sym reads i; flash_faults = new.flash_faults; read_faults = new.read_faults; failed_at = sym place i })

pub rest_both : (old now new : BoardState) → OnlyReading old now → OnlyReading now new → OnlyReading old new
rest_both old now new a b = b ∙ ap (λ (x : BoardState). record x { reads = new.reads; flash_faults = new.flash_faults; read_faults = new.read_faults; failed_at = new.failed_at }) a

pub rest_not_read : (shape : Shape) (spaces level count : ℕ) (blocks : List ℕ) (old new : BoardState) (e : PageError) → NotRead shape spaces level count blocks old new e → OnlyReading old new
rest_not_read shape spaces level count blocks old new (Damaged page) why = rest_reads old new (_, why.board)
rest_not_read shape spaces level count blocks old new Fault why = rest_failed old new why.made _ why.failed

-- so the board may be called as before
pub stays_ready_behind : (shape : Shape) (old new : BoardState) → OnlyReading old new → IsReady old shape → StaysReady shape old new
stays_ready_behind shape old new rest ready =
    let pages : new.pages ≡ old.pages = ap (λ (b : BoardState). b.pages) rest in
    record {
      rest = rest;
      pages = pages;
      ready = record { shape_is = ap (λ (b : BoardState). b.shape) rest ∙ ready.shape_is; flash = subst (IsFlash shape) (sym pages) ready.flash };
    }

pub stays_same : (shape : Shape) (old : BoardState) → IsReady old shape → StaysReady shape old old
stays_same shape old ready = stays_ready_behind shape old old refl ready

pub stays_reads : (shape : Shape) (old new : BoardState) → OnlyReads old new → IsReady old shape → StaysReady shape old new
stays_reads shape old new reads ready = stays_ready_behind shape old new (rest_reads old new reads) ready

pub stays_both : (shape : Shape) (old now new : BoardState) → StaysReady shape old now → StaysReady shape now new → StaysReady shape old new
stays_both shape old now new a b = record { rest = rest_both old now new a.rest b.rest; pages = b.pages ∙ a.pages; ready = b.ready }

-- ---- faults

-- the counts rose over reads that did not fail and the one that did
pub counted_behind : (old now new : BoardState) → OnlyReads old now → FaultCounted now new → FaultCounted old new
counted_behind old now new reads faults = subst (λ (b : BoardState). FaultCounted b new) reads.1 faults

-- ---- numbers of reads

pub reads_sum : (old now new : BoardState) (m n k : ℕ) → n + m ≡ k → now ≡ after_reads m old → new ≡ after_reads n now → new ≡ after_reads k old
reads_sum old now new m n k sum a b = b ∙ ap (after_reads n) a ∙ reads_more n m old ∙ ap (λ (j : ℕ). after_reads j old) sum
