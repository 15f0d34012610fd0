use Rattle.std.proofs.Common.{◌≡◌, ◌∙◌, ℕ, List, Ok, true, false, take, drop, sym, ap, refl, subst}
use Rattle.pk_base.{specs.Shape.page_count, specs.Mark.Mark}
use Rattle.pk_image.specs.Header.{header_bytes}
use Rattle.pk_redo.specs.Log.{LogHolds}
use Rattle.pk_redo.specs.Steps.{step_marks}
use Rattle.pk_redo.specs.Record.{RecordedAs}
use Rattle.pk_redo.specs.Image.{BatchesSay, BelongTo}
use Rattle.pk_redo.proofs.Batches.{reads_once}
use Rattle.pk_redo.proofs.Found.{head_header, head_states, recorded_belongs, belongs_recorded, says_once}
use Rattle.pk_redo.proofs.replay.Replay.read.Goals as goal

pub returns-in-Ok-true-clause-found : goal.returns-in-Ok-true-clause-found
returns-in-Ok-true-clause-found g c = λ clean_log clean_image.
    let shape = c.args.shape.now in
    let image = g.D.Disk.seen c.args.image.now in
    let bytes = c.in-Ok.bytes.items in
    let steps = c.in-Ok-read_steps.steps.items in
    let head = c.in-Ok-read_head.head.items in
    let (batches, holds, says) = c.in-Ok-read_steps.ensures.found in
    let (held, fits) = c.in-Ok-read_head.ensures.found clean_image in
    let sized = c.in-Ok-read_head.ensures.len in
    let is_true : c.belongs.result ≡ Ok true = c.in-Ok-true.is ∙ ap Ok c.in-Ok-true.field-0-test in
    let own_bytes = subst (λ (log : List ℕ). LogHolds log batches) c.deref.ensures.value holds in
    let recorded = c.belongs.ensures.record is_true batches (subst (λ (log : List ℕ). LogHolds log batches) (sym c.deref-2.ensures.value) own_bytes) in
    let record_is : RecordedAs shape batches (take 32 head) (drop 32 head) (step_marks shape bytes steps) =
    rw (c.deref-2.ensures.value, c.deref-3.ensures.value, c.deref-4.ensures.value) at recorded in
    let header_is : take 32 head ≡ header_bytes shape = rw c.deref-4.ensures.value at (c.belongs.ensures.header is_true) in
    let header = head_header image head (page_count shape) held sized in
    record {
      batches = batches;
      stands = subst (λ (log : List ℕ). LogHolds log batches) (c.in-Ok.ensures.found clean_log) own_bytes;
      says = subst (λ (log : List ℕ). BatchesSay shape batches (step_marks shape log steps)) c.deref.ensures.value says;
      belongs = recorded_belongs shape batches (step_marks shape bytes steps) image (take 32 head) (drop 32 head) header (head_states image head (page_count shape) held sized) record_is;
      header = sym header ∙ header_is;
      fits = fits;
      gives = refl;
    }

pub returns-in-Ok-false-clause-refused : goal.returns-in-Ok-false-clause-refused
returns-in-Ok-false-clause-refused g c is clean_log clean_image batches marks holds says header own =
    let shape = c.args.shape.now in
    let image = g.D.Disk.seen c.args.image.now in
    let bytes = c.in-Ok.bytes.items in
    let steps = c.in-Ok-read_steps.steps.items in
    let head = c.in-Ok-read_head.head.items in
    let (found, found_holds, found_says) = c.in-Ok-read_steps.ensures.found in
    let (held, fits) = c.in-Ok-read_head.ensures.found clean_image in
    let sized = c.in-Ok-read_head.ensures.len in
    let here : LogHolds bytes batches = subst (λ (log : List ℕ). LogHolds log batches) (sym (c.in-Ok.ensures.found clean_log)) holds in
    let one : found ≡ batches = reads_once bytes found batches (subst (λ (log : List ℕ). LogHolds log found) c.deref.ensures.value found_holds) here in
    let told : BatchesSay shape found (step_marks shape bytes steps) = subst (λ (log : List ℕ). BatchesSay shape found (step_marks shape log steps)) c.deref.ensures.value found_says in
    let all : BatchesSay shape batches (step_marks shape bytes steps) = subst (λ (bs : List (List ℕ)). BatchesSay shape bs (step_marks shape bytes steps)) one told in
    let same : marks ≡ step_marks shape bytes steps = says_once shape batches marks (step_marks shape bytes steps) says all in
    let head_is = head_header image head (page_count shape) held sized in
    let recorded : RecordedAs shape batches (take 32 head) (drop 32 head) (step_marks shape bytes steps) =
    belongs_recorded shape batches (step_marks shape bytes steps) image (take 32 head) (drop 32 head) head_is (head_states image head (page_count shape) held sized)
    (subst (λ (ms : List Mark). BelongTo shape batches ms image) same own) in
    let is_false : c.belongs.result ≡ Ok false = c.in-Ok-false.is ∙ ap Ok c.in-Ok-false.field-0-test in
    c.belongs.ensures.refused is_false batches (rw c.deref-2.ensures.value here) (rw c.deref-4.ensures.value (head_is ∙ header))
    (rw (c.deref-2.ensures.value, c.deref-3.ensures.value, c.deref-4.ensures.value) recorded)
