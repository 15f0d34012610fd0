-- A value whose pages are read one after another.
use Rattle.std.proofs.Common.{◌≡◌, ℕ, suc, ◌+◌, ◌-◌, ◌<◌, ◌≤◌, true, false, List, drop, refl, sym, subst, ap, ◌∙◌, arith}
use Rattle.std.specs.Prelude.{Result, Ok, Err}
use borrow.Author.Count.{below_more}
use Rattle.pk_base.{specs.Key.Key, specs.Shape.Shape, specs.Shape.charge, specs.Entry.Place, specs.Page.Flash, specs.Page.page_at, specs.Refusal.Refusal, specs.Refusal.damaged, specs.Refusal.◌>>=◌}
use Rattle.pk_nand.{specs.BoardState.BoardState, specs.Calls.IsReady, specs.Operations.after_read, specs.Operations.ReadFailed, specs.Counts.after_reads, specs.Effects.OnlyReading}
use Rattle.pk_segfmt.specs.Value.{head_bytes, value_from, value_at}
use Rattle.pk_scan.{specs.Pages.is_right, specs.Checked.HasValue, specs.Checked.NotFound, specs.Checked.PageRefused, specs.declared.errors.PageError.PageError}
use Rattle.pk_scan.{specs.declared.errors.PageError.TheVariants.Damaged, specs.declared.errors.PageError.TheVariants.Fault, proofs.Boards.rest_reads, proofs.Boards.rest_failed}
use Rattle.pk_scan.proofs.Reading.{through, all_right, first_wrong, not_before}

-- ---- the value, after its head

module _ (shape : Shape) (flash : Flash) (key : Key) (place : Place) where
  abbrev Right : ℕ → Type 0
  Right k = is_right shape (page_at flash) key place k ≡ true

  value_found : ((k : ℕ) → k < charge shape place.len → Right k) → HasValue shape flash key place
  unfolding value_at
  value_found each =
      let found = all_right shape (page_at flash) (charge shape place.len) place.page (head_bytes key place.len) (32 + place.len) each in
      (drop 32 found.0, ap (λ (r : Result (List ℕ) Refusal). r >>= (λ bytes. Ok (drop 32 bytes))) found.1)

  value_refused : (i : ℕ) → i < charge shape place.len → ((k : ℕ) → k < i → Right k) → is_right shape (page_at flash) key place i ≡ false
      → value_at shape (page_at flash) key place ≡ Err (damaged (place.page + i))
  unfolding value_at
  value_refused i less each wrong =
      ap (λ (r : Result (List ℕ) Refusal). r >>= (λ bytes. Ok (drop 32 bytes)))
      (first_wrong shape (page_at flash) i (charge shape place.len) place.page (head_bytes key place.len) (32 + place.len) less each wrong)

  refused_behind : (i q : ℕ) → i ≤ charge shape place.len → ((k : ℕ) → k < i → Right k) → value_at shape (page_at flash) key place ≡ Err (damaged q) → place.page + i ≤ q
  unfolding value_at
  refused_behind i q room each e =
      not_before shape (page_at flash) i (charge shape place.len) place.page (head_bytes key place.len) (32 + place.len) q room each
      (through (value_from shape (page_at flash) place.page (head_bytes key place.len) (32 + place.len) (charge shape place.len)) (drop 32) (damaged q) e)

-- ---- the board

-- i pages were read, and are right
pub record Checking (old now : BoardState) (shape : Shape) (key : Key) (place : Place) (i : ℕ) : Type 0 where
  pub board : now ≡ after_reads i old
  pub ready : IsReady now shape
  pub right : (k : ℕ) → k < i → is_right shape (page_at old.pages) key place k ≡ true

pub Checking-start : (old : BoardState) (shape : Shape) (key : Key) (place : Place) → IsReady old shape → Checking old old shape key place 0
Checking-start old shape key place ready = record { board = refl; ready = ready; right = λ k less. absurd (omega arith) }

ready_read : (now : BoardState) (shape : Shape) → IsReady now shape → IsReady (after_read now) shape
ready_read now shape ready = record { shape_is = ready.shape_is; flash = ready.flash }

pages_same : (old now : BoardState) (i : ℕ) → now ≡ after_reads i old → now.pages ≡ old.pages
pages_same old now i e = ap (λ (b : BoardState). b.pages) e

pub Checking-next : (old now : BoardState) (shape : Shape) (key : Key) (place : Place) (i : ℕ) → Checking old now shape key place i → is_right shape (page_at now.pages) key place i ≡ true
    → Checking old (after_read now) shape key place (i + 1)
Checking-next old now shape key place i c right = record {
  board = let e : suc i ≡ i + 1 = omega arith in subst (λ (k : ℕ). after_read now ≡ after_reads k old) e (ap after_read c.board);
  ready = ready_read now shape c.ready;
  right =
      let here = subst (λ (f : Flash). is_right shape (page_at f) key place i ≡ true) (pages_same old now i c.board) right in
      below_more (λ (k : ℕ). is_right shape (page_at old.pages) key place k ≡ true) i c.right here;
}

pub Checking-end : (old now : BoardState) (shape : Shape) (key : Key) (place : Place) → Checking old now shape key place (charge shape place.len) → HasValue shape old.pages key place
Checking-end old now shape key place c = value_found shape old.pages key place c.right

pub Checking-refused : (old now new : BoardState) (shape : Shape) (key : Key) (place : Place) (i : ℕ) (e : PageError) → i < charge shape place.len → Checking old now shape key place i
    → PageRefused shape now new key place i e → NotFound shape old new key place e
Checking-refused old now new shape key place i (Damaged page) less c refused =
    let wrong = subst (λ (f : Flash). is_right shape (page_at f) key place i ≡ false) (pages_same old now i c.board) refused.1 in
    let reads : suc i ≡ suc (page - place.page) = omega (arith, refused.0) in
    record {
      behind = omega (arith, refused.0);
      within = omega (arith, refused.0);
      refusal = value_refused shape old.pages key place i less c.right wrong ∙ ap (λ (k : ℕ). Err (damaged k)) (sym refused.0);
      board = subst (λ (k : ℕ). new ≡ after_reads k old) reads (refused.2 ∙ ap after_read c.board);
    }
Checking-refused old now new shape key place i Fault less c refused =
    let failed = subst (λ (b : BoardState). ReadFailed b new (place.page + i)) c.board refused in
    record {
      reads = record { made = i; within = less; failed = failed; flash = failed.flash; read = failed.read };
      later = λ q e. refused_behind shape old.pages key place i q (omega arith) c.right e;
    }

pub refused_rest : (old new : BoardState) (shape : Shape) (key : Key) (place : Place) (e : PageError) → NotFound shape old new key place e → OnlyReading old new
refused_rest old new shape key place (Damaged page) refused = rest_reads old new (suc (page - place.page), refused.board)
refused_rest old new shape key place Fault refused = rest_failed old new refused.reads.made (place.page + refused.reads.made) refused.reads.failed
