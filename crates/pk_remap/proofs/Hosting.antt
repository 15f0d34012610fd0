-- The host of a flash with spare blocks is that of its inner board.
use Rattle.std.proofs.Common.{◌≡◌, inl, inr, ℕ, List, [], ◌∷◌, take, refl, sym, ap, subst, ◌∙◌, arith, Option, Some, None}
use Rattle.std.{specs.Prelude.Result, specs.Prelude.Ok, specs.Prelude.Err, specs.Prelude.IfOk, specs.Prelude.OnOk, specs.Prelude.OnErr, proofs.lemmas.List.append-nil}
use Rattle.pk_base.{specs.Mark.post, specs.Page.Flash, specs.Page.page_at}
use Rattle.pk_nand.{specs.BoardState.BoardState, specs.Calls.counted, specs.Calls.longer, proofs.Posting.sent_left}
use Rattle.pk_nand.specs.Operations.{Fetched, FetchFailed, PostFailed, SentFront, after_post}
use Rattle.pk_remap.{specs.declared.counts.BoardCounts.BoardCounts, specs.declared.image.Image.Image, specs.declared.mark_log.MarkLog.MarkLog, specs.Logged.told, specs.Newest.newest_table}
use Rattle.pk_remap.{specs.declared.relocation.Relocation.Relocation as InMemory, specs.Running.relocation_of, specs.Running.HasTurn, specs.Remapped.remap_board, specs.Remapped.RemapHolds}
use Rattle.pk_remap.proofs.Remapping.{table_again}

-- nothing more is posted
longer_none : (told : Option (List ℕ)) → told ≡ longer told []
longer_none None = refl
longer_none (Some all) = ap (λ (l : List ℕ). Some l) (sym (append-nil all))

module _ (image : Image) (work : InMemory) (log : MarkLog) (counts : BoardCounts) (inner : BoardState) where
  abbrev board : BoardState
  board = remap_board image work log counts inner

  pub fetched : (n : ℕ) (into : List ℕ) (new : BoardState) → Fetched inner new n into → Fetched board (remap_board image work log counts new) n into
  fetched n into new own = record {
    within = own.within;
    bytes = own.bytes;
    none = own.none;
    rest = λ i. remap_board image work log counts (own.rest i);
  }

  pub fetch_failed : (new : BoardState) → FetchFailed inner new → FetchFailed board (remap_board image work log (record counts { in_faults = counted counts.in_faults }) new)
  fetch_failed new own = record { faults = omega arith; rest = λ i. remap_board image work log (record counts { in_faults = counted counts.in_faults }) (own.rest i) }

  pub posted_all : (bytes : List ℕ) (log' : MarkLog) (new : BoardState) → new ≡ after_post inner bytes → told log' ≡ longer (told log) (post bytes ∷ [])
      → remap_board image work log' counts new ≡ after_post board bytes
  posted_all bytes log' new is noted =
      (λ i. remap_board image work log' counts (is i)) ∙ (λ i. record board { trail = noted i; posted = longer inner.posted bytes })

  pub sent_some : (bytes : List ℕ) (given : ℕ) (log' : MarkLog) (new : BoardState) → SentFront bytes given inner.posted new.posted inner.trail new.trail
      → told log' ≡ longer (told log) (post (take given bytes) ∷ []) → SentFront bytes given board.posted new.posted board.trail (told log')
  sent_some bytes given log' new own noted = record { within = own.within; posted_is = own.posted_is; trail_is = inl noted }

  pub post_failed_board : (bytes : List ℕ) (given : ℕ) (log' : MarkLog) (new : BoardState) → PostFailed inner new bytes → SentFront bytes given inner.posted new.posted inner.trail new.trail
      → told log' ≡ longer (told log) (post (take given bytes) ∷ [])
      → PostFailed board (remap_board image work log' (record counts { out_faults = counted counts.out_faults }) new) bytes
  post_failed_board bytes given log' new own front noted = record {
    faults = omega arith;
    left = sent_left bytes given inner.posted new.posted (told log) (told log') (sent_some bytes given log' new front noted);
    rest = λ i. remap_board image work log' (record counts { out_faults = counted counts.out_faults }) (own.rest i);
  }

  -- the room of the log would be passed: nothing is done
  pub sent_none : (bytes : List ℕ) → SentFront bytes 0 board.posted board.posted board.trail board.trail
  sent_none bytes = record { within = omega arith; posted_is = longer_none inner.posted; trail_is = inr (refl, refl) }

  pub post_refused : (bytes : List ℕ) → PostFailed board (remap_board image work log (record counts { out_faults = counted counts.out_faults }) inner) bytes
  post_refused bytes = record {
    faults = omega arith;
    left = sent_left bytes 0 inner.posted inner.posted (told log) (told log) (sent_none bytes);
    rest = refl;
  }

-- what is known of the inner flash, if only its host did something
pub holds_host : (image : Image) (work : InMemory) (old new : BoardState) → new.shape ≡ old.shape → new.pages ≡ old.pages → new.bare ≡ old.bare
    → RemapHolds image work old → RemapHolds image work new
holds_host image work old new shape pages bare holds = record {
  shape_is = holds.shape_is;
  few = holds.few;
  taken = holds.taken;
  room = holds.room;
  missing = λ e. bare ∙ holds.missing e;
  opened = λ e. table_again work work old new (record { shape = refl; spares = refl; taken = refl }) shape pages (holds.opened e);
  sure = λ e. (let own = holds.sure e in record {
    grammar = own.grammar;
    used = own.used;
    newest = subst (λ (f : Flash). newest_table work.shape work.spares (page_at f) ≡ Some (work.top, (relocation_of work).table)) (sym pages) own.newest;
    turn = subst (HasTurn work) (sym pages) own.turn;
  });
}

-- what only the host did
pub record HostOnly (old new : BoardState) : Type 0 where
  pub shape : new.shape ≡ old.shape
  pub pages : new.pages ≡ old.pages
  pub bare : new.bare ≡ old.bare

pub fetch_rest : {E : Type 0} (old new : BoardState) (into : List ℕ) (result : Result ℕ E) → IfOk result (λ n. Fetched old new n into) → OnErr result (FetchFailed old new) → HostOnly old new
fetch_rest old new into (Ok n) ok err = record { shape = ap (λ s. s.shape) ok.rest; pages = ap (λ s. s.pages) ok.rest; bare = ap (λ s. s.bare) ok.rest }
fetch_rest old new into (Err e) ok err = record { shape = ap (λ s. s.shape) err.rest; pages = ap (λ s. s.pages) err.rest; bare = ap (λ s. s.bare) err.rest }

pub post_rest : {E : Type 0} (old new : BoardState) (bytes : List ℕ) (result : Result Unit E) → OnOk result (new ≡ after_post old bytes) → OnErr result (PostFailed old new bytes) → HostOnly old new
post_rest old new bytes (Ok u) ok err = record { shape = ap (λ s. s.shape) ok; pages = ap (λ s. s.pages) ok; bare = ap (λ s. s.bare) ok }
post_rest old new bytes (Err e) ok err = record { shape = ap (λ s. s.shape) err.rest; pages = ap (λ s. s.pages) err.rest; bare = ap (λ s. s.bare) err.rest }
