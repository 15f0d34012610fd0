use Rattle.std.proofs.Common.{◌≡◌, ◌≢◌, ◌+◌, ◌<◌, ◌∙◌, ℕ, true, false, length, sym, arith, inl, inr}
use Rattle.std.proofs.lemmas.Bool.{cases_eq, cases_lt}
use Rattle.sqlite_disk.specs.Disk.{Torn}
use Rattle.pk_image.specs.Image.{state_place}
use Rattle.pk_redo.proofs.Tables.{set_apart, set_within}
use Rattle.pk_redo.proofs.Replaying.{page_fits, states_fit}
use Rattle.pk_redo.proofs.Writes.{torn_none, torn_then, torn_within}
use Rattle.pk_redo.proofs.checkpoints.put_all_states.Goals as goal

pub loop-at-init : goal.loop-at-init
loop-at-init g c = record {
  usable = c.requires.usable;
  clean = λ is. is;
  crash = λ marks base sets within. within;
  seen = λ marks base sets same. same;
  torn = torn_none _ _ _;
  written = λ long k low lacks. absurd (omega (arith, low));
}

pub returns-in_err-put_row-clause-crash : goal.returns-in_err-put_row-clause-crash
returns-in_err-put_row-clause-crash g c marks base sets within =
    c.put_row.ensures.crash marks base (λ k low high. sets k (c.row_end-end.ensures.lacking k low high)) (c.loop-at.invariant.crash marks base sets within)

pub returns-in_err-put_row-clause-seen : goal.returns-in_err-put_row-clause-seen
returns-in_err-put_row-clause-seen g c marks base sets same =
    c.put_row.ensures.seen marks base (λ k low high. sets k (c.row_end-end.ensures.lacking k low high)) (c.loop-at.invariant.seen marks base sets same)

pub returns-in_err-put_row-clause-torn : goal.returns-in_err-put_row-clause-torn
returns-in_err-put_row-clause-torn g c =
    torn_then _ _ _ _ _ c.loop-at.invariant.torn (torn_within _ _ _ _ _ _ (omega arith)
    (omega (arith, c.row_end-end.ensures.within, c.row_end-end.ensures.order, c.row_start-first.ensures.order, c.requires.lacks)) c.put_row.ensures.torn)

pub loop-at-preserved : goal.loop-at-preserved
loop-at-preserved g c =
    let before = c.loop-at.invariant in
    let now = torn_within _ _ _ _ _ _ (omega arith)
    (omega (arith, c.row_end-end.ensures.within, c.row_end-end.ensures.order, c.row_start-first.ensures.order, c.requires.lacks)) c.put_row.ensures.torn in
    record {
      usable = c.put_row.ensures.usable;
      clean = λ is. before.clean (c.put_row.ensures.clean is);
      crash = λ marks base sets within. c.put_row.ensures.crash marks base (λ k low high. sets k (c.row_end-end.ensures.lacking k low high)) (before.crash marks base sets within);
      seen = λ marks base sets same. c.put_row.ensures.seen marks base (λ k low high. sets k (c.row_end-end.ensures.lacking k low high)) (before.seen marks base sets same);
      torn = torn_then _ _ _ _ _ before.torn now;
      written = λ long k low lacks.
          let place = (page_fits c.args.shape.now k (omega (arith, set_within _ k lacks, c.requires.lacks))).0 in
          let room = states_fit c.args.shape.now in
          let last : c.row_end-end.result ≢ k = set_apart _ c.row_end-end.result k c.row_end-end.ensures.last lacks in
          elim (cases_lt k c.loop-at.at) [
            | inl early ↦
                c.put_row.ensures.torn.below (state_place k) (omega (arith, place, room, long, before.torn.no_shorter)) (omega (arith, early, c.row_start-first.ensures.order))
                ∙ before.written long k early lacks
            | inr from ↦ elim (cases_lt k c.row_start-first.result) [
              | inl before ↦ absurd (let clash : false ≡ true = sym (c.row_start-first.ensures.none k from before) ∙ lacks in cc)
              | inr after ↦ c.in_ok-put_row.ensures.written k after (omega (arith, low, last))
            ]
          ];
    }

pub returns-clause-written : goal.returns-clause-written
returns-clause-written g c long k lacks = c.loop-at.invariant.written long k (omega (arith, set_within _ k lacks, c.requires.lacks, c.loop-at-test.false)) lacks
