use Rattle.std.proofs.Common.{◌<◌, ◌∙◌, sym, ap, List, ℕ, arith, rules}
use Rattle.pk_base.{specs.Shape.epoch_commits, specs.Page.whole}
use Rattle.pk_jrn.proofs.Replaying.{Replaying-start, Replaying-next, Replaying-refused, Replayed-ends, found_page, found_none, reads_to_last, pages_stay, reads_moved}
use Rattle.pk_jrn.proofs.reading.replay_in.Goals as goal

pub loop-index-init : goal.loop-index-init
loop-index-init g c = record {
  buffer = c.requires.room;
  replaying = Replaying-start c.args.shape.now c.args.spaces c.args.number c.args.blocks _ c.args.into.now c.known.ensures (search rules) c.requires.empty;
}

pub returns-in-Ok-None-clause-replayed : goal.returns-in-Ok-None-clause-replayed
returns-in-Ok-None-clause-replayed g c =
    let r = c.loop-index.invariant.replaying in
    let inside : c.loop-index.index < epoch_commits c.args.shape.now = rw c.epoch_commits-index-end.ensures.value at c.loop-index-test.true in
    let found = rw (pages_stay _ _ _ _ _ _ _ _ r, c.commit_page.ensures.page) at c.in-Ok-None.ensures.found in
    Replayed-ends _ _ _ _ _ _ _ _ r inside (found_none _ (sym c.in-Ok-None.field-0-is ∙ found))

pub returns-in-Ok-None-clause-reads : goal.returns-in-Ok-None-clause-reads
returns-in-Ok-None-clause-reads g c =
    let r = c.loop-index.invariant.replaying in
    let inside : c.loop-index.index < epoch_commits c.args.shape.now = rw c.epoch_commits-index-end.ensures.value at c.loop-index-test.true in
    let found = rw (pages_stay _ _ _ _ _ _ _ _ r, c.commit_page.ensures.page) at c.in-Ok-None.ensures.found in
    let read = reads_moved _ _ _ _ _ _ _ _ r _ c.commit_page.result c.commit_page.ensures.page c.in-Ok-None.ensures.ok in
    reads_to_last _ _ _ _ _ _ _ _ r _ inside (found_none _ (sym c.in-Ok-None.field-0-is ∙ found)) read

pub returns-then-not-take_page-clause-refused : goal.returns-then-not-take_page-clause-refused
returns-then-not-take_page-clause-refused g c =
    let r = c.loop-index.invariant.replaying in
    let inside : c.loop-index.index < epoch_commits c.args.shape.now = rw c.epoch_commits-index-end.ensures.value at c.loop-index-test.true in
    let found = rw (pages_stay _ _ _ _ _ _ _ _ r, c.commit_page.ensures.page) at c.in-Ok-Some.ensures.found in
    let bytes = rw (pages_stay _ _ _ _ _ _ _ _ r, c.commit_page.ensures.page) at c.in-Ok-Some.ensures.bytes in
    let read = reads_moved _ _ _ _ _ _ _ _ r _ c.commit_page.result c.commit_page.ensures.page c.in-Ok-Some.ensures.ok in
    let f = found_page _ c.in-Ok-Some.page (sym c.in-Ok-Some.field-0-is ∙ found) in
    Replaying-refused _ _ _ _ _ _ _ _ r c.read_pair.new.buf _ c.take_page.new.into _ inside (f.1 ∙ ap (λ (b : List ℕ). whole b) (sym (bytes f.0 f.1))) read f.2 c.if-not-take_page.ensures

pub loop-index-preserved : goal.loop-index-preserved
loop-index-preserved g c =
    let r = c.loop-index.invariant.replaying in
    let inside : c.loop-index.index < epoch_commits c.args.shape.now = rw c.epoch_commits-index-end.ensures.value at c.loop-index-test.true in
    let found = rw (pages_stay _ _ _ _ _ _ _ _ r, c.commit_page.ensures.page) at c.in-Ok-Some.ensures.found in
    let bytes = rw (pages_stay _ _ _ _ _ _ _ _ r, c.commit_page.ensures.page) at c.in-Ok-Some.ensures.bytes in
    let read = reads_moved _ _ _ _ _ _ _ _ r _ c.commit_page.result c.commit_page.ensures.page c.in-Ok-Some.ensures.ok in
    let f = found_page _ c.in-Ok-Some.page (sym c.in-Ok-Some.field-0-is ∙ found) in
    record {
      buffer = c.read_pair.ensures.buffer ∙ c.loop-index.invariant.buffer;
      replaying = Replaying-next _ _ _ _ _ _ _ _ r c.read_pair.new.buf _ c.take_page.new.into (omega (arith, c.ranges.number)) inside
          (f.1 ∙ ap (λ (b : List ℕ). whole b) (sym (bytes f.0 f.1))) read c.if-not-take_page.ensures;
    }
