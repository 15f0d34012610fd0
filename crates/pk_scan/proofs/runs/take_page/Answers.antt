use Rattle.std.proofs.Common.{arith}
use Rattle.pk_scan.{proofs.Leasing.kept_more, proofs.Leasing.kept_wanted, proofs.Loading.page_exists, proofs.Loading.page_taken, proofs.Loading.read_whole}
use Rattle.pk_scan.proofs.runs.take_page.Goals as goal

pub read-requires-clause-exists : goal.read-requires-clause-exists
read-requires-clause-exists g c =
    rw (c.page-page.ensures, c.pages-index.ensures) (page_exists c.args.into.now _ _ c.known.ensures.shape c.requires.ready.flash c.requires.next.exist c.requires.next.within)

pub returns-else-not-goes_on-clause-taken : goal.returns-else-not-goes_on-clause-taken
returns-else-not-goes_on-clause-taken g c es stands ends =
    let kept = c.known.ensures.kept in
    let found = rw (c.page-page.ensures, c.pages-index.ensures) at c.in-Ok-Whole.ensures.found in
    let bytes = rw (c.page-page.ensures, c.pages-index.ensures) at c.in-Ok-Whole.ensures.bytes in
    let begins = rw c.shape-shape.ensures at c.key_at.ensures in
    let last = rw c.shape-shape.ensures at c.key_at-in-Ok-Whole.ensures in
    let goes_on = rw (c.shape-shape.ensures, c.level.ensures, c.pages-index.ensures) at (c.if-not-goes_on.ensures.goes_on es stands.rising ends) in
    page_taken c.args.pins c.args.spaces _ c.args.arena.now c.keep-lease.new.self c.args.into.now c.push_page.new.self
    es c.args.entries c.key_at.result c.key_at-in-Ok-Whole.result c.keep-lease.result c.read.new.into
    kept.level_least kept.level_most (omega (arith, kept.pages, kept.bound)) c.requires.next.some.0
    (read_whole _ _ _ _ c.in-Ok-Whole.field-0-is found bytes) c.requires.next.pinned c.keep-lease.ensures begins last c.push_page.ensures.stands stands goes_on

pub returns-else-not-goes_on-clause-added : goal.returns-else-not-goes_on-clause-added
returns-else-not-goes_on-clause-added g c = record {
  first = c.key_at.result;
  lease = c.keep-lease.result;
  run = c.push_page.ensures.added;
  wanted = kept_wanted c.args.pins c.args.arena.now c.keep-lease.new.self c.read.new.into c.keep-lease.result c.keep-lease.ensures;
  more = kept_more c.args.pins c.args.arena.now c.keep-lease.new.self c.read.new.into c.keep-lease.result c.keep-lease.ensures;
}
