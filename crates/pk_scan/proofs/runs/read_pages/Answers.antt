use Rattle.std.proofs.Common.{◌≡◌, ◌∙◌, ◌<◌, ◌-◌, ℕ, min, refl, ap, subst, arith}
use Rattle.std.specs.Int.{div_ceil}
use Rattle.pk_base.{specs.Shape.page_entries, specs.Shape.run_pages, proofs.ShapeLemmas.entries_some}
use Rattle.pk_scan.proofs.Loading.{Loading-start, Loading-next, Loading-refused, Loading-end, page_awaited, pages_loaded, some_left, stands_now}
use Rattle.pk_scan.proofs.Boards.{stays_reads, stays_ready_behind, rest_not_read}
use Rattle.pk_scan.proofs.runs.read_pages.{Given.Over, Goals.After-min-entries}
use Rattle.pk_scan.proofs.runs.read_pages.Goals as goal

-- the next page is one of the run, and has as many entries as remain for it
next_page : (g : Over) (c : After-min-entries g)
    → (c.loop.counter < run_pages c.args.into.now.shape c.args.count) × (c.min-entries.result ≡ min (c.args.count - c.loop.into.count) (page_entries c.args.into.now.shape))
next_page g c =
    let size : c.entries-most.result ≡ page_entries c.args.into.now.shape = c.entries-most.ensures.value ∙ ap page_entries c.shape.ensures in (
      subst (λ (k : ℕ). c.loop.counter < k) (c.div_ceil-pages.ensures ∙ ap (λ (n : ℕ). div_ceil c.args.count n) size) c.loop-test.true,
      rw (c.entries.ensures, size) at c.min-entries.ensures,
    )

pub loop-init : goal.loop-init
loop-init g c = record {
  buffer = c.requires.sized;
  loading = Loading-start c.args.into.now.shape c.args.spaces c.args.into.now.level c.args.count c.args.into.now.blocks c.args.pins _ c.args.arena.now
      c.args.into.now refl refl refl c.requires.awaits.no_entries c.requires.awaits.no_pages c.requires.awaits.no_leases c.requires.awaits.stands;
}

pub take_page-requires-clause-next : goal.take_page-requires-clause-next
take_page-requires-clause-next g c =
    let p = next_page g (goal.at.take_page-requires-clause-next g c).After-min-entries in
    page_awaited c.loop.invariant.loading c.min-entries.result (entries_some _ c.known.ensures.shape)
    (let least = c.known.ensures.shape.block_least in omega (arith, least)) p.0 p.1 c.requires.awaits.exist c.requires.awaits.few c.requires.awaits.places
    c.requires.awaits.page_bytes c.requires.awaits.free

pub returns-in-Err-clause-err : goal.returns-in-Err-clause-err
returns-in-Err-clause-err g c =
    let l = c.loop.invariant.loading in
    let p = next_page g (goal.at.returns-in-Err-clause-err g c).After-min-entries in
    let left = some_left l c.min-entries.result (entries_some _ c.known.ensures.shape) p.0 p.1 in
    Loading-refused l _ c.min-entries.result c.in-Err.error p.0 left.2 (c.in-Err.ensures.err l.es (stands_now l) l.ends)

pub loop-preserved : goal.loop-preserved
loop-preserved g c =
    let l = c.loop.invariant.loading in
    let p = next_page g (goal.at.loop-preserved g c).After-min-entries in
    let left = some_left l c.min-entries.result (entries_some _ c.known.ensures.shape) p.0 p.1 in
    record {
      buffer = c.take_page.ensures.buffer ∙ c.loop.invariant.buffer;
      loading = Loading-next l _ c.take_page.new.arena c.take_page.new.into c.in-Ok.key c.min-entries.result c.known.ensures.kept.level_least c.known.ensures.kept.level_most
          (omega (arith, c.loop-test.true, c.div_ceil-pages.type_inv)) (entries_some _ c.known.ensures.shape) p.0 left.2 c.in-Ok.ensures.ok c.in-Ok.ensures.added
          (c.in-Ok.ensures.taken l.es (stands_now l) l.ends);
    }

pub returns-clause-loads : goal.returns-clause-loads
returns-clause-loads g c = pages_loaded c.loop.invariant.loading c.args.into.now refl refl refl

pub returns-in-Err-clause-loads : goal.returns-in-Err-clause-loads
returns-in-Err-clause-loads g c = rw (c.in-Err.ensures.kept.0, c.in-Err.ensures.kept.1) (pages_loaded c.loop.invariant.loading c.args.into.now refl refl refl)

pub returns-clause-board : goal.returns-clause-board
returns-clause-board g c = stays_reads c.args.into.now.shape _ _ (_, c.loop.invariant.loading.board) c.requires.ready

pub returns-clause-has_run : goal.returns-clause-has_run
returns-clause-has_run g c =
    let size : c.entries-most.result ≡ page_entries c.args.into.now.shape = c.entries-most.ensures.value ∙ ap page_entries c.shape.ensures in
    let pages : c.div_ceil-pages.result ≡ run_pages c.args.into.now.shape c.args.count = c.div_ceil-pages.ensures ∙ ap (λ (n : ℕ). div_ceil c.args.count n) size in
    let all : c.loop.counter ≡ run_pages c.args.into.now.shape c.args.count = omega (arith, pages, c.loop-test.false, c.loop.auto.counter-end) in
    Loading-end c.loop.invariant.loading (entries_some _ c.known.ensures.shape) all

pub returns-in-Err-clause-board : goal.returns-in-Err-clause-board
returns-in-Err-clause-board g c = stays_ready_behind c.args.into.now.shape _ _ (rest_not_read c.args.into.now.shape c.args.spaces c.args.into.now.level c.args.count
    c.args.into.now.blocks (g.B.Nand.state c.args.board.now) (g.B.Nand.state c.take_page.new.board) c.in-Err.error (returns-in-Err-clause-err g c)) c.requires.ready
