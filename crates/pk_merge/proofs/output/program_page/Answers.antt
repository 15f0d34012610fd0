use Rattle.std.proofs.Common.{◌≡◌, ◌∙◌, ap, sym, length, arith, ℕ, List, Some, option_map, slice_get}
use Rattle.pk_base.{specs.Key.Key, specs.Entry.Entry, specs.Entry.key_of}
use Rattle.pk_meta.{specs.Page.meta_bytes, specs.PageChecks.IsMetaPage, proofs.PageLemmas.meta_again}
use Rattle.pk_nand.proofs.Writing.{shape_is}
use Rattle.pk_run.specs.Kept.{with_page}
use Rattle.pk_merge.{specs.Outputs.next_bytes, proofs.Places.InOrder-output, proofs.Places.page_exists, proofs.Programming.programs_page}
use Rattle.pk_merge.proofs.output.program_page.Goals as goal

pub write_page-requires-clause-order : goal.write_page-requires-clause-order
write_page-requires-clause-order g c =
    rw (shape_is _ _ c.requires.ready, c.page.ensures, c.pages-index.ensures)
    (InOrder-output c.args.out.now _ c.args.arena.now _ c.known.ensures.shape c.known.ensures.kept c.requires.may.stands c.requires.may.output c.requires.may.place)

pub entry-first-requires-clause-within : goal.entry-first-requires-clause-within
entry-first-requires-clause-within g c =
    let whole : c.complete.new.self.page ≡ next_bytes c.args.out.now c.args.gathered.now.entries =
    c.complete.ensures.page ∙ (λ i. meta_bytes (c.requires.shape i) (c.level.ensures i) (c.pages-index.ensures i) c.args.gathered.now.entries) in
    let is = c.bytes-in-Ok-2.ensures.value ∙ whole in
    let own = meta_again c.args.out.now.shape c.bytes-in-Ok-2.result.now c.args.out.now.level (length c.args.out.now.firsts) c.args.gathered.now.entries c.known.ensures.shape
    (record { content = c.requires.may.content; bytes = is }) in
    let count = own.count_is in
    let some = c.requires.may.content.some in
    omega (arith, count, some)

pub returns-in-Ok-clause-programmed : goal.returns-in-Ok-clause-programmed
returns-in-Ok-clause-programmed g c =
    let whole : c.complete.new.self.page ≡ next_bytes c.args.out.now c.args.gathered.now.entries =
    c.complete.ensures.page ∙ (λ i. meta_bytes (c.requires.shape i) (c.level.ensures i) (c.pages-index.ensures i) c.args.gathered.now.entries) in
    let more : List Entry = c.args.gathered.now.entries in
    let program = rw (c.page.ensures, c.bytes.ensures.value ∙ whole, c.pages-index.ensures) at c.in-Ok.ensures.ok in
    let cuts = rw (shape_is _ _ c.requires.ready, c.page.ensures, c.pages-index.ensures) at c.in-Ok.ensures.cuts in
    let keeps = rw (c.bytes-in-Ok.ensures.value ∙ whole) at c.keep-lease.ensures in
    let many = c.len.ensures ∙ ap length c.complete.ensures.entries in
    let meta : IsMetaPage c.args.out.now.shape c.bytes-in-Ok-2.result.now c.args.out.now.level (length c.args.out.now.firsts) more =
    record { content = c.requires.may.content; bytes = c.bytes-in-Ok-2.ensures.value ∙ whole } in
    let read = rw c.shape.ensures at c.entry-first.ensures in
    let first : option_map key_of (slice_get more 0) ≡ Some c.copy.result =
    ap (option_map key_of) (read _ _ _ meta) ∙ ap (λ (k : Key). Some k) (sym (c.copy.ensures ∙ c.key.ensures)) in
    programs_page c.args.pins c.args.out.now more _ c.args.arena.now _ _ c.keep-lease.result c.known.ensures.shape c.requires.may.place program keeps
    _ c.copy.result c.requires.may.output
    (rw c.requires.ready.flash.size
    (page_exists c.args.out.now.shape (let least = c.known.ensures.shape.block_least in omega (arith, least)) c.args.out.now.blocks c.requires.may.output.exist
    (length c.args.out.now.firsts) c.requires.may.place))
    c.requires.may.content c.requires.may.pinned
    (c.push_page.ensures.added ∙ ap (λ (n : ℕ). with_page c.args.out.now c.copy.result c.keep-lease.result n) many)
    first
    (λ flash arena es next s n same. c.push_page.ensures.stands flash arena es next s n (same ∙ sym many)) cuts

pub returns-in-Err-clause-failed : goal.returns-in-Err-clause-failed
returns-in-Err-clause-failed g c =
    let whole : c.complete.new.self.page ≡ next_bytes c.args.out.now c.args.gathered.now.entries =
    c.complete.ensures.page ∙ (λ i. meta_bytes (c.requires.shape i) (c.level.ensures i) (c.pages-index.ensures i) c.args.gathered.now.entries) in
    record {
      place = c.requires.may.place;
      failed = rw (c.page.ensures, c.bytes.ensures.value ∙ whole, c.pages-index.ensures) at c.in-Err.ensures.err;
      cuts = rw (shape_is _ _ c.requires.ready, c.page.ensures, c.pages-index.ensures) at c.in-Err.ensures.cuts_err;
    }
