use Rattle.std.proofs.Common.{◌∙◌, ℕ, sym, ap, length, List}
use Rattle.pk_base.specs.Page.{whole}
use Rattle.pk_pin.specs.Frames.{Frames, leased, filled}
use Rattle.pk_run.{specs.Kept.Kept, specs.Kept.IsFrameOf, specs.Kept.page_of, proofs.Lookups.page_stands, proofs.Others.RunOnFlash-taken, proofs.Others.RunOnFlash-filled}
use Rattle.pk_run.proofs.Standing.{RunOnFlash-frame}
use Rattle.pk_seg.proofs.Readings.{whole_exists}
use Rattle.pk_run.proofs.run.Run.fill_page.Goals as goal

pub read_page-requires-clause-exists : goal.read_page-requires-clause-exists
read_page-requires-clause-exists g c =
    let stands = page_stands c.args.self.now _ c.args.arena.now c.requires.stands.0 c.known.ensures.shape c.requires.stands.1 c.known.ensures.kept
    (length c.args.self.now.leases) c.requires.unfilled in
    rw (c.page.ensures, c.leases.ensures) (whole_exists _ _ stands.0 stands.1)

pub read_page-requires-clause-whole : goal.read_page-requires-clause-whole
read_page-requires-clause-whole g c =
    let stands = page_stands c.args.self.now _ c.args.arena.now c.requires.stands.0 c.known.ensures.shape c.requires.stands.1 c.known.ensures.kept
    (length c.args.self.now.leases) c.requires.unfilled in
    rw (c.page.ensures, c.leases.ensures) stands

pub returns-in-Some-clause-stands : goal.returns-in-Some-clause-stands
returns-in-Some-clause-stands g c es s =
    let r : Kept = c.args.self.now in
    let flash = (g.B.Nand.state c.args.board.now).pages in
    let arena : Frames = c.args.arena.now in
    let l : ℕ = c.in-Some.lease in
    let bytes : List ℕ = c.read_page.new.buf in
    let taken = RunOnFlash-taken r flash arena es l c.in-Some.ensures.was_free s in
    let full = RunOnFlash-filled r flash (leased arena l) es l bytes taken.1 taken.0 in
    let here : IsFrameOf flash (filled (leased arena l) l bytes) (page_of r (length r.leases)) l = record {
      leased = rw c.in-Some.ensures.leased at c.in-Some.ensures.held;
      bytes = (rw (c.page.ensures, c.leases.ensures) at c.in-Ok.ensures.bytes) ∙ ap (λ (xs : List ℕ). whole xs) (sym (rw (c.fill.ensures.filled, c.in-Some.ensures.leased) at c.fill.ensures.holds));
    } in
    let framed = RunOnFlash-frame r flash (filled (leased arena l) l bytes) es l full c.requires.unfilled here in
    rw (c.in-Ok.ensures.ok, c.fill.ensures.filled, c.in-Some.ensures.leased, c.push_reserved.ensures.items) (rw (← c.self.view_is) at framed)
