use Rattle.std.proofs.Common.{◌≡◌, ◌∙◌, ℕ, ◌*◌, ◌≤◌, length, refl, sym, ap, subst, arith}
use Rattle.std.{specs.Prelude.nat_le, proofs.lemmas.Bool.leb-true}
use Rattle.pk_base.{specs.Shape.Shape, specs.Shape.IsShape, specs.Shape.cap, specs.Shape.page_entries, specs.Shape.run_pages, specs.Shape.run_blocks, proofs.ShapeLemmas.entries_some}
use Rattle.pk_model.specs.RootLimits.{root_spaces}
use Rattle.pk_run.specs.Kept.{Kept, empty}
use Rattle.pk_scan.{specs.Runs.MayLoadRun, specs.Runs.HasRun, specs.Runs.NotRead, proofs.Boards.reads_none, proofs.Boards.stays_same, proofs.Boards.stays_ready_behind, proofs.Rereading.pages_most}
use Rattle.pk_scan.{proofs.RootFacts.level_few, proofs.RootFacts.level_blocks, proofs.RootFacts.level_exist, proofs.RunsHeld.level_loaded, proofs.RunsHeld.level_not_loaded}
use Rattle.pk_nand.specs.Counts.{after_reads}
use Rattle.pk_scan.proofs.levels.load_level.Goals as goal

pub load_run-requires-clause-may : goal.load_run-requires-clause-may
load_run-requires-clause-may g c =
    let shape : IsShape c.args.root.now.shape = rw c.shape.ensures at c.known.ensures in
    let is : c.in-Ok.run' ≡ empty c.args.root.now.shape c.args.level = rw c.shape.ensures at c.in-Ok.ensures.empty in
    let few = subst (λ (n : ℕ). n ≤ cap c.args.root.now.shape c.args.level * page_entries c.args.root.now.shape) (sym c.entries-count.ensures)
    (level_few c.args.root.now.shape c.args.root.now.root c.requires.may.grammar c.args.level c.requires.may.least c.requires.may.most) in
    let pages : run_pages c.args.root.now.shape c.entries-count.result ≤ cap c.args.root.now.shape c.args.level = pages_most c.entries-count.result
    (page_entries c.args.root.now.shape) (cap c.args.root.now.shape c.args.level) (entries_some c.args.root.now.shape shape) few in
    let places = level_blocks c.args.root.now.shape c.args.root.now.root c.requires.may.grammar c.args.level c.blocks-blocks.result.now c.blocks-blocks.ensures in
    subst (λ (r : Kept). MayLoadRun (nat_le c.args.level c.pinned.result) c.entries-count.result c.blocks-blocks.result.now c.args.arena.now r) (sym is) (record {
      is_empty = refl;
      few = few;
      places = places ∙ ap (run_blocks c.args.root.now.shape) (sym c.entries-count.ensures);
      exist = level_exist c.args.root.now.shape c.args.root.now.root c.requires.may.grammar c.args.level c.blocks-blocks.result.now c.blocks-blocks.ensures;
      page_bytes = c.requires.may.page_bytes;
      free = λ pins.
          let low = leb-true c.args.level c.pinned.result pins in
          let free = c.requires.may.free (omega (arith, low, c.pinned.ensures)) in
          omega (arith, pages, free);
    })

pub returns-in-Ok-load_run-clause-loaded : goal.returns-in-Ok-load_run-clause-loaded
returns-in-Ok-load_run-clause-loaded g c =
    let is : c.in-Ok.run' ≡ empty c.args.root.now.shape c.args.level = rw c.shape.ensures at c.in-Ok.ensures.empty in
    let sh : c.load_run.new.into.shape ≡ c.args.root.now.shape = c.load_run.ensures.loads.shape_is ∙ ap (λ (r : Kept). r.shape) is in
    let lv : c.load_run.new.into.level ≡ c.args.level = c.load_run.ensures.loads.level_is ∙ ap (λ (r : Kept). r.level) is in
    let few = subst (λ (n : ℕ). length c.load_run.new.into.firsts ≤ cap c.args.root.now.shape n) lv
    (subst (λ (s : Shape). length c.load_run.new.into.firsts ≤ cap s c.load_run.new.into.level) sh c.known-in-Ok-load_run.ensures.kept.pages) in
    let has = subst (λ (r : Kept). HasRun r.shape (root_spaces c.args.root.now.shape c.args.root.now.root) r.level c.entries-count.result c.blocks-blocks.result.now
    (g.B.Nand.state c.args.board.now).pages c.load_run.new.arena c.load_run.new.into) is (rw c.spaces_under-spaces.ensures at c.in-Ok-load_run.ensures.has_run) in
    level_loaded c.args.root.now.shape c.args.root.now.root c.args.level c.entries-count.result c.blocks-blocks.result.now c.entries-count.ensures c.blocks-blocks.ensures
    (g.B.Nand.state c.args.board.now).pages c.args.arena.now c.load_run.new.arena c.args.levels.now c.install_run.new.self c.load_run.new.into _
    has c.load_run.ensures.loads.others c.load_run.ensures.loads.more c.load_run.ensures.loads.pinned sh c.load_run.ensures.loads.blocks_are c.in-Ok-load_run.ensures.has_run.counted
    (ap (nat_le c.args.level) (sym c.pinned.ensures)) few c.install_run.ensures.installed

pub returns-in-Err-load_run-clause-err : goal.returns-in-Err-load_run-clause-err
returns-in-Err-load_run-clause-err g c =
    let is : c.in-Ok.run' ≡ empty c.args.root.now.shape c.args.level = rw c.shape.ensures at c.in-Ok.ensures.empty in
    let why = subst (λ (r : Kept). NotRead r.shape (root_spaces c.args.root.now.shape c.args.root.now.root) r.level c.entries-count.result c.blocks-blocks.result.now
    (g.B.Nand.state c.args.board.now) (g.B.Nand.state c.load_run.new.board) c.in-Err-load_run.error) is (rw c.spaces_under-spaces.ensures at c.in-Err-load_run.ensures.err) in
    rw c.from.ensures (level_not_loaded c.args.root.now.shape c.args.root.now.root c.args.level c.entries-count.result c.blocks-blocks.result.now c.entries-count.ensures c.blocks-blocks.ensures
    (g.B.Nand.state c.args.board.now) (g.B.Nand.state c.load_run.new.board) c.in-Err-load_run.error why)

pub returns-in-Err-clause-err : goal.returns-in-Err-clause-err
returns-in-Err-clause-err g c = reads_none (g.B.Nand.state c.args.board.now)

pub returns-in-Ok-load_run-clause-reads : goal.returns-in-Ok-load_run-clause-reads
returns-in-Ok-load_run-clause-reads g c =
    let is : c.in-Ok.run' ≡ empty c.args.root.now.shape c.args.level = rw c.shape.ensures at c.in-Ok.ensures.empty in
    c.in-Ok-load_run.ensures.reads
    ∙ ap (λ (r : Kept). after_reads (run_pages r.shape c.entries-count.result) (g.B.Nand.state c.args.board.now)) is
    ∙ ap (λ (n : ℕ). after_reads (run_pages c.args.root.now.shape n) (g.B.Nand.state c.args.board.now)) c.entries-count.ensures

pub returns-in-Err-clause-board : goal.returns-in-Err-clause-board
returns-in-Err-clause-board g c = stays_same c.args.root.now.shape (g.B.Nand.state c.args.board.now) c.requires.ready

pub returns-in-Ok-load_run-clause-board : goal.returns-in-Ok-load_run-clause-board
returns-in-Ok-load_run-clause-board g c = stays_ready_behind c.args.root.now.shape _ _ c.load_run.ensures.board.rest c.requires.ready

pub returns-in-Err-load_run-clause-board : goal.returns-in-Err-load_run-clause-board
returns-in-Err-load_run-clause-board g c = stays_ready_behind c.args.root.now.shape _ _ c.load_run.ensures.board.rest c.requires.ready
