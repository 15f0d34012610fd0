use Rattle.std.proofs.Common.{◌≡◌, ◌∙◌, true, refl, sym, ap, subst, []}
use Rattle.pk_base.{specs.Shape.Shape, specs.Shape.IsShape, specs.Page.Flash}
use Rattle.pk_pool.specs.Blocks.{Blocks, PoolOnFlash, unused}
use Rattle.pk_rootfmt.specs.Root.{named, is_root}
use Rattle.pk_law_steps.specs.Under.{places}
use Rattle.pk_scan.{specs.Opened.FoundOnFlash, proofs.Boards.reads_none, proofs.Boards.rest_both, proofs.Closing.may_adopt_values, proofs.Closing.many_closed, proofs.Owners.has_owners}
use Rattle.pk_scan.proofs.Whole.{awaits_lists, awaits_values, held_behind, scan_opened, scan_reads, scan_refuses}
use Rattle.pk_scan.proofs.opening.scan.Goals as goal

pub fill_lists-requires-clause-awaits : goal.fill_lists-requires-clause-awaits
fill_lists-requires-clause-awaits g c = awaits_lists c.args.shape c.args.frames c.in-Ok.memory.found c.in-Ok.ensures.nothing

pub fill_values-requires-clause-awaits : goal.fill_values-requires-clause-awaits
fill_values-requires-clause-awaits g c =
    let kept = c.fill_lists.ensures.kept in
    awaits_values c.args.shape c.args.frames _ c.in-Ok.memory c.fill_lists.new.memory c.in-Ok-fill_lists.ensures.finds.0 c.in-Ok.ensures c.in-Ok-fill_lists.ensures.finds.1 c.fill_lists.ensures.shape
    (ap (λ m. m.found.live) kept) (ap (λ m. m.walk) kept) (ap (λ m. m.found.pool) kept) (ap (λ m. m.found.spaces) kept) c.fill_lists.ensures.room

pub fill_values-requires-clause-held : goal.fill_values-requires-clause-held
fill_values-requires-clause-held g c =
    let finds = c.in-Ok-fill_lists.ensures.finds in
    let old = g.B.Nand.state c.args.board.now in
    let now = g.B.Nand.state c.fill_lists.new.board in
    (finds.0, held_behind old now c.in-Ok.ensures.nothing c.fill_lists.ensures.shape c.fill_lists.ensures.board.pages finds.1)

pub adopt_values-requires : goal.adopt_values-requires
adopt_values-requires g c =
    let l = c.fill_lists.new.memory.found in
    let finds = c.in-Ok-fill_lists.ensures.finds in
    let held = held_behind (g.B.Nand.state c.args.board.now) (g.B.Nand.state c.fill_lists.new.board) c.in-Ok.ensures.nothing c.fill_lists.ensures.shape c.fill_lists.ensures.board.pages finds.1 in
    let root_is = ap (λ m. m.found.root) c.fill_values.ensures.kept in
    let lives = rw root_is at (c.in-Ok-fill_values.ensures.finds finds.0 held).values.lives in
    record {
      named = may_adopt_values l.root.shape l.root.root (unused l.root.shape) c.fill_values.new.memory.found.pool c.fill_values.new.memory.found.live
          (places finds.0 []) refl c.fill_values.ensures.owned.named_owned lives;
    }

pub returns-in-Ok-fill_values-clause-opened : goal.returns-in-Ok-fill_values-clause-opened
returns-in-Ok-fill_values-clause-opened g c =
    let l = c.fill_lists.new.memory.found in
    let finds = c.in-Ok-fill_lists.ensures.finds in
    let old = g.B.Nand.state c.args.board.now in
    let now = g.B.Nand.state c.fill_lists.new.board in
    let nothing = c.in-Ok.ensures.nothing in
    let held = held_behind old now nothing c.fill_lists.ensures.shape c.fill_lists.ensures.board.pages finds.1 in
    let v = c.in-Ok-fill_values.ensures.finds finds.0 held in
    let kept = ap (λ m. m.found) c.fill_values.ensures.kept in
    let root_is = ap (λ f. f.root) kept in
    let root_shape : l.root.shape ≡ c.args.shape = c.fill_lists.ensures.shape ∙ nothing.root_shape in
    let is_shape : IsShape l.root.shape = subst IsShape (sym root_shape) c.known.ensures in
    let new : c.in-Ok.memory.found.pool ≡ unused l.root.shape = nothing.pool_unused ∙ ap unused (sym root_shape) in
    let fits : (flash : Flash) → PoolOnFlash (unused l.root.shape) flash = subst (λ (p : Blocks). (flash : Flash) → PoolOnFlash p flash) new nothing.pool_fits in
    let values = rw root_is at v.values in
    let live = c.fill_values.new.memory.found.live in
    let owned = c.fill_values.ensures.owned in
    let owners = has_owners l.root.shape l.root.root is_shape
    (subst (λ (s : Shape). is_root s l.root.root ≡ true) (sym c.fill_lists.ensures.shape) finds.1.grammar) live (places finds.0 []) values.lives
    (unused l.root.shape) c.fill_values.new.memory.found.pool c.adopt_values.new.pool refl fits owned.named_owned c.adopt_values.ensures.adopted owned.values c.known-in-Ok-fill_values.ensures.size
    owned.journal owned.meta c.adopt_values.ensures.few in
    subst (λ f. FoundOnFlash c.args.shape old.pages c.args.frames (record f { pool = c.adopt_values.new.pool })) (sym kept)
    (scan_opened old now nothing c.fill_lists.ensures.shape c.fill_lists.ensures.board.pages finds.1
    live values c.adopt_values.new.pool owners (c.adopt_values.ensures.counted ∙ many_closed l.root.shape is_shape (named l.root.root) live (places finds.0 []) values.lives)
    c.fill_values.new.memory.found.spaces (rw root_is at v.uses))

pub returns-in-Ok-fill_values-clause-reads : goal.returns-in-Ok-fill_values-clause-reads
returns-in-Ok-fill_values-clause-reads g c =
    let finds = c.in-Ok-fill_lists.ensures.finds in
    let old = g.B.Nand.state c.args.board.now in
    let now = g.B.Nand.state c.fill_lists.new.board in
    let held = held_behind old now c.in-Ok.ensures.nothing c.fill_lists.ensures.shape c.fill_lists.ensures.board.pages finds.1 in
    let kept = ap (λ m. m.found) c.fill_values.ensures.kept in
    let root_is = ap (λ f. f.root) kept in
    let levels_are = ap (λ f. f.levels) kept in
    scan_reads old now c.in-Ok.ensures.nothing c.fill_lists.ensures.shape c.fill_lists.ensures.board.pages finds.1
    (g.B.Nand.state c.fill_values.new.board) c.in-Ok-fill_lists.ensures.reads (rw (root_is, levels_are) at (c.in-Ok-fill_values.ensures.finds finds.0 held).reads)

pub returns-in-Err-fill_values-clause-err : goal.returns-in-Err-fill_values-clause-err
returns-in-Err-fill_values-clause-err g c =
    let finds = c.in-Ok-fill_lists.ensures.finds in
    let old = g.B.Nand.state c.args.board.now in
    let now = g.B.Nand.state c.fill_lists.new.board in
    let held = held_behind old now c.in-Ok.ensures.nothing c.fill_lists.ensures.shape c.fill_lists.ensures.board.pages finds.1 in
    scan_refuses old now c.in-Ok.ensures.nothing c.fill_lists.ensures.shape c.fill_lists.ensures.board.pages finds.1 (_, c.in-Ok-fill_lists.ensures.reads)
    (g.B.Nand.state c.fill_values.new.board) c.in-Err-fill_values.error (c.in-Err-fill_values.ensures.err finds.0 held)

pub returns-in-Err-clause-err : goal.returns-in-Err-clause-err
returns-in-Err-clause-err g c = reads_none (g.B.Nand.state c.args.board.now)

pub returns-in-Ok-fill_values-clause-rest : goal.returns-in-Ok-fill_values-clause-rest
returns-in-Ok-fill_values-clause-rest g c = rest_both (g.B.Nand.state c.args.board.now) (g.B.Nand.state c.fill_lists.new.board)
    (g.B.Nand.state c.fill_values.new.board) c.fill_lists.ensures.board.rest c.fill_values.ensures.board.rest

pub returns-in-Err-fill_values-clause-rest : goal.returns-in-Err-fill_values-clause-rest
returns-in-Err-fill_values-clause-rest g c = rest_both (g.B.Nand.state c.args.board.now) (g.B.Nand.state c.fill_lists.new.board)
    (g.B.Nand.state c.fill_values.new.board) c.fill_lists.ensures.board.rest c.fill_values.ensures.board.rest
