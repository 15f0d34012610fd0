use Rattle.std.proofs.Common.{◌≡◌, ◌+◌, ◌∙◌, ℕ, List, [], sym, subst, Result}
use Rattle.pk_base.{specs.Key.Key, specs.Refusal.Refusal, specs.Shape.Shape, specs.Page.page_at}
use Rattle.pk_rootfmt.specs.Root.{Root, named}
use Rattle.pk_pool.specs.Blocks.{Blocks, unused}
use Rattle.pk_nand.specs.Counts.{after_reads}
use Rattle.pk_model.{specs.Values.values_of, specs.RootLimits.root_limits}
use Rattle.pk_law_steps.specs.Under.{places}
use Rattle.pk_walk.specs.Walking.{most_read}
use Rattle.pk_scan.{specs.OpeningParts.PartNotOpened, specs.OpeningParts.ReadsValues, specs.Reads.value_reads, specs.Adopts.owned_blocks, specs.Adopts.NamesOwned, specs.Used.IsUseOf}
use Rattle.pk_scan.{proofs.Owned.owned_named, proofs.Owned.values_same, proofs.Owned.Lives-same, proofs.Whole.left_to_give, proofs.Whole.places_are}
use Rattle.pk_live.proofs.Nothing.{Lives-none}
use Rattle.pk_scan.proofs.opening.fill_values.Goals as goal

named_now : {shape : Shape} {root : Root} {old new : Blocks} → old ≡ unused shape → NamesOwned root old new → NamesOwned root (unused shape) new
named_now {shape} {root} {old} {new} is owned = subst (λ (p : Blocks). NamesOwned root p new) is owned

pub returns-in-Ok-clause-owned : goal.returns-in-Ok-clause-owned
returns-in-Ok-clause-owned g c =
    let owned = c.adopt_blocks.ensures in record { named_owned = named_now c.requires.awaits.pool_unused owned.named; journal = owned.journal; meta = owned.meta; values = owned.values }

pub returns-in-Err-clause-owned : goal.returns-in-Err-clause-owned
returns-in-Err-clause-owned g c =
    let owned = c.adopt_blocks.ensures in record { named_owned = named_now c.requires.awaits.pool_unused owned.named; journal = owned.journal; meta = owned.meta; values = owned.values }

pub read_values-requires-clause-left : goal.read_values-requires-clause-left
read_values-requires-clause-left g c =
    let held = c.requires.held.1 in (
      places c.requires.held.0 [],
      left_to_give held c.args.memory.now.walk c.requires.awaits.starts,
      rw c.shape.ensures (places_are c.args.memory.now.found.root.shape (g.B.Nand.state c.args.board.now).pages c.args.memory.now.found.root.root c.requires.held.0 held.finds),
    )

pub read_values-requires-clause-none : goal.read_values-requires-clause-none
read_values-requires-clause-none g c = rw (c.shape.ensures, c.requires.awaits.none_live)
    (Lives-none c.args.memory.now.found.root.shape (owned_blocks c.adopt_blocks.new.pool) (rw c.shape.ensures at c.known.ensures))

pub returns-in-Ok-clause-finds : goal.returns-in-Ok-clause-finds
returns-in-Ok-clause-finds g c found held =
    let f = c.args.memory.now.found in
    let old = g.B.Nand.state c.args.board.now in
    let left = left_to_give held c.args.memory.now.walk c.requires.awaits.starts in
    let pool = c.adopt_blocks.new.pool in
    let same = owned_named f.root.shape f.root.root (rw c.shape.ensures at c.known.ensures) c.requires.awaits.grammar pool
    (named_now c.requires.awaits.pool_unused c.adopt_blocks.ensures.named) in
    let taken = c.in-Ok.ensures.read (places found []) left in
    let read = subst (λ (s : Shape). ReadsValues s old.pages (root_limits f.root.shape f.root.root) (owned_blocks pool) c.read_values.new.live (places found [])) c.shape.ensures
    taken.values in
    record {
      values = record {
        values = read.values;
        read = sym (values_same f.root.shape (owned_blocks pool) (named f.root.root) same (page_at old.pages) (root_limits f.root.shape f.root.root) [] (places found [])) ∙ read.read;
        lives = Lives-same f.root.shape (owned_blocks pool) (named f.root.root) same c.read_values.new.live (places found []) read.lives;
      };
      uses = subst (λ (s : Shape). IsUseOf s c.read_values.new.spaces (places found [])) c.shape.ensures taken.uses;
      reads = subst (λ (s : Shape). g.B.Nand.state c.read_values.new.board ≡ after_reads (most_read f.levels.runs + value_reads s (places found [])) old) c.shape.ensures
          ((c.in-Ok.ensures.exact (places found []) left).exact c.requires.awaits.starts.skips_none (c.requires.awaits.starts.none_read f.levels.runs));
    }

pub returns-in-Err-clause-err : goal.returns-in-Err-clause-err
returns-in-Err-clause-err g c found held =
    let f = c.args.memory.now.found in
    let old = g.B.Nand.state c.args.board.now in
    let new = g.B.Nand.state c.read_values.new.board in
    let left = left_to_give held c.args.memory.now.walk c.requires.awaits.starts in
    let pool = c.adopt_blocks.new.pool in
    let same = owned_named f.root.shape f.root.root (rw c.shape.ensures at c.known.ensures) c.requires.awaits.grammar pool
    (named_now c.requires.awaits.pool_unused c.adopt_blocks.ensures.named) in
    subst (λ (part : Result (List (Key × List ℕ)) Refusal). PartNotOpened part old new c.in-Err.error)
    (values_same f.root.shape (owned_blocks pool) (named f.root.root) same (page_at old.pages) (root_limits f.root.shape f.root.root) [] (places found []))
    (subst (λ (s : Shape). PartNotOpened (values_of s (page_at old.pages) (root_limits f.root.shape f.root.root) (owned_blocks pool) [] (places found [])) old new c.in-Err.error) c.shape.ensures
    (c.in-Err.ensures.err (places found []) left))
