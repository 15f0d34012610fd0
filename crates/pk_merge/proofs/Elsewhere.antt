-- A merge runs as before if others change pages and owners that are none of its own.
use Rattle.std.proofs.Common.{◌≡◌, sym, subst, ◌∙◌, arith, Bool, List}
use Rattle.pk_base.{specs.Shape.Shape, specs.Shape.IsShape, specs.Entry.Entry, specs.Page.Flash}
use Rattle.pk_pin.specs.Frames.{Frames}
use Rattle.pk_pool.specs.Blocks.{Blocks}
use Rattle.pk_run.specs.Kept.{Kept}
use Rattle.pk_merge.{specs.declared.source.Source.Source, specs.Merging.Merger}
use Rattle.pk_merge.{specs.Sources.IsOf, specs.Running.Running, specs.Elsewhere.IsElsewhere}
use Rattle.pk_merge.proofs.Moving.{pages_same, moves, source_moves, stands_moved}

pub runs_elsewhere : (pool pool' : Blocks) (old new : Flash) → IsElsewhere pool old pool' new → {X : Type 0} (source : Source X) (target : Kept)
    (pins : Bool) (out : Kept) (m : Merger) (arena : Frames) (es fs : List Entry) → IsShape out.shape
    → Running source target pins out m pool old arena es fs → Running source target pins out m pool' new arena es fs
runs_elsewhere pool pool' old new e source target pins out m arena es fs is r =
    let shape : pool.shape ≡ out.shape = r.shapes.of_pool in
    let of_source : IsOf pool.shape source = subst (λ (s : Shape). IsOf s source) (sym shape) r.shapes.of_source in
    let g = r.merging in
    let c = g.cursors in
    let own = moves pool old new e.same out arena g.entries g.stands is shape r.blocks.own in
    record {
      lists = r.lists;
      shapes = record { of_merger = r.shapes.of_merger; of_target = r.shapes.of_target; of_source = r.shapes.of_source; of_pool = e.shape ∙ shape; of_frames = r.shapes.of_frames };
      merging = record {
        cursors = stands_moved source target old new arena arena es fs m (source_moves pool old new e.same source arena es c.has (subst IsShape (sym shape) is) of_source r.blocks.of_source)
            (moves pool old new e.same target arena fs c.stands (subst IsShape (sym r.shapes.of_target) is) (shape ∙ sym r.shapes.of_target) r.blocks.of_target) c;
        entries = g.entries;
        stands = own.1 g.entries g.stands;
        makes = g.makes;
        full = g.full;
        output = record {
          different = g.output.different;
          exist = g.output.exist;
          unused = λ j past small. pages_same pool old new e.same out is shape r.blocks.own j small ∙ g.output.unused j past small;
        };
        no_spare = g.no_spare;
      };
      blocks = record {
        fits = e.fits;
        own = λ i b got. e.owned b (r.blocks.own i b got);
        of_source = λ i b got. e.owned b (r.blocks.of_source i b got);
        of_target = λ i b got. e.owned b (r.blocks.of_target i b got);
        from_source = r.blocks.from_source;
        from_target = r.blocks.from_target;
        room = let room = r.blocks.room in let used = e.used in rw e.shape (omega (arith, room, used));
      };
      frames = r.frames;
    }
