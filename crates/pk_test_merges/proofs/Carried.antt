-- A merge runs whatever reference its source is passed by.
use Rattle.std.{proofs.Common.◌≡◌, proofs.Common.List, specs.Borrow.Bor}
use Rattle.pk_base.{specs.Entry.Entry, specs.Page.Flash}
use Rattle.pk_pin.specs.Frames.{Frames}
use Rattle.pk_pool.specs.Blocks.{Blocks}
use Rattle.pk_run.specs.Kept.{Kept}
use Rattle.pk_merge.{specs.Jobs.Job, specs.Jobs.JobRuns, specs.declared.source.Source.TheVariants.Run}

pub carried : {X Y : Type 0} (b c : Bor Kept) (target : Kept) (j : Job) (pool : Blocks) (flash : Flash) (arena : Frames) (es fs : List Entry) → c.now ≡ b.now
    → JobRuns {X = X} (Run b) target j pool flash arena es fs → JobRuns {X = Y} (Run c) target j pool flash arena es fs
carried b c target j pool flash arena es fs same r =
    let m = r.running in
    record {
      output = r.output;
      same_level = r.same_level;
      running = record {
        lists = m.lists;
        shapes = record { of_merger = m.shapes.of_merger; of_target = m.shapes.of_target; of_source = rw same m.shapes.of_source; of_pool = m.shapes.of_pool; of_frames = m.shapes.of_frames };
        merging = record {
          cursors = record {
            has = rw same m.merging.cursors.has;
            stands = m.merging.cursors.stands;
            rising = m.merging.cursors.rising;
            source_at = rw same m.merging.cursors.source_at;
            target_at = m.merging.cursors.target_at;
          };
          entries = m.merging.entries;
          stands = m.merging.stands;
          makes = m.merging.makes;
          full = m.merging.full;
          output = m.merging.output;
          no_spare = m.merging.no_spare;
        };
        blocks = record {
          fits = m.blocks.fits;
          own = m.blocks.own;
          of_source = rw same m.blocks.of_source;
          of_target = m.blocks.of_target;
          from_source = rw same m.blocks.from_source;
          from_target = m.blocks.from_target;
          room = m.blocks.room;
        };
        frames = record { pinned = m.frames.pinned; free = m.frames.free };
      };
    }
