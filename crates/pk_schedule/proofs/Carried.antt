-- A merge runs as well over another source that shows the same.
use Rattle.std.proofs.Common.{◌≡◌, ℕ, ◌≤◌, Bool, List, length, refl, sym, ap, subst, ◌∙◌, arith}
use Rattle.pk_base.{specs.Shape.Shape, specs.Entry.Entry, specs.Page.Flash}
use Rattle.pk_buf.specs.Table.{Table}
use Rattle.pk_pin.specs.Frames.{Frames}
use Rattle.pk_pool.specs.Blocks.{Blocks}
use Rattle.pk_run.specs.Kept.{Kept, RunOnFlash}
use Rattle.pk_merge.{specs.declared.source.Source.Source, specs.declared.source.Source.TheVariants.Frozen, specs.declared.source.Source.TheVariants.Run, specs.Cursors.Cursor, specs.Cursors.Follows}
use Rattle.pk_merge.specs.Sources.{count_of, pages_in, blocks_in, Has, FollowsIn, wants_page_in, IsOf}
use Rattle.pk_merge.{specs.Merging.Merger, specs.Merging.IsDone, specs.Merging.can_gather, specs.Outputs.AreMeta, specs.Outputs.BlocksApart, specs.Running.Running, specs.Jobs.Job, specs.Jobs.JobRuns}
use Rattle.pk_merge.specs.Remaining.{steps_left}
use Rattle.pk_schedule.specs.Sources.{ShowsSame}

-- what a merge asks of its source is the same of both
pub record Shown {X Y : Type 0} (source : Source X) (s : Source Y) : Type 0 where
  pub count : count_of s ≡ count_of source
  pub pages : pages_in s ≡ pages_in source
  pub blocks : blocks_in s ≡ blocks_in source
  pub has : (flash : Flash) (arena : Frames) (es : List Entry) → Has source flash arena es → Has s flash arena es
  pub follows : (flash : Flash) (c : Cursor) → FollowsIn source flash c → FollowsIn s flash c
  pub wants : (c : Cursor) → wants_page_in s c ≡ wants_page_in source c
  pub of_shape : (shape : Shape) → IsOf shape source → IsOf shape s

pub shown : {X Y : Type 0} (source : Source X) (s : Source Y) → ShowsSame source s → Shown source s
shown (Frozen b) (Frozen c) e = record {
  count = ap (λ (t : Table). length t.entries) e;
  pages = refl;
  blocks = refl;
  has = λ flash arena es is. is ∙ ap (λ (t : Table). t.entries) (sym e);
  follows = λ flash c' is. (subst (λ (t : Table). c'.place ≤ length t.entries) (sym e) is.0, is.1);
  wants = λ c'. refl;
  of_shape = λ shape is. tt;
}
shown (Frozen b) (Run r) e = absurd e
shown (Run r) (Frozen b) e = absurd e
shown (Run r) (Run q) e = record {
  count = ap (λ (k : Kept). k.count) e;
  pages = ap (λ (k : Kept). length k.firsts) e;
  blocks = ap (λ (k : Kept). k.blocks) e;
  has = λ flash arena es is. subst (λ (k : Kept). RunOnFlash k flash arena es) (sym e) is;
  follows = λ flash c is. subst (λ (k : Kept). Follows flash k c) (sym e) is;
  wants = λ c. refl;
  of_shape = λ shape is. ap (λ (k : Kept). k.shape) e ∙ is;
}

pub same_shown : {X Y : Type 0} (source : Source X) (s : Source Y) → ShowsSame source s → ShowsSame s source
same_shown (Frozen b) (Frozen c) e = sym e
same_shown (Frozen b) (Run r) e = e
same_shown (Run r) (Frozen b) e = e
same_shown (Run r) (Run q) e = sym e

module _ {X Y : Type 0} (source : Source X) (s : Source Y) (is : Shown source s) (target : Kept) where
  pub carried : (pins : Bool) (out : Kept) (m : Merger) (pool : Blocks) (flash : Flash) (arena : Frames) (es fs : List Entry)
      → Running source target pins out m pool flash arena es fs → Running s target pins out m pool flash arena es fs
  carried pins out m pool flash arena es fs r =
      let c = r.merging.cursors in
      record {
        lists = r.lists;
        shapes = (let same = is.of_shape out.shape r.shapes.of_source in assumption (r.shapes, same));
        merging = record {
          cursors = record { has = is.has flash arena es c.has; stands = c.stands; rising = c.rising; source_at = is.follows flash m.source c.source_at; target_at = c.target_at };
          entries = r.merging.entries;
          stands = r.merging.stands;
          makes = r.merging.makes;
          full = r.merging.full;
          output = r.merging.output;
          no_spare = r.merging.no_spare;
        };
        blocks =
            (let owned = subst (λ (bs : List ℕ). AreMeta pool bs) (sym is.blocks) r.blocks.of_source in
            let apart = subst (λ (bs : List ℕ). BlocksApart bs out.blocks) (sym is.blocks) r.blocks.from_source in
            assumption (r.blocks, owned, apart));
        frames = record { pinned = r.frames.pinned; free = r.frames.free };
      }

  pub job_carried : (j : Job) (pool : Blocks) (flash : Flash) (arena : Frames) (es fs : List Entry) → JobRuns source target j pool flash arena es fs → JobRuns s target j pool flash arena es fs
  job_carried j pool flash arena es fs r = record { output = r.output; same_level = r.same_level; running = carried _ _ j.merger pool flash arena es fs r.running }

  -- the same amount of it remains
  gathers_same : (m : Merger) → can_gather s target m ≡ can_gather source target m
  unfolding can_gather
  gathers_same m = let n = is.count in let w = is.wants m.source in rw (n, w) refl

  pub left_same : (out : Kept) (m : Merger) (pages blocks : ℕ) → steps_left s target out m pages blocks ≡ steps_left source target out m pages blocks
  left_same out m pages blocks = let p = is.pages in let g = gathers_same m in rw (p, g) refl

  pub done_same : (m : Merger) → IsDone s target m → IsDone source target m
  done_same m d = let n = is.count in let e = d.0.0 in ((omega (arith, n, e), d.0.1), d.1)
