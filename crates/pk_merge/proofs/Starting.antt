-- A merge begins.
use Rattle.std.proofs.Common.{◌≡◌, inl, ℕ, refl, sym, ◌∙◌, arith, zero-mul, ◌≤◌, Bool, true, false, List, []}
use Rattle.pk_base.{specs.Shape.Shape, specs.Shape.IsShape, specs.Entry.Entry, specs.Page.Flash}
use Rattle.pk_pin.specs.Frames.{Frames}
use Rattle.pk_pool.specs.Blocks.{Blocks}
use Rattle.pk_run.{specs.Kept.Kept, specs.Kept.empty, proofs.Standing.RunOnFlash-empty}
use Rattle.pk_merge.{specs.declared.source.Source.Source, specs.declared.source.Source.TheVariants.Frozen, specs.declared.source.Source.TheVariants.Run, specs.Cursors.Cursor, specs.Cursors.at_start}
use Rattle.pk_merge.{specs.Sources.FollowsIn, specs.Sources.IsOf, specs.Merging.Merger, specs.Merging.restarted, specs.Running.Running, specs.Running.CanBegin, specs.Running.IsMergerOf}
use Rattle.pk_merge.proofs.Following.{Follows-start}
use Rattle.pk_level.specs.Arenas.{IsPinnedIf}

follows_start : {X : Type 0} (source : Source X) (flash : Flash) (c : Cursor) (shape : Shape) → c.shape ≡ shape → IsOf shape source → FollowsIn source flash (at_start c)
follows_start (Frozen b) flash c shape own of = (omega arith, refl)
follows_start (Run r) flash c shape own of = Follows-start flash r.now c (own ∙ sym of)

pinned_none : (pins : Bool) (shape : Shape) (level : ℕ) → IsPinnedIf pins (empty shape level)
pinned_none true shape level = refl
pinned_none false shape level = refl

-- at its start a merge that can be begun runs
pub starts : {X : Type 0} (source : Source X) (target : Kept) (pins : Bool) (shape : Shape) (level : ℕ) (m : Merger) (pool : Blocks) (flash : Flash) (arena : Frames) (es fs : List Entry)
    → IsShape shape → IsMergerOf shape m
    → CanBegin source target pins shape level pool flash arena es fs → Running source target pins (empty shape level) (restarted m) pool flash arena es fs
starts source target pins shape level m pool flash arena es fs is own b = record {
  lists = b.lists;
  shapes = record { of_merger = own.own; of_target = b.of_target; of_source = b.of_source; of_pool = b.of_pool; of_frames = b.of_frames };
  merging = record {
    cursors = search (follows_start source flash m.source shape own.of_source b.of_source, Follows-start flash target m.target (own.of_target ∙ sym b.of_target));
    entries = [];
    stands = RunOnFlash-empty shape level flash arena is;
    makes = refl;
    full = inl (omega arith);
    output = record { different = λ i j x got had. cc; exist = λ i x got. cc; unused = λ j past small. absurd (omega (arith, small)) };
    no_spare = let least : 8 ≤ shape.block_pages = is.block_least in omega (arith, least, zero-mul shape.block_pages);
  };
  blocks = record {
    fits = b.fits;
    own = λ i x got. cc;
    of_source = b.source_owned;
    of_target = b.target_owned;
    from_source = λ i j x got had. cc;
    from_target = λ i j x got had. cc;
    room = let room = b.room in omega (arith, room);
  };
  frames = record { pinned = pinned_none pins shape level; free = λ wanted. let free = b.frames wanted in omega (arith, free) };
}
