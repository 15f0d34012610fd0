-- Each action leaves a merge running.
use Rattle.std.proofs.Common.{◌≡◌, inl, inr, ℕ, suc, ◌+◌, ◌*◌, ◌/◌, ◌<◌, ◌≤◌, refl, sym, ap, subst, ◌∙◌, arith, Bool, true, false, not, cond, if◌then◌else◌, ◌==◌, is_some, filter, List, [], ◌∷◌, ◌++◌}
use Rattle.std.proofs.Common.{length, slice_get, set, Some, None, Option, length-append, append_assoc, append-nil, suc-mul}
use Rattle.std.{specs.Prelude.slice_index, proofs.lemmas.List.drop_all, proofs.lemmas.List.Sums.sum_by-set, proofs.lemmas.Option.slice_get_within, proofs.lemmas.Option.get_or_from_slice_get}
use Rattle.pk_base.{specs.Shape.Shape, specs.Shape.IsShape, specs.Shape.page_entries, specs.Shape.run_pages, specs.Entry.Entry, specs.Page.Flash, specs.Page.whole}
use Rattle.pk_meta.specs.Over.{over, kept_at}
use Rattle.pk_nand.specs.BoardState.{BoardState}
use Rattle.pk_pin.specs.Frames.{Frames, free_frames, leased, KeepsPage}
use Rattle.pk_plan.specs.declared.owner.Owner.TheVariants.{Meta}
use Rattle.pk_pool.specs.declared.state.BlockState.TheVariants.{Free, Ready, Owned}
use Rattle.pk_pool.{specs.Blocks.Blocks, specs.Blocks.PoolOnFlash, specs.Blocks.with_state, proofs.States.get-set_other, proofs.States.set_is, proofs.Fitting.PoolOnFlash-programmed}
use Rattle.pk_run.{specs.Kept.Kept, specs.Kept.IsKept, specs.Kept.RunOnFlash, specs.Kept.page_of, specs.Kept.after_look, proofs.Pieces.pages_are}
use Rattle.pk_run.proofs.Standing.{RunOnFlash-block, from_more}
use Rattle.pk_merge.{specs.declared.source.Source.Source, specs.declared.source.Source.TheVariants.Frozen, specs.declared.source.Source.TheVariants.Run, specs.declared.next.Next.Next}
use Rattle.pk_merge.specs.declared.next.Next.TheVariants.{LoadSource, LoadTarget, TakeBlock, Program}
use Rattle.pk_merge.specs.Merging.{Merger, left, StandsIn, GoesOn, HasNextPage, IsAtEnd, IsDone, Tells}
use Rattle.pk_merge.specs.Outputs.{AreMeta, BlocksApart, IsOutput, TakesBlock, ProgramsPage, next_bytes}
use Rattle.pk_merge.proofs.Needing.{full_before, next_rises, next_deepest}
use Rattle.pk_merge.proofs.Moving.{same_but, spare_is_none, spare_apart, same_meta, moves, source_moves, moves_by_program, source_by_program, stands_moved, output_with}
use Rattle.pk_merge.{specs.Cursors.Cursor, specs.Cursors.Follows, specs.Cursors.own_page, specs.Sources.FollowsIn, specs.Sources.IsOf, specs.Sources.blocks_in, specs.Sources.after_look_at}
use Rattle.pk_merge.{specs.Running.merged, specs.Running.Running, specs.Running.HasNoSpare, specs.Running.IsOutputWhole, proofs.Telling.many_in, specs.Elsewhere.LeavesRuns}
use Rattle.pk_merge.{proofs.Places.block_there, proofs.Places.rest, proofs.Programming.pinned_page, specs.Steps.LoadsSource, specs.Steps.LoadsTarget, specs.Steps.Acts}
use Rattle.pk_level.specs.Arenas.{IsPinnedIf}

look_pages : (lease : Option ℕ) (b : BoardState) → (after_look lease b).pages ≡ b.pages
look_pages None b = refl
look_pages (Some l) b = refl

look_pages_in : {X : Type 0} (source : Source X) (c : Cursor) (b : BoardState) → (after_look_at source c b).pages ≡ b.pages
look_pages_in (Frozen x) c b = refl
look_pages_in (Run r) c b = look_pages (slice_get r.now.leases (own_page c)) b

nothing : (level : ℕ) → kept_at level [] ≡ []
nothing level = elim (level == 4) as (λ b. (if b then filter (λ (e : Entry). is_some e.1) [] else []) ≡ []) [ true ↦ refl | false ↦ refl ]

-- nothing remains after the end
pub left_end : {X : Type 0} (source : Source X) (target : Kept) (flash : Flash) (arena : Frames) (es fs : List Entry) (m : Merger) (level : ℕ)
    → StandsIn source target flash arena es fs m → IsAtEnd source target m → left level es fs m ≡ []
left_end source target flash arena es fs m level s end =
    let many = many_in source flash arena es s.has in
    let more = s.stands.many in
    let none : left level es fs m ≡ kept_at level [] = λ i. kept_at level
    (over (drop_all m.source.place es (omega (arith, many, end.0)) i) (drop_all m.target.place fs (omega (arith, more, end.1)) i)) in
    none ∙ nothing level

-- one frame fewer is free if one was taken
free_after : (pins : Bool) (old new : Frames) (bytes : List ℕ) (lease : Option ℕ) → KeepsPage pins old new bytes lease → pins ≡ true → free_frames new + 1 ≡ free_frames old
free_after pins old new bytes None k e = let no = sym e ∙ k.0 in cc
free_after pins old new bytes (Some l) k e =
    let was = get_or_from_slice_get old.used l false true k.1 in
    let change = rw was at (sum_by-set (λ x. cond (not x) 1 0) old.used l true true (slice_get_within old.used l false k.1)) in
    let now : free_frames new ≡ free_frames (leased old l) = ap free_frames k.2 in
    omega (arith, change, now)

bytes_after : (pins : Bool) (old new : Frames) (bytes : List ℕ) (lease : Option ℕ) → KeepsPage pins old new bytes lease → new.page_bytes ≡ old.page_bytes
bytes_after pins old new bytes None k = ap (λ (a : Frames). a.page_bytes) k.1
bytes_after pins old new bytes (Some l) k = ap (λ (a : Frames). a.page_bytes) k.2

owned_not_ready : (pool : Blocks) (b : ℕ) → slice_get pool.states b ≡ Some (Owned Meta) → slice_get pool.states b ≡ Some Ready → ⊥
owned_not_ready pool b own ready = let no = sym own ∙ ready in cc

-- entries that are taken
pub gathers_on : {X : Type 0} (source : Source X) (target : Kept) (pins : Bool) (out : Kept) (m : Merger) (pool : Blocks) (flash : Flash) (before : Frames) (es fs : List Entry)
    → Running source target pins out m pool flash before es fs → (m' : Merger) → GoesOn source target out.level m m' → Running source target pins out m' pool flash before es fs
gathers_on source target pins out m pool flash before es fs r m' g =
    let c = r.merging.cursors in
    let same = g.same flash before es fs c in
    record {
      lists = r.lists;
      shapes = record { of_merger = g.shape ∙ r.shapes.of_merger; of_target = r.shapes.of_target; of_source = r.shapes.of_source; of_pool = r.shapes.of_pool; of_frames = r.shapes.of_frames };
      merging = record {
        cursors = g.stands flash before es fs c;
        entries = r.merging.entries;
        stands = r.merging.stands;
        makes = r.merging.makes ∙ ap (λ (xs : List Entry). r.merging.entries ++ xs) same;
        full = elim r.merging.full [ inl full ↦ inl full | inr none ↦ inr (sym same ∙ none) ];
        output = r.merging.output;
        no_spare = let spare = r.merging.no_spare in let more = g.no_fewer in omega (arith, spare, more);
      };
      blocks = r.blocks;
      frames = r.frames;
    }

-- pages that were looked at: a cursor has reached other pages, and has other bytes
pub looked_on : {X : Type 0} (source : Source X) (target : Kept) (pins : Bool) (out : Kept) (m : Merger) (pool : Blocks) (flash : Flash) (before : Frames) (es fs : List Entry)
    → Running source target pins out m pool flash before es fs → (one two : ℕ) (xs ys : List ℕ)
    → FollowsIn source flash (record m.source { loaded = one; bytes = xs }) → Follows flash target (record m.target { loaded = two; bytes = ys })
    → Running source target pins out (record m { source = record m.source { loaded = one; bytes = xs }; target = record m.target { loaded = two; bytes = ys } }) pool flash before es fs
looked_on source target pins out m pool flash before es fs r one two xs ys source_at target_at =
    let c = r.merging.cursors in
    record {
      lists = r.lists;
      shapes = record { of_merger = r.shapes.of_merger; of_target = r.shapes.of_target; of_source = r.shapes.of_source; of_pool = r.shapes.of_pool; of_frames = r.shapes.of_frames };
      merging = record {
        cursors = record { has = c.has; stands = c.stands; rising = c.rising; source_at = source_at; target_at = target_at };
        entries = r.merging.entries;
        stands = r.merging.stands;
        makes = r.merging.makes;
        full = r.merging.full;
        output = r.merging.output;
        no_spare = r.merging.no_spare;
      };
      blocks = r.blocks;
      frames = r.frames;
    }

module _ {X : Type 0} (source : Source X) (target : Kept) (pins : Bool) (out : Kept) (m : Merger) (pool : Blocks)
    (old : BoardState) (before : Frames) (es fs : List Entry) (is : IsShape out.shape) (kept : IsKept out)
    (r : Running source target pins out m pool old.pages before es fs) where
  abbrev count : ℕ
  count = length (merged out.level es fs)

  pub loads_source : (m' : Merger) (new : BoardState) → LoadsSource source m old m' new → Running source target pins out m' pool new.pages before es fs
  loads_source m' new l =
      let pages : new.pages ≡ old.pages = ap (λ (b : BoardState). b.pages) l.board ∙ look_pages_in source m.source old in
      subst (λ (f : Flash). Running source target pins out m' pool f before es fs) (sym pages)
      (subst (λ (x : Merger). Running source target pins out x pool old.pages before es fs) (sym l.merger)
      (looked_on source target pins out m pool old.pages before es fs r (suc (own_page m.source)) m.target.loaded m'.source.bytes m.target.bytes
      (subst (FollowsIn source old.pages) (ap (λ (x : Merger). x.source) l.merger) l.follows) r.merging.cursors.target_at))

  pub loads_target : (m' : Merger) (new : BoardState) → LoadsTarget target m old m' new → Running source target pins out m' pool new.pages before es fs
  loads_target m' new l =
      let pages : new.pages ≡ old.pages = ap (λ (b : BoardState). b.pages) l.board ∙ look_pages (slice_get target.leases (own_page m.target)) old in
      subst (λ (f : Flash). Running source target pins out m' pool f before es fs) (sym pages)
      (subst (λ (x : Merger). Running source target pins out x pool old.pages before es fs) (sym l.merger)
      (looked_on source target pins out m pool old.pages before es fs r m.source.loaded (suc (own_page m.target)) m.source.bytes m'.target.bytes
      r.merging.cursors.source_at (subst (Follows old.pages target) (ap (λ (x : Merger). x.target) l.merger) l.follows)))

  -- a block that is taken
  pub takes_block : (out' : Kept) (pool' : Blocks) (new : BoardState) → 1 ≤ length m.gathered → length out.firsts ≡ length out.blocks * out.shape.block_pages
      → TakesBlock pool out old pool' out' new → PoolOnFlash pool' new.pages → Running source target pins out' m pool' new.pages before es fs
  takes_block out' pool' new waits used_up t fits =
      let b : ℕ = t.block in
      let c = r.merging.cursors in
      let shape : pool.shape ≡ out.shape = r.shapes.of_pool in
      let its_shape : IsShape pool.shape = subst IsShape (sym shape) is in
      let same = same_but pool.shape b old new t.cuts in
      let others = same_meta pool b old.pages new.pages its_shape t.spare same in
      let of_source : IsOf pool.shape source = subst (λ (s : Shape). IsOf s source) (sym shape) r.shapes.of_source in
      let meta_more : (blocks : List ℕ) → AreMeta pool blocks
      → AreMeta (with_state pool b (Owned Meta)) blocks = λ blocks meta i x got. get-set_other pool.states b x (Owned Meta) (spare_is_none pool b x t.spare (meta i x got)) ∙ meta i x got in
      let own_more : AreMeta (with_state pool b (Owned Meta)) (out.blocks ++ b ∷ []) = λ i x got. elim (from_more out.blocks b i x got) [
        | inl here ↦ meta_more out.blocks r.blocks.own i x here
        | inr last ↦ rw last.1 (elim t.spare [ inl free ↦ set_is pool.states b Free (Owned Meta) free | inr ready ↦ set_is pool.states b Ready (Owned Meta) ready ])
      ] in
      let apart_more : (blocks : List ℕ) → AreMeta pool blocks → BlocksApart blocks out.blocks
      → BlocksApart blocks (out.blocks ++ b ∷ []) = λ blocks meta apart i j x got had. elim (from_more out.blocks b j x had) [
        | inl here ↦ apart i j x got here
        | inr last ↦ spare_apart pool blocks b i t.spare meta (got ∙ ap (λ (y : ℕ). Some y) last.1)
      ] in
      let long = length-append out.blocks (b ∷ []) in
      let counted = t.counted in
      let used = ap (λ (p : Blocks). p.states) t.pool_is in
      subst (λ (x : Kept). Running source target pins x m pool' new.pages before es fs) (sym t.run_is)
      (record {
        lists = r.lists;
        shapes = search (ap (λ (p : Blocks). p.shape) t.pool_is ∙ shape);
        merging = record {
          cursors = stands_moved source target old.pages new.pages before before es fs m
              (source_moves pool old.pages new.pages others source before es c.has its_shape of_source r.blocks.of_source)
              (moves pool old.pages new.pages others target before fs c.stands (subst IsShape (sym r.shapes.of_target) is) (shape ∙ sym r.shapes.of_target) r.blocks.of_target) c;
          entries = r.merging.entries;
          stands = RunOnFlash-block out b new.pages before r.merging.entries is
              ((moves pool old.pages new.pages others out before r.merging.entries r.merging.stands is shape r.blocks.own).1 r.merging.entries r.merging.stands);
          makes = r.merging.makes;
          full = r.merging.full;
          output = output_with pool out b old.pages new.pages is shape t.spare t.exists same t.erased r.blocks.own r.merging.stands.within r.merging.output;
          no_spare = one_spare t.block waits used_up;
        };
        blocks = record {
          fits = fits;
          own = subst (λ (p : Blocks). AreMeta p (out.blocks ++ b ∷ [])) (sym t.pool_is) own_more;
          of_source = subst (λ (p : Blocks). AreMeta p (blocks_in source)) (sym t.pool_is) (meta_more (blocks_in source) r.blocks.of_source);
          of_target = subst (λ (p : Blocks). AreMeta p target.blocks) (sym t.pool_is) (meta_more target.blocks r.blocks.of_target);
          from_source = apart_more (blocks_in source) r.blocks.of_source r.blocks.from_source;
          from_target = apart_more target.blocks r.blocks.of_target r.blocks.from_target;
          room = let room = r.blocks.room in rw (ap (λ (p : Blocks). p.shape) t.pool_is) (omega (arith, room, counted, long));
        };
        frames = record { pinned = pinned_same pins r.frames.pinned; free = r.frames.free };
      })
    where
      pinned_same : (pins : Bool) → IsPinnedIf pins out → IsPinnedIf pins (record out { blocks = out.blocks ++ t.block ∷ [] })
      pinned_same true p = p
      pinned_same false p = p

      one_spare : (b : ℕ) → 1 ≤ length m.gathered → length out.firsts ≡ length out.blocks * out.shape.block_pages → HasNoSpare (record out { blocks = out.blocks ++ b ∷ [] }) m
      one_spare b waits used_up =
          let all : length (out.blocks ++ b ∷ []) * out.shape.block_pages ≡ suc (length out.blocks) * out.shape.block_pages =
          ap (λ (k : ℕ). k * out.shape.block_pages) (let e : length (out.blocks ++ b ∷ []) ≡ suc (length out.blocks) = omega (arith, length-append out.blocks (b ∷ [])) in e) in
          omega (arith, waits, used_up, all, suc-mul (length out.blocks) out.shape.block_pages)

  -- a page that is programmed
  pub programs : (out' : Kept) (m' : Merger) (new : BoardState) (after : Frames) → HasNextPage source target m
      → length out.firsts < length out.blocks * out.shape.block_pages → ProgramsPage pins out m.gathered old before out' new after
      → m' ≡ record m { gathered = [] } → Running source target pins out' m' pool new.pages after es fs
  programs out' m' new after next inside p taken =
      let c = r.merging.cursors in
      let g = r.merging in
      let lease = p.lease in
      let n : ℕ = out.shape.block_pages in
      let least : 8 ≤ n = is.block_least in
      let some : 0 < n = omega arith in
      let b : ℕ = slice_index out.blocks (length out.firsts / n) in
      let own : slice_get pool.states b ≡ Some (Owned Meta) = r.blocks.own (length out.firsts / n) b (block_there out.shape some out.blocks (length out.firsts) inside) in
      let low = rest out.shape some out.blocks (length out.firsts) in
      let full = full_before source target out m old.pages before es fs is kept r.lists g next.some in
      let long = length-append out.firsts (p.first ∷ []) in
      let in_block : (b * pool.shape.block_pages ≤ page_of out (length out.firsts))
      × (page_of out (length out.firsts) < b * pool.shape.block_pages + pool.shape.block_pages) = rw r.shapes.of_pool (omega arith, omega (arith, low)) in
      let pages : new.pages ≡ set old.pages (page_of out (length out.firsts)) (whole (next_bytes out m.gathered)) = ap (λ (x : BoardState). x.pages) p.program in
      subst (λ (x : Merger). Running source target pins out' x pool new.pages after es fs) (sym taken)
      (subst (λ (x : Kept). Running source target pins x (record m { gathered = [] }) pool new.pages after es fs) (sym p.run_is)
      (record {
        lists = r.lists;
        shapes = search (bytes_after pins before after (next_bytes out m.gathered) lease p.frame ∙ r.shapes.of_frames);
        merging = record {
          cursors =
              let s = stands_moved source target old.pages new.pages before after es fs m
              (source_by_program out m.gathered old new before after is inside p.program p.others source es c.has r.shapes.of_source r.blocks.from_source)
              (moves_by_program out m.gathered old new before after is inside p.program p.others target fs c.stands r.shapes.of_target r.blocks.from_target) c in
              record { has = s.has; stands = s.stands; rising = s.rising; source_at = s.source_at; target_at = s.target_at };
          entries = g.entries ++ m.gathered;
          stands = subst (λ (x : Kept). RunOnFlash x new.pages after (g.entries ++ m.gathered)) p.run_is
              (p.stands g.entries g.stands (next_rises source target out m old.pages before es fs is kept r.lists g next.some)
              (next_deepest source target out m old.pages before es fs is kept r.lists g next.some));
          makes = g.makes ∙ sym (append_assoc g.entries m.gathered (left out.level es fs m));
          full = elim next.all [
            | inl page ↦ inl (let e = suc-mul (length out.firsts) (page_entries out.shape) in let f : length m.gathered ≡ page_entries out.shape = page
                ∙ ap page_entries r.shapes.of_merger in full_more full f long)
            | inr end ↦ inr (left_end source target old.pages before es fs m out.level c end)
          ];
          output = subst (λ (x : Kept). IsOutput x new.pages) p.run_is p.output;
          no_spare = let spare = r.merging.no_spare in omega (arith, spare, long);
        };
        blocks = search (subst (λ (f : Flash). PoolOnFlash pool f) (sym pages)
            (PoolOnFlash-programmed pool old.pages b (page_of out (length out.firsts)) (next_bytes out m.gathered) (owned_not_ready pool b own) in_block r.blocks.fits));
        frames = record {
          pinned = pinned_page pins out before after (next_bytes out m.gathered) p.first lease (length m.gathered) p.frame r.frames.pinned;
          free = λ wanted. let free = r.frames.free wanted in let fewer = free_after pins before after (next_bytes out m.gathered) lease p.frame wanted in omega (arith, free, fewer, long);
        };
      }))
    where
      full_more : out.count ≡ length out.firsts * page_entries out.shape → length m.gathered ≡ page_entries out.shape → length (out.firsts ++ p.first ∷ []) ≡ length out.firsts + 1
          → out.count + length m.gathered ≡ length (out.firsts ++ p.first ∷ []) * page_entries out.shape
      full_more full page long =
          let all : length (out.firsts ++ p.first ∷ []) * page_entries out.shape ≡ suc (length out.firsts) * page_entries out.shape = ap
          (λ (k : ℕ). k * page_entries out.shape) (let e : length (out.firsts ++ p.first ∷ []) ≡ suc (length out.firsts) = omega (arith, long) in e) in
          omega (arith, full, page, all, suc-mul (length out.firsts) (page_entries out.shape))

  same_rest : (out' : Kept) (m' : Merger) (pool' : Blocks) (flash : Flash) (after : Frames) → out' ≡ out → pool' ≡ pool → after ≡ before
      → Running source target pins out m' pool flash before es fs → Running source target pins out' m' pool' flash after es fs
  same_rest out' m' pool' flash after o p a run =
      subst (λ (x : Frames). Running source target pins out' m' pool' flash x es fs) (sym a)
      (subst (λ (x : Blocks). Running source target pins out' m' x flash before es fs) (sym p)
      (subst (λ (x : Kept). Running source target pins x m' pool flash before es fs) (sym o) run))

  same_all : (m' : Merger) (new : BoardState) → new ≡ old → m' ≡ m → Running source target pins out m' pool new.pages before es fs
  same_all m' new n e =
      subst (λ (x : BoardState). Running source target pins out m' pool x.pages before es fs) (sym n) (subst (λ (x : Merger). Running source target pins out x pool old.pages before es fs) (sym e) r)

  -- each action
  pub acts_on : (next : Next) (out' : Kept) (m' : Merger) (pool' : Blocks) (new : BoardState) (after : Frames)
      → Tells source target out m next → Acts source target pins out m pool old before next out' m' pool' new after
      → Running source target pins out' m' pool' new.pages after es fs
  acts_on LoadSource out' m' pool' new after t (l, o, p, a) = same_rest out' m' pool' new.pages after o p a (loads_source m' new l)
  acts_on LoadTarget out' m' pool' new after t (l, o, p, a) = same_rest out' m' pool' new.pages after o p a (loads_target m' new l)
  acts_on TakeBlock out' m' pool' new after t (b, e, a, fits) =
      subst (λ (x : Frames). Running source target pins out' m' pool' new.pages x es fs) (sym a)
      (subst (λ (x : Merger). Running source target pins out' x pool' new.pages before es fs) (sym e) (takes_block out' pool' new t.0.some t.1 b fits))
  acts_on Program out' m' pool' new after t (b, e, p) =
      let within = r.merging.stands.within in
      let ne = t.1 in
      subst (λ (x : Blocks). Running source target pins out' m' x new.pages after es fs) (sym p) (programs out' m' new after t.0 (omega (arith, within, ne)) b e)
  acts_on next out' m' pool' new after t none = same_rest out' m' pool' new.pages after none.2 none.3 none.4 (same_all m' new none.0 none.1)

-- no action leaves the level
pub acts_level : {X : Type 0} (source : Source X) (target : Kept) (pins : Bool) (out : Kept) (m : Merger) (pool : Blocks)
    (old : BoardState) (before : Frames) (next : Next) (out' : Kept) (m' : Merger) (pool' : Blocks) (new : BoardState) (after : Frames)
    → Acts source target pins out m pool old before next out' m' pool' new after → out'.level ≡ out.level
acts_level source target pins out m pool old before LoadSource out' m' pool' new after (l, o, p, a) = ap (λ (r : Kept). r.level) o
acts_level source target pins out m pool old before LoadTarget out' m' pool' new after (l, o, p, a) = ap (λ (r : Kept). r.level) o
acts_level source target pins out m pool old before TakeBlock out' m' pool' new after (k, e, a, fits) = ap (λ (r : Kept). r.level) k.run_is
acts_level source target pins out m pool old before Program out' m' pool' new after (k, e, p) = ap (λ (r : Kept). r.level) k.run_is
acts_level source target pins out m pool old before next out' m' pool' new after none = ap (λ (r : Kept). r.level) none.2

-- at the end the output represents the whole merge, in as many blocks as it needs
pub stands_done : {X : Type 0} (source : Source X) (target : Kept) (pins : Bool) (out : Kept) (m : Merger) (pool : Blocks) (flash : Flash) (arena : Frames) (es fs : List Entry)
    → IsShape out.shape → IsDone source target m
    → Running source target pins out m pool flash arena es fs → IsOutputWhole pins out flash arena (merged out.level es fs)
stands_done source target pins out m pool flash arena es fs is done r =
    let g = r.merging in
    let none : m.gathered ++ left out.level es fs m ≡ [] = ap (λ (xs : List Entry). xs ++ left out.level es fs m) done.1 ∙ left_end source target flash arena es fs m out.level g.cursors done.0 in
    let least : 8 ≤ out.shape.block_pages = is.block_least in
    let spare = g.no_spare in
    let within = g.stands.within in
    let waits : length m.gathered ≡ 0 = ap length done.1 in
    record {
      stands = subst (λ (xs : List Entry). RunOnFlash out flash arena xs) (sym (g.makes ∙ ap (λ (xs : List Entry). g.entries ++ xs) none ∙ append-nil g.entries)) g.stands;
      blocks = sym (pages_are (run_pages out.shape out.count) out.shape.block_pages (length out.blocks) (omega arith)
          (let e = g.stands.pages in omega (arith, e, within)) (let e = g.stands.pages in omega (arith, e, spare, waits)));
      pinned = r.frames.pinned;
    }

look_same : (other : Kept) (es : List Entry) (old new : BoardState) (before after : Frames) → new.pages ≡ old.pages
    → after ≡ before → RunOnFlash other old.pages before es → RunOnFlash other new.pages after es
look_same other es old new before after p a s = subst (λ (x : Frames). RunOnFlash other new.pages x es) (sym a) (subst (λ (f : Flash). RunOnFlash other f before es) (sym p) s)

-- each action leaves the other runs
pub acts_leave : {X : Type 0} (source : Source X) (target : Kept) (pins : Bool) (out : Kept) (m : Merger) (pool : Blocks)
    (old : BoardState) (before : Frames) (next : Next) (out' : Kept) (m' : Merger) (pool' : Blocks) (new : BoardState) (after : Frames)
    → IsShape out.shape → pool.shape ≡ out.shape → Acts source target pins out m pool old before next out' m' pool' new after → LeavesRuns pool out old.pages before new.pages after
acts_leave source target pins out m pool old before LoadSource out' m' pool' new after is shape (l, o, p, a) other es same meta apart s =
    look_same other es old new before after (ap (λ (b : BoardState). b.pages) l.board ∙ look_pages_in source m.source old) a s
acts_leave source target pins out m pool old before LoadTarget out' m' pool' new after is shape (l, o, p, a) other es same meta apart s =
    look_same other es old new before after (ap (λ (b : BoardState). b.pages) l.board ∙ look_pages (slice_get target.leases (own_page m.target)) old) a s
acts_leave source target pins out m pool old before TakeBlock out' m' pool' new after is shape (t, e, a, fits) other es same meta apart s =
    subst (λ (x : Frames). RunOnFlash other new.pages x es) (sym a)
    ((moves pool old.pages new.pages (same_meta pool t.block old.pages new.pages (subst IsShape (sym shape) is) t.spare (same_but pool.shape t.block old new t.cuts)) other before es s
    (subst IsShape (sym same) is) (shape ∙ sym same) meta).1 es s)
acts_leave source target pins out m pool old before Program out' m' pool' new after is shape (t, e, p) other es same meta apart s = t.others other es apart same s
acts_leave source target pins out m pool old before next out' m' pool' new after is shape none other es same meta apart s =
    look_same other es old new before after (ap (λ (b : BoardState). b.pages) none.0) none.4 s
