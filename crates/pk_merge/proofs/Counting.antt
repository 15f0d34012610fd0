-- How many steps remain of a merge.
use Rattle.std.proofs.Common.{◌≡◌, inl, inr, ℕ, suc, ◌+◌, ◌-◌, ◌*◌, ◌<◌, ◌≤◌, ap, ◌∙◌, arith, Bool, true, false, if◌then◌else◌, List, [], ◌∷◌, ◌++◌, length, length-append}
use Rattle.pk_base.{specs.Shape.IsShape, specs.Shape.run_pages, specs.Shape.run_blocks, specs.Entry.Entry, specs.Page.Flash}
use Rattle.pk_nand.specs.BoardState.{BoardState}
use Rattle.pk_pin.specs.Frames.{Frames}
use Rattle.pk_plan.specs.declared.owner.Owner.TheVariants.{Meta}
use Rattle.pk_pool.{specs.declared.state.BlockState.TheVariants.Owned, specs.Blocks.Blocks, specs.Blocks.IsSpare, specs.Blocks.with_state, specs.Unready.unready}
use Rattle.pk_pool.proofs.Counting.{taken_ready, taken_free}
use Rattle.pk_run.{specs.Kept.Kept, specs.Kept.IsKept, specs.Kept.most_pages, specs.Kept.most_blocks, proofs.Leasing.at_most_one}
use Rattle.pk_law_work.specs.Rest.{Lowers}
use Rattle.pk_merge.{specs.declared.source.Source.Source, specs.declared.source.Source.TheVariants.Frozen, specs.declared.source.Source.TheVariants.Run, specs.declared.next.Next.Next}
use Rattle.pk_merge.specs.declared.next.Next.TheVariants.{LoadSource, LoadTarget, Gather, TakeBlock, Program, End}
use Rattle.pk_merge.specs.Remaining.{steps_left, LowersTo, IsWithin}
use Rattle.pk_merge.proofs.Needing.{page_to_come, block_to_come, pages_fit, blocks_fit}
use Rattle.pk_merge.{specs.Cursors.Cursor, specs.Cursors.Follows, specs.Cursors.own_page, specs.Cursors.wants_page, specs.Sources.FollowsIn, specs.Sources.pages_in, specs.Sources.wants_page_in}
use Rattle.pk_merge.{specs.Merging.Merger, specs.Merging.Tells, specs.Merging.can_gather, specs.Running.merged, specs.Running.Running, specs.Steps.Acts, proofs.Following.has_not_come}

-- ---- blocks that are taken

-- if no block changes its state, less left is less
same_blocks : (left left' : ℕ) (pool pool' : Blocks) → pool' ≡ pool → left' < left → Lowers left (unready pool.states) left' (unready pool'.states)
same_blocks left left' pool pool' same less =
    let e : unready pool'.states ≡ unready pool.states = ap (λ (p : Blocks). unready p.states) same in
    record { none_ready = omega (arith, e); less = omega (arith, e, less) }

-- two steps less pay for a block that is taken
take_pays : (pool pool' : Blocks) (b left left' : ℕ) → IsSpare pool b → pool' ≡ with_state pool b (Owned Meta) → left' + 2 ≤ left → Lowers left (unready pool.states) left' (unready pool'.states)
take_pays pool pool' b left left' (inl free) is less =
    let e : unready pool'.states ≡ unready pool.states = ap (λ (p : Blocks). unready p.states) is ∙ taken_free pool.states b Meta free in
    record { none_ready = omega (arith, e); less = omega (arith, e, less) }
take_pays pool pool' b left left' (inr ready) is less =
    let e : unready pool'.states ≡ unready pool.states + 1 = ap (λ (p : Blocks). unready p.states) is ∙ taken_ready pool.states b Meta ready in
    record { none_ready = omega (arith, e); less = omega (arith, e, less) }

-- ---- steps

-- the steps that remain, by their parts: pages of the source and of the target, pages and blocks of the output, and whether entries can be taken
abbrev sum : ℕ → ℕ → ℕ → ℕ → ℕ → ℕ
sum a b c d e = (a + b) + c + 2 * d + e

fewer_1 : (a x b c d e : ℕ) → x < a → sum x b c d 0 < sum a b c d e
fewer_1 a x b c d e h = omega (arith, h)

fewer_2 : (a b x c d e : ℕ) → x < b → sum a x c d 0 < sum a b c d e
fewer_2 a b x c d e h = omega (arith, h)

fewer_3 : (a b c x d e : ℕ) → x < c → sum a b x d 0 < sum a b c d e
fewer_3 a b c x d e h = omega (arith, h)

fewer_4 : (a b c d x e : ℕ) → x < d → sum a b c x 0 + 2 ≤ sum a b c d e
fewer_4 a b c d x e h = omega (arith, h)

fewer_5 : (a b c d : ℕ) → sum a b c d 0 < sum a b c d 1
fewer_5 a b c d = omega arith

abbrev bit : Bool → ℕ
bit x = if x then 1 else 0

-- a page that the source's cursor wanted and has reached
source_nearer : {X : Type 0} (source : Source X) (flash : Flash) (c d : Cursor) → wants_page_in source c ≡ true
    → FollowsIn source flash d → d.loaded ≡ suc (own_page c) → pages_in source - d.loaded < pages_in source - c.loaded
source_nearer (Frozen x) flash c d wants f loaded = let no : false ≡ true = wants in cc
source_nearer (Run r) flash c d wants f loaded = let pages = f.pages in let before = has_not_come c wants in omega (arith, pages, before, loaded)

target_nearer : (target : Kept) (flash : Flash) (c d : Cursor) → wants_page c ≡ true → Follows flash target d
    → d.loaded ≡ suc (own_page c) → length target.firsts - d.loaded < length target.firsts - c.loaded
target_nearer target flash c d wants f loaded = let pages = f.pages in let before = has_not_come c wants in omega (arith, pages, before, loaded)

module _ {X : Type 0} (source : Source X) (target : Kept) (pins : Bool) (out : Kept) (m : Merger) (pool : Blocks)
    (old : BoardState) (before : Frames) (es fs : List Entry) (is : IsShape out.shape) (kept : IsKept out)
    (r : Running source target pins out m pool old.pages before es fs) where
  abbrev count : ℕ
  count = length (merged out.level es fs)

  -- as many, but with no entry that can be taken at once
  settled : (out' : Kept) (m' m'' : Merger) → m''.source.loaded ≡ m'.source.loaded → m''.target.loaded ≡ m'.target.loaded → can_gather source target m'' ≡ false
      → (pages blocks : ℕ) → steps_left source target out' m'' pages blocks
      ≡ sum (pages_in source - m'.source.loaded) (length target.firsts - m'.target.loaded) (pages - length out'.firsts) (blocks - length out'.blocks) 0
  settled out' m' m'' s t stuck pages blocks = λ i.
      sum (pages_in source - s i) (length target.firsts - t i) (pages - length out'.firsts) (blocks - length out'.blocks) (ap bit stuck i)

  pub fewer_steps : (next : Next) (out' : Kept) (m' m'' : Merger) (pool' : Blocks) (new : BoardState) (after : Frames)
      → Tells source target out m next → Acts source target pins out m pool old before next out' m' pool' new after
      → m''.source.loaded ≡ m'.source.loaded → m''.target.loaded ≡ m'.target.loaded → can_gather source target m'' ≡ false
      → (pages blocks : ℕ) → run_pages out.shape count ≤ pages → run_blocks out.shape count ≤ blocks → LowersTo source target out m pool out' m'' pool' pages blocks
  fewer_steps LoadSource out' m' m'' pool' new after t (l, o, p, a) s u stuck pages blocks up vp =
      let nearer = source_nearer source old.pages m.source m'.source t.1 l.follows (ap (λ (x : Merger). x.source.loaded) l.merger) in
      let same : m'.target.loaded ≡ m.target.loaded = ap (λ (x : Merger). x.target.loaded) l.merger in
      inr (same_blocks _ _ pool pool' p (rw (settled out' m' m'' s u stuck pages blocks, o, same) (fewer_1 _ _ _ _ _ _ nearer)))
  fewer_steps LoadTarget out' m' m'' pool' new after t (l, o, p, a) s u stuck pages blocks up vp =
      let nearer = target_nearer target old.pages m.target m'.target t.1 l.follows (ap (λ (x : Merger). x.target.loaded) l.merger) in
      let same : m'.source.loaded ≡ m.source.loaded = ap (λ (x : Merger). x.source.loaded) l.merger in
      inr (same_blocks _ _ pool pool' p (rw (settled out' m' m'' s u stuck pages blocks, o, same) (fewer_2 _ _ _ _ _ _ nearer)))
  fewer_steps Gather out' m' m'' pool' new after t (n, e, o, p, a) s u stuck pages blocks up vp =
      let one : bit (can_gather source target m) ≡ 1 = ap bit t in
      inr (same_blocks _ _ pool pool' p (rw (settled out' m' m'' s u stuck pages blocks, o, ap (λ (x : Merger). x.source.loaded) e, ap (λ (x : Merger). x.target.loaded) e, one) (fewer_5 _ _ _ _)))
  fewer_steps End out' m' m'' pool' new after t (n, e, o, p, a) s u stuck pages blocks up vp = inl t
  fewer_steps TakeBlock out' m' m'' pool' new after t (k, e, a, fits) s u stuck pages blocks up vp =
      let more = block_to_come source target out m old.pages before es fs is kept r.lists r.merging t.0.some t.1 in
      let long = length-append out.blocks (k.block ∷ []) in
      inr (take_pays pool pool' k.block _ _ k.spare k.pool_is (rw (settled out' m' m'' s u stuck pages blocks, k.run_is, ap (λ (x : Merger). x.source.loaded) e, ap (λ (x : Merger). x.target.loaded) e)
      (fewer_4 _ _ _ _ _ _ (let f : blocks - length (out.blocks ++ k.block ∷ []) < blocks - length out.blocks = omega (arith, more, long, vp) in f))))
  fewer_steps Program out' m' m'' pool' new after t (k, e, p) s u stuck pages blocks up vp =
      let more = page_to_come source target out m old.pages before es fs is kept r.lists r.merging t.0.some in
      let long = length-append out.firsts (k.first ∷ []) in
      inr (same_blocks _ _ pool pool' p (rw (settled out' m' m'' s u stuck pages blocks, k.run_is, ap (λ (x : Merger). x.source.loaded) e, ap (λ (x : Merger). x.target.loaded) e)
      (fewer_3 _ _ _ _ _ _ (let f : pages - length (out.firsts ++ k.first ∷ []) < pages - length out.firsts = omega (arith, more, long, up) in f))))

  -- for as many pages and blocks as its level may have
  pub fewer_of_level : (next : Next) (out' : Kept) (m' m'' : Merger) (pool' : Blocks) (new : BoardState) (after : Frames)
      → Tells source target out m next → Acts source target pins out m pool old before next out' m' pool' new after
      → m''.source.loaded ≡ m'.source.loaded → m''.target.loaded ≡ m'.target.loaded → can_gather source target m'' ≡ false
      → LowersTo source target out m pool out' m'' pool' (most_pages out) (most_blocks out)
  fewer_of_level next out' m' m'' pool' new after t acts s u stuck =
      fewer_steps next out' m' m'' pool' new after t acts s u stuck (most_pages out) (most_blocks out) (pages_fit out es fs is r.lists) (blocks_fit out es fs is r.lists)

-- ---- a whole merge

pub within : {X : Type 0} (source : Source X) (target out : Kept) (m : Merger) → IsWithin source target out m
within source target out m few fewer = let one = at_most_one (can_gather source target m) in omega (arith, few, fewer, one)
