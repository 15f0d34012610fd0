-- A merge of two runs of one page can be begun, and its output needs one page and one block.
use Rattle.std.proofs.Common.{◌≡◌, ℕ, zero, suc, ◌+◌, ◌*◌, ◌<◌, ◌≤◌, sym, subst, arith, Bool, true, false, cond, List, [], ◌∷◌, ◌++◌, length, slice_get, filter, ◌==◌, is_some, if◌then◌else◌, Option}
use Rattle.std.proofs.Common.{Some, length-append, suc-mul, lt_of_mul-lt-mul_right}
use Rattle.std.{proofs.lemmas.Grind.div_ceil_times, specs.Int.div_ceil, specs.Borrow.Bor, specs.FinMap.Entries.put, specs.FinMap.Entries.by_order}
use Rattle.std.specs.declared.cmp.Ordering.TheVariants.{Less, Equal, Greater}
use Rattle.pk_base.{specs.Key.Key, specs.Key.key_cmp, specs.Shape.Shape, specs.Shape.IsShape, specs.Shape.page_entries, specs.Shape.cap, specs.Shape.run_pages, specs.Shape.run_blocks}
use Rattle.pk_base.{specs.Entry.Entry, specs.Firsts.firsts, specs.Page.Flash}
use Rattle.pk_pin.specs.Frames.{Frames}
use Rattle.pk_plan.specs.declared.owner.Owner.TheVariants.{Meta}
use Rattle.pk_pool.{specs.declared.state.BlockState.TheVariants.Owned, specs.Blocks.Blocks, specs.Blocks.PoolOnFlash}
use Rattle.pk_run.specs.Kept.{Kept}
use Rattle.pk_merge.{specs.declared.source.Source.TheVariants.Run, specs.Outputs.AreMeta, specs.Running.merged, specs.Running.CanBegin}
use Rattle.pk_test_merges.specs.Opened.{IsOpened, HasRoom}

-- ---- no more entries than both lists have

length_put : {X : Type 0} (k : Key) (x : X) (es : List (Key × X)) → length (put key_cmp k x es) ≤ suc (length es)
length_put k x [] = omega arith
length_put k x (e ∷ es) = let rest =
    length_put k x es in elim (key_cmp k e.0) as (λ r. length (by_order r ((k, x) ∷ e ∷ es) ((e.0, x) ∷ es) (e ∷ put key_cmp k x es)) ≤ suc
    (suc (length es))) [ Less ↦ omega arith | Equal ↦ omega arith | Greater ↦ omega (arith, rest) ]

firsts_fewer : (es : List Entry) → length (firsts es) ≤ length es
firsts_fewer [] = omega arith
firsts_fewer (e ∷ es) = let rest = firsts_fewer es in let one = length_put e.0 e.1 (firsts es) in omega (arith, rest, one)

put_fewer : (es : List Entry) → length (filter (λ e. is_some e.1) es) ≤ length es
put_fewer [] = omega arith
put_fewer (e ∷ es) = let rest =
    put_fewer es in elim (is_some e.1) as (λ b. length (cond b (e ∷ filter (λ e. is_some e.1) es) (filter (λ e. is_some e.1) es)) ≤ suc
    (length es)) [ true ↦ omega (arith, rest) | false ↦ omega (arith, rest) ]

kept_fewer : (b : Bool) (es : List Entry) → length (if b then filter (λ e. is_some e.1) es else es) ≤ length es
kept_fewer true es = put_fewer es
kept_fewer false es = omega arith

merged_fewer : (level : ℕ) (es fs : List Entry) → length (merged level es fs) ≤ length es + length fs
merged_fewer level es fs =
    let kept = kept_fewer (level == 4) (firsts (es ++ fs)) in
    let few = firsts_fewer (es ++ fs) in
    let all = length-append es fs in
    omega (arith, kept, few, all)

-- ---- one page, and one block

ceil_one : (x y : ℕ) → 0 < y → x ≤ y → div_ceil x y ≤ 1
ceil_one x y some room =
    let few : div_ceil x y * y < 2 * y = omega (arith, (div_ceil_times x y some).1) in
    let less : div_ceil x y < 2 = lt_of_mul-lt-mul_right y few in
    omega arith

one_page : (shape : Shape) (n : ℕ) → IsShape shape → n ≤ page_entries shape → run_pages shape n ≤ 1
one_page shape n is few = let page : 512 ≤ shape.page_bytes = is.page_least in ceil_one n (page_entries shape) (omega arith) few

one_block : (shape : Shape) (n : ℕ) → IsShape shape → n ≤ page_entries shape → run_blocks shape n ≤ 1
one_block shape n is few =
    let block : 8 ≤ shape.block_pages = is.block_least in
    let pages = one_page shape n is few in
    ceil_one (run_pages shape n) shape.block_pages (omega arith) (omega (arith, pages))

-- ---- the beginning

meta_alone : (pool : Blocks) (block : ℕ) (blocks : List ℕ) → blocks ≡ block ∷ [] → slice_get pool.states block ≡ Some (Owned Meta) → AreMeta pool blocks
meta_alone pool block blocks are own i b got = only i b (subst (λ (bs : List ℕ). slice_get bs i ≡ Some b) are got)
  where
    only : (i b : ℕ) → slice_get (block ∷ []) i ≡ Some b → slice_get pool.states b ≡ Some (Owned Meta)
    only zero b got = subst (λ (x : ℕ). slice_get pool.states x ≡ Some (Owned Meta)) (same block b got) own
      where
        same : (x y : ℕ) → ◌≡◌ {A = Option ℕ} (Some x) (Some y) → x ≡ y
        same x y e = cc
    only (suc i) b got = cc

pub has_cap : (shape other : Shape) (level most : ℕ) → other ≡ shape → 4 ≤ most → most ≡ cap other level → 1 ≤ cap shape level
has_cap shape other level most is some value =
    subst (λ (s : Shape). 1 ≤ cap s level) is (subst (λ (n : ℕ). 1 ≤ n) value (omega (arith, some)))

module _ {X : Type 0} (shape : Shape) (is : IsShape shape) (pool : Blocks) (flash : Flash) (arena : Frames) (source : Bor Kept) (target : Kept) (pins : Bool) (level : ℕ)
    (room : HasRoom shape pool arena) (fits : PoolOnFlash pool flash) (few : source.now.count + target.count ≤ 8)
    (some : 1 ≤ cap shape level) (s : IsOpened shape flash arena 2 source.now) (t : IsOpened shape flash arena 3 target) where
  can_begin : CanBegin {X = X} (Run source) target pins shape level pool flash arena s.entries t.entries
  can_begin =
      let page : 512 ≤ shape.page_bytes = is.page_least in
      let room_in : 8 ≤ page_entries shape = omega arith in
      let fewer : length (merged level s.entries t.entries) ≤ page_entries shape = omega (arith, merged_fewer level s.entries t.entries, s.stands.many, t.stands.many, few, room_in) in
      record {
        has = s.stands;
        stands = t.stands;
        rising = s.stands.rising;
        lists = record { each_source = s.each; each_target = t.each; few = one_of (cap shape level) (page_entries shape) _ some fewer };
        of_source = s.same_shape;
        of_target = t.same_shape;
        of_pool = room.of_pool;
        of_frames = room.of_frames;
        fits = fits;
        source_owned = meta_alone pool 2 source.now.blocks s.blocks_are room.first;
        target_owned = meta_alone pool 3 target.blocks t.blocks_are room.second;
        room = rw room.of_pool (omega (arith, one_block shape _ is fewer, room.block));
        frames = λ pinned. omega (arith, one_page shape _ is fewer, room.frame);
      }
    where
      one_of : (c e n : ℕ) → 1 ≤ c → n ≤ e → n ≤ c * e
      one_of zero e n h few = absurd (omega (arith, h))
      one_of (suc c) e n h few = omega (arith, suc-mul c e, few)

  -- for a job of this shape
  pub begins_for : (own : Shape) → own ≡ shape → CanBegin {X = X} (Run source) target pins own level pool flash arena s.entries t.entries
  begins_for own same = subst (λ (of : Shape). CanBegin {X = X} (Run source) target pins of level pool flash arena s.entries t.entries) (sym same) can_begin
