-- What a merge with a next page needs: room in its level, blocks and frames.
use Rattle.std.proofs.Common.{◌≡◌, ◌≢◌, inl, inr, ℕ, ◌+◌, ◌*◌, ◌<◌, ◌≤◌, sym, ap, subst, ◌∙◌, arith, Bool, true, false, T, not, ◌||◌, ◌==◌, is_some, List, [], ◌∷◌, ◌++◌, length, length-append}
use Rattle.std.proofs.Common.{append_assoc, lt_of_mul-lt-mul_right}
use Rattle.std.{proofs.lemmas.Grind.div_ceil_times, specs.Int.div_ceil, specs.List.list_all, specs.List.AllByRecursion, specs.FinMap.Entries.is_sorted, specs.FinMap.Entries.below_all}
use Rattle.pk_base.{specs.Key.Key, specs.Key.key_cmp, specs.Shape.Shape, specs.Shape.IsShape, specs.Shape.page_entries, specs.Shape.run_pages, specs.Shape.run_blocks, specs.Entry.Entry}
use Rattle.pk_base.{specs.EntryChecks.IsEntry, specs.Page.Flash, proofs.Logic.left_part, proofs.Logic.right_part, proofs.Logic.both, proofs.ShapeLemmas.entries_some}
use Rattle.pk_meta.specs.PageChecks.{IsContent}
use Rattle.pk_pin.specs.Frames.{Frames, free_frames}
use Rattle.pk_plan.{specs.declared.owner.Owner.TheVariants.Meta, specs.Quotas.quota_of}
use Rattle.pk_pool.specs.Blocks.{Blocks, used_by}
use Rattle.pk_run.specs.Kept.{Kept, IsKept, most_pages, most_blocks}
use Rattle.pk_law_work.proofs.Paging.{few_pages, few_blocks}
use Rattle.pk_merge.{specs.declared.source.Source.Source, specs.Merging.Merger, specs.Merging.left, specs.Outputs.MayProgram, proofs.Programming.sorted_rises}
use Rattle.pk_merge.specs.Running.{merged, CanStand, Merging, HasBlocks, HasFrames}
use Rattle.pk_merge.proofs.Overs.{output_sorted, output_deepest, output_all, all_left, all_right}

-- ---- numbers

-- more than k pieces are needed for more than k times n
pub ceil_above : (total n k : ℕ) → 0 < n → k * n < total → k < div_ceil total n
ceil_above total n k some more =
    let up = (div_ceil_times total n some).0 in
    let less : k * n < div_ceil total n * n = omega (arith, more, up) in
    lt_of_mul-lt-mul_right n less

-- ---- parts of sorted lists

below_left : (k : Key) (xs ys : List Entry) → T (below_all key_cmp k (xs ++ ys)) → T (below_all key_cmp k xs)
below_left k [] ys h = tt
below_left k (x ∷ xs) ys h = both _ _ (left_part _ _ h) (below_left k xs ys (right_part _ _ h))

pub sorted_left : (xs ys : List Entry) → T (is_sorted key_cmp (xs ++ ys)) → T (is_sorted key_cmp xs)
sorted_left [] ys h = tt
sorted_left (x ∷ xs) ys h = both _ _ (below_left x.0 xs ys (left_part _ _ h)) (sorted_left xs ys (right_part _ _ h))

pub sorted_right : (xs ys : List Entry) → T (is_sorted key_cmp (xs ++ ys)) → T (is_sorted key_cmp ys)
sorted_right [] ys h = h
sorted_right (x ∷ xs) ys h = sorted_right xs ys (right_part _ _ h)

deep_left : (b : Bool) (xs ys : List Entry) → T (not b || list_all (λ e. is_some e.1) (xs ++ ys)) → T (not b || list_all (λ e. is_some e.1) xs)
deep_left b [] ys h = elim b as (λ b. T (not b || true)) [ true ↦ tt | false ↦ tt ]
deep_left true (x ∷ xs) ys h = both _ _ (left_part _ _ h) (deep_left true xs ys (right_part _ _ h))
deep_left false (x ∷ xs) ys h = tt

deep_right : (b : Bool) (xs ys : List Entry) → T (not b || list_all (λ e. is_some e.1) (xs ++ ys)) → T (not b || list_all (λ e. is_some e.1) ys)
deep_right b [] ys h = h
deep_right true (x ∷ xs) ys h = deep_right true xs ys (right_part _ _ h)
deep_right false (x ∷ xs) ys h = tt

not_empty : (xs ys : List Entry) → 1 ≤ length xs → xs ++ ys ≡ [] → ⊥
not_empty [] ys h e = omega (arith, h)
not_empty (x ∷ xs) ys h e = cc

-- ---- a merge with a next page

-- the output has no more pages than its level, and no more blocks
pub pages_fit : (out : Kept) (es fs : List Entry) → IsShape out.shape → CanStand out.shape out.level es fs → run_pages out.shape (length (merged out.level es fs)) ≤ most_pages out
pages_fit out es fs is lists = few_pages out.shape out.level (length (merged out.level es fs)) is lists.few

pub blocks_fit : (out : Kept) (es fs : List Entry) → IsShape out.shape → CanStand out.shape out.level es fs → run_blocks out.shape (length (merged out.level es fs)) ≤ most_blocks out
blocks_fit out es fs is lists = few_blocks out.shape out.level (length (merged out.level es fs)) is lists.few

module _ {X : Type 0} (source : Source X) (target out : Kept) (m : Merger) (flash : Flash) (arena : Frames) (es fs : List Entry) (is : IsShape out.shape) (kept : IsKept out)
    (lists : CanStand out.shape out.level es fs) (g : Merging source target out m flash arena es fs) (some : 1 ≤ length m.gathered) where
  abbrev all : List Entry
  all = merged out.level es fs

  abbrev size : ℕ
  size = page_entries out.shape

  positive : 0 < size
  positive = entries_some out.shape is

  -- the pages before it are full
  pub full_before : out.count ≡ length out.firsts * size
  full_before = elim g.full [
    | inl full ↦ full
    | inr none ↦ absurd (not_empty m.gathered (left out.level es fs m) some none)
  ]

  pub more_entries : length out.firsts * size + length m.gathered ≤ length all
  more_entries =
      let many = g.stands.many in
      let full = full_before in
      let sum = ap length g.makes in
      let one = length-append g.entries (m.gathered ++ left out.level es fs m) in
      let two = length-append m.gathered (left out.level es fs m) in
      omega (arith, many, full, sum, one, two)

  more : length out.firsts * size < length all
  more = let e = more_entries in omega (arith, e, some)

  -- there is a page to come
  pub page_to_come : length out.firsts < run_pages out.shape (length all)
  page_to_come = ceil_above (length all) size (length out.firsts) positive more

  pub level_has_room : length out.firsts < most_pages out
  level_has_room =
      let few = lists.few in
      let less : length out.firsts * size < most_pages out * size = omega (arith, more, few) in
      lt_of_mul-lt-mul_right size less

  pub next_content : length m.gathered ≤ size → IsContent out.shape out.level (length out.firsts) m.gathered
  next_content most = record {
    level_least = kept.level_least;
    level_most = kept.level_most;
    index_fits = let pages = kept.pages in let bound = kept.bound in omega (arith, pages, bound);
    some = some;
    most = most;
    each = all_left (IsEntry out.shape) m.gathered (left out.level es fs m)
        (all_right (IsEntry out.shape) g.entries (m.gathered ++ left out.level es fs m)
        (subst (λ (xs : List Entry). AllByRecursion (IsEntry out.shape) xs) g.makes (output_all (IsEntry out.shape) out.level es fs lists.each_source lists.each_target)));
    rising = sorted_rises m.gathered (sorted_left m.gathered (left out.level es fs m)
        (sorted_right g.entries (m.gathered ++ left out.level es fs m) (subst (λ (xs : List Entry). T (is_sorted key_cmp xs)) g.makes (output_sorted out.level es fs))));
  }

  -- its entries follow those of the pages before
  pub next_rises : T (is_sorted key_cmp (g.entries ++ m.gathered))
  next_rises =
      sorted_left (g.entries ++ m.gathered) (left out.level es fs m)
      (subst (λ (xs : List Entry). T (is_sorted key_cmp xs)) (g.makes ∙ sym (append_assoc g.entries m.gathered (left out.level es fs m))) (output_sorted out.level es fs))

  pub next_deepest : T (not (out.level == 4) || list_all (λ e. is_some e.1) m.gathered)
  next_deepest =
      deep_left (out.level == 4) m.gathered (left out.level es fs m)
      (deep_right (out.level == 4) g.entries (m.gathered ++ left out.level es fs m)
      (subst (λ (xs : List Entry). T (not (out.level == 4) || list_all (λ e. is_some e.1) xs)) g.makes (output_deepest out.level es fs)))

  -- if all pages of its blocks are used, there is a block to come
  module _ (used : length out.firsts ≡ length out.blocks * out.shape.block_pages) where
    pub block_to_come : length out.blocks < run_blocks out.shape (length all)
    block_to_come =
        let least : 8 ≤ out.shape.block_pages = is.block_least in
        let page = page_to_come in
        ceil_above (run_pages out.shape (length all)) out.shape.block_pages (length out.blocks) (omega arith) (omega (arith, page, used))

    pub blocks_have_room : length out.blocks < most_blocks out
    blocks_have_room =
        let block = block_to_come in
        let le = blocks_fit out es fs is lists in
        omega (arith, block, le)

    pub below_quota : (pool : Blocks) → HasBlocks source target out pool flash (length all) → used_by Meta pool.states < quota_of pool.shape Meta
    below_quota pool b = let block = block_to_come in let room = b.room in omega (arith, block, room)

  pub frame_to_come : (pins : Bool) → HasFrames source target pins out arena (length all) → pins ≡ true → 0 < free_frames arena
  frame_to_come pins f is_pinned = let page = page_to_come in let free = f.free is_pinned in omega (arith, page, free)

  -- it may be programmed
  pub may_program : (pins : Bool) → HasFrames source target pins out arena (length all)
      → m.shape ≡ out.shape → arena.page_bytes ≡ out.shape.page_bytes
      → length m.gathered ≤ page_entries m.shape
      → length out.firsts ≢ length out.blocks * out.shape.block_pages
      → MayProgram pins out m.gathered flash arena
  may_program pins f of_merger of_frames most ne = record {
    entries = g.entries;
    stands = g.stands;
    output = g.output;
    place = let within = g.stands.within in omega (arith, within, ne);
    room = level_has_room;
    full = full_before;
    content = next_content (subst (λ (s : Shape). length m.gathered ≤ page_entries s) of_merger most);
    pinned = f.pinned;
    free = frame_to_come pins f;
    frames = of_frames;
  }
