-- Runs that were read one after another, as the reading of a flash has them.
use Rattle.std.proofs.Common.{◌≡◌, inl, inr, ℕ, zero, suc, ◌+◌, ◌-◌, ◌<◌, ◌≤◌, Bool, true, List, [], ◌∷◌, ◌++◌, length, get_or, take, drop, refl, sym, ap, subst, ◌∙◌, arith, Some, Result, Ok}
use Rattle.std.proofs.Common.{Err, append-nil, append_assoc, length-take}
use Rattle.std.{proofs.Math.Seq.take-suc, proofs.Math.Seq.drop-cons, proofs.Math.Seq.take-suc-set, proofs.lemmas.List.drop_all, proofs.lemmas.List.length-set}
use Rattle.std.{specs.Prelude.nat_le, specs.Prelude.slice_get, specs.Prelude.slice_index, specs.Prelude.slice_index_or, proofs.Math.ListN.set, proofs.lemmas.Bool.cases_lt, proofs.lemmas.List.take_all}
use Rattle.std.{proofs.lemmas.Bool.le-leb, proofs.lemmas.Bool.lt-leb, proofs.lemmas.Option.get_or_from_slice_get}
use Rattle.pk_base.{specs.Shape.Shape, specs.Shape.caps, specs.Shape.cap, specs.Entry.Entry, specs.Page.Page, specs.Page.Flash, specs.Page.page_at}
use Rattle.pk_base.specs.Refusal.{Refusal, damaged, ◌>>=◌}
use Rattle.pk_nand.specs.BoardState.{BoardState}
use Rattle.pk_meta.specs.Run.{run}
use Rattle.pk_rootfmt.{specs.Root.Root, specs.Root.is_root, specs.Held.Held, specs.Held.total}
use Rattle.pk_pin.specs.Frames.{Frames, free_frames}
use Rattle.pk_run.specs.Kept.{Kept, RunOnFlash}
use Rattle.pk_level.{specs.Levels.Levels, specs.Levels.RunsOnFlash, specs.Levels.with_run, specs.Arenas.IsPinnedIf, specs.Arenas.leases_of, proofs.Arenas.leases-append}
use Rattle.pk_model.{specs.Found.runs_from, specs.RootLimits.root_spaces}
use Rattle.pk_scan.{specs.Runs.HasRun, specs.Runs.NotRead, specs.Runs.LeasedMore, specs.Runs.RunsStand, specs.Opening.OnlyReads, proofs.Opened.behind_reads, proofs.Opened.whole_refuses}
use Rattle.pk_scan.specs.OpeningParts.{HaveBlocks, PartNotOpened, HaveFrames, LoadsLevel, LoadsRuns, MayLoadLevel, wanted_behind, opening_of}
use Rattle.pk_scan.specs.declared.errors.PageError.TheVariants.{Damaged as PageDamaged, Fault as PageFault}
use Rattle.pk_scan.{proofs.Leasing.leased_none, proofs.Leasing.leased_more, specs.declared.errors.PageError.PageError, specs.declared.errors.OpenError.OpenError}

-- what a pinned level needs
wanted_one : (k p : ℕ) (xs : List ℕ) → k < p → total (drop k (take p xs)) ≡ get_or xs k 0 + total (drop (suc k) (take p xs))
wanted_one k zero xs h = absurd (omega (arith, h))
wanted_one zero (suc p) [] h = refl
wanted_one (suc k) (suc p) [] h = refl
wanted_one zero (suc p) (x ∷ xs) h = refl
wanted_one (suc k) (suc p) (x ∷ xs) h = wanted_one k p xs (omega (arith, h))

wanted_none : (k p : ℕ) (xs : List ℕ) → p ≤ k → total (drop k (take p xs)) ≡ 0
wanted_none zero zero xs h = refl
wanted_none (suc k) zero xs h = refl
wanted_none zero (suc p) xs h = absurd (omega (arith, h))
wanted_none (suc k) (suc p) [] h = refl
wanted_none (suc k) (suc p) (x ∷ xs) h = wanted_none k p xs (omega (arith, h))

-- ---- runs that match the flash

stand_kept : (flash : Flash) (old new : Frames) → RunsStand old new → (rs : List Kept) (ess : List (List Entry)) → RunsOnFlash flash old rs ess → RunsOnFlash flash new rs ess
stand_kept flash old new kept [] [] each = tt
stand_kept flash old new kept (r ∷ rs) (es ∷ ess) each = (kept r flash es each.0, stand_kept flash old new kept rs ess each.1)
stand_kept flash old new kept _ _ each = absurd each

stand_more : (flash : Flash) (arena : Frames) (rs : List Kept) (ess : List (List Entry)) (r : Kept) (es : List Entry)
    → RunsOnFlash flash arena rs ess → RunOnFlash r flash arena es → RunsOnFlash flash arena (rs ++ r ∷ []) (ess ++ es ∷ [])
stand_more flash arena [] [] r es each one = (one, tt)
stand_more flash arena (y ∷ rs) (x ∷ ess) r es each one = (each.0, stand_more flash arena rs ess r es each.1 one)
stand_more flash arena _ _ r es each one = absurd each

-- ---- blocks and frames of runs

blocks_more : (shape : Shape) (rs : List Kept) (bss : List (List ℕ)) (r : Kept) (bs : List ℕ)
    → HaveBlocks shape rs bss → r.shape ≡ shape → r.blocks ≡ bs → HaveBlocks shape (rs ++ r ∷ []) (bss ++ bs ∷ [])
blocks_more shape [] [] r bs have same is = (same, is, tt)
blocks_more shape (y ∷ rs) (xs ∷ bss) r bs have same is = (have.0, have.1, blocks_more shape rs bss r bs have.2 same is)
blocks_more shape _ _ r bs have same is = absurd have

frames_more : (pinned level here : ℕ) (rs : List Kept) (counts : List ℕ) (r : Kept) (count : ℕ)
    → HaveFrames pinned level rs counts → here ≡ level + length rs → r.count ≡ count → IsPinnedIf (nat_le here pinned) r
    → HaveFrames pinned level (rs ++ r ∷ []) (counts ++ count ∷ [])
frames_more pinned level here [] [] r count have place is frames =
    let same : here ≡ level = omega (arith, place) in (is, subst (λ (n : ℕ). IsPinnedIf (nat_le n pinned) r) same frames, tt)
frames_more pinned level here (y ∷ rs) (c ∷ counts) r count have place is frames = (have.0, have.1, frames_more pinned (level + 1) here rs counts r count have.2 (omega (arith, place)) is frames)
frames_more pinned level here _ _ r count have place is frames = absurd have

-- ---- one level

module _ (shape : Shape) (root : Root) (level count : ℕ) (bs : List ℕ) (counted : count ≡ slice_index root.counts (level - 1)) (got : slice_get root.runs (level - 1) ≡ Some bs) where
  at_level : (at : ℕ → Page) → run shape (root_spaces shape root) at level (slice_index root.counts (level - 1)) (slice_index_or root.runs (level - 1) []) ≡ run shape (root_spaces shape root) at level count bs
  at_level at = ap (λ (n : ℕ). run shape (root_spaces shape root) at level n (slice_index_or root.runs (level - 1) [])) (sym counted) ∙ ap (run shape (root_spaces shape root) at level count) (get_or_from_slice_get root.runs (level - 1) bs [] got)

  pub level_refused : (at : ℕ → Page) (page : ℕ) → run shape (root_spaces shape root) at level count bs ≡ Err (damaged page)
      → run shape (root_spaces shape root) at level (slice_index root.counts (level - 1)) (slice_index_or root.runs (level - 1) []) ≡ Err (damaged page)
  level_refused at page e = at_level at ∙ e

  pub level_not_loaded : (old new : BoardState) (e : PageError) → NotRead shape (root_spaces shape root) level count bs old new e
      → PartNotOpened (run shape (root_spaces shape root) (page_at old.pages) level (slice_index root.counts (level - 1)) (slice_index_or root.runs (level - 1) [])) old new (opening_of e)
  level_not_loaded old new (PageDamaged page) why = (level_refused (page_at old.pages) page why.read, (why.index + 1, why.board))
  level_not_loaded old new PageFault why = (why.flash, why.read)

  pub level_loaded : (flash : Flash) (before after : Frames) (old new : Levels) (kept : Kept) (pins : Bool)
      → HasRun shape (root_spaces shape root) level count bs flash after kept → RunsStand before after → LeasedMore before after kept.leases → IsPinnedIf pins kept
      → kept.shape ≡ shape → kept.blocks ≡ bs → kept.count ≡ count → nat_le level old.pinned ≡ pins
      → length kept.firsts ≤ cap shape level → new ≡ with_run old level kept → LoadsLevel shape root level flash before after old new
  level_loaded flash before after old new kept pins has others more pinned shape_is blocks_are count_is test few is = record {
    entries = has.entries;
    kept = kept;
    finds = at_level (page_at flash) ∙ has.read;
    stands = has.stands;
    shape_is = shape_is;
    blocks_are = blocks_are ∙ sym (get_or_from_slice_get root.runs (level - 1) bs [] got);
    count_is = count_is ∙ counted;
    frames = subst (λ (b : Bool). IsPinnedIf b kept) (sym test) pinned;
    levels = is;
    others = others;
    more = more;
    pinned = λ h. let same : length kept.leases ≡ length kept.firsts = subst (λ (b : Bool). IsPinnedIf b kept)
        (sym test ∙ le-leb level old.pinned h) pinned in let free = more.free in omega (arith, same, free, few);
    unpinned = λ h. let none : kept.leases ≡ [] = subst (λ (b : Bool). IsPinnedIf b kept) (sym test ∙ lt-leb level old.pinned h) pinned in let zero_leases = ap
        (λ (ls : List ℕ). length ls) none in let free = more.free in omega (arith, zero_leases, free);
  }

-- ---- the reading of the runs

abbrev pub behind : List (List Entry) → Result (List (List Entry)) Refusal → Result (List (List Entry)) Refusal
behind ess others = others >>= (λ xs. Ok (ess ++ xs))

abbrev ok_list : List (List Entry) → Result (List (List Entry)) Refusal
ok_list xs = Ok xs

behind_one : (ess : List (List Entry)) (es : List Entry) (others : Result (List (List Entry)) Refusal) → behind ess (others >>= (λ xs. Ok (es ∷ xs))) ≡ behind (ess ++ es ∷ []) others
behind_one ess es (Ok xs) = ap ok_list (sym (append_assoc ess (es ∷ []) xs))
behind_one ess es (Err e) = refl

behind_none : (others : Result (List (List Entry)) Refusal) → others ≡ behind [] others
behind_none (Ok xs) = refl
behind_none (Err e) = refl

module _ (shape : Shape) (spaces : ℕ) (at : ℕ → Page) where
  one_more : (level c : ℕ) (cs bs : List ℕ) (runs : List (List ℕ)) (es : List Entry) → run shape spaces at level c bs ≡ Ok es
      → runs_from shape spaces at level (c ∷ cs) (bs ∷ runs) ≡ (runs_from shape spaces at (level + 1) cs runs >>= (λ xs. Ok (es ∷ xs)))
  unfolding runs_from
  one_more level c cs bs runs es read = rw read refl

  one_refused : (level c : ℕ) (cs bs : List ℕ) (runs : List (List ℕ)) (e : Refusal) → run shape spaces at level c bs ≡ Err e → runs_from shape spaces at level (c ∷ cs) (bs ∷ runs) ≡ Err e
  unfolding runs_from
  one_refused level c cs bs runs e read = rw read refl

  none_left : (level : ℕ) → runs_from shape spaces at level [] [] ≡ Ok []
  unfolding runs_from
  none_left level = refl

-- ---- the loop

-- The first n levels were read, for which frames were leased since the start; the reading of the runs has these entries, and
-- goes on with the other levels.
pub record RunsTo (shape : Shape) (root : Root) (flash : Flash) (pinned : ℕ) (start arena : Frames) (levels : Levels) (k : ℕ) : Type 0 where
  pub ess : List (List Entry)
  pub comes : runs_from shape (root_spaces shape root) (page_at flash) 1 root.counts root.runs ≡ behind ess (runs_from shape (root_spaces shape root) (page_at flash) (suc k) (drop k root.counts) (drop k root.runs))
  pub stand : RunsOnFlash flash arena (take k levels.runs) ess
  pub blocks_are : HaveBlocks shape (take k levels.runs) (take k root.runs)
  pub frames_are : HaveFrames pinned 1 (take k levels.runs) (take k root.counts)
  pub counts_four : length root.counts ≡ 4
  pub runs_four : length root.runs ≡ 4
  pub shape_is : levels.shape ≡ shape
  pub pinned_is : levels.pinned ≡ pinned
  pub four : length levels.runs ≡ 4
  pub page : arena.page_bytes ≡ shape.page_bytes
  pub more : LeasedMore start arena (leases_of (take k levels.runs))
  pub free : wanted_behind shape pinned k ≤ free_frames arena

pub RunsTo-start : {shape : Shape} {root : Root} {flash : Flash} {pinned : ℕ} {arena : Frames} {levels : Levels} → length root.counts ≡ 4 → length root.runs ≡ 4 → levels.shape ≡ shape → levels.pinned ≡ pinned
    → length levels.runs ≡ 4 → arena.page_bytes ≡ shape.page_bytes → wanted_behind shape pinned 0 ≤ free_frames arena → RunsTo shape root flash pinned arena arena levels 0
RunsTo-start {shape} {root} {flash} {arena = arena} counts runs shape_is pinned_is four page free = record {
  ess = [];
  comes = behind_none (runs_from shape (root_spaces shape root) (page_at flash) 1 root.counts root.runs);
  stand = tt;
  blocks_are = tt;
  frames_are = tt;
  counts_four = counts;
  runs_four = runs;
  shape_is = shape_is;
  pinned_is = pinned_is;
  four = four;
  page = page;
  more = leased_none arena;
  free = free;
}

module _ {shape : Shape} {root : Root} {flash : Flash} {pinned : ℕ} {start arena : Frames} {levels : Levels} {k : ℕ}
    (t : RunsTo shape root flash pinned start arena levels k) (h : k < 4) (level : ℕ) (e : level ≡ suc k) where
  d : level - 1 ≡ k
  d = omega (arith, e)

  pub frame_free : level ≤ levels.pinned → cap shape level ≤ free_frames arena
  frame_free low =
      let one = wanted_one k pinned (caps shape) (omega (arith, e, low, t.pinned_is)) in
      let same = ap (λ (j : ℕ). get_or (caps shape) j 0) d in
      let free = t.free in
      omega (arith, one, free, same)

  abbrev reading : ℕ → List ℕ → List (List ℕ) → Result (List (List Entry)) Refusal
  reading n cs bss = runs_from shape (root_spaces shape root) (page_at flash) n cs bss

  abbrev part : ℕ → ℕ → Result (List Entry) Refusal
  part n j = run shape (root_spaces shape root) (page_at flash) n (get_or root.counts j 0) (get_or root.runs j [])

  split : reading (suc k) (drop k root.counts) (drop k root.runs) ≡ reading (suc k) (get_or root.counts k 0 ∷ drop (suc k) root.counts) (get_or root.runs k [] ∷ drop (suc k) root.runs)
  split = ap (λ (cs : List ℕ). reading (suc k) cs (drop k root.runs)) (drop-cons root.counts k 0 (omega (arith, t.counts_four, h)))
      ∙ ap (reading (suc k) (get_or root.counts k 0 ∷ drop (suc k) root.counts)) (drop-cons root.runs k [] (omega (arith, t.runs_four, h)))

  part_is : part level (level - 1) ≡ part (suc k) k
  part_is = ap (part level) d ∙ ap (λ (n : ℕ). part n k) e

  module _ (arena' : Frames) (levels' : Levels) (l : LoadsLevel shape root level flash arena arena' levels levels') where
    taken : take (suc k) levels'.runs ≡ take k levels.runs ++ l.kept ∷ []
    taken = ap (λ (x : Levels). take (suc k) x.runs) l.levels ∙ ap (λ (j : ℕ). take (suc k) (set levels.runs j l.kept)) d ∙ take-suc-set levels.runs k l.kept (omega (arith, t.four, h))

    next_comes : reading 1 root.counts root.runs ≡ behind (t.ess ++ l.entries ∷ []) (reading (suc (suc k)) (drop (suc k) root.counts) (drop (suc k) root.runs))
    next_comes =
        let more : suc k + 1 ≡ suc (suc k) = omega arith in
        t.comes ∙ ap (behind t.ess) (split
        ∙ one_more shape (root_spaces shape root) (page_at flash) (suc k) (get_or root.counts k 0) (drop (suc k) root.counts) (get_or root.runs k []) (drop (suc k) root.runs) l.entries (sym part_is ∙ l.finds))
        ∙ behind_one t.ess l.entries (reading (suc k + 1) (drop (suc k) root.counts) (drop (suc k) root.runs))
        ∙ ap (λ (n : ℕ). behind (t.ess ++ l.entries ∷ []) (reading n (drop (suc k) root.counts) (drop (suc k) root.runs))) more

    more_blocks : HaveBlocks shape (take k levels.runs ++ l.kept ∷ []) (take k root.runs ++ get_or root.runs k [] ∷ [])
    more_blocks = blocks_more shape (take k levels.runs) (take k root.runs) l.kept (get_or root.runs k []) t.blocks_are l.shape_is (l.blocks_are ∙ ap (λ (j : ℕ). get_or root.runs j []) d)

    more_frames : HaveFrames pinned 1 (take k levels.runs ++ l.kept ∷ []) (take k root.counts ++ get_or root.counts k 0 ∷ [])
    more_frames = frames_more pinned 1 level (take k levels.runs) (take k root.counts) l.kept (get_or root.counts k 0) t.frames_are
        (let many = length-take k levels.runs in let four = t.four in omega (arith, e, many, four, h))
        (l.count_is ∙ ap (λ (j : ℕ). get_or root.counts j 0) d) (subst (λ (p : ℕ). IsPinnedIf (nat_le level p) l.kept) t.pinned_is l.frames)

    next_free : wanted_behind shape pinned (suc k) ≤ free_frames arena'
    next_free = elim (cases_lt k pinned) [
      | inl low ↦
          let one = wanted_one k pinned (caps shape) low in
          let free = t.free in
          let same = ap (λ (j : ℕ). get_or (caps shape) j 0) d in
          let left = l.pinned (omega (arith, e, low, t.pinned_is)) in
          omega (arith, one, free, left, same)
      | inr high ↦ let none = wanted_none (suc k) pinned (caps shape) (omega (arith, high)) in omega (arith, none)
    ]

    pub RunsTo-next : RunsTo shape root flash pinned start arena' levels' level
    RunsTo-next = subst (RunsTo shape root flash pinned start arena' levels') (sym e) (record {
      ess = t.ess ++ l.entries ∷ [];
      comes = next_comes;
      stand = subst (λ (rs : List Kept). RunsOnFlash flash arena' rs (t.ess ++ l.entries ∷ [])) (sym taken)
          (stand_more flash arena' (take k levels.runs) t.ess l.kept l.entries (stand_kept flash arena arena' l.others (take k levels.runs) t.ess t.stand) l.stands);
      blocks_are = subst (λ (rs : List Kept). HaveBlocks shape rs (take (suc k) root.runs)) (sym taken)
          (subst (HaveBlocks shape (take k levels.runs ++ l.kept ∷ [])) (sym (take-suc root.runs k [] (omega (arith, t.runs_four, h)))) more_blocks);
      frames_are = subst (λ (rs : List Kept). HaveFrames pinned 1 rs (take (suc k) root.counts)) (sym taken)
          (subst (HaveFrames pinned 1 (take k levels.runs ++ l.kept ∷ [])) (sym (take-suc root.counts k 0 (omega (arith, t.counts_four, h)))) more_frames);
      counts_four = t.counts_four;
      runs_four = t.runs_four;
      shape_is = ap (λ (x : Levels). x.shape) l.levels ∙ t.shape_is;
      pinned_is = ap (λ (x : Levels). x.pinned) l.levels ∙ t.pinned_is;
      four = ap (λ (x : Levels). length x.runs) l.levels ∙ length-set levels.runs (level - 1) l.kept ∙ t.four;
      page = l.more.page ∙ t.page;
      more = subst (LeasedMore start arena') (sym (ap leases_of taken ∙ leases-append (take k levels.runs) (l.kept ∷ []) ∙ ap (λ (ls : List ℕ). leases_of (take k levels.runs) ++ ls) (append-nil l.kept.leases)))
          (leased_more start arena arena' (leases_of (take k levels.runs)) l.kept.leases t.more l.more);
      free = next_free;
    })

  pub RunsTo-refused : (old now new : BoardState) (error : OpenError) → OnlyReads old now → PartNotOpened (part level (level - 1)) now new error → PartNotOpened (reading 1 root.counts root.runs) old new error
  RunsTo-refused old now new error reads why = whole_refuses (part level (level - 1)) (reading 1 root.counts root.runs) old new error
      (λ refusal no. t.comes ∙ ap (behind t.ess) (split ∙ one_refused shape (root_spaces shape root) (page_at flash) (suc k)
      (get_or root.counts k 0) (drop (suc k) root.counts) (get_or root.runs k []) (drop (suc k) root.runs) refusal (sym part_is ∙ no)))
      (behind_reads (part level (level - 1)) old now new error reads why)

-- the next level may be read
pub level_may : {root : Held} {flash : Flash} {pinned : ℕ} {start arena : Frames} {levels : Levels} {k : ℕ} (t : RunsTo root.shape root.root flash pinned start arena levels k) (h : k < 4) (level : ℕ) (e : level ≡ suc k)
    → is_root root.shape root.root ≡ true → MayLoadLevel root level arena levels
level_may t h level e grammar = record {
  least = omega (arith, e);
  most = omega (arith, e, h);
  grammar = grammar;
  shape_is = t.shape_is;
  page_bytes = t.page;
  free = frame_free t h level e;
}

-- all levels were read
pub runs_loaded : {root : Held} {flash : Flash} {start arena : Frames} {old levels : Levels} → old.shape ≡ root.shape
    → RunsTo root.shape root.root flash old.pinned start arena levels 4 → LoadsRuns root flash start arena old levels
runs_loaded {root} {flash} {start} {arena} {old} {levels} same t = record {
  ess = t.ess;
  held = record {
    finds = t.comes ∙ ap (behind t.ess) (ap (λ (cs : List ℕ). reading cs (drop 4 root.root.runs)) (drop_all 4 root.root.counts (omega (arith, t.counts_four)))
        ∙ ap (reading []) (drop_all 4 root.root.runs (omega (arith, t.runs_four))) ∙ none_left root.shape (root_spaces root.shape root.root) (page_at flash) 5) ∙ ap ok_list (append-nil t.ess);
    stand = subst (λ (rs : List Kept). RunsOnFlash flash arena rs t.ess) whole t.stand;
    run_blocks = subst (λ (rs : List Kept). HaveBlocks root.shape rs root.root.runs) whole
        (subst (HaveBlocks root.shape (take 4 levels.runs)) (take_all 4 root.root.runs (omega (arith, t.runs_four))) t.blocks_are);
    run_frames = subst (λ (p : ℕ). HaveFrames p 1 levels.runs root.root.counts) (sym t.pinned_is) (subst (λ (rs : List Kept). HaveFrames old.pinned 1 rs root.root.counts) whole
        (subst (HaveFrames old.pinned 1 (take 4 levels.runs)) (take_all 4 root.root.counts (omega (arith, t.counts_four))) t.frames_are));
  };
  more = subst (λ (rs : List Kept). LeasedMore start arena (leases_of rs)) whole t.more;
  pinned_is = t.pinned_is;
  shape_is = t.shape_is ∙ sym same;
}
  where
    whole : take 4 levels.runs ≡ levels.runs
    whole = take_all 4 levels.runs (omega (arith, t.four))

    reading : List ℕ → List (List ℕ) → Result (List (List Entry)) Refusal
    reading cs bss = runs_from root.shape (root_spaces root.shape root.root) (page_at flash) 5 cs bss
