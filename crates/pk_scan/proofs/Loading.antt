-- A run whose pages are read one after another.
use Rattle.std.proofs.Common.{◌≡◌, ℕ, suc, ◌+◌, ◌-◌, ◌*◌, ◌/◌, ◌^◌, ◌<◌, ◌≤◌, min, Bool, true, false, is_some, List, [], ◌∷◌, ◌++◌, length, take, refl, ap, sym, subst, ◌∙◌, arith, Option, Some, not}
use Rattle.std.proofs.Common.{◌||◌, ◌==◌, None, option_map, Err, append_assoc, append-nil, length-append, suc-mul, mul-le-mul_right, mul_comm, zero-mul, div-lt_iff_lt-mul}
use Rattle.std.{proofs.lemmas.List.take_more as more, proofs.lemmas.Option.slice_get_within, proofs.lemmas.Option.get_or_from_slice_get}
use Rattle.std.{specs.Prelude.slice_get, specs.Prelude.slice_index, specs.List.AllByRecursion, proofs.lemmas.Grind.div_ceil_times}
use Rattle.pk_base.{specs.Key.Key, specs.Shape.Shape, specs.Shape.IsShape, specs.Shape.page_entries, specs.Shape.run_pages, specs.Shape.run_blocks, specs.Shape.blocks_of, specs.Shape.cap}
use Rattle.pk_base.{specs.Entry.Entry, specs.Entry.key_of, specs.EntryChecks.IsEntry, specs.Refusal.damaged, proofs.ShapeLemmas.entries_some, proofs.Logic.left_part, proofs.Logic.right_part}
use Rattle.pk_base.specs.Page.{Page, Flash, IsFlash, page_at, page_in, whole, pages_of_blocks}
use Rattle.pk_meta.{specs.Page.meta_entries, specs.PageChecks.IsMetaPage, specs.Run.meta, specs.Run.run, proofs.Reading.meta_held}
use Rattle.pk_nand.{specs.BoardState.BoardState, specs.Calls.IsReady, specs.Operations.ReadFailed, specs.Operations.after_read, specs.Operations.filled, specs.Seen.answer, specs.Counts.after_reads}
use Rattle.pk_nand.specs.declared.types.PageRead.{PageRead}
use Rattle.pk_nand.specs.declared.types.PageRead.TheVariants.{Whole as ReadWhole}
use Rattle.pk_pin.specs.Frames.{Frames, free_frames, KeepsPage}
use Rattle.pk_run.{proofs.Standing.RunOnFlash-empty, proofs.Pieces.share, proofs.Pieces.meta_next}
use Rattle.pk_run.specs.Kept.{Kept, empty, most_blocks, RunOnFlash, IsNext, IsPinned, IsPinnedAlike, page_of, with_page, with_lease}
use Rattle.pk_scan.{specs.declared.errors.PageError.PageError, specs.declared.errors.PageError.TheVariants.Damaged, specs.declared.errors.PageError.TheVariants.Fault}
use Rattle.pk_scan.specs.Runs.{RunBlocksExist, HasRun, ComesTo, NotRead, LeasedMore, LoadsPages, AwaitsPages, AwaitsPage, IsLast, RunGoesOn, listed, PageAdded, PageTaken, PageRefused, are_put}
use Rattle.pk_scan.proofs.Leasing.{kept_more, leased_none, leased_more, runs_stand}
use Rattle.pk_scan.proofs.Rereading.{meta_refused, last_of, pages_most, blocks_most, more_left, all_counted}
use Rattle.pk_level.specs.Arenas.{IsPinnedIf}
use Rattle.pk_space.specs.Entries.{in_spaces}

-- ---- one page

-- a page of the run's blocks is a page of the flash
pub page_exists : (r : Kept) (flash : Flash) (i : ℕ) → IsShape r.shape → IsFlash r.shape flash
    → RunBlocksExist r.shape r.blocks → i < length r.blocks * r.shape.block_pages → page_of r i < length flash
page_exists r flash i is full exist inside =
    let n : ℕ = r.shape.block_pages in
    let some : 0 < n = let least : 8 ≤ n = is.block_least in omega arith in
    let block : i / n < length r.blocks = (div-lt_iff_lt-mul some).1 inside in
    let b : ℕ = slice_index r.blocks (i / n) in
    let up : suc b * n ≤ r.shape.blocks * n = mul-le-mul_right n (exist (i / n) block) in
    omega (arith, up, suc-mul b n, mul_comm r.shape.blocks n, full.size, some)

-- what is pinned stays so
alike : (pins : Bool) (r : Kept) (flash : Flash) (before after : Frames) (lease : Option ℕ) (bytes : List ℕ) → IsPinnedIf pins r → KeepsPage pins before after bytes lease
    → page_at flash (page_of r (length r.firsts)) ≡ whole bytes → IsPinnedAlike r flash after lease
alike pins r flash before after None bytes pinned (unwanted, same) here = rw unwanted at pinned
alike pins r flash before after (Some lease) bytes pinned (wanted, free, is_filled, leased, holds) here =
    (rw wanted at pinned, record { leased = leased; bytes = here ∙ ap (λ (b : List ℕ). whole b) (sym holds) })

pub page_taken : (pins : Bool) (spaces : ℕ) (flash : Flash) (before after : Frames) (old new : Kept) (es : List Entry) (many : ℕ) (first last : Key) (lease : Option ℕ) (bytes : List ℕ)
    → 1 ≤ old.level → old.level ≤ 4 → length old.firsts < 2 ^ 32 → 1 ≤ many
    → page_at flash (page_of old (length old.firsts)) ≡ whole bytes
    → IsPinnedIf pins old → KeepsPage pins before after bytes lease
    → ((level index : ℕ) (es : List Entry) → IsMetaPage old.shape bytes level index es → option_map key_of (slice_get es 0) ≡ Some first)
    → ((level index : ℕ) (es : List Entry) → IsMetaPage old.shape bytes level index es → option_map key_of (slice_get es (many - 1)) ≡ Some last)
    → ((flash : Flash) (arena : Frames) (es more : List Entry) → RunOnFlash old flash arena es
    → IsNext old flash arena es more first lease → length more ≡ many → RunOnFlash new flash arena (es ++ more))
    → RunOnFlash old flash before es → (more : List Entry) × RunGoesOn old.shape spaces old.level (length old.firsts) many es bytes more
    → PageTaken spaces flash after old new es many last
page_taken pins spaces flash before after old new es many first last lease bytes least most fits some here pinned keeps begins ends pushed stands (more, goes) =
    let held = meta_held old.shape old.level (length old.firsts) many bytes more least most fits goes.holds in
    let holds : meta_entries old.shape old.level (length old.firsts) (length more) bytes ≡ Some more = subst
    (λ (n : ℕ). meta_entries old.shape old.level (length old.firsts) n bytes ≡ Some more) (sym held.1) goes.holds in
    let next : IsNext old flash after es more first lease = record {
      bytes = bytes;
      here = here;
      holds = holds;
      begins = begins old.level (length old.firsts) more held.0;
      rising = goes.rising;
      deepest = left_part (not (old.level == 4) || are_put more) (in_spaces spaces more) goes.stands;
      alike = alike pins old flash before after lease bytes pinned keeps here;
    } in
    record {
      bytes = bytes;
      more = more;
      here = here;
      goes_on = goes;
      stands = pushed flash after es more (runs_stand before after (listed lease) (kept_more pins before after bytes lease keeps) old flash es stands) next held.1;
      ends = last_of es more (many - 1) last (let m = held.1 in omega (arith, some, m)) (ends old.level (length old.firsts) more held.0);
    }

-- ---- consecutive pages

all_append : (P : Entry → Type 0) (xs ys : List Entry) → AllByRecursion P xs → AllByRecursion P ys → AllByRecursion P (xs ++ ys)
all_append P [] ys front back = back
all_append P (x ∷ xs) ys front back = (front.0, all_append P xs ys front.1 back)

with_listed : (leases : List ℕ) (lease : Option ℕ) → leases ++ listed lease ≡ with_lease leases lease
with_listed leases None = append-nil leases
with_listed leases (Some lease) = refl

-- ---- what a read answers

pub read_whole : (p : Page) (r : PageRead) (old new : List ℕ) → r ≡ ReadWhole → r ≡ answer p → new ≡ filled p old → p ≡ whole new
read_whole (whole bytes) r old new is a f = ap (λ (b : List ℕ). whole b) (sym f)
read_whole _ r old new is a f = cc

-- ---- the pages of a run

none_pinned : (pins : Bool) (r : Kept) → r.firsts ≡ [] → r.leases ≡ [] → IsPinnedIf pins r
none_pinned true r firsts leases = ap (λ (ls : List ℕ). length ls) leases ∙ ap (λ (ks : List Key). length ks) (sym firsts)
none_pinned false r firsts leases = leases

module _ (shape : Shape) (spaces level count : ℕ) (blocks : List ℕ) (pins : Bool) (old : BoardState) (arena : Frames) where
  -- i pages were read, and the reading of the run goes on after their entries
  pub record Loading (now : BoardState) (frames : Frames) (r : Kept) (last : Option Key) (i : ℕ) : Type 0 where
    pub es : List Entry
    pub board : now ≡ after_reads i old
    pub shape_is : r.shape ≡ shape
    pub level_is : r.level ≡ level
    pub blocks_are : r.blocks ≡ blocks
    pub pages : length r.firsts ≡ i
    pub counted : r.count ≡ min count (i * page_entries shape)
    pub stands : RunOnFlash r old.pages frames es
    pub ends : IsLast last es
    pub each : AllByRecursion (IsEntry shape) es
    pub pinned : IsPinnedIf pins r
    pub more : LeasedMore arena frames r.leases
    pub comes : ComesTo shape spaces level count blocks old.pages i es

  pub Loading-start : (r : Kept) → r.shape ≡ shape → r.level ≡ level → r.blocks ≡ blocks → r.count ≡ 0 → r.firsts ≡ [] → r.leases ≡ [] → RunOnFlash r old.pages arena [] → Loading old arena r None 0
  unfolding run
  Loading-start r shape_is level_is blocks_are none firsts leases stands = record {
    es = [];
    board = refl;
    shape_is = shape_is;
    level_is = level_is;
    blocks_are = blocks_are;
    pages = ap length firsts;
    counted = let z : 0 * page_entries shape ≡ 0 = zero-mul (page_entries shape) in omega (arith, none, z);
    stands = stands;
    ends = refl;
    each = tt;
    pinned = none_pinned pins r firsts leases;
    more = rw leases (leased_none arena);
    comes = let e : run_pages shape count ≡ run_pages shape count - 0 = omega arith in ap (λ k. meta shape spaces level count 0 [] (pages_of_blocks shape (page_at old.pages) blocks 0 k)) e;
  }

module _ {shape : Shape} {spaces level count : ℕ} {blocks : List ℕ} {pins : Bool} {old : BoardState} {arena : Frames} {now : BoardState} {frames : Frames} {r : Kept} {last : Option Key} {i : ℕ}
    (l : Loading shape spaces level count blocks pins old arena now frames r last i) where
  abbrev size : ℕ
  size = page_entries shape

  pub pages_stay : now.pages ≡ old.pages
  pages_stay = ap (λ b. b.pages) l.board

  pub stays_ready : IsReady old shape → IsReady now shape
  stays_ready ready = rw l.board (record { shape_is = ready.shape_is; flash = ready.flash })

  pub stands_now : RunOnFlash r now.pages frames l.es
  stands_now = subst (λ (f : Flash). RunOnFlash r f frames l.es) (sym pages_stay) l.stands

  -- the next page is that of the run's blocks
  page_is : page_of r (length r.firsts) ≡ page_in shape blocks i
  page_is = rw (l.shape_is, l.blocks_are, l.pages) refl

  goes_is : (many : ℕ) (bytes : List ℕ) (more : List Entry) → RunGoesOn r.shape spaces r.level (length r.firsts) many l.es bytes more ≡ RunGoesOn shape spaces level i many l.es bytes more
  goes_is many bytes more = rw (l.shape_is, l.level_is, l.pages) refl

  -- what remains: this page and the others
  left_here : i < run_pages shape count → run shape spaces (page_at old.pages) level count blocks
      ≡ meta shape spaces level count i l.es
      ((page_in shape blocks i, page_at old.pages (page_in shape blocks i)) ∷ pages_of_blocks shape (page_at old.pages) blocks (i + 1) (run_pages shape count - (i + 1)))
  left_here inside =
      let step : run_pages shape count - i ≡ suc (run_pages shape count - (i + 1)) = omega (arith, inside) in
      l.comes ∙ ap (λ k. meta shape spaces level count i l.es (pages_of_blocks shape (page_at old.pages) blocks i k)) step

  full_so_far : 0 < size → i < run_pages shape count → r.count ≡ i * size
  full_so_far some inside = let less = more_left count size i some inside in omega (arith, l.counted, less)

  pub is_full : 0 < size → i < run_pages shape count → r.count ≡ length r.firsts * page_entries r.shape
  is_full some inside = rw (l.shape_is, l.pages) (full_so_far some inside)

  -- the entries of the next page
  pub some_left : (many : ℕ) → 0 < size → i < run_pages shape count → many ≡ min (count - r.count) size → (1 ≤ many) × (many ≤ size) × (many ≡ share shape count i)
  some_left many some inside is =
      let less = more_left count size i some inside in
      let full = full_so_far some inside in
      (omega (arith, less, full, some), omega arith, omega (arith, full))

  pub room_left : 0 < size → count ≤ cap shape level * size → i < run_pages shape count → length r.firsts < cap r.shape r.level
  room_left some few inside = rw (l.shape_is, l.level_is, l.pages) (let most = pages_most count size (cap shape level) some few in omega (arith, inside, most))

  pub frame_left : run_pages shape count ≤ free_frames arena → pins ≡ true → i < run_pages shape count → 0 < free_frames frames
  frame_left enough wanted inside =
      let pinned : IsPinned r = subst (λ (b : Bool). IsPinnedIf b r) wanted l.pinned in
      omega (arith, enough, inside, pinned, l.pages, l.more.free)

  pages_within : 0 < shape.block_pages → length blocks ≡ run_blocks shape count → i < run_pages shape count → i < length blocks * shape.block_pages
  pages_within positive places inside =
      let all = (div_ceil_times (run_pages shape count) shape.block_pages positive).0 in
      let same = ap (λ (n : ℕ). n * shape.block_pages) places in
      omega (arith, all, same, inside)

  -- all that the next page asks for
  pub page_awaited : (many : ℕ) → 0 < size → 0 < shape.block_pages → i < run_pages shape count → many ≡ min (count - r.count) size
      → RunBlocksExist shape blocks → count ≤ cap shape level * size → length blocks ≡ run_blocks shape count
      → arena.page_bytes ≡ shape.page_bytes → (pins ≡ true → run_pages shape count ≤ free_frames arena) → AwaitsPage pins many frames r
  page_awaited many some positive inside is exist few places page free = record {
    exist = rw (l.shape_is, l.blocks_are) exist;
    within = rw (l.shape_is, l.blocks_are, l.pages) (pages_within positive places inside);
    room = room_left some few inside;
    full = is_full some inside;
    some = rw l.shape_is (let left = some_left many some inside is in (left.0, left.1));
    pinned = l.pinned;
    page_bytes = rw l.shape_is (l.more.page ∙ page);
    free = λ wanted. frame_left (free wanted) wanted inside;
  }

  -- what the pages so far leave
  pub pages_loaded : (was : Kept) → was.shape ≡ shape → was.level ≡ level → was.blocks ≡ blocks → LoadsPages pins old.pages blocks arena frames was r
  pages_loaded was shape_was level_was blocks_was = record {
    es = l.es;
    stands = l.stands;
    shape_is = l.shape_is ∙ sym shape_was;
    level_is = l.level_is ∙ sym level_was;
    blocks_are = l.blocks_are;
    pinned = l.pinned;
    more = l.more;
    others = runs_stand arena frames r.leases l.more;
  }

  -- ---- the page goes on

  pinned_more : (pins : Bool) (first : Key) (lease : Option ℕ) (many : ℕ) → IsPinnedIf pins r → is_some lease ≡ pins → IsPinnedIf pins (with_page r first lease many)
  pinned_more true first None many pinned wanted = let no : false ≡ true = wanted in cc
  pinned_more true first (Some lease) many pinned wanted = omega (arith, length-append r.leases (lease ∷ []), length-append r.firsts (first ∷ []), pinned)
  pinned_more false first None many pinned wanted = pinned
  pinned_more false first (Some lease) many pinned wanted = let no : true ≡ false = wanted in cc

  pub Loading-next : (new : BoardState) (frames' : Frames) (r' : Kept) (key : Key) (many : ℕ) → 1 ≤ level → level ≤ 4 → i < 2 ^ 32 → 0 < size → i < run_pages shape count → many ≡ share shape count i
      → new ≡ after_read now → PageAdded pins frames frames' r r' many → PageTaken spaces now.pages frames' r r' l.es many key → Loading shape spaces level count blocks pins old arena new frames' r' (Some key) (i + 1)
  Loading-next new frames' r' key many least most fits some inside share_is read added taken_now =
      let taken = subst (λ (f : Flash). PageTaken spaces f frames' r r' l.es many key) pages_stay taken_now in
      let one : suc i ≡ i + 1 = omega arith in
      let goes : RunGoesOn shape spaces level i many l.es taken.bytes taken.more = subst (λ (X : Type 0). X) (goes_is many taken.bytes taken.more) taken.goes_on in
      let holds : meta_entries shape level i (share shape count i) taken.bytes ≡ Some taken.more = subst
      (λ (n : ℕ). meta_entries shape level i n taken.bytes ≡ Some taken.more) share_is goes.holds in
      let here : page_at old.pages (page_in shape blocks i) ≡ whole taken.bytes = subst (λ (p : ℕ). page_at old.pages p ≡ whole taken.bytes) page_is taken.here in
      let full = full_so_far some inside in
      record {
        es = l.es ++ taken.more;
        board = read ∙ ap after_read l.board ∙ ap (λ k. after_reads k old) one;
        shape_is = ap (λ (k : Kept). k.shape) added.run ∙ l.shape_is;
        level_is = ap (λ (k : Kept). k.level) added.run ∙ l.level_is;
        blocks_are = ap (λ (k : Kept). k.blocks) added.run ∙ l.blocks_are;
        pages = ap (λ (k : Kept). length k.firsts) added.run ∙ (let e = length-append r.firsts (added.first ∷ []) in omega (arith, e, l.pages));
        counted = ap (λ (k : Kept). k.count) added.run
            ∙ (let less = more_left count size i some inside in let up : (i + 1) * size ≡ i * size + size = ap (λ (k : ℕ). k * size) (sym one)
            ∙ suc-mul i size in omega (arith, full, share_is, less, up));
        stands = taken.stands;
        ends = taken.ends;
        each = all_append (IsEntry shape) l.es taken.more l.each (meta_held shape level i many taken.bytes taken.more least most fits goes.holds).0.content.each;
        pinned = subst (IsPinnedIf pins) (sym added.run) (pinned_more pins added.first added.lease many l.pinned added.wanted);
        more = subst (LeasedMore arena frames') (with_listed r.leases added.lease ∙ ap (λ (k : Kept). k.leases) (sym added.run))
            (leased_more arena frames frames' r.leases (listed added.lease) l.more added.more);
        comes = left_here inside
            ∙ meta_next shape spaces level count i l.es taken.more (page_in shape blocks i) (page_at old.pages (page_in shape blocks i)) taken.bytes
            (pages_of_blocks shape (page_at old.pages) blocks (i + 1) (run_pages shape count - (i + 1))) here holds goes.rising
            (left_part (not (level == 4) || are_put taken.more) (in_spaces spaces taken.more) goes.stands) (right_part (not (level == 4) || are_put taken.more) (in_spaces spaces taken.more) goes.stands);
      }

  -- ---- or it does not

  pub Loading-refused : (new : BoardState) (many : ℕ) (e : PageError) → i < run_pages shape count
      → many ≡ share shape count i → PageRefused spaces now new r l.es many e → NotRead shape spaces level count blocks old new e
  Loading-refused new many (Damaged page) inside share_is refused =
      let one : suc i ≡ i + 1 = omega arith in
      let none : (bytes : List ℕ) (more : List Entry) → page_at old.pages (page_in shape blocks i) ≡ whole bytes → RunGoesOn shape spaces level i (share shape count i) l.es bytes more → ⊥ =
      λ bytes more here goes.
      refused.2 bytes more (ap (λ (f : Flash). page_at f (page_of r (length r.firsts))) pages_stay ∙ ap (page_at old.pages) page_is ∙ here)
      (subst (λ (X : Type 0). X) (sym (goes_is many bytes more)) (subst (λ (n : ℕ). RunGoesOn shape spaces level i n l.es bytes more) (sym share_is) goes)) in
      record {
        index = i;
        within = inside;
        page_is = refused.0 ∙ page_is;
        read = left_here inside
            ∙ meta_refused shape spaces level count i l.es (page_in shape blocks i) (page_at old.pages (page_in shape blocks i))
            (pages_of_blocks shape (page_at old.pages) blocks (i + 1) (run_pages shape count - (i + 1))) none
            ∙ ap (λ p. Err (damaged p)) (sym (refused.0 ∙ page_is));
        board = refused.1 ∙ ap after_read l.board ∙ ap (λ k. after_reads k old) one;
      }
  Loading-refused new many Fault inside share_is refused =
      let failed : ReadFailed (after_reads i old) new (page_in shape blocks i) = subst (λ b. ReadFailed b new (page_in shape blocks i)) l.board (subst (λ p. ReadFailed now new p) page_is refused) in
      record { made = i; within = inside; comes = (l.es, l.comes); failed = failed; flash = failed.flash; read = failed.read }

  -- ---- all pages were read

  pub all_entries : 0 < size → i ≡ run_pages shape count → r.count ≡ count
  all_entries some all = l.counted ∙ ap (λ (k : ℕ). min count (k * size)) all ∙ all_counted count size some

  pub Loading-end : 0 < size → i ≡ run_pages shape count → HasRun shape spaces level count blocks old.pages frames r
  Loading-end some all = record {
    entries = l.es;
    read = let none : run_pages shape count - i ≡ 0 = omega (arith, all) in l.comes ∙ ap (λ k. meta shape spaces level count i l.es (pages_of_blocks shape (page_at old.pages) blocks i k)) none;
    each = l.each;
    counted = all_entries some all;
    stands = l.stands;
  }

-- ---- the blocks of a run

pub take_more : {X : Type 0} (xs : List X) (i : ℕ) (x : X) → slice_get xs i ≡ Some x → take (i + 1) xs ≡ take i xs ++ x ∷ []
take_more xs i x got = more xs i x (slice_get_within xs i x got) ∙ ap (λ y. take i xs ++ y ∷ []) (get_or_from_slice_get xs i x x got)

pub block_added : (old mid new : Kept) (blocks : List ℕ) (i b : ℕ) → slice_get blocks i ≡ Some b
    → mid ≡ record old { blocks = old.blocks ++ take i blocks } → new ≡ record mid { blocks = mid.blocks ++ b ∷ [] }
    → new ≡ record old { blocks = old.blocks ++ take (i + 1) blocks }
block_added old mid new blocks i b got is_mid is_new =
    is_new ∙ ap (λ (r : Kept). record r { blocks = r.blocks ++ b ∷ [] }) is_mid
    ∙ ap (λ (bs : List ℕ). record old { blocks = bs }) (append_assoc old.blocks (take i blocks) (b ∷ []) ∙ ap (λ (bs : List ℕ). old.blocks ++ bs) (sym (take_more blocks i b got)))

-- the blocks of n entries are no more than those of the level
pub blocks_fit : (shape : Shape) (level count : ℕ) → IsShape shape → count ≤ cap shape level * page_entries shape → run_blocks shape count ≤ blocks_of shape (cap shape level)
blocks_fit shape level count is few =
    let some : 0 < shape.block_pages = let least : 8 ≤ shape.block_pages = is.block_least in omega arith in
    blocks_most (run_pages shape count) (cap shape level) shape.block_pages some (pages_most count (page_entries shape) (cap shape level) (entries_some shape is) few)

pub room_for_blocks : (r : Kept) (blocks : List ℕ) (count : ℕ) → IsShape r.shape → r ≡ empty r.shape r.level
    → count ≤ cap r.shape r.level * page_entries r.shape → length blocks ≡ run_blocks r.shape count
    → length r.blocks + length blocks ≤ most_blocks r
room_for_blocks r blocks count is none few many =
    let no : length r.blocks ≡ 0 = ap (λ (k : Kept). length k.blocks) none in
    omega (arith, no, many, blocks_fit r.shape r.level count is few)

pub empty_stands : (r : Kept) (flash : Flash) (arena : Frames) → IsShape r.shape → r ≡ empty r.shape r.level → RunOnFlash r flash arena []
empty_stands r flash arena is none = subst (λ (k : Kept). RunOnFlash k flash arena []) (sym none) (RunOnFlash-empty r.shape r.level flash arena is)

-- a run that had nothing and got its blocks awaits their pages
pub awaits_pages : (r r' : Kept) (blocks : List ℕ) (pins : Bool) (count : ℕ) (flash : Flash) (arena : Frames)
    → IsShape r.shape → r ≡ empty r.shape r.level → r' ≡ record r { blocks = r.blocks ++ blocks }
    → RunBlocksExist r.shape blocks → count ≤ cap r.shape r.level * page_entries r.shape → length blocks ≡ run_blocks r.shape count
    → arena.page_bytes ≡ r.shape.page_bytes → (pins ≡ true → run_pages r.shape count ≤ free_frames arena) → RunOnFlash r' flash arena [] → AwaitsPages pins count flash arena r'
awaits_pages r r' blocks pins count flash arena is none added exist few places page free stands =
    let no_blocks : r.blocks ≡ [] = ap (λ (k : Kept). k.blocks) none in
    let now : r' ≡ record (empty r.shape r.level) { blocks = blocks } = added ∙ (λ i. record (none i) { blocks = no_blocks i ++ blocks }) in
    subst (λ (k : Kept). AwaitsPages pins count flash arena k) (sym now) (record {
      exist = exist;
      few = few;
      places = places;
      no_entries = refl;
      no_pages = refl;
      no_leases = refl;
      stands = subst (λ (k : Kept). RunOnFlash k flash arena []) now stands;
      page_bytes = page;
      free = free;
    })

-- the blocks that were added are all of the run
pub loads_behind : (pins : Bool) (flash : Flash) (blocks : List ℕ) (before after : Frames) (old mid new : Kept) → old ≡ empty old.shape old.level → mid ≡ record old { blocks = old.blocks ++ blocks }
    → LoadsPages pins flash mid.blocks before after mid new → LoadsPages pins flash blocks before after old new
loads_behind pins flash blocks before after old mid new none added loads =
    let no_blocks : old.blocks ≡ [] = ap (λ (k : Kept). k.blocks) none in
    record {
      es = loads.es;
      stands = loads.stands;
      shape_is = loads.shape_is ∙ ap (λ (k : Kept). k.shape) added;
      level_is = loads.level_is ∙ ap (λ (k : Kept). k.level) added;
      blocks_are = loads.blocks_are ∙ ap (λ (k : Kept). k.blocks) added ∙ ap (λ (bs : List ℕ). bs ++ blocks) no_blocks;
      pinned = loads.pinned;
      more = loads.more;
      others = loads.others;
    }
