-- A lookup in a run: which page may have the key, and what that page says of the whole run.
use Rattle.std.proofs.Common.{◌≡◌, ℕ, suc, ◌+◌, ◌*◌, ◌<◌, ◌≤◌, T, List, [], length, slice_get, get_or, take, drop, ap, sym, subst, ◌∙◌, arith, Option, Some, None, option_map, ◌/◌, ◌%◌}
use Rattle.std.proofs.Common.{div-lt_iff_lt-mul, suc-mul, zero-mul, mul-le-mul_right, lt_of_mul-lt-mul_right}
use Rattle.std.{proofs.lemmas.Grind.div_ceil_times, proofs.lemmas.List.get_or_default, specs.FinMap.Entries.find, specs.FinMap.Entries.is_sorted}
use Rattle.std.proofs.lemmas.Option.{slice_get_within, slice_get-get_or}
use Rattle.pk_base.{specs.Key.Key, specs.Key.key_cmp, specs.Shape.Shape, specs.Shape.IsShape, specs.Shape.page_entries, specs.Entry.Entry, specs.Entry.key_of, specs.Seen.entry as seen}
use Rattle.pk_base.{specs.declared.entry.Entry.Entry as RustEntry, specs.Page.Flash, specs.Page.IsFlash, specs.Page.page_at, specs.Page.page_in, specs.Page.whole, specs.Page.torn}
use Rattle.pk_base.specs.declared.sizes.TheConstants.{MOST_SPACES}
use Rattle.pk_meta.{specs.PageChecks.IsMetaPage, specs.PageChecks.IsEntryOf, specs.PageChecks.Decodes, proofs.Reading.meta_held}
use Rattle.pk_nand.{specs.BoardState.BoardState, specs.Calls.IsReady, specs.Operations.after_read}
use Rattle.pk_pin.specs.Frames.{Frames, frame_of}
use Rattle.pk_run.{specs.Kept.Kept, specs.Kept.IsKept, specs.Kept.RunOnFlash, specs.Kept.page_of, proofs.Pieces.pieces, proofs.Pieces.share}
use Rattle.pk_run.specs.Search.{IsFound, IsBeforeAll, IsPageFor}
use Rattle.pk_run.proofs.Orders.{find_piece, find_nowhere, absent, present, sorted_drop, sorted_take}

-- an entry that is the first of a page has the page's first key
pub first_is : (r : Kept) (flash : Flash) (arena : Frames) (es : List Entry) → IsShape r.shape → RunOnFlash r flash arena es → (j : ℕ) (e : Entry) → slice_get es (j * page_entries r.shape) ≡ Some e
    → slice_get r.firsts j ≡ Some (key_of e)
first_is r flash arena es is s j e got =
    let size : ℕ = page_entries r.shape in
    let page : 512 ≤ r.shape.page_bytes = is.page_least in
    let some : 0 < size = omega arith in
    let room = (div_ceil_times r.count size some).0 in
    let inside : j * size < length r.firsts * size = rw s.pages (omega (arith, slice_get_within es (j * size) e got, s.many, room)) in
    s.starts j (lt_of_mul-lt-mul_right size inside) ∙ ap (option_map key_of) got

-- no page begins at or before the key: there is no entry of it
pub found_nowhere : (r : Kept) (flash : Flash) (arena : Frames) (es : List Entry) (key : Key) → IsShape r.shape → RunOnFlash r flash arena es → IsBeforeAll key r.firsts → find key_cmp key es ≡ None
found_nowhere r flash arena es key is s above =
    let none : 0 * page_entries r.shape ≡ 0 = zero-mul (page_entries r.shape) in
    find_nowhere key es s.rising (λ e got. above (key_of e) (first_is r flash arena es is s 0 e (ap (slice_get es) none ∙ got)))

few : {r : Kept} → IsKept r → length r.firsts ≤ 1000000
few kept = omega (arith, kept.pages, kept.bound)

module _ (r : Kept) (flash : Flash) (arena : Frames) (es : List Entry) (is : IsShape r.shape) (s : RunOnFlash r flash arena es) where
  abbrev size : ℕ
  size = page_entries r.shape

  -- the entries of a page
  abbrev piece : ℕ → List Entry
  piece p = take size (drop (p * size) es)

  -- a page of the run has a first entry
  pub page_starts : (p : ℕ) → p < length r.firsts → p * size < length es
  page_starts p h =
      let page : 512 ≤ r.shape.page_bytes = is.page_least in
      let some : 0 < size = omega arith in
      let few = (div_ceil_times r.count size some).1 in
      let up_to : suc p * size ≤ length r.firsts * size = mul-le-mul_right size h in
      let bound : length r.firsts * size < r.count + size = rw s.pages few in
      omega (arith, suc-mul p size, s.many, up_to, bound)

  -- the key is found in the page that may have it as in the run
  pub found_there : (key : Key) (p : ℕ) → IsPageFor key r.firsts p → find key_cmp key (piece p) ≡ find key_cmp key es
  found_there key p for_key =
      let none : Entry = ([], None) in
      let e : Entry = get_or es (p * size) none in
      let got : slice_get es (p * size) ≡ Some e = slice_get-get_or es (p * size) none (page_starts p for_key.exists) in
      find_piece key es size p e s.rising got (for_key.here (key_of e) (first_is r flash arena es is s p e got))
      (λ f later. for_key.next (key_of f) (first_is r flash arena es is s (suc p) f later))

  -- a page of the run holds its piece
  pub holds_piece : IsKept r → (p : ℕ) (bytes : List ℕ) → p < length r.firsts → page_at flash (page_of r p) ≡ whole bytes
      → IsMetaPage r.shape bytes r.level p (piece p)
  holds_piece kept p bytes exists here =
      let least = kept.level_least in
      let most = kept.level_most in
      let has = pieces r.shape MOST_SPACES (page_at flash) r.level r.count r.blocks es is least most (omega (arith, s.pages, few kept)) s.read p (omega (arith, s.pages, exists)) in
      let was = has.is_whole in
      let same : has.bytes ≡ bytes = cc in
      let held = meta_held r.shape r.level p (share r.shape r.count p) has.bytes (piece p) least most (omega (arith, exists, few kept)) has.holds in
      subst (λ (xs : List ℕ). IsMetaPage r.shape xs r.level p (piece p)) same held.0

  -- each page of the run is whole
  pub page_stands : IsKept r → (p : ℕ) → p < length r.firsts → (bytes : List ℕ) × (page_at flash (page_of r p) ≡ whole bytes)
  page_stands kept p exists =
      let has = pieces r.shape MOST_SPACES (page_at flash) r.level r.count r.blocks es is kept.level_least kept.level_most (omega (arith, s.pages, few kept)) s.read p (omega (arith, s.pages, exists)) in
      (has.bytes, has.is_whole)

-- what is found in a page's entries
found_in : (key : Key) (entries : List Entry) (found : Option RustEntry) → T (is_sorted key_cmp entries) → IsEntryOf key entries (option_map seen found) → IsFound key entries found
found_in key entries None up of_key = absent key entries of_key
found_in key entries (Some e) up of_key =
    let at = of_key.0 in
    let got : slice_get entries at.0 ≡ Some (seen e) = slice_get-get_or entries at.0 (seen e) at.1 ∙ ap (λ (x : Entry). Some x) at.2 in
    (of_key.1, subst (λ (k : Key). find key_cmp k entries ≡ Some (seen e).1) of_key.1 (present entries at.0 (seen e) up got))

same_find : (key : Key) (piece es : List Entry) (found : Option RustEntry) → find key_cmp key piece ≡ find key_cmp key es → IsFound key piece found → IsFound key es found
same_find key piece es None same is = sym same ∙ is
same_find key piece es (Some e) same is = (is.0, sym same ∙ is.1)

-- the answer of the page that may have the key is the run's
pub answered : (r : Kept) (flash : Flash) (arena : Frames) (es : List Entry) (key : Key) (p : ℕ) (bytes : List ℕ) (found : Option RustEntry)
    → IsShape r.shape → IsKept r → IsPageFor key r.firsts p → page_at flash (page_of r p) ≡ whole bytes
    → ((level index : ℕ) (entries : List Entry) → IsMetaPage r.shape bytes level index entries → IsEntryOf key entries (option_map seen found))
    → RunOnFlash r flash arena es → IsFound key es found
answered r flash arena es key p bytes found is kept for_key here of_page s =
    let holds = holds_piece r flash arena es is s kept p bytes for_key.exists here in
    let entries = take (page_entries r.shape) (drop (p * page_entries r.shape) es) in
    let up = sorted_take (drop (p * page_entries r.shape) es) (page_entries r.shape) (sorted_drop es (p * page_entries r.shape) s.rising) in
    same_find key entries es found (found_there r flash arena es is s key p for_key) (found_in key entries found up (of_page r.level p entries holds))

-- the page decodes
pub decodes : (r : Kept) (flash : Flash) (arena : Frames) (es : List Entry) (p : ℕ) (bytes : List ℕ) → IsShape r.shape → IsKept r
    → p < length r.firsts → page_at flash (page_of r p) ≡ whole bytes → RunOnFlash r flash arena es → Decodes r.shape bytes
decodes r flash arena es p bytes is kept exists here s =
    (r.level, p, take (page_entries r.shape) (drop (p * page_entries r.shape) es), holds_piece r flash arena es is s kept p bytes exists here)

-- ---- pages that exist

whole_not_torn : (bytes : List ℕ) → torn ≡ whole bytes → ⊥
whole_not_torn bytes e = cc

-- ---- frames

-- a frame of the run is full
pub frame_sized : (r : Kept) (flash : Flash) (arena : Frames) (es : List Entry) → IsFlash r.shape flash → RunOnFlash r flash arena es → (p lease : ℕ) → slice_get r.leases p ≡ Some lease
    → length (frame_of arena lease) ≡ r.shape.page_bytes
frame_sized r flash arena es full s p lease got = (full.full (page_of r p) (frame_of arena lease) (s.frames p lease got).bytes).0

-- what was taken from a frame is the page
pub frame_page : (r : Kept) (flash : Flash) (arena : Frames) (es : List Entry) (bytes : List ℕ)
    → RunOnFlash r flash arena es → (p lease : ℕ) → slice_get r.leases p ≡ Some lease → bytes ≡ frame_of arena lease
    → page_at flash (page_of r p) ≡ whole bytes
frame_page r flash arena es bytes s p lease got is = (s.frames p lease got).bytes ∙ ap (λ (xs : List ℕ). whole xs) (sym is)

-- ---- boards

pub ready_read : (board : BoardState) (shape : Shape) → IsReady board shape → IsReady (after_read board) shape
ready_read board shape ready = record { shape_is = ready.shape_is; flash = ready.flash }

-- ---- places

-- the number of a page, as it is read from the blocks
pub place_is : (shape : Shape) (blocks : List ℕ) (x i n : ℕ) → IsShape shape → n ≡ shape.block_pages → x ≡ get_or blocks (i / n) x → i < length blocks * shape.block_pages
    → x * n + i % n ≡ page_in shape blocks i
place_is shape blocks x i n is same read inside =
    let some : 0 < shape.block_pages = let least : 8 ≤ shape.block_pages = is.block_least in omega arith in
    let lt : i / shape.block_pages < length blocks = (div-lt_iff_lt-mul some).1 inside in
    let at : x ≡ get_or blocks (i / shape.block_pages) 0 = (subst (λ (k : ℕ). x ≡ get_or blocks (i / k) x) same read) ∙ sym (get_or_default blocks (i / shape.block_pages) 0 x lt) in
    subst (λ (k : ℕ). x * k + i % k ≡ page_in shape blocks i) (sym same) (ap (λ (b : ℕ). b * shape.block_pages + i % shape.block_pages) at)
