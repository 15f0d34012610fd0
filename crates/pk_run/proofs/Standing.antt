-- Runs that match a flash: what others leave of them, and another block or page.
use Rattle.std.proofs.Common.{◌≡◌, ◌⊎◌, inl, inr, ℕ, zero, suc, ◌+◌, ◌*◌, ◌/◌, ◌%◌, ◌<◌, ◌≤◌, List, [], ◌∷◌, ◌++◌, length, slice_get, refl, ap, sym, subst, ◌∙◌, arith, Option, Some, None, option_map}
use Rattle.std.proofs.Common.{Ok, length-append, suc-mul, mul-le-mul_right, zero-mul, div-lt_iff_lt-mul}
use Rattle.std.{proofs.Math.ListN.get_or-append, proofs.lemmas.Bool.cases_lt, proofs.lemmas.Option.slice_get_within}
use Rattle.pk_base.{specs.Key.Key, specs.Shape.Shape, specs.Shape.IsShape, specs.Shape.page_entries, specs.Shape.run_pages, specs.Entry.Entry, specs.Entry.key_of, proofs.ShapeLemmas.entries_some}
use Rattle.pk_base.{specs.Page.Flash, specs.Page.page_at, specs.Page.page_in, specs.Page.whole, specs.declared.sizes.TheConstants.MOST_SPACES}
use Rattle.pk_meta.specs.Run.{run}
use Rattle.pk_pin.specs.Frames.{Frames}
use Rattle.pk_run.specs.Kept.{Kept, empty, page_of, IsFrameOf, RunOnFlash, IsNext, IsPinnedAlike, with_page, with_lease}
use Rattle.pk_run.{specs.Laws.SamePages, specs.Laws.StandsElsewhere, specs.Leases.StandsBare, proofs.Pieces.pages_are, proofs.Pieces.run_same, proofs.Pieces.run_more, proofs.Pieces.page_in_spaces}

-- a lease is of a page of the run
pub leased_page : (r : Kept) (flash : Flash) (arena : Frames) (es : List Entry) → RunOnFlash r flash arena es → (j lease : ℕ) → slice_get r.leases j ≡ Some lease → j < length r.firsts
leased_page r flash arena es s j lease got = let few = s.leased in omega (arith, few, slice_get_within r.leases j lease got)

-- a run whose pages are the same, with these leases
with_leases : (r : Kept) (old new : Flash) (before after : Frames) (es : List Entry) (leases : List ℕ) → SamePages r old new → RunOnFlash r old before es → length leases ≤ length r.firsts
    → ((j lease : ℕ) → slice_get leases j ≡ Some lease → IsFrameOf new after (page_of r j) lease) → RunOnFlash (record r { leases = leases }) new after es
with_leases r old new before after es leases pages s few frames = record {
  read = run_same r.shape MOST_SPACES (page_at old) (page_at new) r.level r.count r.blocks r.blocks (λ j h. (refl, pages j (omega (arith, s.pages)))) ∙ s.read;
  many = s.many;
  rising = s.rising;
  pages = s.pages;
  within = s.within;
  starts = s.starts;
  leased = few;
  frames = frames;
}

pub RunOnFlash-elsewhere : StandsElsewhere
RunOnFlash-elsewhere r old new before after es pages frames s = with_leases r old new before after es r.leases pages s s.leased (λ j lease got.
    let had = s.frames j lease got in
    let same = frames j lease got had.leased in
    record { leased = same.0; bytes = pages j (leased_page r old before es s j lease got) ∙ had.bytes ∙ ap (λ (bytes : List ℕ). whole bytes) (sym same.1) })

no_pages : (shape : Shape) → IsShape shape → run_pages shape 0 ≡ 0
no_pages shape is = pages_are 0 (page_entries shape) 0 (entries_some shape is) (omega arith)
    (let z : 0 * page_entries shape ≡ 0 = zero-mul (page_entries shape) in omega (arith, z, entries_some shape is))

pub RunOnFlash-empty : (shape : Shape) (level : ℕ) (flash : Flash) (arena : Frames) → IsShape shape → RunOnFlash (empty shape level) flash arena []
unfolding run
RunOnFlash-empty shape level flash arena is = record {
  read = rw (no_pages shape is) refl;
  many = refl;
  rising = tt;
  pages = sym (no_pages shape is);
  within = omega arith;
  starts = λ j h. absurd (omega arith);
  leased = omega arith;
  frames = λ j lease got. cc;
}

-- ---- one more block

pub get_left : {X : Type 0} (xs ys : List X) (i : ℕ) → i < length xs → slice_get (xs ++ ys) i ≡ slice_get xs i
get_left [] ys i h = absurd (omega arith)
get_left (x ∷ xs) ys zero h = refl
get_left (x ∷ xs) ys (suc i) h = get_left xs ys i (omega arith)

pub get_right : {X : Type 0} (xs ys : List X) (n : ℕ) → n ≡ length xs → slice_get (xs ++ ys) n ≡ slice_get ys 0
get_right [] ys zero e = refl
get_right (x ∷ xs) ys (suc n) e = get_right xs ys n (omega arith)
get_right xs ys n e = absurd (omega arith)

-- one more at the end
pub from_more : (xs : List ℕ) (b i c : ℕ) → slice_get (xs ++ b ∷ []) i ≡ Some c → (slice_get xs i ≡ Some c) ⊎ ((i ≡ length xs) × (c ≡ b))
from_more [] b zero c got = inr (refl, cc)
from_more [] b (suc i) c got = cc
from_more (x ∷ xs) b zero c got = inl got
from_more (x ∷ xs) b (suc i) c got = elim (from_more xs b i c got) [ inl there ↦ inl there | inr last ↦ inr (ap suc last.0, last.1) ]

-- a place in the blocks is the same if there are more
pub same_place : (shape : Shape) (blocks : List ℕ) (b j : ℕ) → IsShape shape → j < length blocks * shape.block_pages → page_in shape (blocks ++ b ∷ []) j ≡ page_in shape blocks j
same_place shape blocks b j is h =
    let some : 0 < shape.block_pages = let least : 8 ≤ shape.block_pages = is.block_least in omega arith in
    let lt : j / shape.block_pages < length blocks = (div-lt_iff_lt-mul some).1 h in
    ap (λ (k : ℕ). k * shape.block_pages + j % shape.block_pages) (get_or-append blocks (b ∷ []) 0 (j / shape.block_pages) lt)

pub RunOnFlash-block : (r : Kept) (b : ℕ) (flash : Flash) (arena : Frames) (es : List Entry) → IsShape r.shape
    → RunOnFlash r flash arena es → RunOnFlash (record r { blocks = r.blocks ++ b ∷ [] }) flash arena es
RunOnFlash-block r b flash arena es is s =
    let more : length r.blocks * r.shape.block_pages ≤ length (r.blocks ++ b ∷ []) * r.shape.block_pages = mul-le-mul_right r.shape.block_pages
    (let e = length-append r.blocks (b ∷ []) in omega (arith, e)) in
    let place : (j : ℕ) → j < length r.firsts → page_in r.shape (r.blocks ++ b ∷ []) j ≡ page_in r.shape r.blocks j = λ j h. same_place r.shape r.blocks b j is (omega (arith, s.within)) in
    record {
      read = run_same r.shape MOST_SPACES (page_at flash) (page_at flash) r.level r.count r.blocks (r.blocks ++ b ∷ []) (λ j h. (place j (omega (arith, s.pages)), refl)) ∙ s.read;
      many = s.many;
      rising = s.rising;
      pages = s.pages;
      within = omega (arith, s.within, more);
      starts = s.starts;
      leased = s.leased;
      frames = λ j lease got.
          subst (λ (page : ℕ). IsFrameOf flash arena page lease) (sym (place j (leased_page r flash arena es s j lease got))) (s.frames j lease got);
    }

-- ---- one more page

times_less : (i j size : ℕ) → 0 < size → i < j → i * size < j * size
times_less i j size some h =
    let step : suc i * size ≤ j * size = mul-le-mul_right size h in
    omega (arith, suc-mul i size)

module _ (r : Kept) (flash : Flash) (arena : Frames) (es more : List Entry) (first : Key) where
  pages_length : length (r.firsts ++ first ∷ []) ≡ suc (length r.firsts)
  pages_length = let e = length-append r.firsts (first ∷ []) in omega (arith, e)

  starts_more : 0 < page_entries r.shape → length es ≡ length r.firsts * page_entries r.shape
      → ((j : ℕ) → j < length r.firsts → slice_get r.firsts j ≡ option_map key_of (slice_get es (j * page_entries r.shape)))
      → option_map key_of (slice_get more 0) ≡ Some first
      → (j : ℕ) → j < length (r.firsts ++ first ∷ []) → slice_get (r.firsts ++ first ∷ []) j ≡ option_map key_of (slice_get (es ++ more) (j * page_entries r.shape))
  starts_more some many starts begins j h =
      let size : ℕ = page_entries r.shape in
      elim (cases_lt j (length r.firsts)) [
        | inl before ↦
            let less = times_less j (length r.firsts) size some before in
            get_left r.firsts (first ∷ []) j before ∙ starts j before ∙ ap (option_map key_of) (sym (get_left es more (j * size) (omega (arith, less, many))))
        | inr past ↦
            let here : j ≡ length r.firsts = omega (arith, h, past, pages_length) in
            let at : j * size ≡ length es = ap (λ (k : ℕ). k * size) here ∙ sym many in
            get_right r.firsts (first ∷ []) j here ∙ sym begins ∙ ap (option_map key_of) (sym (get_right es more (j * size) at))
      ]

  leased_more : (lease : Option ℕ) → IsPinnedAlike r flash arena lease → length (with_lease r.leases lease) ≤ length (r.firsts ++ first ∷ [])
  leased_more None alike = let none : length r.leases ≡ 0 = ap (λ (ls : List ℕ). length ls) alike in omega (arith, none)
  leased_more (Some lease) alike = let e = length-append r.leases (lease ∷ []) in let all = alike.0 in omega (arith, e, all, pages_length)

  frames_more : ((j lease : ℕ) → slice_get r.leases j ≡ Some lease → IsFrameOf flash arena (page_of r j) lease)
      → (lease : Option ℕ) → IsPinnedAlike r flash arena lease
      → (j l : ℕ) → slice_get (with_lease r.leases lease) j ≡ Some l → IsFrameOf flash arena (page_of r j) l
  frames_more had None alike j l got = had j l got
  frames_more had (Some lease) alike j l got = elim (from_more r.leases lease j l got) [
    | inl before ↦ had j l before
    | inr last ↦ rw (last.0, last.1, alike.0) alike.1
  ]

pub RunOnFlash-page : (r : Kept) (flash : Flash) (arena : Frames) (es more : List Entry) (first : Key) (lease : Option ℕ) (n : ℕ) → IsShape r.shape
    → r.count ≡ length r.firsts * page_entries r.shape → length r.firsts < length r.blocks * r.shape.block_pages → 1 ≤ n → n ≤ page_entries r.shape
    → RunOnFlash r flash arena es → IsNext r flash arena es more first lease → length more ≡ n → RunOnFlash (with_page r first lease n) flash arena (es ++ more)
RunOnFlash-page r flash arena es more first lease n is full place some most s next many =
    let size : ℕ = page_entries r.shape in
    let pages : ℕ = length r.firsts in
    let positive : 0 < size = entries_some r.shape is in
    let was : run r.shape MOST_SPACES (page_at flash) r.level (pages * size) r.blocks ≡ Ok es = subst (λ (k : ℕ). run r.shape MOST_SPACES (page_at flash) r.level k r.blocks ≡ Ok es) full s.read in
    let now = run_more r.shape MOST_SPACES (page_at flash) r.level pages r.blocks next.bytes es more is (omega (arith, some, many)) (omega (arith, most, many)) was next.here next.holds next.rising next.deepest
    (page_in_spaces r.shape r.level (length r.firsts) (length more) next.bytes more next.holds) in
    let count : pages * size + length more ≡ r.count + n = omega (arith, full, many) in
    let sum = length-append es more in
    let long = pages_length r flash arena es more first in
    record {
      read = subst (λ (k : ℕ). run r.shape MOST_SPACES (page_at flash) r.level k r.blocks ≡ Ok (es ++ more)) count now;
      many = omega (arith, sum, s.many, many);
      rising = next.rising;
      pages = long ∙ sym (pages_are (r.count + n) size (suc pages) positive (omega (arith, full, most, suc-mul pages size)) (omega (arith, full, some, suc-mul pages size)));
      within = omega (arith, long, place);
      starts = starts_more r flash arena es more first positive (s.many ∙ full) s.starts next.begins;
      leased = leased_more r flash arena es more first lease next.alike;
      frames = frames_more r flash arena es more first s.frames lease next.alike;
    }

-- ---- one more frame

pub RunOnFlash-frame : (r : Kept) (flash : Flash) (arena : Frames) (es : List Entry) (lease : ℕ) → RunOnFlash r flash arena es → length r.leases < length r.firsts
    → IsFrameOf flash arena (page_of r (length r.leases)) lease → RunOnFlash (record r { leases = r.leases ++ lease ∷ [] }) flash arena es
RunOnFlash-frame r flash arena es lease s some here =
    let e = length-append r.leases (lease ∷ []) in
    with_leases r flash flash arena arena es (r.leases ++ lease ∷ []) (λ j h. refl) s (omega (arith, e, some))
    (λ j l got. elim (from_more r.leases lease j l got) [ inl before ↦ s.frames j l before | inr last ↦ rw (last.0, last.1) here ])

-- ---- without its frames

pub RunOnFlash-bare : StandsBare
RunOnFlash-bare r flash before after es s = with_leases r flash flash before after es [] (λ j h. refl) s (omega arith) (λ j lease got. cc)
