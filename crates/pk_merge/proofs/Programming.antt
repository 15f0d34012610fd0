-- An output to which a page or a block is added, and what this leaves of other runs.
use Rattle.std.proofs.Common.{◌≡◌, ◌≢◌, ◌⊎◌, inl, inr, ℕ, ◌+◌, ◌*◌, ◌<◌, ◌≤◌, refl, sym, ap, subst, ◌∙◌, arith, Bool, true, false, not, ◌||◌, ◌==◌, T, is_some, List, [], ◌∷◌, ◌++◌, length, map}
use Rattle.std.proofs.Common.{slice_get, get_or, set, Some, None, Option, option_map, length-append}
use Rattle.std.{specs.List.list_all, specs.List.AllByRecursion, specs.FinMap.Entries.is_sorted, specs.FinMap.Entries.below_all, proofs.lemmas.Bool.cases_lt}
use Rattle.pk_base.{specs.Key.Key, specs.Key.key_cmp, specs.Key.IsBelow, specs.Key.IsRising, specs.Shape.Shape, specs.Shape.IsShape, specs.Entry.Entry, specs.Entry.key_of}
use Rattle.pk_base.{specs.Seen.entry as seen, specs.Seen.entries as seen_all, specs.declared.entry.Entry.Entry as RustEntry, specs.Page.Flash, specs.Page.page_at, specs.Page.whole, specs.Page.page_in}
use Rattle.pk_base.proofs.Logic.{left_part, right_part, less}
use Rattle.pk_meta.{specs.PageChecks.IsContent, proofs.Reading.meta_entries_again}
use Rattle.pk_nand.{specs.BoardState.BoardState, specs.Calls.after_program, specs.Crash.Reached, specs.Crash.SameOutside, proofs.Leaving.page_at-slice_set, proofs.Leaving.page_at-slice_set_same}
use Rattle.pk_nand.proofs.Writing.{SameOutside-set}
use Rattle.pk_pin.specs.Frames.{Frames, leased, KeepsPage}
use Rattle.pk_run.specs.Kept.{Kept, IsNext, IsPinnedAlike, RunOnFlash, page_of, with_page}
use Rattle.pk_run.proofs.Others.{RunOnFlash-outside, RunOnFlash-taken, RunOnFlash-filled}
use Rattle.pk_merge.specs.Outputs.{BlocksApart, IsOutput, ProgramsPage, OthersStand, next_bytes, SameButNext}
use Rattle.pk_merge.proofs.Places.{only_index, other_page}
use Rattle.pk_level.specs.Arenas.{IsPinnedIf}

-- ---- sorted entries rise

all_below : (k : Key) (es : List Entry) → T (below_all key_cmp k es) → AllByRecursion (IsBelow k) (map key_of es)
all_below k [] h = tt
all_below k (e ∷ es) h = (less _ (left_part _ _ h), all_below k es (right_part _ _ h))

pub sorted_rises : (es : List Entry) → T (is_sorted key_cmp es) → IsRising (map key_of es)
sorted_rises [] h = tt
sorted_rises (e ∷ es) h = (all_below e.0 es (left_part _ _ h), sorted_rises es (right_part _ _ h))

-- ---- frames

-- a page that is kept leaves every run
pub kept_stands : (pins : Bool) (old new : Frames) (bytes : List ℕ) (lease : Option ℕ) → KeepsPage pins old new bytes lease
    → (r : Kept) (flash : Flash) (es : List Entry) → RunOnFlash r flash old es → RunOnFlash r flash new es
kept_stands pins old new bytes None k r flash es s = subst (λ (a : Frames). RunOnFlash r flash a es) (sym k.1) s
kept_stands pins old new bytes (Some l) k r flash es s =
    let taken = RunOnFlash-taken r flash old es l k.1 s in
    subst (λ (a : Frames). RunOnFlash r flash a es) (sym k.2) (RunOnFlash-filled r flash (leased old l) es l bytes taken.1 taken.0)

alike : (pins : Bool) (r : Kept) (flash : Flash) (old new : Frames) (bytes : List ℕ) (lease : Option ℕ)
    → KeepsPage pins old new bytes lease → IsPinnedIf pins r → page_at flash (page_of r (length r.firsts)) ≡ whole bytes
    → IsPinnedAlike r flash new lease
alike pins r flash old new bytes None k pinned here = subst (λ (b : Bool). IsPinnedIf b r) k.0 pinned
alike pins r flash old new bytes (Some l) k pinned here =
    (subst (λ (b : Bool). IsPinnedIf b r) k.0 pinned, record { leased = k.3; bytes = here ∙ ap (λ (xs : List ℕ). whole xs) (sym k.4) })

-- every page has a frame, or none has, after it too
pub pinned_page : (pins : Bool) (r : Kept) (old new : Frames) (bytes : List ℕ) (first : Key) (lease : Option ℕ) (n : ℕ)
    → KeepsPage pins old new bytes lease → IsPinnedIf pins r → IsPinnedIf pins (with_page r first lease n)
pinned_page true r old new bytes first (Some l) n k pinned = let a = length-append r.leases (l ∷ []) in let b = length-append r.firsts (first ∷ []) in omega (arith, a, b, pinned)
pinned_page false r old new bytes first None n k pinned = pinned
pinned_page pins r old new bytes first lease n k pinned = let no = k.0 in cc

-- ---- a page

nothing_else : (flash : Flash) (p : ℕ) (bytes : List ℕ) → SameOutside p 1 flash (set flash p (whole bytes))
nothing_else flash p bytes = SameOutside-set p 1 p flash flash (whole bytes) (record { size = refl; below = λ k _. refl; above = λ k _. refl }) (omega arith) (omega arith)

beside : (a p : ℕ) → a ≢ p → (a < p) ⊎ (p + 1 ≤ a)
beside a p ne = elim (cases_lt a p) [ inl below ↦ inl below | inr above ↦ inr (omega (arith, ne, above)) ]

module _ (r : Kept) (flash : Flash) (is : IsShape r.shape) (inside : length r.firsts < length r.blocks * r.shape.block_pages) (bytes : List ℕ) where
  some : 0 < r.shape.block_pages
  some = let least : 8 ≤ r.shape.block_pages = is.block_least in omega arith

  abbrev next : ℕ
  next = page_of r (length r.firsts)

  abbrev flash' : Flash
  flash' = set flash next (whole bytes)

  -- another run
  pub others_stand : (arena : Frames) (other : Kept) (es : List Entry) → BlocksApart other.blocks r.blocks → other.shape ≡ r.shape → RunOnFlash other flash arena es → RunOnFlash other flash' arena es
  others_stand arena other es apart same s =
      RunOnFlash-outside other flash flash' arena es next 1 (nothing_else flash next bytes)
      (λ j h. beside (page_of other j) next (λ e.
      other_page r.shape some r.blocks other.blocks (length r.firsts) j apart inside
      (subst (λ (shape : Shape). j < length other.blocks * shape.block_pages) same (let within = s.within in omega (arith, h, within)))
      (ap (λ (shape : Shape). page_in shape other.blocks j) (sym same) ∙ e))) s

  -- the output itself, which has reached the pages before
  pub output_stands : (arena : Frames) (es : List Entry) → IsOutput r flash → RunOnFlash r flash arena es → RunOnFlash r flash' arena es
  output_stands arena es out s =
      RunOnFlash-outside r flash flash' arena es next 1 (nothing_else flash next bytes)
      (λ j h. beside (page_of r j) next (λ e.
      let same = only_index r.shape some r.blocks out.different (length r.firsts) j inside (omega (arith, h, inside)) e in
      absurd (omega (arith, same, h)))) s

  -- its other pages are Erased as before
  pub output_again : (first : Key) (lease : Option ℕ) (n : ℕ) → IsOutput r flash → IsOutput (with_page r first lease n) flash'
  output_again first lease n out = record {
    different = out.different;
    exist = out.exist;
    unused = λ j past small.
        let more = length-append r.firsts (first ∷ []) in
        page_at-slice_set flash next (page_of r j) (whole bytes)
        (λ e. let same = only_index r.shape some r.blocks out.different (length r.firsts) j inside small e in absurd (omega (arith, same, past, more)))
        ∙ out.unused j (omega (arith, past, more)) small;
  }

-- the next page with these entries follows the others
pub next_page : (pins : Bool) (r : Kept) (flash : Flash) (old new : Frames) (more es : List Entry) (first : Key) (lease : Option ℕ) → IsShape r.shape → IsContent r.shape r.level (length r.firsts) more
    → page_of r (length r.firsts) < length flash → KeepsPage pins old new (next_bytes r more) lease → IsPinnedIf pins r → option_map key_of (slice_get more 0) ≡ Some first
    → T (is_sorted key_cmp (es ++ more)) → T (not (r.level == 4) || list_all (λ e. is_some e.1) more)
    → IsNext r (set flash (page_of r (length r.firsts)) (whole (next_bytes r more))) new es more first lease
next_page pins r flash old new more es first lease is content exists keeps pinned begins rising deepest =
    let here = page_at-slice_set_same flash (page_of r (length r.firsts)) (whole (next_bytes r more)) exists in
    record {
      bytes = next_bytes r more;
      here = here;
      holds = meta_entries_again r.shape r.level (length r.firsts) more is content;
      begins = begins;
      rising = rising;
      deepest = deepest;
      alike = alike pins r _ old new (next_bytes r more) lease keeps pinned here;
    }

pages_after : (r : Kept) (more : List Entry) (old new : BoardState) → new ≡ after_program old (page_of r (length r.firsts)) (next_bytes r more)
    → new.pages ≡ set old.pages (page_of r (length r.firsts)) (whole (next_bytes r more))
pages_after r more old new e = ap (λ (b : BoardState). b.pages) e

module _ (pins : Bool) (r : Kept) (more : List Entry) (old : BoardState) (before : Frames) (new : BoardState) (after : Frames) (lease : Option ℕ) (is : IsShape r.shape)
    (inside : length r.firsts < length r.blocks * r.shape.block_pages)
    (program : new ≡ after_program old (page_of r (length r.firsts)) (next_bytes r more)) (keeps : KeepsPage pins before after (next_bytes r more) lease) where
  others_after : OthersStand r old.pages before new.pages after
  others_after other es apart same s =
      kept_stands pins before after (next_bytes r more) lease keeps other new.pages es
      (subst (λ (f : Flash). RunOnFlash other f before es) (sym (pages_after r more old new program)) (others_stand r old.pages is inside (next_bytes r more) before other es apart same s))

  pub programs_page : (r' : Kept) (first : Key) → IsOutput r old.pages → page_of r (length r.firsts) < length old.pages → IsContent r.shape r.level (length r.firsts) more → IsPinnedIf pins r
      → r' ≡ with_page r first lease (length more) → option_map key_of (slice_get more 0) ≡ Some first
      → ((flash : Flash) (arena : Frames) (es next : List Entry) → RunOnFlash r flash arena es
      → IsNext r flash arena es next first lease → length next ≡ length more → RunOnFlash r' flash arena (es ++ next))
      → Reached old new (λ flash _. SameButNext r old.pages flash) → ProgramsPage pins r more old before r' new after
  programs_page r' first out exists content pinned run begins adds cuts =
      let pages = pages_after r more old new program in
      record {
        first = first;
        lease = lease;
        run_is = run;
        program = program;
        frame = keeps;
        stands = λ es s rising deepest.
            adds new.pages after es more
            (kept_stands pins before after (next_bytes r more) lease keeps r new.pages es
            (subst (λ (f : Flash). RunOnFlash r f before es) (sym pages) (output_stands r old.pages is inside (next_bytes r more) before es out s)))
            (subst (λ (f : Flash). IsNext r f after es more first lease) (sym pages) (next_page pins r old.pages before after more es first lease is content exists keeps pinned begins rising deepest))
            refl;
        output = subst (λ (f : Flash). IsOutput r' f) (sym pages)
            (subst (λ (x : Kept). IsOutput x (set old.pages (page_of r (length r.firsts)) (whole (next_bytes r more))))
            (sym run) (output_again r old.pages is inside (next_bytes r more) first lease (length more) out));
        others = others_after;
        cuts = cuts;
      }

-- the first key of entries
pub first_of : (es : List RustEntry) (e : RustEntry) (first : Key) → 1 ≤ length (seen_all es) → e ≡ get_or es 0 e → first ≡ key_of (seen e) → option_map key_of (slice_get (seen_all es) 0) ≡ Some first
first_of [] e first some is key = absurd (omega (arith, some))
first_of (x ∷ es) e first some is key = ap (λ (y : RustEntry). Some (key_of (seen y))) (sym is) ∙ ap (λ (k : Key). Some k) (sym key)
