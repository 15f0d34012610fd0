-- Pages that get frames, and the frames that are free for them.
use Rattle.std.proofs.Common.{◌≡◌, inl, inr, ℕ, zero, suc, ◌+◌, ◌-◌, ◌<◌, ◌≤◌, Bool, true, false, if◌then◌else◌, nat_le, List, [], ◌∷◌, ◌++◌, length, map, slice_get, take, drop, sum, refl, ap, sym}
use Rattle.std.proofs.Common.{subst, ◌∙◌, arith, Some, Result, Ok, Err, OnOk, length-append, append-nil, length-set, get_or-set_same}
use Rattle.std.{specs.Prelude.max, specs.Prelude.fold, specs.Prelude.slice_set, specs.Prelude.slice_index_or, specs.Prelude.◌&&◌, specs.Prelude.not, specs.List.AllByRecursion}
use Rattle.std.{proofs.lemmas.Bool.cases_lt, proofs.lemmas.Bool.le-leb, proofs.lemmas.Bool.lt-leb, proofs.lemmas.Bool.leb-true, proofs.lemmas.Bool.leb-false, proofs.lemmas.Option.slice_get-get_or}
use Rattle.pk_base.{specs.Shape.Shape, specs.Shape.cap, specs.Shape.caps, specs.Shape.need, specs.Shape.pinned, specs.Entry.Entry, specs.Page.Flash}
use Rattle.pk_nand.specs.declared.types.Fault.{Fault}
use Rattle.pk_pin.specs.Frames.{Frames, AreLeases, free_frames, leased, filled, times}
use Rattle.pk_pin.proofs.Leases.{times-append, leases_taken, leases_filled, leases_counted, frames_counted}
use Rattle.pk_adapt.{specs.Adapted.pages_of_first, specs.Adapted.adapted, specs.Adapted.IsAdapted, proofs.Fitting.need_most, proofs.Fitting.is_adapted}
use Rattle.pk_run.specs.Kept.{Kept, IsKept, RunOnFlash, FillsPage, empty, is_pinned}
use Rattle.pk_run.proofs.Others.{RunOnFlash-taken, RunOnFlash-filled}
use Rattle.pk_level.specs.Levels.{Levels, IsOfLevel, AreOfLevels, IsLevels, RunsOnFlash, HaveBlocks, run_of, with_run}
use Rattle.pk_level.specs.Arenas.{HasArena, AreBareAbove, FillsRun, IsUnfilled, leases_of, page_counts, last_level, unfilled_from, unfilled, lacks}
use Rattle.pk_level.proofs.Looking.{stands_at, of_level_at}

-- ---- the run of a level

pub got_of : (levels : Levels) (level : ℕ) → IsLevels levels → 1 ≤ level → level ≤ 4 → slice_get levels.runs (level - 1) ≡ Some (run_of levels level)
got_of levels level is least most = let four = is.four in slice_get-get_or levels.runs (level - 1) (empty levels.shape level) (omega (arith, four, least, most))

pub stands_of : (levels : Levels) (flash : Flash) (arena : Frames) (ess : List (List Entry)) (level : ℕ) → IsLevels levels → 1 ≤ level → level ≤ 4 → RunsOnFlash flash arena levels.runs ess
    → (es : List Entry) × (slice_get ess (level - 1) ≡ Some es) × RunOnFlash (run_of levels level) flash arena es
stands_of levels flash arena ess level is least most each = stands_at flash arena levels.runs ess (level - 1) (run_of levels level) each (got_of levels level is least most)

pub level_is : (levels : Levels) (level : ℕ) → IsLevels levels → 1 ≤ level → level ≤ 4 → IsOfLevel levels.shape levels.pinned level (run_of levels level)
level_is levels level is least most =
    let here : 1 + (level - 1) ≡ level = omega (arith, least) in
    subst (λ (l : ℕ). IsOfLevel levels.shape levels.pinned l (run_of levels level)) here
    (of_level_at levels.shape levels.pinned 1 levels.runs (level - 1) (run_of levels level) is.each (got_of levels level is least most))

-- a run of which a page has no frame is of no pinned level
pub above_pinned : (levels : Levels) (last level : ℕ) → IsLevels levels → last ≤ 4 → IsUnfilled last levels level → levels.pinned < level
above_pinned levels last level is few un =
    let least = un.least in
    let most = un.most in
    let some = un.some in
    elim (cases_lt levels.pinned level) [
      | inl above ↦ above
      | inr within ↦
          let all : length (run_of levels level).leases ≡ length (run_of levels level).firsts = (level_is levels level is least (omega (arith, most, few))).frames within in
          absurd (omega (arith, all, some))
    ]

-- ---- how many frames there are

-- most frames of the runs from a level on: those of the pinned levels, and the pages of those up to the last
abbrev bound_from : Shape → ℕ → ℕ → ℕ → List Kept → ℕ
bound_from shape k last level [] = 0
bound_from shape k last level (r ∷ rs) = (if nat_le level k then cap shape level else if nat_le level last then length r.firsts else 0) + bound_from shape k last (suc level) rs

one_bound : (shape : Shape) (k last level : ℕ) (r : Kept) → IsOfLevel shape k level r → IsKept r → (last < level → r.leases ≡ []) → k ≤ last
    → length r.leases + (if nat_le level last then length r.firsts - length r.leases else 0) ≤ (if nat_le level k then cap shape level else if nat_le level last then length r.firsts else 0)
one_bound shape k last level r of_level kept bare low =
    let few = kept.frames in
    elim (cases_lt last level) [
      | inl above ↦
          let none : length r.leases ≡ 0 = ap (λ (ls : List ℕ). length ls) (bare above) in
          rw (lt-leb level last above, lt-leb level k (omega (arith, above, low))) (omega (arith, none))
      | inr within ↦ elim (cases_lt k level) [
        | inl behind ↦ rw (le-leb level last within, lt-leb level k behind) (omega (arith, few))
        | inr pins ↦
            let pages : length r.firsts ≤ cap shape level =
            subst (λ (l : ℕ). length r.firsts ≤ cap shape l) of_level.same_level (subst (λ (s : Shape). length r.firsts ≤ cap s r.level) of_level.same_shape kept.pages) in
            rw (le-leb level last within, le-leb level k pins) (omega (arith, few, pages))
      ]
    ]

leases_bound : (shape : Shape) (k last level : ℕ) (rs : List Kept) → AreOfLevels shape k level rs → AllByRecursion IsKept rs → AreBareAbove last level rs → k ≤ last
    → length (leases_of rs) + unfilled_from last level rs ≤ bound_from shape k last level rs
leases_bound shape k last level [] are kept bare low = omega arith
leases_bound shape k last level (r ∷ rs) are kept bare low =
    let rest = leases_bound shape k last (suc level) rs are.1 kept.1 bare.1 low in
    let both = length-append r.leases (leases_of rs) in
    let own = one_bound shape k last level r are.0 kept.0 bare.0 low in
    omega (arith, rest, both, own)

-- the pages of the levels up to the last
abbrev spare_sum : ℕ → ℕ → List ℕ → ℕ
spare_sum last level [] = 0
spare_sum last level (p ∷ ps) = (if nat_le level last then p else 0) + spare_sum last (suc level) ps

first_none : (n : ℕ) → pages_of_first n [] ≡ 0
first_none zero = refl
first_none (suc n) = refl

spare_sum_is : (last k : ℕ) (ps : List ℕ) → spare_sum last (suc k) ps ≡ pages_of_first (last - k) ps
spare_sum_is last k [] = sym (first_none (last - k))
spare_sum_is last k (p ∷ ps) =
    let rest = spare_sum_is last (suc k) ps in
    elim (cases_lt k last) [
      | inl some ↦
          let more : last - k ≡ suc (last - suc k) = omega (arith, some) in
          let first : pages_of_first (last - k) (p ∷ ps) ≡ p + pages_of_first (last - suc k) ps = ap (λ (n : ℕ). pages_of_first n (p ∷ ps)) more in
          rw (le-leb (suc k) last some) (omega (arith, rest, first))
      | inr none ↦
          let zeroes : last - k ≡ 0 = omega (arith, none) in
          let further : last - suc k ≡ 0 = omega (arith, none) in
          let first : pages_of_first (last - k) (p ∷ ps) ≡ 0 = ap (λ (n : ℕ). pages_of_first n (p ∷ ps)) zeroes in
          let second : pages_of_first (last - suc k) ps ≡ 0 = ap (λ (n : ℕ). pages_of_first n ps) further in
          rw (lt-leb (suc k) last (omega (arith, none))) (omega (arith, rest, first, second))
    ]

abbrev Bounds : Shape → ℕ → ℕ → List Kept → Type 0
Bounds shape k last rs = bound_from shape k last 1 rs ≤ sum (take k (caps shape)) + pages_of_first (last - k) (drop k (page_counts rs))

bound_four : (shape : Shape) (k last : ℕ) (a b c d : Kept) → k ≤ 4 → Bounds shape k last (a ∷ b ∷ c ∷ d ∷ [])
bound_four shape zero last a b c d few = let s = spare_sum_is last 0 (page_counts (a ∷ b ∷ c ∷ d ∷ [])) in omega (arith, s)
bound_four shape (suc zero) last a b c d few = let s = spare_sum_is last 1 (page_counts (b ∷ c ∷ d ∷ [])) in omega (arith, s)
bound_four shape (suc (suc zero)) last a b c d few = let s = spare_sum_is last 2 (page_counts (c ∷ d ∷ [])) in omega (arith, s)
bound_four shape (suc (suc (suc zero))) last a b c d few = let s = spare_sum_is last 3 (page_counts (d ∷ [])) in omega (arith, s)
bound_four shape (suc (suc (suc (suc zero)))) last a b c d few = let s = first_none (last - 4) in omega (arith, s)
bound_four shape (suc (suc (suc (suc (suc k))))) last a b c d few = absurd (omega (arith, few))

bound_runs : (shape : Shape) (k last : ℕ) (rs : List Kept) → length rs ≡ 4 → k ≤ 4 → Bounds shape k last rs
bound_runs shape k last (a ∷ (b ∷ (c ∷ (d ∷ [])))) four few = bound_four shape k last a b c d few
bound_runs shape k last rs four few = absurd (omega (arith, four))

length-pages : (rs : List Kept) → length (page_counts rs) ≡ length rs
length-pages [] = refl
length-pages (r ∷ rs) = ap suc (length-pages rs)

-- what the last level is
pub last_is : (levels : Levels) (frames : ℕ) → IsLevels levels → levels.pinned ≡ pinned levels.shape frames → IsAdapted levels.shape frames (page_counts levels.runs) (last_level levels frames)
last_is levels frames is same =
    let most = is.most in
    let four = is.four in
    let long = length-pages levels.runs in
    is_adapted levels.shape frames (page_counts levels.runs) (omega (arith, four, long)) (omega (arith, most, same))

-- Where no merge runs, there are frames for all pages that are to be filled, and besides for the output of a merge into a pinned level.
pub frames_fit : (levels : Levels) (frames : ℕ) (arena : Frames) → IsLevels levels → AllByRecursion IsKept levels.runs → HasArena levels.shape frames levels arena []
    → unfilled levels frames + fold max 0 (take levels.pinned (caps levels.shape)) ≤ free_frames arena
frames_fit levels frames arena is kept has =
    let shape : Shape = levels.shape in
    let last : ℕ = last_level levels frames in
    let most = is.most in
    let pins = has.leases.pinned_is in
    let adapts = last_is levels frames is pins in
    let low : levels.pinned ≤ last = let l = adapts.least in omega (arith, l, pins) in
    let taken = leases_bound shape levels.pinned last 1 levels.runs is.each kept has.bare low in
    let bound = bound_runs shape levels.pinned last levels.runs is.four most in
    let fits : pages_of_first (last - levels.pinned) (drop levels.pinned (page_counts levels.runs)) ≤ frames - need shape levels.pinned =
    subst (λ (k : ℕ). pages_of_first (last - k) (drop k (page_counts levels.runs)) ≤ frames - need shape k) (sym pins) adapts.fits in
    let needs : need shape levels.pinned ≤ frames = subst (λ (k : ℕ). need shape k ≤ frames) (sym pins) (need_most shape frames) in
    let counted = leases_counted arena (leases_of levels.runs ++ []) has.leases.only_these in
    let none = ap (λ (ls : List ℕ). length ls) (append-nil (leases_of levels.runs)) in
    let all = frames_counted arena in
    let size = has.leases.size in
    omega (arith, taken, bound, fits, needs, counted, none, all, size)

-- ---- a page more has a frame

-- what does not change of a run does not change of all
map_set : {A : Type 0} (f : Kept → A) (rs : List Kept) (i : ℕ) (r r' : Kept) → slice_get rs i ≡ Some r → f r' ≡ f r → map f (slice_set rs i r') ≡ map f rs
map_set f [] i r r' got same = cc
map_set f (x ∷ rs) zero r r' got same = let is : x ≡ r = cc in ap (λ y. y ∷ map f rs) (same ∙ ap f (sym is))
map_set f (x ∷ rs) (suc i) r r' got same = ap (λ ys. f x ∷ ys) (map_set f rs i r r' got same)

module _ (l : ℕ) where
  abbrev framed : Kept → Kept
  framed r = record r { leases = r.leases ++ l ∷ [] }

  longer : (r : Kept) → length (framed r).leases ≡ length r.leases + 1
  longer r = let e = length-append r.leases (l ∷ []) in omega (arith, e)

  filled_one : (last level : ℕ) (rs : List Kept) (i : ℕ) (r : Kept) → slice_get rs i ≡ Some r → level + i ≤ last → length r.leases < length r.firsts
      → unfilled_from last level (slice_set rs i (framed r)) + 1 ≡ unfilled_from last level rs
  filled_one last level [] i r got low some = cc
  filled_one last level (x ∷ rs) zero r got low some =
      let same : x ≡ r = cc in
      let more = longer r in
      subst (λ (y : Kept). (if nat_le level last then length r.firsts - length (framed r).leases else 0) + unfilled_from last
      (suc level) rs + 1 ≡ (if nat_le level last then length y.firsts - length y.leases else 0) + unfilled_from last (suc level) rs) (sym same)
      (rw (le-leb level last (omega (arith, low))) (omega (arith, more, some)))
  filled_one last level (x ∷ rs) (suc i) r got low some = let rest = filled_one last (suc level) rs i r got (omega (arith, low)) some in omega (arith, rest)

  bare_still : (last level : ℕ) (rs : List Kept) (i : ℕ) (r : Kept) → level + i ≤ last → AreBareAbove last level rs → AreBareAbove last level (slice_set rs i r)
  bare_still last level [] i r low bare = tt
  bare_still last level (x ∷ rs) zero r low bare = (λ above. absurd (omega (arith, low, above)), bare.1)
  bare_still last level (x ∷ rs) (suc i) r low bare = (bare.0, bare_still last (suc level) rs i r (omega (arith, low)) bare.1)

  one_lease : (x : ℕ) (rs : List Kept) (i : ℕ) (r : Kept) → slice_get rs i ≡ Some r → times x (leases_of (slice_set rs i (framed r))) ≡ times x (l ∷ leases_of rs)
  one_lease x [] i r got = cc
  one_lease x (y ∷ rs) zero r got =
      let same : y ≡ r = cc in
      let now = times-append x (r.leases ++ l ∷ []) (leases_of rs) in
      let own = times-append x r.leases (l ∷ []) in
      let was = times-append x r.leases (leases_of rs) in
      let all = times-append x (l ∷ []) (r.leases ++ leases_of rs) in
      subst (λ (z : Kept). times x ((framed r).leases ++ leases_of rs) ≡ times x (l ∷ (z.leases ++ leases_of rs))) (sym same) (omega (arith, now, own, was, all))
  one_lease x (y ∷ rs) (suc i) r got =
      let rest = one_lease x rs i r got in
      let now = times-append x y.leases (leases_of (slice_set rs i (framed r))) in
      let was = times-append x y.leases (leases_of rs) in
      let behind = times-append x (l ∷ []) (leases_of rs) in
      let all = times-append x (l ∷ []) (y.leases ++ leases_of rs) in
      omega (arith, rest, now, was, behind, all)

  stand_still : (flash : Flash) (arena : Frames) (bytes : List ℕ) (rs : List Kept) (ess : List (List Entry)) → slice_get arena.used l ≡ Some false
      → RunsOnFlash flash arena rs ess → RunsOnFlash flash (filled (leased arena l) l bytes) rs ess
  stand_still flash arena bytes (r ∷ rs) (es ∷ ess) free each =
      let taken = RunOnFlash-taken r flash arena es l free each.0 in
      (RunOnFlash-filled r flash (leased arena l) es l bytes taken.1 taken.0, stand_still flash arena bytes rs ess free each.1)
  stand_still flash arena bytes rs ess free each = each

  stand_framed : (flash : Flash) (arena : Frames) (rs : List Kept) (ess : List (List Entry)) (i : ℕ) (r : Kept) → RunsOnFlash flash arena rs ess
      → ((es : List Entry) → slice_get ess i ≡ Some es → RunOnFlash r flash arena es) → RunsOnFlash flash arena (slice_set rs i r) ess
  stand_framed flash arena (x ∷ rs) [] i r each own = absurd each
  stand_framed flash arena (x ∷ rs) (es ∷ ess) zero r each own = (own es refl, each.1)
  stand_framed flash arena (x ∷ rs) (es ∷ ess) (suc i) r each own = (each.0, stand_framed flash arena rs ess i r each.1 own)
  stand_framed flash arena [] ess i r each own = each

-- what is no lease stays
module _ (l : ℕ) where
  pub framed_blocks : (shape : Shape) (rs : List Kept) (i : ℕ) (r : Kept) (bss : List (List ℕ)) → slice_get rs i ≡ Some r → HaveBlocks shape rs bss → HaveBlocks shape (slice_set rs i (framed l r)) bss
  framed_blocks shape [] i r bss got have = cc
  framed_blocks shape (x ∷ rs) i r [] got have = absurd have
  framed_blocks shape (x ∷ rs) zero r (bs ∷ bss) got have =
      let same : r ≡ x = cc in
      (ap (λ (y : Kept). y.shape) same ∙ have.0, ap (λ (y : Kept). y.blocks) same ∙ have.1, have.2)
  framed_blocks shape (x ∷ rs) (suc i) r (bs ∷ bss) got have = (have.0, have.1, framed_blocks shape rs i r bss got have.2)

  pub framed_counts : (rs : List Kept) (i : ℕ) (r : Kept) → slice_get rs i ≡ Some r → map (λ (x : Kept). x.count) (slice_set rs i (framed l r)) ≡ map (λ (x : Kept). x.count) rs
  framed_counts rs i r got = map_set (λ (x : Kept). x.count) rs i r (framed l r) got refl

unfilled_some : (last level : ℕ) (rs : List Kept) (i : ℕ) (r : Kept) → slice_get rs i ≡ Some r → level + i ≤ last → length r.leases < length r.firsts → 0 < unfilled_from last level rs
unfilled_some last level [] i r got low some = cc
unfilled_some last level (x ∷ rs) zero r got low some =
    let same : x ≡ r = cc in
    subst (λ (y : Kept). 0 < (if nat_le level last then length y.firsts - length y.leases else 0) + unfilled_from last (suc level) rs)
    (sym same) (rw (le-leb level last (omega (arith, low))) (omega (arith, some)))
unfilled_some last level (x ∷ rs) (suc i) r got low some = let rest = unfilled_some last (suc level) rs i r got (omega (arith, low)) some in omega (arith, rest)

-- a frame is free for a page that is to have one
pub some_free : (levels : Levels) (frames : ℕ) (arena : Frames) (level : ℕ) → IsLevels levels → AllByRecursion IsKept levels.runs → HasArena levels.shape frames levels arena []
    → last_level levels frames ≤ 4 → IsUnfilled (last_level levels frames) levels level → 0 < free_frames arena
some_free levels frames arena level is kept has few un =
    let least = un.least in
    let most = un.most in
    let some = unfilled_some (last_level levels frames) 1 levels.runs (level - 1) (run_of levels level)
    (got_of levels level is least (omega (arith, most, few))) (omega (arith, least, most)) un.some in
    let fit = frames_fit levels frames arena is kept has in
    omega (arith, some, fit)

-- after a page got a frame
module _ (levels : Levels) (arena : Frames) (level : ℕ) (levels' : Levels) (arena' : Frames) (is : IsLevels levels)
    (least : 1 ≤ level) (few : level ≤ 4) (f : FillsRun levels arena level levels' arena') where
  abbrev own : Kept
  own = run_of levels level

  abbrev behind : Levels
  behind = record levels { runs = slice_set levels.runs (level - 1) (framed f.fills.lease own) }

  abbrev frames_behind : Frames
  frames_behind = filled (leased arena f.fills.lease) f.fills.lease f.fills.bytes

  levels_behind : levels' ≡ behind
  levels_behind = f.levels_are ∙ ap (λ (r : Kept). with_run levels level r) f.fills.run_is

  got : slice_get levels.runs (level - 1) ≡ Some own
  got = got_of levels level is least few

  as_many : length frames_behind.used ≡ length arena.used
  as_many = length-set arena.used f.fills.lease true

  same_last : last_level behind (length arena.used) ≡ last_level levels (length arena.used)
  same_last = ap (λ (ps : List ℕ). adapted levels.shape (length arena.used) ps) (map_set (λ (r : Kept). length r.firsts) levels.runs (level - 1) own (framed f.fills.lease own) got refl)

  pub filled_arena : level ≤ last_level levels (length arena.used) → HasArena levels.shape (length arena.used) levels arena [] → HasArena levels'.shape (length arena'.used) levels' arena' []
  filled_arena up_to has =
      let l : ℕ = f.fills.lease in
      let before : List ℕ = leases_of levels.runs ++ [] in
      let taken = leases_taken arena before l has.leases.only_these f.fills.was_free in
      let all = leases_filled (leased arena l) (l ∷ before) l f.fills.bytes taken in
      let rows : AreLeases frames_behind (leases_of behind.runs ++ []) = λ x.
      let one = one_lease l x levels.runs (level - 1) own got in
      let now = times-append x (leases_of behind.runs) [] in
      let was = times-append x (l ∷ leases_of levels.runs) [] in
      (let e : times x (leases_of behind.runs ++ []) ≡ times x (l ∷ before) = omega (arith, one, now, was) in e) ∙ all x in
      let here : HasArena levels.shape (length arena.used) behind frames_behind [] = record {
        leases = record { page_bytes_is = has.leases.page_bytes_is; size = as_many; pinned_is = has.leases.pinned_is; only_these = rows };
        bare = subst (λ (n : ℕ). AreBareAbove n 1 behind.runs) (sym same_last)
            (bare_still l (last_level levels (length arena.used)) 1 levels.runs (level - 1) (framed l own) (omega (arith, least, up_to)) has.bare);
      } in
      let sized : HasArena behind.shape (length frames_behind.used) behind frames_behind [] = subst (λ (n : ℕ). HasArena levels.shape n behind frames_behind []) (sym as_many) here in
      subst (λ (a : Frames). HasArena levels'.shape (length a.used) levels' a []) (sym f.fills.arena_is)
      (subst (λ (ls : Levels). HasArena ls.shape (length frames_behind.used) ls frames_behind []) (sym levels_behind) sized)

  pub filled_less : level ≤ last_level levels (length arena.used) → length own.leases < length own.firsts → unfilled levels' (length arena'.used) + 1 ≡ unfilled levels (length arena.used)
  filled_less up_to some =
      let one = filled_one f.fills.lease (last_level levels (length arena.used)) 1 levels.runs (level - 1) own got (omega (arith, least, up_to)) some in
      let here : unfilled behind (length arena.used) + 1 ≡ unfilled levels (length arena.used) = ap (λ (n : ℕ). unfilled_from n 1 behind.runs + 1) same_last ∙ one in
      let sized : unfilled behind (length frames_behind.used) + 1 ≡ unfilled levels (length arena.used) = ap (λ (n : ℕ). unfilled behind n + 1) as_many ∙ here in
      ap (λ (a : Frames). unfilled levels' (length a.used) + 1) f.fills.arena_is ∙ ap (λ (ls : Levels). unfilled ls (length frames_behind.used) + 1) levels_behind ∙ sized

  pub filled_stand : (flash : Flash) (ess : List (List Entry)) → ((es : List Entry) → RunOnFlash own flash arena es → RunOnFlash (run_of levels' level) flash arena' es)
      → RunsOnFlash flash arena levels.runs ess → RunsOnFlash flash arena' levels'.runs ess
  filled_stand flash ess stands each =
      let l : ℕ = f.fills.lease in
      let four = is.four in
      let inside : level - 1 < length levels.runs = omega (arith, four, least, few) in
      let there : run_of levels' level ≡ framed l own =
      ap (λ (ls : Levels). run_of ls level) levels_behind ∙ get_or-set_same levels.runs (level - 1) (framed l own) (empty levels.shape level) inside in
      let at = stands_of levels flash arena ess level is least few each in
      let mine : (es : List Entry) → slice_get ess (level - 1) ≡ Some es → RunOnFlash (framed l own) flash frames_behind es = λ es is_es.
      let at_es = at.1 in
      let same : at.0 ≡ es = cc in
      subst (λ (a : Frames). RunOnFlash (framed l own) flash a es) f.fills.arena_is
      (subst (λ (r : Kept). RunOnFlash r flash arena' es) there (stands es (subst (λ (xs : List Entry). RunOnFlash own flash arena xs) same at.2))) in
      let others = stand_still l flash arena f.fills.bytes levels.runs ess f.fills.was_free each in
      let all : RunsOnFlash flash frames_behind behind.runs ess = stand_framed l flash frames_behind levels.runs ess (level - 1) (framed l own) others mine in
      subst (λ (a : Frames). RunsOnFlash flash a levels'.runs ess) (sym f.fills.arena_is) (subst (λ (ls : Levels). RunsOnFlash flash frames_behind ls.runs ess) (sym levels_behind) all)

-- ---- the first level that lacks a frame

lacks_some : (b c : Bool) (last level : ℕ) (r : Kept) → nat_le level last ≡ b → is_pinned r ≡ c → (b && not c) ≡ true → (level ≤ last) × (length r.leases < length r.firsts)
lacks_some true false last level r le all is = (leb-true level last le, leb-false (length r.firsts) (length r.leases) all)
lacks_some b c last level r le all is = cc

lacks_none : (b c : Bool) (last level : ℕ) (r : Kept) → nat_le level last ≡ b → is_pinned r ≡ c → (b && not c) ≡ false → (if b then length r.firsts - length r.leases else 0) ≡ 0
lacks_none false c last level r le all is = refl
lacks_none true false last level r le all is = cc
lacks_none true true last level r le all is = omega (arith, leb-true (length r.firsts) (length r.leases) all)

none_of_four : (last : ℕ) (shape : Shape) (rs : List Kept) → length rs ≡ 4 → lacks last 1 (slice_index_or rs 0 (empty shape 1)) ≡ false → lacks last 2 (slice_index_or rs 1 (empty shape 2)) ≡ false
    → lacks last 3 (slice_index_or rs 2 (empty shape 3)) ≡ false → lacks last 4 (slice_index_or rs 3 (empty shape 4)) ≡ false → unfilled_from last 1 rs ≡ 0
none_of_four last shape (a ∷ (b ∷ (c ∷ (d ∷ [])))) four first second third fourth =
    let one = lacks_none (nat_le 1 last) (is_pinned a) last 1 a refl refl first in
    let two = lacks_none (nat_le 2 last) (is_pinned b) last 2 b refl refl second in
    let three = lacks_none (nat_le 3 last) (is_pinned c) last 3 c refl refl third in
    let last_one = lacks_none (nat_le 4 last) (is_pinned d) last 4 d refl refl fourth in
    omega (arith, one, two, three, last_one)
none_of_four last shape rs four first second third fourth = absurd (omega (arith, four))

pub none_lacks : (last : ℕ) (levels : Levels) → IsLevels levels → lacks last 1 (run_of levels 1) ≡ false
    → lacks last 2 (run_of levels 2) ≡ false → lacks last 3 (run_of levels 3) ≡ false → lacks last 4 (run_of levels 4) ≡ false
    → unfilled_from last 1 levels.runs ≡ 0
none_lacks last levels is first second third fourth = none_of_four last levels.shape levels.runs is.four first second third fourth

-- ---- inside

-- if only leases differ, a run of a level after the pinned ones may be there still
of_level_still : (shape : Shape) (k level : ℕ) (r r' : Kept) → IsOfLevel shape k level r → r' ≡ record r { leases = r'.leases } → k < level → IsOfLevel shape k level r'
of_level_still shape k level r r' is same above = record {
  same_shape = ap (λ (x : Kept). x.shape) same ∙ is.same_shape;
  same_level = ap (λ (x : Kept). x.level) same ∙ is.same_level;
  frames = λ within. absurd (omega (arith, above, within));
}

levels_with : (shape : Shape) (k level : ℕ) (rs : List Kept) (i : ℕ) (r r' : Kept) → slice_get rs i ≡ Some r → AreOfLevels shape k level rs
    → r' ≡ record r { leases = r'.leases } → k < level + i → AreOfLevels shape k level (slice_set rs i r')
levels_with shape k level [] i r r' got are same above = tt
levels_with shape k level (x ∷ rs) zero r r' got are same above =
    let is : r ≡ x = cc in
    (of_level_still shape k level x r' are.0 (same ∙ ap (λ (y : Kept). record y { leases = r'.leases }) is) (omega (arith, above)), are.1)
levels_with shape k level (x ∷ rs) (suc i) r r' got are same above = (are.0, levels_with shape k (suc level) rs i r r' got are.1 same (omega (arith, above)))

pub levels_still : (levels : Levels) (level : ℕ) (r' : Kept) → IsLevels levels → 1 ≤ level → level ≤ 4 → levels.pinned < level
    → r' ≡ record (run_of levels level) { leases = r'.leases } → IsLevels (with_run levels level r')
levels_still levels level r' is least few above same = record {
  most = is.most;
  four = length-set levels.runs (level - 1) r' ∙ is.four;
  each = levels_with levels.shape levels.pinned 1 levels.runs (level - 1) (run_of levels level) r' (got_of levels level is least few) is.each same (omega (arith, above, least));
}

pub fills_from : {T : Type 0} (result : Result T Fault) (levels : Levels) (arena : Frames) (level : ℕ) (r' : Kept) (arena' : Frames) (levels' : Levels) → levels' ≡ with_run levels level r'
    → OnOk result (FillsPage (run_of levels level) arena r' arena') → OnOk result (FillsRun levels arena level levels' arena')
fills_from (Ok u) levels arena level r' arena' levels' are f = record { run = r'; fills = f; levels_are = are }
fills_from (Err e) levels arena level r' arena' levels' are f = tt
