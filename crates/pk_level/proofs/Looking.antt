-- A lookup through the runs, from the first on.
use Rattle.std.proofs.Common.{◌≡◌, inl, inr, ℕ, zero, suc, ◌+◌, ◌-◌, ◌<◌, ◌≤◌, Bool, true, false, cond, if◌then◌else◌, List, [], ◌∷◌, ◌++◌, length, slice_get, drop, refl, ap, sym, subst, ◌∙◌, arith}
use Rattle.std.proofs.Common.{Option, Some, None, MatchOption}
use Rattle.std.proofs.lemmas.Bool.{cases_lt, le-leb, lt-leb, lt-ltb, le-ltb}
use Rattle.std.{specs.Ordering.eq_by_cmp, specs.FinMap.Entries.find, proofs.lemmas.List.drop_all, proofs.lemmas.Option.slice_get_cases}
use Rattle.pk_base.{specs.Key.Key, specs.Key.key_cmp, specs.Shape.Shape, specs.Entry.Entry, specs.Entry.Place, specs.Seen.entry as seen, specs.declared.entry.Entry.Entry as RustEntry}
use Rattle.pk_base.specs.Page.{Flash}
use Rattle.pk_nand.{specs.BoardState.BoardState, specs.Calls.counted, specs.Operations.ReadFailed, specs.Counts.counted_by, specs.Counts.after_reads}
use Rattle.pk_pin.specs.Frames.{Frames}
use Rattle.pk_run.{specs.Kept.Kept, specs.Kept.IsPinned, specs.Kept.RunOnFlash, specs.Kept.after_look, specs.Kept.is_pinned, specs.Search.IsFound, specs.Search.RunLooks}
use Rattle.pk_run.proofs.Orders.{drop_is}
use Rattle.pk_level.specs.Levels.{Levels, IsOfLevel, AreOfLevels, IsLevels, RunsOnFlash, all_entries, is_held, held_from, held_levels, most_reads, reads_through, LooksFor, ReadsUpTo, ReadFailsWithin}

-- ---- entries of several lists

find_left : (key : Key) (xs ys : List Entry) (v : Option Place) → find key_cmp key xs ≡ Some v → find key_cmp key (xs ++ ys) ≡ Some v
find_left key [] ys v e = cc
find_left key (x ∷ xs) ys v e =
    elim (eq_by_cmp key_cmp key x.0) as (λ b. cond b (Some x.1) (find key_cmp key xs) ≡ Some v → cond b (Some x.1) (find key_cmp key (xs ++ ys)) ≡ Some v) [
      | true ↦ λ e. e
      | false ↦ λ e. find_left key xs ys v e
    ] e

find_right : (key : Key) (xs ys : List Entry) → find key_cmp key xs ≡ None → find key_cmp key (xs ++ ys) ≡ find key_cmp key ys
find_right key [] ys e = refl
find_right key (x ∷ xs) ys e =
    elim (eq_by_cmp key_cmp key x.0) as (λ b. cond b (Some x.1) (find key_cmp key xs) ≡ None → cond b (Some x.1) (find key_cmp key (xs ++ ys)) ≡ find key_cmp key ys) [
      | true ↦ λ e. cc
      | false ↦ λ e. find_right key xs ys e
    ] e

-- ---- runs that match the flash

pub stands_at : (flash : Flash) (arena : Frames) (rs : List Kept) (ess : List (List Entry)) (i : ℕ) (r : Kept) → RunsOnFlash flash arena rs ess → slice_get rs i ≡ Some r
    → (es : List Entry) × (slice_get ess i ≡ Some es) × RunOnFlash r flash arena es
stands_at flash arena [] [] i r each got = cc
stands_at flash arena (x ∷ rs) (es ∷ ess) zero r each got = let same : x ≡ r = cc in (es, refl, subst (λ (y : Kept). RunOnFlash y flash arena es) same each.0)
stands_at flash arena (x ∷ rs) (es ∷ ess) (suc i) r each got = stands_at flash arena rs ess i r each.1 got
stands_at flash arena rs ess i r each got = absurd each

no_more : (flash : Flash) (arena : Frames) (rs : List Kept) (ess : List (List Entry)) (i : ℕ) → RunsOnFlash flash arena rs ess → length rs ≤ i → all_entries (drop i ess) ≡ []
no_more flash arena [] [] i each h = ap all_entries (drop_all i [] (omega arith))
no_more flash arena (r ∷ rs) (es ∷ ess) zero each h = absurd (omega arith)
no_more flash arena (r ∷ rs) (es ∷ ess) (suc i) each h = no_more flash arena rs ess i each.1 (omega arith)
no_more flash arena rs ess i each h = absurd each

-- a run among the levels is one of its level
pub of_level_at : (shape : Shape) (pinned level : ℕ) (rs : List Kept) (i : ℕ) (r : Kept) → AreOfLevels shape pinned level rs → slice_get rs i ≡ Some r → IsOfLevel shape pinned (level + i) r
of_level_at shape pinned level [] i r are got = cc
of_level_at shape pinned level (x ∷ rs) zero r are got =
    let same : x ≡ r = cc in
    let here : level ≡ level + 0 = omega arith in
    subst (λ (l : ℕ). IsOfLevel shape pinned l r) here (subst (IsOfLevel shape pinned level) same are.0)
of_level_at shape pinned level (x ∷ rs) (suc i) r are got =
    let on : suc level + i ≡ level + suc i = omega arith in
    subst (λ (l : ℕ). IsOfLevel shape pinned l r) on (of_level_at shape pinned (suc level) rs i r are.1 got)

-- ---- reads

by_frames : (r : Kept) → IsPinned r → most_reads r ≡ 0
by_frames r all = rw (le-leb (length r.firsts) (length r.leases) (omega (arith, all))) refl

needs_read : (r : Kept) → length r.leases < length r.firsts → most_reads r ≡ 1
needs_read r some = rw (lt-leb (length r.firsts) (length r.leases) some) refl

pub unpinned_reads : (r : Kept) → length r.leases ≤ length r.firsts → (IsPinned r → ⊥) → 1 ≤ most_reads r
unpinned_reads r few not = elim (cases_lt (length r.leases) (length r.firsts)) [
  | inl some ↦ let one = needs_read r some in omega (arith, one)
  | inr all ↦ absurd (not (omega (arith, few, all)))
]

counted_more : (k m n : ℕ) → counted_by k (counted_by m n) ≡ counted_by (k + m) n
counted_more zero m n = let e : m ≡ 0 + m = omega arith in ap (λ (j : ℕ). counted_by j n) e
counted_more (suc k) m n = ap counted (counted_more k m n) ∙ (let e : suc (k + m) ≡ suc k + m = omega arith in ap (λ (j : ℕ). counted_by j n) e)

pub reads_more : (k m : ℕ) (old : BoardState) → after_reads k (after_reads m old) ≡ after_reads (k + m) old
reads_more k m old = ap (λ (n : ℕ). record old { reads = n }) (counted_more k m old.reads)

look_by : (r : Kept) (p : ℕ) (o : Option ℕ) (now next : BoardState) → p < length r.firsts
    → slice_get r.leases p ≡ o → next ≡ after_look o now → (k : ℕ) × (k ≤ most_reads r) × (next ≡ after_reads k now)
look_by r p None now next h got e = elim (slice_get_cases r.leases p).1 [
  | inl had ↦ let is = had.2 in cc
  | inr past ↦ let one = needs_read r (omega (arith, h, past.0)) in (suc zero, omega (arith, one), e)
]
look_by r p (Some l) now next h got e = (zero, omega arith, e)

-- how often a lookup in one run reads
look_reads : (r : Kept) (key : Key) (now next : BoardState) → RunLooks r key now next → (k : ℕ) × (k ≤ most_reads r) × (next ≡ after_reads k now)
look_reads r key now next (inl none) = (zero, omega arith, none.1)
look_reads r key now next (inr some) = look_by r some.0 (slice_get r.leases some.0) now next some.1.exists refl some.2

-- a run is read at most once if its level is neither pinned nor held
one_of : (b : Bool) → ◌≡◌ {A = ℕ} ((if b then 0 else 1) + (if b then 1 else 0)) 1
one_of true = refl
one_of false = refl

exact_from : (shape : Shape) (pinned level : ℕ) (rs : List Kept) → AreOfLevels shape pinned level rs
    → suc pinned - level ≤ length rs → reads_through rs + held_from pinned level rs + (suc pinned - level) ≡ length rs
exact_from shape pinned level [] are most = omega (arith, most)
exact_from shape pinned level (r ∷ rs) are most =
    let rest = exact_from shape pinned (suc level) rs are.1 (omega (arith, most)) in
    elim (cases_lt pinned level) [
      | inl behind ↦
          let one = one_of (is_pinned r) in
          let held : ◌≡◌ {A = ℕ} (if is_held pinned level r then 1 else 0) (if is_pinned r then 1 else 0) = rw (lt-ltb pinned level behind) refl in
          omega (arith, rest, one, held, behind)
      | inr within ↦
          let none = by_frames r (are.0.frames within) in
          let held : ◌≡◌ {A = ℕ} (if is_held pinned level r then 1 else 0) 0 = rw (le-ltb pinned level within) refl in
          omega (arith, rest, none, held, within)
    ]

pub few_reads : (levels : Levels) → IsLevels levels → reads_through levels.runs + levels.pinned + held_levels levels ≡ 4
few_reads levels is = let few = exact_from levels.shape levels.pinned 1 levels.runs is.each (omega (arith, is.most, is.four)) in omega (arith, few, is.four)

-- ---- a lookup

-- the first i runs have nothing of the key, and no more than their share of reads was made
pub record Looking (rs : List Kept) (arena : Frames) (key : Key) (old now : BoardState) (i : ℕ) : Type 0 where
  pub made : ℕ
  pub few : made + reads_through (drop i rs) ≤ reads_through rs
  pub board : now ≡ after_reads made old
  pub none : (ess : List (List Entry)) → RunsOnFlash old.pages arena rs ess → find key_cmp key (all_entries ess) ≡ find key_cmp key (all_entries (drop i ess))
  pub on : (ess : List (List Entry)) → RunsOnFlash old.pages arena rs ess → (last : BoardState) → LooksFor key (drop i rs) (drop i ess) now last → LooksFor key rs ess old last

pub Looking-start : (rs : List Kept) (arena : Frames) (key : Key) (old : BoardState) → Looking rs arena key old old 0
Looking-start rs arena key old = record { made = 0; few = omega arith; board = refl; none = λ ess each. refl; on = λ ess each last looks. looks }

module _ (rs : List Kept) (arena : Frames) (key : Key) (old now : BoardState) (i : ℕ) (at : Looking rs arena key old now i) where
  same_pages : now.pages ≡ old.pages
  same_pages = ap (λ (b : BoardState). b.pages) at.board

  module _ (r : Kept) (got : slice_get rs i ≡ Some r) where
    -- the next run matches the board now
    pub next_stands : (ess : List (List Entry)) → RunsOnFlash old.pages arena rs ess → (es : List Entry) × (slice_get ess i ≡ Some es) × RunOnFlash r now.pages arena es
    next_stands ess each =
        let own = stands_at old.pages arena rs ess i r each got in
        (own.0, own.1, subst (λ (flash : Flash). RunOnFlash r flash arena own.0) (sym same_pages) own.2)

    -- the reads that remain
    left : reads_through (drop i rs) ≡ most_reads r + reads_through (drop (suc i) rs)
    left = ap reads_through (drop_is rs i r got)

    entries_at : (ess : List (List Entry)) (es : List Entry) → slice_get ess i ≡ Some es → all_entries (drop i ess) ≡ es ++ all_entries (drop (suc i) ess)
    entries_at ess es own = ap all_entries (drop_is ess i es own)

    -- a read of it fails
    pub Looking-failed : (next : BoardState) (page : ℕ) → 1 ≤ most_reads r → ReadFailed now next page → ReadFailsWithin (reads_through rs) old next
    Looking-failed next page some failed =
        let few = at.few in
        let more = left in
        (at.made, page, omega (arith, few, more, some), subst (λ (b : BoardState). ReadFailed b next page) at.board failed)

    -- it has the key
    pub Looking-found : (e : RustEntry) → ((es : List Entry) → RunOnFlash r now.pages arena es → IsFound key es (Some e))
        → (ess : List (List Entry)) → RunsOnFlash old.pages arena rs ess → IsFound key (all_entries ess) (Some e)
    Looking-found e found ess each =
        let own = next_stands ess each in
        let is = found own.0 own.2 in
        (is.0, at.none ess each ∙ ap (find key_cmp key) (entries_at ess own.0 own.1) ∙ find_left key own.0 (all_entries (drop (suc i) ess)) (seen e).1 is.1)

    -- it is looked into
    module _ (next : BoardState) (looks : RunLooks r key now next) where
      read_so : (k : ℕ) × (k + reads_through (drop (suc i) rs) ≤ reads_through rs) × (next ≡ after_reads k old)
      read_so =
          let look = look_reads r key now next looks in
          let few = at.few in
          let more = left in
          (look.0 + at.made, omega (arith, few, more, look.1), look.2 ∙ ap (λ (b : BoardState). after_reads look.0 b) at.board ∙ reads_more look.0 at.made old)

      pub reads_found : ReadsUpTo (reads_through rs) old next
      reads_found = let read = read_so in (read.0, omega (arith, read.1), read.2)

      -- what comes after it is known by whether it has the key
      looks_at : (ess : List (List Entry)) (last : BoardState) (es : List Entry) (found : Option (Option Place)) → slice_get ess i ≡ Some es → find key_cmp key es ≡ found
          → MatchOption found (LooksFor key (drop (suc i) rs) (drop (suc i) ess) next last) (λ place. last ≡ next) → LooksFor key (drop i rs) (drop i ess) now last
      looks_at ess last es found own is rest =
          subst (λ (ks : List Kept). LooksFor key ks (drop i ess) now last) (sym (drop_is rs i r got))
          (subst (λ (fs : List (List Entry)). LooksFor key (r ∷ drop (suc i) rs) fs now last) (sym (drop_is ess i es own))
          (next, looks, subst (λ (f : Option (Option Place)). MatchOption f (LooksFor key (drop (suc i) rs) (drop (suc i) ess) next last) (λ place. last ≡ next)) (sym is) rest))

      -- it has nothing either
      pub Looking-next : ((es : List Entry) → RunOnFlash r now.pages arena es → find key_cmp key es ≡ None) → Looking rs arena key old next (i + 1)
      Looking-next missing =
          let read = read_so in
          let on : suc i ≡ i + 1 = omega arith in
          subst (Looking rs arena key old next) on (record {
            made = read.0;
            few = read.1;
            board = read.2;
            none = λ ess each.
                let own = next_stands ess each in
                at.none ess each ∙ ap (find key_cmp key) (entries_at ess own.0 own.1) ∙ find_right key own.0 (all_entries (drop (suc i) ess)) (missing own.0 own.2);
            on = λ ess each last rest.
                let own = next_stands ess each in
                at.on ess each last (looks_at ess last own.0 None own.1 (missing own.0 own.2) rest);
          })

      pub looks_found : (e : RustEntry) → ((es : List Entry) → RunOnFlash r now.pages arena es → IsFound key es (Some e))
          → (ess : List (List Entry)) → RunsOnFlash old.pages arena rs ess → LooksFor key rs ess old next
      looks_found e found ess each =
          let own = next_stands ess each in
          let is = found own.0 own.2 in
          at.on ess each next (looks_at ess next own.0 (Some (seen e).1) own.1 is.1 refl)

  -- none has it
  module _ (all : length rs ≤ i) (ess : List (List Entry)) (each : RunsOnFlash old.pages arena rs ess) where
    pub Looking-end : find key_cmp key (all_entries ess) ≡ None
    Looking-end = at.none ess each ∙ ap (find key_cmp key) (no_more old.pages arena rs ess i each all)

    pub looks_end : LooksFor key rs ess old now
    looks_end = at.on ess each now (subst (λ (ks : List Kept). LooksFor key ks (drop i ess) now now) (sym (drop_all i rs all)) refl)
