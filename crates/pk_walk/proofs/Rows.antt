-- A search through the runs, one after another, with a cursor in each.
use Rattle.std.proofs.Common.{◌≡◌, ℕ, zero, suc, ◌+◌, ◌-◌, ◌<◌, refl, sym, ap, subst, ◌∙◌, arith, List, [], ◌∷◌, length, slice_get, slice_set, slice_index_or, Option, Some}
use Rattle.std.specs.List.{AllByRecursion}
use Rattle.pk_base.{specs.Shape.Shape, specs.Entry.Entry, specs.Page.Flash}
use Rattle.pk_nand.{specs.declared.types.Fault.Fault, specs.BoardState.BoardState, specs.Calls.IsReady, specs.Operations.ReadFailed, specs.Counts.after_reads}
use Rattle.pk_pin.specs.Frames.{Frames}
use Rattle.pk_run.specs.Kept.{Kept, RunOnFlash, empty}
use Rattle.pk_level.{specs.Levels.Levels, specs.Levels.IsLevels, specs.Levels.RunsOnFlash, specs.Levels.run_of, proofs.Looking.stands_at, proofs.Looking.of_level_at, proofs.Looking.reads_more}
use Rattle.pk_walk.specs.declared.position.Position.{Position}
use Rattle.pk_walk.specs.Steps.{FailsToSeek, GoOn, HasNone, IsKnown, MaySeek, SeeksOn, ShowsEach, ShowsIn}
use Rattle.pk_walk.specs.Walking.{Cursor, AreOfShape, Follows, FollowEach, HasPassed, Reads, ReadsAll, ReadsFail, SkipsNoPage, read_of, pages_read, most_read}
use Rattle.pk_walk.proofs.Seeking.{Reads-none, Reads-more, Reads-pages, ReadsAll-none, ReadsAll-more, one_of_each}

same_run : (x y : Kept) → ◌≡◌ {A = Option Kept} (Some x) (Some y) → x ≡ y
same_run x y e = cc

same_cursor : (x y : Cursor) → ◌≡◌ {A = Option Cursor} (Some x) (Some y) → x ≡ y
same_cursor x y e = cc

same_list : (xs ys : List Entry) → ◌≡◌ {A = Option (List Entry)} (Some xs) (Some ys) → xs ≡ ys
same_list xs ys e = cc

-- ---- one of several

follow_at : (flash : Flash) (position : Position) (rs : List Kept) (ess : List (List Entry)) (cs : List Cursor) (i : ℕ) (r : Kept) (es : List Entry) (c : Cursor)
    → FollowEach flash rs ess position cs → slice_get rs i ≡ Some r → slice_get ess i ≡ Some es → slice_get cs i ≡ Some c → Follows flash r es position c
follow_at flash position (x ∷ rs) (ys ∷ ess) (d ∷ cs) zero r es c f er ee ec =
    subst (λ (q : Kept). Follows flash q es position c) (same_run x r er)
    (subst (λ (xs : List Entry). Follows flash x xs position c) (same_list ys es ee) (subst (Follows flash x ys position) (same_cursor d c ec) f.0))
follow_at flash position (x ∷ rs) (ys ∷ ess) (d ∷ cs) (suc i) r es c f er ee ec = follow_at flash position rs ess cs i r es c f.1 er ee ec
follow_at flash position _ _ _ i r es c f er ee ec = cc

follow_set : (flash : Flash) (position : Position) (rs : List Kept) (ess : List (List Entry)) (cs : List Cursor) (i : ℕ) (r : Kept) (es : List Entry) (c : Cursor)
    → FollowEach flash rs ess position cs → slice_get rs i ≡ Some r → slice_get ess i ≡ Some es → Follows flash r es position c → FollowEach flash rs ess position (slice_set cs i c)
follow_set flash position (x ∷ rs) (ys ∷ ess) (d ∷ cs) zero r es c f er ee now =
    (subst (λ (q : Kept). Follows flash q ys position c) (sym (same_run x r er)) (subst (λ (xs : List Entry). Follows flash r xs position c) (sym (same_list ys es ee)) now), f.1)
follow_set flash position (x ∷ rs) (ys ∷ ess) (d ∷ cs) (suc i) r es c f er ee now = (f.0, follow_set flash position rs ess cs i r es c f.1 er ee now)
follow_set flash position _ _ _ i r es c f er ee now = tt

read_set : (rs : List Kept) (cs : List Cursor) (i : ℕ) (r : Kept) (c d : Cursor) → slice_get rs i ≡ Some r → slice_get cs i ≡ Some c
    → pages_read rs (slice_set cs i d) + read_of r.leases c.loaded ≡ pages_read rs cs + read_of r.leases d.loaded
read_set (x ∷ rs) (y ∷ cs) zero r c d er ec = search (arith, same_run, same_cursor, x.leases, r.leases)
read_set (x ∷ rs) (y ∷ cs) (suc i) r c d er ec = let rest = read_set rs cs i r c d er ec in omega (arith, rest)
read_set _ _ i r c d er ec = cc

shape_at : (shape : Shape) (cs : List Cursor) (i : ℕ) (c : Cursor) → AreOfShape shape cs → slice_get cs i ≡ Some c → c.shape ≡ shape
shape_at shape [] i c are ec = cc
shape_at shape (d ∷ cs) zero c are ec = ap (λ (x : Cursor). x.shape) (sym (same_cursor d c ec)) ∙ are.0
shape_at shape (d ∷ cs) (suc i) c are ec = shape_at shape cs i c are.1 ec

shape_set : (shape : Shape) (cs : List Cursor) (i : ℕ) (c : Cursor) → AreOfShape shape cs → c.shape ≡ shape → AreOfShape shape (slice_set cs i c)
shape_set shape [] i c are is = tt
shape_set shape (d ∷ cs) zero c are is = (is, are.1)
shape_set shape (d ∷ cs) (suc i) c are is = (are.0, shape_set shape cs i c are.1 is)

passed_at : (cs : List Cursor) (i : ℕ) (c : Cursor) → AllByRecursion HasPassed cs → slice_get cs i ≡ Some c → HasPassed c
passed_at [] i c passed ec = cc
passed_at (d ∷ cs) zero c passed ec = subst HasPassed (same_cursor d c ec) passed.0
passed_at (d ∷ cs) (suc i) c passed ec = passed_at cs i c passed.1 ec

passed_set : (cs : List Cursor) (i : ℕ) (c : Cursor) → AllByRecursion HasPassed cs → HasPassed c → AllByRecursion HasPassed (slice_set cs i c)
passed_set [] i c passed is = tt
passed_set (d ∷ cs) zero c passed is = (is, passed.1)
passed_set (d ∷ cs) (suc i) c passed is = (passed.0, passed_set cs i c passed.1 is)

index_is : (rs : List Kept) (i : ℕ) (r : Kept) → i < length rs → slice_get rs i ≡ Some (slice_index_or rs i r)
index_is [] i r h = absurd (omega (arith, h))
index_is (x ∷ rs) zero r h = refl
index_is (x ∷ rs) (suc i) r h = index_is rs i r (omega (arith, h))

-- the run of a level
pub run_at : {levels : Levels} → IsLevels levels → (i : ℕ) → i < 4 → {r : Kept} → r ≡ run_of levels (suc i) → slice_get levels.runs i ≡ Some r
run_at {levels} is i h {r} same = search (arith, index_is, levels.runs, levels.shape)

-- ---- the search

-- the cursors follow the runs on the flash of old, and nothing was done but reads
pub record Rows (levels : Levels) (arena : Frames) (position : Position) (old now : BoardState) (first cs : List Cursor) : Type 0 where
  pub ess : List (List Entry)
  pub stand : RunsOnFlash old.pages arena levels.runs ess
  pub follow : FollowEach old.pages levels.runs ess position cs
  pub shape : AreOfShape levels.shape cs
  pub ready : IsReady now levels.shape
  pub reads : Reads (pages_read levels.runs first) (pages_read levels.runs cs) old now
  pub all : SkipsNoPage position → AllByRecursion HasPassed first → AllByRecursion HasPassed cs × ReadsAll (pages_read levels.runs first) (pages_read levels.runs cs) old now

pub Rows-start : (levels : Levels) (arena : Frames) (position : Position) (old : BoardState) (cs : List Cursor) → IsReady old levels.shape → AreOfShape levels.shape cs
    → (ess : List (List Entry)) × RunsOnFlash old.pages arena levels.runs ess × FollowEach old.pages levels.runs ess position cs → Rows levels arena position old old cs cs
Rows-start levels arena position old cs ready shape follow = record {
  ess = follow.0;
  stand = follow.1;
  follow = follow.2;
  shape = shape;
  ready = ready;
  reads = Reads-none (pages_read levels.runs cs) old;
  all = λ none before. (before, ReadsAll-none (pages_read levels.runs cs) old);
}

module _ {levels : Levels} {arena : Frames} {position : Position} {old now : BoardState} {first cs : List Cursor} (at : Rows levels arena position old now first cs) where
  abbrev same_pages : now.pages ≡ old.pages
  same_pages = Reads-pages _ _ old now at.reads

  follow_any : (ess : List (List Entry)) → RunsOnFlash old.pages arena levels.runs ess → FollowEach old.pages levels.runs ess position cs
  follow_any ess s = subst (λ (xss : List (List Entry)). FollowEach old.pages levels.runs xss position cs) (one_of_each old.pages arena levels.runs at.ess ess at.stand s) at.follow

  pub Rows-goes_on : GoOn old.pages arena levels.shape levels.runs position first cs
  Rows-goes_on = record { follow = follow_any; of_shape = at.shape; passed = λ none before. (at.all none before).0 }

  pub Rows-shows : AllByRecursion IsKnown cs → (AllByRecursion HasNone cs → SkipsNoPage position → AllByRecursion HasPassed first → pages_read levels.runs cs ≡ most_read levels.runs)
      → ShowsEach levels.runs position old now first cs
  Rows-shows known ended = record { known = known; reads = at.reads; all = λ none before. (at.all none before).1; ended = ended }

  -- the run of a level and its cursor
  module _ (is : IsLevels levels) (i : ℕ) (less : i < 4) {r : Kept} {c : Cursor} (run_is : r ≡ run_of levels (suc i)) (cursor_is : slice_get cs i ≡ Some c) where
    abbrev here : slice_get levels.runs i ≡ Some r
    here = run_at is i less run_is

    same_shape : r.shape ≡ levels.shape
    same_shape = (of_level_at levels.shape levels.pinned 1 levels.runs i r is.each here).same_shape

    own : (es : List Entry) × (slice_get at.ess i ≡ Some es) × RunOnFlash r old.pages arena es
    own = stands_at old.pages arena levels.runs at.ess i r at.stand here

    -- it may be searched
    pub Rows-may : MaySeek r arena position now c
    Rows-may = search (
      subst (IsReady now) (sym same_shape) at.ready,
      shape_at levels.shape cs i c at.shape cursor_is ∙ sym same_shape,
      own.0,
      subst (λ (flash : Flash). RunOnFlash r flash arena own.0) (sym same_pages) own.2,
      subst (λ (flash : Flash). Follows flash r own.0 position c) (sym same_pages) (follow_at old.pages position levels.runs at.ess cs i r own.0 c at.follow here own.1 cursor_is),
    )

    -- if a read failed, the cursor is where it came to
    pub Rows-failed : {next : BoardState} {d : Cursor} {fault : Fault} → FailsToSeek r now next c d fault
        → ReadsFail (pages_read levels.runs first) (pages_read levels.runs (slice_set cs i d)) old next
    Rows-failed {next} {d} fails =
        let (k, page, few, failed) = fails.reads in
        let e = read_set levels.runs cs i r c d here cursor_is in
        let h = at.reads.1 in
        let all = ap (λ (b : BoardState). after_reads k b) at.reads.2 ∙ reads_more k at.reads.0 old in
        (k + at.reads.0, page, omega (arith, e, h, few), subst (λ (b : BoardState). ReadFailed b next page) all failed)

    -- what the search leaves
    module _ {next : BoardState} {d : Cursor} (on : SeeksOn r arena position now next c d) where
      follow_next : FollowEach old.pages levels.runs at.ess position (slice_set cs i d)
      follow_next =
          let there = on.goes_on.follows own.0 (subst (λ (flash : Flash). RunOnFlash r flash arena own.0) (sym same_pages) own.2) in
          follow_set old.pages position levels.runs at.ess cs i r own.0 d at.follow here own.1 (subst (λ (flash : Flash). Follows flash r own.0 position d) same_pages there)

      shape_next : AreOfShape levels.shape (slice_set cs i d)
      shape_next = shape_set levels.shape cs i d at.shape (on.goes_on.shape ∙ shape_at levels.shape cs i c at.shape cursor_is)

      passed_next : SkipsNoPage position → AllByRecursion HasPassed first → AllByRecursion HasPassed (slice_set cs i d)
      passed_next none before =
          let far = (at.all none before).0 in
          passed_set cs i d far (on.goes_on.passed none (passed_at cs i c far cursor_is))

      -- the cursors go on in any case
      pub Rows-stays : GoOn old.pages arena levels.shape levels.runs position first (slice_set cs i d)
      Rows-stays = record {
        follow = λ ess s. subst (λ (xss : List (List Entry)). FollowEach old.pages levels.runs xss position (slice_set cs i d))
            (one_of_each old.pages arena levels.runs at.ess ess at.stand s) follow_next;
        of_shape = shape_next;
        passed = passed_next;
      }

      module _ (shows : ShowsIn r position now next c d) where
        all_next : SkipsNoPage position → AllByRecursion HasPassed first → ReadsAll (pages_read levels.runs first) (pages_read levels.runs (slice_set cs i d)) old next
        all_next none before =
            let far = at.all none before in
            let own = shows.all none (passed_at cs i c far.0 cursor_is) in
            let e = read_set levels.runs cs i r c d here cursor_is in
            let more : ReadsAll (pages_read levels.runs cs) (pages_read levels.runs (slice_set cs i d)) now next = (own.0, (let h = own.1 in omega (arith, e, h)), own.2) in
            ReadsAll-more _ _ _ old now next far.1 more

        pub Rows-next : Rows levels arena position old next first (slice_set cs i d)
        Rows-next =
            let e = read_set levels.runs cs i r c d here cursor_is in
            let more : Reads (pages_read levels.runs cs) (pages_read levels.runs (slice_set cs i d)) now next = (shows.reads.0, (let h = shows.reads.1 in omega (arith, e, h)), shows.reads.2) in
            record {
              ess = at.ess;
              stand = at.stand;
              follow = follow_next;
              shape = shape_next;
              ready = subst (IsReady next) same_shape on.ready;
              reads = Reads-more _ _ _ old now next at.reads more;
              all = λ none before. (passed_next none before, all_next none before);
            }

-- ---- none remains

-- the cursor of a run has come past all its pages
abbrev pub HasEnded : List Kept → List Cursor → ℕ → Type 0
HasEnded rs cs i = (r : Kept) × (c : Cursor) × (slice_get rs i ≡ Some r) × (slice_get cs i ≡ Some c) × (c.loaded ≡ length r.firsts)

each_ended : (rs : List Kept) (cs : List Cursor) → ((i : ℕ) → i < length rs → HasEnded rs cs i) → pages_read rs cs ≡ most_read rs
each_ended [] cs each = refl
each_ended (r ∷ rs) [] each = let e = (each 0 (omega arith)).3 in cc
each_ended (r ∷ rs) (c ∷ cs) each =
    let own = each 0 (omega arith) in
    let loaded : c.loaded ≡ length r.firsts = ap (λ (x : Cursor). x.loaded) (same_cursor c own.1 own.3) ∙ own.4 ∙ ap (λ (x : Kept). length x.firsts) (sym (same_run r own.0 own.2)) in
    let one = ap (read_of r.leases) loaded in
    let rest = each_ended rs cs (λ i less. each (suc i) (omega (arith, less))) in
    omega (arith, one, rest)

-- of the four runs each was read whole
pub all_ended : (rs : List Kept) (cs : List Cursor) → length rs ≡ 4 → HasEnded rs cs 0 → HasEnded rs cs 1 → HasEnded rs cs 2 → HasEnded rs cs 3 → pages_read rs cs ≡ most_read rs
all_ended rs cs four one two three last = each_ended rs cs pick
  where
    pick : (i : ℕ) → i < length rs → HasEnded rs cs i
    pick zero less = one
    pick (suc zero) less = two
    pick (suc (suc zero)) less = three
    pick (suc (suc (suc zero))) less = last
    pick (suc (suc (suc (suc i)))) less = absurd (omega (arith, less, four))
