-- Keys that a walk gives, listed one after another.
use Rattle.std.proofs.Common.{◌≡◌, ℕ, ◌+◌, ◌-◌, ◌<◌, ◌≤◌, refl, sym, ap, subst, ◌∙◌, arith, Bool, true, false, min, List, [], ◌∷◌, ◌++◌, length, take, drop, flat_map, if◌then◌else◌, ◌==◌, Option}
use Rattle.std.proofs.Common.{Some, None}
use Rattle.std.proofs.lemmas.List.{append_assoc, append-nil, flat_map_more, drop-append-le, length-take-le, drop-take, length-append}
use Rattle.std.{proofs.lemmas.Bool.le-leb, proofs.lemmas.Bool.lt-leb, proofs.Math.Seq.take-add}
use Rattle.pk_base.{specs.Key.Key, specs.Key.space_of, specs.Shape.Shape, specs.Entry.Entry, specs.Entry.Place, specs.Entry.key_of, specs.Seen.entry as seen, specs.Fields.u32, specs.Page.Flash}
use Rattle.pk_base.specs.declared.entry.Entry.{Entry as RustEntry}
use Rattle.pk_nand.{specs.BoardState.BoardState, specs.Calls.IsReady, specs.Operations.ReadFailed, specs.Counts.after_reads}
use Rattle.pk_pin.specs.Frames.{Frames}
use Rattle.pk_run.specs.Kept.{Kept}
use Rattle.pk_level.{specs.Levels.Levels, specs.Levels.RunsOnFlash, proofs.Looking.reads_more}
use Rattle.pk_log.specs.State.{LogState}
use Rattle.pk_model.specs.Answer.{listed, fitting, list_bytes}
use Rattle.pk_walk.{specs.Visible.visible, specs.Visible.is_wanted, specs.Visible.wanted, proofs.Seeking.one_of_each, proofs.Seeking.Reads-none, proofs.Seeking.Reads-more}
use Rattle.pk_walk.specs.Walking.{Walk, IsLeft, WalkGives, Reads, ReadsFail, pages_read, most_read}
use Rattle.pk_parts.specs.Keys.{MayWalk, Walked, keys_of, keys_there}
use Rattle.pk_parts.{specs.Parts.Parts, specs.Agreeing.DriveOnFlash, proofs.Unchanging.agrees_ready}
use Rattle.pk_core.specs.declared.filled.Filled.{Filled}
use Rattle.pk_core.specs.Listed.{OffersKey, OffersFirst, OffersNext, Lists, ListsAll, ListsInto, own_keys}
use Rattle.pk_call.specs.declared.types.Outcome.{Outcome}

-- ---- one more key, or none

-- a listed key has some bytes
listed_some : (k : Key) → 2 ≤ length (listed k)
listed_some k = omega arith

fits_more : (room : ℕ) (k : Key) (ks : List Key) → length (listed k) ≤ room → fitting room (k ∷ ks) ≡ k ∷ fitting (room - length (listed k)) ks
fits_more room k ks h = ap (λ (b : Bool). if b then k ∷ fitting (room - length (listed k)) ks else []) (le-leb (length (listed k)) room h)

fits_none : (room : ℕ) (k : Key) (ks : List Key) → room < length (listed k) → fitting room (k ∷ ks) ≡ []
fits_none room k ks h = ap (λ (b : Bool). if b then k ∷ fitting (room - length (listed k)) ks else []) (lt-leb (length (listed k)) room h)

pub lists_start : (all : List Key) (room : ℕ) (into : List ℕ) (at : Filled) → at.end ≡ 4 → at.count ≡ 0 → Lists all room into at all
lists_start all room into at end_is count_is = record {
  done = [];
  count_is = count_is;
  end_is = end_is;
  bytes = ap (λ (n : ℕ). drop 4 (take n into)) end_is ∙ front into;
  fits = ap (λ (n : ℕ). fitting (room - n) all) (sym end_is);
}
  where
    front : (xs : List ℕ) → drop 4 (take 4 xs) ≡ []
    front xs = drop-take 4 0 xs

lists_more : (all : List Key) (room : ℕ) (into new : List ℕ) (at next : Filled) (k : Key) (ks : List Key) → 4 ≤ at.end → at.end ≤ length into
    → Lists all room into at (k ∷ ks) → OffersKey into at room k (Some next) new → Lists all room new next ks
lists_more all room into new at next k ks least within l o =
    let size : ℕ = length (listed k) in
    let end : next.end ≡ at.end + size = ap (λ (n : Filled). n.end) o.0 in
    let count : next.count ≡ at.count + 1 = ap (λ (n : Filled). n.count) o.0 in
    let more : flat_map listed l.done ++ listed k ≡ flat_map listed (l.done ++ k ∷ []) = flat_map_more listed [] l.done k in
    let lengths : length (flat_map listed (l.done ++ k ∷ [])) ≡ length (flat_map listed l.done) + size = ap (λ (xs : List ℕ). length xs) (sym more)
    ∙ length-append (flat_map listed l.done) (listed k) in
    let long : length (take at.end into) ≡ at.end = length-take-le at.end into within in
    let old_end = l.end_is in
    let old_count = l.count_is in
    let one : length (l.done ++ k ∷ []) ≡ length l.done + 1 = length-append l.done (k ∷ []) in
    let room_left : size ≤ room - at.end = (let in_room = o.1 in omega (arith, in_room, end)) in
    let left : room - at.end - size ≡ room - next.end = omega (arith, end) in
    record {
      done = l.done ++ k ∷ [];
      count_is = omega (arith, count, old_count, one);
      end_is = omega (arith, end, old_end, lengths);
      bytes = ap (drop 4) o.2 ∙ drop-append-le 4 (take at.end into) (listed k) (omega (arith, long, least)) ∙ ap (λ (xs : List ℕ). xs ++ listed k) l.bytes ∙ more;
      fits = l.fits ∙ ap (λ (xs : List Key). l.done ++ xs) (fits_more (room - at.end) k ks room_left ∙ ap (λ (n : ℕ). k ∷ fitting n ks) left)
          ∙ sym (append_assoc l.done (k ∷ []) (fitting (room - next.end) ks));
    }

-- no other key fits
lists_stop : (all : List Key) (room : ℕ) (into : List ℕ) (at : Filled) (ks : List Key) → fitting (room - at.end) ks ≡ [] → Lists all room into at ks → ListsAll all room into at
lists_stop all room into at ks none l =
    let are : l.done ≡ fitting (room - 4) all = sym (l.fits ∙ ap (λ (xs : List Key). l.done ++ xs) none ∙ append-nil l.done) in
    record {
      count_is = l.count_is ∙ ap (λ (xs : List Key). length xs) are;
      end_is = l.end_is ∙ ap (λ (xs : List Key). 4 + length (flat_map listed xs)) are;
      bytes = l.bytes ∙ ap (λ (xs : List Key). flat_map listed xs) are;
    }

-- what the next key left
pub record ListsMore (all : List Key) (room : ℕ) (new : List ℕ) (at next : Filled) (later : List Key) : Type 0 where
  pub lists : Lists all room new next later
  pub same_room : next.room ≡ at.room
  pub longer : at.end < next.end
  pub within : next.end ≤ room
  pub few : next.count ≤ next.end

pub lists_next : (all : List Key) (room : ℕ) (into new : List ℕ) (at next : Filled) (rest later : List Key) → 4 ≤ at.end → at.end ≤ length into → at.count ≤ at.end
    → Lists all room into at rest → OffersFirst into at room rest (Some next) new later → ListsMore all room new at next later
lists_next all room into new at next [] later least within few l o = absurd cc
lists_next all room into new at next (x ∷ rest) later least within few l o =
    let some = listed_some x in
    let end : next.end ≡ at.end + length (listed x) = ap (λ (n : Filled). n.end) o.0.0 in
    let count : next.count ≡ at.count + 1 = ap (λ (n : Filled). n.count) o.0.0 in
    record {
      lists = subst (λ (ys : List Key). Lists all room new next ys) (sym o.1) (lists_more all room into new at next x rest least within l o.0);
      same_room = ap (λ (n : Filled). n.room) o.0.0;
      longer = omega (arith, end, some);
      within = o.0.1;
      few = omega (arith, end, some, count, few);
    }

pub lists_last : (all : List Key) (room : ℕ) (into new : List ℕ) (at : Filled) (rest later : List Key)
    → Lists all room into at rest → OffersFirst into at room rest None new later → ListsAll all room new at
lists_last all room into new at [] later l o = subst (λ (ys : List ℕ). ListsAll all room ys at) (sym o.1) (lists_stop all room into at [] refl l)
lists_last all room into new at (x ∷ rest) later l o = subst (λ (ys : List ℕ). ListsAll all room ys at) (sym o.0.1)
    (lists_stop all room into at (x ∷ rest) (fits_none (room - at.end) x rest o.0.0) l)

-- ---- the number of keys at the start

pub list_done : (all : List Key) (room : ℕ) (into new : List ℕ) (at : Filled) → ListsAll all room into at
    → take 4 new ≡ u32 at.count → drop 4 new ≡ drop 4 into → take at.end new ≡ list_bytes (fitting (room - 4) all)
list_done all room into new at l front back =
    let rest : ℕ = length (flat_map listed (fitting (room - 4) all)) in
    let four : take (4 + rest) new ≡ take 4 new ++ take rest (drop 4 new) = take-add 4 rest new in
    ap (λ (n : ℕ). take n new) l.end_is ∙ four
    ∙ (λ i. front i ++ take rest (back i))
    ∙ (λ i. u32 (l.count_is i) ++ sym (drop-take 4 rest into) i)
    ∙ ap (λ (xs : List ℕ). u32 (length (fitting (room - 4) all)) ++ xs) (ap (λ (n : ℕ). drop 4 (take n into)) (sym l.end_is) ∙ l.bytes)

-- ---- what remains of a walk

pub left_once : (w : Walk) (flash : Flash) (arena : Frames) (rs : List Kept) (active frozen : List Entry) (a b : List (Key × Place))
    → IsLeft w flash arena rs active frozen a → IsLeft w flash arena rs active frozen b → a ≡ b
left_once w flash arena rs active frozen a b one other =
    one.is ∙ ap (λ (ess : List (List Entry)). wanted (is_wanted w.position) (visible (active ∷ frozen ∷ ess))) (one_of_each flash arena rs one.ess other.ess one.stand other.stand) ∙ sym other.is

-- the key of the entry that the walk gave was offered, if it is of this namespace
pub gives_key : (space : ℕ) (into new : List ℕ) (at : Filled) (room : ℕ) (e : RustEntry) (key : Key) (next : Option Filled) (rest later : List (Key × Place))
    → key ≡ key_of (seen e) → WalkGives (Some e) rest later → OffersFirst into at room (own_keys space (key ∷ [])) next new []
    → OffersFirst into at room (own_keys space (keys_of rest)) next new (own_keys space (keys_of later))
gives_key space into new at room e key next [] later is gives o = absurd cc
gives_key space into new at room e key next (x ∷ rest) later is gives o =
    let T : Bool → Type 0 = λ t. OffersFirst into at room (if t then x.0 ∷ [] else []) next new []
    → OffersFirst into at room (if t then x.0 ∷ own_keys space (keys_of rest) else []) next new (own_keys space (keys_of later)) in
    elim (space_of x.0 == space) as T [ true ↦ λ one. (one.0, ap (λ (es : List (Key × Place)). own_keys space (keys_of es)) gives.1) | false ↦ λ none. none ]
    (subst (λ (k : Key). OffersFirst into at room (own_keys space (k ∷ [])) next new []) (is ∙ ap (λ (y : Entry). y.0) gives.0) o)

pub gives_none : (space : ℕ) (into : List ℕ) (at : Filled) (room : ℕ) (rest later : List (Key × Place)) → WalkGives None rest later
    → OffersFirst into at room (own_keys space (keys_of rest)) None into (own_keys space (keys_of later))
gives_none space into at room [] later gives = (refl, refl)
gives_none space into at room (x ∷ rest) later gives = absurd gives

-- ---- the loop

-- what remains of a walk over these parts
abbrev pub LeftOf : Parts → Walk → Flash → List (Key × Place) → Type 0
LeftOf d w flash rest = IsLeft w flash d.arena d.levels.runs d.log.active.entries d.log.frozen.entries rest

-- the parts but for the walk are those of before
pub at_first : (d e : Parts) (P : Levels → Frames → LogState → Type 0) → e ≡ record d { walk = e.walk } → P e.levels e.arena e.log → P d.levels d.arena d.log
at_first d e P rest is = subst (λ (x : Parts). P x.levels x.arena x.log) rest is

-- A prefix of the keys of this namespace that remained at first is listed, and those after it remain.
pub record Fills (d : Parts) (old now : BoardState) (w : Walk) (space room : ℕ) (start into : List ℕ) (at : Filled) : Type 0 where
  pub all : List (Key × Place)
  pub all_left : LeftOf d d.walk old.pages all
  pub rest : List (Key × Place)
  pub left : LeftOf d w now.pages rest
  pub lists : Lists (own_keys space (keys_of all)) room into at (own_keys space (keys_of rest))
  pub least : 4 ≤ at.end
  pub room_is : at.room ≡ room
  pub within : at.end ≤ room
  pub few : at.count ≤ at.end
  pub same_shape : w.shape ≡ d.walk.shape
  pub ready : IsReady now d.levels.shape
  pub reads : Reads (pages_read d.levels.runs d.walk.cursors) (pages_read d.levels.runs w.cursors) old now
  pub size : length into ≡ length start

module _ {d : Parts} {old : BoardState} {space room : ℕ} {start : List ℕ} where
  pub fills_start : (at : Filled) → at.end ≡ 4 → at.count ≡ 0 → at.room ≡ room → 4 ≤ room → MayWalk d.walk old d.levels d.arena d.log → Fills d old old d.walk space room start start at
  fills_start at end count room_is least may = record {
    room_is = room_is;
    all = may.left.0;
    all_left = may.left.1;
    rest = may.left.0;
    left = may.left.1;
    lists = lists_start (own_keys space (keys_of may.left.0)) room start at end count;
    least = omega (arith, end);
    within = omega (arith, end, least);
    few = omega (arith, end, count);
    same_shape = refl;
    ready = may.ready;
    reads = Reads-none (pages_read d.levels.runs d.walk.cursors) old;
    size = refl;
  }

  module _ {now : BoardState} {e : Parts} {into : List ℕ} {at : Filled} (f : Fills d old now e.walk space room start into at) (same : e ≡ record d { walk = e.walk }) where
    pub fills_may : d.walk.shape ≡ d.levels.shape → MayWalk e.walk now e.levels e.arena e.log
    fills_may shape = subst (λ (x : Parts). MayWalk e.walk now x.levels x.arena x.log) (sym same) (record { ready = f.ready; same_shape = f.same_shape ∙ shape; left = (f.rest, f.left) })

    module _ (enough : room ≤ length start) (board : BoardState) (v : Walk) (next : Option Filled) (new : List ℕ) (given : OffersNext e.walk v now board e.levels e.arena e.log space at next into new) where
      -- the room is the one that the loop began with
      pub offers : (rest : List (Key × Place)) → LeftOf d e.walk now.pages rest → (later : List (Key × Place)) × OffersFirst into at room (own_keys space (keys_of rest)) next new (own_keys space (keys_of later)) × LeftOf d v board.pages later
      offers rest left =
          let here = at_first d e (λ l a g. OffersNext e.walk v now board l a g space at next into new) same given in
          let x = here rest left in
          (x.0, subst (λ (n : ℕ). OffersFirst into at n (own_keys space (keys_of rest)) next new (own_keys space (keys_of x.0))) f.room_is x.1, x.2)

      more : (n : Filled) (is : next ≡ Some n) → ListsMore (own_keys space (keys_of f.all)) room new at n (own_keys space (keys_of (offers f.rest f.left).0))
      more n is =
          let in_room = f.within in
          let size = f.size in
          let kept = own_keys space (keys_of (offers f.rest f.left).0) in
          lists_next (own_keys space (keys_of f.all)) room into new at n (own_keys space (keys_of f.rest)) kept f.least (omega (arith, in_room, size, enough)) f.few f.lists
          (subst (λ (x : Option Filled). OffersFirst into at room (own_keys space (keys_of f.rest)) x new kept) is (offers f.rest f.left).1)

      pub fills_more : (n : Filled) (is : next ≡ Some n) → Walked e.walk v now board e.levels
          → Reads (pages_read e.levels.runs e.walk.cursors) (pages_read e.levels.runs v.cursors) now board → length new ≡ length into
          → Fills d old board v space room start new n
      fills_more n is walked reads size =
          let m = more n is in
          let least = f.least in
          let longer = m.longer in
          let here = at_first d e (λ l a g. Walked e.walk v now board l) same walked in
          let read = at_first d e (λ l a g. Reads (pages_read l.runs e.walk.cursors) (pages_read l.runs v.cursors) now board) same reads in
          record {
            all = f.all;
            all_left = f.all_left;
            rest = (offers f.rest f.left).0;
            left = (offers f.rest f.left).2;
            lists = m.lists;
            least = omega (arith, least, longer);
            room_is = m.same_room ∙ f.room_is;
            within = m.within;
            few = m.few;
            same_shape = here.same_shape ∙ f.same_shape;
            ready = here.ready;
            reads = Reads-more _ _ _ old now board f.reads read;
            size = size ∙ f.size;
          }

      pub fills_less : (n : Filled) (is : next ≡ Some n) → room - n.end < room - at.end
      fills_less n is =
          let m = more n is in
          let longer = m.longer in
          let within = m.within in
          omega (arith, longer, within)

      pub fills_end : next ≡ None → (rest : List (Key × Place)) → LeftOf d d.walk old.pages rest → ListsAll (own_keys space (keys_of rest)) room new at
      fills_end is rest left =
          let kept = own_keys space (keys_of (offers f.rest f.left).0) in
          subst (λ (es : List (Key × Place)). ListsAll (own_keys space (keys_of es)) room new at) (left_once d.walk old.pages d.arena d.levels.runs d.log.active.entries d.log.frozen.entries f.all rest f.all_left left)
          (lists_last (own_keys space (keys_of f.all)) room into new at (own_keys space (keys_of f.rest)) kept f.lists
          (subst (λ (x : Option Filled). OffersFirst into at room (own_keys space (keys_of f.rest)) x new kept) is (offers f.rest f.left).1))

    module _ (board : BoardState) (v : Walk) (none : pages_read d.levels.runs d.walk.cursors ≡ 0) (walked : Walked e.walk v now board e.levels) where
      few_read : pages_read d.levels.runs v.cursors ≤ most_read d.levels.runs
      few_read = (at_first d e (λ l a g. Walked e.walk v now board l) same walked).few_read

      pub fills_reads : Reads (pages_read e.levels.runs e.walk.cursors) (pages_read e.levels.runs v.cursors) now board → Reads 0 (most_read d.levels.runs) old board
      fills_reads reads =
          let few = few_read in
          let all = Reads-more (pages_read d.levels.runs d.walk.cursors) _ _ old now board f.reads
          (at_first d e (λ l a g. Reads (pages_read l.runs e.walk.cursors) (pages_read l.runs v.cursors) now board) same reads) in
          let count = all.1 in
          (all.0, omega (arith, count, none, few), all.2)

      pub fills_fails : ReadsFail (pages_read e.levels.runs e.walk.cursors) (pages_read e.levels.runs v.cursors) now board → ReadsFail 0 (most_read d.levels.runs) old board
      fills_fails fails =
          let few = few_read in
          let here = at_first d e (λ l a g. ReadsFail (pages_read l.runs e.walk.cursors) (pages_read l.runs v.cursors) now board) same fails in
          let k = here.0 in
          let count = here.2 in
          let before = f.reads.1 in
          let all = ap (λ (b : BoardState). after_reads k b) f.reads.2 ∙ reads_more k f.reads.0 old in
          (k + f.reads.0, here.1, omega (arith, before, count, none, few), subst (λ (b : BoardState). ReadFailed b board here.1) all here.3)

-- the walk alone differs, after two calls
pub walks_on : (d e f : Parts) → e ≡ record d { walk = e.walk } → f ≡ record e { walk = f.walk } → f ≡ record d { walk = f.walk }
walks_on d e f one two = two ∙ ap (λ (x : Parts). record x { walk = f.walk }) one

-- ---- the command

-- the keys that a walk gives which was begun at this one
abbrev pub Starts : Parts → Walk → Key → Type 0
Starts d w from =
    (flash : Flash) (ess : List (List Entry)) → RunsOnFlash flash d.arena d.levels.runs ess
    → (rest : List (Key × Place)) × LeftOf d w flash rest × (keys_of rest ≡ keys_there from (d.log.active.entries ∷ d.log.frozen.entries ∷ ess))

module _ (d e : Parts) (old : BoardState) (from : Key) (starts : Starts d e.walk from) (rest : e ≡ record d { walk = e.walk }) where
  pub starts_may : DriveOnFlash d old.shape old.pages → e.walk.shape ≡ d.log.shape → MayWalk e.walk old e.levels e.arena e.log
  starts_may a shape =
      let left = starts old.pages a.found.runs a.with.index.stand in
      let same = a.with.index.levels_shape in
      subst (λ (x : Parts). MayWalk e.walk old x.levels x.arena x.log) (sym rest)
      (record { ready = subst (λ (s : Shape). IsReady old s) (sym same) (agrees_ready d old a); same_shape = shape ∙ sym same; left = (left.0, left.1) })

  -- the bytes of the whole List
  pub starts_bytes : (space room size : ℕ) (at : Filled) (into new : List ℕ) → room ≡ min size 65536
      → ((left : List (Key × Place)) → IsLeft e.walk old.pages e.arena e.levels.runs e.log.active.entries e.log.frozen.entries left → ListsAll (own_keys space (keys_of left)) room into at)
      → take 4 new ≡ u32 at.count → drop 4 new ≡ drop 4 into → (ess : List (List Entry)) → RunsOnFlash old.pages d.arena d.levels.runs ess
      → take at.end new ≡ list_bytes (fitting (min size 65536 - 4) (own_keys space (keys_there from (d.log.active.entries ∷ d.log.frozen.entries ∷ ess))))
  starts_bytes space room size at into new room_is lists front back ess stand =
      let left = starts old.pages ess stand in
      let here = at_first d e (λ l a g. (ks : List (Key × Place)) → IsLeft e.walk old.pages a l.runs g.active.entries g.frozen.entries ks → ListsAll (own_keys space (keys_of ks)) room into at) rest lists in
      list_done (own_keys space (keys_of left.0)) room into new at (here left.0 left.1) front back ∙ (λ i. list_bytes (fitting (room_is i - 4) (own_keys space (left.2 i))))

-- a List of a namespace from the key that was computed for it
pub from_first : (old new : BoardState) (o : Outcome) (into : List ℕ) (n : ℕ) (Stands : List (List Entry) → Type 0) (active frozen : List Entry) (space : ℕ) (from first : Key) → from ≡ first
    → ((ess : List (List Entry)) → Stands ess → ListsInto old new o into (list_bytes (fitting n (own_keys space (keys_there from (active ∷ frozen ∷ ess))))))
    → (ess : List (List Entry)) → Stands ess → ListsInto old new o into (list_bytes (fitting n (own_keys space (keys_there first (active ∷ frozen ∷ ess)))))
from_first old new o into n Stands active frozen space from first same all ess stand =
    subst (λ (k : Key). ListsInto old new o into (list_bytes (fitting n (own_keys space (keys_there k (active ∷ frozen ∷ ess)))))) same (all ess stand)
