-- A walk over all lists: what a step leaves, and what remains after several.
use Rattle.std.proofs.Common.{◌≡◌, ℕ, suc, ◌+◌, ◌<◌, ◌≤◌, refl, sym, ap, subst, ◌∙◌, arith, Bool, true, false, if◌then◌else◌, T, is_some, option_map, List, [], ◌∷◌, ◌++◌, length, drop, Option, Some}
use Rattle.std.proofs.Common.{None, Result, Ok, Err}
use Rattle.std.specs.declared.cmp.Ordering.TheVariants.{Less, Equal, Greater}
use Rattle.std.{specs.List.AllByRecursion, specs.List.flat_map, specs.Ordering.is_eq, specs.Ordering.is_gt, specs.FinMap.Entries.is_sorted}
use Rattle.pk_base.{specs.Key.Key, specs.Key.key_cmp, specs.Shape.Shape, specs.Entry.Entry, specs.Entry.Place, specs.Entry.key_of, specs.Seen.entry as seen, specs.Firsts.firsts, specs.Refusal.Refusal}
use Rattle.pk_base.{specs.declared.entry.Entry.Entry as RustEntry, specs.Page.Flash, specs.Page.page_at, proofs.KeyLemmas.firsts_sorted, specs.declared.sizes.TheConstants.MOST_SPACES}
use Rattle.pk_meta.specs.Run.{run}
use Rattle.pk_nand.{specs.BoardState.BoardState, specs.Calls.IsReady, specs.Operations.ReadFailed, specs.Counts.after_reads}
use Rattle.pk_pin.specs.Frames.{Frames}
use Rattle.pk_run.specs.Kept.{Kept}
use Rattle.pk_level.{specs.Levels.RunsOnFlash, proofs.Looking.reads_more}
use Rattle.pk_model.specs.Values.{placed}
use Rattle.pk_walk.{specs.declared.position.Position.Position, specs.declared.position.Position.TheVariants.First, specs.declared.position.Position.TheVariants.Above}
use Rattle.pk_walk.specs.Visible.{visible, behind_found, is_wanted, wanted, first_of, lesser, least_first}
use Rattle.pk_walk.specs.Heads.{Head, Shows, head_after, entry_in, held, known_as, least_of, order_of}
use Rattle.pk_walk.specs.Walking.{Cursor, Tops, Walk, IsWalk, AreOfShape, FollowEach, ShowBoth, cursors_behind, none_known, tops_behind, HasPassed, IsLeft, WalkGives, Passes, Reads, ReadsAll}
use Rattle.pk_walk.specs.Walking.{ReadsFail, SkipsNoPage, SkipsNone, all_left, all_at_start, read_of, pages_read, most_read}
use Rattle.pk_walk.specs.Steps.{AreKnown, Comes, GoBehind, GoOn, HasNone, IsKnown, ShowsEach, WalksOn, first_left, heads_in, heads_of}
use Rattle.pk_walk.proofs.Wanting.{above_is_narrower, behind_first, first_wanted, narrowed, none_here, none_wanted, placed_wanted}
use Rattle.pk_walk.proofs.Following.{Follows-above, Follows-start}
use Rattle.pk_walk.proofs.Seeking.{Reads-none, Reads-more, Reads-pages, ReadsAll-none, ReadsAll-more, no_answer, one_of_each}
use Rattle.pk_walk.{proofs.Merging.EachSorted, proofs.Merging.first_of_lists, proofs.Leasts.NotBelow, proofs.Leasts.NoneBelow, proofs.Leasts.none_below}

-- ---- lists of runs that match the flash

pub each_rises : (flash : Flash) (arena : Frames) (rs : List Kept) (ess : List (List Entry)) → RunsOnFlash flash arena rs ess → EachSorted ess
each_rises flash arena [] [] s = tt
each_rises flash arena (r ∷ rs) (es ∷ ess) s = (s.0.rising, each_rises flash arena rs ess s.1)
each_rises flash arena _ _ s = absurd s

abbrev pub read_entries : Result (List Entry) Refusal → List Entry
read_entries (Ok es) = es
read_entries (Err refusal) = []

-- the entries of runs on a flash, as they are read
abbrev pub lists_on : Flash → List Kept → List (List Entry)
lists_on flash [] = []
lists_on flash (r ∷ rs) = read_entries (run r.shape MOST_SPACES (page_at flash) r.level r.count r.blocks) ∷ lists_on flash rs

pub lists_are : (flash : Flash) (arena : Frames) (rs : List Kept) (ess : List (List Entry)) → RunsOnFlash flash arena rs ess → lists_on flash rs ≡ ess
lists_are flash arena [] [] s = refl
lists_are flash arena (r ∷ rs) (es ∷ ess) s = λ i. read_entries (s.0.read i) ∷ lists_are flash arena rs ess s.1 i
lists_are flash arena _ _ s = absurd s

-- how many entries of wanted keys count
abbrev pub many_left : Flash → List Kept → List Entry → List Entry → Position → ℕ
many_left flash rs active frozen position = length (all_left position (active ∷ frozen ∷ lists_on flash rs))

-- ---- the least of all

pub least_is : (flash : Flash) (arena : Frames) (rs : List Kept) (ess : List (List Entry)) (active frozen : List Entry) (position : Position) (a b c all : Option Entry)
    → T (is_sorted key_cmp active) → T (is_sorted key_cmp frozen) → RunsOnFlash flash arena rs ess
    → a ≡ first_of (wanted (is_wanted position) active) → b ≡ first_of (wanted (is_wanted position) frozen) → c ≡ least_first (is_wanted position) ess → all ≡ lesser a (lesser b c)
    → all ≡ first_of (all_left position (active ∷ frozen ∷ ess))
least_is flash arena rs ess active frozen position a b c all up down s ea eb ec is =
    is ∙ (λ i. lesser (ea i) (lesser (eb i) (ec i))) ∙ sym (first_of_lists (is_wanted position) (active ∷ frozen ∷ ess) (up, (down, each_rises flash arena rs ess s)))

-- what a cursor knows is the first wanted entry of its run
pub known_head : (w : Key → Bool) (es : List Entry) (n count : ℕ) (h : Head) → length es ≡ count
    → wanted w es ≡ held h ++ wanted w (drop n es) → (h ≡ Some None → count ≤ n) → is_some h ≡ true → entry_in h ≡ first_of (wanted w es)
known_head w es n count None many left ended known = cc
known_head w es n count (Some None) many left ended known = none_here w es n (omega (arith, many, ended refl)) left
known_head w es n count (Some (Some e)) many left ended known = sym (ap first_of left)

known_least : (flash : Flash) (arena : Frames) (position : Position) (rs : List Kept) (ess : List (List Entry)) (cs : List Cursor)
    → length rs ≡ length cs → RunsOnFlash flash arena rs ess → FollowEach flash rs ess position cs
    → AllByRecursion IsKnown cs → least_of (heads_of cs) ≡ least_first (is_wanted position) ess
known_least flash arena position [] [] [] same s f known = refl
known_least flash arena position [] (es ∷ ess) cs same s f known = absurd s
known_least flash arena position (r ∷ rs) [] cs same s f known = absurd s
known_least flash arena position (r ∷ rs) (es ∷ ess) (c ∷ cs) same s f known =
    let own = known_head (is_wanted position) es c.place r.count c.head s.0.many f.0.left f.0.ended known.0 in
    let rest = known_least flash arena position rs ess cs (omega (arith, same)) s.1 f.1 known.1 in
    λ i. lesser (own i) (rest i)
known_least flash arena position _ _ _ same s f known = absurd (omega (arith, same))

-- and what is known of a buffer is its first
known_top : (es : List Entry) (position : Position) (h : Head) → Shows es position h → entry_in (known_as (first_of (wanted (is_wanted position) es)) h) ≡ first_of (wanted (is_wanted position) es)
known_top es position None shows = refl
known_top es position (Some found) shows = shows

shows_known : (es : List Entry) (position : Position) (h : Head) → Shows es position h → Shows es position (known_as (first_of (wanted (is_wanted position) es)) h)
shows_known es position None shows = refl
shows_known es position (Some found) shows = shows

-- if there is no least there is none of all
neither : (a b : Option Entry) → None ≡ lesser a b → (a ≡ None) × (b ≡ None)
neither None b e = (refl, sym e)
neither (Some x) None e = cc
neither (Some x) (Some y) e = absurd (either (is_gt (key_cmp x.0 y.0)) e)
  where
    either : (b : Bool) → ◌≡◌ {A = Option Entry} None (if b then Some y else Some x) → ⊥
    either true e = cc
    either false e = cc

all_none : (cs : List Cursor) → None ≡ least_of (heads_of cs) → AllByRecursion IsKnown cs → AllByRecursion HasNone cs
all_none [] e known = tt
all_none (c ∷ cs) e known =
    let both = neither (entry_in c.head) (least_of (heads_of cs)) e in
    (ended c.head known.0 both.0, all_none cs (sym both.1) known.1)
  where
    ended : (h : Head) → is_some h ≡ true → entry_in h ≡ None → h ≡ Some None
    ended None known none = cc
    ended (Some None) known none = refl
    ended (Some (Some e)) known none = cc

-- ---- a step

pub step_some : (position : Position) (lists : List (List Entry)) (e : RustEntry) → Some (seen e) ≡ first_of (all_left position lists)
    → Passes (Some e) (all_left position lists) (all_left (Above (key_of (seen e))) lists)
step_some position lists e is =
    let all = firsts (flat_map (λ es. es) lists) in
    let split = behind_first position all (seen e) (firsts_sorted (flat_map (λ es. es) lists)) (sym is) in
    subst (λ (xs : List Entry). Passes (Some e) xs (all_left (Above (key_of (seen e))) lists)) (sym split) (refl, refl)

pub step_none : (position : Position) (lists : List (List Entry)) → None ≡ first_of (all_left position lists) → Passes None (all_left position lists) (all_left position lists)
step_none position lists is =
    let none = none_wanted (all_left position lists) (sym is) in
    subst (λ (xs : List Entry). Passes None xs xs) (sym none) (refl, refl)

not_below_entry : (key : Key) (h : Head) → NotBelow key (entry_in h) → (e : Entry) → h ≡ Some (Some e) → key_cmp e.0 key ≡ Less → ⊥
not_below_entry key h n e is = subst (λ (x : Head). NotBelow key (entry_in x)) is n

pub step_follow : (flash : Flash) (position : Position) (key : Key) (rs : List Kept) (ess : List (List Entry)) (cs : List Cursor)
    → T (is_wanted position key) → NoneBelow key (heads_of cs) → AllByRecursion IsKnown cs → FollowEach flash rs ess position cs
    → FollowEach flash rs ess (Above key) (cursors_behind key cs)
step_follow flash position key (r ∷ rs) (es ∷ ess) (c ∷ cs) one none known f =
    (Follows-above flash r es position c f.0 key one (not_below_entry key c.head none.0) known.0, step_follow flash position key rs ess cs one none.1 known.1 f.1)
step_follow flash position key _ _ _ one none known f = tt

no_entry : (e : Entry) → ◌≡◌ {A = Option Entry} None (Some e) → ⊥
no_entry e is = cc

-- what is known of a buffer stays right
step_shows : (position : Position) (key : Key) (es : List Entry) (h : Head) → T (is_wanted position key) → NotBelow key (entry_in h) → Shows es position h → Shows es (Above key) (head_after key h)
step_shows position key es None one low shows = tt
step_shows position key es (Some None) one low shows =
    let v : Key → Bool = is_wanted (Above key) in
    let none = none_wanted (wanted (is_wanted position) es) (sym shows) in
    ap first_of (sym (ap (wanted v) none) ∙ narrowed v (is_wanted position) es (above_is_narrower position key one))
step_shows position key es (Some (Some e)) one low shows =
    let v : Key → Bool = is_wanted (Above key) in
    elim (key_cmp e.0 key) as (λ o. key_cmp e.0 key ≡ o → Shows es (Above key) (if is_eq o then None else Some (Some e))) [
      | Less ↦ λ p. absurd (low p)
      | Equal ↦ λ p. tt
      | Greater ↦ λ p. first_kept (wanted (is_wanted position) es) p shows ∙ ap first_of (narrowed v (is_wanted position) es (above_is_narrower position key one))
    ] refl
  where
    first_kept : (xs : List Entry) → key_cmp e.0 key ≡ Greater → Some e ≡ first_of xs → Some e ≡ first_of (wanted (is_wanted (Above key)) xs)
    first_kept [] gt is = absurd (no_entry e (sym is))
    first_kept (x ∷ xs) gt is =
        is ∙ ap (λ (b : Bool). first_of (if b then x ∷ wanted (is_wanted (Above key)) xs else wanted (is_wanted (Above key)) xs))
        (sym (ap is_gt (ap (λ (y : Option Entry). order_of y (Some (key, None))) (sym is) ∙ gt)))

pub step_wanted : (position : Position) (lists : List (List Entry)) (e : RustEntry) → Some (seen e) ≡ first_of (all_left position lists) → T (is_wanted position (key_of (seen e)))
step_wanted position lists e is = first_wanted (is_wanted position) (firsts (flat_map (λ es. es) lists)) (seen e) (sym is)

-- the pages that were passed stay so
behind_read : (key : Key) (rs : List Kept) (cs : List Cursor) → pages_read rs (cursors_behind key cs) ≡ pages_read rs cs
behind_read key (r ∷ rs) (c ∷ cs) = ap (λ (n : ℕ). read_of r.leases c.loaded + n) (behind_read key rs cs)
behind_read key _ _ = refl

behind_passed : (key : Key) (cs : List Cursor) → AllByRecursion HasPassed cs → AllByRecursion HasPassed (cursors_behind key cs)
behind_passed key [] passed = tt
behind_passed key (c ∷ cs) passed = (passed.0, behind_passed key cs passed.1)

behind_shape : (shape : Shape) (key : Key) (cs : List Cursor) → AreOfShape shape cs → AreOfShape shape (cursors_behind key cs)
behind_shape shape key [] are = tt
behind_shape shape key (c ∷ cs) are = (are.0, behind_shape shape key cs are.1)

-- it is a walk still
pub is_walk_behind : (shape own : Shape) (position : Position) (tops t u : Tops) (ds cs : List Cursor) (a : Option Entry) → GoBehind a t ds u cs → AreOfShape shape ds → own ≡ shape → length cs ≡ 4
    → IsWalk (record { shape = own; position = position; tops = tops; cursors = cs })
is_walk_behind shape own position tops t u ds cs a go are same four = record { four = four; each = subst (λ (x : Shape). AreOfShape x cs) (sym same) (each a go) }
  where
    each : (a : Option Entry) → GoBehind a t ds u cs → AreOfShape shape cs
    each None go = subst (AreOfShape shape) (sym go.1) are
    each (Some e) go = subst (AreOfShape shape) (sym go.1) (behind_shape shape e.0 ds are)

-- What a step learned at a walk's position, and how it left the cursors.
pub record Learned (rs : List Kept) (arena : Frames) (active frozen : List Entry) (shape : Shape) (old new : BoardState) (w : Walk) (t : Tops) (ds : List Cursor) : Type 0 where
  pub on : GoOn old.pages arena shape rs w.position w.cursors ds
  pub shows : ShowsEach rs w.position old new w.cursors ds
  pub before : ShowBoth active frozen w.position w.tops
  pub known : AreKnown active frozen w.position w.tops t
  pub up : T (is_sorted key_cmp active)
  pub down : T (is_sorted key_cmp frozen)
  pub many : length rs ≡ length ds

module _ {rs : List Kept} {arena : Frames} {active frozen : List Entry} {shape : Shape} {old new : BoardState}
    {w : Walk} {t : Tops} {ds : List Cursor} (at : Learned rs arena active frozen shape old new w t ds) where
  tops_now : ShowBoth active frozen w.position t
  tops_now = subst (ShowBoth active frozen w.position) (sym at.known) (shows_known active w.position w.tops.active at.before.0, shows_known frozen w.position w.tops.frozen at.before.1)

  -- the least of what is known is the next of all
  found : (a : Option Entry) → a ≡ least_of (heads_in t ds) → (ess : List (List Entry)) → RunsOnFlash old.pages arena rs ess → a ≡ first_left w.position active frozen ess
  found a least ess s =
      least_is old.pages arena rs ess active frozen w.position (entry_in t.active) (entry_in t.frozen) (least_of (heads_of ds)) a at.up at.down s
      (ap (λ (x : Tops). entry_in x.active) at.known ∙ known_top active w.position w.tops.active at.before.0)
      (ap (λ (x : Tops). entry_in x.frozen) at.known ∙ known_top frozen w.position w.tops.frozen at.before.1)
      (known_least old.pages arena w.position rs ess ds at.many s (at.on.follow ess s) at.shows.known) least

  -- the walk moves past an entry
  module _ (e : RustEntry) (key : Key) (of_entry : key ≡ key_of (seen e)) (least : Some (seen e) ≡ least_of (heads_in t ds))
      (u : Tops) (cs : List Cursor) (go : GoBehind (Some (seen e)) t ds u cs) where
    read_same : pages_read rs cs ≡ pages_read rs ds
    read_same = ap (pages_read rs) go.1 ∙ behind_read (key_of (seen e)) rs ds

    pub comes_behind : Comes rs arena active frozen old new w (record w { position = Above key; tops = u; cursors = cs }) (Some e)
    comes_behind = record {
      passes = λ ess s.
          subst (λ (k : Key). Passes (Some e) (all_left w.position (active ∷ frozen ∷ ess)) (all_left (Above k) (active ∷ frozen ∷ ess))) (sym of_entry)
          (step_some w.position (active ∷ frozen ∷ ess) e (found (Some (seen e)) least ess s));
      reads = subst (λ (n : ℕ). Reads (pages_read rs w.cursors) n old new) (sym read_same) at.shows.reads;
      exact = λ none. subst (λ (n : ℕ). ReadsAll (pages_read rs w.cursors) n old new) (sym read_same) (at.shows.all none.position none.passed);
      ended = λ is none. absurd (no_answer e is);
    }

    stays_right : (ess : List (List Entry)) → RunsOnFlash old.pages arena rs ess
        → FollowEach old.pages rs ess (Above (key_of (seen e))) (cursors_behind (key_of (seen e)) ds) × ShowBoth active frozen (Above (key_of (seen e))) (tops_behind (key_of (seen e)) t)
    stays_right ess s =
        let none = none_below (heads_in t ds) (seen e) least in
        let one = step_wanted w.position (active ∷ frozen ∷ ess) e (found (Some (seen e)) least ess s) in (
          step_follow old.pages w.position (key_of (seen e)) rs ess ds one none.1.1 at.shows.known (at.on.follow ess s),
          (step_shows w.position (key_of (seen e)) active t.active one none.0 tops_now.0, step_shows w.position (key_of (seen e)) frozen t.frozen one none.1.0 tops_now.1),
        )

    pub walks_behind : WalksOn old.pages arena rs active frozen w (record w { position = Above key; tops = u; cursors = cs })
    walks_behind = record {
      follow = λ ess s.
          subst (λ (k : Key). FollowEach old.pages rs ess (Above k) cs × ShowBoth active frozen (Above k) u) (sym of_entry)
          (subst (λ (xs : List Cursor). FollowEach old.pages rs ess (Above (key_of (seen e))) xs × ShowBoth active frozen (Above (key_of (seen e))) u) (sym go.1)
          (subst (λ (x : Tops). FollowEach old.pages rs ess (Above (key_of (seen e))) (cursors_behind (key_of (seen e)) ds)
          × ShowBoth active frozen (Above (key_of (seen e))) x) (sym go.0) (stays_right ess s)));
      same_shape = refl;
      skips_none = λ none. search (subst (AllByRecursion HasPassed) (sym go.1) (behind_passed (key_of (seen e)) ds (at.on.passed none.position none.passed)));
    }

  -- it stays at its position
  module _ (least : None ≡ least_of (heads_in t ds)) (u : Tops) (cs : List Cursor) (go : GoBehind None t ds u cs) where
    pub walks_there : WalksOn old.pages arena rs active frozen w (record w { tops = u; cursors = cs })
    walks_there = record {
      follow = λ ess s. (subst (FollowEach old.pages rs ess w.position) (sym go.1) (at.on.follow ess s), subst (ShowBoth active frozen w.position) (sym go.0) tops_now);
      same_shape = refl;
      skips_none = λ none. record { position = none.position; passed = subst (AllByRecursion HasPassed) (sym go.1) (at.on.passed none.position none.passed) };
    }

    pub comes_to_none : Comes rs arena active frozen old new w (record w { tops = u; cursors = cs }) None
    comes_to_none = record {
      passes = λ ess s. step_none w.position (active ∷ frozen ∷ ess) (found None least ess s);
      reads = subst (λ (xs : List Cursor). Reads (pages_read rs w.cursors) (pages_read rs xs) old new) (sym go.1) at.shows.reads;
      exact = λ none. subst (λ (xs : List Cursor). ReadsAll (pages_read rs w.cursors) (pages_read rs xs) old new) (sym go.1) (at.shows.all none.position none.passed);
      ended = λ is none.
          let deep = neither (entry_in t.frozen) (least_of (heads_of ds)) (sym (neither (entry_in t.active) (lesser (entry_in t.frozen) (least_of (heads_of ds))) least).1) in
          ap (pages_read rs) go.1 ∙ at.shows.ended (all_none ds (sym deep.1) at.shows.known) none.position none.passed;
    }

  -- whatever it was, the walk moves past it
  pub comes_to_found : (a : Option RustEntry) (p : Position) → p ≡ behind_found (option_map seen a) w.position
      → option_map seen a ≡ least_of (heads_in t ds) → (u : Tops) (cs : List Cursor) → GoBehind (option_map seen a) t ds u cs
      → Comes rs arena active frozen old new w (record w { position = p; tops = u; cursors = cs }) a
  comes_to_found None p is least u cs go = subst
      (λ (q : Position). Comes rs arena active frozen old new w (record w { position = q; tops = u; cursors = cs }) None) (sym is) (comes_to_none least u cs go)
  comes_to_found (Some e) p is least u cs go = subst (λ (q : Position). Comes rs arena active frozen old new w (record w { position = q; tops = u; cursors = cs }) (Some e))
      (sym is) (comes_behind e (key_of (seen e)) refl least u cs go)

  pub walks_to_found : (a : Option RustEntry) (p : Position) → p ≡ behind_found (option_map seen a) w.position
      → option_map seen a ≡ least_of (heads_in t ds) → (u : Tops) (cs : List Cursor) → GoBehind (option_map seen a) t ds u cs
      → WalksOn old.pages arena rs active frozen w (record w { position = p; tops = u; cursors = cs })
  walks_to_found None p is least u cs go = subst (λ (q : Position). WalksOn old.pages arena rs active frozen w (record w { position = q; tops = u; cursors = cs })) (sym is) (walks_there least u cs go)
  walks_to_found (Some e) p is least u cs go = subst (λ (q : Position). WalksOn old.pages arena rs active frozen w (record w { position = q; tops = u; cursors = cs }))
      (sym is) (walks_behind e (key_of (seen e)) refl least u cs go)

-- a read failed, and the walk is where it was
pub walks_failed : (rs : List Kept) (arena : Frames) (active frozen : List Entry) (shape : Shape) (flash : Flash) (w : Walk) (t : Tops) (ds : List Cursor)
    → GoOn flash arena shape rs w.position w.cursors ds → t ≡ w.tops
    → ShowBoth active frozen w.position w.tops → WalksOn flash arena rs active frozen w (record w { tops = t; cursors = ds })
walks_failed rs arena active frozen shape flash w t ds on same before = record {
  follow = λ ess s. (on.follow ess s, subst (ShowBoth active frozen w.position) (sym same) before);
  same_shape = refl;
  skips_none = λ none. record { position = none.position; passed = on.passed none.position none.passed };
}

-- ---- what remains

-- the remaining keys are those of the remaining entries
left_is : (position : Position) (lists : List (List Entry)) → wanted (is_wanted position) (visible lists) ≡ placed (all_left position lists)
left_is position lists = placed_wanted (is_wanted position) (firsts (flat_map (λ es. es) lists))

start_length : (cs : List Cursor) → length (all_at_start cs) ≡ length cs
start_length [] = refl
start_length (c ∷ cs) = ap (λ (n : ℕ). suc n) (start_length cs)

start_shape : (shape : Shape) (cs : List Cursor) → AreOfShape shape cs → AreOfShape shape (all_at_start cs)
start_shape shape [] are = tt
start_shape shape (c ∷ cs) are = (are.0, start_shape shape cs are.1)

-- a walk whose cursors go back to the start is one
pub start_walk : (shape : Shape) (position : Position) (tops : Tops) (cs cursors : List Cursor) → cursors ≡ all_at_start cs
    → length cs ≡ 4 → AreOfShape shape cs → IsWalk (record { shape = shape; position = position; tops = tops; cursors = cursors })
start_walk shape position tops cs cursors same four are = search (ap (λ (xs : List Cursor). length xs) same ∙ start_length cs ∙ four, subst (AreOfShape shape) (sym same) (start_shape shape cs are))

start_follow : (flash : Flash) (position : Position) (rs : List Kept) (ess : List (List Entry)) (cs : List Cursor) → FollowEach flash rs ess position (all_at_start cs)
start_follow flash position (r ∷ rs) (es ∷ ess) (c ∷ cs) = (Follows-start flash r es position c, start_follow flash position rs ess cs)
start_follow flash position _ _ _ = tt

-- at the start all wanted keys remain
pub start_left : (w : Walk) (cs : List Cursor) → w.cursors ≡ all_at_start cs → w.tops ≡ none_known
    → (flash : Flash) (arena : Frames) (rs : List Kept) (active frozen : List Entry) (ess : List (List Entry)) → RunsOnFlash flash arena rs ess
    → IsLeft w flash arena rs active frozen (wanted (is_wanted w.position) (visible (active ∷ frozen ∷ ess)))
start_left w cs same unknown flash arena rs active frozen ess stand = search (
  ess,
  stand,
  subst (FollowEach flash rs ess w.position) (sym same) (start_follow flash w.position rs ess cs),
  subst (ShowBoth active frozen w.position) (sym unknown) (tt, tt),
)

none_read_of : (leases : List ℕ) → read_of leases 0 ≡ 0
none_read_of leases = omega arith

start_reads : (rs : List Kept) (cs : List Cursor) → pages_read rs (all_at_start cs) ≡ 0
start_reads (r ∷ rs) (c ∷ cs) = let rest = start_reads rs cs in let own = none_read_of r.leases in omega (arith, rest, own)
start_reads _ _ = refl

-- and nothing was read
pub start_none : (cursors cs : List Cursor) → cursors ≡ all_at_start cs → (rs : List Kept) → pages_read rs cursors ≡ 0
start_none cursors cs same rs = ap (pages_read rs) same ∙ start_reads rs cs

start_passed : (cs : List Cursor) → AllByRecursion HasPassed (all_at_start cs)
start_passed [] = tt
start_passed (c ∷ cs) = (omega arith, start_passed cs)

-- from the first key on no page is skipped
pub start_skips_none : (w : Walk) (cs : List Cursor) → w.cursors ≡ all_at_start cs → w.position ≡ First → SkipsNone w
start_skips_none w cs same first = search (subst SkipsNoPage (sym first) tt, subst (AllByRecursion HasPassed) (sym same) (start_passed cs))

all_wanted : (xs : List (Key × Place)) → wanted (is_wanted First) xs ≡ xs
all_wanted [] = refl
all_wanted (x ∷ xs) = ap (λ (ys : List (Key × Place)). x ∷ ys) (all_wanted xs)

-- from the first key on all keys remain
pub start_all : (w : Walk) (cs : List Cursor) → w.cursors ≡ all_at_start cs → w.tops ≡ none_known → w.position ≡ First
    → (flash : Flash) (arena : Frames) (rs : List Kept) (active frozen : List Entry) (ess : List (List Entry)) → RunsOnFlash flash arena rs ess
    → IsLeft w flash arena rs active frozen (visible (active ∷ frozen ∷ ess))
start_all w cs same unknown first flash arena rs active frozen ess stand =
    subst (IsLeft w flash arena rs active frozen) (ap (λ (p : Position). wanted (is_wanted p) (visible (active ∷ frozen ∷ ess))) first ∙ all_wanted (visible (active ∷ frozen ∷ ess)))
    (start_left w cs same unknown flash arena rs active frozen ess stand)

-- the cursors follow the runs on the flash of old, only entries of deleted keys were passed since, and nothing was done but reads
pub record Walking (rs : List Kept) (arena : Frames) (active frozen : List Entry) (shape : Shape) (old now : BoardState) (first w : Walk) : Type 0 where
  pub ess : List (List Entry)
  pub stand : RunsOnFlash old.pages arena rs ess
  pub follow : FollowEach old.pages rs ess w.position w.cursors
  pub tops : ShowBoth active frozen w.position w.tops
  pub left : placed (all_left w.position (active ∷ frozen ∷ ess)) ≡ placed (all_left first.position (active ∷ frozen ∷ ess))
  pub same_shape : w.shape ≡ first.shape
  pub ready : IsReady now shape
  pub reads : Reads (pages_read rs first.cursors) (pages_read rs w.cursors) old now
  pub all : SkipsNone first → SkipsNone w × ReadsAll (pages_read rs first.cursors) (pages_read rs w.cursors) old now

module _ {rs : List Kept} {arena : Frames} {active frozen : List Entry} {shape : Shape} {old : BoardState} {first : Walk} where
  pub Walking-start : (rest : List (Key × Place)) → IsReady old shape → IsLeft first old.pages arena rs active frozen rest → Walking rs arena active frozen shape old old first first
  Walking-start rest ready left = record {
    ess = left.ess;
    stand = left.stand;
    follow = left.follow;
    tops = left.tops;
    left = refl;
    same_shape = refl;
    ready = ready;
    reads = Reads-none (pages_read rs first.cursors) old;
    all = λ none. (none, ReadsAll-none (pages_read rs first.cursors) old);
  }

  module _ {now : BoardState} {w : Walk} (at : Walking rs arena active frozen shape old now first w) where
    abbrev same_pages : now.pages ≡ old.pages
    same_pages = Reads-pages _ _ old now at.reads

    pub stand_now : RunsOnFlash now.pages arena rs at.ess
    stand_now = subst (λ (flash : Flash). RunsOnFlash flash arena rs at.ess) (sym same_pages) at.stand

    pub follow_now : (ess : List (List Entry)) × RunsOnFlash now.pages arena rs ess × FollowEach now.pages rs ess w.position w.cursors
    follow_now = (at.ess, stand_now, subst (λ (flash : Flash). FollowEach flash rs at.ess w.position w.cursors) (sym same_pages) at.follow)

    abbrev lists : List (List Entry)
    lists = active ∷ frozen ∷ at.ess

    -- if the step skips no page, neither do all of them
    pub Walking-all : {next : BoardState} {v : Walk} {a : Option RustEntry} → Comes rs arena active frozen now next w v a → WalksOn now.pages arena rs active frozen w v
        → SkipsNone first → SkipsNone v × ReadsAll (pages_read rs first.cursors) (pages_read rs v.cursors) old next
    Walking-all {next} comes on none =
        let far = at.all none in
        (on.skips_none far.0, ReadsAll-more _ _ _ old now next far.1 (comes.exact far.0))

    -- one more entry, of a deleted key
    pub Walking-gone : {next : BoardState} {v : Walk} {e : RustEntry} → Comes rs arena active frozen now next w v (Some e) → WalksOn now.pages arena rs active frozen w v
        → is_some (seen e).1 ≡ false → IsReady next shape → Walking rs arena active frozen shape old next first v
    Walking-gone {next} {v} {e} comes on gone ready = search (
      subst (λ (flash : Flash). FollowEach flash rs at.ess v.position v.cursors) same_pages (on.follow at.ess stand_now).0,
      (on.follow at.ess stand_now).1,
      sym (passed_gone (all_left w.position lists) (all_left v.position lists) (comes.passes at.ess stand_now)) ∙ at.left,
      on.same_shape ∙ at.same_shape,
      ready,
      Reads-more _ _ _ old now next at.reads comes.reads,
      Walking-all comes on,
    )
      where
        no_place : (x : Entry) → is_some x.1 ≡ false → (xs : List Entry) → placed (x ∷ xs) ≡ placed xs
        no_place (key, Some place) none xs = cc
        no_place (key, None) none xs = refl

        passed_gone : (xs ys : List Entry) → Passes (Some e) xs ys → placed xs ≡ placed ys
        passed_gone [] ys p = cc
        passed_gone (x ∷ xs) ys p = no_place x (ap (λ (y : Entry). is_some y.1) (sym p.0) ∙ gone) xs ∙ ap placed (sym p.1)

    -- the keys that remain now
    abbrev left_by : Walk → List (Key × Place)
    left_by v = wanted (is_wanted v.position) (visible lists)

    -- what remains before any list
    rest_is : (rest : List (Key × Place)) → IsLeft first old.pages arena rs active frozen rest → rest ≡ placed (all_left w.position lists)
    rest_is rest left =
        let own = one_of_each old.pages arena rs left.ess at.ess left.stand at.stand in
        left.is ∙ ap (λ (ess : List (List Entry)). wanted (is_wanted first.position) (visible (active ∷ frozen ∷ ess))) own ∙ left_is first.position lists ∙ sym at.left

    left_next : (next : BoardState) (v : Walk) → next.pages ≡ now.pages → FollowEach now.pages rs at.ess v.position v.cursors
        × ShowBoth active frozen v.position v.tops → IsLeft v next.pages arena rs active frozen (placed (all_left v.position lists))
    left_next next v pages follow = search (
      subst (λ (flash : Flash). RunsOnFlash flash arena rs at.ess) (sym pages) stand_now,
      subst (λ (flash : Flash). FollowEach flash rs at.ess v.position v.cursors) (sym pages) follow.0,
      follow.1,
      sym (left_is v.position lists),
    )

    -- one more entry, of a key that exists
    pub Walking-gives : {next : BoardState} {v : Walk} {e : RustEntry} → Comes rs arena active frozen now next w v (Some e) → WalksOn now.pages arena rs active frozen w v
        → is_some (seen e).1 ≡ true → next.pages ≡ now.pages → (rest : List (Key × Place)) → IsLeft first old.pages arena rs active frozen rest
        → (later : List (Key × Place)) × WalkGives (Some e) rest later × IsLeft v next.pages arena rs active frozen later
    Walking-gives {next} {v} {e} comes on there pages rest left = (
      placed (all_left v.position lists),
      subst (λ (xs : List (Key × Place)). WalkGives (Some e) xs (placed (all_left v.position lists)))
          (sym (rest_is rest left)) (given (all_left w.position lists) (all_left v.position lists) (comes.passes at.ess stand_now)),
      left_next next v pages (on.follow at.ess stand_now),
    )
      where
        given_one : (x : Entry) → is_some x.1 ≡ true → seen e ≡ x → (xs ys : List Entry) → ys ≡ xs → WalkGives (Some e) (placed (x ∷ xs)) (placed ys)
        given_one (key, Some place) some is xs ys same = (is, ap placed same)
        given_one (key, None) none is xs ys same = cc

        given : (xs ys : List Entry) → Passes (Some e) xs ys → WalkGives (Some e) (placed xs) (placed ys)
        given [] ys p = cc
        given (x ∷ xs) ys p = given_one x (ap (λ (y : Entry). is_some y.1) (sym p.0) ∙ there) p.0 xs ys p.1

    -- no more entry
    pub Walking-ends : {next : BoardState} {v : Walk} → Comes rs arena active frozen now next w v None → WalksOn now.pages arena rs active frozen w v → next.pages ≡ now.pages
        → (rest : List (Key × Place)) → IsLeft first old.pages arena rs active frozen rest
        → (later : List (Key × Place)) × WalkGives None rest later × IsLeft v next.pages arena rs active frozen later
    Walking-ends {next} {v} comes on pages rest left = (
      placed (all_left v.position lists),
      subst (λ (xs : List (Key × Place)). WalkGives None xs (placed (all_left v.position lists)))
          (sym (rest_is rest left)) (ended (all_left w.position lists) (all_left v.position lists) (comes.passes at.ess stand_now)),
      left_next next v pages (on.follow at.ess stand_now),
    )
      where
        ended : (xs ys : List Entry) → Passes None xs ys → WalkGives None (placed xs) (placed ys)
        ended [] ys p = (refl, ap placed p.1)
        ended (x ∷ xs) ys p = absurd p

    -- a read failed
    pub Walking-fails : {v : Walk} → WalksOn now.pages arena rs active frozen w v → (next : BoardState) → next.pages ≡ now.pages → v.position ≡ w.position
        → (rest : List (Key × Place)) → IsLeft first old.pages arena rs active frozen rest → IsLeft v next.pages arena rs active frozen rest
    Walking-fails {v} on next pages same rest left =
        subst (IsLeft v next.pages arena rs active frozen) (ap (λ (p : Position). placed (all_left p lists)) same ∙ sym (rest_is rest left)) (left_next next v pages (on.follow at.ess stand_now))

    pub fails_behind : (next : BoardState) (v : Walk) → ReadsFail (pages_read rs w.cursors) (pages_read rs v.cursors) now next
        → ReadsFail (pages_read rs first.cursors) (pages_read rs v.cursors) old next
    fails_behind next v (k, page, few, failed) = search (arith, reads_more, few)

    -- never more than all pages
    pub few_read : {v : Walk} → WalksOn now.pages arena rs active frozen w v → pages_read rs v.cursors ≤ most_read rs
    few_read {v} on = bound rs at.ess v.cursors stand_now (on.follow at.ess stand_now).0
      where
        few : (leases : List ℕ) (n m : ℕ) → n ≤ m → read_of leases n ≤ read_of leases m
        few leases n m h = omega (arith, h)

        bound : (rs : List Kept) (ess : List (List Entry)) (cs : List Cursor) → RunsOnFlash now.pages arena rs ess → FollowEach now.pages rs ess v.position cs → pages_read rs cs ≤ most_read rs
        bound [] ess cs s f = omega arith
        bound (r ∷ rs) [] cs s f = absurd s
        bound (r ∷ rs) (es ∷ ess) [] s f = omega arith
        bound (r ∷ rs) (es ∷ ess) (c ∷ cs) s f =
            let one = few r.leases c.loaded (length r.firsts) f.0.pages in
            let others = bound rs ess cs s.1 f.1 in
            omega (arith, one, others)

    -- with each step fewer remain
    pub fewer_left : {next : BoardState} {v : Walk} {e : RustEntry} → Comes rs arena active frozen now next w v (Some e) → next.pages ≡ now.pages
        → many_left next.pages rs active frozen v.position < many_left now.pages rs active frozen w.position
    fewer_left {next} {v} {e} comes pages = search (arith, lists_are, stand_now, next.pages, v.position, comes.passes)
