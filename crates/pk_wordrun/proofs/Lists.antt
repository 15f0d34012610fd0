-- A list that goes out piece by piece.
use Rattle.std.proofs.Common.{IfSome, ◌≡◌, ◌⊎◌, inl, inr, ℕ, ◌≤◌, nat_le, true, false, List, [], ◌∷◌, ◌++◌, Option, Some, None, refl, sym, ◌∙◌, ap, subst, append-nil, append_assoc, arith}
use Rattle.std.{proofs.lemmas.Grind.flat_map-append, specs.List.AllByRecursion}
use Rattle.pk_base.{specs.Key.Key, specs.Shape.Shape, specs.Page.Flash, specs.Map.Map, specs.Mark.Mark, specs.Mark.all_posted, specs.Mark.post}
use Rattle.pk_nvme.specs.Command.{Command}
use Rattle.pk_nand.{specs.BoardState.BoardState, specs.BoardState.shape_or_none, specs.Calls.Rose, specs.Calls.longer, specs.Operations.after_post, specs.Operations.PostFailed, specs.Crash.ReachedBy}
use Rattle.pk_nand.{specs.Effects.OnlyReading, proofs.CutLemmas.posted-append, proofs.Reaching.Reached-start, proofs.Reaching.Reached-then, proofs.Reaching.Reached-post, proofs.Reaching.Went-reached}
use Rattle.pk_nand.{specs.Resting.RestsFlash, proofs.Resting.Rests-same, proofs.Resting.Rests-then}
use Rattle.pk_model.{specs.Growth.Reaches, specs.Growth.Goes, specs.Kept.rise, specs.Run.commands, specs.Reading.reading, specs.Reading.Holds}
use Rattle.pk_model.proofs.Growing.{weaken, Goes-reaches, Goes-then, grows_behind, Goes-post_failed, GrowsAlong-post}
use Rattle.pk_model.{specs.Wear.root_number, specs.Wear.roots, specs.Wear.is_worn, specs.Spaces.Terms, specs.Spaces.limits_at, specs.Spaces.limit_of, specs.Spaces.in_space}
use Rattle.pk_call.specs.Meter.{meter}
use Rattle.pk_serve.proofs.Counting.{at_most-zero, metered-unworn, few_unworn}
use Rattle.pk_port.{specs.Asking.Ran, proofs.Growing.ran-next, proofs.Stepping.part_of}
use Rattle.pk_wordrun.{proofs.Resting.rests-reading, proofs.Resting.rests-posted, proofs.Resting.rests-unposted, proofs.Telling.done_unworn, proofs.Telling.output_unworn, proofs.Telling.flash_unworn}
use Rattle.pk_wordrun.{specs.Pieces.PieceAsked, specs.Pieces.PieceTold, specs.Pieces.PieceEnds, specs.Tasks.list, specs.Tasks.KeptTask, specs.Tasks.KeptList, specs.Told.Told, specs.Told.AreOf}
use Rattle.pk_wordrun.specs.declared.end.WordEnd.{WordEnd}
use Rattle.pk_wordrun.specs.declared.end.WordEnd.TheVariants.{Done, Output, Flash as FlashFailed, Worn}
use Rattle.pk_words.{specs.Lines.key_line, specs.Lines.key_lines, specs.Says.SaysKeys, specs.Says.wanted_keys, specs.declared.listing.ListPosition.ListPosition}
use Rattle.pk_words.specs.Listing.{IsOwnPlace, keys_left, start_at, asked_at}
use Rattle.pk_host.specs.Calls.{IsOwnKey}

-- ---- places

pub own_start : (from : Option Key) → IfSome from IsOwnKey → IsOwnPlace (start_at from)
own_start None own = tt
own_start (Some key) own = own

pub own_next : (o : Option ListPosition) (next : ListPosition) → o ≡ Some next → IfSome o IsOwnPlace → IsOwnPlace next
own_next o next is own = subst (λ (x : Option ListPosition). IfSome x IsOwnPlace) is own

-- ---- what was said

-- the flash holds this map, within these limits
abbrev HeldHere : Shape → List ℕ → Map → Flash → Type 0
HeldHere shape limits start flash = Holds shape flash start × (limits_at shape flash ≡ limits)

-- the map and the limits are unchanged, and what was posted begins these lines
abbrev FrontOf : Shape → List ℕ → Map → List ℕ → Flash → List ℕ → Type 0
FrontOf shape limits start lines flash posted = HeldHere shape limits start flash × ((rest : List ℕ) × (posted ++ rest ≡ lines))

-- So far: nothing was done but reads, and the lines of the first keys were posted; the others remain at this place.
pub record IsSaying (from : Option Key) (shape : Shape) (terms : Terms) (start : Map) (a b : BoardState) (place : ListPosition) : Type 0 where
  pub has : a.shape ≡ Some shape
  pub holds : Holds shape a.pages start
  pub within : limits_at shape a.pages ≡ terms.limits
  pub reached : Reaches shape a b (FrontOf shape terms.limits start (key_lines (wanted_keys from (in_space 1 start))))
  pub front : List Key
  pub said : all_posted reached.0 ≡ key_lines front
  pub split : wanted_keys from (in_space 1 start) ≡ front ++ keys_left place (in_space 1 start)
  pub pages : b.pages ≡ a.pages
  pub rests : RestsFlash a b
  pub up : a.read_faults ≤ b.read_faults
  pub output : b.out_faults ≡ a.out_faults
  pub stop : b.stop_faults ≡ a.stop_faults
  pub input : b.input ≡ a.input
  pub in_faults : b.in_faults ≡ a.in_faults
  pub done : List Command
  pub answered : Ran shape terms start done (meter a) (meter b) start
  pub begun : ((done ≡ []) × (b ≡ a) × (place ≡ start_at from)) ⊎ AreOf (list from) shape done

wanted_at : (from : Option Key) (m : Map) → wanted_keys from m ≡ keys_left (start_at from) m
wanted_at None m = refl
wanted_at (Some key) m = refl

pub saying_none : (from : Option Key) (shape : Shape) (terms : Terms) (start : Map) (a : BoardState) → a.shape ≡ Some shape → Holds shape a.pages start → limits_at shape a.pages ≡ terms.limits
    → IsSaying from shape terms start a a (start_at from)
saying_none from shape terms start a has holds within = record {
  has = has;
  holds = holds;
  within = within;
  reached = ([], Reached-start a a (FrontOf shape terms.limits start (key_lines (wanted_keys from (in_space 1 start)))) refl refl refl refl ((holds, within), (key_lines (wanted_keys from (in_space 1 start)), refl)), tt);
  front = [];
  said = refl;
  split = wanted_at from (in_space 1 start);
  pages = refl;
  rests = Rests-same a a refl;
  up = omega arith;
  output = refl;
  stop = refl;
  input = refl;
  in_faults = refl;
  done = [];
  answered = record { all = []; are = refl; ran = refl; few = at_most-zero (rise a.read_faults a.read_faults); metered = refl };
  begun = inl (refl, refl, refl);
}

-- the commands of pieces, and one more
abbrev IsOfPiece : Command → Type 0
IsOfPiece c = (place : ListPosition) × (c ≡ asked_at place)

pieces_push : (place : ListPosition) (cs : List Command) → AllByRecursion IsOfPiece cs → AllByRecursion IsOfPiece (cs ++ asked_at place ∷ [])
pieces_push place [] all = ((place, refl), tt)
pieces_push place (c ∷ cs) all = (all.0, pieces_push place cs all.1)

-- a drive that answered a command of a list was not worn before it
unworn_before : (from : Option Key) (shape : Shape) (terms : Terms) (start : Map) (a b : BoardState) (cs : List Command)
    → AreOf (list from) shape cs → Ran shape terms start cs (meter a) (meter b) start
    → is_worn a ≡ false
unworn_before from shape terms start a b cs are r =
    few_unworn a (metered-unworn r.all (meter a) (meter b) (λ none. let clash : asked_at (start_at from) ∷ are.0 ≡ [] = sym are.1 ∙ (sym r.are ∙ ap commands none) in cc) r.metered)

rose_later : (x y z : ℕ) → Rose y z → x ≤ y → Rose x z
rose_later x y z rose up = omega (arith, rose, up)

-- reads leave what was reached
reads_on : (marks : List Mark) (a b c : BoardState) (P : Flash → List ℕ → Type 0) → OnlyReading b c → ReachedBy marks a b P → ReachedBy marks a c P
reads_on marks a b c P only run = record {
  trail = ap (λ (s : BoardState). s.trail) only ∙ run.trail;
  posted = ap (λ (s : BoardState). s.posted) only ∙ run.posted;
  same_shape = ap (λ (s : BoardState). s.shape) only ∙ run.same_shape;
  cuts = run.cuts;
  stands = ap (λ (s : BoardState). s.pages) only ∙ run.stands;
}

module _ (from : Option Key) (shape : Shape) (terms : Terms) (start : Map) (a b : BoardState) (place : ListPosition) (so_far : IsSaying from shape terms start a b place) where
  abbrev lines : List ℕ
  lines = key_lines (wanted_keys from (in_space 1 start))

  abbrev marks : List Mark
  marks = so_far.reached.0

  held : Holds shape b.pages start
  held = ap (λ f. reading shape f []) so_far.pages ∙ so_far.holds

  within : limits_at shape b.pages ≡ terms.limits
  within = ap (limits_at shape) so_far.pages ∙ so_far.within

  told : part_of (reading shape b.pages []) ≡ Some (in_space 1 start)
  told = ap part_of held

  -- the flash rests on
  rests_on : (c : BoardState) → RestsFlash b c → RestsFlash a c
  rests_on c more = Rests-then a b c so_far.pages so_far.rests more

  -- one more text after what was posted: what every cut before it has, and every prefix of it
  module _ (asked : BoardState) (only : OnlyReading b asked) (text : List ℕ) (P : Flash → List ℕ → Type 0)
      (before : (f : Flash) (q : List ℕ) → FrontOf shape terms.limits start lines f q → P f q)
      (begins : (out rest : List ℕ) → out ++ rest ≡ text → (f : Flash) → HeldHere shape terms.limits start f → P f (key_lines so_far.front ++ out)) where
    held_asked : Holds shape asked.pages start
    held_asked = ap (λ f. reading shape f []) (ap (λ (s : BoardState). s.pages) only) ∙ held

    fronts : (out rest : List ℕ) → out ++ rest ≡ text → P asked.pages (all_posted marks ++ out)
    fronts out rest e = let T : List ℕ → Type 0 = λ t. P asked.pages (t ++ out) in subst T (sym so_far.said) (begins out rest e asked.pages (held_asked, ap (limits_at shape) (ap (λ (s : BoardState). s.pages) only) ∙ within))

    behind : ReachedBy marks a asked P
    behind = weaken marks a asked (FrontOf shape terms.limits start lines) P before (reads_on marks a b asked (FrontOf shape terms.limits start lines) only so_far.reached.1)

    more : ReachedBy (post text ∷ []) asked (after_post asked text) (λ f q. P f (all_posted marks ++ q))
    more = Reached-post asked text (λ f q. P f (all_posted marks ++ q)) fronts

    abbrev posts_more : Reaches shape a (after_post asked text) P
    posts_more = (
      marks ++ post text ∷ [],
      Reached-then marks (post text ∷ []) a asked (after_post asked text) P behind more,
      grows_behind shape marks a asked P so_far.has behind so_far.reached.2 (post text ∷ []) (GrowsAlong-post shape asked.pages text),
    )

    fails_more : (c : BoardState) → PostFailed asked c text → Goes shape a c P
    fails_more c failed = Goes-then shape marks a asked P so_far.has behind so_far.reached.2 c (λ f q. P f (all_posted marks ++ q)) (λ f q h. h)
        (Goes-post_failed shape asked text (λ f q. P f (all_posted marks ++ q)) fronts c failed)

  -- ---- one more piece

  -- its command was answered
  answered_next : (asked : BoardState) (next : Option ListPosition) (text : List ℕ) → PieceAsked shape terms b asked place next text
      → Ran shape terms start (so_far.done ++ asked_at place ∷ []) (meter a) (meter asked) start
  answered_next asked next text is =
      ran-next shape terms start so_far.done (meter a) (meter b) start so_far.answered (meter asked) (asked_at place) is.x start so_far.up is.up is.is (is.step start held) is.metered

  are_next : AreOf (list from) shape (so_far.done ++ asked_at place ∷ [])
  are_next = elim so_far.begun [
    | inl first ↦ ([], ap (λ (l : List Command). l ++ asked_at place ∷ []) first.0 ∙ ap (λ (p : ListPosition). asked_at p ∷ []) first.2, tt)
    | inr are ↦ (are.0 ++ asked_at place ∷ [], ap (λ (l : List Command). l ++ asked_at place ∷ []) are.1, pieces_push place are.0 are.2)
  ]

  -- the lines of the next keys, and those after them
  pieces : (page left : List Key) → keys_left place (in_space 1 start) ≡ page ++ left → lines ≡ key_lines so_far.front ++ (key_lines page ++ key_lines left)
  pieces page left e =
      ap key_lines (so_far.split ∙ ap (λ (ks : List Key). so_far.front ++ ks) e)
      ∙ (flat_map-append key_line so_far.front (page ++ left) ∙ ap (λ t. key_lines so_far.front ++ t) (flat_map-append key_line page left))

  -- a prefix of the lines of the next keys
  fronts_next : (next : ListPosition) (asked : BoardState) (text : List ℕ) → PieceAsked shape terms b asked place (Some next) text
      → (out rest : List ℕ) → out ++ rest ≡ text → (f : Flash) → HeldHere shape terms.limits start f → FrontOf shape terms.limits start lines f (key_lines so_far.front ++ out)
  fronts_next next asked text is out rest e f h =
      let (page, split, spelled) = is.piece.lines (in_space 1 start) told in
      let left : List ℕ = key_lines (keys_left next (in_space 1 start)) in (
        h,
        (
          rest ++ left,
          append_assoc (key_lines so_far.front) out (rest ++ left)
              ∙ (ap (λ t. key_lines so_far.front ++ t) (sym (append_assoc out rest left) ∙ ap (λ t. t ++ left) (e ∙ spelled)) ∙ sym (pieces page (keys_left next (in_space 1 start)) split)),
        ),
      )

  pub saying_more : (asked : BoardState) (next : ListPosition) (text : List ℕ) → PieceAsked shape terms b asked place (Some next) text
      → (c : BoardState) → c ≡ after_post asked text → IsSaying from shape terms start a c next
  saying_more asked next text is c posted =
      let T : BoardState → Type 0 = λ x. IsSaying from shape terms start a x next in
      let (page, split, spelled) = is.piece.lines (in_space 1 start) told in
      subst T (sym posted) (record {
        has = so_far.has;
        holds = so_far.holds;
        within = so_far.within;
        reached = posts_more asked is.reads text (FrontOf shape terms.limits start lines) (λ f q h. h) (fronts_next next asked text is);
        front = so_far.front ++ page;
        said = posted-append marks (post text ∷ []) ∙ (ap (λ t. t ++ (text ++ [])) so_far.said
            ∙ (ap (λ t. key_lines so_far.front ++ t) (append-nil text ∙ spelled) ∙ sym (flat_map-append key_line so_far.front page)));
        split = so_far.split ∙ (ap (λ (ks : List Key). so_far.front ++ ks) split ∙ sym (append_assoc so_far.front page (keys_left next (in_space 1 start))));
        pages = ap (λ (s : BoardState). s.pages) is.reads ∙ so_far.pages;
        rests = rests_on (after_post asked text) (rests-posted b asked (after_post asked text) text is.reads refl);
        up = (let first = so_far.up in let second = is.up in omega (arith, first, second));
        output = ap (λ (s : BoardState). s.out_faults) is.reads ∙ so_far.output;
        stop = ap (λ (s : BoardState). s.stop_faults) is.reads ∙ so_far.stop;
        input = ap (λ (s : BoardState). s.input) is.reads ∙ so_far.input;
        in_faults = ap (λ (s : BoardState). s.in_faults) is.reads ∙ so_far.in_faults;
        done = so_far.done ++ asked_at place ∷ [];
        answered = answered_next asked (Some next) text is;
        begun = inr are_next;
      })

  -- ---- the end

  -- what every cut keeps up to this state of the board
  abbrev kept_to : BoardState → Flash → List ℕ → Type 0
  kept_to c = KeptTask (list from) (meter a) (meter c) shape terms start

  -- every cut so far begins the lines of all keys
  all_lines : (x y : ℕ) (f : Flash) (q : List ℕ) → FrontOf shape terms.limits start lines f q → KeptList from x y shape terms start f q
  all_lines x y f q (h, (rest, e)) = record { held = h.0; same_limits = h.1; text = lines; says = (refl, inl refl); unposted = rest; front = e }

  -- the whole text with this piece, whatever the piece is
  abbrev Ending : List ℕ → ℕ → ℕ → Type 0
  Ending text x y = SaysKeys from (Rose x y) shape (limit_of terms.limits 1) terms.frames (in_space 1 start) (key_lines so_far.front ++ text) (in_space 1 start)

  last_piece : (asked : BoardState) (text : List ℕ) → PieceAsked shape terms b asked place None text → (y : ℕ) → asked.read_faults ≤ y → Ending text a.read_faults y
  last_piece asked text is y later = elim (is.piece (in_space 1 start) told) [
    | inl none ↦ (
      refl,
      inl (ap (λ t. key_lines so_far.front ++ t) none.0
          ∙ (append-nil (key_lines so_far.front) ∙ ap key_lines (sym (so_far.split ∙ (ap (λ (ks : List Key). so_far.front ++ ks) none.1 ∙ append-nil so_far.front))))),
    )
    | inr failed ↦ (
      refl,
      inr (
        so_far.front,
        keys_left place (in_space 1 start),
        so_far.split,
        (let rose = failed.0 in let first = so_far.up in omega (arith, rose, first, later)),
        ap (λ t. key_lines so_far.front ++ t) failed.1,
      ),
    )
  ]

  begins_ending : (text : List ℕ) (x y : ℕ) → Ending text x y → (out rest : List ℕ) → out ++ rest ≡ text → (f : Flash) → HeldHere shape terms.limits start f
      → KeptList from x y shape terms start f (key_lines so_far.front ++ out)
  begins_ending text x y says out rest e f h = record {
    held = h.0;
    same_limits = h.1;
    text = key_lines so_far.front ++ text;
    says = says;
    unposted = rest;
    front = append_assoc (key_lines so_far.front) out rest ∙ ap (λ t. key_lines so_far.front ++ t) e;
  }

  module _ (asked : BoardState) (text : List ℕ) (is : PieceAsked shape terms b asked place None text) where
    ended : Told (list from) shape terms start a (after_post asked text) Done
    ended =
        let says = last_piece asked text is asked.read_faults (omega arith) in
        let run = posts_more asked is.reads text (kept_to asked) (all_lines a.read_faults asked.read_faults) (begins_ending text a.read_faults asked.read_faults says) in
        record {
          kept = Goes-reaches shape a (after_post asked text) (kept_to asked) run;
          rests = λ _. rests_on (after_post asked text) (rests-posted b asked (after_post asked text) text is.reads refl);
          ends = record {
            left = start;
            asked = so_far.done ++ asked_at place ∷ [];
            are = are_next;
            answered = answered_next asked None text is;
            text = key_lines so_far.front ++ text;
            says = says;
            posted = run.1.posted ∙ ap (λ t. longer a.posted t)
                (posted-append marks (post text ∷ []) ∙ (ap (λ t. t ++ (text ++ [])) so_far.said ∙ ap (λ t. key_lines so_far.front ++ t) (append-nil text)));
            holds = held_asked asked is.reads text (kept_to asked) (all_lines a.read_faults asked.read_faults) (begins_ending text a.read_faults asked.read_faults says);
            sound = record { output = ap (λ (s : BoardState). s.out_faults) is.reads ∙ so_far.output; stop = ap (λ (s : BoardState). s.stop_faults) is.reads ∙ so_far.stop };
            unworn = λ _. unworn_before from shape terms start a asked (so_far.done ++ asked_at place ∷ []) are_next (answered_next asked None text is);
          };
          used = λ e. absurd (done_unworn e);
          input = record { input = ap (λ (s : BoardState). s.input) is.reads ∙ so_far.input; in_faults = ap (λ (s : BoardState). s.in_faults) is.reads ∙ so_far.in_faults };
        }

  pub saying_done : (c : BoardState) → PieceTold shape terms b c place None → Told (list from) shape terms start a c Done
  saying_done c t = let T : BoardState → Type 0 = λ x. Told (list from) shape terms start a x Done in subst T (sym t.posted) (ended t.asked t.text t.is)

  -- the output failed in this piece
  unposted : (asked : BoardState) (text : List ℕ) → OnlyReading b asked → (c : BoardState) → PostFailed asked c text
      → ((out rest : List ℕ) → out ++ rest ≡ text → (f : Flash) → HeldHere shape terms.limits start f → KeptList from a.read_faults c.read_faults shape terms start f (key_lines so_far.front ++ out))
      → Told (list from) shape terms start a c Output
  unposted asked text only c failed begins =
      let R : ℕ → Type 0 = λ n. Rose n c.out_faults in
      record {
        kept = fails_more asked only text (kept_to c) (all_lines a.read_faults c.read_faults) begins c failed;
        rests = λ _. rests_on c (rests-unposted b asked c text only failed);
        ends = subst R (ap (λ (s : BoardState). s.out_faults) only ∙ so_far.output) failed.faults;
        used = λ e. absurd (output_unworn e);
        input = record {
          input = ap (λ (s : BoardState). s.input) failed.rest ∙ (ap (λ (s : BoardState). s.input) only ∙ so_far.input);
          in_faults = ap (λ (s : BoardState). s.in_faults) failed.rest ∙ (ap (λ (s : BoardState). s.in_faults) only ∙ so_far.in_faults);
        };
      }

  ends_output : (c : BoardState) (asked : BoardState) (text : List ℕ) (next : Option ListPosition) → PieceAsked shape terms b asked place next text
      → PostFailed asked c text → Told (list from) shape terms start a c Output
  ends_output c asked text (Some next) is failed = unposted asked text is.reads c failed
      (λ out rest e f h. all_lines a.read_faults c.read_faults f (key_lines so_far.front ++ out) (fronts_next next asked text is out rest e f h))
  ends_output c asked text None is failed =
      let same : c.read_faults ≡ asked.read_faults = ap (λ (s : BoardState). s.read_faults) failed.rest in
      unposted asked text is.reads c failed (begins_ending text a.read_faults c.read_faults (last_piece asked text is c.read_faults (omega (arith, same))))

  -- nothing more was done but reads
  stands_still : (c : BoardState) → OnlyReading b c → Goes shape a c (kept_to c)
  stands_still c only = (
    marks,
    Went-reached marks a c (kept_to c)
        (weaken marks a c (FrontOf shape terms.limits start lines) (kept_to c) (all_lines a.read_faults c.read_faults) (reads_on marks a b c (FrontOf shape terms.limits start lines) only so_far.reached.1)),
    so_far.reached.2,
  )

  same_roots : roots b ≡ roots a
  same_roots = λ k. root_number (shape_or_none (so_far.reached.1.same_shape k)) (so_far.pages k)

  -- on a worn drive nothing was done
  none_done : is_worn b ≡ true → b ≡ a
  none_done worn = elim so_far.begun [
    | inl first ↦ first.1
    | inr are ↦ absurd (
        let unworn = unworn_before from shape terms start a b so_far.done are so_far.answered in
        let clash : true ≡ false = sym worn ∙ (ap (λ n. nat_le 9223372036854775808 n) same_roots ∙ unworn) in cc
        )
  ]

  pub saying_ends : (c : BoardState) (end : WordEnd) → PieceEnds shape terms b c place end → Told (list from) shape terms start a c end
  saying_ends c Done never = absurd never
  saying_ends c Output u = ends_output c u.asked u.text u.next u.is u.failed
  saying_ends c FlashFailed s =
      let R : ℕ → Type 0 = λ n. Rose n c.stop_faults in
      record {
        kept = stands_still c s.0;
        rests = λ _. rests_on c (rests-reading b c s.0);
        ends = subst R so_far.stop s.2;
        used = λ e. absurd (flash_unworn e);
        input = record { input = ap (λ (s : BoardState). s.input) s.0 ∙ so_far.input; in_faults = ap (λ (s : BoardState). s.in_faults) s.0 ∙ so_far.in_faults };
      }
  saying_ends c Worn w =
      let T : BoardState → Type 0 = λ x. Told (list from) shape terms start a x Worn in
      subst T (sym w.0) (record {
        kept = stands_still b refl;
        rests = λ _. so_far.rests;
        ends = (w.1, record { output = so_far.output; stop = so_far.stop }, none_done w.1);
        used = λ e. (let same = same_roots in omega (arith, same));
        input = record { input = so_far.input; in_faults = so_far.in_faults };
      })
