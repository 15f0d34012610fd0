-- A reclaim begins: a victim was chosen, and a block taken for its copies; or a victim without live pages was freed.
use Rattle.std.proofs.Common.{◌≡◌, inl, inr, ℕ, ◌+◌, ◌-◌, ◌*◌, ◌<◌, ◌≤◌, refl, sym, ap, subst, ◌∙◌, arith, true, false, List, [], ◌∷◌, sum, take, drop}
use Rattle.std.proofs.lemmas.Option.{slice_get_within}
use Rattle.pk_base.{specs.Key.Key, specs.Shape.Shape, specs.Shape.data_blocks, specs.Shape.dense, specs.Page.Flash, specs.Page.page_at, specs.Entry.Entry, specs.Entry.Place, specs.Map.Map}
use Rattle.pk_plan.specs.declared.owner.Owner.TheVariants.{Values as for_values}
use Rattle.pk_nand.{specs.BoardState.BoardState, specs.Calls.IsReady, specs.Operations.IsErasedBlock}
use Rattle.pk_rootfmt.specs.Root.{Root}
use Rattle.pk_pool.specs.Blocks.{Blocks, used_by}
use Rattle.pk_model.{specs.Found.Found, specs.Growth.Reaches}
use Rattle.pk_law_steps.specs.Under.{places}
use Rattle.pk_live.specs.Values.{Values, IsClosed, count_of}
use Rattle.pk_gc.{specs.declared.course.Course.Course, specs.declared.course.Phase.TheVariants.Idle, specs.declared.course.Phase.TheVariants.Copies, specs.declared.moves.Move.Move}
use Rattle.pk_gc.{specs.State.JobState, specs.State.started, specs.State.live_from, specs.Running.IsRunning, specs.Running.IsSparse, specs.Beginning.Starts, specs.Beginning.GivesBack}
use Rattle.pk_gc.{proofs.Copying.start_runs, proofs.Lowering.live_of_block, proofs.Victims.below_quota}
use Rattle.pk_values.{specs.State.ValuesState, specs.State.fits_open, specs.Placed.ValuesOnFlash, specs.Placed.HoldsValues, proofs.Unchanged.none_in_spare}
use Rattle.pk_reclaim.{proofs.Holding.chosen, proofs.Holding.output_taken, proofs.Holding.dead_given_back, specs.Steps.SpaceMoves, proofs.Room.no_need}
use Rattle.pk_reclaim.specs.Space.{ReclaimParts, SpaceOnFlash, MayReclaim, HasRoom, reclaim_parts}
use Rattle.pk_reclaim.proofs.Owners.{SameOwners, owners_taken, owners_given, spare_aside, names_stay, others_kept}
use Rattle.pk_reclaim.proofs.Quiet.{NamesOwned, IsQuiet, SameBut, Finds, under_quiet, low_quiet, log_quiet, meta_quiet, journal_quiet, none_reaches, erase_quiet, erase_reaches}
use Rattle.pk_reclaim.{proofs.Still.still_same, proofs.Still.none_moved, proofs.Still.still_moves, proofs.Still.names_of, proofs.Ready.job_in, proofs.Ready.space_in, proofs.Ready.used_is}
use Rattle.pk_log.specs.State.{LogState}

-- the pages of a victim that are live are those of the values that begin in it
sparse_started : (shape : Shape) (live : Values) (victim output : ℕ) → live.block_pages ≡ shape.block_pages → count_of live victim ≤ dense shape → IsSparse shape (started victim output) live.heads
sparse_started shape live victim output same few =
    let n : ℕ = shape.block_pages in
    let at : ℕ = victim * n + 0 + 0 in
    let count : ℕ = victim * n + n - at in
    let whole : count ≡ n = omega arith in
    let start : at ≡ victim * n = omega arith in
    let all : live_from live.heads at count ≡ sum (take n (drop (victim * n) live.heads)) = (λ i. live_from live.heads (start i) (whole i)) ∙ live_of_block live.heads (victim * n) n in
    let counted : count_of live victim ≡ sum (take n (drop (victim * n) live.heads)) = λ i. sum (take (same i) (drop (victim * same i) live.heads)) in
    omega (arith, few, all, counted)

module _ (log : LogState) (values values' : ValuesState) (pool pool' : Blocks) (moves : List Move)
    (entries : List Entry) (page : List ℕ) (old new : BoardState) (top : ℕ × Root) (found : Found) (m : Map)
    (ready : IsReady old log.shape) (may : MayReclaim (space_in log values pool moves entries page Idle) old.pages top found m) (job' : JobState) where
  abbrev shape : Shape
  shape = log.shape

  abbrev es : List (Key × Place)
  es = places found []

  abbrev before : ReclaimParts
  before = space_in log values pool moves entries page Idle

  placed : ValuesOnFlash shape values pool [] old.pages es
  placed = may.stands.placed

  used : used_by for_values pool.states ≡ data_blocks shape - 1
  used = used_is log values pool moves entries page old.pages top found m may.turn

  names : NamesOwned pool top.1
  names = names_of before old.pages top found m may.stands

  -- ---- a block was taken

  module _ (s : Starts (job_in log moves entries page Idle) values.live values.open_block pool old job' values'.live values'.open_block pool' new) where
    quiet : IsQuiet log pool old top found m s.output
    quiet = record {
      has = ready.shape_is;
      logs = may.stands.logs;
      under = may.stands.under;
      names = names;
      behind = s.place.0;
      aside = spare_aside pool s.output s.spare;
      unread = λ k here. none_in_spare shape values pool [] old.pages es s.output placed s.spare k here;
    }

    same : SameBut quiet new.pages
    same = elim s.choice [ inl taken ↦ (λ k other. ap (λ (b : BoardState). page_at b.pages k) taken.same) | inr free ↦ erase_quiet quiet new free.erase ]

    reaches : Reaches shape old new (Finds quiet)
    reaches = elim s.choice [ inl taken ↦ none_reaches quiet new taken.same | inr free ↦ erase_reaches quiet new free.erase ]

    taken : ValuesOnFlash shape values' pool' (s.output ∷ []) new.pages es × (used_by for_values pool'.states ≡ used_by for_values pool.states + 1)
    taken = output_taken shape (job_in log moves entries page Idle) job' values values' pool pool' old new es placed s

    owners : SameOwners pool pool'
    owners = subst (λ (q : Blocks). SameOwners pool q) (sym s.taken) (owners_taken pool s.output s.spare)

    closed : IsClosed values'.live s.victim
    closed = s.chooses.0.least.closed

    abbrev course : Course
    course = started s.victim s.output

    runs : IsRunning shape course [] page new.pages es
    runs =
        let size = taken.0.closed_size in
        let within = slice_get_within values'.live.closed s.victim true closed in
        start_runs shape s.victim s.output page new.pages es placed.is_shape (λ is. (taken.0.closed_owned s.victim closed).2 (inl is)) s.place.0 (omega (arith, size, within))
        (subst (λ (x : Shape). s.output < x.blocks) placed.shape_is s.place.1) (subst (λ (x : Shape). IsErasedBlock x new.pages s.output) placed.shape_is s.are_erased) quiet.unread

    full : used_by for_values pool'.states ≡ data_blocks shape
    full = let more = taken.1 in let less = below_quota shape (used_by for_values pool.states) placed.is_shape used in let is = used in omega (arith, more, less, is)

    stands : SpaceOnFlash (space_in log values' pool' [] [] page (Copies course)) new.pages top found m
    stands =
        let still = names_stay pool pool' top.1 owners names in
        record {
          logs = log_quiet quiet new.pages same;
          none_pending = may.stands.none_pending;
          under = under_quiet quiet new.pages same;
          placed = taken.0;
          reclaim = record {
            shape_is = refl;
            stands = record { runs = runs; sparse = sparse_started shape values'.live s.victim s.output taken.0.block_pages_is s.chooses.0.sparse; closed = closed };
            full = λ is. full;
          };
          half = may.stands.half;
          journal = still.journal;
          runs = still.runs;
          none_leaves = owners.none_leaves may.stands.none_leaves;
        }

    pub starts_moves : SpaceMoves before old top found m (reclaim_parts log values' pool' job') new
    starts_moves = subst (λ (j : JobState). SpaceMoves before old top found m (reclaim_parts log values' pool' j) new) (sym s.job_is)
        (none_moved before (space_in log values' pool' [] [] page (Copies course)) old new top found m stands
        (others_kept shape top.1 pool old.pages pool' new.pages owners (low_quiet quiet new.pages same)
        (meta_quiet quiet new.pages same) (λ k owned other. journal_quiet quiet new.pages same k owned)) reaches)

  -- ---- a block without live pages was freed

  module _ (g : GivesBack (job_in log moves entries page Idle) values.live values.open_block pool old job' values'.live values'.open_block pool' new) where
    given : ValuesOnFlash shape values' pool' [] new.pages es × (used_by for_values pool'.states + 1 ≡ used_by for_values pool.states)
    given = dead_given_back shape (job_in log moves entries page Idle) job' values values' pool pool' old new es placed g

    abbrev with_chosen : ValuesState
    with_chosen = record { live = g.chosen; open_block = values'.open_block }

    held : HoldsValues pool g.victim
    held = ((chosen shape shape values with_chosen g.victim pool [] old.pages es g.chooses placed).closed_owned g.victim g.chooses.0.least.closed).0

    owners_behind : SameOwners pool pool'
    owners_behind = subst (λ (q : Blocks). SameOwners pool q) (sym g.given) (owners_given pool g.victim held)

    stands_behind : SpaceOnFlash (space_in log values' pool' moves entries page Idle) new.pages top found m
    stands_behind =
        let still = names_stay pool pool' top.1 owners_behind names in
        let P : Flash → Type 0 = λ f. SpaceOnFlash (space_in log values' pool' moves entries page Idle) f top found m in
        subst P (sym (ap (λ (b : BoardState). b.pages) g.same)) (record {
          logs = may.stands.logs;
          none_pending = may.stands.none_pending;
          under = may.stands.under;
          placed = subst (λ (f : Flash). ValuesOnFlash shape values' pool' [] f es) (ap (λ (b : BoardState). b.pages) g.same) given.0;
          reclaim = record { shape_is = refl; stands = tt; full = λ is. absurd (no_run is) };
          half = may.stands.half;
          journal = still.journal;
          runs = still.runs;
          none_leaves = owners_behind.none_leaves may.stands.none_leaves;
        })
      where
        no_run : false ≡ true → ⊥
        no_run e = cc

    pub dead_moves : SpaceMoves before old top found m (reclaim_parts log values' pool' job') new
    dead_moves = subst (λ (j : JobState). SpaceMoves before old top found m (reclaim_parts log values' pool' j) new) (sym g.kept)
        (still_moves before (space_in log values' pool' moves entries page Idle) old new top found m (still_same old new g.same) may.stands owners_behind stands_behind)

    pub dead_given : used_by for_values pool'.states + 1 ≡ used_by for_values pool.states
    dead_given = given.1

    -- then no value needs a reclaim
    pub dead_room : HasRoom (reclaim_parts log values' pool' job')
    dead_room count most =
        let less = given.1 in
        let is = used in
        let below = below_quota shape (used_by for_values pool.states) placed.is_shape used in
        no_need (fits_open shape values' count) (data_blocks shape - 1) (used_by for_values pool'.states) (omega (arith, less, is, below))
