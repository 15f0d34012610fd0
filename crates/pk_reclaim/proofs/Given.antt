-- A reclaim ended: no move remained, or its moves were committed before; the victim was freed.
use Rattle.std.proofs.Common.{◌≡◌, inl, ℕ, ◌+◌, ◌-◌, ◌*◌, ◌≤◌, refl, sym, ap, subst, ◌∙◌, arith, true, false, List, [], Option, Some}
use Rattle.std.proofs.lemmas.Bool.{le-leb}
use Rattle.pk_base.{specs.Key.Key, specs.Shape.Shape, specs.Shape.IsShape, specs.Shape.data_blocks, specs.Shape.dense, specs.Shape.most_pages, specs.Page.Flash, specs.Entry.Entry, specs.Entry.Place}
use Rattle.pk_base.specs.Map.{Map}
use Rattle.pk_plan.specs.declared.owner.Owner.TheVariants.{Values as for_values}
use Rattle.pk_nand.specs.BoardState.{BoardState}
use Rattle.pk_rootfmt.specs.Root.{Root}
use Rattle.pk_buf.specs.Table.{Table}
use Rattle.pk_jrn.specs.Epochs.{JournalEpoch}
use Rattle.pk_pool.specs.Blocks.{Blocks, used_by}
use Rattle.pk_model.specs.Found.{Found}
use Rattle.pk_law_steps.specs.Under.{places}
use Rattle.pk_law_moves.proofs.Emptying.{leaves_room}
use Rattle.pk_gc.{specs.declared.course.Course.Course, specs.declared.course.Phase.TheVariants.Idle, specs.declared.course.Phase.TheVariants.Copies, specs.declared.course.Phase.TheVariants.GivesBack}
use Rattle.pk_gc.{specs.declared.moves.Move.Move, specs.declared.reclaimed.Reclaimed.Reclaimed, specs.State.JobState, specs.State.source, specs.Victims.AreDead}
use Rattle.pk_gc.specs.Stepping.{Hands, EndsWithout, GivesVictim, victim_given}
use Rattle.pk_values.{specs.State.ValuesState, specs.State.OpenBlock, specs.State.fits_open, specs.State.has_left, specs.Placed.ValuesOnFlash}
use Rattle.pk_reclaim.{specs.Hands.hands_of, proofs.Holding.victim_given_back, proofs.Ends.end_placed, specs.Steps.SpaceMoves, proofs.Still.still_same, proofs.Still.still_moves, proofs.Still.names_of}
use Rattle.pk_reclaim.{specs.Space.ReclaimParts, specs.Space.SpaceOnFlash, specs.Space.HasRoom, specs.Space.reclaim_parts, proofs.Room.fits_need}
use Rattle.pk_reclaim.{proofs.Owners.SameOwners, proofs.Owners.owners_given, proofs.Owners.names_stay, proofs.Ready.job_in, proofs.Ready.space_in, proofs.Ready.can_give}
use Rattle.pk_log.specs.State.{LogState}

-- ---- the parts of hands

pub record SameParts (d d' : ValuesState) (p q : Blocks) (t t' : Table) (e e' : JournalEpoch) : Type 0 where
  pub values : d' ≡ d
  pub pool : q ≡ p
  pub active : t' ≡ t
  pub epoch : e' ≡ e

pub same_parts : (d d' : ValuesState) (p q : Blocks) (active active' : Table) (epoch epoch' : JournalEpoch)
    → hands_of d' q active' epoch' ≡ hands_of d p active epoch → SameParts d d' p q active active' epoch epoch'
same_parts d d' p q active active' epoch epoch' same = record {
  values = λ i. record { live = (ap (λ (h : Hands). h.live) same) i; open_block = (ap (λ (h : Hands). h.front) same) i };
  pool = ap (λ (h : Hands). h.pool) same;
  active = ap (λ (h : Hands). h.active) same;
  epoch = ap (λ (h : Hands). h.epoch) same;
}

-- ---- a block that was filled no more than a victim may be takes every value

pub output_fits : (shape : Shape) (d : ValuesState) (output used count : ℕ) → IsShape shape
    → d.open_block ≡ Some (record { block = output; used = used }) → used ≤ dense shape → count ≤ most_pages shape → fits_open shape d count ≡ true
output_fits shape d output used count is_shape is few most =
    let room = leaves_room shape is_shape in
    ap (λ (o : Option OpenBlock). has_left shape o count) is ∙ le-leb (used + count) shape.block_pages (omega (arith, few, most, room))

-- ---- the end without moves

module _ (log log' : LogState) (values values' : ValuesState) (pool pool' : Blocks) (c : Course) (moves : List Move)
    (entries : List Entry) (page : List ℕ) (old new : BoardState) (top : ℕ × Root) (found : Found) (m : Map)
    (stands : SpaceOnFlash (space_in log values pool moves entries page (Copies c)) old.pages top found m) (log_is : log' ≡ record log { active = log'.active; epoch = log'.epoch })
    (whole : c.left ≡ 0) (dead : AreDead values.live.heads (source log.shape c) (c.victim * log.shape.block_pages + log.shape.block_pages)) (job' : JobState)
    (e : EndsWithout c (job_in log moves entries page (Copies c)) (hands_of values pool log.active log.epoch) old job' (hands_of values' pool' log'.active log'.epoch) new) where
  abbrev shape : Shape
  shape = log.shape

  abbrev es : List (Key × Place)
  es = places found []

  abbrev before : ReclaimParts
  before = space_in log values pool moves entries page (Copies c)

  same_log : log' ≡ log
  same_log = log_is ∙ (λ i. record log { active = (ap (λ (h : Hands). h.active) e.hands) i; epoch = (ap (λ (h : Hands). h.epoch) e.hands) i })

  ended : ValuesOnFlash shape values' pool' [] new.pages es × (used_by for_values pool'.states + 1 ≡ used_by for_values pool.states)
  ended = end_placed shape c (job_in log moves entries page (Copies c)) job' values values' pool pool' log.active log'.active log.epoch log'.epoch old new es stands.placed
      (can_give log values pool moves entries page old.pages top found m c stands whole dead) e

  owners : SameOwners pool pool'
  owners = subst (λ (q : Blocks). SameOwners pool q) (sym (ap (λ (h : Hands). h.pool) e.hands)) (owners_given pool c.victim (stands.placed.closed_owned c.victim stands.reclaim.stands.closed).0)

  no_run : false ≡ true → ⊥
  no_run is = cc

  stands_behind : SpaceOnFlash (space_in log values' pool' moves [] page Idle) new.pages top found m
  stands_behind =
      let still = names_stay pool pool' top.1 owners (names_of before old.pages top found m stands) in
      let P : Flash → Type 0 = λ f. SpaceOnFlash (space_in log values' pool' moves [] page Idle) f top found m in
      let same = ap (λ (b : BoardState). b.pages) e.board in
      subst P (sym same) (record {
        logs = stands.logs;
        none_pending = stands.none_pending;
        under = stands.under;
        placed = subst (λ (f : Flash). ValuesOnFlash shape values' pool' [] f es) same ended.0;
        reclaim = record { shape_is = refl; stands = tt; full = λ is. absurd (no_run is) };
        half = stands.half;
        journal = still.journal;
        runs = still.runs;
        none_leaves = owners.none_leaves stands.none_leaves;
      })

  pub end_moves : SpaceMoves before old top found m (reclaim_parts log' values' pool' job') new
  end_moves =
      subst (λ (l : LogState). SpaceMoves before old top found m (reclaim_parts l values' pool' job') new) (sym same_log)
      (subst (λ (j : JobState). SpaceMoves before old top found m (reclaim_parts log values' pool' j) new) (sym e.job_is)
      (still_moves before (space_in log values' pool' moves [] page Idle) old new top found m (still_same old new e.board) stands owners stands_behind))

  pub end_given : used_by for_values pool'.states + 1 ≡ used_by for_values pool.states
  end_given = ended.1

  used_few : c.used ≤ dense shape
  used_few = let sparse = stands.reclaim.stands.sparse in omega (arith, sparse)

  pub end_room : HasRoom (reclaim_parts log' values' pool' job')
  end_room = subst (λ (l : LogState). HasRoom (reclaim_parts l values' pool' job')) (sym same_log) (λ count most.
      fits_need (fits_open shape values' count) (data_blocks shape - 1) (used_by for_values pool'.states)
      (output_fits shape values' c.output c.used count stands.placed.is_shape (ap (λ (h : Hands). h.front) e.hands) used_few most))

-- ---- the giving back after the commit

module _ (log log' : LogState) (values values' : ValuesState) (pool pool' : Blocks) (victim : ℕ) (moves : List Move)
    (entries : List Entry) (page : List ℕ) (old new : BoardState) (top : ℕ × Root) (found : Found) (m : Map)
    (stands : SpaceOnFlash (space_in log values pool moves entries page (GivesBack victim)) old.pages top found m)
    (log_is : log' ≡ record log { active = log'.active; epoch = log'.epoch }) (job' : JobState) (r : Reclaimed)
    (g : GivesVictim victim (job_in log moves entries page (GivesBack victim)) (hands_of values pool log.active log.epoch) old job' (hands_of values' pool' log'.active log'.epoch) new r) where
  abbrev start : ReclaimParts
  start = space_in log values pool moves entries page (GivesBack victim)

  parts : SameParts values values' (victim_given victim (hands_of values pool log.active log.epoch)).pool pool' log.active log'.active log.epoch log'.epoch
  parts = same_parts values values' (victim_given victim (hands_of values pool log.active log.epoch)).pool pool' log.active log'.active log.epoch log'.epoch g.hands

  log_same : log' ≡ log
  log_same = log_is ∙ (λ i. record log { active = parts.active i; epoch = parts.epoch i })

  given : ValuesOnFlash log.shape values' pool' [] new.pages (places found []) × (used_by for_values pool'.states + 1 ≡ used_by for_values pool.states)
  given = victim_given_back log.shape victim
      (job_in log moves entries page (GivesBack victim)) job' values values' pool pool' log.active log'.active log.epoch log'.epoch old new r (places found []) stands.placed g

  owners_behind : SameOwners pool pool'
  owners_behind = subst (λ (q : Blocks). SameOwners pool q) (sym parts.pool) (owners_given pool victim (stands.placed.outputs_are.owned victim (inl refl)))

  none_runs : false ≡ true → ⊥
  none_runs is = cc

  stands_then : SpaceOnFlash (space_in log values' pool' moves [] page Idle) new.pages top found m
  stands_then =
      let still = names_stay pool pool' top.1 owners_behind (names_of start old.pages top found m stands) in
      let P : Flash → Type 0 = λ f. SpaceOnFlash (space_in log values' pool' moves [] page Idle) f top found m in
      let same = ap (λ (b : BoardState). b.pages) g.board in
      subst P (sym same) (record {
        logs = stands.logs;
        none_pending = stands.none_pending;
        under = stands.under;
        placed = subst (λ (f : Flash). ValuesOnFlash log.shape values' pool' [] f (places found [])) same given.0;
        reclaim = record { shape_is = refl; stands = tt; full = λ is. absurd (none_runs is) };
        half = stands.half;
        journal = still.journal;
        runs = still.runs;
        none_leaves = owners_behind.none_leaves stands.none_leaves;
      })

  pub given_moves : SpaceMoves start old top found m (reclaim_parts log' values' pool' job') new
  given_moves =
      subst (λ (l : LogState). SpaceMoves start old top found m (reclaim_parts l values' pool' job') new) (sym log_same)
      (subst (λ (j : JobState). SpaceMoves start old top found m (reclaim_parts log values' pool' j) new) (sym g.job_is)
      (still_moves start (space_in log values' pool' moves [] page Idle) old new top found m (still_same old new g.board) stands owners_behind stands_then))

  pub given_one : used_by for_values pool'.states + 1 ≡ used_by for_values pool.states
  given_one = given.1

  pub given_values : values' ≡ values
  given_values = parts.values
