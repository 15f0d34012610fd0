-- A step of a reclaim lowers the remaining work.
use Rattle.std.proofs.Common.{◌≡◌, ◌⊎◌, inl, inr, ℕ, ◌+◌, ◌-◌, ◌<◌, Bool, true, false, List, length, refl, sym, ap, subst, ◌∙◌, arith, nat_le}
use Rattle.std.{specs.Prelude.◌&&◌, specs.Prelude.◌==◌, specs.Prelude.not, proofs.lemmas.Bool.le-leb, proofs.lemmas.Bool.eqb-true}
use Rattle.pk_base.{specs.Shape.data_blocks, specs.Shape.most_pages, specs.Entry.Entry, proofs.Logic.not_both}
use Rattle.pk_plan.specs.declared.owner.Owner.TheVariants.{Values}
use Rattle.pk_pool.{specs.Blocks.Blocks, specs.Blocks.used_by, specs.Unready.unready}
use Rattle.pk_law_work.{specs.Rest.whole_reclaim, specs.Rest.Lowers, specs.Work.reclaiming, specs.Work.reclaiming_from, proofs.Lowering.reclaims}
use Rattle.pk_gc.{specs.declared.course.Phase.Phase, specs.Standing.held_blocks, specs.Stepping.runs_in}
use Rattle.pk_gc.specs.declared.course.Phase.TheVariants.{Idle, Copies, Commits, GivesBack}
use Rattle.pk_log.specs.State.{LogState}
use Rattle.pk_values.specs.State.{fits_open}
use Rattle.pk_schedule.{specs.declared.phase.Phase.Phase as MergePhase, specs.Index.Index, specs.Steps.merge_left}
use Rattle.pk_schedule.specs.declared.phase.Phase.TheVariants.{Idle as NoMerge}
use Rattle.pk_parts.specs.Parts.{Parts, index_of, sight_of, counts_of, backlog_of, is_reclaim_due, reclaim_left, has_moves, may_freeze}
use Rattle.pk_reclaim.{specs.Space.HasRoom as HasSpace, specs.Steps.RoomBehind}
use Rattle.pk_background.{specs.Reclaiming.LeavesIndex, specs.Reclaiming.RunsOn, specs.Reclaiming.is_tight_for, specs.Reclaiming.space_of, proofs.Spacing.FallsTo, proofs.Spacing.and_true}
use Rattle.pk_background.{proofs.Spacing.tight_same}

-- ---- whether a further reclaim is due

-- if every value has room, none is
not_due_at : (d : Parts) (b : Bool) → ((counts_of d).blocks == data_blocks d.log.shape - 1) ≡ b → HasSpace (space_of d) → (b && not (fits_open d.log.shape d.values (most_pages d.log.shape))) ≡ false
not_due_at d false e values = refl
not_due_at d true e values =
    let all = eqb-true (counts_of d).blocks (data_blocks d.log.shape - 1) e in
    let full : nat_le (data_blocks d.log.shape - 1) (used_by Values d.pool.states) ≡ true = le-leb (data_blocks d.log.shape - 1) (used_by Values d.pool.states) (omega (arith, all)) in
    sym (and_true (not (fits_open d.log.shape d.values (most_pages d.log.shape))))
    ∙ (ap (λ x. not (fits_open d.log.shape d.values (most_pages d.log.shape)) && x) (sym full) ∙ values (most_pages d.log.shape) (omega arith))

space_not_due : (d : Parts) → HasSpace (space_of d) → is_reclaim_due d ≡ false
space_not_due d values = not_due_at d ((counts_of d).blocks == data_blocks d.log.shape - 1) refl values

-- after one whose moves were committed before, one is due as before
due_same : (b c : Parts) (p : Phase) → (runs_in p ≡ true) → length (held_blocks b.reclaim.phase) ≡ 1 → c.reclaim.phase ≡ Idle → c.log ≡ b.log → c.values ≡ b.values
    → used_by Values c.pool.states + 1 ≡ used_by Values b.pool.states → is_reclaim_due c ≡ is_reclaim_due b
due_same b c p runs one idle log values given =
    let none : length (held_blocks c.reclaim.phase) ≡ 0 = ap (λ q. length (held_blocks q)) idle in
    let blocks : (counts_of c).blocks ≡ (counts_of b).blocks = omega (arith, one, none, given) in
    λ i. (blocks i == data_blocks (log i).shape - 1) && not (fits_open (log i).shape (values i) (most_pages (log i).shape))

-- ---- what remains of the reclaim

-- in the backlog
abbrev rest_at : Phase → Bool → Parts → ℕ
rest_at p due d = reclaiming_from d.log.shape (reclaim_left d.log.shape d.values.live.heads due p) false

abbrev Less : Phase → Bool → Parts → Phase → Bool → Parts → Type 0
Less p due b q due' c = Lowers (rest_at p due b) (unready b.pool.states) (rest_at q due' c) (unready c.pool.states)

-- its moves may need a freeze
abbrev may_at : Phase → Bool → Parts → Bool
may_at p due d = has_moves due p && is_tight_for d

module _ (b c : Parts) (due due' : Bool) where
  abbrev Wants : Phase → Type 0
  Wants p = (runs_in p ≡ true) ⊎ (due ≡ true)

  works_lower : (p q : Phase) → Wants p → FallsTo p b q c → RunsOn q b c → (HasSpace (space_of c) → due' ≡ false) → Less p due b q due' c
  works_lower p Idle wants falls on none = absurd on
  works_lower Idle q (inl runs) falls on none = absurd (not_both false runs refl)
  works_lower Idle (Copies d) (inr is) falls on none = rw is (record { none_ready = falls.none_ready; less = falls.less })
  works_lower (Copies e) (Copies d) wants falls on none = record { none_ready = falls.none_ready; less = falls.less }
  works_lower Idle (Commits other) (inr is) falls on none = rw (is, none on) (record { none_ready = falls.none_ready; less = falls.less })
  works_lower (Copies e) (Commits other) wants falls on none = rw (none on) (record { none_ready = falls.none_ready; less = falls.less })
  works_lower Idle (GivesBack other) (inr is) falls on none = rw (is, none on) (record { none_ready = falls.none_ready; less = falls.less })
  works_lower (Copies e) (GivesBack other) wants falls on none = rw (none on) (record { none_ready = falls.none_ready; less = falls.less })
  works_lower (Commits victim) (GivesBack other) wants falls on none = rw (none on) (by due)
    where
      by : (x : Bool) → Less (Commits victim) x b (GivesBack other) false c
      by true = record { none_ready = falls.none_ready; less = omega (arith, falls.less, falls.none_ready) }
      by false = record { none_ready = falls.none_ready; less = falls.less }
  works_lower p q wants falls on none = absurd (omega (arith, falls.less, falls.none_ready))

  works_may : (p q : Phase) → Wants p → FallsTo p b q c → RunsOn q b c → (HasSpace (space_of c) → due' ≡ false) → may_at q due' c ≡ true → may_at p due b ≡ true
  works_may p Idle wants falls on none may = absurd on
  works_may Idle (Copies d) (inl runs) falls on none may = absurd (not_both false runs refl)
  works_may Idle (Copies d) (inr is) falls on none may = ap (λ x. x && is_tight_for b) is ∙ (sym (tight_same b c on) ∙ may)
  works_may (Copies e) (Copies d) wants falls on none may = sym (tight_same b c on) ∙ may
  works_may p (Commits other) wants falls on none may = absurd (not_both false (sym (ap (λ x. x && is_tight_for c) (none on)) ∙ may) refl)
  works_may p (GivesBack other) wants falls on none may = absurd (not_both false (sym (ap (λ x. x && is_tight_for c) (none on)) ∙ may) refl)
  works_may p q wants falls on none may = absurd (omega (arith, falls.less, falls.none_ready))

  ends_lower : (p : Phase) → Wants p → FallsTo p b Idle c → RoomBehind p (space_of b) (space_of c) → (HasSpace (space_of c) → due' ≡ false)
      → ((runs_in p ≡ true) → c.log ≡ b.log → c.values ≡ b.values → due' ≡ due) → Less p due b Idle due' c
  ends_lower Idle (inl runs) falls from none same = absurd (not_both false runs refl)
  ends_lower Idle (inr is) falls from none same = rw (is, none from) (record { none_ready = falls.none_ready; less = falls.less })
  ends_lower (Copies e) wants falls from none same = rw (none from) (record { none_ready = falls.none_ready; less = falls.less })
  ends_lower (Commits victim) wants falls from none same = absurd from
  ends_lower (GivesBack victim) wants falls from none same =
      let shapes : c.log.shape ≡ b.log.shape = ap (λ (l : LogState). l.shape) from.0 in
      subst (λ y. Less (GivesBack victim) due b Idle y c) (sym (same refl from.0 from.1)) (by due shapes)
    where
      by : (x : Bool) → c.log.shape ≡ b.log.shape → Less (GivesBack victim) x b Idle x c
      by true shapes =
          let whole : whole_reclaim c.log.shape ≡ whole_reclaim b.log.shape = ap whole_reclaim shapes in
          record { none_ready = falls.none_ready; less = omega (arith, falls.less, falls.none_ready, whole) }
      by false shapes = record { none_ready = falls.none_ready; less = falls.less }

  ends_may : (p : Phase) → RoomBehind p (space_of b) (space_of c) → (HasSpace (space_of c) → due' ≡ false)
      → ((runs_in p ≡ true) → c.log ≡ b.log → c.values ≡ b.values → due' ≡ due) → may_at Idle due' c ≡ true → may_at p due b ≡ true
  ends_may (Commits victim) from none same may = absurd from
  ends_may (GivesBack victim) from none same may = (λ i. sym (same refl from.0 from.1) i && sym (tight_same b c from.0) i) ∙ may
  ends_may p from none same may = absurd (not_both false (sym (ap (λ x. x && is_tight_for c) (none from)) ∙ may) refl)

-- ---- the work

-- what remains of a merge does not depend on what a reclaim changes
merge_beside : (p : MergePhase) (x : Index) (es : List Entry) (used : ℕ) (half : Bool) (q : Blocks)
    → merge_left p (record x { log = record x.log { active = record x.log.active { entries = es }; epoch = record x.log.epoch { used = used; half = half } }; pool = q }) ≡ merge_left p x
merge_beside NoMerge x es used half q = refl
merge_beside p x es used half q = refl

module _ (b c : Parts) (leaves : LeavesIndex b c) where
  abbrev later : Parts
  later = record b {
    log = record b.log { active = record b.log.active { entries = c.log.active.entries }; epoch = record b.log.epoch { used = c.log.epoch.used; half = c.log.epoch.half } };
    values = c.values;
    reclaim = c.reclaim;
    pool = c.pool;
  }

  work_less : (may_freeze c ≡ true → may_freeze b ≡ true) → Lowers (reclaiming b.log.shape (backlog_of b)) (unready b.pool.states) (reclaiming c.log.shape (backlog_of c)) (unready c.pool.states)
      → (sight_of c).work < (sight_of b).work
  work_less may lowers =
      let L : Parts → Type 0 = λ x. Lowers (reclaiming b.log.shape (backlog_of b)) (unready b.pool.states) (reclaiming x.log.shape (backlog_of x)) (unready x.pool.states) in
      let M : Parts → Type 0 = λ x. may_freeze x ≡ true → may_freeze b ≡ true in
      let W : Parts → Type 0 = λ x. (sight_of x).work < (sight_of b).work in
      let merge = merge_beside b.schedule.phase (index_of b) c.log.active.entries c.log.epoch.used c.log.epoch.half c.pool in
      subst W (sym leaves) (reclaims b.log.shape (backlog_of b) (backlog_of later) (record {
        stepped = λ i. record (backlog_of later) { merge = merge i };
        no_freeze = subst M leaves may;
        lowers = subst L leaves lowers;
      }))

  rest_same : (q : Phase) → c.reclaim.phase ≡ q → reclaiming c.log.shape (backlog_of c) ≡ rest_at q (is_reclaim_due c) c
  rest_same q is = ap (λ x. rest_at x (is_reclaim_due c) c) is

  pub worked_less : (runs_in b.reclaim.phase ≡ true) ⊎ (is_reclaim_due b ≡ true) → FallsTo b.reclaim.phase b c.reclaim.phase c → RunsOn c.reclaim.phase b c → (sight_of c).work < (sight_of b).work
  worked_less wants falls on =
      work_less (works_may b c (is_reclaim_due b) (is_reclaim_due c) b.reclaim.phase c.reclaim.phase wants falls on (space_not_due c))
      (works_lower b c (is_reclaim_due b) (is_reclaim_due c) b.reclaim.phase c.reclaim.phase wants falls on (space_not_due c))

  held_one : (p : Phase) → runs_in p ≡ true → length (held_blocks p) ≡ 1
  held_one Idle runs = absurd (not_both false runs refl)
  held_one p runs = refl

  pub ended_less : (runs_in b.reclaim.phase ≡ true) ⊎ (is_reclaim_due b ≡ true) → FallsTo b.reclaim.phase b c.reclaim.phase c
      → c.reclaim.phase ≡ Idle → used_by Values c.pool.states + 1 ≡ used_by Values b.pool.states
      → RoomBehind b.reclaim.phase (space_of b) (space_of c) → (sight_of c).work < (sight_of b).work
  ended_less wants falls idle given from =
      let falls' : FallsTo b.reclaim.phase b Idle c = subst (λ q. FallsTo b.reclaim.phase b q c) idle falls in
      let same : (runs_in b.reclaim.phase ≡ true) → c.log ≡ b.log → c.values ≡ b.values → is_reclaim_due c ≡ is_reclaim_due b =
      λ runs log values. due_same b c b.reclaim.phase runs (held_one b.reclaim.phase runs) idle log values given in
      let less = ends_lower b c (is_reclaim_due b) (is_reclaim_due c) b.reclaim.phase wants falls' from (space_not_due c) same in
      let may = ends_may b c (is_reclaim_due b) (is_reclaim_due c) b.reclaim.phase from (space_not_due c) same in
      work_less (λ m. may (ap (λ q. may_at q (is_reclaim_due c) c) (sym idle) ∙ m))
      (subst (λ n. Lowers (reclaiming b.log.shape (backlog_of b)) (unready b.pool.states) n (unready c.pool.states)) (sym (rest_same Idle idle)) less)
