-- What of a drive is unchanged by steps, one after another.
use Rattle.std.proofs.Common.{◌≡◌, ◌⊎◌, inl, inr, ℕ, ◌+◌, refl, sym, ap, subst, ◌∙◌, arith, Result, Ok, Err}
use Rattle.std.specs.Prelude.{OnOk}
use Rattle.pk_base.{specs.Shape.charge, specs.Entry.Entry}
use Rattle.pk_plan.specs.declared.owner.Owner.TheVariants.{Values}
use Rattle.pk_nand.specs.BoardState.{BoardState}
use Rattle.pk_pool.{specs.declared.state.BlockState.TheVariants.Free, specs.declared.state.BlockState.TheVariants.Ready, specs.Blocks.Blocks, specs.Blocks.is_owned_by, proofs.Sharing.count-set}
use Rattle.pk_pool.specs.Taking.{ErasesOne, ErasesNone}
use Rattle.pk_merge.proofs.Results.{on_ok}
use Rattle.pk_log.{specs.State.LogState, specs.State.pushed, specs.Commits.CommitsNone, specs.Commits.CommitsAll}
use Rattle.pk_values.specs.State.{ValuesState, fits_open}
use Rattle.pk_space.specs.Uses.{Use}
use Rattle.pk_parts.{specs.Parts.Parts, specs.Parts.block_if_open, specs.Staying.StaysFresh, specs.Staying.SameUse, specs.Staying.Stays, specs.Staying.StaysOrOpens, specs.Staying.StaysOrFrees}

-- ---- no step

fresh_same : (d : Parts) → StaysFresh d d
fresh_same d = record { stays = λ e. e; begun = inl refl }

pub stays_same : (d e : Parts) → e ≡ d → Stays d e
stays_same d e same = subst (λ x. Stays d x) (sym same) (record { fresh = fresh_same d; blocks = record { used = refl; open_same = refl } })

pub stays_opens : (d e : Parts) (count : ℕ) → Stays d e → StaysOrOpens d e count
stays_opens d e count s = record { fresh = s.fresh; blocks = inl s.blocks }

-- ---- two steps

pub fresh_then : (a b c : Parts) → StaysFresh a b → StaysFresh b c → StaysFresh a c
fresh_then a b c first second = record {
  stays = λ e. second.stays (first.stays e);
  begun = elim second.begun [
    | inr is ↦ inr is
    | inl same ↦ elim first.begun [ inl was ↦ inl (same ∙ was) | inr is ↦ inr (second.stays is) ]
  ];
}

blocks_then : (a b c : Parts) → SameUse a b → SameUse b c → SameUse a c
blocks_then a b c first second = record { used = second.used ∙ first.used; open_same = second.open_same ∙ first.open_same }

pub stays_then : (a b c : Parts) → Stays a b → Stays b c → Stays a c
stays_then a b c first second = record { fresh = fresh_then a b c first.fresh second.fresh; blocks = blocks_then a b c first.blocks second.blocks }

-- the open block has room in both, or in neither
pub opens_behind : (a b c : Parts) (count : ℕ) → Stays a b → b.log.shape ≡ a.log.shape → b.values ≡ a.values → StaysOrOpens b c count → StaysOrOpens a c count
opens_behind a b c count first shapes spaces second = record {
  fresh = fresh_then a b c first.fresh second.fresh;
  blocks = elim second.blocks [
    | inl same ↦ inl (blocks_then a b c first.blocks same)
    | inr (inl one) ↦ inr (inl (record {
      no_room = (λ i. fits_open (sym shapes i) (sym spaces i) count) ∙ one.no_room;
      used = one.used ∙ ap (λ n. n + 1) first.blocks.used;
      other = λ e. one.other (e ∙ sym first.blocks.open_same);
    }))
    | inr (inr room) ↦ inr (inr (record {
      no_room = (λ i. fits_open (sym shapes i) (sym spaces i) count) ∙ room.no_room;
      no_more = (let less = room.no_more in let same = first.blocks.used in omega (arith, less, same));
    }))
  ];
}

pub opens_then : (a b c : Parts) (count : ℕ) → StaysOrOpens a b count → Stays b c → StaysOrOpens a c count
opens_then a b c count first second = record {
  fresh = fresh_then a b c first.fresh second.fresh;
  blocks = elim first.blocks [
    | inl same ↦ inl (blocks_then a b c same second.blocks)
    | inr (inl one) ↦ inr (inl (record { no_room = one.no_room; used = second.blocks.used ∙ one.used; other = λ e. one.other (sym second.blocks.open_same ∙ e) }))
    | inr (inr room) ↦ inr (inr (record { no_room = room.no_room; no_more = (let less = room.no_more in let same = second.blocks.used in omega (arith, less, same)) }))
  ];
}

-- ---- background steps

pub stays_frees : (d e : Parts) → Stays d e → StaysOrFrees d e
stays_frees d e s = record { fresh = s.fresh; no_more = (let same = s.blocks.used in omega (arith, same)) }

-- ---- by what the calls answered

pub stays_then_ok : {X E : Type 0} (r : Result X E) (a b c : Parts) → Stays a b → OnOk r (Stays b c) → OnOk r (Stays a c)
stays_then_ok (Ok x) a b c first second = stays_then a b c first second
stays_then_ok (Err e) a b c first second = tt

pub opens_then_ok : {X E : Type 0} (r : Result X E) (a b c : Parts) (count : ℕ) → StaysOrOpens a b count → OnOk r (Stays b c) → OnOk r (StaysOrOpens a c count)
opens_then_ok (Ok x) a b c count first second = opens_then a b c count first second
opens_then_ok (Err e) a b c count first second = tt

-- ---- single steps

pub commit_stays : (d : Parts) (log' : LogState) (old new : BoardState) → CommitsNone d.log old log' new ⊎ CommitsAll d.log old log' new → Stays d (record d { log = log' })
commit_stays d log' old new (inl none) = stays_same d (record d { log = log' }) (ap (λ (l : LogState). record d { log = l }) none.kept)
commit_stays d log' old new (inr all) =
    let T : LogState → Type 0 = λ l. Stays d (record d { log = l }) in
    subst T (sym all.taken) (record { fresh = record { stays = λ e. e; begun = inl refl }; blocks = record { used = refl; open_same = refl } })

-- an entry is noted
pub note_stays : (d : Parts) (e : Entry) (log' : LogState) (space' : ValuesState) (spaces' : Use) → log' ≡ pushed d.log e
    → space'.open_block ≡ d.values.open_block → Stays d (record d { log = log'; values = space'; spaces = spaces' })
note_stays d e log' space' spaces' is same =
    let T : LogState → Type 0 = λ l. Stays d (record d { log = l; values = space'; spaces = spaces' }) in
    subst T (sym is) (record { fresh = record { stays = λ x. x; begun = inl refl }; blocks = record { used = refl; open_same = ap block_if_open same } })

-- a step erases a spare block, or none
pub erase_stays : (d : Parts) (q : Blocks) (old new : BoardState) → ErasesOne d.pool old q new ⊎ ErasesNone d.pool old q new → Stays d (record d { pool = q })
erase_stays d q old new (inl one) =
    let all = count-set (is_owned_by Values) d.pool.states one.block Free Ready one.lowest.here in
    let T : Blocks → Type 0 = λ p. Stays d (record d { pool = p }) in
    subst T (sym one.marked) (record { fresh = record { stays = λ e. e; begun = inl refl }; blocks = record { used = omega (arith, all); open_same = refl } })
erase_stays d q old new (inr none) = stays_same d (record d { pool = q }) (ap (λ (p : Blocks). record d { pool = p }) none.kept)

-- ---- the same of a drive that is another name for it, or of a count

pub opens_put : {X E : Type 0} (r : Result X E) (a b c : Parts) (size : ℕ) → Stays a b → b.log.shape ≡ a.log.shape
    → b.values ≡ a.values → OnOk r (StaysOrOpens b c (charge b.log.shape size)) → OnOk r (StaysOrOpens a c (charge a.log.shape size))
opens_put r a b c size first shapes spaces second =
    on_ok r _ _ second (λ s. opens_behind a b c (charge a.log.shape size) first shapes spaces (subst (λ x. StaysOrOpens b c (charge x size)) shapes s))

pub step_stays : (d d' : Parts) (old new : BoardState) → ErasesOne d.pool old d'.pool new ⊎ ErasesNone d.pool old d'.pool new → d' ≡ record d { pool = d'.pool } → Stays d d'
step_stays d d' old new erases rest = subst (λ x. Stays d x) (sym rest) (erase_stays d d'.pool old new erases)
