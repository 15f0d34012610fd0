use Rattle.std.proofs.Common.{◌≡◌, true, false, inl, inr, Some, None, refl, sym, subst, arith, ◌≤◌, length}
use Rattle.pk_base.specs.Shape.{Shape, greatest}
use Rattle.pk_host.specs.Outcomes.{retrieved, Fetches}
use Rattle.pk_mirror.{specs.declared.error.Side.TheVariants.First, specs.declared.error.Side.TheVariants.Second, specs.Progress.Looked}
use Rattle.pk_mirror.{proofs.ReplyLemmas.retrieved_tells, proofs.AskLemmas.retrieve_unread}
use Rattle.pk_mirror.proofs.KeyLemmas.{fetched_as, fits_told, no_other_none, no_other_same, first_cause, second_cause, side_unread, retrieve_keeps}
use Rattle.pk_mirror.proofs.visiting.has_other.Goals.{After-retrieve, After-retrieve-in-Ok-Some, In-Ok-Some}
use Rattle.pk_mirror.{proofs.SpendLemmas.other_lacked, proofs.SpendLemmas.other_differs, proofs.SpendLemmas.looks_no_delete, proofs.VisitLemmas.asking_none, proofs.VisitLemmas.asking_one}
use Rattle.pk_mirror.{proofs.VisitLemmas.looked_fails}
use Rattle.pk_mirror.proofs.visiting.has_other.Given as given
use Rattle.pk_mirror.proofs.visiting.has_other.Goals as goal

-- the second was asked
seen : (g : given.Over) (c : After-retrieve g) → Looked g.P.Port.state g.P.Port.took g.Q.Port.state g.Q.Port.took c.args.first.now c.args.first.now c.args.second.now c.retrieve.new.port
seen g c = record {
  took_first = asking_none g.P.Port.took _ (g.met.P.Port.took_none c.args.first.now);
  took_second = (_, (inl (inr (c.args.key.now, _, refl)), tt), c.retrieve.ensures.took);
  first_keeps = refl;
  second_keeps = retrieve_keeps _ _ c.args.key.now _ (g.met.Q.Port.took_state _ _ _ c.retrieve.ensures.took);
}

-- both were
both_seen : (g : given.Over) (c : After-retrieve-in-Ok-Some g)
    → Looked g.P.Port.state g.P.Port.took g.Q.Port.state g.Q.Port.took c.args.first.now c.retrieve-in-Ok-Some.new.port c.args.second.now c.retrieve.new.port
both_seen g c = record {
  took_first = asking_one g.P.Port.took _ _ _ (inr (c.args.key.now, _, refl)) c.retrieve-in-Ok-Some.ensures.took;
  took_second = (_, (inl (inr (c.args.key.now, _, refl)), tt), c.retrieve.ensures.took);
  first_keeps = retrieve_keeps _ _ c.args.key.now _ (g.met.P.Port.took_state _ _ _ c.retrieve-in-Ok-Some.ensures.took);
  second_keeps = retrieve_keeps _ _ c.args.key.now _ (g.met.Q.Port.took_state _ _ _ c.retrieve.ensures.took);
}

held : (g : given.Over) (c : In-Ok-Some g) → Fetches (g.Q.Port.state c.args.second.now) c.args.key.now (Some c.in-Ok-Some.held) c.retrieve.new.into
held g c = fetched_as (g.Q.Port.state c.args.second.now) c.args.key.now c.retrieve.new.into _ (Some c.in-Ok-Some.held) c.in-Ok-Some.field-0-is c.in-Ok-Some.ensures.fetches

pub returns-in-Ok-None-clause-tells : goal.returns-in-Ok-None-clause-tells
returns-in-Ok-None-clause-tells g c = λ a b ea eb e. no_other_none (g.Q.Port.state c.args.second.now) c.args.key.now c.retrieve.new.into
    (fetched_as (g.Q.Port.state c.args.second.now) c.args.key.now c.retrieve.new.into _ None c.in-Ok-None.field-0-is c.in-Ok-None.ensures.fetches) a b eb

pub returns-in-Ok-None-clause-differs : goal.returns-in-Ok-None-clause-differs
returns-in-Ok-None-clause-differs g c = λ a b ea eb e. absurd (let clash : false ≡ true = e in cc)

pub returns-in-Ok-None-clause-looks : goal.returns-in-Ok-None-clause-looks
returns-in-Ok-None-clause-looks g c = seen g (goal.at.returns-in-Ok-None-clause-looks g c).After-retrieve

pub returns-in-Ok-None-retrieve-clause-tells : goal.returns-in-Ok-None-retrieve-clause-tells
returns-in-Ok-None-retrieve-clause-tells g c = λ a b ea eb e. absurd (let clash : true ≡ false = e in cc)

pub returns-in-Ok-None-retrieve-clause-differs : goal.returns-in-Ok-None-retrieve-clause-differs
returns-in-Ok-None-retrieve-clause-differs g c = λ a b ea eb e. other_lacked (g.P.Port.state c.args.first.now) (g.Q.Port.state c.args.second.now) c.args.key.now
    c.retrieve-in-Ok-Some.new.into c.retrieve.new.into c.in-Ok-Some.held
    (fetched_as (g.P.Port.state c.args.first.now) c.args.key.now c.retrieve-in-Ok-Some.new.into _ None c.in-Ok-None-retrieve.field-0-is c.in-Ok-None-retrieve.ensures.fetches)
    (held g (goal.at.returns-in-Ok-None-retrieve-clause-differs g c).In-Ok-Some) a b ea eb

pub returns-in-Ok-None-retrieve-clause-looks : goal.returns-in-Ok-None-retrieve-clause-looks
returns-in-Ok-None-retrieve-clause-looks g c = both_seen g (goal.at.returns-in-Ok-None-retrieve-clause-looks g c).After-retrieve-in-Ok-Some

pub returns-in-Ok-Some-retrieve-clause-tells : goal.returns-in-Ok-Some-retrieve-clause-tells
returns-in-Ok-Some-retrieve-clause-tells g c = no_other_same (g.P.Port.state c.args.first.now)
    (g.Q.Port.state c.args.second.now) c.args.key.now c.retrieve-in-Ok-Some.new.into c.retrieve.new.into c.in-Ok-Some-retrieve.wanted c.in-Ok-Some.held c.same_fronts.result
    (fetched_as (g.P.Port.state c.args.first.now) c.args.key.now c.retrieve-in-Ok-Some.new.into _
    (Some c.in-Ok-Some-retrieve.wanted) c.in-Ok-Some-retrieve.field-0-is c.in-Ok-Some-retrieve.ensures.fetches)
    (held g (goal.at.returns-in-Ok-Some-retrieve-clause-tells g c).In-Ok-Some)
    (fits_told _ _ _ retrieved _ _ c.args.key.now c.in-Ok-Some-retrieve.ensures.gives (omega (arith, c.requires.room_one, c.retrieve-in-Ok-Some.auto.into)))
    (fits_told _ _ _ retrieved _ _ c.args.key.now c.in-Ok-Some.ensures.gives
    (let wide : greatest (g.Q.Port.state c.args.second.now).shape ≤ length c.retrieve.new.into = subst (λ (s : Shape). greatest s ≤ length c.retrieve.new.into)
    (sym c.requires.alike.shape) (omega (arith, c.requires.room_two, c.retrieve.auto.into)) in wide)) c.same_fronts.ensures

pub returns-in-Ok-Some-retrieve-clause-differs : goal.returns-in-Ok-Some-retrieve-clause-differs
returns-in-Ok-Some-retrieve-clause-differs g c = other_differs (g.P.Port.state c.args.first.now)
    (g.Q.Port.state c.args.second.now) c.args.key.now c.retrieve-in-Ok-Some.new.into c.retrieve.new.into c.in-Ok-Some-retrieve.wanted c.in-Ok-Some.held c.same_fronts.result
    (fetched_as (g.P.Port.state c.args.first.now) c.args.key.now c.retrieve-in-Ok-Some.new.into _
    (Some c.in-Ok-Some-retrieve.wanted) c.in-Ok-Some-retrieve.field-0-is c.in-Ok-Some-retrieve.ensures.fetches)
    (held g (goal.at.returns-in-Ok-Some-retrieve-clause-differs g c).In-Ok-Some)
    (fits_told _ _ _ retrieved _ _ c.args.key.now c.in-Ok-Some-retrieve.ensures.gives (omega (arith, c.requires.room_one, c.retrieve-in-Ok-Some.auto.into)))
    (fits_told _ _ _ retrieved _ _ c.args.key.now c.in-Ok-Some.ensures.gives
    (let wide : greatest (g.Q.Port.state c.args.second.now).shape ≤ length c.retrieve.new.into = subst (λ (s : Shape). greatest s ≤ length c.retrieve.new.into)
    (sym c.requires.alike.shape) (omega (arith, c.requires.room_two, c.retrieve.auto.into)) in wide)) c.same_fronts.ensures

pub returns-in-Ok-Some-retrieve-clause-looks : goal.returns-in-Ok-Some-retrieve-clause-looks
returns-in-Ok-Some-retrieve-clause-looks g c = both_seen g (goal.at.returns-in-Ok-Some-retrieve-clause-looks g c).After-retrieve-in-Ok-Some

pub returns-in-Err-retrieve-clause-fails : goal.returns-in-Err-retrieve-clause-fails
returns-in-Err-retrieve-clause-fails g c = looked_fails looks_no_delete _ _ _ _ (both_seen g (goal.at.returns-in-Err-retrieve-clause-fails g c).After-retrieve-in-Ok-Some) _
    (first_cause retrieved retrieved_tells _ _ _ _ _ c.in-Err-retrieve.error c.on.result c.in-Err-retrieve.ensures.gives c.on.ensures)
    (λ a b ea eb any. side_unread retrieved retrieved_tells _ First _ _ c.in-Err-retrieve.error c.on.result
    (retrieve_unread c.args.key.now _ c.bytes.ensures.key) c.in-Err-retrieve.ensures.gives c.on.ensures a ea)

pub returns-in-Err-clause-fails : goal.returns-in-Err-clause-fails
returns-in-Err-clause-fails g c = looked_fails looks_no_delete _ _ _ _ (seen g (goal.at.returns-in-Err-clause-fails g c).After-retrieve) _
    (second_cause retrieved retrieved_tells _ _ _ _ _ c.in-Err.error c.on-in-Err.result c.in-Err.ensures.gives c.on-in-Err.ensures)
    (λ a b ea eb any. side_unread retrieved retrieved_tells _ Second _ _ c.in-Err.error c.on-in-Err.result
    (retrieve_unread c.args.key.now _ c.bytes.ensures.key) c.in-Err.ensures.gives c.on-in-Err.ensures b eb)
