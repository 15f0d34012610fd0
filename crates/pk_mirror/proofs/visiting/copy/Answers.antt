use Rattle.std.proofs.Common.{◌≡◌, inr, List, ℕ, Some, None, [], length, take, refl, arith}
use Rattle.std.specs.FinMap.{get}
use Rattle.pk_base.specs.Map.{Map}
use Rattle.pk_nvme.specs.declared.opcode.TheConstants.{STORE}
use Rattle.pk_host.{specs.Outcomes.retrieved, specs.Outcomes.stored, specs.Outcomes.Fetches, proofs.CommandLemmas.key-of_key}
use Rattle.pk_mirror.{specs.declared.error.Side.TheVariants.First, specs.Agreement.IsPart, specs.Agreement.HaveSame, specs.Progress.Looked}
use Rattle.pk_mirror.{proofs.ReplyLemmas.retrieved_tells, proofs.ReplyLemmas.stored_tells, proofs.visiting.copy.Goals.After-retrieve, proofs.visiting.copy.Goals.In-Ok-Some}
use Rattle.pk_mirror.proofs.KeyLemmas.{fetched_as, fits_told, visits_lacking, visits_stored, first_cause, second_cause, side_unread, store_unread, retrieve_keeps}
use Rattle.pk_mirror.proofs.SpendLemmas.{looks_no_store, stored_one, storing_one, found_has, goes_visits}
use Rattle.pk_mirror.{proofs.AskLemmas.retrieve_unread, proofs.VisitLemmas.asking_one, proofs.VisitLemmas.looked_goes, proofs.VisitLemmas.looked_fails}
use Rattle.pk_mirror.proofs.visiting.copy.Given as given
use Rattle.pk_mirror.proofs.visiting.copy.Goals as goal

seen : (g : given.Over) (c : After-retrieve g) → Looked g.P.Port.state g.P.Port.took g.Q.Port.state g.Q.Port.took c.args.first.now c.retrieve.new.port c.args.second.now c.args.second.now
seen g c = record {
  took_first = asking_one g.P.Port.took _ _ _ (inr (c.args.key.now, _, refl)) c.retrieve.ensures.took;
  took_second = ([], tt, g.met.Q.Port.took_none c.args.second.now);
  first_keeps = retrieve_keeps _ _ c.args.key.now _ (g.met.P.Port.took_state _ _ _ c.retrieve.ensures.took);
  second_keeps = refl;
}

found : (g : given.Over) (c : In-Ok-Some g) → Fetches (g.P.Port.state c.args.first.now) c.args.key.now (Some c.in-Ok-Some.len) c.retrieve.new.into
found g c = fetched_as (g.P.Port.state c.args.first.now) c.args.key.now c.retrieve.new.into _ (Some c.in-Ok-Some.len) c.in-Ok-Some.field-0-is c.in-Ok-Some.ensures.fetches

has : (g : given.Over) (c : In-Ok-Some g) (value : List ℕ) → value ≡ take c.in-Ok-Some.len c.retrieve.new.into
    → (a : Map) → (g.P.Port.state c.args.first.now).map ≡ Some a → get a c.args.key.now ≡ Some value
has g c value is = found_has (g.P.Port.state c.args.first.now) c.args.key.now c.in-Ok-Some.len c.retrieve.new.into value (found g c)
    (fits_told _ _ _ retrieved _ _ c.args.key.now c.in-Ok-Some.ensures.gives (omega (arith, c.requires.room, c.retrieve.auto.into))) is

pub returns-in-Ok-None-clause-visits : goal.returns-in-Ok-None-clause-visits
returns-in-Ok-None-clause-visits g c = visits_lacking (g.P.Port.state c.args.first.now) (g.Q.Port.state c.args.second.now) (g.Q.Port.state c.args.second.now) c.args.key.now c.retrieve.new.into
    (fetched_as (g.P.Port.state c.args.first.now) c.args.key.now c.retrieve.new.into _ None c.in-Ok-None.field-0-is c.in-Ok-None.ensures.fetches) c.requires.lacked refl

pub returns-in-Ok-None-clause-copied : goal.returns-in-Ok-None-clause-copied
returns-in-Ok-None-clause-copied g c = looked_goes looks_no_store _ _ _ _ (seen g (goal.at.returns-in-Ok-None-clause-copied g c).After-retrieve)

pub returns-in-Ok-clause-visits : goal.returns-in-Ok-clause-visits
returns-in-Ok-clause-visits g c = visits_stored (g.P.Port.state c.args.first.now) (g.Q.Port.state c.args.second.now)
    (g.Q.Port.state c.store.new.port) c.args.key.now c.retrieve.new.into c.front.result.now c.in-Ok-Some.len (found g (goal.at.returns-in-Ok-clause-visits g c).In-Ok-Some)
    (fits_told _ _ _ retrieved _ _ c.args.key.now c.in-Ok-Some.ensures.gives (omega (arith, c.requires.room, c.retrieve.auto.into))) c.front.ensures c.in-Ok.ensures.stores

pub returns-in-Ok-clause-copied : goal.returns-in-Ok-clause-copied
returns-in-Ok-clause-copied g c =
    let at = goal.at.returns-in-Ok-clause-copied g c in
    let looks = seen g at.After-retrieve in
    record {
      took_first = looks.took_first;
      took_second = (
        _,
        stored_one (g.P.Port.state c.args.first.now) (g.Q.Port.state c.args.second.now) (g.Q.Port.state c.store.new.port) c.args.key.now c.front.result.now
            (key-of_key STORE c.args.key.now (length c.front.result.now) 0 c.front.result.now (c.bytes.ensures.key, c.requires.own)) (has g at.In-Ok-Some c.front.result.now c.front.ensures) c.requires.lacked c.in-Ok.ensures.stores,
        c.store.ensures.took,
      );
      same = looks.first_keeps;
      goes = goes_visits IsPart HaveSame (g.P.Port.state c.args.first.now) (g.Q.Port.state c.args.second.now) (g.Q.Port.state c.store.new.port) _ (returns-in-Ok-clause-visits g c);
    }

pub returns-in-Err-store-clause-fails : goal.returns-in-Err-store-clause-fails
returns-in-Err-store-clause-fails g c =
    let at = goal.at.returns-in-Err-store-clause-fails g c in
    let looks = seen g at.After-retrieve in
    record {
      took_first = looks.took_first;
      took_second = (
        _,
        storing_one (g.P.Port.state c.args.first.now) (g.Q.Port.state c.args.second.now) (g.Q.Port.state c.store.new.port) c.args.key.now c.front.result.now
            (key-of_key STORE c.args.key.now (length c.front.result.now) 0 c.front.result.now (c.bytes.ensures.key, c.requires.own)) (has g at.In-Ok-Some c.front.result.now c.front.ensures) c.requires.lacked,
        c.store.ensures.took,
      );
      same = looks.first_keeps;
      causes = second_cause stored stored_tells _ _ _ _ _ c.in-Err-store.error c.on.result c.in-Err-store.ensures.gives c.on.ensures;
      unread = store_unread _ _ _ _ c.args.key.now c.retrieve.new.into c.front.result.now c.in-Ok-Some.len _ _ c.in-Err-store.error c.on.result
          c.bytes.ensures.key c.requires.own c.requires.alike c.in-Ok-Some.ensures.gives (omega (arith, c.requires.room, c.retrieve.auto.into))
          (found g at.In-Ok-Some) c.front.ensures c.in-Err-store.ensures.gives c.on.ensures;
    }

pub returns-in-Err-clause-fails : goal.returns-in-Err-clause-fails
returns-in-Err-clause-fails g c = looked_fails looks_no_store _ _ _ _ (seen g (goal.at.returns-in-Err-clause-fails g c).After-retrieve) _
    (first_cause retrieved retrieved_tells _ _ _ _ _ c.in-Err.error c.on-in-Err.result c.in-Err.ensures.gives c.on-in-Err.ensures)
    (λ a b ea eb part. side_unread retrieved retrieved_tells _ First _ _ c.in-Err.error c.on-in-Err.result
    (retrieve_unread c.args.key.now _ c.bytes.ensures.key) c.in-Err.ensures.gives c.on-in-Err.ensures a ea)
