use Rattle.std.proofs.Common.{◌≡◌, ◌<◌, ℕ, List, [], inl, Option, Some, None, length, refl}
use Rattle.std.specs.Option.{option_copied}
use Rattle.pk_nvme.specs.Command.{key_or_none}
use Rattle.pk_host.{specs.Listing.listed_by, specs.TookLaws.took_none}
use Rattle.pk_mirror.{specs.declared.error.Side.TheVariants.Second, specs.Agreement.NoOther, specs.Agreement.AreAny, specs.Progress.Looked, proofs.ReplyLemmas.listed_tells}
use Rattle.pk_mirror.{proofs.PairLemmas.still_alike, proofs.AskLemmas.list_unread, proofs.KeyLemmas.second_cause, proofs.KeyLemmas.side_unread, proofs.KeyLemmas.list_keeps}
use Rattle.pk_mirror.proofs.VisitLemmas.{asking_none, asked_one, asked_before, looked_goes, looked_fails, goes_on, fails_on}
use Rattle.pk_mirror.proofs.PageLemmas.{page_some, page_falls, falls_next, short_from, own_from, turns_some, turns_none}
use Rattle.pk_mirror.proofs.resync.drop_page.Goals.{After-list_page, In-Ok-true}
use Rattle.pk_mirror.{proofs.SpendLemmas.goes_visits, proofs.SpendLemmas.looks_no_delete}
use Rattle.pk_mirror.proofs.resync.drop_page.Given as given
use Rattle.pk_mirror.proofs.resync.drop_page.Goals as goal

seen : (g : given.Over) (c : After-list_page g) → Looked g.P.Port.state g.P.Port.took g.Q.Port.state g.Q.Port.took c.args.first.now c.args.first.now c.args.second.now c.list_page.new.port
seen g c = record {
  took_first = asking_none g.P.Port.took _ (g.met.P.Port.took_none c.args.first.now);
  took_second = (_, (inl (inl (key_or_none (option_copied c.args.last), refl)), tt), c.list_page.ensures.took);
  first_keeps = refl;
  second_keeps = list_keeps _ _ (key_or_none (option_copied c.args.last)) (g.met.Q.Port.took_state _ _ _ c.list_page.ensures.took);
}

some : (g : given.Over) (c : In-Ok-true g) → 0 < length c.list_page.new.page
some g c = page_some _ _ _ c.list_page.new.page c.in-Ok-true.field-0 c.in-Ok-true.field-0-test c.in-Ok-true.ensures.gives

pub list_page-requires : goal.list_page-requires
list_page-requires g c = record { own = own_from (option_copied c.args.last) c.requires.text }

pub drop_others-requires-clause-alike : goal.drop_others-requires-clause-alike
drop_others-requires-clause-alike g c = still_alike (g.P.Port.state c.args.first.now) (g.P.Port.state c.args.first.now) (g.Q.Port.state c.args.second.now)
    (g.Q.Port.state c.list_page.new.port) [] _ (took_none (g.P.Port.state c.args.first.now)) (g.met.Q.Port.took_state _ _ _ c.list_page.ensures.took) c.requires.alike

pub last_of-requires : goal.last_of-requires
last_of-requires g c = some g (goal.at.last_of-requires g c).In-Ok-true

pub returns-in-Ok-clause-turns : goal.returns-in-Ok-clause-turns
returns-in-Ok-clause-turns g c =
    let at = goal.at.returns-in-Ok-clause-turns g c in
    turns_some AreAny NoOther (g.P.Port.state c.args.first.now) (g.P.Port.state c.args.first.now) (g.Q.Port.state c.args.second.now)
    (g.Q.Port.state c.list_page.new.port) (g.Q.Port.state c.drop_others.new.second) (g.Q.Port.state c.args.second.now) (option_copied c.args.last)
    (λ a b ea eb keeps. (b, eb, λ key none. inl none)) c.in-Ok-true.ensures.known c.list_page.new.page c.last_of.result
    (some g at.In-Ok-true) c.last_of.ensures.last c.in-Ok-true.ensures.pages refl (seen g at.After-list_page).second_keeps c.in-Ok.ensures.visits

pub returns-in-Ok-clause-falls : goal.returns-in-Ok-clause-falls
returns-in-Ok-clause-falls g c = falls_next (option_copied c.args.last) c.last_of.result c.last_of.ensures.text
    (page_falls (option_copied c.args.last) c.list_page.new.page c.last_of.result
    (some g (goal.at.returns-in-Ok-clause-falls g c).In-Ok-true) c.last_of.ensures.last c.last_of.ensures.text c.requires.text c.list_page.ensures.above)

pub returns-in-Ok-clause-dropped : goal.returns-in-Ok-clause-dropped
returns-in-Ok-clause-dropped g c = goes_on g.met.P.Port.took_both g.met.Q.Port.took_both _ _ _ _ _ _
    (looked_goes looks_no_delete _ _ _ _ (seen g (goal.at.returns-in-Ok-clause-dropped g c).After-list_page)) record {
      took_first = c.drop_others.ensures.took_first;
      took_second = c.in-Ok.ensures.deleted;
      same = c.drop_others.ensures.keeps;
      goes = goes_visits AreAny NoOther (g.P.Port.state c.args.first.now) (g.Q.Port.state c.list_page.new.port) (g.Q.Port.state c.drop_others.new.second) _ c.in-Ok.ensures.visits;
    }

pub returns-in-Ok-clause-asked_second : goal.returns-in-Ok-clause-asked_second
returns-in-Ok-clause-asked_second g c = asked_before g.Q.Port.took g.met.Q.Port.took_both _ _ _ _ (asked_one g.Q.Port.took _ _ _ c.list_page.ensures.took) c.drop_others.ensures.took_second.2

pub returns-in-Err-drop_others-clause-fails : goal.returns-in-Err-drop_others-clause-fails
returns-in-Err-drop_others-clause-fails g c = fails_on g.met.P.Port.took_both g.met.Q.Port.took_both _ _ _ _ _ _
    (looked_goes looks_no_delete _ _ _ _ (seen g (goal.at.returns-in-Err-drop_others-clause-fails g c).After-list_page)) g.met.P.Port.took_state g.met.Q.Port.took_state _ record {
      took_first = c.drop_others.ensures.took_first;
      took_second = c.drop_others.ensures.took_second;
      same = c.drop_others.ensures.keeps;
      causes = c.in-Err-drop_others.ensures.causes;
      unread = c.in-Err-drop_others.ensures.unread;
    }

pub returns-in-Ok-false-clause-turns : goal.returns-in-Ok-false-clause-turns
returns-in-Ok-false-clause-turns g c = turns_none AreAny NoOther (g.P.Port.state c.args.first.now) (g.P.Port.state c.args.first.now) (g.Q.Port.state c.args.second.now)
    (g.Q.Port.state c.list_page.new.port) (g.Q.Port.state c.list_page.new.port) (g.Q.Port.state c.args.second.now) (option_copied c.args.last)
    (λ a b ea eb keeps. (b, eb, λ key none. inl none)) c.in-Ok-false.ensures.known c.in-Ok-false.field-0 c.in-Ok-false.field-0-test c.in-Ok-false.ensures.follows
    (seen g (goal.at.returns-in-Ok-false-clause-turns g c).After-list_page).second_keeps

pub returns-in-Ok-false-clause-falls : goal.returns-in-Ok-false-clause-falls
returns-in-Ok-false-clause-falls g c = λ key e. absurd (let clash : ◌≡◌ {A = Option (List ℕ)} None (Some key) = e in cc)

pub returns-in-Ok-false-clause-dropped : goal.returns-in-Ok-false-clause-dropped
returns-in-Ok-false-clause-dropped g c = looked_goes looks_no_delete _ _ _ _ (seen g (goal.at.returns-in-Ok-false-clause-dropped g c).After-list_page)

pub returns-in-Ok-false-clause-asked_second : goal.returns-in-Ok-false-clause-asked_second
returns-in-Ok-false-clause-asked_second g c = asked_one g.Q.Port.took _ _ _ c.list_page.ensures.took

pub returns-in-Err-clause-fails : goal.returns-in-Err-clause-fails
returns-in-Err-clause-fails g c = looked_fails looks_no_delete _ _ _ _ (seen g (goal.at.returns-in-Err-clause-fails g c).After-list_page) _
    (second_cause (listed_by c.list_page.new.page) (listed_tells c.list_page.new.page) _ _ _ _ _ c.in-Err.error c.on.result c.in-Err.ensures.gives c.on.ensures)
    (λ a b ea eb any. side_unread (listed_by c.list_page.new.page) (listed_tells c.list_page.new.page) _ Second _ _ c.in-Err.error c.on.result
    (list_unread (key_or_none (option_copied c.args.last)) c.list_page.new.page (short_from (option_copied c.args.last) c.requires.text)) c.in-Err.ensures.gives c.on.ensures b eb)
