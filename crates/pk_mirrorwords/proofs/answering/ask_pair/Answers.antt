use Rattle.std.proofs.Common.{inl, inr, ◌∙◌}
use Rattle.pk_mirrorwords.specs.PairTasks.{seen}
use Rattle.pk_mirrorwords.proofs.Composing.{first_both, word_asks, second_both, second_all, second_alone, done_later, fails_later, resync_fails, in_step_after}
use Rattle.pk_mirrorwords.proofs.Paging.{failed_so}
use Rattle.pk_mirror.{proofs.PairLemmas.on_ok_map, proofs.PairLemmas.if_err_map, proofs.VisitLemmas.asked_before}
use Rattle.pk_mirrorwords.proofs.answering.ask_pair.Goals as goal

pub resync-requires : goal.resync-requires
resync-requires g c = c.requires.pair.pair

pub ask_in_step-requires-clause-pair : goal.ask_in_step-requires-clause-pair
ask_in_step-requires-clause-pair g c = in_step_after c.args.mirror.now c.resync.new.self _ _ _ _ _ c.requires.pair
    (g.met.P.Port.took_state _ _ _ c.resync.ensures.took_first.2) c.resync.ensures.pair c.resync.ensures.keeps c.in-Ok.ensures.in_step

pub ask_in_step-requires-clause-shape : goal.ask_in_step-requires-clause-shape
ask_in_step-requires-clause-shape g c = (g.met.P.Port.took_state _ _ _ c.resync.ensures.took_first.2).shape ∙ c.requires.shape

pub returns-in-Ok-clause-done : goal.returns-in-Ok-clause-done
returns-in-Ok-clause-done g c = on_ok_map c.ask_in_step.result _ _
    (λ h m told. done_later (seen c.args.task.now) (g.P.Port.state c.args.first.now) (g.P.Port.state c.resync.new.first) (g.P.Port.state c.ask_in_step.new.first)
    (g.Q.Port.state c.args.second.now) (g.Q.Port.state c.resync.new.second) (g.Q.Port.state c.ask_in_step.new.second) _ _ (g.met.P.Port.took_state _ _ _ c.resync.ensures.took_first.2)
    (g.met.Q.Port.took_state _ _ _ c.resync.ensures.took_second.2) m c.ask_in_step.new.room.text (h m (c.resync.ensures.keeps ∙ told))) c.ask_in_step.ensures.done

pub returns-in-Ok-clause-fails : goal.returns-in-Ok-clause-fails
returns-in-Ok-clause-fails g c = if_err_map c.ask_in_step.result _ _
    (λ e h m told. fails_later (seen c.args.task.now) (g.P.Port.state c.args.first.now) (g.P.Port.state c.resync.new.first) (g.P.Port.state c.ask_in_step.new.first)
    (g.Q.Port.state c.args.second.now) (g.Q.Port.state c.resync.new.second) (g.Q.Port.state c.ask_in_step.new.second) _ _ (g.met.P.Port.took_state _ _ _ c.resync.ensures.took_first.2)
    (g.met.Q.Port.took_state _ _ _ c.resync.ensures.took_second.2) m e (h m (c.resync.ensures.keeps ∙ told))) c.ask_in_step.ensures.fails

pub returns-in-Ok-clause-took_first : goal.returns-in-Ok-clause-took_first
returns-in-Ok-clause-took_first g c = first_both g.P.Port.took g.met.P.Port.took_both (seen c.args.task.now) _ _ _ c.resync.ensures.took_first c.ask_in_step.ensures.took_first

pub returns-in-Ok-clause-took_second : goal.returns-in-Ok-clause-took_second
returns-in-Ok-clause-took_second g c = second_both g.Q.Port.took g.met.Q.Port.took_both (seen c.args.task.now) (g.P.Port.state c.args.first.now)
    (g.Q.Port.state c.args.second.now) _ _ _ c.resync.ensures.took_second c.ask_in_step.ensures.took_second

pub returns-in-Err-clause-fails : goal.returns-in-Err-clause-fails
returns-in-Err-clause-fails g c = λ m told. resync_fails (seen c.args.task.now) _ _ _ _ m c.in-Err.error c.in-Err.ensures.causes (c.in-Err.ensures.unread m told)

pub returns-in-Err-clause-took_first : goal.returns-in-Err-clause-took_first
returns-in-Err-clause-took_first g c = (c.resync.ensures.took_first.0, word_asks (seen c.args.task.now) _ c.resync.ensures.took_first.1, c.resync.ensures.took_first.2)

pub returns-in-Err-clause-took_second : goal.returns-in-Err-clause-took_second
returns-in-Err-clause-took_second g c = second_alone g.Q.Port.took (seen c.args.task.now) (g.P.Port.state c.args.first.now) (g.Q.Port.state c.args.second.now) _ _ c.resync.ensures.took_second

pub returns-in-Ok-clause-asked : goal.returns-in-Ok-clause-asked
returns-in-Ok-clause-asked g c = inl (record {
  both = (
    asked_before g.P.Port.took g.met.P.Port.took_both _ _ _ _ c.in-Ok.ensures.asked.0 c.ask_in_step.ensures.took_first.2,
    asked_before g.Q.Port.took g.met.Q.Port.took_both _ _ _ _ c.in-Ok.ensures.asked.1 c.ask_in_step.ensures.took_second.2,
  );
  whole = second_all g.Q.Port.took g.met.Q.Port.took_both (seen c.args.task.now) (g.P.Port.state c.args.first.now)
      (g.Q.Port.state c.args.second.now) _ _ _ c.in-Ok.ensures.exact c.ask_in_step.ensures.took_second;
})

pub returns-in-Err-clause-asked : goal.returns-in-Err-clause-asked
returns-in-Err-clause-asked g c = inr (failed_so _ _ _ _ c.in-Err.error c.in-Err.ensures.causes (c.in-Err.ensures.unread c.requires.pair.map c.requires.pair.told))
