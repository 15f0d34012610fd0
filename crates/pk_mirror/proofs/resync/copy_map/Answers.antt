use Rattle.std.proofs.Common.{◌≤◌, length, sym, subst, ◌∙◌, arith}
use Rattle.pk_base.specs.Shape.{Shape, greatest}
use Rattle.pk_mirror.{specs.Agreement.IsPart, specs.Spending.ToStore}
use Rattle.pk_mirror.proofs.PairLemmas.{still_alike, on_ok_map, on_ok_both, if_err_map}
use Rattle.pk_mirror.proofs.VisitLemmas.{asking_more, cause_later, asked_before, asked_later, any_exit}
use Rattle.pk_mirror.{proofs.SpendLemmas.resync_took, proofs.SpendLemmas.resync_whole, proofs.SpendLemmas.resync_first, proofs.PageLemmas.both_phases, proofs.PageLemmas.second_phase_fails}
use Rattle.pk_nvme.specs.declared.opcode.TheConstants.{STORE}
use Rattle.pk_mirror.proofs.resync.copy_map.Goals as goal

pub copy_all-requires-clause-alike : goal.copy_all-requires-clause-alike
copy_all-requires-clause-alike g c = still_alike _ _ _ _ _ _ (g.met.P.Port.took_state _ _ _ c.in-Ok.ensures.dropped.took_first.2)
    (g.met.Q.Port.took_state _ _ _ c.in-Ok.ensures.dropped.took_second.2) c.requires.alike

pub copy_all-requires-clause-room_one : goal.copy_all-requires-clause-room_one
copy_all-requires-clause-room_one g c = subst (λ (s : Shape). greatest s ≤ length c.drop_all.new.one)
    (sym (g.met.P.Port.took_state _ _ _ c.in-Ok.ensures.dropped.took_first.2).shape) (omega (arith, c.requires.room_one, c.drop_all.auto.one))

pub returns-in-Ok : goal.returns-in-Ok
returns-in-Ok g c =
    let gone = c.in-Ok.ensures.dropped in
    let (same, took_first, took_second) = any_exit g.P.Port.state g.P.Port.took g.Q.Port.state g.Q.Port.took IsPart ToStore STORE g.met.Q.Port.took_state _ _ _ _
    c.copy_all.result c.copy_all.ensures.copied c.copy_all.ensures.fails in
    record {
      visits = on_ok_map c.copy_all.result _ _
          (both_phases (g.P.Port.state c.args.first.now) (g.P.Port.state c.drop_all.new.first) (g.Q.Port.state c.args.second.now)
          (g.Q.Port.state c.drop_all.new.second) (g.Q.Port.state c.copy_all.new.second) gone.same c.in-Ok.ensures.visits) c.copy_all.ensures.visits;
      keeps = same ∙ gone.same;
      causes = if_err_map c.copy_all.result _ _
          (λ e h. cause_later (g.P.Port.state c.args.first.now) (g.P.Port.state c.drop_all.new.first) (g.P.Port.state c.copy_all.new.first) (g.Q.Port.state c.args.second.now)
          (g.Q.Port.state c.drop_all.new.second) (g.Q.Port.state c.copy_all.new.second) _ _ e (g.met.P.Port.took_state _ _ _ gone.took_first.2)
          (g.met.Q.Port.took_state _ _ _ gone.took_second.2) h.causes) c.copy_all.ensures.fails;
      unread = if_err_map c.copy_all.result _ _
          (λ e h. second_phase_fails (g.P.Port.state c.args.first.now) (g.P.Port.state c.drop_all.new.first) (g.Q.Port.state c.args.second.now)
          (g.Q.Port.state c.drop_all.new.second) e gone.same c.in-Ok.ensures.visits h.unread) c.copy_all.ensures.fails;
      took_first = asking_more g.P.Port.took g.met.P.Port.took_both _ _ _ gone.took_first took_first;
      took_second = resync_took g.Q.Port.state g.Q.Port.took g.met.Q.Port.took_both (g.P.Port.state c.args.first.now) (g.P.Port.state c.drop_all.new.first)
          c.args.second.now c.drop_all.new.second c.copy_all.new.second gone.same c.in-Ok.ensures.visits gone.took_second took_second;
      exact = on_ok_both c.copy_all.result _ _ _
          (λ all copied. resync_whole g.Q.Port.state g.Q.Port.took g.met.Q.Port.took_both (g.P.Port.state c.args.first.now) (g.P.Port.state c.drop_all.new.first)
          c.args.second.now c.drop_all.new.second c.copy_all.new.second gone.same c.in-Ok.ensures.visits all gone.took_second copied.took_second)
          c.copy_all.ensures.visits c.copy_all.ensures.copied;
      asked = on_ok_map c.copy_all.result _ _
          (λ h. (
            asked_later g.P.Port.took g.met.P.Port.took_both _ _ _ _ gone.took_first.2 h,
            asked_before g.Q.Port.took g.met.Q.Port.took_both _ _ _ _ c.in-Ok.ensures.asked_second took_second.2,
          )) c.copy_all.ensures.asked_first;
    }

pub returns-in-Err : goal.returns-in-Err
returns-in-Err g c =
    let failed = c.in-Err.ensures.fails in
    record {
      visits = tt;
      keeps = failed.same;
      causes = failed.causes;
      unread = failed.unread;
      took_first = failed.took_first;
      took_second = (failed.took_second.0, resync_first (g.P.Port.state c.args.first.now) (g.Q.Port.state c.args.second.now) _ failed.took_second.1, failed.took_second.2);
      exact = tt;
      asked = tt;
    }
