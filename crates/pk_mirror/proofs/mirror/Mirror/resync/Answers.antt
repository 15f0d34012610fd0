use Rattle.std.proofs.Common.{Err, ap, ◌∙◌}
use Rattle.pk_mirror.{specs.Pair.Mirrored, proofs.PairLemmas.pair_alike, proofs.PageLemmas.mirrored, proofs.PageLemmas.resynced, proofs.PageLemmas.unresynced, proofs.PageLemmas.resync_unread}
use Rattle.pk_mirror.{proofs.VisitLemmas.not_split, proofs.SpendLemmas.took_looks}
use Rattle.pk_mirror.proofs.mirror.Mirror.resync.Goals as goal

pub copy_first-requires-clause-alike : goal.copy_first-requires-clause-alike
copy_first-requires-clause-alike g c = pair_alike _ _ _ c.requires

pub returns-in-Ok-clause-pair : goal.returns-in-Ok-clause-pair
returns-in-Ok-clause-pair g c = resynced c.args.self.now c.set_split-in-Ok.new.self (g.P.Port.state c.args.first.now) (g.P.Port.state c.copy_first.new.first)
    (g.Q.Port.state c.args.second.now) (g.Q.Port.state c.copy_first.new.second) _ _ c.requires (g.met.P.Port.took_state _ _ _ c.copy_first.ensures.took_first.2)
    (g.met.Q.Port.took_state _ _ _ c.copy_first.ensures.took_second.2) (ap (λ (x : Mirrored). x.shape) c.set_split-in-Ok.ensures
    ∙ ap (λ (x : Mirrored). x.shape) c.copy_first.ensures.same ∙ ap (λ (x : Mirrored). x.shape) c.set_split.ensures) c.copy_first.ensures.keeps c.in-Ok.ensures.visits

pub returns-in-Ok-clause-mirrored : goal.returns-in-Ok-clause-mirrored
returns-in-Ok-clause-mirrored g c = mirrored (g.P.Port.state c.args.first.now) (g.Q.Port.state c.args.second.now)
    (g.Q.Port.state c.copy_first.new.second) _ c.requires.both_tell (g.met.Q.Port.took_state _ _ _ c.copy_first.ensures.took_second.2) c.in-Ok.ensures.visits

pub returns-in-Err-clause-pair : goal.returns-in-Err-clause-pair
returns-in-Err-clause-pair g c = unresynced c.args.self.now c.copy_first.new.self (g.P.Port.state c.args.first.now) (g.P.Port.state c.copy_first.new.first)
    (g.Q.Port.state c.args.second.now) (g.Q.Port.state c.copy_first.new.second) _ _ c.requires (g.met.P.Port.took_state _ _ _ c.copy_first.ensures.took_first.2)
    (g.met.Q.Port.took_state _ _ _ c.copy_first.ensures.took_second.2) (ap (λ (x : Mirrored). x.shape) c.copy_first.ensures.same ∙ ap (λ (x : Mirrored). x.shape) c.set_split.ensures)
    (ap (λ (x : Mirrored). x.split) c.copy_first.ensures.same ∙ ap (λ (x : Mirrored). x.split) c.set_split.ensures)

pub returns-in-Err-clause-unread : goal.returns-in-Err-clause-unread
returns-in-Err-clause-unread g c = λ m told. resync_unread c.args.self.now (g.P.Port.state c.args.first.now)
    (g.Q.Port.state c.args.second.now) (Err c.in-Err.error) c.requires c.in-Err.ensures.unread m told

pub returns-in-Err-clause-not_split : goal.returns-in-Err-clause-not_split
returns-in-Err-clause-not_split g c = not_split _ _ _ _ c.in-Err.error c.in-Err.ensures.causes

pub returns-in-Ok-clause-quiet : goal.returns-in-Ok-clause-quiet
returns-in-Ok-clause-quiet g c = λ whole m told. took_looks g.Q.Port.took (g.P.Port.state c.args.first.now) (g.Q.Port.state c.args.second.now) c.args.second.now c.copy_first.new.second
    (c.requires.in_step whole) c.copy_first.ensures.took_second m told

pub returns-in-Err-clause-quiet : goal.returns-in-Err-clause-quiet
returns-in-Err-clause-quiet g c = λ whole m told. took_looks g.Q.Port.took (g.P.Port.state c.args.first.now) (g.Q.Port.state c.args.second.now) c.args.second.now c.copy_first.new.second
    (c.requires.in_step whole) c.copy_first.ensures.took_second m told
