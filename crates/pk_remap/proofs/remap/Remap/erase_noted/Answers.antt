use Rattle.std.{proofs.Common.refl, proofs.Common.ap, proofs.Common.◌∙◌}
use Rattle.pk_remap.{specs.declared.counts.BoardCounts.BoardCounts, specs.declared.mark_log.MarkLog.MarkLog, specs.Logged.told, specs.Remapped.with_stop}
use Rattle.pk_remap.proofs.Remapping.{log_sized}
use Rattle.pk_remap.proofs.remap.Remap.erase_noted.Goals as goal

pub invariant_of-self : goal.invariant_of-self
invariant_of-self g c =
    let self = c.args.self.now in
    record {
      holds = self.holds;
      logs = log_sized self.image self.image self.work.shape self.work.shape self.log c.note_erase.new.self c.requires.opened c.requires.opened refl c.note_erase.ensures.page self.logs;
    }

pub returns-in-Ok-clause-made : goal.returns-in-Ok-clause-made
returns-in-Ok-clause-made g c = c.in-Ok.ensures.made

pub returns-in-Ok-clause-told : goal.returns-in-Ok-clause-told
returns-in-Ok-clause-told g c = ap (λ (l : MarkLog). told l) c.erase_block.ensures.log ∙ c.note_erase.ensures.told

pub returns-in-Err-clause-made : goal.returns-in-Err-clause-made
returns-in-Err-clause-made g c = c.in-Err.ensures.made

pub returns-in-Err-clause-told : goal.returns-in-Err-clause-told
returns-in-Err-clause-told g c = ap (λ (l : MarkLog). told l) c.erase_block.ensures.log ∙ c.note_erase.ensures.told

pub returns-in-Err-clause-err : goal.returns-in-Err-clause-err
returns-in-Err-clause-err g c = c.stop_failed.ensures ∙ ap (λ (k : BoardCounts). with_stop c.args.block k) c.erase_block.ensures.counts

pub returns-in-Ok-clause-calls : goal.returns-in-Ok-clause-calls
returns-in-Ok-clause-calls g c = c.in-Ok.ensures.calls

pub returns-in-Err-clause-calls : goal.returns-in-Err-clause-calls
returns-in-Err-clause-calls g c = c.in-Err.ensures.calls
