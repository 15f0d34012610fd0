use Rattle.std.proofs.Common.{List, ℕ, Some, Err, ap, ◌∙◌}
use Rattle.pk_nvme.specs.Bytes.{RoomyList}
use Rattle.pk_host.specs.Outcomes.{retrieved}
use Rattle.pk_words.specs.Lines.{value_line}
use Rattle.pk_mirror.{specs.declared.error.MirrorError.MirrorError, proofs.WriteLemmas.true_false}
use Rattle.pk_mirrorwords.{specs.PairTasks.get, proofs.Replying.asked_fails, proofs.Replying.asks_within, proofs.Replying.both_kept, proofs.Replying.value_found, proofs.Replying.value_missing}
use Rattle.pk_mirrorwords.proofs.answering.get.Goals as goal

pub retrieve-requires-clause-pair : goal.retrieve-requires-clause-pair
retrieve-requires-clause-pair g c = c.requires.pair.pair.pair

pub returns-in-Ok-Some-clause-done : goal.returns-in-Ok-Some-clause-done
returns-in-Ok-Some-clause-done g c = λ m told.
    let kept = both_kept c.args.mirror.now _ _ _ _ c.requires.pair.pair.pair c.requires.pair.in_step c.retrieve.ensures.keeps m told in record {
      spelled = value_found (g.P.Port.state c.args.first.now) c.args.key.now _ c.in-Ok-Some.len c.retrieve.new.into c.say_value.new.text.items m c.in-Ok-Some.field-0-is c.in-Ok-Some.ensures.fetches
          (c.retrieve.auto.into ∙ c.requires.value)
          (asks_within _ _ _ _ _ _ _ retrieved _ c.in-Ok-Some.ensures.asks c.requires.pair.pair.pair m told).0 told
          (ap (λ (t : RoomyList). t.items) c.say_value.ensures ∙ ap (λ (v : List ℕ). value_line (Some v)) c.front.ensures);
      first_left = kept.0;
      second_left = kept.1;
    }

pub returns-in-Ok-None-clause-done : goal.returns-in-Ok-None-clause-done
returns-in-Ok-None-clause-done g c = λ m told.
    let kept = both_kept c.args.mirror.now _ _ _ _ c.requires.pair.pair.pair c.requires.pair.in_step c.retrieve.ensures.keeps m told in record {
      spelled = value_missing (g.P.Port.state c.args.first.now) c.args.key.now _ c.retrieve.new.into c.say_status.new.text.items m c.in-Ok-None.field-0-is c.in-Ok-None.ensures.fetches told
          (ap (λ (t : RoomyList). t.items) c.say_status.ensures);
      first_left = kept.0;
      second_left = kept.1;
    }

pub returns-in-Err-clause-fails : goal.returns-in-Err-clause-fails
returns-in-Err-clause-fails g c = λ m told. asked_fails (get c.args.key.now) _ _ _ _ m c.in-Err.error
    (λ e. true_false c.args.mirror.now.split (c.in-Err.ensures.split.1 (ap (λ (x : MirrorError). Err x) e)) c.requires.pair.in_step) c.in-Err.ensures.causes (c.in-Err.ensures.unread m told)
