use Rattle.std.proofs.Common.{refl, ap, ◌∙◌}
use Rattle.pk_nvme.{specs.Bytes.RoomyList, specs.declared.opcode.Opcode.TheVariants.Delete}
use Rattle.pk_host.{specs.Calls.delete_of, specs.Outcomes.existed}
use Rattle.pk_mirror.proofs.ReplyLemmas.{existed_tells}
use Rattle.pk_mirrorwords.{specs.PairTasks.delete, proofs.Replying.write_done, proofs.Replying.write_fails, proofs.Replying.true_line, proofs.Replying.false_line}
use Rattle.pk_mirrorwords.proofs.answering.delete.Goals as goal

pub delete-requires-clause-pair : goal.delete-requires-clause-pair
delete-requires-clause-pair g c = c.requires.pair.pair.pair

pub returns-in-Ok-true-clause-done : goal.returns-in-Ok-true-clause-done
returns-in-Ok-true-clause-done g c = λ m told. write_done c.args.mirror.now c.delete.new.self _ _ _ _ (delete_of c.args.key.now) Delete existed existed_tells refl
    (λ shape most frames m own. refl) c.requires.pair.in_step c.requires.pair.pair.pair m told (delete c.args.key.now) refl refl c.in-Ok-true.field-0 c.say_status.new.text.items
    (λ a ok. ap (λ (t : RoomyList). t.items) c.say_status.ensures ∙ true_line a c.in-Ok-true.field-0 c.in-Ok-true.field-0-test ok) c.in-Ok-true.ensures.writes
    (c.in-Ok-true.ensures.mirrors c.requires.pair.in_step m told)

pub returns-in-Ok-false-clause-done : goal.returns-in-Ok-false-clause-done
returns-in-Ok-false-clause-done g c = λ m told. write_done c.args.mirror.now c.delete.new.self _ _ _ _ (delete_of c.args.key.now) Delete existed existed_tells refl
    (λ shape most frames m own. refl) c.requires.pair.in_step c.requires.pair.pair.pair m told (delete c.args.key.now) refl refl c.in-Ok-false.field-0 c.say_status-in-Ok-false.new.text.items
    (λ a ok. ap (λ (t : RoomyList). t.items) c.say_status-in-Ok-false.ensures ∙ false_line a c.in-Ok-false.field-0 c.in-Ok-false.field-0-test ok) c.in-Ok-false.ensures.writes
    (c.in-Ok-false.ensures.mirrors c.requires.pair.in_step m told)

pub returns-in-Err-clause-fails : goal.returns-in-Err-clause-fails
returns-in-Err-clause-fails g c = λ m told. write_fails c.args.mirror.now c.delete.new.self _ _ _ _ (delete_of c.args.key.now) Delete existed existed_tells refl
    (λ shape most frames m own. refl) c.requires.pair.in_step c.requires.pair.pair.pair m told
    (delete c.args.key.now) refl refl c.in-Err.error c.in-Err.ensures.writes c.in-Err.ensures.split.1 c.in-Err.ensures.causes c.in-Err.ensures.first_kept (c.in-Err.ensures.second_unread m told)
