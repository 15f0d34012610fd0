use Rattle.std.proofs.Common.{refl, ap, ◌∙◌}
use Rattle.pk_nvme.{specs.Bytes.RoomyList, specs.declared.opcode.Opcode.TheVariants.Store}
use Rattle.pk_host.{specs.Calls.store_of, specs.Outcomes.stored, specs.declared.types.StoreRule.TheVariants.Any}
use Rattle.pk_mirror.proofs.ReplyLemmas.{stored_tells}
use Rattle.pk_mirrorwords.{specs.PairTasks.put, proofs.Replying.write_done, proofs.Replying.write_fails, proofs.Replying.stored_line}
use Rattle.pk_mirrorwords.proofs.answering.put.Goals as goal

pub store-requires-clause-pair : goal.store-requires-clause-pair
store-requires-clause-pair g c = c.requires.pair.pair.pair

pub returns-in-Ok-clause-done : goal.returns-in-Ok-clause-done
returns-in-Ok-clause-done g c = λ m told. write_done c.args.mirror.now c.store.new.self _ _ _ _ (store_of c.args.key.now c.args.value.now Any) Store stored stored_tells refl
    (λ shape most frames m own. refl) c.requires.pair.in_step c.requires.pair.pair.pair m told (put c.args.key.now c.args.value.now) refl refl tt c.say_status.new.text.items
    (λ a ok. ap (λ (t : RoomyList). t.items) c.say_status.ensures ∙ stored_line a ok) c.in-Ok.ensures.writes (c.in-Ok.ensures.mirrors c.requires.pair.in_step m told)

pub returns-in-Err-clause-fails : goal.returns-in-Err-clause-fails
returns-in-Err-clause-fails g c = λ m told. write_fails c.args.mirror.now c.store.new.self _ _ _ _ (store_of c.args.key.now c.args.value.now Any) Store stored stored_tells refl
    (λ shape most frames m own. refl) c.requires.pair.in_step c.requires.pair.pair.pair m told
    (put c.args.key.now c.args.value.now) refl refl c.in-Err.error c.in-Err.ensures.writes c.in-Err.ensures.split.1 c.in-Err.ensures.causes c.in-Err.ensures.first_kept
    (c.in-Err.ensures.second_unread m told)
