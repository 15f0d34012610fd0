use Rattle.std.proofs.Common.{Some, None, refl, sym, ap, ◌∙◌, arith}
use Rattle.std.specs.Option.{option_copied}
use Rattle.pk_nvme.{specs.Bytes.RoomyList, specs.Command.key_or_none}
use Rattle.pk_mirrorwords.proofs.Paging.{paging_begins, paging_goes, paging_ends, paging_fails, goes_as, listed_at, asks_page}
use Rattle.pk_mirrorwords.proofs.pages.list.Goals as goal

pub loop-next-init : goal.loop-next-init
loop-next-init g c = (
  paging_begins g.P.Port.state g.P.Port.took g.Q.Port.state g.Q.Port.took c.args.first.now c.args.second.now c.args.mirror.now c.clear.new.self.items
      (ap (λ (t : RoomyList). t.items) c.clear.ensures) (g.met.P.Port.took_none c.args.first.now) (g.met.Q.Port.took_none c.args.second.now) c.requires.pair,
  refl,
)

pub add_page-requires-clause-pair : goal.add_page-requires-clause-pair
add_page-requires-clause-pair g c = c.loop-next.invariant.0.pair

pub add_page-requires-clause-shape : goal.add_page-requires-clause-shape
add_page-requires-clause-shape g c = (g.met.P.Port.took_state _ _ _ c.loop-next.invariant.0.took_first.2).shape ∙ c.requires.shape

pub add_page-requires-clause-from : goal.add_page-requires-clause-from
add_page-requires-clause-from g c = λ k e. c.loop-next.invariant.0.text k (sym c.as_ref.ensures.value ∙ e)

pub add_page-requires-clause-listed : goal.add_page-requires-clause-listed
add_page-requires-clause-listed g c = listed_at (g.P.Port.state c.args.first.now)
    (g.P.Port.state c.loop-next.first) _ c.loop-next.last c.loop-next.text.items c.as_ref.ensures.value c.loop-next.invariant.0.same_first c.loop-next.invariant.0.listed

pub loop-next-smaller : goal.loop-next-smaller
loop-next-smaller g c = (goes_as (g.P.Port.state c.loop-next.first) _ c.loop-next.last _
    (Some c.in-Ok-Some.next) c.loop-next.text.items c.add_page.new.text.items c.as_ref.ensures.value c.in-Ok-Some.field-0-is c.in-Ok-Some.ensures.goes).2

pub loop-next-preserved : goal.loop-next-preserved
loop-next-preserved g c = (
  paging_goes g.P.Port.state g.P.Port.took g.Q.Port.state g.Q.Port.took g.met.P.Port.took_both g.met.Q.Port.took_both g.met.P.Port.took_state g.met.Q.Port.took_state
      c.loop-next.invariant.0 (key_or_none (option_copied c.as_ref.result)) c.add_page.ensures.took_first c.add_page.ensures.took_second c.add_page.ensures.keeps
      c.add_page.new.mirror c.add_page.new.text.items c.in-Ok-Some.next c.add_page.ensures.stays c.add_page.ensures.pair
      (goes_as (g.P.Port.state c.loop-next.first) _ c.loop-next.last _
      (Some c.in-Ok-Some.next) c.loop-next.text.items c.add_page.new.text.items c.as_ref.ensures.value c.in-Ok-Some.field-0-is c.in-Ok-Some.ensures.goes),
  c.add_page.ensures.room ∙ c.loop-next.invariant.1,
)

pub returns-in-Ok-None-clause-done : goal.returns-in-Ok-None-clause-done
returns-in-Ok-None-clause-done g c = λ m told.
    paging_ends g.P.Port.state g.P.Port.took g.Q.Port.state g.Q.Port.took g.met.P.Port.took_both g.met.Q.Port.took_both g.met.P.Port.took_state g.met.Q.Port.took_state
    c.loop-next.invariant.0 (key_or_none (option_copied c.as_ref.result)) c.add_page.ensures.took_first c.add_page.ensures.took_second c.add_page.ensures.keeps
    c.add_page.new.text.items m told (c.requires.pair.pair.pair.in_step c.requires.pair.in_step ∙ told)
    (goes_as (g.P.Port.state c.loop-next.first) _ c.loop-next.last _ None c.loop-next.text.items c.add_page.new.text.items c.as_ref.ensures.value c.in-Ok-None.field-0-is c.in-Ok-None.ensures.goes)

pub returns-in-Err-clause-fails : goal.returns-in-Err-clause-fails
returns-in-Err-clause-fails g c = λ m told.
    paging_fails g.P.Port.state g.P.Port.took g.Q.Port.state g.Q.Port.took g.met.P.Port.took_both g.met.Q.Port.took_both g.met.P.Port.took_state g.met.Q.Port.took_state
    c.loop-next.invariant.0 (key_or_none (option_copied c.as_ref.result)) c.add_page.ensures.took_first c.add_page.ensures.took_second c.add_page.ensures.keeps
    m c.in-Err.error c.in-Err.ensures.fails

pub returns-in-Ok-None-clause-took_first : goal.returns-in-Ok-None-clause-took_first
returns-in-Ok-None-clause-took_first g c = asks_page g.met.P.Port.took_both _ _ _ (key_or_none (option_copied c.as_ref.result)) c.loop-next.invariant.0.took_first c.add_page.ensures.took_first

pub returns-in-Ok-None-clause-took_second : goal.returns-in-Ok-None-clause-took_second
returns-in-Ok-None-clause-took_second g c = asks_page g.met.Q.Port.took_both _ _ _ (key_or_none (option_copied c.as_ref.result)) c.loop-next.invariant.0.took_second c.add_page.ensures.took_second

pub returns-in-Err-clause-took_first : goal.returns-in-Err-clause-took_first
returns-in-Err-clause-took_first g c = asks_page g.met.P.Port.took_both _ _ _ (key_or_none (option_copied c.as_ref.result)) c.loop-next.invariant.0.took_first c.add_page.ensures.took_first

pub returns-in-Err-clause-took_second : goal.returns-in-Err-clause-took_second
returns-in-Err-clause-took_second g c = asks_page g.met.Q.Port.took_both _ _ _ (key_or_none (option_copied c.as_ref.result)) c.loop-next.invariant.0.took_second c.add_page.ensures.took_second

pub add_page-requires-clause-room : goal.add_page-requires-clause-room
add_page-requires-clause-room g c =
    let clear = ap (λ (t : RoomyList). t.room) c.clear.ensures in
    let same = c.loop-next.invariant.1 in
    omega (arith, c.requires.room, same, clear)

pub returns-in-Ok-None-clause-room : goal.returns-in-Ok-None-clause-room
returns-in-Ok-None-clause-room g c = c.add_page.ensures.room ∙ c.loop-next.invariant.1 ∙ ap (λ (t : RoomyList). t.room) c.clear.ensures

pub returns-in-Err-clause-room : goal.returns-in-Err-clause-room
returns-in-Err-clause-room g c = c.add_page.ensures.room ∙ c.loop-next.invariant.1 ∙ ap (λ (t : RoomyList). t.room) c.clear.ensures
