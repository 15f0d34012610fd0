use Rattle.std.proofs.Common.{refl, ◌∙◌, sym}
use Rattle.pk_nvme.specs.Seen.{command_of}
use Rattle.pk_port.proofs.Serving.{value_on, unworn_on, fits_again, serves_so, replies_so, data_so, fails_so, front_few}
use Rattle.pk_port.proofs.step.serve.Goals as goal

pub returns-in-Ok-clause-fits : goal.returns-in-Ok-clause-fits
returns-in-Ok-clause-fits g c =
    let e = c.in-Ok.ensures in
    let ready = c.requires.fits.ready (sym c.is_stopped.ensures ∙ c.if-is_stopped.false) in
    let value = value_on c.args.shape.now (g.B.Nand.state c.args.board.now) _ _ _ c.args.value.now c.requires.fits.shape_is c.handed.ensures.value in
    fits_again _ c.args.shape.now _ _ ready _ _ (command_of c.args.request.now c.args.value.now) _ _
    (e.submits c.args.value.now value) (g.D.Engine.agrees c.submit.new.drive) c.requires.handed (e.leaves.agrees refl) e.none

pub returns-in-Ok-clause-makes : goal.returns-in-Ok-clause-makes
returns-in-Ok-clause-makes g c =
    let e = c.in-Ok.ensures in
    let going = sym c.is_stopped.ensures ∙ c.if-is_stopped.false in
    let ready = c.requires.fits.ready going in
    let value = value_on c.args.shape.now (g.B.Nand.state c.args.board.now) _ _ _ c.args.value.now c.requires.fits.shape_is c.handed.ensures.value in
    let unworn = unworn_on (g.D.Engine.agrees c.args.drive.now) c.args.shape.now
    (g.B.Nand.state c.args.board.now) c.is_worn.result c.requires.fits.shape_is ready.agreed (λ s f h. c.is_worn.ensures s f h going) c.if-is_worn.false in
    serves_so _ c.args.shape.now _ _ ready _ _ (command_of c.args.request.now c.args.value.now) _ _
    (e.submits c.args.value.now value) going e.leaves.stops unworn e.leaves.rest e.looks e.counts.up e.counts.unread e.counts.sound e.counts.no_stop e.counts.reads e.counts.installs

pub returns-in-Ok-clause-replies : goal.returns-in-Ok-clause-replies
returns-in-Ok-clause-replies g c =
    let e = c.in-Ok.ensures in
    let ready = c.requires.fits.ready (sym c.is_stopped.ensures ∙ c.if-is_stopped.false) in
    let value = value_on c.args.shape.now (g.B.Nand.state c.args.board.now) _ _ _ c.args.value.now c.requires.fits.shape_is c.handed.ensures.value in
    replies_so _ c.args.shape.now _ _ ready _ _ (command_of c.args.request.now c.args.value.now) _ _
    (e.submits c.args.value.now value) c.are_fields.ensures.status c.are_fields.ensures.number e.counts.unread

pub returns-in-Ok-clause-data : goal.returns-in-Ok-clause-data
returns-in-Ok-clause-data g c =
    let e = c.in-Ok.ensures in
    let ready = c.requires.fits.ready (sym c.is_stopped.ensures ∙ c.if-is_stopped.false) in
    let value = value_on c.args.shape.now (g.B.Nand.state c.args.board.now) _ _ _ c.args.value.now c.requires.fits.shape_is c.handed.ensures.value in
    front_few _ c.submit.new.into _ e.fits (data_so _ c.args.shape.now _ _ ready _ _ (command_of c.args.request.now c.args.value.now) _ _ (e.submits c.args.value.now value))

pub returns-in-Err-clause-makes : goal.returns-in-Err-clause-makes
returns-in-Err-clause-makes g c =
    let e = c.in-Err.ensures in
    let going = sym c.is_stopped.ensures ∙ c.if-is_stopped.false in
    let ready = c.requires.fits.ready going in
    let value = value_on c.args.shape.now (g.B.Nand.state c.args.board.now) _ _ _ c.args.value.now c.requires.fits.shape_is c.handed.ensures.value in
    let unworn = unworn_on (g.D.Engine.agrees c.args.drive.now) c.args.shape.now
    (g.B.Nand.state c.args.board.now) c.is_worn.result c.requires.fits.shape_is ready.agreed (λ s f h. c.is_worn.ensures s f h going) c.if-is_worn.false in
    fails_so _ c.args.shape.now _ _ ready _ (g.D.Engine.sight c.submit.new.drive) (command_of c.args.request.now c.args.value.now)
    (e.stops c.args.value.now value) going e.leaves.stops unworn e.leaves.rest e.looks e.counts.up e.counts.stop
