use Rattle.std.proofs.Common.{◌≡◌, ◌∙◌, ℕ, [], ◌∷◌, List, Option, length, ap, subst, arith}
use Rattle.pk_image.specs.declared.tag.TheConstants.{TORN, WHOLE}
use Rattle.pk_nand.specs.Calls.{longer}
use Rattle.pk_file.{specs.FileSteps.FileStep, specs.FileSteps.states_set, proofs.Steps.steps_more, proofs.RowLaw.row_during, proofs.RowLaw.row_done, specs.Slots.pages_of}
use Rattle.pk_file.proofs.row.write_row.Goals as goal

pub returns-in-Ok-sync-2 : goal.returns-in-Ok-sync-2
returns-in-Ok-sync-2 g c _ =
    let size : ℕ = c.args.shape.now.page_bytes in
    let begun = ap (λ (o : Option (List FileStep)). longer o (states_set c.args.first 1 TORN ∷ [])) c.begin.ensures in
    let torn = c.in-Ok.ensures ∙ begun in
    let bytes = c.write_bytes.ensures c.if-not-write_bytes.false in
    let P : ℕ → Type 0 = λ n. g.F.PageFile.steps c.set_states-2.new.self ≡ longer (g.F.PageFile.steps c.sync.new.self) (states_set c.args.first n WHOLE ∷ []) in
    let count : c.len-count.result ≡ length c.args.extents.now.items = omega (arith, c.len-count.ensures) in
    let set = subst P count c.in-Ok-set_states.ensures in
    let whole = steps_more _ _ _ _ _ c.in-Ok-sync.ensures set in
    let kept = steps_more _ _ _ _ _ whole c.in-Ok-sync-2.ensures in
    let written = steps_more _ _ _ _ _ bytes.steps kept in
    record {
      pieces = bytes.pieces;
      steps = steps_more _ _ _ _ _ torn written;
      own = bytes.own;
      during = row_during size (pages_of c.args.slots.now.items) c.args.first c.args.extents.now.items bytes.pieces bytes.own;
      done = row_done size (pages_of c.args.slots.now.items) c.args.first c.args.extents.now.items bytes.pieces bytes.own;
    }
