use Rattle.std.proofs.Common.{◌≡◌, ◌∙◌, ◌≤◌, ℕ, List, true, false, length, get_or, slice_index, sym, ap, refl, arith, inl, inr}
use Rattle.std.proofs.lemmas.Result.{on_ok_weaker}
use Rattle.pk_base.{specs.Page.page_at}
use Rattle.pk_image.{specs.Header.file_size, specs.Image.state_place}
use Rattle.pk_redo.proofs.Replaying.{unset_page}
use Rattle.pk_redo.proofs.Tables.{page_shown, lacks_or_not}
use Rattle.pk_redo.proofs.Writes.{same_itself, lacking_marks, lacking_sets, has_unset, zeros_of_states, bytes_still, page_of}
use Rattle.pk_redo.proofs.checkpoints.checkpoint.Goals as goal

pub returns-in_err-put_all_states-clause-crash : goal.returns-in_err-put_all_states-clause-crash
returns-in_err-put_all_states-clause-crash g c marks base sets within = c.put_all_states.ensures.crash marks base sets within

pub returns-in_err-put_all_states-clause-others : goal.returns-in_err-put_all_states-clause-others
returns-in_err-put_all_states-clause-others g c k long low not =
    let shape = c.args.shape.now in
    let lacks = c.args.lacks.now.items in
    let sets = lacking_sets shape lacks in
    unset_page shape (lacking_marks lacks) _ _ (c.put_all_states.ensures.seen (lacking_marks lacks) _ sets (same_itself shape (lacking_marks lacks) _ long)) k low (has_unset shape lacks k not)

pub returns-in_err-put_all_states-clause-zeros : goal.returns-in_err-put_all_states-clause-zeros
returns-in_err-put_all_states-clause-zeros g c long zeros = zeros_of_states c.args.shape.now _ _ _ long c.put_all_states.ensures.torn zeros

pub returns-in_err-put_all_bytes-clause-crash : goal.returns-in_err-put_all_bytes-clause-crash
returns-in_err-put_all_bytes-clause-crash g c marks base sets within = c.put_all_bytes.ensures.crash marks base sets (c.put_all_states.ensures.crash marks base sets within)

pub returns-in_err-put_all_bytes-clause-others : goal.returns-in_err-put_all_bytes-clause-others
returns-in_err-put_all_bytes-clause-others g c k long low not =
    let shape = c.args.shape.now in
    let lacks = c.args.lacks.now.items in
    let sets = lacking_sets shape lacks in
    let first = c.put_all_states.ensures.seen (lacking_marks lacks) _ sets (same_itself shape (lacking_marks lacks) _ long) in
    unset_page shape (lacking_marks lacks) _ _ (c.put_all_bytes.ensures.seen (lacking_marks lacks) _ sets first) k low (has_unset shape lacks k not)

pub returns-in_err-put_all_bytes-clause-zeros : goal.returns-in_err-put_all_bytes-clause-zeros
returns-in_err-put_all_bytes-clause-zeros g c long zeros =
    c.put_all_bytes.ensures.zeros (omega (arith, long, c.put_all_states.ensures.torn.no_shorter)) (zeros_of_states c.args.shape.now _ _ _ long c.put_all_states.ensures.torn zeros)

pub returns-clause-crash : goal.returns-clause-crash
returns-clause-crash g c marks base sets within =
    c.put_all_states-2.ensures.crash marks base sets (c.put_all_bytes.ensures.crash marks base sets (c.put_all_states.ensures.crash marks base sets within))

pub returns-clause-others : goal.returns-clause-others
returns-clause-others g c k long low not =
    let shape = c.args.shape.now in
    let lacks = c.args.lacks.now.items in
    let sets = lacking_sets shape lacks in
    let first = c.put_all_states.ensures.seen (lacking_marks lacks) _ sets (same_itself shape (lacking_marks lacks) _ long) in
    let then_ = c.put_all_bytes.ensures.seen (lacking_marks lacks) _ sets first in
    unset_page shape (lacking_marks lacks) _ _ (c.put_all_states-2.ensures.seen (lacking_marks lacks) _ sets then_) k low (has_unset shape lacks k not)

pub returns-clause-zeros : goal.returns-clause-zeros
returns-clause-zeros g c long zeros =
    let shape = c.args.shape.now in
    let lacks = c.args.lacks.now.items in
    let first = c.put_all_states.ensures.seen (lacking_marks lacks) _ (lacking_sets shape lacks) (same_itself shape (lacking_marks lacks) _ long) in
    let then_ = c.put_all_bytes.ensures.seen (lacking_marks lacks) _ (lacking_sets shape lacks) first in
    zeros_of_states shape _ _ _ (omega (arith, then_.fits, then_.same_size)) c.put_all_states-2.ensures.torn
    (c.put_all_bytes.ensures.zeros (omega (arith, long, c.put_all_states.ensures.torn.no_shorter)) (zeros_of_states shape _ _ _ long c.put_all_states.ensures.torn zeros))

pub returns-clause-written : goal.returns-clause-written
returns-clause-written g c =
    on_ok_weaker c.put_all_states-2.result (λ (states : file_size c.args.shape.now ≤ length (g.D.Disk.seen c.put_all_bytes.new.image)
    → (k : ℕ) → get_or c.args.lacks.now.items k false ≡ true → slice_index (g.D.Disk.seen c.put_all_states-2.new.image) (state_place k) ≡ slice_index c.note_states.new.states k) long zeros had k low.
    let shape = c.args.shape.now in
    let lacks = c.args.lacks.now.items in
    let sets = lacking_sets shape lacks in
    let first = c.put_all_states.ensures.seen (lacking_marks lacks) _ sets (same_itself shape (lacking_marks lacks) _ long) in
    let then_ = c.put_all_bytes.ensures.seen (lacking_marks lacks) _ sets first in
    let last = c.put_all_states-2.ensures.seen (lacking_marks lacks) _ sets then_ in
    let mid : file_size shape ≤ length (g.D.Disk.seen c.put_all_bytes.new.image) = omega (arith, then_.fits, then_.same_size) in
    let hidden = zeros_of_states shape _ _ _ long c.put_all_states.ensures.torn zeros in
    let bytes = c.in_ok-put_all_bytes.ensures.written (omega (arith, long, c.put_all_states.ensures.torn.no_shorter)) hidden in
    elim (lacks_or_not lacks k) [
      | inl is ↦
          page_of shape _ _ k _ (states mid k is) refl
          ∙ page_shown _ _ _ (c.note_states.ensures.states k (omega (arith, low, c.requires.states, c.fill.auto.self)))
          (λ own whole. sym (bytes_still shape _ _ k low mid c.put_all_states-2.ensures.torn ∙ bytes k own is whole))
      | inr not ↦ unset_page shape (lacking_marks lacks) _ _ last k low (has_unset shape lacks k not) ∙ had k low not
    ]) c.put_all_states-2.ensures.written
