use Rattle.std.proofs.Common.{◌≡◌, ◌≤◌, ◌+◌, ◌*◌, ◌++◌, ℕ, length, true, false, refl, ap, sym, subst, ◌∙◌, arith}
use Rattle.std.{specs.Prelude.Result, specs.Prelude.IsOk, specs.Prelude.vec_len, specs.declared.alloc.AllocError.AllocError}
use Rattle.pk_remap.{specs.Noted.noted_bytes, specs.Noted.noted_marks, specs.Noted.told_of, specs.Noted.bytes_of_mark, specs.Noted.marks_for, proofs.Lifting.times_le}
use Rattle.pk_remap.proofs.LogLemmas.{noted_more, bytes_more, told_some, marks_hold, one_mark, has_room, bytes_fit, if_is_ok}
use Rattle.pk_remap.proofs.mark_log.MarkLog.note.Goals.{After-takes}
use Rattle.pk_remap.proofs.mark_log.MarkLog.note.Goals as goal

-- the mark and its bytes have room
fits : (c : After-takes) → (vec_len c.args.self.now.bytes + length c.args.bytes.now ≤ (c.args.self.now.used + c.takes.result) * c.args.self.now.page_bytes)
    × (c.args.self.now.used + c.takes.result ≤ c.args.self.now.room)
    × ((c.args.self.now.used + c.takes.result) * c.args.self.now.page_bytes ≤ c.args.self.now.room * c.args.self.now.page_bytes)
fits c =
    let log = c.args.self.now in
    let len : ℕ = length c.args.bytes.now in
    let room = has_room log len c.requires.room c.if-self-gt0.true in
    let takes : c.takes.result ≡ marks_for log.page_bytes len = c.takes.ensures in
    let hold : len ≤ c.takes.result * log.page_bytes = let own = marks_hold log.page_bytes len room.0 in
    subst (λ (m : ℕ). len ≤ m * log.page_bytes) (sym takes) own in
    let within : log.used + c.takes.result ≤ log.room = omega (arith, room.1, takes) in
    (bytes_fit log.used c.takes.result log.page_bytes (vec_len log.bytes) len log.bytes_fit hold, within, times_le (log.used + c.takes.result) log.room log.page_bytes within)

pub invariant_of-self : goal.invariant_of-self
invariant_of-self c =
    let log = c.args.self.now in
    let len : ℕ = length c.args.bytes.now in
    let room = has_room log len c.requires.room c.if-self-gt0.true in
    let takes : c.takes.result ≡ marks_for log.page_bytes len = c.takes.ensures in
    let fit = fits (goal.at.invariant_of-self c).After-takes in
    let has = log.has_bytes in
    let ok = c.extend_from_slice.ensures.succeeds (omega (arith, fit, has)) in
    let size : vec_len c.extend_from_slice.new.self ≡ vec_len log.bytes + len = if_is_ok c.extend_from_slice.result _ _ _ ok c.extend_from_slice.ensures.len in
    let is : noted_bytes c.push_reserved.new.self.items ≡ noted_bytes log.marks.items + bytes_of_mark c.args.mark =
    ap noted_bytes c.push_reserved.ensures.items ∙ bytes_more log.marks.items c.args.mark in
    let before = log.bytes_are in
    let own = c.requires.sized in
    record {
      within = fit.1;
      counted = let few = log.counted in let one = one_mark log.page_bytes len in omega (arith, c.push_reserved.ensures.len, few, one, takes);
      marks_fit = λ e. absurd (omega (arith, e, room.0));
      has_marks = λ some. (let most = log.has_marks some in omega (arith, c.push_reserved.ensures.capacity, most));
      bytes_are = omega (arith, is, before, own, size);
      bytes_fit = omega (arith, fit, size);
      has_bytes = omega (arith, has, c.extend_from_slice.ensures.capacity);
    }

pub unreachable-requires : goal.unreachable-requires
unreachable-requires c =
    let fit = fits (goal.at.unreachable-requires c).After-takes in
    let has = c.args.self.now.has_bytes in
    let T : Result Unit AllocError → Type 0 = λ r. IsOk r in
    let no : false ≡ true = subst T c.in-Err.is (c.extend_from_slice.ensures.succeeds (omega (arith, fit, has))) in
    cc

pub returns-in-Ok-clause-told : goal.returns-in-Ok-clause-told
returns-in-Ok-clause-told c =
    let log = c.args.self.now in
    let T : Result Unit AllocError → Type 0 = λ r. IsOk r in
    let items : c.extend_from_slice.new.self.items ≡ log.bytes.items ++ c.args.bytes.now =
    if_is_ok c.extend_from_slice.result _ _ _ (subst T (sym c.in-Ok.is) refl) c.extend_from_slice.ensures.items in
    let size = log.bytes.ok.0 in
    let all : noted_bytes log.marks.items ≡ length log.bytes.items = log.bytes_are ∙ size in
    (λ i. told_of log.room (noted_marks (c.push_reserved.ensures.items i) (items i)))
    ∙ ap (told_of log.room) (noted_more log.marks.items log.bytes.items c.args.mark c.args.bytes.now all c.requires.sized)
    ∙ told_some log.room _ _ c.if-self-gt0.true
