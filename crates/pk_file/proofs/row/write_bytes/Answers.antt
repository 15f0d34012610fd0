use Rattle.std.proofs.Common.{◌≡◌, ◌⊎◌, ◌∙◌, ◌+◌, ◌*◌, ◌<◌, ◌≤◌, ℕ, inl, inr, List, length, ap, sym, subst, arith}
use Rattle.std.proofs.Math.Nat.{mul-le-mul_right}
use Rattle.std.proofs.lemmas.Bool.{cases_lt}
use Rattle.pk_base.specs.Page.{whole, page_at}
use Rattle.pk_file.{specs.Slots.pages_of, specs.Slots.slot_page, specs.Pieces.PageWanted, specs.Pieces.Gathered, specs.RowSteps.wanted, specs.RowSteps.is_dirty}
use Rattle.pk_file.proofs.Slotting.{page_here}
use Rattle.pk_file.proofs.Gathering.{gathered_start, gathered_write, page_wanted, page_next, reach_of, row_written}
use Rattle.pk_file.proofs.row.write_bytes.Goals as goal

pub loop-i-init : goal.loop-i-init
loop-i-init g c = record {
  started = λ some. absurd (omega (arith, some, c.clear.ensures));
  are_whole = λ k low high. absurd (omega (arith, low, high));
  gathered = gathered_start _ _ _ _ _ _ _ _ c.clear.ensures;
}

pub loop-i-preserved : goal.loop-i-preserved
loop-i-preserved g c =
    let size : ℕ = c.args.shape.now.page_bytes in
    let first : ℕ = c.args.first in
    let i : ℕ = c.loop-i.i in
    let extents : List ℕ = c.args.extents.now.items in
    let pages = pages_of c.args.slots.now.items in
    let inside : i < length extents = omega (arith, c.loop-i-test.true, c.len-i-end.ensures) in
    let here = page_here c.args.slots.now.items (first + i) c.index.result.now (omega (arith, inside, c.requires.row)) c.index.ensures in
    let own = here ∙ ap slot_page c.in-Whole.is in
    let need : ℕ = c.needed-need.result in
    let front : length c.in-Whole.kept.front.items ≤ need = omega (arith, c.needed-need.ensures.front, c.as_slice-front.ensures.len) in
    let fits : length c.in-Whole.kept.front.items ≤ size = omega (arith, front, c.if-need-size.false, c.page_bytes-size.ensures.value) in
    let reach = reach_of extents i c.index-in-loop-i.result.now size need inside c.index-in-loop-i.ensures
    (subst (λ (n : ℕ). (c.index-in-loop-i.result.now ≤ need) ⊎ (n ≤ need)) c.page_bytes-size.ensures.value c.needed-need.ensures.extent) in
    let wants = page_wanted size pages first i extents c.in-Whole.kept.front.items c.in-Whole.kept.zeros need own fits reach in
    let P : List ℕ → Type 0 = λ front. PageWanted size ((first + i) * size) (wanted size pages) (is_dirty size pages first extents) front need in
    let order : first * size ≤ (first + i) * size = mul-le-mul_right {m = first} {n = first + i} size (omega arith) in
    let more = c.add.ensures.grows c.if-not-add.false (first * size) (wanted size pages) (is_dirty size pages first extents) _ order (subst P (sym c.as_slice-front.ensures.value) wants) c.loop-i.invariant.gathered in
    let Q : ℕ → Type 0 = λ to. Gathered size (first * size) to (wanted size pages) (is_dirty size pages first extents) (g.F.PageFile.steps c.args.file.now) (g.F.PageFile.steps c.add.new.file)
    c.add.new.self.first c.add.new.self.bytes.items c.add.new.self.gap in
    record {
      started = c.add.ensures.started;
      are_whole = λ k low high. elim (cases_lt k (first + i)) [
        | inl before ↦ c.loop-i.invariant.are_whole k low before
        | inr last ↦
            let same : first + i ≡ k = omega (arith, last, high) in
            subst (λ (n : ℕ). (bytes : List ℕ) × (page_at pages n ≡ whole bytes)) same (_, own)
      ];
      gathered = subst Q (page_next size first i) more;
    }

pub returns : goal.returns
returns g c is =
    let all = gathered_write c.args.shape.now.page_bytes _ _ _ _ _ _ _ _ _ _ 0 _ 0 c.write.ensures.none (c.write.ensures.steps is) c.loop-i.invariant.gathered in
    row_written _ _ _ _ c.loop-i.i _ _ _ _ _ (omega (arith, c.loop-i-test.false, c.loop-i.auto.i-end, c.len-i-end.ensures)) c.write.ensures.none c.loop-i.invariant.are_whole all
