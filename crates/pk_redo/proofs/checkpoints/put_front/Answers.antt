use Rattle.std.proofs.Common.{◌≡◌, ◌<◌, ◌∙◌, ℕ, List, length, take, ap, subst, arith}
use Rattle.std.proofs.lemmas.Grind.{get_or_default_zero}
use Rattle.sqlite_disk.specs.Disk.{Holds, Torn}
use Rattle.pk_base.{specs.Fields.padded, proofs.Tables.length-padded}
use Rattle.pk_image.specs.Image.{page_place}
use Rattle.pk_redo.proofs.Writes.{torn_within, zeros_raised, front_put, zeros_put}
use Rattle.pk_redo.proofs.checkpoints.put_front.Goals as goal

pub returns-in_err-put_page-clause-torn : goal.returns-in_err-put_page-clause-torn
returns-in_err-put_page-clause-torn g c =
    let need = c.bytes_to_write-need in
    let size : length (take need.result c.fill.new.buffer) ≡ need.result = ap length c.fill.ensures ∙ length-padded need.result c.args.front.now need.ensures.front in
    torn_within _ _ _ _ _ _ (omega arith) (omega (arith, size, need.ensures.most, c.requires.buffer)) c.put_page.ensures.torn

pub returns-in_err-put_page-clause-zeros : goal.returns-in_err-put_page-clause-zeros
returns-in_err-put_page-clause-zeros g c long zeros =
    let need = c.bytes_to_write-need in
    let extent = c.index.ensures ∙ get_or_default_zero c.args.extents.now.items c.args.page c.index.result.now (omega (arith, c.requires.exists, c.requires.extents)) in
    let shape = c.args.shape.now in
    let size : length (take need.result c.fill.new.buffer) ≡ need.result = ap length c.fill.ensures ∙ length-padded need.result c.args.front.now need.ensures.front in
    let torn = subst (λ (n : ℕ). Torn (page_place shape c.args.page) n (g.D.Disk.seen c.args.image.now) (g.D.Disk.seen c.put_page.new.image)) size c.put_page.ensures.torn in
    zeros_raised shape _ _ c.args.extents.now.items c.args.front.now c.args.page need.result c.requires.exists c.requires.extents need.ensures.front
    (omega (arith, need.ensures.most, c.requires.buffer))
    (λ k from below. omega (arith, need.ensures.extent k from (omega (arith, below, c.requires.buffer)), extent)) torn long zeros

pub returns-clause-torn : goal.returns-clause-torn
returns-clause-torn g c =
    let need = c.bytes_to_write-need in
    let size : length (take need.result c.fill.new.buffer) ≡ need.result = ap length c.fill.ensures ∙ length-padded need.result c.args.front.now need.ensures.front in
    torn_within _ _ _ _ _ _ (omega arith) (omega (arith, size, need.ensures.most, c.requires.buffer)) c.put_page.ensures.torn

pub returns-clause-zeros : goal.returns-clause-zeros
returns-clause-zeros g c long zeros =
    let need = c.bytes_to_write-need in
    let extent = c.index.ensures ∙ get_or_default_zero c.args.extents.now.items c.args.page c.index.result.now (omega (arith, c.requires.exists, c.requires.extents)) in
    let shape = c.args.shape.now in
    let size : length (take need.result c.fill.new.buffer) ≡ need.result = ap length c.fill.ensures ∙ length-padded need.result c.args.front.now need.ensures.front in
    let torn = subst (λ (n : ℕ). Torn (page_place shape c.args.page) n (g.D.Disk.seen c.args.image.now) (g.D.Disk.seen c.put_page.new.image)) size c.put_page.ensures.torn in
    zeros_put shape _ _ c.args.extents.now.items c.args.front.now c.args.page need.result c.requires.exists c.requires.extents need.ensures.front (omega (arith, need.ensures.most, c.requires.buffer))
    (λ k from below. omega (arith, need.ensures.extent k from (omega (arith, below, c.requires.buffer)), extent)) torn long zeros
    (λ some. subst (λ (bytes : List ℕ). Holds (g.D.Disk.seen c.put_page.new.image) (page_place shape c.args.page) bytes) c.fill.ensures
    (c.in_ok-put_page.ensures.written (omega (arith, some, size))))

pub returns-clause-own : goal.returns-clause-own
returns-clause-own g c long zeros =
    let need = c.bytes_to_write-need in
    let extent = c.index.ensures ∙ get_or_default_zero c.args.extents.now.items c.args.page c.index.result.now (omega (arith, c.requires.exists, c.requires.extents)) in
    let shape = c.args.shape.now in
    let size : length (take need.result c.fill.new.buffer) ≡ need.result = ap length c.fill.ensures ∙ length-padded need.result c.args.front.now need.ensures.front in
    let torn = subst (λ (n : ℕ). Torn (page_place shape c.args.page) n (g.D.Disk.seen c.args.image.now) (g.D.Disk.seen c.put_page.new.image)) size c.put_page.ensures.torn in
    front_put shape _ _ c.args.extents.now.items c.args.front.now c.args.page need.result c.requires.exists c.requires.extents need.ensures.front (omega (arith, need.ensures.most, c.requires.buffer))
    (λ k from below. omega (arith, need.ensures.extent k from (omega (arith, below, c.requires.buffer)), extent)) torn long zeros
    (λ some. subst (λ (bytes : List ℕ). Holds (g.D.Disk.seen c.put_page.new.image) (page_place shape c.args.page) bytes) c.fill.ensures
    (c.in_ok-put_page.ensures.written (omega (arith, some, size))))
