use Rattle.std.proofs.Common.{◌≡◌, ◌∙◌, ℕ, List, sym, ap}
use Rattle.std.proofs.lemmas.Result.{on_ok_weaker}
use Rattle.pk_base.{specs.Shape.Shape, specs.Fields.padded, specs.Page.page_at, specs.Page.whole}
use Rattle.pk_redo.proofs.Writes.{torn_none}
use Rattle.pk_redo.proofs.checkpoints.put_bytes.Goals as goal

pub returns-in-Whole-clause-own : goal.returns-in-Whole-clause-own
returns-in-Whole-clause-own g c =
    on_ok_weaker c.put_front.result (λ put long zeros own is.
    put long zeros ∙ sym (c.front.ensures.page own is ∙ ap (λ (s : Shape). padded s.page_bytes c.front.result.now) c.requires.shape)) c.put_front.ensures.own
