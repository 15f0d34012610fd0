use Rattle.std.proofs.Common.{List, ℕ, ap, subst, ◌∙◌}
use Rattle.pk_nand.{specs.BoardState.BoardState, specs.Operations.after_post, specs.Operations.PostFailed}
use Rattle.pk_port.specs.Steps.{Mounted, mount}
use Rattle.pk_wordrun.{proofs.Piecing.piece_asked, proofs.Posting.fits-posted}
use Rattle.pk_wordrun.proofs.keys.tell_piece.Goals as goal

pub returns-in-Ok-say-clause-fits : goal.returns-in-Ok-say-clause-fits
returns-in-Ok-say-clause-fits g c =
    fits-posted (g.D.Engine.agrees c.ask_keys.new.drive) c.args.shape (g.B.Nand.state c.ask_keys.new.board) _
    (g.D.Engine.sight c.ask_keys.new.drive) (g.B.Nand.state c.say.new.board) c.in-Ok-say.ensures.posts c.in-Ok.ensures.fits

pub returns-in-Ok-say-clause-terms : goal.returns-in-Ok-say-clause-terms
returns-in-Ok-say-clause-terms g c =
    ap (λ (b : BoardState). (mount b (g.D.Engine.sight c.ask_keys.new.drive)).terms) c.in-Ok-say.ensures.posts ∙ ap (λ (m : Mounted). m.terms) c.in-Ok.ensures.turns.1.new_is

pub returns-in-Ok-say-clause-told : goal.returns-in-Ok-say-clause-told
returns-in-Ok-say-clause-told g c =
    let b = g.B.Nand.state c.ask_keys.new.board in
    let t = c.in-Ok.ensures.turns in
    record {
      asked = b;
      text = c.ask_keys.new.words.text;
      is = piece_asked c.args.shape (mount (g.B.Nand.state c.args.board.now) (g.D.Engine.sight c.args.drive.now)) (mount b (g.D.Engine.sight c.ask_keys.new.drive)) c.args.place t.0 t.1
          c.in-Ok.next c.ask_keys.new.words.text c.in-Ok.ensures.piece;
      posted = c.in-Ok-say.ensures.posts ∙ ap (λ (t : List ℕ). after_post b t) c.text.ensures;
    }

pub returns-in-Err-say-clause-ends : goal.returns-in-Err-say-clause-ends
returns-in-Err-say-clause-ends g c =
    let b = g.B.Nand.state c.ask_keys.new.board in
    let t = c.in-Ok.ensures.turns in
    let T : List ℕ → Type 0 = λ t. PostFailed b (g.B.Nand.state c.say.new.board) t in
    record {
      asked = b;
      text = c.ask_keys.new.words.text;
      next = c.in-Ok.next;
      is = piece_asked c.args.shape (mount (g.B.Nand.state c.args.board.now) (g.D.Engine.sight c.args.drive.now)) (mount b (g.D.Engine.sight c.ask_keys.new.drive)) c.args.place t.0 t.1
          c.in-Ok.next c.ask_keys.new.words.text c.in-Ok.ensures.piece;
      failed = subst T c.text.ensures c.in-Err-say.ensures.fails;
    }
