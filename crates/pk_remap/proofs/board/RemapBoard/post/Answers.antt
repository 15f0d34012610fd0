use Rattle.std.proofs.Common.{inl, inr, ℕ, refl, sym, subst, ◌∙◌}
use Rattle.pk_nand.{specs.BoardState.BoardState, specs.Operations.PostFailed, specs.Operations.SentFront, specs.Calls.Rose}
use Rattle.pk_remap.{specs.Logged.told, specs.Remapped.remap_board}
use Rattle.pk_remap.proofs.Hosting.{posted_all, sent_some, post_failed_board, sent_none, post_refused, post_rest, holds_host}
use Rattle.pk_remap.proofs.board.RemapBoard.post.Goals as goal

pub note_post-requires : goal.note_post-requires
note_post-requires g c = c.has_room.ensures.yes c.if-has_room.true

pub post_failed-requires-clause-within : goal.post_failed-requires-clause-within
post_failed-requires-clause-within g c = c.in-Err.ensures.given.within

pub post_failed-requires-clause-room : goal.post_failed-requires-clause-room
post_failed-requires-clause-room g c = c.has_room.ensures.yes c.if-has_room.true

pub invariant_of-self : goal.invariant_of-self
invariant_of-self g c =
    let self = c.args.self.now in
    let old : BoardState = g.B.Nand.state self.inner in
    let new : BoardState = g.B.Nand.state c.post.new.self in
    let rest = post_rest old new c.args.bytes.now c.post.result c.post.ensures.ok c.post.ensures.err in
    record {
      holds = holds_host self.image self.work old new rest.shape rest.pages rest.bare self.holds;
      logs = record {
        unfit = λ e. c.note_post.ensures.page ∙ self.logs.unfit e;
        sized = λ e. c.note_post.ensures.page ∙ self.logs.sized e;
      };
    }

pub invariant_of-self-in-Err-1 : goal.invariant_of-self-in-Err-1
invariant_of-self-in-Err-1 g c =
    let self = c.args.self.now in
    let old : BoardState = g.B.Nand.state self.inner in
    let new : BoardState = g.B.Nand.state c.post.new.self in
    let rest = post_rest old new c.args.bytes.now c.post.result c.post.ensures.ok c.post.ensures.err in
    record { holds = holds_host self.image self.work old new rest.shape rest.pages rest.bare self.holds; logs = self.logs }

pub returns-in-Ok-clause-ok : goal.returns-in-Ok-clause-ok
returns-in-Ok-clause-ok g c =
    let self = c.args.self.now in
    posted_all self.image self.work self.log self.counts (g.B.Nand.state self.inner) c.args.bytes.now c.note_post.new.self (g.B.Nand.state c.post.new.self)
    c.in-Ok.ensures.ok c.note_post.ensures.told

pub returns-in-Ok-clause-fits : goal.returns-in-Ok-clause-fits
returns-in-Ok-clause-fits g c = c.has_room.ensures.yes c.if-has_room.true

pub returns-in-Err : goal.returns-in-Err
returns-in-Err g c =
    let self = c.args.self.now in
    let old : BoardState = g.B.Nand.state self.inner in
    let new : BoardState = g.B.Nand.state c.post.new.self in
    let there = c.post_failed.new.self in
    let e = c.post_failed.ensures in
    let given = c.in-Err.ensures.given in
    let bytes = c.args.bytes.now in
    let P : BoardState → Type 0 = λ s. PostFailed (remap_board self.image self.work self.log self.counts old) s bytes in
    let Q : BoardState → Type 0 = λ s. SentFront bytes c.in-Err.fault.given old.posted s.posted (told self.log) (told there.log) in
    let R : BoardState → Type 0 = λ s. Rose old.out_faults s.out_faults in
    let W : BoardState → Type 0 = λ s. PostFailed old s bytes in
    record {
      ok = tt;
      err = subst P (λ i. remap_board (sym e.image i) (sym e.work i) there.log (sym e.counts i) (g.B.Nand.state (sym e.inner i)))
          (post_failed_board self.image self.work self.log self.counts old bytes c.in-Err.fault.given there.log new c.in-Err.ensures.err given e.told);
      given = subst Q (λ i. g.B.Nand.state (sym e.inner i)) (sent_some self.image self.work self.log self.counts old bytes c.in-Err.fault.given there.log new given e.told);
      fits = tt;
      cause = inr (subst R (λ i. g.B.Nand.state (sym e.inner i)) c.in-Err.ensures.err.faults);
      inner = inr (subst W (λ i. g.B.Nand.state (sym e.inner i)) c.in-Err.ensures.err);
      image = e.image;
      work = e.work;
    }

pub returns-else-has_room : goal.returns-else-has_room
returns-else-has_room g c =
    let self = c.args.self.now in
    let old : BoardState = g.B.Nand.state self.inner in
    let P : ℕ → Type 0 = λ n. PostFailed (remap_board self.image self.work self.log self.counts old)
    (remap_board self.image self.work self.log (record self.counts { out_faults = n }) old) c.args.bytes.now in
    record {
      ok = tt;
      err = subst P (sym c.raise.ensures) (post_refused self.image self.work self.log self.counts old c.args.bytes.now);
      given = sent_none self.image self.work self.log self.counts old c.args.bytes.now;
      fits = tt;
      cause = inl (record { no_room = c.has_room.ensures.no c.if-has_room.false; same = refl });
      inner = inl (record { no_room = c.has_room.ensures.no c.if-has_room.false; same = refl });
      image = refl;
      work = refl;
    }
