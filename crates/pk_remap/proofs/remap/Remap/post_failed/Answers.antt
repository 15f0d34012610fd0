use Rattle.std.{proofs.Common.◌≡◌, proofs.Common.length, proofs.Common.sym, proofs.Common.subst, proofs.Common.◌∙◌, proofs.Common.ℕ, proofs.Common.take, proofs.lemmas.List.length-take-le}
use Rattle.pk_remap.{specs.Logged.HasLogRoom, proofs.LogLemmas.room_fewer}
use Rattle.pk_remap.proofs.remap.Remap.post_failed.Goals as goal

pub note_post-requires : goal.note_post-requires
note_post-requires g c =
    let P : ℕ → Type 0 = λ n. HasLogRoom c.args.self.now.log n in
    let size : length (take c.args.given c.args.bytes.now) ≡ c.args.given = length-take-le c.args.given c.args.bytes.now c.requires.within in
    subst P (sym size) (room_fewer c.args.self.now.log c.args.given (length c.args.bytes.now) c.requires.within c.requires.room)

pub invariant_of-self : goal.invariant_of-self
invariant_of-self g c =
    let self = c.args.self.now in
    record {
      holds = self.holds;
      logs = record {
        unfit = λ e. c.note_post.ensures.page ∙ self.logs.unfit e;
        sized = λ e. c.note_post.ensures.page ∙ self.logs.sized e;
      };
    }
