use Rattle.pk_base.specs.Mark.{program}
use Rattle.pk_nand.specs.BoardState.{BoardState}
use Rattle.pk_remap.{proofs.Outer.kept_outcome, proofs.Outer.read_stopped, proofs.Outer.kept_counted, proofs.Outer.partner_failed, proofs.Counting.outer_after}
use Rattle.pk_remap.proofs.Bounding.{moved_partner, partner_lost}
use Rattle.pk_remap.proofs.relocation.Relocation.program_outer.Goals as goal

pub returns-in-Ok : goal.returns-in-Ok
returns-in-Ok g c =
    let r = c.args.self.now in
    let board : BoardState = g.N.Nand.state c.args.inner.now in
    let mid : BoardState = g.N.Nand.state c.keep_partner.new.inner in
    let own = c.program_with_partner in
    let new : BoardState = g.N.Nand.state own.new.inner in
    let first = kept_counted r c.args.page board c.keep_partner.new.self mid c.in-Ok.ensures in
    record {
      outcome = kept_outcome r c.args.page board c.keep_partner.new.self mid c.in-Ok.ensures
          c.requires.rests (program c.args.page c.args.bytes.now) own.result own.new.self new own.ensures.outcome;
      counts = outer_after r c.keep_partner.new.self own.new.self board mid new own.result first.0 first.1 first.2 own.ensures.counts;
      calls = moved_partner r c.args.page board c.keep_partner.new.self mid c.in-Ok.ensures new own.ensures.calls;
    }

pub returns-in-Err : goal.returns-in-Err
returns-in-Err g c =
    let r = c.args.self.now in
    let board : BoardState = g.N.Nand.state c.args.inner.now in
    let mid : BoardState = g.N.Nand.state c.keep_partner.new.inner in
    let failed = c.in-Err.ensures in
    record {
      outcome = read_stopped r board c.requires.rests (program c.args.page c.args.bytes.now) _ _ c.keep_partner.new.self mid failed.0 failed.1;
      counts = partner_failed r board c.requires.rests _ c.keep_partner.new.self mid failed.0 failed.2;
      calls = partner_lost r c.args.page board c.keep_partner.new.self mid _ failed.0;
    }
