use Rattle.std.proofs.Common.{subst, ℕ, sym}
use Rattle.pk_nand.{specs.BoardState.BoardState, specs.Operations.FetchFailed}
use Rattle.pk_remap.{specs.Remapped.remap_board, proofs.Hosting.fetched, proofs.Hosting.fetch_failed, proofs.Hosting.fetch_rest, proofs.Hosting.holds_host}
use Rattle.pk_remap.proofs.board.RemapBoard.fetch.Goals as goal

pub invariant_of-self : goal.invariant_of-self
invariant_of-self g c =
    let self = c.args.self.now in
    let old : BoardState = g.B.Nand.state self.inner in
    let new : BoardState = g.B.Nand.state c.fetch.new.self in
    let rest = fetch_rest old new _ c.fetch.result c.fetch.ensures.ok c.fetch.ensures.err in
    record { holds = holds_host self.image self.work old new rest.shape rest.pages rest.bare self.holds; logs = self.logs }

pub invariant_of-self-in-Err : goal.invariant_of-self-in-Err
invariant_of-self-in-Err g c =
    let self = c.args.self.now in
    let old : BoardState = g.B.Nand.state self.inner in
    let new : BoardState = g.B.Nand.state c.fetch.new.self in
    let rest = fetch_rest old new _ c.fetch.result c.fetch.ensures.ok c.fetch.ensures.err in
    record { holds = holds_host self.image self.work old new rest.shape rest.pages rest.bare self.holds; logs = self.logs }

pub returns-in-Ok-clause-ok : goal.returns-in-Ok-clause-ok
returns-in-Ok-clause-ok g c =
    let self = c.args.self.now in
    fetched self.image self.work self.log self.counts (g.B.Nand.state self.inner) _ _ (g.B.Nand.state c.fetch.new.self) c.in-Ok.ensures.ok

pub returns-in-Err-clause-err : goal.returns-in-Err-clause-err
returns-in-Err-clause-err g c =
    let self = c.args.self.now in
    let old : BoardState = g.B.Nand.state self.inner in
    let new : BoardState = g.B.Nand.state c.fetch.new.self in
    let P : ℕ → Type 0 = λ n. FetchFailed (remap_board self.image self.work self.log self.counts old) (remap_board self.image self.work self.log (record self.counts { in_faults = n }) new) in
    subst P (sym c.raise.ensures) (fetch_failed self.image self.work self.log self.counts old new c.in-Err.ensures.err)

pub returns-in-Err-clause-cause : goal.returns-in-Err-clause-cause
returns-in-Err-clause-cause g c = c.in-Err.ensures.err.faults
