use Rattle.std.{proofs.Common.sym, proofs.Common.subst, specs.Prelude.IfOk, specs.Prelude.OnOk, specs.Prelude.OnErr}
use Rattle.pk_level.specs.Levels.{IsLevels, reads_through}
use Rattle.pk_parts.{specs.Parts.Parts, specs.Parts.most_looks, specs.Quiet.Looks, specs.Quiet.ReadsOnly, specs.Quiet.ReadsFailing, proofs.Unchanging.looked_reads, proofs.Unchanging.looked_failing}
use Rattle.pk_parts.{proofs.Sights.begin_of, proofs.Searching.looks_in_buffers, proofs.Searching.looks_in_runs, proofs.Searching.named_ok, proofs.Searching.named_err}
use Rattle.pk_parts.{proofs.Holding.looks_counted, proofs.Holding.looks_few}
use Rattle.pk_parts.proofs.parts.Parts.look.Goals as goal

-- ---- the buffers have an entry

pub returns-in-Some-clause-looks : goal.returns-in-Some-clause-looks
returns-in-Some-clause-looks g c =
    let flash = (g.B.Nand.state c.args.board.now).pages in
    let parts : Parts = begin_of c.self.view_is in
    let found = c.in-Some.ensures {u = tt} in
    subst (λ (d : Parts). Looks d flash c.args.key.now c.place_in.result) c.self.view_is
    (subst (λ p. Looks parts flash c.args.key.now p) (sym c.place_in.ensures) (looks_in_buffers parts flash c.args.key.now c.in-Some.entry found.0 found.1))

pub returns-in-Some-clause-few : goal.returns-in-Some-clause-few
returns-in-Some-clause-few g c = looks_few c.args.self.now (subst (λ (d : Parts). IsLevels d.levels) c.self.view_is c.known.ensures.levels)

-- ---- they have none

pub returns-in-None-clause-looks : goal.returns-in-None-clause-looks
returns-in-None-clause-looks g c =
    let flash = (g.B.Nand.state c.args.board.now).pages in
    let parts : Parts = begin_of c.self.view_is in
    let T : Parts → Type 0 = λ d. IfOk c.place_found.result (λ p. Looks d flash c.args.key.now p) in
    subst T c.self.view_is (subst (λ r. IfOk r (λ p. Looks parts flash c.args.key.now p))
    (sym c.place_found.ensures) (looks_in_runs parts flash c.args.key.now c.lookup.result (c.in-None.ensures {u = tt}) c.lookup.ensures.found))

pub returns-in-None-clause-reads : goal.returns-in-None-clause-reads
returns-in-None-clause-reads g c =
    let levels = subst (λ (d : Parts). IsLevels d.levels) c.self.view_is c.known.ensures.levels in
    let few = looks_counted c.args.self.now levels in
    subst (λ r. OnOk r (ReadsOnly (g.B.Nand.state c.args.board.now) (g.B.Nand.state c.lookup.new.board) (most_looks c.args.self.now))) (sym c.place_found.ensures)
    (named_ok _ c.lookup.result
    (looked_reads c.lookup.result _ _ (reads_through c.args.self.now.levels.runs) (most_looks c.args.self.now) c.requires.count few (rw (← c.self.view_is) c.lookup.ensures.reads)))

pub returns-in-None-clause-failing : goal.returns-in-None-clause-failing
returns-in-None-clause-failing g c =
    let levels = subst (λ (d : Parts). IsLevels d.levels) c.self.view_is c.known.ensures.levels in
    let few = looks_counted c.args.self.now levels in
    subst (λ r. OnErr r (ReadsFailing (g.B.Nand.state c.args.board.now) (g.B.Nand.state c.lookup.new.board) (most_looks c.args.self.now))) (sym c.place_found.ensures)
    (named_err _ c.lookup.result
    (looked_failing c.lookup.result _ _ (reads_through c.args.self.now.levels.runs) (most_looks c.args.self.now) c.requires.count few (rw (← c.self.view_is) c.lookup.ensures.err)))

pub returns-in-None-clause-few : goal.returns-in-None-clause-few
returns-in-None-clause-few g c = looks_few c.args.self.now (subst (λ (d : Parts). IsLevels d.levels) c.self.view_is c.known.ensures.levels)
