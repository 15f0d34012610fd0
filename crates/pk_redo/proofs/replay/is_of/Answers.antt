use Rattle.std.proofs.Common.{◌≡◌, ◌∙◌, ℕ, List, true, false, sym, subst, slice_index}
use Rattle.pk_redo.specs.Log.{len_at}
use Rattle.pk_redo.specs.Record.{RecordFits, said}
use Rattle.pk_redo.proofs.Found.{first_there, first_recorded, part_of_log}
use Rattle.pk_redo.proofs.replay.is_of.Goals as goal

pub returns-clause-yes : goal.returns-clause-yes
returns-clause-yes c is_true batches marks holds set =
    let shape = c.args.shape.now in
    let log = c.args.log.now in
    let (some, len) = c.in-Some.ensures in
    let fits = (c.is_record_of.ensures marks set).0 is_true in
    let own = subst (λ (bytes : List ℕ). RecordFits shape bytes c.args.header.now (λ k. said (slice_index c.args.states.now k)) marks)
    (part_of_log log 25 c.in-Some.len (len_at log 16) len) fits in
    first_there shape log c.args.header.now c.args.states.now marks batches some own holds

pub returns-clause-no : goal.returns-clause-no
returns-clause-no c is_false batches marks holds set recorded =
    let shape = c.args.shape.now in
    let log = c.args.log.now in
    let (some, len) = c.in-Some.ensures in
    let fits = first_recorded shape log c.args.header.now c.args.states.now marks batches (c.is_open.ensures.0 c.if-not-is_open.false) some holds recorded in
    let own = subst (λ (bytes : List ℕ). RecordFits shape bytes c.args.header.now (λ k. said (slice_index c.args.states.now k)) marks)
    (sym (part_of_log log 25 c.in-Some.len (len_at log 16) len)) fits in
    let clash : false ≡ true = sym is_false ∙ (c.is_record_of.ensures marks set).1 own in
    cc
