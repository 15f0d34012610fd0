use Rattle.std.proofs.Common.{ℕ, List, length, sym, ap, subst, ◌∙◌}
use Rattle.pk_base.specs.EntryBytes.{entries_from}
use Rattle.pk_meta.specs.Cells.{HasCells}
use Rattle.pk_merge.{specs.Gathering.HasGathered, proofs.Filling.many_from, proofs.Filling.filled, proofs.Filling.whole_written}
use Rattle.pk_merge.proofs.gathered.Gathered.complete.Goals as goal

pub invariant_of-self : goal.invariant_of-self
invariant_of-self g c =
    let items : List ℕ = c.self.inside.page.items in
    let made = c.complete.ensures.bytes (entries_from 32 c.self.inside.count items) (many_from 32 c.self.inside.count items)
    (subst (λ (page : List ℕ). HasCells (entries_from 32 c.self.inside.count items) page) (sym c.deref_mut.ensures.value) c.self.invariant.cells) in
    let long = c.complete.ensures.len ∙ c.deref_mut.ensures.len in
    subst (λ (page : List ℕ). HasGathered c.self.inside.shape c.self.inside.count page)
    (sym (whole_written c.self.inside.page.len c.complete.new.into c.self.inside.page.items long))
    (filled c.self.inside.shape c.known.ensures c.self.inside.count c.self.inside.page.items c.self.invariant c.args.level c.args.index c.complete.new.into
    (c.complete.ensures.len ∙ ap length c.deref_mut.ensures.value) made).1

pub returns-clause-page : goal.returns-clause-page
returns-clause-page g c =
    let items : List ℕ = c.self.inside.page.items in
    let made = c.complete.ensures.bytes (entries_from 32 c.self.inside.count items) (many_from 32 c.self.inside.count items)
    (subst (λ (page : List ℕ). HasCells (entries_from 32 c.self.inside.count items) page) (sym c.deref_mut.ensures.value) c.self.invariant.cells) in
    let long = c.complete.ensures.len ∙ c.deref_mut.ensures.len in
    rw (← c.self.view_is)
    (whole_written c.self.inside.page.len c.complete.new.into c.self.inside.page.items long ∙ made)

pub returns-clause-entries : goal.returns-clause-entries
returns-clause-entries g c =
    let items : List ℕ = c.self.inside.page.items in
    let made = c.complete.ensures.bytes (entries_from 32 c.self.inside.count items) (many_from 32 c.self.inside.count items)
    (subst (λ (page : List ℕ). HasCells (entries_from 32 c.self.inside.count items) page) (sym c.deref_mut.ensures.value) c.self.invariant.cells) in
    let long = c.complete.ensures.len ∙ c.deref_mut.ensures.len in
    rw (← c.self.view_is)
    (ap (λ (page : List ℕ). entries_from 32 c.self.inside.count page) (whole_written c.self.inside.page.len c.complete.new.into c.self.inside.page.items long)
    ∙ (filled c.self.inside.shape c.known.ensures c.self.inside.count c.self.inside.page.items c.self.invariant c.args.level c.args.index c.complete.new.into
    (c.complete.ensures.len ∙ ap length c.deref_mut.ensures.value) made).0)
