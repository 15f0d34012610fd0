use Rattle.std.proofs.Common.{◌≡◌, ℕ, ◌-◌, ◌%◌, ◌∙◌, List, slice_get, ap, sym, subst}
use Rattle.pk_base.specs.Shape.{page_entries}
use Rattle.pk_meta.specs.PageChecks.{IsMetaPage}
use Rattle.pk_walk.{specs.Walking.Cursor, proofs.Following.page_before, proofs.Following.before_place, proofs.Following.in_page}
use Rattle.pk_walk.proofs.cursor.Cursor.entry.Goals as goal

pub overflow_sub-start : goal.overflow_sub-start
overflow_sub-start g c =
    let here = rw (← c.self.view_is, ← c.entries.ensures.value) at c.requires.loaded in
    let far = rw (← c.entries.ensures.value) at c.self.invariant.1 in
    page_before c.self.inside.loaded c.self.inside.place c.entries.result c.self.inside.end here far

pub overflow_sub-self-inside : goal.overflow_sub-self-inside
overflow_sub-self-inside g c =
    let here = rw (← c.self.view_is, ← c.entries.ensures.value) at c.requires.loaded in
    let far = rw (← c.entries.ensures.value) at c.self.invariant.1 in
    before_place c.self.inside.loaded c.self.inside.place c.entries.result c.self.inside.end here far

pub returns : goal.returns
returns g c level index entries is =
    let here = rw (← c.self.view_is, ← c.entries.ensures.value) at c.requires.loaded in
    let far = rw (← c.entries.ensures.value) at c.self.invariant.1 in
    let size : c.entries.result ≡ page_entries c.args.self.now.shape = c.entries.ensures.value ∙ ap (λ (x : Cursor). page_entries x.shape) c.self.view_is in
    let left : c.self.inside.place - (c.self.inside.end - c.entries.result) ≡ c.args.self.now.place % page_entries c.args.self.now.shape =
    in_page c.self.inside.loaded c.self.inside.place c.entries.result c.self.inside.end here far ∙ (λ i. ap (λ (x : Cursor). x.place) c.self.view_is i % size i) in
    let of_page = subst (λ (xs : List ℕ). IsMetaPage c.args.self.now.shape xs level index entries) (sym c.bytes.ensures) is in
    let own = subst (λ (x : Cursor). IsMetaPage x.shape c.bytes.result.now level index entries) (sym c.self.view_is) of_page in
    ap (slice_get entries) (sym left) ∙ c.entry_at.ensures level index entries own
