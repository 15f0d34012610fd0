use Rattle.std.proofs.Common.{◌≡◌, ℕ, slice_get, None, ◌/◌, suc, ap, sym, subst, ◌∙◌}
use Rattle.pk_base.{specs.Shape.page_entries, specs.Page.page_at, specs.Page.whole}
use Rattle.pk_nand.specs.Operations.{ReadFailed}
use Rattle.pk_run.specs.Kept.{page_of}
use Rattle.pk_walk.specs.Walking.{Cursor, Reads, read_of}
use Rattle.pk_walk.proofs.Following.{page_exists, page_seen, may_load, head_here, head_all, stays_loaded, stays_failed}
use Rattle.pk_walk.proofs.cursor.Cursor.look.Goals as goal

pub load-requires-clause-may : goal.load-requires-clause-may
load-requires-clause-may g c =
    let size : c.entries-size.result ≡ page_entries c.args.run.now.shape = c.entries-size.ensures.value ∙ ap page_entries (ap (λ (x : Cursor). x.shape) c.self.view_is ∙ c.requires.shape) in
    let page : c.self.inside.place / c.entries-size.result ≡ c.args.self.now.place / page_entries c.args.run.now.shape = λ i. ap (λ (x : Cursor). x.place) c.self.view_is i / size i in
    may_load (g.B.Nand.state c.args.board.now).pages c.args.run.now c.requires.follows.0 c.requires.follows.1 c.args.self.now
    (c.self.inside.place / c.entries-size.result) c.known.ensures.shape c.known.ensures.kept c.requires.exists c.requires.follows.3 page

pub returns-in-Ok-clause-looks : goal.returns-in-Ok-clause-looks
returns-in-Ok-clause-looks g c =
    let size : c.entries-size.result ≡ page_entries c.args.run.now.shape = c.entries-size.ensures.value ∙ ap page_entries (ap (λ (x : Cursor). x.shape) c.self.view_is ∙ c.requires.shape) in
    let page : c.self.inside.place / c.entries-size.result ≡ c.args.self.now.place / page_entries c.args.run.now.shape = λ i. ap (λ (x : Cursor). x.place) c.self.view_is i / size i in
    let moved = c.in-Ok.ensures.loads.cursor ∙ ap (λ (p : ℕ). record c.args.self.now { loaded = suc p; bytes = c.load.new.self.bytes }) page in
    let own = subst (λ (p : ℕ). slice_get c.args.run.now.leases p ≡ None
    → page_at (g.B.Nand.state c.args.board.now).pages (page_of c.args.run.now p) ≡ whole c.load.new.self.bytes) page c.in-Ok.ensures.page in
    let loaded = ap (λ (x : Cursor). x.loaded) moved in
    search (page_seen c.args.run.now (g.B.Nand.state c.args.board.now).pages c.args.arena.now c.requires.follows.0 c.load.new.self (c.args.self.now.place / page_entries c.args.run.now.shape) c.requires.follows.2 (page_exists c.args.run.now c.args.self.now.place c.known.ensures.shape c.known.ensures.kept c.requires.exists) loaded own, loaded, head_here c.args.run.now c.args.self.now c.load.new.self c.known.ensures.shape c.requires.shape moved, subst (λ (n : ℕ). Reads (read_of c.args.run.now.leases c.args.self.now.loaded) (read_of c.args.run.now.leases n) (g.B.Nand.state c.args.board.now) (g.B.Nand.state c.load.new.board)) (sym (ap (λ (x : Cursor). x.loaded) c.in-Ok.ensures.loads.cursor)) c.in-Ok.ensures.loads.reads, head_all c.args.run.now c.args.self.now c.load.new.self (c.self.inside.place / c.entries-size.result) (g.B.Nand.state c.args.board.now) (g.B.Nand.state c.load.new.board) c.requires.shape page (ap (λ (x : Cursor). x.loaded) c.in-Ok.ensures.loads.cursor) c.in-Ok.ensures.loads.all)

pub returns-in-Ok-clause-stays : goal.returns-in-Ok-clause-stays
returns-in-Ok-clause-stays g c =
    let size : c.entries-size.result ≡ page_entries c.args.run.now.shape = c.entries-size.ensures.value ∙ ap page_entries (ap (λ (x : Cursor). x.shape) c.self.view_is ∙ c.requires.shape) in
    let page : c.self.inside.place / c.entries-size.result ≡ c.args.self.now.place / page_entries c.args.run.now.shape = λ i. ap (λ (x : Cursor). x.place) c.self.view_is i / size i in
    let here = subst (λ (p : ℕ). slice_get c.args.run.now.leases p ≡ None
    → page_at (g.B.Nand.state c.args.board.now).pages (page_of c.args.run.now p) ≡ whole c.load.new.self.bytes) page c.in-Ok.ensures.page in
    let moved = c.in-Ok.ensures.loads.cursor ∙ ap (λ (p : ℕ). record c.args.self.now { loaded = suc p; bytes = c.load.new.self.bytes }) page in
    let exists = page_exists c.args.run.now c.args.self.now.place c.known.ensures.shape c.known.ensures.kept c.requires.exists in
    stays_loaded (g.B.Nand.state c.args.board.now).pages c.args.run.now c.args.self.now c.load.new.self c.known.ensures.shape exists here moved

pub returns-in-Err-clause-stays : goal.returns-in-Err-clause-stays
returns-in-Err-clause-stays g c =
    let size : c.entries-size.result ≡ page_entries c.args.run.now.shape = c.entries-size.ensures.value ∙ ap page_entries (ap (λ (x : Cursor). x.shape) c.self.view_is ∙ c.requires.shape) in
    let page : c.self.inside.place / c.entries-size.result ≡ c.args.self.now.place / page_entries c.args.run.now.shape = λ i. ap (λ (x : Cursor). x.place) c.self.view_is i / size i in
    stays_failed (g.B.Nand.state c.args.board.now).pages c.args.run.now c.args.self.now c.load.new.self
    (c.self.inside.place / c.entries-size.result) c.known.ensures.shape page c.in-Err.ensures.fails.before c.in-Err.ensures.fails.cursor

pub returns-in-Err-clause-fails : goal.returns-in-Err-clause-fails
returns-in-Err-clause-fails g c =
    let size : c.entries-size.result ≡ page_entries c.args.run.now.shape = c.entries-size.ensures.value ∙ ap page_entries (ap (λ (x : Cursor). x.shape) c.self.view_is ∙ c.requires.shape) in
    let page : c.self.inside.place / c.entries-size.result ≡ c.args.self.now.place / page_entries c.args.run.now.shape = λ i. ap (λ (x : Cursor). x.place) c.self.view_is i / size i in
    search (
      ap (λ (x : Cursor). x.loaded) c.in-Err.ensures.fails.cursor,
      subst (λ (p : ℕ). ReadFailed (g.B.Nand.state c.args.board.now) (g.B.Nand.state c.load.new.board) (page_of c.args.run.now p)) page c.in-Err.ensures.fails.failed,
    )
