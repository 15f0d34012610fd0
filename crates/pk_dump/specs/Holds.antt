-- What a page holds at its place in an epoch or a run, as the reading of a flash has it.
use Rattle.std.specs.Prelude.{◌≡◌, ℕ, List, length, Option, Some, None}
use Rattle.pk_base.{specs.Shape.Shape, specs.Entry.Entry, specs.Page.Page, specs.Page.erased, specs.Page.whole, specs.Page.torn}
use Rattle.pk_jrnfmt.specs.Page.{journal_entries}
use Rattle.pk_meta.specs.Page.{meta_entries}
use Rattle.pk_dump.{specs.declared.held.Held.Held, specs.declared.run.Wanted.Wanted}
use Rattle.pk_dump.specs.declared.held.Held.TheVariants.{Erased, Torn, Wrong, Entries}

-- The page is printed as what it is, by the entries that are read of its bytes if it is whole.
abbrev pub PagePrinted : (List ℕ → Option (List Entry)) → Page → Held → Type 0
PagePrinted entries page Erased = page ≡ erased
PagePrinted entries page Torn = page ≡ torn
PagePrinted entries page Wrong = (bytes : List ℕ) × (page ≡ whole bytes) × (entries bytes ≡ None)
PagePrinted entries page (Entries count) = (bytes : List ℕ) × (es : List Entry) × (page ≡ whole bytes) × (entries bytes ≡ Some es) × (length es ≡ count)

-- what it is as the commit of this index in the epoch of this number
abbrev pub HoldsCommit : Shape → ℕ → ℕ → Page → Held → Type 0
HoldsCommit shape number index page held = PagePrinted (journal_entries shape number index) page held

-- what it is as this page of a run
abbrev pub HoldsRunPage : Shape → Wanted → Page → Held → Type 0
HoldsRunPage shape wanted page held = PagePrinted (meta_entries shape wanted.level wanted.index wanted.count) page held
