-- The pages that the reading of a run reads are those that hold its entries.
use Rattle.std.proofs.Common.{◌≡◌, ℕ, zero, suc, ◌+◌, ◌^◌, ◌<◌, ◌≤◌, true, List, [], ◌∷◌, length, map, get_or, refl, sym, ap, subst, ◌∙◌, arith, Some, None}
use Rattle.std.specs.Prelude.{nat_le, ◌&&◌, if◌then◌else◌, bytes_eq, Result, Ok, Err, IfOk}
use Rattle.std.{specs.List.AllByRecursion, specs.List.list_all, specs.Ordering.is_lt, specs.FinMap.Entries.is_sorted, specs.FinMap.Entries.below_all, proofs.lemmas.Bool.Decides.nat_tests}
use Rattle.std.proofs.lemmas.Slice.Eq.{bytes_eq-Decides}
use Rattle.pk_base.{specs.Key.Key, specs.Key.key_cmp, specs.Key.IsBelow, specs.Key.IsRising, specs.Shape.Shape, specs.Shape.IsShape, specs.Shape.page_entries, specs.Entry.Entry, specs.Entry.key_of}
use Rattle.pk_base.{specs.EntryBytes.is_entry, specs.EntryBytes.are_entries, specs.EntryBytes.entries_from, specs.EntryChecks.IsEntry, proofs.Logic.both_true, proofs.Logic.lt_less}
use Rattle.pk_base.proofs.Sound.{if_some, are_sound, entry_true, least_true}
use Rattle.pk_meta.{specs.declared.MetaHead.MetaHead, specs.declared.BadMeta.BadMeta, specs.Page.meta_bytes, specs.Page.meta_entries, specs.PageChecks.IsContent, specs.PageChecks.IsMetaPage}
use Rattle.pk_meta.proofs.PageLemmas.{meta_again, Exact, found, only}

-- ---- rising keys

below_sound : (key : Key) (es : List Entry) → below_all key_cmp key es ≡ true → AllByRecursion (IsBelow key) (map key_of es)
below_sound key [] e = tt
below_sound key (x ∷ es) e = let h = both_true (is_lt (key_cmp key (key_of x))) (below_all key_cmp key es) e in (lt_less _ h.0, below_sound key es h.1)

sorted_sound : (es : List Entry) → is_sorted key_cmp es ≡ true → IsRising (map key_of es)
sorted_sound [] e = tt
sorted_sound (x ∷ es) e = let h = both_true (below_all key_cmp (key_of x) es) (is_sorted key_cmp es) e in (below_sound (key_of x) es h.0, sorted_sound es h.1)

below_true : (key : Key) (es : List Entry) → AllByRecursion (IsBelow key) (map key_of es) → below_all key_cmp key es ≡ true
below_true key [] h = refl
below_true key (x ∷ es) h = rw (ap is_lt h.0, below_true key es h.1) refl

pub sorted_true : (es : List Entry) → IsRising (map key_of es) → is_sorted key_cmp es ≡ true
sorted_true [] h = refl
sorted_true (x ∷ es) h = rw (below_true (key_of x) es h.0, sorted_true es h.1) refl

-- ---- entries pass their tests

all_entries : (g : Shape) (es : List Entry) → AllByRecursion (IsEntry g) es → list_all (is_entry g) es ≡ true
all_entries g [] h = refl
all_entries g (e ∷ es) h = rw (entry_true g e h.0, all_entries g es h.1) refl

are_true : (g : Shape) (es : List Entry) → 1 ≤ length es → length es ≤ page_entries g → AllByRecursion (IsEntry g) es → are_entries g es ≡ true
are_true g es some most each = rw (least_true 1 (length es) some, least_true (length es) (page_entries g) most, all_entries g es each) refl

-- ---- the laws

pub meta_entries_again : (g : Shape) (level index : ℕ) (es : List Entry) → IsShape g → IsContent g level index es → meta_entries g level index (length es) (meta_bytes g level index es) ≡ Some es
unfolding meta_entries
meta_entries_again g level index es shape content =
    let page : List ℕ = meta_bytes g level index es in
    let own = meta_again g page level index es shape (record { content = content; bytes = refl }) in
    let test : (are_entries g es && is_sorted key_cmp es && bytes_eq page page) ≡ true =
    rw (are_true g es content.some content.most content.each, sorted_true es content.rising, (bytes_eq-Decides page page).1 refl) refl in
    ap (λ (x : List Entry). if are_entries g x && is_sorted key_cmp x && bytes_eq page (meta_bytes g level index x) then Some x else None) own.entries_are ∙ rw test refl

many_from : (at n : ℕ) (page : List ℕ) → length (entries_from at n page) ≡ n
many_from at zero page = refl
many_from at (suc n) page = ap suc (many_from (at + 32) n page)

pub meta_held : (g : Shape) (level index count : ℕ) (page : List ℕ) (es : List Entry) → 1 ≤ level → level ≤ 4 → index < 2 ^ 32 → meta_entries g level index count page ≡ Some es
    → IsMetaPage g page level index es × (length es ≡ count)
unfolding meta_entries
meta_held g level index count page es least most fits e =
    let read : List Entry = entries_from 32 count page in
    let some = if_some (are_entries g read && is_sorted key_cmp read && bytes_eq page (meta_bytes g level index read)) read es e in
    let last = both_true (are_entries g read && is_sorted key_cmp read) (bytes_eq page (meta_bytes g level index read)) some.0 in
    let first = both_true (are_entries g read) (is_sorted key_cmp read) last.0 in
    let stand = are_sound g read first.0 in
    subst (λ (x : List Entry). IsMetaPage g page level index x × (length x ≡ count)) some.1 (
      record {
        content = record { level_least = least; level_most = most; index_fits = fits; some = stand.some; most = stand.most; each = stand.each; rising = sorted_sound read first.1 };
        bytes = (bytes_eq-Decides page (meta_bytes g level index read)).0 last.1;
      },
      many_from 32 count page,
    )

pub reads : (g : Shape) (page : List ℕ) (r : Result MetaHead BadMeta) → ((i : ℕ) → get_or page i 0 < 256) → length page ≡ g.page_bytes → IsShape g → Exact g page r
    → IfOk r (λ h. (entries : List Entry) × (meta_entries g h.level h.index h.count page ≡ Some entries) × (length entries ≡ h.count))
reads g page (Ok h) fits sized shape e =
    let own = found g page (Ok h) fits sized shape e in (
      own.0,
      ap (λ (n : ℕ). meta_entries g h.level h.index n page) (sym own.2) ∙ ap (λ (x : List ℕ). meta_entries g h.level h.index (length own.0) x) own.1.bytes
          ∙ meta_entries_again g h.level h.index own.0 shape own.1.content,
      own.2,
    )
reads g page (Err bad) fits sized shape e = tt

pub read_only : (g : Shape) (page : List ℕ) (r : Result MetaHead BadMeta) → IsShape g → Exact g page r → (level index count : ℕ) (entries : List Entry) → 1 ≤ level → level ≤ 4 → index < 2 ^ 32
    → meta_entries g level index count page ≡ Some entries → r ≡ Ok (record { level = level; index = index; count = count })
read_only g page r shape exact level index count entries least most fits e =
    let held = meta_held g level index count page entries least most fits e in
    only g page r shape exact level index entries held.0 ∙ ap (λ (n : ℕ). Ok (record { level = level; index = index; count = n })) held.1
