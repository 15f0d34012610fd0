-- The reading of a run, page by page: it goes on after a page whose entries follow those before, and refuses with any other.
use Rattle.std.proofs.Common.{◌≡◌, ℕ, zero, suc, ◌*◌, ◌<◌, ◌≤◌, min, Bool, true, false, not, ◌||◌, ◌==◌, List, [], ◌∷◌, ◌++◌, length, refl, ap, sym, ◌∙◌, arith, Option, Some, None, option_map, Err}
use Rattle.std.proofs.Common.{is_some, append_assoc, suc-mul, mul-le-mul_right, lt_of_mul-lt-mul_right}
use Rattle.std.{specs.Prelude.slice_get, specs.Int.div_ceil, specs.FinMap.Entries.is_sorted, proofs.lemmas.Grind.div_ceil_times, specs.List.list_all}
use Rattle.pk_base.{specs.Key.Key, specs.Key.key_cmp, specs.Shape.Shape, specs.Entry.Entry, specs.Entry.key_of, specs.Refusal.damaged, proofs.Logic.of_true}
use Rattle.pk_base.specs.Page.{Page, erased, whole, torn, NumberedPages}
use Rattle.pk_meta.{specs.Page.meta_entries, specs.Run.meta, specs.Run.may_hold}
use Rattle.pk_run.proofs.Pieces.{share}
use Rattle.pk_scan.specs.Runs.{IsLast, RunGoesOn}

-- no entries of the page follow those before: it refuses
pub meta_refused : (shape : Shape) (spaces level count index : ℕ) (before : List Entry) (p : ℕ) (page : Page) (pages : NumberedPages)
    → ((bytes : List ℕ) (more : List Entry) → page ≡ whole bytes → RunGoesOn shape spaces level index (share shape count index) before bytes more → ⊥)
    → meta shape spaces level count index before ((p, page) ∷ pages) ≡ Err (damaged p)
meta_refused shape spaces level count index before p erased pages none = refl
meta_refused shape spaces level count index before p torn pages none = refl
meta_refused shape spaces level count index before p (whole bytes) pages none = by_entries (meta_entries shape level index (share shape count index) bytes) refl
  where
    by_tests : (more : List Entry) → meta_entries shape level index (share shape count index) bytes ≡ Some more
        → (a : Bool) → is_sorted key_cmp (before ++ more) ≡ a → (b : Bool) → may_hold spaces level more ≡ b
        → meta shape spaces level count index before ((p, whole bytes) ∷ pages) ≡ Err (damaged p)
    by_tests more holds true rising true deep = absurd (none bytes more refl (record { holds = holds; rising = of_true _ rising; stands = of_true _ deep }))
    by_tests more holds true rising false deep = rw (holds, rising, deep) refl
    by_tests more holds false rising b deep = rw (holds, rising) refl

    by_entries : (o : Option (List Entry)) → meta_entries shape level index (share shape count index) bytes ≡ o → meta shape spaces level count index before ((p, whole bytes) ∷ pages) ≡ Err (damaged p)
    by_entries None holds = rw holds refl
    by_entries (Some more) holds = by_tests more holds (is_sorted key_cmp (before ++ more)) refl (may_hold spaces level more) refl

-- ---- the last entry

split_last : (more : List Entry) (n : ℕ) → length more ≡ suc n → (front : List Entry) × (e : Entry) × (more ≡ front ++ e ∷ []) × (slice_get more n ≡ Some e)
split_last [] n many = absurd (omega (arith, many))
split_last (x ∷ []) zero many = ([], x, refl, refl)
split_last (x ∷ y ∷ more) zero many = absurd (omega (arith, many))
split_last (x ∷ more) (suc n) many =
    let rest = split_last more n (omega (arith, many)) in
    (x ∷ rest.0, rest.1, ap (λ (xs : List Entry). x ∷ xs) rest.2, rest.3)

pub last_of : (es more : List Entry) (n : ℕ) (last : Key) → length more ≡ suc n → option_map key_of (slice_get more n) ≡ Some last → IsLast (Some last) (es ++ more)
last_of es more n last many ends =
    let split = split_last more n many in
    let key : Some (key_of split.1) ≡ Some last = sym (ap (option_map key_of) split.3) ∙ ends in
    (es ++ split.0, split.1, ap (λ (xs : List Entry). es ++ xs) split.2 ∙ sym (append_assoc es split.0 (split.1 ∷ [])), same_key (key_of split.1) last key)
  where
    same_key : (a b : Key) → Some a ≡ Some b → a ≡ b
    same_key a b e = cc

-- ---- numbers

-- n entries have no more pages than n full ones
pub pages_most : (count size most : ℕ) → 0 < size → count ≤ most * size → div_ceil count size ≤ most
pages_most count size most some few =
    let q : ℕ = div_ceil count size in
    let bounds = div_ceil_times count size some in
    let low : q * size < suc most * size = omega (arith, bounds.1, suc-mul most size) in
    let less : q < suc most = lt_of_mul-lt-mul_right size low in
    omega (arith, less)

-- and fewer pages are in no more blocks
pub blocks_most : (pages most size : ℕ) → 0 < size → pages ≤ most → div_ceil pages size ≤ div_ceil most size
blocks_most pages most size some few = pages_most pages size (div_ceil most size) some (let all = (div_ceil_times most size some).0 in omega (arith, few, all))

-- after n full pages there are more entries
pub more_left : (count size i : ℕ) → 0 < size → i < div_ceil count size → i * size < count
more_left count size i some less =
    let bounds = div_ceil_times count size some in
    let up : suc i * size ≤ div_ceil count size * size = mul-le-mul_right size less in
    omega (arith, suc-mul i size, up, bounds.1)

pub all_counted : (count size : ℕ) → 0 < size → min count (div_ceil count size * size) ≡ count
all_counted count size some = let all = (div_ceil_times count size some).0 in omega (arith, all)
