-- One page of a run, by what is found in it.
use Rattle.std.proofs.Common.{◌≡◌, ℕ, ◌+◌, ◌<◌, ◌≤◌, ◌^◌, Bool, true, false, T, List, [], ◌∷◌, ◌++◌, length, take, get_or, refl, ap, sym, subst, ◌∙◌, Option, Some, None, option_map}
use Rattle.std.proofs.Common.{Result, Ok, Err}
use Rattle.std.{proofs.lemmas.Bool.and_from, proofs.lemmas.List.Folds.list_all_more, proofs.lemmas.List.Folds.list_all_at, proofs.lemmas.Option.slice_get_within, proofs.lemmas.Option.get_or_from_slice_get}
use Rattle.std.{specs.Prelude.slice_get, specs.Ordering.is_lt, specs.FinMap.Entries.is_sorted, specs.List.list_all}
use Rattle.pk_base.{specs.Key.Key, specs.Key.key_cmp, specs.Shape.Shape, specs.Entry.Entry, specs.Entry.key_of, proofs.Logic.of_true}
use Rattle.pk_meta.{specs.Page.meta_entries, specs.PageChecks.IsMetaPage, specs.declared.MetaHead.MetaHead, specs.declared.BadMeta.BadMeta, proofs.Reading.meta_held, proofs.Reading.sorted_true}
use Rattle.pk_meta.specs.Run.{may_hold}
use Rattle.pk_scan.{specs.Runs.IsLast, specs.Runs.is_behind, specs.Runs.GoesOnOr, proofs.Rises.rises_behind, proofs.Rises.lies_behind}

-- ---- each entry passes a test

module _ (p : Entry → Bool) where
  pub all_next : (es : List Entry) (i : ℕ) (e : Entry) → slice_get es i ≡ Some e → p e ≡ true → list_all p (take i es) ≡ true → list_all p (take (i + 1) es) ≡ true
  all_next es i e got passes before =
      list_all_more p es i e (slice_get_within es i e got) ∙ and_from (list_all p (take i es)) (p (get_or es i e)) before (ap p (get_or_from_slice_get es i e e got) ∙ passes)

  pub all_not : (es : List Entry) (i : ℕ) (e : Entry) → slice_get es i ≡ Some e → p e ≡ false → false ≡ list_all p es
  all_not es i e got fails = sym (list_all_at p es i e (slice_get_within es i e got) (ap p (get_or_from_slice_get es i e e got) ∙ fails))

-- ---- what was found in a page

-- it is no meta page, or one of another level, index or count
abbrev pub ReadSo : Shape → List ℕ → Result MetaHead BadMeta → Type 0
ReadSo shape page r = (level index count : ℕ) (es : List Entry) → 1 ≤ level → level ≤ 4 → index < 2 ^ 32
    → meta_entries shape level index count page ≡ Some es → r ≡ Ok (record { level = level; index = index; count = count })

pub no_page : (shape : Shape) (spaces level index count : ℕ) (page : List ℕ) (r : Result MetaHead BadMeta) (bad : BadMeta) → 1 ≤ level → level ≤ 4 → index < 2 ^ 32
    → ReadSo shape page r → r ≡ Err bad → (before : List Entry) → GoesOnOr shape spaces level index count before page false
no_page shape spaces level index count page r bad least most fits read is before more goes = clash (sym is ∙ read level index count more least most fits goes.holds)
  where
    clash : {h : MetaHead} → ◌≡◌ {A = Result MetaHead BadMeta} (Err bad) (Ok h) → ⊥
    clash e = cc

module _ (shape : Shape) (spaces level index count : ℕ) (page : List ℕ) (es : List Entry) (holds : meta_entries shape level index count page ≡ Some es) where
  same_entries : (more : List Entry) → meta_entries shape level index count page ≡ Some more → more ≡ es
  same_entries more is = let both : Some more ≡ Some es = sym is ∙ holds in some_same more es both
    where
      some_same : (xs ys : List Entry) → Some xs ≡ Some ys → xs ≡ ys
      some_same xs ys e = cc

  pub has_gone : (before : List Entry) → may_hold spaces level es ≡ false → GoesOnOr shape spaces level index count before page false
  has_gone before gone more goes =
      let same = same_entries more goes.holds in
      subst T gone (subst (λ (xs : List Entry). T (may_hold spaces level xs)) same goes.stands)

  pub told : (before : List Entry) (last : Option Key) (first : Key) → T (is_sorted key_cmp es) → option_map key_of (slice_get es 0) ≡ Some first
      → T (may_hold spaces level es) → T (is_sorted key_cmp before) → IsLast last before → (b : Bool) → b ≡ is_behind last first → GoesOnOr shape spaces level index count before page b
  told before last first up begins deep up' ends b is = by_first es refl
    where
      goes : T (is_sorted key_cmp (before ++ es)) → GoesOnOr shape spaces level index count before page true
      goes rising = (es, record { holds = holds; rising = rising; stands = deep })

      -- after none, or after the last one
      with_last : (next : Entry) (rest : List Entry) → es ≡ next ∷ rest → key_of next ≡ first → (last : Option Key)
          → IsLast last before → (b : Bool) → b ≡ is_behind last first → GoesOnOr shape spaces level index count before page b
      with_last next rest e key None none true is = goes (subst (λ (xs : List Entry). T (is_sorted key_cmp (xs ++ es))) (sym none) up)
      with_last next rest e key None none false is = let clash : false ≡ true = is in cc
      with_last next rest e key (Some k) (front, l, whole, key_is) true is =
          let less : T (is_lt (key_cmp (key_of l) (key_of next))) = rw (key_is, key) (of_true _ (sym is)) in
          let rises = rises_behind front l next rest (subst (λ (xs : List Entry). T (is_sorted key_cmp xs)) whole up') (subst (λ (xs : List Entry). T (is_sorted key_cmp xs)) e up) less in
          goes (subst (λ (xs : List Entry). T (is_sorted key_cmp (xs ++ es))) (sym whole) (subst (λ (xs : List Entry). T (is_sorted key_cmp ((front ++ l ∷ []) ++ xs))) (sym e) rises))
      with_last next rest e key (Some k) (front, l, whole, key_is) false is = λ more had.
          let same = same_entries more had.holds in
          let rises : T (is_sorted key_cmp ((front ++ l ∷ []) ++ next ∷ rest)) =
          subst (λ (xs : List Entry). T (is_sorted key_cmp ((front ++ l ∷ []) ++ xs))) e
          (subst (λ (xs : List Entry). T (is_sorted key_cmp (xs ++ es))) whole (subst (λ (xs : List Entry). T (is_sorted key_cmp (before ++ xs))) same had.rising)) in
          let less : T (is_lt (key_cmp k first)) = subst (λ (x : Key). T (is_lt (key_cmp k x))) key
          (subst (λ (x : Key). T (is_lt (key_cmp x (key_of next)))) key_is (lies_behind front l next rest rises)) in
          subst T (sym is) less

      by_first : (xs : List Entry) → es ≡ xs → GoesOnOr shape spaces level index count before page b
      by_first [] e = let none : None ≡ Some first = sym (ap (λ (ys : List Entry). option_map key_of (slice_get ys 0)) e) ∙ begins in cc
      by_first (next ∷ rest) e =
          let here : Some (key_of next) ≡ Some first = sym (ap (λ (ys : List Entry). option_map key_of (slice_get ys 0)) e) ∙ begins in
          let key : key_of next ≡ first = cc in
          with_last next rest e key last ends b is

-- the page was found to be that of the level, index and count
pub record Found (shape : Shape) (level index count : ℕ) (page : List ℕ) : Type 0 where
  pub es : List Entry
  pub holds : meta_entries shape level index count page ≡ Some es
  pub is_page : IsMetaPage shape page level index es
  pub many : length es ≡ count
  pub rising : T (is_sorted key_cmp es)

pub found : (shape : Shape) (level index count : ℕ) (page : List ℕ) (head : MetaHead) → 1 ≤ level → level ≤ 4 → index < 2 ^ 32 → head ≡ record { level = level; index = index; count = count }
    → (es : List Entry) × (meta_entries shape head.level head.index head.count page ≡ Some es) × (length es ≡ head.count) → Found shape level index count page
found shape level index count page head least most fits is (es, reads, many) =
    let holds : meta_entries shape level index count page ≡ Some es = subst (λ (h : MetaHead). meta_entries shape h.level h.index h.count page ≡ Some es) is reads in
    let held = meta_held shape level index count page es least most fits holds in
    record { es = es; holds = holds; is_page = held.0; many = held.1; rising = of_true _ (sorted_true es held.0.content.rising) }

pub found_gone : {shape : Shape} {spaces level index count : ℕ} {page : List ℕ} (f : Found shape level index count page) (b : Bool) → b ≡ false
    → ((index : ℕ) (es : List Entry) → IsMetaPage shape page level index es → length es ≡ count → b ≡ may_hold spaces level es)
    → (before : List Entry) → GoesOnOr shape spaces level index count before page false
found_gone {shape} {spaces} {level} {index} {count} {page} f b is told_b before = has_gone shape spaces level index count page f.es f.holds before (sym (told_b index f.es f.is_page f.many) ∙ is)

pub found_told : (spaces : ℕ) {shape : Shape} {level index count : ℕ} {page : List ℕ} (f : Found shape level index count page) (a : Bool) → a ≡ true
    → ((index : ℕ) (es : List Entry) → IsMetaPage shape page level index es → length es ≡ count → a ≡ may_hold spaces level es)
    → (last : Option Key) (first : Key) → ((level index : ℕ) (es : List Entry) → IsMetaPage shape page level index es → option_map key_of (slice_get es 0) ≡ Some first)
    → (b : Bool) → b ≡ is_behind last first
    → (before : List Entry) → T (is_sorted key_cmp before) → IsLast last before → GoesOnOr shape spaces level index count before page b
found_told spaces {shape} {level} {index} {count} {page} f a is told_a last first begins b is_b before up ends =
    told shape spaces level index count page f.es f.holds before last first f.rising (begins level index f.es f.is_page) (of_true _ (sym (told_a index f.es f.is_page f.many) ∙ is)) up ends b is_b
