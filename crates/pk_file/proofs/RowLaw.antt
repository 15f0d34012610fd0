-- What a file shows while a row of pages is written to it.
use Rattle.std.proofs.Common.{◌≡◌, ◌⊎◌, inl, inr, ℕ, ◌+◌, ◌-◌, ◌*◌, ◌%◌, ◌<◌, ◌≤◌, List, [], ◌∷◌, ◌++◌, length, take, min, get_or, refl, sym, ap, subst, ◌∙◌, arith, Option}
use Rattle.std.{proofs.lemmas.Bool.cases_lt, proofs.lemmas.List.get_or-take, proofs.lemmas.List.length-take, proofs.lemmas.Nat.div-mul-add, proofs.lemmas.Nat.mod-mul-add}
use Rattle.std.proofs.Math.Nat.{mul-le-mul_right}
use Rattle.pk_base.proofs.BlockLemmas.{apart}
use Rattle.pk_base.{specs.Page.Page, specs.Page.Flash, specs.Page.whole, specs.Page.page_at}
use Rattle.pk_image.specs.declared.tag.TheConstants.{WHOLE, TORN}
use Rattle.pk_file.{specs.Content.Content, specs.Content.Follows, specs.Content.After, specs.Content.During, specs.Content.Shows}
use Rattle.pk_file.{specs.FileSteps.FileStep, specs.FileSteps.states_set, specs.FileSteps.bytes_written, specs.FileSteps.synced, specs.FileSteps.row_steps}
use Rattle.pk_file.{specs.Pieces.Right, specs.Pieces.AllRight, specs.Pieces.Written}
use Rattle.pk_file.{specs.RowSteps.wanted, specs.RowSteps.bytes_of_page, specs.RowSteps.BytesOfRow, specs.RowSteps.ZerosBehind, specs.RowSteps.RowShown, specs.RowSteps.RowProgrammed}
use Rattle.pk_file.{specs.RowSteps.RowWritten}

-- ---- steps after others

during_split : (size : ℕ) (xs ys : List FileStep) (c d : Content) → During size (xs ++ ys) c d
    → During size xs c d ⊎ ((b : Content) × After size xs c b × During size ys b d)
during_split size [] ys c d is = inr (c, refl, is)
during_split size (x ∷ xs) ys c d is = elim is [
  | inl part ↦ inl (inl part)
  | inr later ↦ elim (during_split size xs ys later.0 d later.2) [
    | inl some ↦ inl (inr (later.0, later.1, some))
    | inr all ↦ inr (all.0, (later.0, later.1, all.1), all.2)
  ]
]

after_split : (size : ℕ) (xs ys : List FileStep) (c d : Content) → After size (xs ++ ys) c d → (b : Content) × After size xs c b × After size ys b d
after_split size [] ys c d is = (c, refl, is)
after_split size (x ∷ xs) ys c d is = let later = after_split size xs ys is.0 d is.2 in (later.0, (is.0, is.1, later.1), later.2)

-- ---- writes of bytes in a row

module _ (size from to : ℕ) (want : ℕ → ℕ) where
  -- the states and the bytes outside of the row are as they were
  pub record Kept (old new : Content) : Type 0 where
    pub states : (k : ℕ) → new.states k ≡ old.states k
    pub bytes : (p : ℕ) → (p < from) ⊎ (to ≤ p) → new.bytes p ≡ old.bytes p

  kept_same : (c d : Content) → d ≡ c → Kept c d
  kept_same c d is = record { states = λ k. ap (λ (x : Content). x.states k) is; bytes = λ p out. ap (λ (x : Content). x.bytes p) is }

  kept_then : (b c d : Content) → Kept b c → Kept c d → Kept b d
  kept_then b c d one two = record { states = λ k. two.states k ∙ one.states k; bytes = λ p out. two.bytes p out ∙ one.bytes p out }

  right_take : (page : ℕ) (bytes : List ℕ) (m : ℕ) → Right size from to want page bytes → Right size from to want page (take m bytes)
  right_take page bytes m own q h =
      let few = length-take m bytes in
      let here = own q (grind (arith, h, few)) in
      let low : q < m = grind (arith, h, few) in
      (here.0, here.1, get_or-take m bytes q 0 low ∙ here.2)

  kept_write : (page : ℕ) (bytes : List ℕ) (c d : Content) → Right size from to want page bytes → Follows size (bytes_written page bytes) c d → Kept c d
  kept_write page bytes c d own is = record {
    states = is.0;
    bytes = λ p out. elim (cases_lt p (page * size)) [
      | inl low ↦ is.2 p (inl low)
      | inr high ↦ elim (cases_lt p (page * size + length bytes)) [
        | inl inside ↦
            let here = own (p - page * size) (omega (arith, high, inside)) in let least = here.0 in let most = here.1 in
            absurd (elim out [ inl before ↦ omega (arith, before, least, high) | inr after ↦ omega (arith, after, most, high) ])
        | inr past ↦ is.2 p (inr past)
      ]
    ];
  }

  kept_during : (xs : List FileStep) (c d : Content) → AllRight size from to want xs → During size xs c d → Kept c d
  kept_during [] c d all is = kept_same c d is
  kept_during (states_set f n v ∷ xs) c d all is = absurd all
  kept_during (bytes_written page bytes ∷ xs) c d all is = elim is [
    | inl part ↦ kept_write page (take part.0 bytes) c d (right_take page bytes part.0 all.0) part.1
    | inr later ↦ kept_then c later.0 d (kept_write page bytes c later.0 all.0 later.1) (kept_during xs later.0 d all.1 later.2)
  ]
  kept_during (synced ∷ xs) c d all is = absurd all

  kept_after : (xs : List FileStep) (c d : Content) → AllRight size from to want xs → After size xs c d → Kept c d
  kept_after [] c d all is = kept_same c d is
  kept_after (states_set f n v ∷ xs) c d all is = absurd all
  kept_after (bytes_written page bytes ∷ xs) c d all is = kept_then c is.0 d (kept_write page bytes c is.0 all.0 is.1) (kept_after xs is.0 d all.1 is.2)
  kept_after (synced ∷ xs) c d all is = absurd all

  -- a byte that is the wanted one, or is written, is the wanted one after the writes
  wanted_after : (xs : List FileStep) (c d : Content) (p : ℕ) → AllRight size from to want xs → After size xs c d → (c.bytes p ≡ want p) ⊎ Written size xs p → d.bytes p ≡ want p
  wanted_after [] c d p all is own = elim own [ inl same ↦ ap (λ (x : Content). x.bytes p) is ∙ same | inr none ↦ absurd none ]
  wanted_after (states_set f n v ∷ xs) c d p all is own = absurd all
  wanted_after (bytes_written page bytes ∷ xs) c d p all is own = wanted_after xs is.0 d p all.1 is.2 (elim (cases_lt p (page * size)) [
    | inl low ↦ elim own [
      | inl same ↦ inl (is.1.2 p (inl low) ∙ same)
      | inr some ↦ elim some [ inl here ↦ (let least = here.0 in absurd (omega (arith, low, least))) | inr there ↦ inr there ]
    ]
    | inr high ↦ elim (cases_lt p (page * size + length bytes)) [
      | inl inside ↦
          let q : ℕ = p - page * size in
          let less : q < length bytes = omega (arith, high, inside) in
          let here : page * size + q ≡ p = omega (arith, high) in
          inl (subst (λ (n : ℕ). is.0.bytes n ≡ want n) here (is.1.1 q less ∙ (all.0 q less).2))
      | inr past ↦ elim own [
        | inl same ↦ inl (is.1.2 p (inr past) ∙ same)
        | inr some ↦ elim some [ inl here ↦ (let most = here.1 in absurd (omega (arith, past, most))) | inr there ↦ inr there ]
      ]
    ]
  ])
  wanted_after (synced ∷ xs) c d p all is own = absurd all

-- ---- the row

module _ (size : ℕ) (pages : Flash) (first : ℕ) (extents : List ℕ) where
  abbrev from : ℕ
  from = first * size

  abbrev to : ℕ
  to = (first + length extents) * size

  abbrev KeptRow : Content → Content → Type 0
  KeptRow c d = Kept size from to (wanted size pages) c d

  -- no page is Whole yet
  none_shown : (b c d : Content) (m : ℕ) → Follows size (states_set first (min m 1) TORN) b c → KeptRow c d → RowShown size pages first extents 0 b d
  none_shown b c d m torn kept = record {
    shown = λ k low high. absurd (omega (arith, low, high));
    states = λ k out. elim (cases_lt k first) [
      | inl low ↦ inl (kept.states k ∙ torn.1 k (inl low))
      | inr high ↦ elim (cases_lt k (first + min m 1)) [
        | inl inside ↦ inr (refl, omega (arith, high, inside), kept.states k ∙ torn.0 k high inside)
        | inr past ↦ inl (kept.states k ∙ torn.1 k (inr past))
      ]
    ];
    bytes = λ p out. kept.bytes p out ∙ torn.2 p;
  }

  -- some of the pages are Whole
  some_shown : (b c e d : Content) (m : ℕ) (own : (k : ℕ) → first ≤ k → k < first + m → (bytes : List ℕ) × (page_at pages k ≡ whole bytes)) → m ≤ length extents
      → Follows size (states_set first 1 TORN) b c → KeptRow c e → ((p : ℕ) → from ≤ p → p < to → e.bytes p ≡ wanted size pages p)
      → Follows size (states_set first m WHOLE) e d → RowShown size pages first extents m b d
  some_shown b c e d m own most torn kept right set = record {
    shown = λ k low high.
        let page = own k low high in
        subst (λ (x : Page). Shows size d k x) (sym page.1) (
          set.0 k low high,
          λ q less.
              let least : first * size ≤ k * size + q = omega (arith, mul-le-mul_right {m = first} {n = k} size low) in
              let less_to : k * size + q < (first + length extents) * size = omega (arith, apart k (first + length extents) size (omega (arith, high, most)), less) in
              set.2 (k * size + q) ∙ (right (k * size + q) least less_to ∙ place k q page.0 page.1 less),
        );
    states = λ k out. elim (cases_lt k first) [
      | inl low ↦ inl (set.1 k (inl low) ∙ (kept.states k ∙ torn.1 k (inl low)))
      | inr high ↦ elim (cases_lt k (first + 1)) [
        | inl inside ↦ elim out [
          | inl low ↦ absurd (omega (arith, low, high))
          | inr past ↦ inr (omega (arith, past, inside, high), omega (arith, high, inside), set.1 k (inr past) ∙ (kept.states k ∙ torn.0 k high inside))
        ]
        | inr past ↦ inl (set.1 k out ∙ (kept.states k ∙ torn.1 k (inr past)))
      ]
    ];
    bytes = λ p out. set.2 p ∙ (kept.bytes p out ∙ torn.2 p);
  }
    where
      place : (k q : ℕ) (bytes : List ℕ) → page_at pages k ≡ whole bytes → q < size → wanted size pages (k * size + q) ≡ get_or bytes q 0
      place k q bytes is less =
          ap (λ (n : ℕ). get_or (bytes_of_page (page_at pages n)) ((k * size + q) % size) 0) (div-mul-add k size q less)
          ∙ (ap (λ (x : Page). get_or (bytes_of_page x) ((k * size + q) % size) 0) is
          ∙ ap (λ (n : ℕ). get_or bytes n 0) (mod-mul-add k size q less))

  -- all bytes of the row are right after the writes
  row_right : (b c e : Content) (pieces : List FileStep) → BytesOfRow size pages first extents pieces → ZerosBehind size pages first extents b
      → ((p : ℕ) → c.bytes p ≡ b.bytes p) → After size pieces c e → (p : ℕ) → from ≤ p → p < to → e.bytes p ≡ wanted size pages p
  row_right b c e pieces own zeros same did p low high = wanted_after size from to (wanted size pages) pieces c e p own.right did (elim (own.cover p low high) [
    | inl some ↦ inr some
    | inr clean ↦ inl (same p ∙ (zeros p low high clean.1 ∙ sym clean.0))
  ])

  min-le : (m n : ℕ) → min m n ≤ n
  min-le m n = grind arith

  last : (c d : Content) → During size (synced ∷ []) c d → d ≡ c
  last c d is = elim is [ inl part ↦ part.1 | inr all ↦ all.2 ∙ all.1 ]

  pub row_during : (pieces : List FileStep) → BytesOfRow size pages first extents pieces → (b d : Content) → ZerosBehind size pages first extents b
      → During size (row_steps first (length extents) pieces) b d → (count : ℕ) × (count ≤ length extents) × RowShown size pages first extents count b d
  row_during pieces own b d zeros is = elim is [
    | inl part ↦ (0, omega arith, none_shown b d d part.0 part.1 (kept_same size from to (wanted size pages) d d refl))
    | inr begun ↦
        let c = begun.0 in
        elim (during_split size pieces (synced ∷ states_set first (length extents) WHOLE ∷ synced ∷ []) c d begun.2) [
          | inl some ↦ (0, omega arith, none_shown b c d 1 begun.1 (kept_during size from to (wanted size pages) pieces c d own.right some))
          | inr all ↦
              let e = all.0 in
              let kept = kept_after size from to (wanted size pages) pieces c e own.right all.1 in
              let right = row_right b c e pieces own zeros begun.1.2 all.1 in
              let set : (m : ℕ) (x : Content) → m ≤ length extents → Follows size (states_set first m WHOLE) e x → RowShown size pages first extents m b x =
              λ m x most own_set. some_shown b c e x m (λ k low high. own.are_whole k low (omega (arith, high, most))) most begun.1 kept right own_set in
              elim all.2 [
                | inl unsynced ↦ (0, omega arith, none_shown b c d 1 begun.1 (kept_then size from to (wanted size pages) c e d kept (kept_same size from to (wanted size pages) e d unsynced.1)))
                | inr kept_bytes ↦ elim kept_bytes.2 [
                  | inl part ↦ (
                    min part.0 (length extents),
                    min-le part.0 (length extents),
                    set (min part.0 (length extents)) d (min-le part.0 (length extents)) (subst (λ (x : Content). Follows size (states_set first (min part.0 (length extents)) WHOLE) x d) kept_bytes.1 part.1),
                  )
                  | inr all_set ↦ (
                    length extents,
                    omega arith,
                    subst (λ (x : Content). RowShown size pages first extents (length extents) b x) (sym (last all_set.0 d all_set.2))
                        (set (length extents) all_set.0 (omega arith) (subst (λ (x : Content). Follows size (states_set first (length extents) WHOLE) x all_set.0) kept_bytes.1 all_set.1)),
                  )
                ]
              ]
        ]
  ]

  pub row_done : (pieces : List FileStep) → BytesOfRow size pages first extents pieces → (b d : Content) → ZerosBehind size pages first extents b
      → After size (row_steps first (length extents) pieces) b d → RowShown size pages first extents (length extents) b d
  row_done pieces own b d zeros is =
      let c = is.0 in
      let all = after_split size pieces (synced ∷ states_set first (length extents) WHOLE ∷ synced ∷ []) c d is.2 in
      let e = all.0 in
      let kept = kept_after size from to (wanted size pages) pieces c e own.right all.1 in
      let right = row_right b c e pieces own zeros is.1.2 all.1 in
      let ends = all.2 in
      let later = ends.2 in
      let set : Follows size (states_set first (length extents) WHOLE) e later.0 = subst (λ (x : Content). Follows size (states_set first (length extents) WHOLE) x later.0) ends.1 later.1 in
      subst (λ (x : Content). RowShown size pages first extents (length extents) b x) (sym (later.2.2 ∙ later.2.1))
      (some_shown b c e later.0 (length extents) own.are_whole (omega arith) is.1 kept right set)

-- ---- a row that may be empty

pub nothing_written : (size : ℕ) (pages : Flash) (first : ℕ) (extents : List ℕ) (before after : Option (List FileStep)) → length extents ≡ 0 → after ≡ before
    → RowWritten size pages first extents before after
nothing_written size pages first [] before after none same = same
nothing_written size pages first (extent ∷ extents) before after none same = absurd (omega (arith, none))

pub some_written : (size : ℕ) (pages : Flash) (first : ℕ) (extents : List ℕ) (before after : Option (List FileStep)) → 0 < length extents
    → RowProgrammed size pages first extents before after → RowWritten size pages first extents before after
some_written size pages first [] before after some row = absurd (omega (arith, some))
some_written size pages first (extent ∷ extents) before after some row = row
