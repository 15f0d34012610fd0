-- Bytes of a row of pages that are gathered and written.
use Rattle.std.proofs.Common.{◌≡◌, ◌⊎◌, inl, inr, ℕ, zero, suc, suc-mul, ◌+◌, ◌-◌, ◌*◌, ◌/◌, ◌%◌, ◌<◌, ◌≤◌, List, [], ◌∷◌, ◌++◌, append-nil, length, get_or, replicate, refl, sym, ap, subst, ◌∙◌}
use Rattle.std.proofs.Common.{arith, Bool, false, Option, None, Some, nat_lt}
use Rattle.std.{proofs.lemmas.Bool.Decides.nat_tests, proofs.lemmas.Grind.get_or_default_zero}
use Rattle.std.{proofs.lemmas.Nat.div-mul-add, proofs.lemmas.Nat.mod-mul-add}
use Rattle.pk_base.{specs.Page.Page, specs.Page.Flash, specs.Page.whole, specs.Page.page_at}
use Rattle.std.proofs.lemmas.Bool.{cases_lt}
use Rattle.std.proofs.lemmas.List.{get_or_append_left, get_or-append_right, get_or-replicate, length-append, length-replicate, append_assoc}
use Rattle.pk_nand.specs.Calls.{longer}
use Rattle.pk_file.specs.FileSteps.{FileStep, states_set, bytes_written, synced, piece_steps}
use Rattle.pk_file.{specs.Pieces.Right, specs.Pieces.AllRight, specs.Pieces.Reaches, specs.Pieces.Written, specs.Pieces.Gathered, specs.Pieces.PageWanted, specs.Pieces.Grows}
use Rattle.pk_file.{specs.RowSteps.wanted, specs.RowSteps.bytes_of_page, specs.RowSteps.is_dirty, specs.RowSteps.BytesWritten}
use Rattle.pk_file.proofs.Steps.{steps_more}

module _ (size : ℕ) where
  right_more : (from to : ℕ) (wanted : ℕ → ℕ) (xs : List FileStep) (page : ℕ) (bytes : List ℕ) → AllRight size from to wanted xs → Right size from to wanted page bytes
      → AllRight size from to wanted (xs ++ piece_steps page bytes)
  right_more from to wanted [] page [] all own = record {}
  right_more from to wanted [] page (b ∷ bytes) all own = (own, record {})
  right_more from to wanted (states_set f n v ∷ xs) page bytes all own = absurd all
  right_more from to wanted (bytes_written f bs ∷ xs) page bytes all own = (all.0, right_more from to wanted xs page bytes all.1 own)
  right_more from to wanted (synced ∷ xs) page bytes all own = absurd all

  right_wider : (from to next : ℕ) (wanted : ℕ → ℕ) (xs : List FileStep) → to ≤ next → AllRight size from to wanted xs → AllRight size from next wanted xs
  right_wider from to next wanted [] order all = record {}
  right_wider from to next wanted (states_set f n v ∷ xs) order all = absurd all
  right_wider from to next wanted (bytes_written f bs ∷ xs) order all =
      ((λ q h. let own = all.0 q h in let low = own.0 in let high = own.1 in (low, omega (arith, high, order), own.2)), right_wider from to next wanted xs order all.1)
  right_wider from to next wanted (synced ∷ xs) order all = absurd all

  written_left : (xs ys : List FileStep) (p : ℕ) → Written size xs p → Written size (xs ++ ys) p
  written_left [] ys p is = absurd is
  written_left (states_set f n v ∷ xs) ys p is = written_left xs ys p is
  written_left (bytes_written f bs ∷ xs) ys p is = elim is [ inl here ↦ inl here | inr there ↦ inr (written_left xs ys p there) ]
  written_left (synced ∷ xs) ys p is = written_left xs ys p is

  written_right : (xs ys : List FileStep) (p : ℕ) → Written size ys p → Written size (xs ++ ys) p
  written_right [] ys p is = is
  written_right (states_set f n v ∷ xs) ys p is = written_right xs ys p is
  written_right (bytes_written f bs ∷ xs) ys p is = inr (written_right xs ys p is)
  written_right (synced ∷ xs) ys p is = written_right xs ys p is

  written_piece : (page : ℕ) (bytes : List ℕ) (p : ℕ) → Reaches size page bytes p → Written size (piece_steps page bytes) p
  written_piece page [] p is = let low = is.0 in let high = is.1 in absurd (omega (arith, low, high))
  written_piece page (b ∷ bytes) p is = inl is

  module _ (from to : ℕ) (wanted : ℕ → ℕ) (dirty : ℕ → Bool) (start now : Option (List FileStep)) where
    -- what waits is written
    pub gathered_write : (next : Option (List FileStep)) (first : ℕ) (bytes : List ℕ) (gap page : ℕ) (none : List ℕ) (gap' : ℕ) → length none ≡ 0 → next ≡ longer now (piece_steps first bytes)
        → Gathered size from to wanted dirty start now first bytes gap → Gathered size from to wanted dirty start next page none gap'
    gathered_write next first bytes gap page none gap' empty did g = record {
      written = g.written ++ piece_steps first bytes;
      steps = steps_more start now next g.written (piece_steps first bytes) g.steps did;
      right = right_more from to wanted g.written first bytes g.right g.own;
      own = λ q h. absurd (omega (arith, h, empty));
      cover = λ p low high. elim (g.cover p low high) [
        | inl some ↦ inl (inl (elim some [ inl before ↦ written_left g.written (piece_steps first bytes) p before | inr last ↦ written_right g.written (piece_steps first bytes) p (written_piece first bytes p last) ]))
        | inr zeros ↦ inr zeros
      ];
      tail = λ p some. absurd (omega (arith, some, empty));
      end = λ some. absurd (omega (arith, some, empty));
    }

    -- a page whose place in the file is as it has to be
    pub gathered_none : (first : ℕ) (bytes : List ℕ) (gap : ℕ) (front : List ℕ) → length bytes ≡ 0 → length front ≡ 0 → PageWanted size to wanted dirty front 0
        → Gathered size from to wanted dirty start now first bytes gap → Gathered size from (to + size) wanted dirty start now first bytes gap
    gathered_none first bytes gap front empty bare page g = record {
      written = g.written;
      steps = g.steps;
      right = right_wider from to (to + size) wanted g.written (omega arith) g.right;
      own = λ q h. absurd (omega (arith, h, empty));
      cover = λ p low high. elim (cases_lt p to) [
        | inl before ↦ g.cover p low before
        | inr past ↦
            let q : ℕ = p - to in
            let place : to + q ≡ p = omega (arith, past) in
            let less : q < size = omega (arith, past, high) in
            inr (subst (λ (n : ℕ). (wanted n ≡ 0) × (dirty n ≡ false)) place (page.zeros q (omega (arith, bare)) less, page.same q (omega arith) less))
      ];
      tail = λ p some. absurd (omega (arith, some, empty));
      end = λ some. absurd (omega (arith, some, empty));
    }

    -- a page is added to what waits: zeros up to its place, its front, and zeros as far as they are needed
    pub gathered_more : (first : ℕ) (bytes : List ℕ) (gap : ℕ) (front : List ℕ) (need : ℕ) (new : List ℕ) (gap' : ℕ)
        → first * size + length bytes + gap ≡ to → (length bytes ≡ 0 → gap ≡ 0) → from ≤ to → length front ≤ need → need ≤ size → 0 < need → gap' ≡ size - need
        → new ≡ (bytes ++ replicate gap 0) ++ (front ++ replicate (need - length front) 0)
        → PageWanted size to wanted dirty front need
        → Gathered size from to wanted dirty start now first bytes gap → Gathered size from (to + size) wanted dirty start now first new gap'
    gathered_more first bytes gap front need new gap' place bare order short fits some gap_is is page g = record {
      written = g.written;
      steps = g.steps;
      right = right_wider from to (to + size) wanted g.written (omega arith) g.right;
      own = λ q h. own q (omega (arith, h, size_is));
      cover = λ p low high. elim (cases_lt p to) [
        | inl before ↦ elim (g.cover p low before) [
          | inl one ↦ elim one [
            | inl old ↦ inl (inl old)
            | inr last ↦ let a = last.0 in let b = last.1 in inl (inr (a, omega (arith, b, size_is)))
          ]
          | inr zeros ↦ inr zeros
        ]
        | inr past ↦ elim (cases_lt p (to + need)) [
          | inl inside ↦ inl (inr (omega (arith, past, place), omega (arith, inside, place, size_is)))
          | inr after ↦
              let q : ℕ = p - to in
              let here : to + q ≡ p = omega (arith, past) in
              let less : q < size = omega (arith, past, high) in
              inr (subst (λ (n : ℕ). (wanted n ≡ 0) × (dirty n ≡ false)) here (page.zeros q (omega (arith, short, after, here)) less, page.same q (omega (arith, after, here)) less))
        ]
      ];
      tail = λ p any low high.
          let q : ℕ = p - to in
          let here : to + q ≡ p = omega (arith, low, size_is, place) in
          subst (λ (n : ℕ). wanted n ≡ 0) here (page.zeros q (omega (arith, short, low, size_is, place, here)) (omega (arith, high, here)));
      end = λ any. omega (arith, size_is, place, gap_is, fits);
    }
      where
        low_end : from ≤ first * size + length bytes
        low_end = elim (cases_lt 0 (length bytes)) [
          | inl any ↦ let low = (g.own 0 any).0 in omega (arith, low)
          | inr least ↦ let none = bare (omega (arith, least)) in omega (arith, least, none, place, order)
        ]

        head : List ℕ
        head = bytes ++ replicate gap 0

        back : List ℕ
        back = front ++ replicate (need - length front) 0

        head_is : length head ≡ length bytes + gap
        head_is = length-append bytes (replicate gap 0) ∙ ap (λ (n : ℕ). length bytes + n) (length-replicate gap 0)

        last_is : length back ≡ need
        last_is = length-append front (replicate (need - length front) 0) ∙ ap (λ (n : ℕ). length front + n) (length-replicate (need - length front) 0) ∙ omega (arith, short)

        size_is : length new ≡ length bytes + gap + need
        size_is = ap (λ (l : List ℕ). length l) is ∙ (length-append head back ∙ omega (arith, head_is, last_is))

        value : (q : ℕ) → q < length bytes + gap + need → get_or (head ++ back) q 0 ≡ wanted (first * size + q)
        value q h = elim (cases_lt q (length bytes + gap)) [
          | inl before ↦ get_or_append_left head back 0 q (omega (arith, before, head_is)) ∙ elim (cases_lt q (length bytes)) [
            | inl old ↦ get_or_append_left bytes (replicate gap 0) 0 q old ∙ (g.own q old).2
            | inr past ↦ get_or-append_right bytes (replicate gap 0) (length bytes) q 0 refl past
                ∙ (get_or-replicate gap (q - length bytes) 0 0 (omega (arith, before, past))
                ∙ sym (elim (cases_lt 0 (length bytes)) [
                  | inl any ↦ g.tail (first * size + q) any (omega (arith, past)) (omega (arith, before, place))
                  | inr least ↦ let none = bare (omega (arith, least)) in absurd (omega (arith, least, before, past, none))
                ]))
          ]
          | inr past ↦ get_or-append_right head back (length bytes + gap) q 0 head_is past ∙ (
              let j : ℕ = q - (length bytes + gap) in
              let here : to + j ≡ first * size + q = omega (arith, past, place) in
              subst (λ (n : ℕ). get_or back j 0 ≡ wanted n) here (elim (cases_lt j (length front)) [
                | inl inside ↦ get_or_append_left front (replicate (need - length front) 0) 0 j inside ∙ sym (page.front_is j inside)
                | inr after ↦ get_or-append_right front (replicate (need - length front) 0) (length front) j 0 refl after
                    ∙ (get_or-replicate (need - length front) (j - length front) 0 0 (omega (arith, after, h, past)) ∙ sym (page.zeros j after (omega (arith, h, past, fits))))
              ]))
        ]

        own : (q : ℕ) → q < length bytes + gap + need → (from ≤ first * size + q) × (first * size + q < to + size) × (get_or new q 0 ≡ wanted (first * size + q))
        own q h = (elim (cases_lt q (length bytes)) [ inl old ↦ (g.own q old).0 | inr past ↦ omega (arith, past, low_end) ], omega (arith, h, place, fits), ap (λ (l : List ℕ). get_or l q 0) is ∙ value q h)

-- the next page follows what waits
pub grows_room : (size at : ℕ) (front : List ℕ) (need : ℕ) (now : Option (List FileStep)) (first : ℕ) (bytes : List ℕ) (gap first' : ℕ) (new : List ℕ) (gap' : ℕ)
    → first' ≡ first → 0 < length bytes → length front ≤ need → need ≤ size → 0 < need → gap' ≡ size - need → new ≡ (bytes ++ replicate gap 0) ++ front ++ replicate (need - length front) 0
    → Grows size at front need now now first bytes gap first' new gap'
grows_room size at front need now first bytes gap first' new gap' same some short fits any gap_is is from wanted dirty start order page g =
    subst (λ (n : ℕ). Gathered size from (at + size) wanted dirty start now n new gap') (sym same)
    (gathered_more size from at wanted dirty start now first bytes gap front need new gap' (g.end some) (λ none. absurd (omega (arith, none, some))) order short fits any gap_is (is ∙ append_assoc (bytes ++ replicate gap 0) front (replicate (need - length front) 0)) page g)

-- what waits is written, and the page is the next to wait
pub grows_start : (size page : ℕ) (front : List ℕ) (need : ℕ) (now next : Option (List FileStep)) (first : ℕ) (bytes : List ℕ) (gap : ℕ) (none : List ℕ) (first' : ℕ) (new : List ℕ) (gap' : ℕ)
    → next ≡ longer now (piece_steps first bytes) → length none ≡ 0
    → first' ≡ page → length front ≤ need → need ≤ size → 0 < need → gap' ≡ size - need → new ≡ (none ++ replicate 0 0) ++ front ++ replicate (need - length front) 0
    → Grows size (page * size) front need now next first bytes gap first' new gap'
grows_start size page front need now next first bytes gap none first' new gap' did empty same short fits any gap_is is from wanted dirty start order wants g =
    subst (λ (n : ℕ). Gathered size from (page * size + size) wanted dirty start next n new gap') (sym same)
    (gathered_more size from (page * size) wanted dirty start next page none 0 front need new gap' (omega (arith, empty)) (λ _. refl) order short fits any gap_is (is ∙ append_assoc (none ++ replicate 0 0) front (replicate (need - length front) 0)) wants
    (gathered_write size from (page * size) wanted dirty start now next first bytes gap page none 0 empty did g))

-- what waits is written, and nothing of the page has to be
pub grows_none : (size page : ℕ) (front : List ℕ) (need : ℕ) (now next : Option (List FileStep)) (first : ℕ) (bytes : List ℕ) (gap : ℕ) (none : List ℕ) (first' gap' : ℕ)
    → next ≡ longer now (piece_steps first bytes) → length none ≡ 0 → length front ≤ need → need ≡ 0
    → Grows size (page * size) front need now next first bytes gap first' none gap'
grows_none size page front need now next first bytes gap none first' gap' did empty short zero_need from wanted dirty start order wants g =
    gathered_none size from (page * size) wanted dirty start next first' none gap' front empty (omega (arith, short, zero_need))
    (subst (λ (n : ℕ). PageWanted size (page * size) wanted dirty front n) zero_need wants)
    (gathered_write size from (page * size) wanted dirty start now next first bytes gap first' none gap' empty did g)

longer_none : {X : Type 0} (o : Option (List X)) → o ≡ longer o []
longer_none None = refl
longer_none (Some xs) = ap (λ l. Some l) (sym (append-nil xs))

-- nothing is gathered yet
pub gathered_start : (size first : ℕ) (wanted : ℕ → ℕ) (dirty : ℕ → Bool) (start : Option (List FileStep)) (page : ℕ) (bytes : List ℕ) (gap : ℕ) → length bytes ≡ 0
    → Gathered size (first * size) ((first + 0) * size) wanted dirty start start page bytes gap
gathered_start size first wanted dirty start page bytes gap empty =
    let none : (first + 0) * size ≡ first * size = ap (λ (n : ℕ). n * size) (omega arith) in
    record {
      written = [];
      steps = longer_none start;
      right = record {};
      own = λ q h. absurd (omega (arith, h, empty));
      cover = λ p low high. absurd (omega (arith, low, high, none));
      tail = λ p some. absurd (omega (arith, some, empty));
      end = λ some. absurd (omega (arith, some, empty));
    }

-- the place of a byte of a page
place_of : (size : ℕ) (pages : Flash) (k q : ℕ) (bytes : List ℕ) → page_at pages k ≡ whole bytes → q < size → wanted size pages (k * size + q) ≡ get_or bytes q 0
place_of size pages k q bytes is less =
    ap (λ (n : ℕ). get_or (bytes_of_page (page_at pages n)) ((k * size + q) % size) 0) (div-mul-add k size q less)
    ∙ (ap (λ (x : Page). get_or (bytes_of_page x) ((k * size + q) % size) 0) is
    ∙ ap (λ (n : ℕ). get_or bytes n 0) (mod-mul-add k size q less))

-- beyond the front of a page are zeros
zero_behind : (front : List ℕ) (zeros q : ℕ) → length front ≤ q → get_or {A = ℕ} (front ++ replicate zeros 0) q 0 ≡ 0
zero_behind front zeros q past = get_or-append_right front (replicate zeros 0) (length front) q 0 refl past ∙ zeros_all zeros (q - length front)
  where
    zeros_all : (n q : ℕ) → get_or {A = ℕ} (replicate n 0) q 0 ≡ 0
    zeros_all zero q = refl
    zeros_all (suc n) zero = refl
    zeros_all (suc n) (suc q) = zeros_all n q

-- a page of a row is the one that is wanted
pub page_wanted : (size : ℕ) (pages : Flash) (first i : ℕ) (extents front : List ℕ) (zeros need : ℕ) → page_at pages (first + i) ≡ whole (front ++ replicate zeros 0)
    → length front ≤ size → (get_or extents i 0 ≤ need) ⊎ (size ≤ need) → PageWanted size ((first + i) * size) (wanted size pages) (is_dirty size pages first extents) front need
page_wanted size pages first i extents front zeros need is fits reach = record {
  front_is = λ q inside. elim (cases_lt q size) [
    | inl less ↦ place_of size pages (first + i) q (front ++ replicate zeros 0) is less ∙ get_or_append_left front (replicate zeros 0) 0 q inside
    | inr past ↦ absurd (omega (arith, inside, past, fits))
  ];
  zeros = λ q past less. place_of size pages (first + i) q (front ++ replicate zeros 0) is less ∙ zero_behind front zeros q past;
  same = λ q past less. ap (λ (n : ℕ). nat_lt n (get_or extents (((first + i) * size + q) / size - first) 0)) (mod-mul-add (first + i) size q less)
      ∙ (ap (λ (n : ℕ). nat_lt q (get_or extents (n - first) 0)) (div-mul-add (first + i) size q less)
      ∙ (ap (λ (n : ℕ). nat_lt q (get_or extents n 0)) (omega arith)
      ∙ clean q (elim reach [ inl low ↦ omega (arith, low, past) | inr full ↦ absurd (omega (arith, full, past, less)) ])));
}
  where
    clean : (q : ℕ) → get_or extents i 0 ≤ q → nat_lt q (get_or extents i 0) ≡ false
    clean q h = grind (arith, nat_tests)

-- the next page of a row
pub page_next : (size first i : ℕ) → (first + i) * size + size ≡ (first + (i + 1)) * size
page_next size first i = let more : first + (i + 1) ≡ suc (first + i) = omega arith in sym (ap (λ (n : ℕ). n * size) more ∙ (suc-mul (first + i) size ∙ omega arith))

-- the extent of a page is needed, or all of it
pub reach_of : (extents : List ℕ) (i extent size need : ℕ) → i < length extents → extent ≡ get_or extents i extent → (extent ≤ need) ⊎ (size ≤ need)
    → (get_or extents i 0 ≤ need) ⊎ (size ≤ need)
reach_of extents i extent size need inside is reach =
    let own : extent ≡ get_or extents i 0 = is ∙ get_or_default_zero extents i extent inside in
    elim reach [ inl some ↦ inl (omega (arith, own, some)) | inr full ↦ inr full ]

-- all pages of a row are gathered and written
pub row_written : (size : ℕ) (pages : Flash) (first : ℕ) (extents : List ℕ) (i : ℕ) (start now : Option (List FileStep)) (page : ℕ) (none : List ℕ) (gap : ℕ)
    → i ≡ length extents → length none ≡ 0 → ((k : ℕ) → first ≤ k → k < first + i → (bytes : List ℕ) × (page_at pages k ≡ whole bytes))
    → Gathered size (first * size) ((first + i) * size) (wanted size pages) (is_dirty size pages first extents) start now page none gap → BytesWritten size pages first extents start now
row_written size pages first extents i start now page none gap all empty are g =
    let same : (first + i) * size ≡ (first + length extents) * size = ap (λ (n : ℕ). (first + n) * size) all in
    record {
      pieces = g.written;
      steps = g.steps;
      own = record {
        are_whole = λ k low high. are k low (omega (arith, high, all));
        right = right_wider size (first * size) ((first + i) * size) ((first + length extents) * size) (wanted size pages) g.written (omega (arith, same)) g.right;
        cover = λ p low high. elim (g.cover p low (omega (arith, high, same))) [
          | inl one ↦ elim one [ inl some ↦ inl some | inr last ↦ (let least = last.0 in let most = last.1 in absurd (omega (arith, least, most, empty))) ]
          | inr zeros ↦ inr zeros
        ];
      };
    }
