-- The newest root of pages that are read one after another.
use Rattle.std.proofs.Common.{◌≡◌, ℕ, zero, suc, ◌+◌, ◌*◌, ◌<◌, ◌≤◌, List, Bool, true, false, ◌&&◌, nat_le, if◌then◌else◌, length, Option, Some, None, refl, sym, ap, ◌∙◌, subst, arith, leb-false}
use Rattle.std.proofs.Common.{le_refl, add-zero}
use Rattle.std.{proofs.lemmas.Bool.leb-true, proofs.lemmas.Bool.Decides.nat_tests, proofs.Math.Nat.mul-le-mul_left, specs.Prelude.bytes_eq, specs.Prelude.MatchOption, specs.Prelude.IfSome, specs.List.range_with_len}
use Rattle.pk_base.{proofs.Logic.some_same, specs.FieldFaults.u64_at, specs.Shape.Shape, specs.Shape.IsShape, specs.Page.Page, specs.Page.Flash, specs.Page.page_at, specs.Page.erased}
use Rattle.pk_base.{specs.Page.whole}
use Rattle.pk_nand.{specs.BoardState.BoardState, specs.Calls.IsReady, specs.Operations.filled, specs.Operations.after_read, specs.Operations.ReadFailed, specs.Counts.after_reads, specs.Seen.answer}
use Rattle.pk_nand.specs.declared.types.PageRead.{PageRead}
use Rattle.pk_rootfmt.{specs.Held.Held, specs.Root.Root, specs.Root.root_at, specs.Root.root_bytes, specs.Root.root_page, specs.Root.is_root, proofs.RunLemmas.page_is_root}
use Rattle.pk_rootfmt.specs.Newest.{root_of, newer_of, newest_of, newest_root}
use Rattle.pk_seg.specs.Counts.{ReadsFailed}
use Rattle.pk_root.specs.Scanned.{at_page, found_at, newer, is_older, root_in}

-- ---- two roots

-- a later root is taken if its number is greater, and otherwise the first one is kept
stays : (a b : ℕ × Root) → b.1.number ≤ a.1.number → newer (Some a) (Some b) ≡ Some a
stays a b le = let kept : nat_le b.1.number a.1.number ≡ true = grind (arith, nat_tests) in ap (λ t. if t then Some a else Some b) kept

yields : (a b : ℕ × Root) → a.1.number < b.1.number → newer (Some a) (Some b) ≡ Some b
yields a b lt = let taken : nat_le b.1.number a.1.number ≡ false = grind (arith, nat_tests) in ap (λ t. if t then Some a else Some b) taken

pub newer-none : (first : Option (ℕ × Root)) → newer first None ≡ first
newer-none None = refl
newer-none (Some a) = refl

-- the newest of three does not depend on which two are compared first
newer-assoc : (first second third : Option (ℕ × Root)) → newer first (newer second third) ≡ newer (newer first second) third
newer-assoc None second third = refl
newer-assoc (Some a) None third = refl
newer-assoc (Some a) (Some b) None = sym (newer-none (newer (Some a) (Some b)))
newer-assoc (Some a) (Some b) (Some c) = by_tests (nat_le c.1.number b.1.number) (nat_le b.1.number a.1.number) refl refl
  where
    by_tests : (s t : Bool) → nat_le c.1.number b.1.number ≡ s → nat_le b.1.number a.1.number ≡ t
        → newer (Some a) (if s then Some b else Some c) ≡ newer (if t then Some a else Some b) (Some c)
    by_tests true true e f =
        let cb = leb-true c.1.number b.1.number e in
        let ba = leb-true b.1.number a.1.number f in
        stays a b ba ∙ sym (stays a c (omega (arith, cb, ba)))
    by_tests true false e f = yields a b (leb-false _ _ f) ∙ sym (stays b c (leb-true _ _ e))
    by_tests false true e f = refl
    by_tests false false e f =
        let bc = leb-false c.1.number b.1.number e in
        let ab = leb-false b.1.number a.1.number f in
        yields a c (omega (arith, bc, ab)) ∙ sym (yields b c bc)

newer_of-newer : (page : ℕ) (r : Option Root) (later : Option (ℕ × Root)) → newer_of page r later ≡ newer (at_page page r) later
newer_of-newer page (Some root) None = refl
newer_of-newer page _ _ = refl

-- ---- consecutive pages

module _ (shape : Shape) (at : ℕ → Page) where
  -- the newest root of pages and one more after them
  pub newest_of-more : (a n : ℕ) → newest_of shape at (range_with_len a (suc n)) ≡ newer (newest_of shape at (range_with_len a n)) (at_page (a + n) (root_of shape (at (a + n))))
  newest_of-more a zero =
      let here : a + 0 ≡ a = add-zero a in
      rw here (newer_of-newer a (root_of shape (at a)) None ∙ newer-none (at_page a (root_of shape (at a))))
  newest_of-more a (suc n) =
      let moved : (a + 1) + n ≡ a + suc n = omega arith in
      let rest : Option (ℕ × Root) = newest_of shape at (range_with_len (a + 1) n) in
      let last : ℕ → Option (ℕ × Root) = λ k. at_page k (root_of shape (at k)) in
      newer_of-newer a (root_of shape (at a)) (newest_of shape at (range_with_len (a + 1) (suc n)))
      ∙ (ap (newer (last a)) (newest_of-more (a + 1) n)
      ∙ (newer-assoc (last a) rest (last ((a + 1) + n))
      ∙ (ap (λ k. newer (newer (last a) rest) (last k)) moved
      ∙ ap (λ x. newer x (last (a + suc n))) (sym (newer_of-newer a (root_of shape (at a)) rest)))))

  -- the newest root is among the pages
  pub record IsAmong (a n : ℕ) (top : ℕ × Root) : Type 0 where
    pub low : a ≤ top.0
    pub high : top.0 < a + n
    pub there : root_of shape (at top.0) ≡ Some top.1

  wider : (a n : ℕ) (top : ℕ × Root) → IsAmong (a + 1) n top → IsAmong a (suc n) top
  wider a n top is = record { low = omega (arith, is.low); high = omega (arith, is.high); there = is.there }

  here : (a n : ℕ) (top : ℕ × Root) (root : Root) → root_of shape (at a) ≡ Some root → Some (a, root) ≡ Some top → IsAmong a (suc n) top
  here a n top root is e = subst (IsAmong a (suc n)) (some_same (a, root) top e) (record { low = le_refl a; high = omega arith; there = is })

  -- it is the first page's root, or is among the others
  among_step : (a n : ℕ) (top : ℕ × Root) (r : Option Root) (later : Option (ℕ × Root)) → root_of shape (at a) ≡ r → (later ≡ Some top → IsAmong (a + 1) n top)
      → newer_of a r later ≡ Some top → IsAmong a (suc n) top
  among_step a n top None later is rest e = wider a n top (rest e)
  among_step a n top (Some root) None is rest e = here a n top root is e
  among_step a n top (Some root) (Some later) is rest e = elim (nat_le later.1.number root.number) as (λ t. (if t then Some (a, root) else Some later) ≡ Some top → IsAmong a (suc n) top) [
    | true ↦ λ f. here a n top root is f
    | false ↦ λ f. wider a n top (rest f)
  ] e

  pub among : (a n : ℕ) (top : ℕ × Root) → newest_of shape at (range_with_len a n) ≡ Some top → IsAmong a n top
  among a zero top e = cc
  among a (suc n) top e = among_step a n top (root_of shape (at a)) (newest_of shape at (range_with_len (a + 1) n)) refl (among (a + 1) n top) e

  pub newest_among : (top : ℕ × Root) → newest_root shape at ≡ Some top → IsAmong 0 (2 * shape.block_pages) top
  unfolding newest_root
  newest_among top e = among 0 (2 * shape.block_pages) top e

-- the newest root depends on the pages alone
newest_same : (shape : Shape) (at at' : ℕ → Page) (a n : ℕ) → ((k : ℕ) → a ≤ k → k < a + n → at' k ≡ at k) → newest_of shape at' (range_with_len a n) ≡ newest_of shape at (range_with_len a n)
newest_same shape at at' a zero same = refl
newest_same shape at at' a (suc n) same = λ i. newer_of a (root_of shape (same a (le_refl a) (omega arith) i)) (newest_same shape at at' (a + 1) n (λ k low high. same k (omega arith) (omega arith)) i)

pub newest_root_same : (shape : Shape) (at at' : ℕ → Page) → ((k : ℕ) → k < 2 * shape.block_pages → at' k ≡ at k) → newest_root shape at' ≡ newest_root shape at
unfolding newest_root
newest_root_same shape at at' same = newest_same shape at at' 0 (2 * shape.block_pages) (λ k low high. same k (omega arith))

-- ---- root pages

-- a root page has the root's number in its bytes 24 to 31
root_number : (shape : Shape) (bytes : List ℕ) (root : Root) → root_page shape bytes ≡ Some root → root.number ≡ u64_at bytes 24
unfolding root_page
root_number shape bytes root e = elim (is_root shape (root_at shape bytes) && bytes_eq bytes (root_bytes shape (root_at shape bytes))) as (λ t.
    (if t then Some (root_at shape bytes) else None) ≡ Some root → root.number ≡ u64_at bytes 24) [
      | true ↦ λ f. ap (λ (x : Root). x.number) (sym (some_same (root_at shape bytes) root f))
      | false ↦ λ f. cc
    ] e

-- a page with no greater number is passed over
pub passed_over : (best : Option ℕ) (page : ℕ) (shape : Shape) (held : Root) (bytes : List ℕ) (number other : ℕ) → number ≡ held.number → other ≡ u64_at bytes 24
    → is_older best number other ≡ true → found_at best held ≡ newer (found_at best held) (at_page page (root_page shape bytes))
passed_over None page shape held bytes number other own its older = cc
passed_over (Some p) page shape held bytes number other own its older =
    elim (root_page shape bytes) as (λ r. root_page shape bytes ≡ r → Some (p, held) ≡ newer (Some (p, held)) (at_page page r)) [
      | None ↦ λ e. refl
      | Some root ↦ λ e. sym (stays (p, held) (page, root) (omega (arith, root_number shape bytes root e, its, own, leb-true other number older)))
    ] refl

-- a root page with a greater number is taken
pub taken : (best : Option ℕ) (page : ℕ) (shape : Shape) (held root : Root) (bytes : List ℕ) (number other : ℕ) → number ≡ held.number → other ≡ u64_at bytes 24
    → is_older best number other ≡ false → root_page shape bytes ≡ Some root → Some (page, root) ≡ newer (found_at best held) (at_page page (root_page shape bytes))
taken None page shape held root bytes number other own its older is = rw is refl
taken (Some p) page shape held root bytes number other own its older is =
    rw is (sym (yields (p, held) (page, root) (omega (arith, root_number shape bytes root is, its, own, leb-false other number older))))

-- a page without a root changes nothing
pub no_root : (best : Option ℕ) (page : ℕ) (shape : Shape) (held : Root) (bytes : List ℕ) → root_page shape bytes ≡ None
    → found_at best held ≡ newer (found_at best held) (at_page page (root_page shape bytes))
no_root best page shape held bytes is = rw is (sym (newer-none (found_at best held)))

-- what a read reported of a page has the page's root
root_in-read : (shape : Shape) (page : Page) (old : List ℕ) → root_in shape (answer page) (filled page old) ≡ root_of shape page
root_in-read shape erased old = refl
root_in-read shape _ old = refl

-- ---- the loop

-- the first i pages were read, and the newest of their roots was taken
pub record Scanned (old now : BoardState) (shape : Shape) (i : ℕ) (best : Option ℕ) (first into : Held) : Type 0 where
  pub board : now ≡ after_reads i old
  pub shape_is : into.shape ≡ shape
  pub newest : found_at best into.root ≡ newest_of shape (page_at old.pages) (range_with_len 0 i)
  pub kept : best ≡ None → into ≡ first

pub Scanned-start : (old : BoardState) (first : Held) → Scanned old old first.shape 0 None first first
Scanned-start old first = record { board = refl; shape_is = refl; newest = refl; kept = λ e. refl }

-- the pages of the root blocks exist
pub root_page_exists : (shape : Shape) (board : BoardState) (i : ℕ) → IsShape shape → IsReady board shape → i < 2 * shape.block_pages → i < length board.pages
root_page_exists shape board i is_shape ready less =
    let fits = is_shape.data_fits in
    let size = ready.flash.size in
    omega (arith, size, less, mul-le-mul_left {m = 2} {n = shape.blocks} shape.block_pages (omega (arith, fits)))

-- the page that is read next exists
pub page_exists : (old now : BoardState) (shape : Shape) (i : ℕ) (best : Option ℕ) (first into : Held) → IsShape shape → IsReady old shape → i < 2 * shape.block_pages
    → Scanned old now shape i best first into → i < length now.pages
page_exists old now shape i best first into is_shape ready less s =
    let pages : now.pages ≡ old.pages = ap (λ (b : BoardState). b.pages) s.board in
    rw pages (root_page_exists shape old i is_shape ready less)

-- one page more
pub Scanned-next : (old now : BoardState) (shape : Shape) (i : ℕ) (best best' : Option ℕ) (first into into' : Held) (found : PageRead) (buf buf' : List ℕ)
    → Scanned old now shape i best first into
    → found ≡ answer (page_at now.pages i) → buf' ≡ filled (page_at now.pages i) buf
    → found_at best' into'.root ≡ newer (found_at best into.root) (at_page i (root_in into.shape found buf'))
    → into'.shape ≡ into.shape → (best' ≡ None → (best ≡ None) × (into' ≡ into))
    → Scanned old (after_read now) shape (i + 1) best' first into'
Scanned-next old now shape i best best' first into into' found buf buf' s told read took same_shape kept =
    let e : suc i ≡ i + 1 = omega arith in
    let pages : now.pages ≡ old.pages = ap (λ (b : BoardState). b.pages) s.board in
    let at : ℕ → Page = page_at old.pages in
    let root : root_in into.shape found buf' ≡ root_of shape (at i) =
    ap (λ (x : Shape). root_in x found buf') s.shape_is ∙ ap (λ (x : PageRead). root_in shape x buf') told ∙ ap (λ (x : List ℕ). root_in shape (answer (page_at now.pages i)) x) read
    ∙ root_in-read shape (page_at now.pages i) buf ∙ ap (λ (g : Flash). root_of shape (page_at g i)) pages in
    let z : 0 + i ≡ i = omega arith in
    let more : newest_of shape at (range_with_len 0 (suc i)) ≡ newer (newest_of shape at (range_with_len 0 i)) (at_page i (root_of shape (at i))) =
    newest_of-more shape at 0 i ∙ ap (λ k. newer (newest_of shape at (range_with_len 0 i)) (at_page k (root_of shape (at k)))) z in
    record {
      board = ap after_read s.board ∙ ap (λ k. after_reads k old) e;
      shape_is = same_shape ∙ s.shape_is;
      newest =
          took ∙ ap (λ x. newer x (at_page i (root_in into.shape found buf'))) s.newest ∙ ap (λ (x : Option Root). newer (newest_of shape at (range_with_len 0 i)) (at_page i x)) root
          ∙ sym more ∙ ap (λ k. newest_of shape at (range_with_len 0 k)) e;
      kept = λ none. (kept none).1 ∙ s.kept (kept none).0;
    }

-- all pages were read
pub Scanned-end : (old now : BoardState) (shape : Shape) (best : Option ℕ) (first into : Held) → Scanned old now shape (2 * shape.block_pages) best first into
    → found_at best into.root ≡ newest_root shape (page_at old.pages)
unfolding newest_root
Scanned-end old now shape best first into s = s.newest

-- the next read fails
pub Scanned-failed : (old now new : BoardState) (shape : Shape) (i n : ℕ) (best : Option ℕ) (first into : Held) → i < n → Scanned old now shape i best first into → ReadFailed now new i
    → ReadsFailed old new 0 n
Scanned-failed old now new shape i n best first into less s failed =
    let z : i ≡ 0 + i = omega arith in
    let from_old = subst (λ k. ReadFailed (after_reads i old) new k) z (subst (λ b. ReadFailed b new i) s.board failed) in
    record { made = i; within = less; failed = from_old; flash = from_old.flash; read = from_old.read }

-- ---- what was found

module _ (shape : Shape) (at : ℕ → Page) (root : Root) where
  -- the page that was found is that of the newest root
  pub found_page : (best : Option ℕ) → found_at best root ≡ newest_root shape at → MatchOption best (newest_root shape at ≡ None) (λ page. newest_root shape at ≡ Some (page, root))
  found_page None e = sym e
  found_page (Some page) e = sym e

  -- it is a page of the root blocks
  pub found_place : (best : Option ℕ) → found_at best root ≡ newest_root shape at → IfSome best (λ page. page < 2 * shape.block_pages)
  found_place None e = tt
  found_place (Some page) e = let is = newest_among shape at (page, root) (sym e) in omega (arith, is.high)

  -- and the root is one of the grammar
  pub found_grammar : (best : Option ℕ) → found_at best root ≡ newest_root shape at → IfSome best (λ page. is_root shape root ≡ true)
  found_grammar None e = tt
  found_grammar (Some page) e = of_page (at page) (newest_among shape at (page, root) (sym e)).there
    where
      of_page : (p : Page) → root_of shape p ≡ Some root → is_root shape root ≡ true
      of_page (whole bytes) is = page_is_root shape bytes root is
      of_page _ is = cc
