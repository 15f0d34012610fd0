-- The reading of an epoch, commit by commit.
use Rattle.std.proofs.Common.{◌≡◌, ℕ, zero, suc, ◌+◌, ◌*◌, ◌/◌, ◌%◌, ◌<◌, ◌≤◌, refl, sym, ap, subst, ◌∙◌, arith, Bool, true, false, List, [], ◌∷◌, ◌++◌, length, Option, Some, None, Result, Ok, Err}
use Rattle.std.proofs.Common.{add-zero, le_refl}
use Rattle.std.{specs.Prelude.⊤}
use Rattle.pk_base.{specs.Shape.Shape, specs.Shape.IsShape, specs.Shape.epoch_commits, specs.Entry.Entry, proofs.Logic.ok_same}
use Rattle.pk_base.specs.Page.{Page, Flash, page_at, erased, whole, torn, page_of_pair, commit_at, commits_of}
use Rattle.pk_base.specs.Refusal.{Refusal, damaged, ◌>>=◌, ensure, some_or}
use Rattle.pk_jrnfmt.{specs.Page.journal_entries, specs.Epoch.may_follow, specs.Epoch.journal, specs.Epoch.epoch}
use Rattle.pk_jrn.{specs.Laws.SameBlocks, proofs.Places.commit_same}

-- a step that gave something, and what followed
bind_ok : {A B : Type 0} (r : Result A Refusal) (f : A → Result B Refusal) (b : B) → r >>= f ≡ Ok b → (a : A) × (r ≡ Ok a) × (f a ≡ Ok b)
bind_ok (Ok a) f b e = (a, refl, e)
bind_ok (Err x) f b e = cc

-- the page is not Whole
abbrev pub IsNotWhole : Page → Type 0
IsNotWhole page = (bytes : List ℕ) → page ≡ whole bytes → ⊥

pub erased_not_whole : (page : Page) → page ≡ erased → IsNotWhole page
erased_not_whole page is bytes e = cc

pub torn_not_whole : (page : Page) → page ≡ torn → IsNotWhole page
torn_not_whole page is bytes e = cc

-- a pair of which no page is whole is read by none
pub pair_not_whole : (p : ℕ) (first next : Page) → IsNotWhole first → IsNotWhole next → IsNotWhole (page_of_pair p first next).1
pair_not_whole p (whole bytes) next none none_next = absurd (none bytes refl)
pair_not_whole p _ next none none_next = none_next

module _ (shape : Shape) (spaces number : ℕ) where
  -- an epoch ends at a page that is not whole
  ends_at : (index : ℕ) (before : List Entry) (p : ℕ) (page : Page) (pages : List (ℕ × Page)) → IsNotWhole page → journal shape spaces number index before ((p, page) ∷ pages) ≡ Ok before
  ends_at index before p (whole bytes) pages not_whole = absurd (not_whole bytes refl)
  ends_at index before p _ pages not_whole = refl

  module _ (blocks : List ℕ) where
    pub ends : (at : ℕ → Page) (index : ℕ) (before : List Entry) (n : ℕ) → IsNotWhole (commit_at shape at blocks index).1
        → journal shape spaces number index before (commits_of shape at blocks index n) ≡ Ok before
    ends at index before zero not_whole = refl
    ends at index before (suc n) not_whole = ends_at index before (commit_at shape at blocks index).0 (commit_at shape at blocks index).1 (commits_of shape at blocks (index + 1) n) not_whole

    -- the commit of this index has a page that is whole
    module _ (at : ℕ → Page) (index : ℕ) (before : List Entry) (n : ℕ) (bytes : List ℕ) (here : (commit_at shape at blocks index).1 ≡ whole bytes) where
      p : ℕ
      p = (commit_at shape at blocks index).0

      step : journal shape spaces number index before (commits_of shape at blocks index (suc n))
          ≡ (some_or (journal_entries shape number index bytes) (damaged p) >>=
          (λ es. ensure (may_follow shape spaces before es) p >>= (λ _. journal shape spaces number (index + 1) (before ++ es) (commits_of shape at blocks (index + 1) n))))
      unfolding p
      step = ap (λ (page : Page). journal shape spaces number index before ((p, page) ∷ commits_of shape at blocks (index + 1) n)) here

      -- it adds its entries
      pub goes_on : (es : List Entry) → journal_entries shape number index bytes ≡ Some es → may_follow shape spaces before es ≡ true
          → journal shape spaces number index before (commits_of shape at blocks index (suc n)) ≡ journal shape spaces number (index + 1) (before ++ es) (commits_of shape at blocks (index + 1) n)
      goes_on es spells follows = step ∙ rw (spells, follows) refl

      -- or it refuses
      pub refuses : ((es : List Entry) → journal_entries shape number index bytes ≡ Some es → may_follow shape spaces before es ≡ false)
          → journal shape spaces number index before (commits_of shape at blocks index (suc n)) ≡ Err (damaged (commit_at shape at blocks index).0)
      unfolding p
      refuses none = step ∙ by_cases (journal_entries shape number index bytes) refl
        where
          by_cases : (o : Option (List Entry)) → journal_entries shape number index bytes ≡ o
              → (some_or o (damaged p) >>= (λ es. ensure (may_follow shape spaces before es) p >>=
              (λ _. journal shape spaces number (index + 1) (before ++ es) (commits_of shape at blocks (index + 1) n)))) ≡ Err (damaged p)
          by_cases None e = refl
          by_cases (Some es) e = let test = none es e in rw test refl

      -- if all is read, its entries are there
      went_on : (all : List Entry) → journal shape spaces number index before (commits_of shape at blocks index (suc n)) ≡ Ok all
          → (es : List Entry) × (journal_entries shape number index bytes ≡ Some es) × (may_follow shape spaces before es ≡ true)
          × (journal shape spaces number (index + 1) (before ++ es) (commits_of shape at blocks (index + 1) n) ≡ Ok all)
      went_on all is =
          let read = bind_ok (some_or (journal_entries shape number index bytes) (damaged p)) _ all (sym step ∙ is) in
          let tested = bind_ok (ensure (may_follow shape spaces before read.0) p) _ all read.2 in
          (read.0, some_ok (journal_entries shape number index bytes) read.0 read.1, passed _ tested.0 tested.1, tested.2)
        where
          some_ok : (o : Option (List Entry)) (es : List Entry) → some_or o (damaged p) ≡ Ok es → o ≡ Some es
          some_ok (Some x) es e = cc
          some_ok None es e = cc

          passed : (b : Bool) (u : ⊤) → ensure b p ≡ Ok u → b ≡ true
          passed true u e = refl
          passed false u e = cc

    -- If n commits have a page that is Whole and the next has none, another flash with the same commits is read on after the same entries.
    pub reads_on : (at at' : ℕ → Page) (n rest index : ℕ) (before all : List Entry)
        → ((j : ℕ) → index ≤ j → j < index + n → (bytes : List ℕ) × ((commit_at shape at blocks j).1 ≡ whole bytes))
        → ((j : ℕ) → index ≤ j → j < index + n → commit_at shape at' blocks j ≡ commit_at shape at blocks j)
        → IsNotWhole (commit_at shape at blocks (index + n)).1
        → journal shape spaces number index before (commits_of shape at blocks index (n + rest)) ≡ Ok all
        → journal shape spaces number index before (commits_of shape at' blocks index (n + rest)) ≡ journal shape spaces number (index + n) all (commits_of shape at' blocks (index + n) rest)
    reads_on at at' zero rest index before all are_whole same stop is =
        let e : rest ≡ zero + rest = omega arith in
        let z : index + zero ≡ index = add-zero index in
        let not_whole : IsNotWhole (commit_at shape at blocks index).1 = subst (λ (k : ℕ). IsNotWhole (commit_at shape at blocks k).1) z stop in
        let b : before ≡ all = ok_same before all (sym (ends at index before (zero + rest) not_whole) ∙ is) in
        λ i. journal shape spaces number (sym z i) (b i) (commits_of shape at' blocks (sym z i) (sym e i))
    reads_on at at' (suc n) rest index before all are_whole same stop is =
        let e : suc n + rest ≡ suc (n + rest) = omega arith in
        let m : index + 1 + n ≡ index + suc n = omega arith in
        let w = are_whole index (le_refl index) (omega arith) in
        let is' : journal shape spaces number index before (commits_of shape at blocks index (suc (n + rest)))
        ≡ Ok all = subst (λ (k : ℕ). journal shape spaces number index before (commits_of shape at blocks index k) ≡ Ok all) e is in
        let g = went_on at index before (n + rest) w.0 w.1 all is' in
        ap (λ (k : ℕ). journal shape spaces number index before (commits_of shape at' blocks index k)) e
        ∙ goes_on at' index before (n + rest) w.0 (ap (λ (p : ℕ × Page). p.1) (same index (le_refl index) (omega arith)) ∙ w.1) g.0 g.1 g.2
        ∙ reads_on at at' n rest (index + 1) (before ++ g.0) all (λ j low high. are_whole j (omega (arith, low)) (omega (arith, high)))
        (λ j low high. same j (omega (arith, low)) (omega (arith, high)))
        (subst (λ (k : ℕ). IsNotWhole (commit_at shape at blocks k).1) (sym m) stop) g.3
        ∙ (λ i. journal shape spaces number (m i) all (commits_of shape at' blocks (m i) rest))

-- ---- whole epochs

pub epoch_is : (shape : Shape) (spaces : ℕ) (at : ℕ → Page) (number : ℕ) (blocks : List ℕ) (n : ℕ) → IsShape shape → length blocks ≡ 2
    → epoch_commits shape ≡ n → epoch shape spaces at number blocks ≡ journal shape spaces number 0 [] (commits_of shape at blocks 0 n)
unfolding epoch
epoch_is shape spaces at number blocks n is two size =
    let eights : shape.block_pages % 8 ≡ 0 = is.eights in
    let pairs : 2 * (shape.block_pages / 2) ≡ shape.block_pages = omega (arith, eights) in
    let all : length blocks * (shape.block_pages / 2) ≡ n = ap (λ k. k * (shape.block_pages / 2)) two ∙ pairs ∙ size in
    ap (λ k. journal shape spaces number 0 [] (commits_of shape at blocks 0 k)) all

commits_from_same : (shape : Shape) (at at' : ℕ → Page) (blocks : List ℕ) (i n : ℕ)
    → ((j : ℕ) → i ≤ j → j < i + n → commit_at shape at' blocks j ≡ commit_at shape at blocks j) → commits_of shape at' blocks i n ≡ commits_of shape at blocks i n
commits_from_same shape at at' blocks i zero same = refl
commits_from_same shape at at' blocks i (suc n) same = λ k. same i (le_refl i) (omega arith) k ∷ commits_from_same shape at at' blocks (i + 1) n (λ j low high. same j (omega arith) (omega arith)) k

-- if the blocks are the same, what is read is the same
pub reads_same : (shape : Shape) (spaces number : ℕ) (blocks : List ℕ) (old new : Flash) → IsShape shape → length blocks ≡ 2
    → SameBlocks shape blocks old new → epoch shape spaces (page_at new) number blocks ≡ epoch shape spaces (page_at old) number blocks
reads_same shape spaces number blocks old new is two same =
    epoch_is shape spaces (page_at new) number blocks (epoch_commits shape) is two refl
    ∙ ap (journal shape spaces number 0 [])
    (commits_from_same shape (page_at old) (page_at new) blocks 0 (epoch_commits shape) (λ j low high. commit_same shape blocks old new is j same (omega (arith, high))))
    ∙ sym (epoch_is shape spaces (page_at old) number blocks (epoch_commits shape) is two refl)

-- an epoch whose first commit has no page that is whole has no entries
pub reads_none : (shape : Shape) (spaces : ℕ) (at : ℕ → Page) (number : ℕ) (blocks : List ℕ) → IsShape shape → length blocks ≡ 2 → IsNotWhole (commit_at shape at blocks 0).1 → epoch shape spaces at number blocks ≡ Ok []
reads_none shape spaces at number blocks is two not_whole = epoch_is shape spaces at number blocks (epoch_commits shape) is two refl ∙ ends shape spaces number blocks at 0 [] (epoch_commits shape) not_whole
