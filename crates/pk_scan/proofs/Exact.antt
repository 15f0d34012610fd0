-- How many pages are read: of an epoch, and of runs.
use Rattle.std.proofs.Common.{◌≡◌, ℕ, ◌+◌, ◌-◌, ◌*◌, ◌/◌, ◌<◌, ◌≤◌, List, [], ◌∷◌, ◌++◌, length, take, get_or, refl, sym, ap, subst, ◌∙◌, arith, Some, None}
use Rattle.std.{specs.Prelude.slice_index, proofs.lemmas.List.take_all, proofs.lemmas.List.take_more}
use Rattle.pk_base.{specs.Shape.Shape, specs.Shape.run_pages, specs.Page.Flash, specs.Page.page_at}
use Rattle.pk_nand.{specs.BoardState.BoardState, specs.Counts.after_reads}
use Rattle.pk_rootfmt.{specs.Root.Root, specs.Held.two_of, specs.Held.older_of}
use Rattle.pk_jrn.specs.EpochReads.{reads_to_end, epoch_reads}
use Rattle.pk_scan.{specs.Reads.pages_of_runs, specs.Reads.list_reads, proofs.Naming.two_is, proofs.Naming.older_is, proofs.Naming.older_none, proofs.Boards.reads_sum}

-- ---- an epoch

module _ (shape : Shape) (flash : Flash) (root : Root) where
  pub none_exact : None ≡ older_of root.older → (old : BoardState) → old ≡ after_reads (epoch_reads shape (page_at flash) root.older) old
  none_exact none old =
      let nothing : 0 * (shape.block_pages / 2) ≡ 0 = omega arith in
      let zero_reads : epoch_reads shape (page_at flash) [] ≡ 0 = ap (reads_to_end shape (page_at flash) [] 0) nothing in
      sym (ap (λ (n : ℕ). after_reads n old) (ap (epoch_reads shape (page_at flash)) (older_none root.older none) ∙ zero_reads))

  module _ (bs : List ℕ) (old new : BoardState) (reads : new ≡ after_reads (epoch_reads shape (page_at flash) bs) old) where
    named_exact : (named : List ℕ) → bs ≡ named → new ≡ after_reads (epoch_reads shape (page_at flash) named) old
    named_exact named same = subst (λ (b : List ℕ). new ≡ after_reads (epoch_reads shape (page_at flash) b) old) same reads

    pub newest_exact : bs ≡ two_of root.newest → length root.newest ≡ 2 → new ≡ after_reads (epoch_reads shape (page_at flash) root.newest) old
    newest_exact is two = named_exact root.newest (is ∙ two_is root.newest two)

    pub older_exact : Some bs ≡ older_of root.older → new ≡ after_reads (epoch_reads shape (page_at flash) root.older) old
    older_exact is = named_exact root.older (older_is root.older bs is)

-- ---- runs

pages_more : (shape : Shape) (counts : List ℕ) (count : ℕ) → pages_of_runs shape (counts ++ count ∷ []) ≡ run_pages shape count + pages_of_runs shape counts
pages_more shape [] count = refl
pages_more shape (c ∷ counts) count =
    let more = pages_more shape counts count in
    ap (λ (n : ℕ). run_pages shape c + n) more ∙ swap (run_pages shape c) (run_pages shape count) (pages_of_runs shape counts)
  where
    swap : (a b c : ℕ) → a + (b + c) ≡ b + (a + c)
    swap a b c = omega arith

-- the runs up to a level were read, and then the one of the level
pub runs_exact_next : (shape : Shape) (counts : List ℕ) (k : ℕ) (old now new : BoardState) → k < length counts
    → now ≡ after_reads (pages_of_runs shape (take k counts)) old → new ≡ after_reads (run_pages shape (slice_index counts (k + 1 - 1))) now
    → new ≡ after_reads (pages_of_runs shape (take (k + 1) counts)) old
runs_exact_next shape counts k old now new inside before more =
    let place : k + 1 - 1 ≡ k = omega arith in
    reads_sum old now new (pages_of_runs shape (take k counts)) (run_pages shape (slice_index counts (k + 1 - 1))) (pages_of_runs shape (take (k + 1) counts))
    (sym (ap (pages_of_runs shape) (take_more counts k 0 inside) ∙ pages_more shape (take k counts) (get_or counts k 0)
    ∙ ap (λ (j : ℕ). run_pages shape (slice_index counts j) + pages_of_runs shape (take k counts)) (sym place)))
    before more

-- all of them
pub runs_exact_end : (shape : Shape) (counts : List ℕ) (k : ℕ) (old now : BoardState) → length counts ≤ k
    → now ≡ after_reads (pages_of_runs shape (take k counts)) old → now ≡ after_reads (pages_of_runs shape counts) old
runs_exact_end shape counts k old now all reads = reads ∙ ap (λ (cs : List ℕ). after_reads (pages_of_runs shape cs) old) (take_all k counts all)

-- ---- all lists

pub lists_exact : (shape : Shape) (root : Root) (old first second new : BoardState)
    → first ≡ after_reads (epoch_reads shape (page_at old.pages) root.older) old → first.pages ≡ old.pages → second ≡ after_reads (epoch_reads shape (page_at first.pages) root.newest) first
    → new ≡ after_reads (pages_of_runs shape root.counts) second → new ≡ after_reads (list_reads shape (page_at old.pages) root) old
lists_exact shape root old first second new a same b c =
    let older : ℕ = epoch_reads shape (page_at old.pages) root.older in
    let newest : ℕ = epoch_reads shape (page_at old.pages) root.newest in
    let runs : ℕ = pages_of_runs shape root.counts in
    let here : second ≡ after_reads newest first = subst (λ (f : Flash). second ≡ after_reads (epoch_reads shape (page_at f) root.newest) first) same b in
    reads_sum old second new (older + newest) runs (list_reads shape (page_at old.pages) root)
    (swap runs (older + newest)) (reads_sum old first second older newest (older + newest) (swap newest older) a here) c
  where
    swap : (m n : ℕ) → m + n ≡ n + m
    swap m n = omega arith
