-- A word of a pair: the resync before it, and what it asks then.
use Rattle.std.proofs.Common.{◌≡◌, inl, inr, ℕ, ◌+◌, ◌≤◌, ◌⊎◌, ◌==◌, if◌then◌else◌, List, [], ◌∷◌, ◌++◌, Some, false, refl, sym, ap, subst, ◌∙◌, arith}
use Rattle.std.proofs.lemmas.List.{append_assoc, append-nil}
use Rattle.pk_base.{specs.Shape.Shape, specs.Map.Map}
use Rattle.pk_nvme.{specs.Command.Command, specs.declared.opcode.TheConstants.STORE, specs.declared.opcode.TheConstants.DELETE}
use Rattle.pk_host.{specs.Port.PortState, specs.Port.Took, specs.Outcomes.TookSome}
use Rattle.pk_words.specs.Lines.{status_line}
use Rattle.pk_mirror.{specs.declared.error.MirrorError.MirrorError}
use Rattle.pk_mirror.specs.declared.error.MirrorError.TheVariants.{Refused, Port, Split}
use Rattle.pk_mirror.{specs.Spending.opcode_count, specs.Spending.OnlyDiffering, specs.Spending.AreOfResync, specs.Spending.AreWholeResync, proofs.SpendLemmas.looks_alone}
use Rattle.pk_mirror.{specs.Pair.Mirrored, specs.Pair.IsPair, specs.Causes.OnlyAsks, specs.Causes.AreAsking, specs.Causes.IsCause, specs.Causes.IsReadError}
use Rattle.pk_mirrorwords.specs.PairTasks.{PairTask, put, get, delete, list, resync, change_of, text_of, map_left}
use Rattle.pk_mirrorwords.specs.PairAnswers.{IsToldPair, IsInStep, PairDone, PairFails, AreChange, AreOfWord, AreOfPair, AreOfSecond, AsksSecond, AsksAllOfSecond}
use Rattle.pk_mirrorwords.proofs.Paging.{unread_later, fault_later, failed_so, told_after}

-- ---- commands

pair_both : (cs ds : List Command) → AreOfPair cs → AreOfPair ds → AreOfPair (cs ++ ds)
pair_both [] ds h g = g
pair_both (c ∷ cs) ds h g = (h.0, pair_both cs ds h.1 g)

count_both : (opcode : ℕ) (cs ds : List Command) → opcode_count opcode (cs ++ ds) ≡ opcode_count opcode cs + opcode_count opcode ds
count_both opcode [] ds = omega arith
count_both opcode (c ∷ cs) ds = let e = count_both opcode cs ds in omega (arith, e)

asking_both : (cs ds : List Command) → AreAsking cs → AreAsking ds → AreAsking (cs ++ ds)
asking_both [] ds h g = g
asking_both (c ∷ cs) ds h g = (h.0, asking_both cs ds h.1 g)

-- a List or a Retrieve changes nothing
one_if : ℕ → ℕ → ℕ
one_if opcode given = if given == opcode then 1 else 0

asks_count : (c : Command) → OnlyAsks c → (◌≡◌ {A = ℕ} (if c.opcode == DELETE then 1 else 0) 0) × (◌≡◌ {A = ℕ} (if c.opcode == STORE then 1 else 0) 0)
unfolding one_if
asks_count c (inl (from, e)) = (ap (λ (d : Command). one_if DELETE d.opcode) e, ap (λ (d : Command). one_if STORE d.opcode) e)
asks_count c (inr (key, size, e)) = (ap (λ (d : Command). one_if DELETE d.opcode) e, ap (λ (d : Command). one_if STORE d.opcode) e)

-- no more than this many delete or store
abbrev HaveFew : ℕ → List Command → Type 0
HaveFew n cs = AreOfPair cs × (opcode_count DELETE cs + opcode_count STORE cs ≤ n)

few_more : (n : ℕ) (cs ds : List Command) → AreAsking cs → HaveFew n ds → HaveFew n (cs ++ ds)
few_more n [] ds h g = g
few_more n (c ∷ cs) ds h g =
    let (d, s) = asks_count c h.0 in
    let (only, rest) = few_more n cs ds h.1 g in
    ((inl (inl (inl h.0)), only), omega (arith, d, s, rest))

one_change : (task : PairTask) (change : List Command) → AreChange (change_of task) change → HaveFew 1 change
one_change (put key value) change (inl none) = subst (HaveFew 1) (sym none) (tt, omega arith)
one_change (put key value) change (inr one) = subst (HaveFew 1) (sym one) ((inr (refl, refl), tt), omega arith)
one_change (delete key) change (inl none) = subst (HaveFew 1) (sym none) (tt, omega arith)
one_change (delete key) change (inr one) = subst (HaveFew 1) (sym one) ((inl (inr (refl, refl)), tt), omega arith)
one_change (get key) change none = subst (HaveFew 1) (sym none) (tt, omega arith)
one_change list change none = subst (HaveFew 1) (sym none) (tt, omega arith)
one_change resync change none = subst (HaveFew 1) (sym none) (tt, omega arith)

-- at most one command of a word changes the maps
few_of_word : (task : PairTask) (cs : List Command) → AreOfWord task cs → HaveFew 1 cs
few_of_word task cs h = subst (HaveFew 1) (sym h.are) (few_more 1 h.asks h.change h.asking (one_change task h.change h.changing))

-- none at all
no_change : (task : PairTask) → AreChange (change_of task) []
no_change (put key value) = inl refl
no_change (delete key) = inl refl
no_change _ = refl

-- commands that only ask, of a word
pub word_asks : (task : PairTask) (cs : List Command) → AreAsking cs → AreOfWord task cs
word_asks task cs h = record { asks = cs; change = []; asking = h; changing = no_change task; are = sym (append-nil cs) }

of_both : (task : PairTask) (a b : Map) (cs ds : List Command) → AreOfPair cs → OnlyDiffering a b cs → AreOfWord task ds → AreOfSecond task a b (cs ++ ds)
of_both task a b cs ds only differing asking =
    let (pair, last) = few_of_word task ds asking in
    let deletes = differing.deletes in
    let stores = differing.stores in
    let d = count_both DELETE cs ds in
    let s = count_both STORE cs ds in
    record {
      resync = cs;
      word = ds;
      differing = differing;
      quiet = λ same. looks_alone b cs only (subst (λ (m : Map). OnlyDiffering m b cs) same differing);
      asking = asking;
      are = refl;
      only = pair_both cs ds only pair;
      few = omega (arith, deletes, stores, last, d, s);
    }

then_word : (task : PairTask) (first second : PortState) (cs ds : List Command) → AreOfResync first second cs → AreOfWord task ds → AsksSecond task first second (cs ++ ds)
then_word task first second cs ds h g = record {
  only = pair_both cs ds h.only (few_of_word task ds g).0;
  known = λ a b ea eb. of_both task a b cs ds h.only (h.known a b ea eb) g;
}

module _ {P : Type 0} (took : P → List Command → P → Type 0) (both : (p : P) (cs : List Command) (q : P) (ds : List Command) (r : P) → took p cs q → took q ds r → took p (cs ++ ds) r) where
  -- the resync asks, and then the word
  pub first_both : (task : PairTask) (p q r : P) → TookSome took AreAsking p q → TookSome took (AreOfWord task) q r → TookSome took (AreOfWord task) p r
  first_both task p q r h g = (
    h.0 ++ g.0,
    record {
      asks = h.0 ++ g.1.asks;
      change = g.1.change;
      asking = asking_both h.0 g.1.asks h.1 g.1.asking;
      changing = g.1.changing;
      are = ap (λ (ds : List Command). h.0 ++ ds) g.1.are ∙ sym (append_assoc h.0 g.1.asks g.1.change);
    },
    both p h.0 q g.0 r h.2 g.2,
  )

  -- the resync, and then the word
  pub second_both : (task : PairTask) (first second : PortState) (p q r : P) → TookSome took (AreOfResync first second) p q
      → TookSome took (AreOfWord task) q r → TookSome took (AsksSecond task first second) p r
  second_both task first second p q r h g = (h.0 ++ g.0, then_word task first second h.0 g.0 h.1 g.1, both p h.0 q g.0 r h.2 g.2)

  pub second_all : (task : PairTask) (first second : PortState) (p q r : P) → TookSome took (AreWholeResync first second) p q
      → TookSome took (AreOfWord task) q r → TookSome took (AsksAllOfSecond task first second) p r
  unfolding of_both
  second_all task first second p q r h g = (
    h.0 ++ g.0,
    λ a b ea eb. let all = h.1.known a b ea eb in record {
      parts = of_both task a b h.0 g.0 h.1.only all.differing g.1;
      all = all;
    },
    both p h.0 q g.0 r h.2 g.2,
  )

-- the resync alone
pub second_alone : {P : Type 0} (took : P → List Command → P → Type 0) (task : PairTask) (first second : PortState) (p q : P)
    → TookSome took (AreOfResync first second) p q → TookSome took (AsksSecond task first second) p q
second_alone took task first second p q h =
    (h.0, subst (AsksSecond task first second) (append-nil h.0) (then_word task first second h.0 [] h.1 (word_asks task [] tt)), h.2)

-- ---- answers

module _ (task : PairTask) (p p1 p' q q1 q' : PortState) (cs ds : List Command) (t : Took p p1 cs) (u : Took q q1 ds) (m : Map) where
  pub done_later : (text : List ℕ) → PairDone task p1 p' q' m text → PairDone task p p' q' m text
  done_later text h = record {
    spelled = h.spelled ∙ ap (λ (s : Shape). text_of s p1.limit task m) t.shape ∙ ap (λ (n : ℕ). text_of p.shape n task m) t.limit;
    first_left = h.first_left ∙ ap (λ (s : Shape). Some (map_left s (p1.limit ∷ []) task m)) t.shape ∙ ap (λ (n : ℕ). Some (map_left p.shape (n ∷ []) task m)) t.limit;
    second_left = h.second_left ∙ ap (λ (s : Shape). Some (map_left s (p1.limit ∷ []) task m)) t.shape ∙ ap (λ (n : ℕ). Some (map_left p.shape (n ∷ []) task m)) t.limit;
  }

  pub fails_later : (e : MirrorError) → PairFails task p1 p' q1 q' m e → PairFails task p p' q q' m e
  fails_later (Refused side status) (inl done) = inl (done_later (status_line status) done)
  fails_later (Refused side status) (inr (unread, is)) = inr (unread_later p p1 p' q q1 q' cs ds t u unread, is)
  fails_later _ fault = fault_later p p1 p' q q1 q' cs ds t u fault

-- a resync that failed
pub resync_fails : (task : PairTask) (p p' q q' : PortState) (m : Map) (e : MirrorError) → IsCause p p' q q' e → IsReadError e → PairFails task p p' q q' m e
resync_fails task p p' q q' m (Refused side status) cause unread = inr (failed_so p p' q q' (Refused side status) cause unread)
resync_fails task p p' q q' m (Port side) cause unread = failed_so p p' q q' (Port side) cause unread
resync_fails task p p' q q' m Split cause unread = absurd cause

-- a word that was done began after a resync
pub asked_done : (asked : Type 0) → asked ⊎ ⊥ → asked
asked_done asked (inl some) = some
asked_done asked (inr never) = absurd never

-- a resync leaves the pair in step
pub in_step_after : (old new : Mirrored) (p p' q q' : PortState) (cs : List Command) → IsToldPair old p q → Took p p' cs → IsPair new p' q' → p'.map ≡ p.map → new.split ≡ false → IsInStep new p' q'
in_step_after old new p p' q q' cs told t pair keeps off = record { pair = told_after old new p p' q q' cs told t pair keeps; in_step = off }
