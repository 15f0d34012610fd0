-- Tables of homes of frames: of one that is made anew, of the others, and of frames of zeros.
use Rattle.std.proofs.Common.{◌^◌, Bool, false, ◌≡◌, ◌≢◌, ℕ, zero, suc, ◌*◌, ◌<◌, List, [], length, get_or, set, take, drop, replicate, refl, sym, ◌∙◌, arith, inl, inr, subst}
use Rattle.std.proofs.lemmas.List.{length-replicate, get_or-drop, get_or-set_same, get_or-set_other, get_or_past}
use Rattle.std.proofs.lemmas.Bool.{cases_lt}
use Rattle.std.{specs.Prelude.not, specs.Prelude.count_by, proofs.lemmas.List.Folds.sum_by-replicate}
use Rattle.pk_base.specs.Fields.{number_at}
use Rattle.pk_homes.{specs.Homes.home_of, specs.Homes.IsAtHome, proofs.Homes.no_homes}
use Rattle.pk_pin.specs.Frames.{chunks}
use Rattle.pk_pin.specs.Index.{hash_in, IsIndexed, AllIndexed, IsNumberOf, IsArena, IndexesFrame}
use Rattle.pk_pin.proofs.Cuts.{length-chunks, get_or-chunks}

-- ---- frames of zeros

zeros_in : (a b m j : ℕ) → ◌≡◌ {A = ℕ} (get_or (take a (drop b (replicate m 0))) j 0) 0
zeros_in zero b m j = refl
zeros_in (suc a) zero zero j = refl
zeros_in (suc a) zero (suc m) zero = refl
zeros_in (suc a) zero (suc m) (suc j) = zeros_in a zero m j
zeros_in (suc a) (suc b) zero j = refl
zeros_in (suc a) (suc b) (suc m) j = zeros_in (suc a) b m j

no_number : (page : List ℕ) → ((j : ℕ) → get_or page j 0 ≡ 0) → number_at 2 10 page ≡ 0
no_number page none =
    rw (get_or-drop 10 page 0 0, get_or-drop 10 page 1 0, none 10, none 11) refl

none_indexed : (page table : List ℕ) → ((j : ℕ) → get_or page j 0 ≡ 0) → IsIndexed page table
none_indexed page table none h = rw (no_number page none) (no_homes (hash_in page) table)

zero_chunk : (p n m f j : ℕ) → get_or (get_or (chunks p n (replicate m 0)) f []) j 0 ≡ 0
zero_chunk p n m f j =
    elim (cases_lt f n) [
      | inl less ↦ rw (get_or-chunks p n (replicate m 0) f [] less) (zeros_in p (f * p) m j)
      | inr past ↦ rw (get_or_past (chunks p n (replicate m 0)) f [] (rw (length-chunks p n (replicate m 0)) past)) refl
    ]

pub zeros_indexed : (p n m h : ℕ) (ts : List ℕ) → AllIndexed (chunks p n (replicate m 0)) (chunks h n ts)
zeros_indexed p n m h ts f = none_indexed (get_or (chunks p n (replicate m 0)) f []) (get_or (chunks h n ts) f []) (zero_chunk p n m f)

-- ---- a frame that is filled

-- of the pages in frames and their tables, one of each is written
set_indexed : (fs ts : List (List ℕ)) (i f : ℕ) (page table : List ℕ) → AllIndexed fs ts → i < length fs → i < length ts → IsIndexed page table
    → IsIndexed (get_or (set fs i page) f []) (get_or (set ts i table) f [])
set_indexed fs ts i f page table all h k new =
    elim (cases_lt f i) [
      | inl less ↦ other (λ e. omega arith)
      | inr le ↦ elim (cases_lt i f) [
        | inl less ↦ other (λ e. omega arith)
        | inr ge ↦
            let same : i ≡ f = omega arith in
            subst (λ (j : ℕ). IsIndexed (get_or (set fs i page) j []) (get_or (set ts i table) j [])) same
            (rw (get_or-set_same fs i page [] h, get_or-set_same ts i table [] k) new)
      ]
    ]
  where
    other : f ≢ i → IsIndexed (get_or (set fs i page) f []) (get_or (set ts i table) f [])
    other apart = rw (get_or-set_other fs i f page [] apart, get_or-set_other ts i f table [] apart) (all f)

pub frame_indexed : (p q n i : ℕ) (bs cs ts us page table : List ℕ) → AllIndexed (chunks p n bs) (chunks q n ts) → i < n
    → chunks p n cs ≡ set (chunks p n bs) i page → chunks q n us ≡ set (chunks q n ts) i table → IsIndexed page table → AllIndexed (chunks p n cs) (chunks q n us)
frame_indexed p q n i bs cs ts us page table all h frames tables new f =
    rw (frames, tables)
    (set_indexed (chunks p n bs) (chunks q n ts) i f page table all (rw (length-chunks p n bs) h) (rw (length-chunks q n ts) h) new)

-- ---- the arena

all_free : (n : ℕ) → count_by not (replicate n false) ≡ n
all_free n = grind (arith, sum_by-replicate)

-- of a new arena all frames are free, and all bytes and homes are zeros
pub new_arena : (page homes n : ℕ) → n < 2 ^ 32 → 0 < homes → homes < 2 ^ 16 → IsArena page homes n (replicate n false) (replicate (n * page) 0) (replicate (n * homes) 0)
new_arena page homes n most some few = record {
  counted = sym (all_free n);
  most = rw length-replicate most;
  pages = simp length-replicate refl;
  some = some;
  few = few;
  whole = simp length-replicate refl;
  indexed = zeros_indexed page (length (replicate n false)) (n * page) homes (replicate (n * homes) 0);
}

-- a frame and its table are made anew
pub filled_arena : (page homes free i : ℕ) (us : List Bool) (bs ts cs vs from : List ℕ) → IsArena page homes free us bs ts → i < length us → length cs ≡ length bs
    → chunks page (length us) cs ≡ set (chunks page (length us) bs) i from → length vs ≡ length ts → IndexesFrame homes (length us) i from ts vs → IsArena page homes free us cs vs
filled_arena page homes free i us bs ts cs vs from old less pages filled whole made = record {
  counted = old.counted;
  most = old.most;
  pages = pages ∙ old.pages;
  some = old.some;
  few = old.few;
  whole = whole ∙ old.whole;
  indexed = frame_indexed page homes (length us) i bs cs ts vs from made.0 old.indexed less filled made.1 made.2;
}

-- ---- what a home says

pub number_is : (page table : List ℕ) (hash n : ℕ) → IsIndexed page table → get_or table (home_of hash (length table)) 0 ≡ n → IsNumberOf page hash n
number_is page table hash n indexed read has i less same =
    let noted : IsAtHome table (home_of (hash_in page i) (length table)) i = (indexed has).noted i less in
    let here : IsAtHome table (home_of hash (length table)) i = subst (λ (x : ℕ). IsAtHome table (home_of x (length table)) i) same noted in
    elim here [
      | inl at ↦ inl (sym read ∙ at)
      | inr many ↦ inr (omega (arith, read, many))
    ]

-- the number at a home of the table of a frame
pub number_in : (p q n f hash home k : ℕ) (bs ts table : List ℕ) → AllIndexed (chunks p n bs) (chunks q n ts) → table ≡ get_or (chunks q n ts) f []
    → home ≡ home_of hash (length table) → get_or table home 0 ≡ k → IsNumberOf (get_or (chunks p n bs) f []) hash k
number_in p q n f hash home k bs ts table all is place read =
    number_is (get_or (chunks p n bs) f []) table hash k (rw is (all f)) (rw (← place) read)
