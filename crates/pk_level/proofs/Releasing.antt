-- Frames of levels that are freed, one run after another.
use Rattle.std.proofs.Common.{◌≡◌, ℕ, zero, suc, ◌+◌, ◌-◌, ◌<◌, ◌≤◌, Bool, true, false, if◌then◌else◌, nat_le, List, [], ◌∷◌, ◌++◌, length, map, slice_get, get_or, refl, ap, sym, subst, ◌∙◌, arith}
use Rattle.std.proofs.Common.{Some, append_assoc}
use Rattle.std.{specs.Prelude.slice_set, specs.Prelude.slice_index_or, proofs.lemmas.Bool.lt-leb, proofs.lemmas.Option.slice_get-get_or}
use Rattle.pk_base.{specs.Shape.Shape, specs.Entry.Entry, specs.Page.Flash}
use Rattle.pk_pin.{specs.Frames.Frames, specs.Frames.AreLeases, specs.Frames.times, proofs.Leases.times-append}
use Rattle.pk_adapt.specs.Adapted.{adapted}
use Rattle.pk_run.{specs.Kept.Kept, specs.Kept.RunOnFlash, specs.Kept.empty, specs.Leases.AreLeased, specs.Leases.LeavesOthers, specs.Leases.LeavesOtherLeases, proofs.Others.among}
use Rattle.pk_run.proofs.Leasing.{are_leased, at_most_one}
use Rattle.pk_level.specs.Levels.{Levels, IsLevels, RunsOnFlash, HaveBlocks, run_of, with_run}
use Rattle.pk_level.specs.Arenas.{AreBareAbove, BaresRun, Releases, bared, bare_from, leases_of, page_counts, last_level}

-- the first n of the runs are without their frames
abbrev bare_first : ℕ → ℕ → ℕ → List Kept → List Kept
bare_first zero last level rs = rs
bare_first (suc n) last level [] = []
bare_first (suc n) last level (r ∷ rs) = bared last level r ∷ bare_first n last (suc level) rs

same_level : (last level other : ℕ) (r : Kept) → other ≡ level → bared last other r ≡ bared last level r
same_level last level other r e = ap (λ (l : ℕ). bared last l r) e

bare_next : (n last level : ℕ) (rs : List Kept) (d : Kept) → n < length rs
    → slice_set (bare_first n last level rs) n (bared last (level + n) (slice_index_or (bare_first n last level rs) n d)) ≡ bare_first (suc n) last level rs
bare_next n last level [] d h = absurd (omega (arith, h))
bare_next zero last level (r ∷ rs) d h = ap (λ (x : Kept). x ∷ rs) (same_level last level (level + 0) r (omega arith))
bare_next (suc n) last level (r ∷ rs) d h =
    let own : Kept = slice_index_or (bare_first n last (suc level) rs) n d in
    ap (λ (x : Kept). bared last level r ∷ slice_set (bare_first n last (suc level) rs) n x) (same_level last (suc level + n) (level + suc n) own (omega arith))
    ∙ ap (λ (xs : List Kept). bared last level r ∷ xs) (bare_next n last (suc level) rs d (omega (arith, h)))

bare_length : (n last level : ℕ) (rs : List Kept) → length (bare_first n last level rs) ≡ length rs
bare_length (suc n) last level (r ∷ rs) = ap suc (bare_length n last (suc level) rs)
bare_length n last level rs = refl

bare_all : (n last level : ℕ) (rs : List Kept) → length rs ≤ n → bare_first n last level rs ≡ bare_from last level rs
bare_all zero last level (r ∷ rs) h = absurd (omega (arith, h))
bare_all (suc n) last level (r ∷ rs) h = ap (λ (xs : List Kept). bared last level r ∷ xs) (bare_all n last (suc level) rs (omega (arith, h)))
bare_all n last level rs h = refl

one_bare : (b : Bool) (r : Kept) → (if b then r else record r { leases = [] }) ≡ record r { leases = (if b then r else record r { leases = [] }).leases }
one_bare true r = refl
one_bare false r = refl

-- what does not depend on leases is the same of all
bare_map : {A : Type 0} (f : Kept → A) → ((b : Bool) (r : Kept) → f (if b then r else record r { leases = [] }) ≡ f r)
    → (last level : ℕ) (rs : List Kept) → map f (bare_from last level rs) ≡ map f rs
bare_map f same last level [] = refl
bare_map f same last level (r ∷ rs) = λ i. same (nat_le level last) r i ∷ bare_map f same last (suc level) rs i

bare_pages : (last level : ℕ) (rs : List Kept) → page_counts (bare_from last level rs) ≡ page_counts rs
bare_pages = bare_map (λ (r : Kept). length r.firsts) (λ b r. ap (λ (x : Kept). length x.firsts) (one_bare b r))

are_bare : (last level : ℕ) (rs : List Kept) → AreBareAbove last level (bare_from last level rs)
are_bare last level [] = tt
are_bare last level (r ∷ rs) =
    (λ above. ap (λ (b : Bool). (if b then r else record r { leases = [] }).leases) (lt-leb level last above), are_bare last (suc level) rs)

-- ---- leases

-- the leases of a run among those of all
leases_split : (rs : List Kept) (n : ℕ) (r r' : Kept) → slice_get rs n ≡ Some r
    → (front : List ℕ) × (behind : List ℕ) × (leases_of rs ≡ front ++ (r.leases ++ behind)) × (leases_of (slice_set rs n r') ≡ front ++ (r'.leases ++ behind))
leases_split [] n r r' got = cc
leases_split (x ∷ rs) zero r r' got = let same : x ≡ r = cc in ([], leases_of rs, ap (λ (y : Kept). y.leases ++ leases_of rs) same, refl)
leases_split (x ∷ rs) (suc n) r r' got =
    let rest = leases_split rs n r r' got in (
      x.leases ++ rest.0,
      rest.1,
      ap (λ (ls : List ℕ). x.leases ++ ls) rest.2 ∙ sym (append_assoc x.leases rest.0 (r.leases ++ rest.1)),
      ap (λ (ls : List ℕ). x.leases ++ ls) rest.3 ∙ sym (append_assoc x.leases rest.0 (r'.leases ++ rest.1)),
    )

row_of : (front own behind others : List ℕ) → (front ++ (own ++ behind)) ++ others ≡ front ++ (own ++ (behind ++ others))
row_of front own behind others = append_assoc front (own ++ behind) others ∙ ap (λ (ls : List ℕ). front ++ ls) (append_assoc own behind others)

within_all : (x : ℕ) (rs : List Kept) (n : ℕ) (r : Kept) → slice_get rs n ≡ Some r → times x r.leases ≤ times x (leases_of rs)
within_all x [] n r got = cc
within_all x (y ∷ rs) zero r got =
    let same : y ≡ r = cc in
    let both = times-append x y.leases (leases_of rs) in
    let own : times x y.leases ≡ times x r.leases = ap (λ (z : Kept). times x z.leases) same in
    omega (arith, both, own)
within_all x (y ∷ rs) (suc n) r got =
    let both = times-append x y.leases (leases_of rs) in
    let rest = within_all x rs n r got in
    omega (arith, both, rest)

-- nobody else has a lease of the run
alone : (arena : Frames) (rs : List Kept) (others : List ℕ) (n : ℕ) (r : Kept) → slice_get rs n ≡ Some r → AreLeases arena (leases_of rs ++ others)
    → (i x : ℕ) → slice_get r.leases i ≡ Some x → times x (leases_of rs) ≡ times x r.leases
alone arena rs others n r got all i x has =
    let there = among r.leases i x has in
    let low = within_all x rs n r got in
    let both = times-append x (leases_of rs) others in
    let whole = all x in
    let one = at_most_one (get_or arena.used x false) in
    omega (arith, there, low, both, whole, one)

-- ---- runs that are as before

stand_others : (flash : Flash) (leases : List ℕ) (before after : Frames) (rs : List Kept) (ess : List (List Entry)) → LeavesOthers leases before after
    → ((i x : ℕ) → slice_get leases i ≡ Some x → times x (leases_of rs) ≡ 0) → RunsOnFlash flash before rs ess → RunsOnFlash flash after rs ess
stand_others flash leases before after (r ∷ rs) (es ∷ ess) leaves none each = (
  leaves r flash es (λ i x got. let all = none i x got in let both = times-append x r.leases (leases_of rs) in omega (arith, all, both)) each.0,
  stand_others flash leases before after rs ess leaves (λ i x got. let all = none i x got in let both = times-append x r.leases (leases_of rs) in omega (arith, all, both)) each.1,
)
stand_others flash leases before after rs ess leaves none each = each

stand_bared : (flash : Flash) (before after : Frames) (rs : List Kept) (ess : List (List Entry)) (n : ℕ) (r r' : Kept) → slice_get rs n ≡ Some r
    → ((i x : ℕ) → slice_get r.leases i ≡ Some x → times x (leases_of rs) ≡ times x r.leases)
    → ((es : List Entry) → RunOnFlash r flash before es → RunOnFlash r' flash after es) → LeavesOthers r.leases before after
    → RunsOnFlash flash before rs ess → RunsOnFlash flash after (slice_set rs n r') ess
stand_bared flash before after [] ess n r r' got only own leaves each = cc
stand_bared flash before after (x ∷ rs) [] n r r' got only own leaves each = absurd each
stand_bared flash before after (x ∷ rs) (es ∷ ess) zero r r' got only own leaves each =
    let same : x ≡ r = cc in (
      own es (subst (λ (y : Kept). RunOnFlash y flash before es) same each.0),
      stand_others flash r.leases before after rs ess leaves
          (λ i l is.
          let all = only i l is in
          let both = times-append l x.leases (leases_of rs) in
          let mine : times l x.leases ≡ times l r.leases = ap (λ (y : Kept). times l y.leases) same in
          omega (arith, all, both, mine))
          each.1,
    )
stand_bared flash before after (x ∷ rs) (es ∷ ess) (suc n) r r' got only own leaves each = (
  leaves x flash es
      (λ i l is.
      let all = only i l is in
      let both = times-append l x.leases (leases_of rs) in
      let low = within_all l rs n r got in
      omega (arith, all, both, low))
      each.0,
  stand_bared flash before after rs ess n r r' got
      (λ i l is.
      let all = only i l is in
      let both = times-append l x.leases (leases_of rs) in
      let low = within_all l rs n r got in
      omega (arith, all, both, low))
      own leaves each.1,
)

-- ---- so far

-- The first n runs have no frames if they are after the last level, and all are as before.
pub record Baring (n last : ℕ) (levels : Levels) (arena : Frames) (levels' : Levels) (arena' : Frames) : Type 0 where
  pub levels_are : levels' ≡ record levels { runs = bare_first n last 1 levels.runs }
  pub stand : (flash : Flash) (ess : List (List Entry)) → RunsOnFlash flash arena levels.runs ess → RunsOnFlash flash arena' levels'.runs ess
  pub leases : (others : List ℕ) → AreLeases arena (leases_of levels.runs ++ others) → AreLeases arena' (leases_of levels'.runs ++ others)
  pub same_bytes : arena'.page_bytes ≡ arena.page_bytes
  pub same_size : length arena'.used ≡ length arena.used

pub Baring-none : (last : ℕ) (levels : Levels) (arena : Frames) → Baring 0 last levels arena levels arena
Baring-none last levels arena = record { levels_are = refl; stand = λ flash ess each. each; leases = λ others all. all; same_bytes = refl; same_size = refl }

module _ (n last : ℕ) (levels : Levels) (arena : Frames) (then_levels : Levels) (then_arena : Frames) (others : List ℕ)
    (is : IsLevels levels) (few : suc n ≤ 4) (so_far : Baring n last levels arena then_levels then_arena)
    (all : AreLeases arena (leases_of levels.runs ++ others)) where
  four : length then_levels.runs ≡ 4
  four = ap (λ (ls : Levels). length ls.runs) so_far.levels_are ∙ bare_length n last 1 levels.runs ∙ is.four

  one_less : suc n - 1 ≡ n
  one_less = omega arith

  got : slice_get then_levels.runs n ≡ Some (run_of then_levels (suc n))
  got =
      let long = four in
      let here = slice_get-get_or then_levels.runs (suc n - 1) (empty then_levels.shape (suc n)) (omega (arith, long, few)) in
      subst (λ (i : ℕ). slice_get then_levels.runs i ≡ Some (run_of then_levels (suc n))) one_less here

  own_is : run_of then_levels (suc n) ≡ slice_index_or then_levels.runs n (empty then_levels.shape (suc n))
  own_is = ap (λ (i : ℕ). slice_index_or then_levels.runs i (empty then_levels.shape (suc n))) one_less

  -- the frames of the next run may be freed
  pub next_leased : AreLeased then_arena (run_of then_levels (suc n)).leases
  next_leased =
      let split = leases_split then_levels.runs n (run_of then_levels (suc n)) (run_of then_levels (suc n)) got in
      let row = subst (λ (ls : List ℕ). AreLeases then_arena (ls ++ others)) split.2 (so_far.leases others all) in
      are_leased then_arena split.0 (run_of then_levels (suc n)).leases (split.1 ++ others)
      (subst (λ (ls : List ℕ). AreLeases then_arena ls) (row_of split.0 (run_of then_levels (suc n)).leases split.1 others) row)

  pub Baring-next : (levels' : Levels) (arena' : Frames) → BaresRun (suc n) last then_levels then_arena levels' arena' → Baring (suc n) last levels arena levels' arena'
  Baring-next levels' arena' b =
      let own : Kept = run_of then_levels (suc n) in
      let r' : Kept = bared last (suc n) own in
      let long = is.four in
      let level : suc n ≡ 1 + n = omega arith in
      let next : slice_set then_levels.runs n r' ≡ bare_first (suc n) last 1 levels.runs =
      ap (λ (l : ℕ). slice_set then_levels.runs n (bared last l own)) level
      ∙ ap (λ (x : Kept). slice_set then_levels.runs n (bared last (1 + n) x)) own_is
      ∙ ap (λ (ls : Levels). slice_set ls.runs n (bared last (1 + n) (slice_index_or ls.runs n (empty ls.shape (suc n))))) so_far.levels_are
      ∙ bare_next n last 1 levels.runs (empty levels.shape (suc n)) (omega (arith, long, few)) in
      let here : levels' ≡ record then_levels { runs = slice_set then_levels.runs n r' } = b.levels_are ∙ ap (λ (i : ℕ). record then_levels { runs = slice_set then_levels.runs i r' }) one_less in
      let split = leases_split then_levels.runs n own r' got in
      record {
        levels_are = here ∙ ap (λ (ls : Levels). record ls { runs = slice_set then_levels.runs n r' }) so_far.levels_are ∙ ap (λ (rs : List Kept). record levels { runs = rs }) next;
        stand = λ flash ess each.
            subst (λ (ls : Levels). RunsOnFlash flash arena' ls.runs ess) (sym here)
            (stand_bared flash then_arena arena' then_levels.runs ess n own r' got
            (alone then_arena then_levels.runs others n own got (so_far.leases others all)) (b.stands flash) b.others (so_far.stand flash ess each));
        leases = λ more had.
            let row = subst (λ (ls : List ℕ). AreLeases then_arena (ls ++ more)) split.2 (so_far.leases more had) in
            let given = b.leases split.0 (split.1 ++ more) (subst (λ (ls : List ℕ). AreLeases then_arena ls) (row_of split.0 own.leases split.1 more) row) in
            let back = subst (λ (ls : List ℕ). AreLeases arena' ls) (sym (row_of split.0 r'.leases split.1 more)) given in
            subst (λ (ls : Levels). AreLeases arena' (leases_of ls.runs ++ more)) (sym here) (subst (λ (ls : List ℕ). AreLeases arena' (ls ++ more)) (sym split.3) back);
        same_bytes = b.same_bytes ∙ so_far.same_bytes;
        same_size = b.same_size ∙ so_far.same_size;
      }

-- all of them
pub released : (levels : Levels) (arena : Frames) (levels' : Levels) (arena' : Frames) → IsLevels levels
    → Baring 4 (last_level levels (length arena.used)) levels arena levels' arena' → Releases levels arena levels' arena'
released levels arena levels' arena' is b =
    let last : ℕ = last_level levels (length arena.used) in
    let long = is.four in
    let all : bare_first 4 last 1 levels.runs ≡ bare_from last 1 levels.runs = bare_all 4 last 1 levels.runs (omega (arith, long)) in
    let are : levels' ≡ record levels { runs = bare_from last 1 levels.runs } = b.levels_are ∙ ap (λ (rs : List Kept). record levels { runs = rs }) all in
    record {
      levels_are = are;
      stand = b.stand;
      arena_is = λ others has.
          let lasts : last_level levels' (length arena.used) ≡ last =
          ap (λ (ls : Levels). last_level ls (length arena.used)) are ∙ ap (λ (ps : List ℕ). adapted levels.shape (length arena.used) ps) (bare_pages last 1 levels.runs) in
          record {
            leases = record {
              page_bytes_is = b.same_bytes ∙ has.page_bytes_is;
              size = b.same_size ∙ has.size;
              pinned_is = ap (λ (ls : Levels). ls.pinned) are ∙ has.pinned_is;
              only_these = b.leases others has.only_these;
            };
            bare = subst (λ (n : ℕ). AreBareAbove n 1 levels'.runs) (sym lasts) (subst (λ (ls : Levels). AreBareAbove last 1 ls.runs) (sym are) (are_bare last 1 levels.runs));
          };
    }

-- ---- one run

module _ (levels : Levels) (level last : ℕ) (arena : Frames) (r' : Kept) (arena' : Frames) (levels' : Levels) where
  abbrev former : Kept
  former = run_of levels level

  pub bares : last < level → levels' ≡ with_run levels level r' → r' ≡ record former { leases = [] }
      → ((flash : Flash) (es : List Entry) → RunOnFlash former flash arena es → RunOnFlash r' flash arena' es)
      → LeavesOthers former.leases arena arena' → LeavesOtherLeases former.leases arena arena'
      → arena'.page_bytes ≡ arena.page_bytes → length arena'.used ≡ length arena.used → BaresRun level last levels arena levels' arena'
  bares above are is stands others leases bytes size =
      let here : bared last level former ≡ r' = ap (λ (b : Bool). if b then former else record former { leases = [] }) (lt-leb level last above) ∙ sym is in
      record {
        levels_are = are ∙ ap (λ (r : Kept). with_run levels level r) (sym here);
        stands = λ flash es s. subst (λ (r : Kept). RunOnFlash r flash arena' es) (sym here) (stands flash es s);
        others = others;
        leases = λ front behind all.
            let none : r'.leases ≡ [] = ap (λ (r : Kept). r.leases) is in
            let given = leases front behind all in
            subst (λ (r : Kept). AreLeases arena' (front ++ (r.leases ++ behind))) (sym here) (subst (λ (ls : List ℕ). AreLeases arena' (front ++ (ls ++ behind))) (sym none) given);
        same_bytes = bytes;
        same_size = size;
      }

-- ---- what is no lease stays

-- the runs have the same blocks
pub bare_blocks : (shape : Shape) (last level : ℕ) (rs : List Kept) (bss : List (List ℕ)) → HaveBlocks shape rs bss → HaveBlocks shape (bare_from last level rs) bss
bare_blocks shape last level (r ∷ rs) (bs ∷ bss) have =
    let same = one_bare (nat_le level last) r in
    (ap (λ (x : Kept). x.shape) same ∙ have.0, ap (λ (x : Kept). x.blocks) same ∙ have.1, bare_blocks shape last (suc level) rs bss have.2)
bare_blocks shape last level rs bss have = have

-- and have as many entries
pub bare_counts : (last level : ℕ) (rs : List Kept) → map (λ (r : Kept). r.count) (bare_from last level rs) ≡ map (λ (r : Kept). r.count) rs
bare_counts = bare_map (λ (r : Kept). r.count) (λ b r. ap (λ (x : Kept). x.count) (one_bare b r))
