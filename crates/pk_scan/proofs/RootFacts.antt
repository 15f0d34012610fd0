-- What the grammar of roots says of the blocks and the counts that a root names.
use Rattle.std.proofs.Common.{◌≡◌, ℕ, zero, suc, ◌-◌, ◌*◌, ◌<◌, ◌≤◌, Bool, true, ◌&&◌, List, [], ◌∷◌, ◌++◌, length, get_or, map, sym, ap, subst, ◌∙◌, arith, Some}
use Rattle.std.proofs.lemmas.Bool.{and_parts, eqb-true, leb-true, ltb-true}
use Rattle.std.{specs.Prelude.slice_get, specs.Prelude.nat_le, specs.Prelude.nat_lt, specs.Prelude.zip, specs.Prelude.slice_index, specs.List.list_all, specs.List.concat}
use Rattle.std.proofs.lemmas.List.Folds.{list_all-append}
use Rattle.pk_base.specs.Shape.{Shape, page_entries, caps, cap, run_blocks}
use Rattle.pk_rootfmt.{specs.Root.Root, specs.Root.is_root, specs.Held.two_of, specs.Held.older_of, proofs.PageLemmas.Parts, proofs.PageLemmas.root_parts}
use Rattle.pk_jrn.specs.Epochs.{AllExist as EpochExists}
use Rattle.pk_scan.{specs.Runs.RunBlocksExist, proofs.Naming.HasFour, proofs.Naming.has_four, proofs.Naming.four_runs, proofs.Naming.two_is, proofs.Naming.older_is, proofs.Naming.older_many}

module _ (p : ℕ → Bool) where
  all_front : (xs ys : List ℕ) → list_all p (xs ++ ys) ≡ true → list_all p xs ≡ true
  all_front xs ys e = (and_parts (list_all p xs) (list_all p ys) (sym (list_all-append p xs ys) ∙ e)).0

  all_back : (xs ys : List ℕ) → list_all p (xs ++ ys) ≡ true → list_all p ys ≡ true
  all_back xs ys e = (and_parts (list_all p xs) (list_all p ys) (sym (list_all-append p xs ys) ∙ e)).1

  all_in : (xss : List (List ℕ)) (n : ℕ) (xs : List ℕ) → list_all p (concat xss) ≡ true → slice_get xss n ≡ Some xs → list_all p xs ≡ true
  all_in [] n xs e got = cc
  all_in (ys ∷ xss) zero xs e got = let same : ys ≡ xs = cc in sym (ap (list_all p) same) ∙ all_front ys (concat xss) e
  all_in (ys ∷ xss) (suc n) xs e got = all_in xss n xs (all_back ys (concat xss) e) got

exist : (shape : Shape) (bs : List ℕ) → list_all (λ b. nat_le 2 b && nat_lt b shape.blocks) bs ≡ true → RunBlocksExist shape bs
exist shape [] e n h = absurd (omega (arith, h))
exist shape (b ∷ bs) e zero h =
    let first = and_parts (nat_le 2 b && nat_lt b shape.blocks) (list_all (λ b. nat_le 2 b && nat_lt b shape.blocks) bs) e in
    ltb-true b shape.blocks (and_parts (nat_le 2 b) (nat_lt b shape.blocks) first.0).1
exist shape (b ∷ bs) e (suc n) h = exist shape bs (and_parts (nat_le 2 b && nat_lt b shape.blocks) (list_all (λ b. nat_le 2 b && nat_lt b shape.blocks) bs) e).1 n (omega (arith, h))

two_exist : (shape : Shape) (bs : List ℕ) → length bs ≡ 2 → RunBlocksExist shape bs → EpochExists shape bs
two_exist shape bs two each n h = each n (omega (arith, two, h))

few_at : (size : ℕ) (counts caps : List ℕ) (n : ℕ) → list_all (λ p. nat_le p.0 (p.1 * size)) (zip counts caps) ≡ true → n < length counts → n < length caps → get_or counts n 0 ≤ get_or caps n 0 * size
few_at size [] caps n e h k = absurd (omega (arith, h))
few_at size (c ∷ counts) [] n e h k = absurd (omega (arith, k))
few_at size (c ∷ counts) (d ∷ caps) zero e h k = leb-true c (d * size) (and_parts (nat_le c (d * size)) (list_all (λ p. nat_le p.0 (p.1 * size)) (zip counts caps)) e).0
few_at size (c ∷ counts) (d ∷ caps) (suc n) e h k = few_at size counts caps n
    (and_parts (nat_le c (d * size)) (list_all (λ p. nat_le p.0 (p.1 * size)) (zip counts caps)) e).1 (omega (arith, h)) (omega (arith, k))

sized_at : (f : ℕ → ℕ) (counts : List ℕ) (runs : List (List ℕ)) (n : ℕ) (bs : List ℕ) → map length runs ≡ map f counts → slice_get runs n ≡ Some bs → length bs ≡ f (get_or counts n 0)
sized_at f counts [] n bs e got = cc
sized_at f [] (xs ∷ runs) n bs e got = cc
sized_at f (c ∷ counts) (xs ∷ runs) zero bs e got = let same : xs ≡ bs = cc in let size : length xs ≡ f c = cc in sym (ap length same) ∙ size
sized_at f (c ∷ counts) (xs ∷ runs) (suc n) bs e got = let rest : map length runs ≡ map f counts = cc in sized_at f counts runs n bs rest got

module _ (shape : Shape) (root : Root) (e : is_root shape root ≡ true) where
  abbrev parts : Parts shape root
  parts = root_parts shape root e

  abbrev is_block : ℕ → Bool
  is_block b = nat_le 2 b && nat_lt b shape.blocks

  pub newest_two : length root.newest ≡ 2
  newest_two = eqb-true (length root.newest) 2 parts.two

  of_epochs : list_all is_block (root.newest ++ root.older) ≡ true
  of_epochs = all_front is_block (root.newest ++ root.older) (concat root.runs) parts.blocks

  pub newest_exist : (bs : List ℕ) → bs ≡ two_of root.newest → EpochExists shape bs
  newest_exist bs is = subst (EpochExists shape) (sym (is ∙ two_is root.newest newest_two))
      (two_exist shape root.newest newest_two (exist shape root.newest (all_front is_block root.newest root.older of_epochs)))

  pub older_two : (bs : List ℕ) → Some bs ≡ older_of root.older → length root.older ≡ 2
  older_two bs is = (older_many (length root.older) root.epoch parts.older).1 (some root.older is)
    where
      some : (os : List ℕ) → Some bs ≡ older_of os → 0 < length os
      some [] t = cc
      some (o ∷ os) t = omega arith

  pub older_exist : (bs : List ℕ) → Some bs ≡ older_of root.older → EpochExists shape bs
  older_exist bs is = subst (EpochExists shape) (sym (older_is root.older bs is))
      (two_exist shape root.older (older_two bs is) (exist shape root.older (all_back is_block root.newest root.older of_epochs)))

  abbrev four : HasFour shape root.counts root.runs
  four = has_four shape root parts.runs

  pub counts_four : length root.counts ≡ 4
  counts_four = four.four_counts

  pub runs_four : length root.runs ≡ 4
  runs_four = four_runs shape root.counts root.runs four

  pub level_few : (level : ℕ) → 1 ≤ level → level ≤ 4 → slice_index root.counts (level - 1) ≤ cap shape level * page_entries shape
  level_few level low high = few_at (page_entries shape) root.counts (caps shape) (level - 1) four.each (omega (arith, counts_four, low, high)) (omega (arith, low, high))

  pub level_blocks : (level : ℕ) (bs : List ℕ) → slice_get root.runs (level - 1) ≡ Some bs → length bs ≡ run_blocks shape (slice_index root.counts (level - 1))
  level_blocks level bs got = sized_at (run_blocks shape) root.counts root.runs (level - 1) bs four.sizes got

  pub level_exist : (level : ℕ) (bs : List ℕ) → slice_get root.runs (level - 1) ≡ Some bs → RunBlocksExist shape bs
  level_exist level bs got = exist shape bs (all_in is_block root.runs (level - 1) bs (all_back is_block (root.newest ++ root.older) (concat root.runs) parts.blocks) got)
