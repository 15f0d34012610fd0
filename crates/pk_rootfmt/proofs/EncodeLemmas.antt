-- The bytes that are written one after another are those of a root's page.
use Rattle.std.proofs.Common.{◌≡◌, ℕ, ◌+◌, ◌-◌, ◌*◌, ◌≤◌, true, List, [], ◌∷◌, ◌++◌, length, take, drop, sym, ap, subst, ◌∙◌, arith, length-append}
use Rattle.std.{specs.List.flat_map, specs.List.concat, proofs.lemmas.Grind.flat_map-append}
use Rattle.std.proofs.lemmas.List.{append_assoc, append-nil, take_all, take-append-drop, length-take-le}
use Rattle.pk_base.{specs.Fields.u16, specs.Fields.u32, specs.Fields.u64, specs.Fields.spelled, specs.Fields.zeros, specs.Shape.Shape, specs.Shape.IsShape}
use Rattle.pk_rootfmt.{specs.Root.Root, specs.Root.root_bytes, specs.Root.is_root, specs.Root.parts, specs.Root.version_of, specs.Root.limit_bytes, specs.Fault.root_magic, specs.Held.total}
use Rattle.pk_rootfmt.{proofs.BlockLemmas.parts_same, proofs.BlockLemmas.parts_joined, proofs.PageLemmas.before_blocks, proofs.PageLemmas.rows_root}
use Rattle.pk_rootfmt.proofs.AgainLemmas.{four, root_room}

pub encoded : (g : Shape) (number epoch : ℕ) (newest older : List ℕ) (a b c d : ℕ) (runs : List (List ℕ)) (limits : List ℕ)
    → spelled (root_magic ∷ u16 (version_of limits) ∷ u16 g.block_pages ∷ u32 g.page_bytes ∷ u16 g.blocks ∷ u16
    (length (newest ++ older)) ∷ u32 (length limits) ∷ u64 number ∷ u64 epoch ∷ flat_map u32 (a ∷ b ∷ c ∷ d ∷ []) ∷ zeros 8 ∷ [])
    ++ limit_bytes limits ++ flat_map u16 (newest ++ older) ++ flat_map u16 (concat runs) ++ zeros
    (g.page_bytes - ((64 + length (limit_bytes limits)) + 2 * length (newest ++ older) + 2 * length (concat runs)))
    ≡ root_bytes g (record { number = number; epoch = epoch; newest = newest; older = older; counts = a ∷ b ∷ c ∷ d ∷ []; runs = runs; limits = limits })
encoded g number epoch newest older a b c d runs limits =
    let e : List ℕ = newest ++ older in
    let r : List ℕ = concat runs in
    let w : List ℕ = limit_bytes limits in
    let k : ℕ = g.page_bytes - ((64 + length w) + 2 * length e + 2 * length r) in
    let size : k ≡ g.page_bytes - ((64 + length w) + 2 * length (e ++ r)) = omega (arith, length-append e r) in
    let plain : List ℕ → List ℕ = before_blocks g (version_of limits) (length limits) [] (length e) number epoch a b c d in
    let front : ℕ → List ℕ → List ℕ = λ j. before_blocks g (version_of limits) (length limits) w j number epoch a b c d in
    ap (λ (x : List ℕ). plain (x ++ zeros k)) (append_assoc w (flat_map u16 e) (flat_map u16 r))
    ∙ ap plain (append_assoc w (flat_map u16 e ++ flat_map u16 r) (zeros k))
    ∙ ap (λ (x : List ℕ). front (length e) (x ++ zeros k)) (sym (flat_map-append u16 e r))
    ∙ ap (λ (n : ℕ). front (length e) (flat_map u16 (e ++ r) ++ zeros n)) size
    ∙ ap (λ (x : List ℕ). front (length e) (flat_map u16 (e ++ r) ++ x)) (sym (append-nil (zeros (g.page_bytes - ((64 + length w) + 2 * length (e ++ r))))))
    ∙ ap (λ (j : ℕ). front j (flat_map u16 (e ++ r) ++ (zeros (g.page_bytes - ((64 + length w) + 2 * length (e ++ r))) ++ []))) (length-append newest older)
    ∙ rows_root g number epoch newest older a b c d runs limits

-- the runs are cut from the start of the list of blocks
pub runs_joined : (sizes items : List ℕ) → total sizes ≤ length items → concat (parts sizes items) ≡ take (total sizes) items
runs_joined sizes items room =
    let front : List ℕ = take (total sizes) items in
    let len : length front ≡ total sizes = length-take-le (total sizes) items room in
    let same : take (total sizes) items ≡ take (total sizes) front = sym (take_all (total sizes) front (omega (arith, len))) in
    ap concat (parts_same sizes items front same) ∙ parts_joined sizes front len

-- a list is its first two numbers and the rest
length_two : (xs : List ℕ) → length (take 2 xs) + length (drop 2 xs) ≡ length xs
length_two xs = omega (arith, length-append (take 2 xs) (drop 2 xs), ap length (take-append-drop 2 xs))

-- what is written of limits, epochs and runs into this many bytes
abbrev pub written : Shape → ℕ → ℕ → ℕ → List ℕ → List ℕ → List ℕ → List ℕ → List ℕ
written g size number epoch epochs counts runs limits =
    spelled (root_magic ∷ u16 (version_of limits) ∷ u16 g.block_pages ∷ u32 g.page_bytes ∷ u16 g.blocks ∷ u16
    (length epochs) ∷ u32 (length limits) ∷ u64 number ∷ u64 epoch ∷ flat_map u32 counts ∷ zeros 8 ∷ [])
    ++ limit_bytes limits ++ flat_map u16 epochs ++ flat_map u16 runs ++ zeros (size - ((64 + length (limit_bytes limits)) + 2 * length epochs + 2 * length runs))

module _ (g : Shape) (number epoch : ℕ) (epochs counts sizes items limits : List ℕ) where
  -- the root that is held in these lists
  abbrev pub held : Root
  held = record { number = number; epoch = epoch; newest = take 2 epochs; older = drop 2 epochs; counts = counts; runs = parts sizes items; limits = limits }

  pub held_room : IsShape g → is_root g held ≡ true → total sizes ≤ length items → (64 + length (limit_bytes limits)) + 2 * length epochs + 2 * length (take (total sizes) items) ≤ g.page_bytes
  held_room shape e room = omega (arith, root_room g held shape e, length_two epochs, ap length (runs_joined sizes items room))

  -- it is written as its page
  pub held_bytes : length counts ≡ 4 → total sizes ≤ length items → written g g.page_bytes number epoch epochs counts (take (total sizes) items) limits ≡ root_bytes g held
  held_bytes sized room =
      let own = four counts sized in
      let page : List ℕ → Root = λ (cs : List ℕ). record { number = number; epoch = epoch; newest = take 2 epochs; older = drop 2 epochs; counts = cs; runs = parts sizes items; limits = limits } in
      ap (λ (es : List ℕ). written g g.page_bytes number epoch es counts (take (total sizes) items) limits) (sym (take-append-drop 2 epochs))
      ∙ ap (λ (rs : List ℕ). written g g.page_bytes number epoch (take 2 epochs ++ drop 2 epochs) counts rs limits) (sym (runs_joined sizes items room))
      ∙ subst (λ (cs : List ℕ). written g g.page_bytes number epoch (take 2 epochs ++ drop 2 epochs) cs (concat (parts sizes items)) limits ≡ root_bytes g (page cs)) (sym own.is)
      (encoded g number epoch (take 2 epochs) (drop 2 epochs) own.a own.b own.c own.d (parts sizes items) limits)
