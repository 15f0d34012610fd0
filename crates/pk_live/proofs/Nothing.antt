-- The live map without values.
use Rattle.std.proofs.Common.{◌≡◌, ℕ, ◌-◌, true, false, List, [], ◌∷◌, length, map, replicate, refl, arith}
use Rattle.std.{specs.Prelude.nat_le, specs.Prelude.filter, specs.List.range_with_len, proofs.lemmas.Bool.le-leb, proofs.lemmas.List.length-replicate, proofs.lemmas.List.get_or-replicate}
use Rattle.std.proofs.lemmas.List.FromFn.{fill_by_all}
use Rattle.pk_base.specs.Shape.{Shape, IsShape, page_count, limit, data_blocks}
use Rattle.pk_live.{specs.Values.no_values, specs.Lives.head_of, specs.Lives.is_used, specs.Lives.Lives}
use Rattle.pk_model.specs.Values.{fits, blocks_with}

filter_none : (xs : List ℕ) → length (filter (λ b. false) xs) ≡ 0
filter_none [] = refl
filter_none (x ∷ xs) = filter_none xs

none_fit : (shape : Shape) (named : List ℕ) → fits shape named [] ≡ true
none_fit shape named =
    let few : nat_le 0 (limit shape) ≡ true = le-leb 0 (limit shape) (omega arith) in
    let none : length (blocks_with shape []) ≡ 0 = filter_none (range_with_len 0 shape.blocks) in
    let blocks : nat_le (length (blocks_with shape [])) (data_blocks shape - 1) ≡ true = le-leb (length (blocks_with shape [])) (data_blocks shape - 1) (omega (arith, none)) in
    rw (few, blocks) refl

pub Lives-none : (shape : Shape) (named : List ℕ) → IsShape shape → Lives shape named (no_values shape) []
Lives-none shape named is =
    let heads : replicate (page_count shape) 0 ≡ map (head_of shape []) (range_with_len 0 (page_count shape)) =
    fill_by_all (head_of shape []) (replicate (page_count shape) 0) (page_count shape) 0
    (length-replicate {A = ℕ} (page_count shape) 0) (λ k less. get_or-replicate {A = ℕ} (page_count shape) k 0 0 less) in
    let closed : replicate shape.blocks false ≡ map (is_used shape []) (range_with_len 0 shape.blocks) =
    fill_by_all (is_used shape []) (replicate shape.blocks false) shape.blocks false (length-replicate shape.blocks false) (λ k less. get_or-replicate shape.blocks k false false less) in
    record {
      map_is = λ i. record { block_pages = shape.block_pages; heads = heads i; closed = closed i };
      places = tt;
      placed_well = none_fit shape named;
    }
