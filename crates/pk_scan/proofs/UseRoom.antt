-- What is used of a namespace is a small number.
use Rattle.std.proofs.Common.{◌≡◌, ℕ, ◌+◌, ◌≤◌, Bool, true, false, List, [], ◌∷◌, ◌++◌, length, ◌==◌, if◌then◌else◌, arith, length-append}
use Rattle.std.proofs.lemmas.List.FromFn.{length-range_with_len}
use Rattle.pk_base.{specs.Key.Key, specs.Key.space_of, specs.Shape.Shape, specs.Shape.IsShape, specs.Shape.charge, specs.Entry.Place, proofs.Logic.of_true}
use Rattle.pk_segfmt.specs.Value.{value_pages}
use Rattle.pk_space.specs.Uses.{Use, IsSpace, space_live, space_keys}
use Rattle.pk_model.{specs.Values.fits, specs.Values.all_pages, specs.Values.pages_of_space, proofs.ValueSets.fits_parts}
use Rattle.pk_law_steps.proofs.Outputs.{values_most}
use Rattle.pk_scan.{specs.Used.IsUseOf, proofs.Using.few_keys, proofs.ValuesHeld.limit_few}

pages_few : (shape : Shape) (space : ℕ) (es : List (Key × Place)) → pages_of_space shape space es ≤ length (all_pages shape es)
pages_few shape space [] = omega arith
pages_few shape space (e ∷ es) =
    let rest = pages_few shape space es in
    let size = length-append (value_pages shape e.1) (all_pages shape es) in
    let own = length-range_with_len e.1.page (charge shape e.1.len) in
    elim (space_of e.0 == space) as (λ b. (if b then charge shape e.1.len else 0) + pages_of_space shape space es ≤ length (value_pages shape e.1 ++ all_pages shape es)) [
      | true ↦ omega (arith, rest, size, own)
      | false ↦ omega (arith, rest, size)
    ]

pub use_small : (shape : Shape) (named : List ℕ) (taken : List (Key × Place)) (key : Key) (place : Place) → fits shape named (all_pages shape taken ++ value_pages shape place) ≡ true
    → (u : Use) → IsSpace (space_of key) → IsUseOf shape u taken → IsShape shape
    → (space_live u (space_of key) + charge shape place.len ≤ 1048576) × (space_keys u (space_of key) ≤ 1048576)
use_small shape named taken key place fit u own uses is_shape =
    let few = (fits_parts shape named (all_pages shape taken ++ value_pages shape place) (of_true _ fit)).few in
    let sum = length-append (all_pages shape taken) (value_pages shape place) in
    let size = length-range_with_len place.page (charge shape place.len) in
    let most = limit_few shape is_shape in
    let live = uses.live (space_of key) own in
    let keys = uses.keys (space_of key) own in
    let part = pages_few shape (space_of key) taken in
    let each = few_keys (space_of key) taken in
    let values = values_most shape is_shape taken in
    (omega (arith, few, sum, size, most, live, part), omega (arith, few, sum, most, keys, each, values))
