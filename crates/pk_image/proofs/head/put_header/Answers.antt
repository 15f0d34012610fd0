use Rattle.std.proofs.Common.{◌≡◌, ◌∙◌, List, ℕ, [], ◌∷◌, take, arith, sym, refl}
use Rattle.std.proofs.lemmas.List.{take_all}
use Rattle.pk_base.{specs.Fields.u32, specs.Fields.zeros, specs.Fields.spelled, proofs.Tables.joined, proofs.Tables.joined_spelled}
use Rattle.pk_image.specs.Header.{image_magic, header_bytes}
use Rattle.pk_image.proofs.head.put_header.Goals as goal

pub returns : goal.returns
unfolding header_bytes
returns c =
    let fields : ℕ → ℕ → ℕ → List (List ℕ) = λ p n m. image_magic ∷ u32 p ∷ u32 n ∷ u32 m ∷ zeros 12 ∷ [] in
    let written : List (List ℕ) = fields c.page_bytes.result c.block_pages.result c.blocks-2.result in
    let all : take 32 c.put_zeros.new.bytes ≡ joined [] written =
    rw (c.put_zeros.ensures.front, c.put_u32-3.ensures.front, c.put_u32-2.ensures.front, c.put_u32.ensures.front, c.put_text.ensures.front) refl in
    sym (take_all 32 c.put_zeros.new.bytes (omega arith)) ∙ all ∙ joined_spelled [] written
    ∙ (λ i. spelled (fields (c.page_bytes.ensures.value i) (c.block_pages.ensures.value i) (c.blocks-2.ensures.value i)))
