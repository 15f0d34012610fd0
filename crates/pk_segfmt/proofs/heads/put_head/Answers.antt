use Rattle.std.proofs.Common.{◌≡◌, ◌∙◌, ◌-◌, List, ℕ, [], ◌∷◌, length, take, refl}
use Rattle.pk_base.{specs.Fields.u32, specs.Fields.padded, specs.Fields.zeros, specs.Fields.spelled, proofs.Tables.joined, proofs.Tables.joined_spelled}
use Rattle.pk_segfmt.{specs.Head.value_magic, specs.Value.head_bytes}
use Rattle.pk_segfmt.proofs.heads.put_head.Goals as goal

-- the rows of a head's table
abbrev rows : ℕ → List ℕ → ℕ → List (List ℕ)
rows len bytes space = (length bytes ∷ []) ∷ (0x44 ∷ []) ∷ ((space - 1) ∷ []) ∷ zeros 1 ∷ padded 16 bytes ∷ u32 len ∷ value_magic ∷ []

pub returns-clause-front : goal.returns-clause-front
unfolding head_bytes
returns-clause-front c =
    let fields : List (List ℕ) = rows c.args.len c.bytes-bytes.result.now c.space.result in
    let all : take 32 c.put_text.new.bytes ≡ joined [] fields =
    rw (c.put_text.ensures.front, c.put_u32.ensures.front, c.put_padded.ensures.front, c.put_zeros.ensures.front, c.put_u8-3.ensures.front, c.put_u8-2.ensures.front, c.put_u8.ensures.front) refl in
    all ∙ joined_spelled [] fields ∙ (λ i. spelled (rows c.args.len (c.bytes-bytes.ensures.value i) (c.space.ensures.value i)))
