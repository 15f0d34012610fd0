use Rattle.std.proofs.Common.{◌≡◌, ◌∙◌, List, ℕ, [], ◌∷◌, take, arith, sym, refl}
use Rattle.std.{proofs.lemmas.List.take_all}
use Rattle.pk_base.{specs.Fields.u16, specs.Fields.u32, specs.Fields.zeros, proofs.Tables.joined, proofs.Tables.joined_spelled}
use Rattle.pk_meta.specs.Page.{meta_magic}
use Rattle.pk_meta.proofs.cells.put_head.Goals as goal

pub returns : goal.returns
returns c =
    let fields : List (List ℕ) = meta_magic ∷ (c.args.level ∷ []) ∷ zeros 1 ∷ u16 c.args.count ∷ u32 c.args.index ∷ zeros 16 ∷ [] in
    let all : take 32 c.put_zeros-2.new.bytes ≡ joined [] fields =
    rw (c.put_zeros-2.ensures.front, c.put_u32.ensures.front, c.put_u16.ensures.front, c.put_zeros.ensures.front, c.put_u8.ensures.front, c.put_text.ensures.front) refl in
    sym (take_all 32 c.put_zeros-2.new.bytes (omega arith)) ∙ all ∙ joined_spelled [] fields
