use Rattle.std.proofs.Common.{◌≡◌, ◌∙◌, ◌+◌, ◌++◌, List, ℕ, [], ◌∷◌, length, length-drop, take, drop, arith, sym, ap, refl}
use Rattle.std.proofs.lemmas.List.{take_all, length-take-le}
use Rattle.pk_base.{specs.Fields.u16, specs.Fields.u32, specs.Fields.zeros, proofs.Tables.joined, proofs.Tables.joined_spelled}
use Rattle.pk_nvme.{specs.Command.command, proofs.RequestLemmas.command-entry_of}
use Rattle.pk_nvme.proofs.request.Request.entry.Goals as goal

-- what was written after a place, by the size of the text
front_sized : (at n : ℕ) (new old text : List ℕ) → length text ≡ n → take (at + length text) new ≡ take at old ++ text → take (at + n) new ≡ take at old ++ text
front_sized at n new old text size front = ap (λ (k : ℕ). take (at + k) new) (sym size) ∙ front

pub returns-clause-bytes : goal.returns-clause-bytes
returns-clause-bytes c =
    let key : List ℕ = c.args.self.now.key in
    let low : List ℕ = take 8 key in
    let high : List ℕ = take 8 (drop 8 key) in
    let fields : List (List ℕ) = (c.args.self.now.opcode ∷ []) ∷ zeros 1 ∷ u16 c.args.self.now.cid ∷ u32 c.args.self.now.namespace ∷ low ∷ zeros 24
    ∷ u32 c.args.self.now.size ∷ (c.args.self.now.key_len ∷ []) ∷ (c.args.self.now.options ∷ []) ∷ zeros 10 ∷ high ∷ [] in
    let sized : length key ≡ 16 = assumption (c.well_formed, c.put_text.lifetimes) in
    let low_size : length low ≡ 8 = length-take-le 8 key (omega (arith, sized)) in
    let high_size : length high ≡ 8 = length-take-le 8 (drop 8 key) (omega (arith, sized, length-drop 8 key)) in
    let last : take 64 c.put_text-2.new.bytes ≡ take 56 c.put_zeros-3.new.bytes ++ high = front_sized 56 8 c.put_text-2.new.bytes c.put_zeros-3.new.bytes high high_size c.put_text-2.ensures.front in
    let first : take 16 c.put_text.new.bytes ≡ take 8 c.put_u32.new.bytes ++ low = front_sized 8 8 c.put_text.new.bytes c.put_u32.new.bytes low low_size c.put_text.ensures.front in
    let all : take 64 c.put_text-2.new.bytes ≡ joined [] fields =
    rw (
      last,
      c.put_zeros-3.ensures.front,
      c.put_u8-3.ensures.front,
      c.put_u8-2.ensures.front,
      c.put_u32-2.ensures.front,
      c.put_zeros-2.ensures.front,
      first,
      c.put_u32.ensures.front,
      c.put_u16.ensures.front,
      c.put_zeros.ensures.front,
      c.put_u8.ensures.front,
    ) refl in
    sym (take_all 64 c.put_text-2.new.bytes (omega arith)) ∙ all ∙ joined_spelled [] fields

pub returns-clause-fields : goal.returns-clause-fields
returns-clause-fields c = λ value.
    ap (λ (entry : List ℕ). command entry value) (returns-clause-bytes c)
    ∙ command-entry_of c.args.self.now value (assumption (c.well_formed, c.put_text.lifetimes)) (omega arith) (omega arith) (omega arith)
