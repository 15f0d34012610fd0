-- Buffers without entries, and epochs in erased blocks.
use Rattle.std.proofs.Common.{◌≡◌, ℕ, zero, suc, ◌<◌, refl, arith, true, false, not, ◌==◌, T, List, [], ◌∷◌, length, nat_lt, Option}
use Rattle.std.{proofs.lemmas.Bool.Decides.nat_tests, specs.FinMap.Entries.put, specs.FinMap.Entries.is_sorted}
use Rattle.pk_base.{specs.Key.Key, specs.Key.key_cmp, specs.Shape.Shape, specs.Page.Flash, specs.Entry.Entry, specs.Entry.Place, specs.Firsts.firsts, proofs.KeyLemmas.firsts_sorted}
use Rattle.pk_jrn.{specs.Epochs.AreErased, proofs.Puts.put_grows}
use Rattle.pk_nand.specs.Operations.{IsErasedBlock}

-- ---- buffers without entries

put_some : (k : Key) (v : Option Place) (table : List Entry) → T (is_sorted key_cmp table) → 0 < length (put key_cmp k v table)
put_some k v [] up = omega arith
put_some k v (x ∷ xs) up = let grows = put_grows k v (x ∷ xs) up in omega (arith, grows)

-- some entries have a key
firsts_some : (e : Entry) (es : List Entry) → 0 < length (firsts (e ∷ es))
firsts_some e es = put_some e.0 e.1 (firsts es) (firsts_sorted es)

pub none_of_firsts : (es : List Entry) → length (firsts es) ≡ 0 → es ≡ []
none_of_firsts [] none = refl
none_of_firsts (e ∷ es) none = let some = firsts_some e es in absurd (omega (arith, none, some))

-- a buffer is empty exactly if its epoch is
pub tells_some : (es : List Entry) (n : ℕ) → n ≡ length (firsts es) → (length es == 0) ≡ not (nat_lt 0 n)
tells_some [] n is = rw is refl
tells_some (e ∷ es) n is = search (arith, firsts_some, nat_tests)

-- ---- erased blocks

pub two_erased : (shape : Shape) (flash : Flash) (first second : ℕ) → IsErasedBlock shape flash first → IsErasedBlock shape flash second → AreErased shape flash (first ∷ second ∷ [])
two_erased shape flash first second one two zero small = one
two_erased shape flash first second one two (suc zero) small = two
two_erased shape flash first second one two (suc (suc n)) small = absurd (omega (arith, small))
