-- Lists of entries of one namespace, moved to namespace 1.
use Rattle.std.proofs.Common.{◌≡◌, ℕ, ◌+◌, ◌-◌, ◌≤◌, ◌∷◌, [], List, map, length, filter, Bool, true, false, cond, refl, ap, ◌∙◌, ◌==◌, ◌&&◌, not, nat_le, is_eq, is_lt, if◌then◌else◌, ◌++◌, flat_map}
use Rattle.std.proofs.Common.{Some, None, suc}
use Rattle.std.{proofs.lemmas.List.length-map, specs.List.AllByRecursion, specs.Ordering.eq_by_cmp, specs.FinMap.Entries.find, specs.FinMap.Entries.below_all, specs.FinMap.Entries.is_sorted, specs.FinMap.Entries.where_key}
use Rattle.pk_base.{specs.Key.Key, specs.Key.key_cmp, specs.Key.space_of, specs.Key.bytes_of, specs.Shape.Shape, specs.Map.pages_in, specs.Map.pages_of, specs.Fields.u32}
use Rattle.pk_law_isolation.{specs.Isolation.key_in_first, specs.Isolation.entries_moved, proofs.Keys.IsIn, proofs.Keys.is_in, proofs.Keys.moved_cmp, proofs.Keys.first_tie}
use Rattle.pk_model.specs.Answer.{listed, fitting, list_bytes}

abbrev pub Entries : Type 0
Entries = List (Key × List ℕ)

abbrev pub AllIn : ℕ → Entries → Type 0
AllIn space = AllByRecursion (λ e. IsIn space e.0)

pub all_in : (space : ℕ) (es : Entries) → 1 ≤ space → AllIn space (where_key key_cmp (λ k. space_of k == space) es)
all_in space [] some = tt
all_in space (e ∷ es) some = elim (space_of e.0 == space) as (λ b. (space_of e.0 == space) ≡ b
    → AllIn space (cond b (e ∷ where_key key_cmp (λ k. space_of k == space) es) (where_key key_cmp (λ k. space_of k == space) es))) [
      | true ↦ λ is. (is_in space e.0 some is, all_in space es some)
      | false ↦ λ is. all_in space es some
    ] refl

module _ (space : ℕ) where
  below_moved : (x : Key) (es : Entries) → IsIn space x → AllIn space es → below_all key_cmp (key_in_first x) (entries_moved es) ≡ below_all key_cmp x es
  below_moved x [] is all = refl
  below_moved x (e ∷ es) is all = λ i. is_lt (moved_cmp space x e.0 is all.0 i) && below_moved x es is all.1 i

  pub sorted_moved : (es : Entries) → AllIn space es → is_sorted key_cmp (entries_moved es) ≡ is_sorted key_cmp es
  sorted_moved [] all = refl
  sorted_moved (e ∷ es) all = λ i. below_moved e.0 es all.0 all.1 i && sorted_moved es all.1 i

  pub find_moved : (b : List ℕ) (es : Entries) → AllIn space es → find key_cmp (1 ∷ b) (entries_moved es) ≡ find key_cmp (space ∷ b) es
  find_moved b [] all = refl
  find_moved b (e ∷ es) all = λ i. cond (is_eq (moved_cmp space (space ∷ b) e.0 refl all.0 i)) (Some e.1) (find_moved b es all.1 i)

  -- the keys from one on, in their order
  pub from_moved : (b : List ℕ) (es : Entries) → AllIn space es
      → filter (λ k. not (is_lt (key_cmp k (1 ∷ b)))) (map (λ e. e.0) (entries_moved es)) ≡ map key_in_first (filter (λ k. not (is_lt (key_cmp k (space ∷ b)))) (map (λ e. e.0) es))
  from_moved b [] all = refl
  from_moved b (e ∷ es) all =
      (λ i. cond (not (is_lt (moved_cmp space e.0 (space ∷ b) all.0 refl i))) (key_in_first e.0 ∷ from_moved b es all.1 i) (from_moved b es all.1 i))
      ∙ chosen (not (is_lt (key_cmp e.0 (space ∷ b)))) e.0 (filter (λ k. not (is_lt (key_cmp k (space ∷ b)))) (map (λ e. e.0) es))
    where
      chosen : (t : Bool) (k : Key) (ks : List Key) → cond t (key_in_first k ∷ map key_in_first ks) (map key_in_first ks) ≡ map key_in_first (cond t (k ∷ ks) ks)
      chosen true k ks = refl
      chosen false k ks = refl

pub pages_moved : (shape : Shape) (es : Entries) → pages_in shape (entries_moved es) ≡ pages_in shape es
pages_moved shape [] = refl
pages_moved shape (e ∷ es) = ap (λ n. pages_of shape e.1 + n) (pages_moved shape es)

pub length_moved : (es : Entries) → length (entries_moved es) ≡ length es
length_moved [] = refl
length_moved (e ∷ es) = ap (λ n. suc n) (length_moved es)

-- none of another namespace is found
pub find_other : (q : Key) (es : Entries) → (space_of q == 1) ≡ false → find key_cmp q (entries_moved es) ≡ None
find_other q [] other = refl
find_other q (e ∷ es) other =
    (λ i. cond ((first_tie q (bytes_of e.0) ∙ ap (λ t. cond t (eq_by_cmp key_cmp (bytes_of q) (bytes_of e.0)) false) other) i) (Some e.1) (find_other q es other i))

-- ---- keys that are listed

pub fitting_moved : (room : ℕ) (ks : List Key) → fitting room (map key_in_first ks) ≡ map key_in_first (fitting room ks)
fitting_moved room [] = refl
fitting_moved room (k ∷ ks) = elim (nat_le (length (listed k)) room) as (λ t. (if t then key_in_first k ∷ fitting (room - length (listed k)) (map key_in_first ks) else [])
    ≡ map key_in_first (if t then k ∷ fitting (room - length (listed k)) ks else [])) [
      | true ↦ ap (λ more. key_in_first k ∷ more) (fitting_moved (room - length (listed k)) ks)
      | false ↦ refl
    ]

all_listed : (ks : List Key) → flat_map listed (map key_in_first ks) ≡ flat_map listed ks
all_listed [] = refl
all_listed (k ∷ ks) = ap (λ more. listed k ++ more) (all_listed ks)

pub listed_moved : (ks : List Key) → list_bytes (map key_in_first ks) ≡ list_bytes ks
listed_moved ks = λ i. u32 (length-map ks key_in_first i) ++ all_listed ks i
