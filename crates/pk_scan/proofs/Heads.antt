-- A page begins with a head exactly if the head that is read from it is that one.
use Rattle.std.proofs.Common.{◌≡◌, ℕ, Bool, true, List, ◌++◌, length, take, drop, sym, subst, ap, ◌∙◌, nat_eq}
use Rattle.std.{specs.List.starts_with, proofs.lemmas.Bool.Decides.same_from_decides, proofs.lemmas.List.take-append-drop, proofs.lemmas.List.take_at, specs.Ordering.is_eq, specs.Cmp.tied_itself}
use Rattle.std.specs.Prelude.{Result, Ok, Err}
use Rattle.pk_base.specs.Key.{Key, IsKey, key_cmp}
use Rattle.pk_segfmt.{specs.Value.head_bytes, specs.declared.found.Head.Head, specs.declared.found.BadHead.BadHead, proofs.ValueLemmas.starts_front, proofs.ValueLemmas.front_starts}
use Rattle.pk_segfmt.proofs.StoredLemmas.{length-head_bytes}
use Rattle.pk_model.{proofs.MapLemmas.key_total, proofs.Lookups.same_key}

pub begins : (bytes front : List ℕ) → take 32 bytes ≡ front → starts_with nat_eq bytes front ≡ true
begins bytes front e =
    let whole : front ++ drop 32 bytes ≡ bytes = ap (λ (r : List ℕ). r ++ drop 32 bytes) (sym e) ∙ take-append-drop 32 bytes in
    subst (λ (r : List ℕ). starts_with nat_eq r front ≡ true) whole (starts_front front (drop 32 bytes))

pub begun : (bytes front : List ℕ) → length front ≡ 32 → starts_with nat_eq bytes front ≡ true → take 32 bytes ≡ front
begun bytes front len e = ap (λ (r : List ℕ). take 32 r) (front_starts bytes front e) ∙ take_at front (drop (length front) bytes) 32 len

-- a test of whether the head is that of this key and length
pub head_told : (bytes : List ℕ) (k k' : Key) (l l' : ℕ) (t : Bool) → IsKey k → take 32 bytes ≡ head_bytes k' l' → (take 32 bytes ≡ head_bytes k l → (k' ≡ k) × (l' ≡ l))
    → (t ≡ true → (k' ≡ k) × (l' ≡ l)) → ((k' ≡ k) × (l' ≡ l) → t ≡ true) → t ≡ starts_with nat_eq bytes (head_bytes k l)
head_told bytes k k' l l' t is here only told tells =
    same_from_decides {P = (k' ≡ k) × (l' ≡ l)} t (starts_with nat_eq bytes (head_bytes k l)) (told, tells) (
      λ starts. only (begun bytes (head_bytes k l) (length-head_bytes k l is) starts),
      λ both. begins bytes (head_bytes k l) (here ∙ (λ i. head_bytes (both.0 i) (both.1 i))),
    )

-- a test of whether two keys are the same
pub same_told : (a b : Key) (t : Bool) → t ≡ is_eq (key_cmp a b) → (t ≡ true → a ≡ b) × (a ≡ b → t ≡ true)
same_told a b t is =
    (λ e. same_key a b (sym is ∙ e), λ same. is ∙ ap (λ (k : Key). is_eq (key_cmp k b)) same ∙ ap is_eq (tied_itself key_total b))

-- what was found is the head of this key and length
pub same_found : (h : Head) (key : Key) (len : ℕ) → ◌≡◌ {A = Result Head BadHead} (Ok h) (Ok (record { key = key; len = len })) → (h.key ≡ key) × (h.len ≡ len)
same_found h key len e =
    let same : h ≡ record { key = key; len = len } = cc in
    (ap (λ (x : Head). x.key) same, ap (λ (x : Head). x.len) same)

pub none_found : (bad : BadHead) (h : Head) → ◌≡◌ {A = Result Head BadHead} (Err bad) (Ok h) → ⊥
none_found bad h e = cc
