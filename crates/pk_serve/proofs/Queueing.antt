-- The bytes of heads, from one to the next.
use Rattle.std.proofs.Common.{◌≡◌, ℕ, zero, suc, ◌<◌, List, [], ◌∷◌, ◌++◌, length, take, drop, refl, sym, ◌∙◌, ap, arith, append_assoc, append-nil, slice_index_or}
use Rattle.pk_queue.specs.Queue.{bytes_of}

pub bytes_of-next : (heads : List (List ℕ)) (i : ℕ) → i < length heads → bytes_of (take (suc i) heads) ≡ bytes_of (take i heads) ++ slice_index_or heads i []
bytes_of-next [] i less = absurd (omega arith)
bytes_of-next (h ∷ heads) zero less = append-nil h
bytes_of-next (h ∷ heads) (suc i) less = ap (λ t. h ++ t) (bytes_of-next heads i (omega arith)) ∙ sym (append_assoc h (bytes_of (take i heads)) (slice_index_or heads i []))

pub bytes_of-all : (heads : List (List ℕ)) (i : ℕ) → i < length heads → bytes_of heads ≡ bytes_of (take i heads) ++ (slice_index_or heads i [] ++ bytes_of (drop (suc i) heads))
bytes_of-all [] i less = absurd (omega arith)
bytes_of-all (h ∷ heads) zero less = refl
bytes_of-all (h ∷ heads) (suc i) less =
    ap (λ t. h ++ t) (bytes_of-all heads i (omega arith)) ∙ sym (append_assoc h (bytes_of (take i heads)) (slice_index_or heads i [] ++ bytes_of (drop (suc i) heads)))
