-- Scripts taken command by command.
use Rattle.std.proofs.Common.{◌≡◌, ℕ, zero, suc, ◌+◌, ◌-◌, ◌≤◌, ◌<◌, List, [], ◌∷◌, ◌++◌, length, take, drop, refl, sym, ◌∙◌, ap, arith, append_assoc, Option, Some, None, length-append, length-drop}
use Rattle.std.proofs.Common.{Bool, true, false, if◌then◌else◌, nat_le, ◌&&◌, ◌==◌, get_or, ◌*◌}
use Rattle.std.{proofs.lemmas.Bool.Decides.nat_tests, proofs.lemmas.List.drop_at, proofs.lemmas.List.take_at, proofs.lemmas.List.drop-append-le, proofs.lemmas.List.get_or_append_left}
use Rattle.byteorder.specs.Endian.{little_from}
use Rattle.pk_nvme.specs.Command.{Command, command}
use Rattle.pk_model.specs.Script.{script, commands_in, begins_whole, first_command, value_follows}
use Rattle.pk_serve.specs.Input.{script_after, Spells, IsPart}
use Rattle.pk_nand.specs.Calls.{put_back}

pub put_back-append : (xs ys : List ℕ) (o : Option (List ℕ)) → put_back xs (put_back ys o) ≡ put_back (xs ++ ys) o
put_back-append xs ys None = refl
put_back-append xs ys (Some left) = ap (λ l. Some l) (sym (append_assoc xs ys left))

pub put_back-nil : (o : Option (List ℕ)) → o ≡ put_back [] o
put_back-nil None = refl
put_back-nil (Some left) = refl

-- two parts that were taken
pub taken-append : (a b c : Option (List ℕ)) (xs ys : List ℕ) → a ≡ put_back xs b → b ≡ put_back ys c → a ≡ put_back (xs ++ ys) c
taken-append a b c xs ys p q = p ∙ (ap (put_back xs) q ∙ put_back-append xs ys c)

-- fuel that is enough gives the same
enough : (n m : ℕ) (bytes : List ℕ) → length bytes ≤ n → length bytes ≤ m → commands_in n bytes ≡ commands_in m bytes
enough zero zero bytes hn hm = refl
enough zero (suc m) [] hn hm = refl
enough zero (suc m) (x ∷ xs) hn hm = absurd (omega arith)
enough (suc n) zero [] hn hm = refl
enough (suc n) zero (x ∷ xs) hn hm = absurd (omega arith)
enough (suc n) (suc m) bytes hn hm =
    let few : length (drop (64 + value_follows bytes) bytes) ≤ length bytes - 64 = omega (arith, length-drop (64 + value_follows bytes) bytes) in
    let same : commands_in n (drop (64 + value_follows bytes) bytes) ≡ commands_in m
    (drop (64 + value_follows bytes) bytes) = enough n m (drop (64 + value_follows bytes) bytes) (omega arith) (omega arith) in
    ap (λ rest. if begins_whole bytes then (first_command bytes ∷ rest.0, rest.1) else ([], bytes)) same

-- a whole command at the start
whole : (bytes : List ℕ) → begins_whole bytes ≡ true → script bytes ≡ script_after (first_command bytes ∷ []) (script (drop (64 + value_follows bytes) bytes))
unfolding script
whole bytes e =
    let rest : List ℕ = drop (64 + value_follows bytes) bytes in
    enough (length bytes) (suc (length bytes)) bytes (omega arith) (omega arith)
    ∙ (ap (λ b. if b then (
      first_command bytes ∷ (commands_in (length bytes) (drop (64 + value_follows bytes) bytes)).0,
      (commands_in (length bytes) (drop (64 + value_follows bytes) bytes)).1,
    ) else ([], bytes)) e
    ∙ ap (λ r. script_after (first_command bytes ∷ []) r)
    (enough (length bytes) (length (drop (64 + value_follows bytes) bytes)) (drop (64 + value_follows bytes) bytes) (omega (arith, length-drop (64 + value_follows bytes) bytes)) (omega arith)))

-- none at the start
pub part_of : (bytes : List ℕ) → begins_whole bytes ≡ false → IsPart bytes
unfolding script
part_of bytes e =
    enough (length bytes) (suc (length bytes)) bytes (omega arith) (omega arith)
    ∙ ap (λ b. if b then (
      first_command bytes ∷ (commands_in (length bytes) (drop (64 + value_follows bytes) bytes)).0,
      (commands_in (length bytes) (drop (64 + value_follows bytes) bytes)).1,
    ) else ([], bytes)) e

pub Spells-none : Spells [] []
Spells-none left = refl

pub Spells-append : (xs ys : List ℕ) (cs ds : List Command) → Spells xs cs → Spells ys ds → Spells (xs ++ ys) (cs ++ ds)
Spells-append xs ys cs ds p q left =
    ap script (append_assoc xs ys left) ∙ (p (ys ++ left) ∙ (ap (script_after cs) (q left) ∙ ap (λ l. (l, (script left).1)) (sym (append_assoc cs ds (script left).0))))

-- ---- one command

little-front : (i n : ℕ) (xs ys : List ℕ) → i + n ≤ length xs → little_from i n (xs ++ ys) ≡ little_from i n xs
little-front i zero xs ys fits = refl
little-front i (suc n) xs ys fits =
    let here : get_or (xs ++ ys) i 0 ≡ get_or xs i 0 = get_or_append_left xs ys 0 i (omega arith) in
    let rest : little_from (suc i) n (xs ++ ys) ≡ little_from (suc i) n xs = little-front (suc i) n xs ys (omega arith) in
    λ k. here k + 256 * rest k

value_follows-front : (entry rest : List ℕ) → length entry ≡ 64 → value_follows (entry ++ rest) ≡ value_follows entry
value_follows-front entry rest size =
    let first : get_or (entry ++ rest) 0 0 ≡ get_or entry 0 0 = get_or_append_left entry rest 0 0 (omega arith) in
    let cut : drop 40 (entry ++ rest) ≡ drop 40 entry ++ rest = drop-append-le 40 entry rest (omega arith) in
    let number : little_from 0 4 (drop 40 (entry ++ rest)) ≡ little_from 0 4 (drop 40 entry) =
    ap (little_from 0 4) cut ∙ little-front 0 4 (drop 40 entry) rest (omega (arith, length-drop 40 entry)) in
    λ k. if first k == 0x01 then number k else 0

both : (a b : Bool) → a ≡ true → b ≡ true → (a && b) ≡ true
both a b p q = ap (λ x. x && b) p ∙ q

module _ (entry v left : List ℕ) (size : length entry ≡ 64) (count : length v ≡ value_follows entry) where
  bytes : List ℕ
  bytes = (entry ++ v) ++ left

  behind_entry : value_follows ((entry ++ v) ++ left) ≡ value_follows entry
  behind_entry = ap value_follows (append_assoc entry v left) ∙ value_follows-front entry (v ++ left) size

  begins : begins_whole ((entry ++ v) ++ left) ≡ true
  begins =
      let e = behind_entry in
      let n : length ((entry ++ v) ++ left) ≡ 64 + value_follows entry + length left = omega (arith, length-append (entry ++ v) left, length-append entry v) in
      both (nat_le 64 (length ((entry ++ v) ++ left))) (nat_le (64 + value_follows ((entry ++ v) ++ left)) (length ((entry ++ v) ++ left)))
      (grind (arith, nat_tests, n)) (grind (arith, nat_tests, n, e))

  first_is : first_command ((entry ++ v) ++ left) ≡ command entry v
  first_is =
      let cut : take 64 ((entry ++ v) ++ left) ≡ entry = ap (take 64) (append_assoc entry v left) ∙ take_at entry (v ++ left) 64 size in
      let value : take (value_follows ((entry ++ v) ++ left)) (drop 64 ((entry ++ v) ++ left)) ≡ v =
      ap (λ n. take n (drop 64 ((entry ++ v) ++ left))) (behind_entry ∙ sym count)
      ∙ (ap (λ l. take (length v) (drop 64 l)) (append_assoc entry v left) ∙ (ap (take (length v)) (drop_at entry (v ++ left) 64 size) ∙ take_at v left (length v) refl)) in
      λ k. command (cut k) (value k)

  rest_is : drop (64 + value_follows ((entry ++ v) ++ left)) ((entry ++ v) ++ left) ≡ left
  rest_is =
      let e = behind_entry in
      drop_at (entry ++ v) left (64 + value_follows ((entry ++ v) ++ left)) (omega (arith, length-append entry v, e))

  one_command : script ((entry ++ v) ++ left) ≡ script_after (command entry v ∷ []) (script left)
  one_command = whole ((entry ++ v) ++ left) begins ∙ (λ k. script_after (first_is k ∷ []) (script (rest_is k)))

pub Spells-one : (entry v : List ℕ) (c : Command) → length entry ≡ 64 → length v ≡ value_follows entry → c ≡ command entry v → Spells (entry ++ v) (c ∷ [])
Spells-one entry v c size count is left = one_command entry v left size count ∙ ap (λ d. script_after (d ∷ []) (script left)) (sym is)

not_left : (a b : Bool) → a ≡ false → (a && b) ≡ false
not_left a b p = ap (λ x. x && b) p

not_right : (a b : Bool) → b ≡ false → (a && b) ≡ false
not_right true b p = p
not_right false b p = refl

-- fewer bytes than an entry has
pub IsPart-entry : (part : List ℕ) → length part < 64 → IsPart part
IsPart-entry part few = part_of part (not_left (nat_le 64 (length part)) (nat_le (64 + value_follows part) (length part)) (grind (arith, nat_tests)))

-- fewer bytes than the value has
pub IsPart-value : (entry v : List ℕ) → length entry ≡ 64 → length v < value_follows entry → IsPart (entry ++ v)
IsPart-value entry v size few =
    let e : value_follows (entry ++ v) ≡ value_follows entry = value_follows-front entry v size in
    let n : length (entry ++ v) ≡ 64 + length v = omega (arith, length-append entry v) in
    part_of (entry ++ v) (not_right (nat_le 64 (length (entry ++ v))) (nat_le (64 + value_follows (entry ++ v)) (length (entry ++ v))) (grind (arith, nat_tests, e, n)))
