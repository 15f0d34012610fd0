-- Records that are taken piece by piece, and what they show.
use Rattle.std.proofs.Common.{◌≡◌, ℕ, zero, suc, ◌<◌, ◌≤◌, ◌+◌, ◌-◌, Bool, true, false, List, [], ◌∷◌, ◌++◌, length, take, drop, refl, sym, ◌∙◌, ap, subst, arith, append_assoc, append-nil}
use Rattle.std.proofs.Common.{length-append, length-drop, length-take-le}
use Rattle.std.specs.Prelude.{nat_lt, nat_le, ◌==◌, ◌^◌, if◌then◌else◌, codes, IsTrue, ◌↔◌}
use Rattle.std.{proofs.lemmas.Bool.Decides.nat_tests, proofs.lemmas.Bool.le-ltb, proofs.lemmas.Bool.lt-ltb, proofs.lemmas.Bool.le-leb, proofs.lemmas.Bool.lt-leb, proofs.Math.Seq.take-append_seam}
use Rattle.std.{proofs.Math.Seq.drop-append_seam, proofs.Math.Seq.take-append-add, proofs.Math.Seq.drop-append-add}
use Rattle.pk_base.specs.Fields.{u16_at, u32_at}
use Rattle.pk_nvme.{specs.Reply.status_at, specs.Text.hex_text, specs.Text.number_text, proofs.TextLemmas.hex_text-append, proofs.TextLemmas.length-hex_text, proofs.TextLemmas.number_text_short}
use Rattle.pk_nvme.specs.Bytes.{RoomyList}
use Rattle.pk_show.specs.Shown.{shown_head, shown as record_line, words, head_of}
use Rattle.pk_nand.{specs.BoardState.BoardState, specs.Calls.put_back, specs.Operations.after_post, specs.Operations.PostFailed}
use Rattle.pk_text.{specs.Written.Written, specs.Written.ended, specs.Written.before, specs.Turns.TurnsFrom, specs.declared.end.TextEnd.TextEnd, proofs.Feeding.Fed-used}
use Rattle.pk_text.specs.Records.{cut_short, data_shown, head_shown, record_shown, records_shown, shown_from}
use Rattle.pk_text.specs.Steps.{ahead, TextAdvances, Fed, IsOver, HeadTaken, TextStops}
use Rattle.pk_text.specs.declared.end.TextEnd.TheVariants.{Truncated, Output, TooMany}
use Rattle.pk_text.proofs.Turning.{not_false, put_back-nil, before-before, Moved-none, Moved-then, Moved-post, known, known_is, told-back, none_ahead, Turns-output, Turns-stop, Turns-taken}

nil_of : (xs : List ℕ) → length xs ≡ 0 → xs ≡ []
nil_of [] e = refl
nil_of (x ∷ xs) e = absurd (omega arith)

abbrev truncated : List ℕ → Written
truncated bytes = record { bytes = bytes; end = Truncated }

no_digits : hex_text [] ≡ []
no_digits = nil_of (hex_text []) (length-hex_text [])

take-front : (n : ℕ) (xs ys : List ℕ) → length xs ≡ n → take n (xs ++ ys) ≡ xs
take-front n xs ys e = ap (λ k. take k (xs ++ ys)) (sym e) ∙ take-append_seam xs ys

drop-front : (n : ℕ) (xs ys : List ℕ) → length xs ≡ n → drop n (xs ++ ys) ≡ ys
drop-front n xs ys e = ap (λ k. drop k (xs ++ ys)) (sym e) ∙ drop-append_seam xs ys

-- ---- data

data_whole : (size : ℕ) (more : List ℕ → Written) (bytes : List ℕ) → size ≤ length bytes → data_shown size more bytes ≡ before (hex_text (take size bytes) ++ codes "\n") (more (drop size bytes))
data_whole size more bytes fits = rw (le-ltb (length bytes) size fits)

data_part : (size : ℕ) (more : List ℕ → Written) (bytes : List ℕ) → length bytes < size → data_shown size more bytes ≡ cut_short bytes
data_part size more bytes few = rw (lt-ltb (length bytes) size few)

take-behind : (size : ℕ) (piece rest : List ℕ) → length piece ≤ size → take size (piece ++ rest) ≡ piece ++ take (size - length piece) rest
take-behind size piece rest fits =
    let e : size ≡ length piece + (size - length piece) = omega arith in
    ap (λ k. take k (piece ++ rest)) e ∙ take-append-add piece rest (size - length piece)

drop-behind : (size : ℕ) (piece rest : List ℕ) → length piece ≤ size → drop size (piece ++ rest) ≡ drop (size - length piece) rest
drop-behind size piece rest fits =
    let e : size ≡ length piece + (size - length piece) = omega arith in
    ap (λ k. drop k (piece ++ rest)) e ∙ drop-append-add piece rest (size - length piece)

data_step : (size : ℕ) (more : List ℕ → Written) (piece rest : List ℕ) (short : Bool) → length piece ≤ size → nat_lt (length rest) (size - length piece) ≡ short
    → data_shown size more (piece ++ rest) ≡ before (hex_text piece) (data_shown (size - length piece) more rest)
data_step size more piece rest true fits e =
    let few : length rest < size - length piece = grind (arith, nat_tests) in
    data_part size more (piece ++ rest) (omega (arith, length-append piece rest))
    ∙ (ap truncated (hex_text-append piece rest)
    ∙ ap (before (hex_text piece)) (sym (data_part (size - length piece) more rest few)))
data_step size more piece rest false fits e =
    let enough : size - length piece ≤ length rest = grind (arith, nat_tests) in
    let text : hex_text (take size (piece ++ rest)) ++ codes "\n" ≡ hex_text piece ++ (hex_text (take (size - length piece) rest) ++ codes "\n") =
    ap (λ t. hex_text t ++ codes "\n") (take-behind size piece rest fits)
    ∙ (ap (λ t. t ++ codes "\n") (hex_text-append piece (take (size - length piece) rest)) ∙ append_assoc (hex_text piece) (hex_text (take (size - length piece) rest)) (codes "\n")) in
    data_whole size more (piece ++ rest) (omega (arith, length-append piece rest))
    ∙ (ap (λ t. before t (more (drop size (piece ++ rest)))) text
    ∙ (ap (λ l. before (hex_text piece ++ (hex_text (take (size - length piece) rest) ++ codes "\n")) (more l)) (drop-behind size piece rest fits)
    ∙ (sym (before-before (hex_text piece) (hex_text (take (size - length piece) rest) ++ codes "\n") (more (drop (size - length piece) rest)))
    ∙ ap (before (hex_text piece)) (sym (data_whole (size - length piece) more rest enough)))))

data_end : (more : List ℕ → Written) (rest : List ℕ) → data_shown 0 more rest ≡ before (codes "\n") (more rest)
data_end more rest = data_whole 0 more rest (omega arith) ∙ ap (λ t. before (t ++ codes "\n") (more rest)) no_digits

data_none : (size : ℕ) (more : List ℕ → Written) → 0 < size → data_shown size more [] ≡ ended Truncated
data_none size more some = data_part size more [] some ∙ ap truncated no_digits

-- ---- heads

record_whole : (more : List ℕ → Written) (head rest : List ℕ) → length head ≡ 24 → record_shown more (head ++ rest) ≡ head_shown head more rest
record_whole more head rest size = rw (le-ltb (length (head ++ rest)) 24 (omega (arith, length-append head rest)), take-front 24 head rest size, drop-front 24 head rest size)

record_part : (more : List ℕ → Written) (bytes : List ℕ) → length bytes < 24 → record_shown more bytes ≡ ended Truncated
record_part more bytes few = rw (lt-ltb (length bytes) 24 few)

-- ---- any number of records

record_same : (f g : List ℕ → Written) (bytes : List ℕ) → ((rest : List ℕ) → length rest ≤ length bytes - 24 → f rest ≡ g rest) → record_shown f bytes ≡ record_shown g bytes
record_same f g bytes same =
    ap (λ (w : Written). if nat_lt (length bytes) 24 then ended Truncated else before (shown_head (take 24 bytes))
    (if nat_lt (length (drop 24 bytes)) (u32_at (take 24 bytes) 20) then cut_short (drop 24 bytes)
    else before (hex_text (take (u32_at (take 24 bytes) 20) (drop 24 bytes)) ++ codes "\n") w))
    (same (drop (u32_at (take 24 bytes) 20) (drop 24 bytes)) (omega (arith, length-drop (u32_at (take 24 bytes) 20) (drop 24 bytes), length-drop 24 bytes)))

enough : (n m taken : ℕ) (bytes : List ℕ) → length bytes ≤ n → length bytes ≤ m → records_shown n taken bytes ≡ records_shown m taken bytes
enough zero zero taken bytes hn hm = refl
enough zero (suc m) taken [] hn hm = refl
enough zero (suc m) taken (x ∷ xs) hn hm = absurd (omega arith)
enough (suc n) zero taken [] hn hm = refl
enough (suc n) zero taken (x ∷ xs) hn hm = absurd (omega arith)
enough (suc n) (suc m) taken [] hn hm = refl
enough (suc n) (suc m) taken (x ∷ xs) hn hm =
    ap (λ w. if nat_le 4294967295 taken then ended TooMany else w)
    (record_same (λ rest. records_shown n (suc taken) rest) (λ rest. records_shown m (suc taken) rest) (x ∷ xs) (λ rest few. enough n m (suc taken) rest (omega arith) (omega arith)))

one_record : (taken : ℕ) (bytes : List ℕ) → taken < 4294967295 → 0 < length bytes → shown_from taken bytes ≡ record_shown (shown_from (suc taken)) bytes
one_record taken [] few some = absurd (omega arith)
one_record taken (x ∷ xs) few some =
    rw (lt-leb 4294967295 taken few) (record_same (λ rest. records_shown (length xs) (suc taken) rest) (shown_from (suc taken)) (x ∷ xs)
    (λ rest short. enough (length xs) (length rest) (suc taken) rest (omega arith) (omega arith)))

too_many : (taken byte : ℕ) (rest : List ℕ) → 4294967295 ≤ taken → shown_from taken (byte ∷ rest) ≡ ended TooMany
too_many taken byte rest full = rw (le-leb 4294967295 taken full)

first_head : (taken : ℕ) (head rest : List ℕ) → taken < 4294967295 → length head ≡ 24 → shown_from taken (head ++ rest) ≡ head_shown head (shown_from (suc taken)) rest
first_head taken head rest few size =
    one_record taken (head ++ rest) few (omega (arith, length-append head rest)) ∙ record_whole (shown_from (suc taken)) head rest size

pub whole_record : ((head bytes : List ℕ) → length bytes ≡ u32_at head 20 → shown_head head ++ hex_text bytes ++ codes "\n" ≡ record_line head bytes)
    → (taken : ℕ) (head bytes rest : List ℕ) → taken < 4294967295 → length head ≡ 24 → length bytes ≡ u32_at head 20
    → shown_from taken (head ++ (bytes ++ rest)) ≡ before (record_line head bytes) (shown_from (suc taken) rest)
whole_record law taken head bytes rest few size whole =
    let none : u32_at head 20 - length bytes ≡ 0 = omega arith in
    first_head taken head (bytes ++ rest) few size
    ∙ (ap (before (shown_head head)) (data_step (u32_at head 20) (shown_from (suc taken)) bytes rest (nat_lt (length rest) (u32_at head 20 - length bytes)) (omega arith) refl
    ∙ (ap (λ k. before (hex_text bytes) (data_shown k (shown_from (suc taken)) rest)) none ∙ ap (before (hex_text bytes)) (data_end (shown_from (suc taken)) rest)))
    ∙ (before-before (shown_head head) (hex_text bytes) (before (codes "\n") (shown_from (suc taken) rest))
    ∙ (before-before (shown_head head ++ hex_text bytes) (codes "\n") (shown_from (suc taken) rest)
    ∙ ap (λ t. before t (shown_from (suc taken) rest)) (law head bytes whole))))

-- ---- steps

pub Head-advances : (taken : ℕ) (p q head : List ℕ) (a b : BoardState) → taken < 4294967295 → HeadTaken p q a b head true
    → TextAdvances (shown_from taken) (head_shown head (shown_from (suc taken))) (ahead p a) (ahead q b) a b
Head-advances taken p q head a b few h = record {
  bytes = head;
  out = [];
  came = h.0.came;
  spells = λ rest. first_head taken head rest few h.1;
  moved = h.0.moved;
}

pub Head-part : (taken : ℕ) (p q head : List ℕ) (a b : BoardState) → taken < 4294967295 → 0 < length head → HeadTaken p q a b head false → TurnsFrom (shown_from taken) (ahead p a) a b Truncated
Head-part taken p q head a b few some h =
    Turns-taken (shown_from taken) _ a b (head ++ []) [] Truncated (told-back (ahead p a) (ahead q b) head [] h.0.came (none_ahead q b h.2)) h.0.moved
    (ap (shown_from taken) (append-nil head) ∙ (one_record taken head few some ∙ record_part (shown_from (suc taken)) head h.1)) (λ all. (all, h.2.at_end))

-- the same bytes are ahead after a post
posted_advances : (f g : List ℕ → Written) (p out : List ℕ) (a b : BoardState) → ((rest : List ℕ) → f rest ≡ before out (g rest)) → b ≡ after_post a out → TextAdvances f g (ahead p a) (ahead p b) a b
posted_advances f g p out a b spells posted =
    record { bytes = []; out = out; came = ap (put_back p) (sym (ap (λ s. s.input) posted)) ∙ put_back-nil (ahead p b); spells = spells; moved = Moved-post a b out posted }

-- a post fails before anything is taken
unposted : (f g : List ℕ → Written) (p out : List ℕ) (a b : BoardState) → ((rest : List ℕ) → f rest ≡ before out (g rest)) → PostFailed a b out → TurnsFrom f (ahead p a) a b Output
unposted f g p out a b spells failed =
    Turns-output f (ahead p a) (known (ahead p a)) a a b out (g (known (ahead p a))) (known_is (ahead p a)) (Moved-none a) failed (spells (known (ahead p a)))

pub Front-advances : (size : ℕ) (more : List ℕ → Written) (p head : List ℕ) (a b : BoardState) → size ≡ u32_at head 20 → b ≡ after_post a (shown_head head)
    → TextAdvances (head_shown head more) (data_shown size more) (ahead p a) (ahead p b) a b
Front-advances size more p head a b same posted =
    posted_advances (head_shown head more) (data_shown size more) p (shown_head head) a b (λ rest. ap (λ k. before (shown_head head) (data_shown k more rest)) (sym same)) posted

pub Front-failed : (more : List ℕ → Written) (p head : List ℕ) (a b : BoardState) → PostFailed a b (shown_head head) → TurnsFrom (head_shown head more) (ahead p a) a b Output
Front-failed more p head a b f = unposted (head_shown head more) (data_shown (u32_at head 20) more) p (shown_head head) a b (λ rest. refl) f

pub Data-advances : (left count : ℕ) (more : List ℕ → Written) (p q q' piece : List ℕ) (a b c : BoardState) → Fed p q a b [] → count ≤ length q → count ≤ left → piece ≡ take count q
    → q' ≡ drop count q → c ≡ after_post b (hex_text piece) → TextAdvances (data_shown left more) (data_shown (left - count) more) (ahead p a) (ahead q' c) a c
Data-advances left count more p q q' piece a b c fed fits few is is' posted =
    let size : length piece ≡ count = ap length is ∙ length-take-le count q fits in
    let F : List ℕ → Type 0 = λ x. Fed p (drop count q) a b x in
    let G : List ℕ → Type 0 = λ x. Fed p x a b piece in
    let used = subst G (sym is') (subst F (sym is) (Fed-used p q count a b fed)) in
    record {
      bytes = piece;
      out = hex_text piece;
      came = used.came ∙ ap (λ i. put_back piece (put_back q' i)) (sym (ap (λ s. s.input) posted));
      spells = λ rest. data_step left more piece rest (nat_lt (length rest) (left - length piece)) (omega arith) refl ∙ ap (λ k. before (hex_text piece) (data_shown (left - k) more rest)) size;
      moved = Moved-then a b c [] (hex_text piece) used.moved (Moved-post b c (hex_text piece) posted);
    }

pub Data-failed : (left count : ℕ) (more : List ℕ → Written) (p q piece : List ℕ) (a b c : BoardState) → Fed p q a b [] → count ≤ length q → count ≤ left → piece ≡ take count q
    → PostFailed b c (hex_text piece) → TurnsFrom (data_shown left more) (ahead p a) a c Output
Data-failed left count more p q piece a b c fed fits few is f =
    let size : length piece ≡ count = ap length is ∙ length-take-le count q fits in
    let F : List ℕ → Type 0 = λ x. Fed p (drop count q) a b x in
    let used = subst F (sym is) (Fed-used p q count a b fed) in
    let rest : List ℕ = known (ahead (drop count q) b) in
    Turns-output (data_shown left more) (ahead p a) (piece ++ rest) a b c (hex_text piece) (data_shown (left - length piece) more rest)
    (told-back (ahead p a) (ahead (drop count q) b) piece rest used.came (known_is (ahead (drop count q) b))) used.moved f
    (data_step left more piece rest (nat_lt (length rest) (left - length piece)) (omega arith) refl)

pub Data-part : (left : ℕ) (more : List ℕ → Written) (p q : List ℕ) (a b : BoardState) → 0 < left → Fed p q a b [] → IsOver q b → TurnsFrom (data_shown left more) (ahead p a) a b Truncated
Data-part left more p q a b some fed over =
    Turns-taken (data_shown left more) _ a b [] [] Truncated (told-back (ahead p a) (ahead q b) [] [] fed.came (none_ahead q b over)) fed.moved (data_none left more some) (λ all. (all, over.at_end))

pub End-advances : (more : List ℕ → Written) (p : List ℕ) (a b : BoardState) → b ≡ after_post a (codes "\n") → TextAdvances (data_shown 0 more) more (ahead p a) (ahead p b) a b
End-advances more p a b posted = posted_advances (data_shown 0 more) more p (codes "\n") a b (data_end more) posted

pub End-failed : (more : List ℕ → Written) (p : List ℕ) (a b : BoardState) → PostFailed a b (codes "\n") → TurnsFrom (data_shown 0 more) (ahead p a) a b Output
End-failed more p a b f = unposted (data_shown 0 more) more p (codes "\n") a b (data_end more) f

pub Records-stop : (taken : ℕ) (p q : List ℕ) (a b : BoardState) (end : TextEnd) → 4294967295 ≤ taken → TextStops p q a b end → TurnsFrom (shown_from taken) (ahead p a) a b end
Records-stop taken p q a b end full h = Turns-stop (shown_from taken) p q a b end refl (λ byte rest. too_many taken byte rest full) h

-- ---- how long the start of a line is

dash_short : (b : Bool) → length (if b then codes "-" else []) ≤ 1
dash_short true = omega arith
dash_short false = omega arith

length-words : (head : List ℕ)
    → length (words (head_of head)) ≡ length (number_text (u16_at head 12)) + length (number_text (u32_at head 0)) + length (number_text (u32_at head 16)) + 35
length-words head = simp length-append (omega (arith, length-hex_text (status_at head ∷ [])))

front_length : (head : List ℕ) → u16_at head 12 < 2 ^ 32 → u32_at head 0 < 2 ^ 32 → u32_at head 16 < 2 ^ 32 → length (shown_head head) ≤ 66
front_length head cid result reads =
    omega (
      arith,
      length-append (words (head_of head)) (if u32_at head 20 == 0 then codes "-" else []),
      length-words head,
      dash_short (u32_at head 20 == 0),
      (number_text_short (u16_at head 12) cid).1,
      (number_text_short (u32_at head 0) result).1,
      (number_text_short (u32_at head 16) reads).1,
    )

pub front_short : (head : List ℕ) (cid result reads : ℕ) → cid ≡ u16_at head 12 → result ≡ u32_at head 0
    → reads ≡ u32_at head 16 → cid < 2 ^ 32 → result < 2 ^ 32 → reads < 2 ^ 32 → length (shown_head head) ≤ 66
front_short head cid result reads e f g cid_few result_few reads_few = front_length head (omega arith) (omega arith) (omega arith)

-- the start of a line fits
pub no_refusal : (old now : RoomyList) (text : List ℕ) (r : Bool) → length text ≤ 66 → old.room ≡ 8192
    → now ≡ record old { items = [] } → (IsTrue r ↔ (length now.items + length text ≤ now.room)) → r ≡ false → ⊥
no_refusal old now text r short room clear h e =
    let none : length now.items ≡ 0 = ap (λ (l : RoomyList). length l.items) clear in
    let same : now.room ≡ old.room = ap (λ (l : RoomyList). l.room) clear in
    not_false r (h.1 (omega arith)) e
