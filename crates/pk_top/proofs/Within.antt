-- The frames that words may ask for.
use Rattle.std.proofs.Common.{IfSome, ◌≡◌, ◌≤◌, ◌<◌, ◌^◌, ◌&&◌, ℕ, List, [], ◌∷◌, Option, None, Some, option_map, option_and_then, Bool, true, false, if◌then◌else◌, nat_le, nat_lt, length, bytes_eq}
use Rattle.std.proofs.Common.{codes, subst, sym, ap, ◌∙◌, refl, arith}
use Rattle.std.{proofs.lemmas.Bool.Decides.nat_tests, proofs.lemmas.Bool.and_parts, proofs.lemmas.Bool.ltb-true, specs.Str.Parse.digits_value}
use Rattle.pk_nvme.specs.Text.{number_of, is_number, bytes_of, some_bytes_of}
use Rattle.pk_base.specs.Key.{Key}
use Rattle.pk_asm.specs.Words.{key_of}
use Rattle.pk_host.specs.Calls.{IsOwnKey}
use Rattle.pk_words.specs.Question.{put, get, delete, has, stat}
use Rattle.pk_wordrun.{specs.Seen.IsAllowedTask, specs.Tasks.Task, specs.Tasks.list}
use Rattle.pk_top.specs.Words.{Word, make, serve, ask, question, assemble, show, limits_in_words, make_if, make_of, serve_with, serve_of, put_with, put_of, only_key, list_word, alone, generate_of}
use Rattle.pk_top.specs.Words.{plain_of, word_of}

-- the frames of a word are not too many
abbrev WordWithin : Word → Type 0
WordWithin (serve frames) = frames ≤ 16384
WordWithin (ask task) = IsAllowedTask task
WordWithin word = Unit {0}

abbrev Within : Option Word → Type 0
Within None = Unit {0}
Within (Some word) = WordWithin word

within_if : (b : Bool) (x y : Option Word) → Within x → Within y → Within (if b then x else y)
within_if true x y hx hy = hx
within_if false x y hx hy = hy

within_bind : {A : Type 0} (o : Option A) (f : A → Option Word) → ((a : A) → Within (f a)) → Within (option_and_then f o)
within_bind None f all = tt
within_bind (Some a) f all = all a

-- a key that a word is, is of the first namespace
key_own : (word : List ℕ) → IfSome (key_of word) IsOwnKey
key_own word = by (nat_le (length word) 32) (some_bytes_of word)
  where
    by : (b : Bool) (o : Option (List ℕ)) → IfSome (if b then option_map (λ bytes. 1 ∷ bytes) o else None) IsOwnKey
    by true (Some bytes) = refl
    by b o = tt

within_key : (o : Option Key) (f : Key → Option Word) → IfSome o IsOwnKey → ((key : Key) → IsOwnKey key → Within (f key)) → Within (option_and_then f o)
within_key None f own all = tt
within_key (Some key) f own all = all key own

within_own : (o : Option Key) (f : Key → Word) → IfSome o IsOwnKey → ((key : Key) → IsOwnKey key → WordWithin (f key)) → Within (option_map f o)
within_own None f own all = tt
within_own (Some key) f own all = all key own

-- ---- the forms

make_if-within : (words : List (List ℕ)) (p n m : Option ℕ) → Within (make_if words p n m)
make_if-within words (Some p) (Some n) (Some m) = within_bind _ _ (λ shape. within_bind (limits_in_words shape words) _ (λ limits. tt))
make_if-within words p n m = tt

make-within : (operands : List (List ℕ)) → Within (make_of operands)
make-within (p ∷ n ∷ m ∷ words) = make_if-within words (number_of p) (number_of n) (number_of m)
make-within operands = tt

serve_if-within : (frames : ℕ) (b : Bool) → nat_le frames 16384 ≡ b → Within (if b then Some (serve frames) else None)
serve_if-within frames true few = grind (arith, nat_tests, few)
serve_if-within frames false few = tt

serve-within : (operands : List (List ℕ)) → Within (serve_of operands)
serve-within (n ∷ []) = within_bind (number_of n) serve_with (λ frames. serve_if-within frames (nat_le frames 16384) refl)
serve-within operands = tt

put_with-within : (key bytes : List ℕ) → IsOwnKey key → Within (put_with key bytes)
put_with-within key bytes own = by (nat_lt (length bytes) 4294967296) refl
  where
    by : (b : Bool) → nat_lt (length bytes) 4294967296 ≡ b → Within (if b then Some (question (put key bytes)) else None)
    by true few = (own, grind (arith, nat_tests, few))
    by false few = tt

put-within : (operands : List (List ℕ)) → Within (put_of operands)
put-within (k ∷ b ∷ []) = within_key (key_of k) _ (key_own k) (λ key own. within_bind (bytes_of b) _ (λ bytes. put_with-within key bytes own))
put-within operands = tt

list-within : (operands : List (List ℕ)) → Within (list_word operands)
list-within (k ∷ []) = within_own (key_of k) (λ key. ask (list (Some key))) (key_own k) (λ key own. own)
list-within operands = tt

key-within : (operands : List (List ℕ)) (f : Key → Word) → ((key : Key) → IsOwnKey key → WordWithin (f key)) → Within (option_map f (only_key operands))
key-within (k ∷ []) f all = within_own (key_of k) f (key_own k) all
key-within operands f all = tt

alone-within : (word : Word) (operands : List (List ℕ)) → WordWithin word → Within (alone word operands)
alone-within word [] h = h
alone-within word (x ∷ more) h = tt

-- a number that a text is, is below 2^32
within_number : (text : List ℕ) (f : ℕ → Option Word) → ((n : ℕ) → n < 2 ^ 32 → Within (f n)) → Within (option_and_then f (number_of text))
within_number text f all = by (is_number text && nat_lt (digits_value 10 text) (2 ^ 32)) refl
  where
    by : (b : Bool) → (is_number text && nat_lt (digits_value 10 text) (2 ^ 32)) ≡ b → Within (option_and_then f (if b then Some (digits_value 10 text) else None))
    by true e = all (digits_value 10 text) (ltb-true (digits_value 10 text) (2 ^ 32) (and_parts (is_number text) _ e).1)
    by false e = tt

generate-within : (operands : List (List ℕ)) → Within (generate_of operands)
generate-within (s ∷ c ∷ []) = within_bind (number_of s) _ (λ start. within_number c _ (λ count few. few))
generate-within operands = tt

plain-within : (name : List ℕ) (operands : List (List ℕ)) → Within (plain_of name operands)
unfolding plain_of
plain-within name operands =
    within_if (bytes_eq name (codes "make")) _ _ (make-within operands)
    (within_if (bytes_eq name (codes "serve")) _ _ (serve-within operands)
    (within_if (bytes_eq name (codes "get")) _ _ (key-within operands (λ key. question (get key)) (λ key own. own))
    (within_if (bytes_eq name (codes "del")) _ _ (key-within operands (λ key. question (delete key)) (λ key own. own))
    (within_if (bytes_eq name (codes "has")) _ _ (key-within operands (λ key. question (has key)) (λ key own. own))
    (within_if (bytes_eq name (codes "list")) _ _ (list-within operands)
    (within_if (bytes_eq name (codes "stat")) _ _ (alone-within (question stat) operands tt)
    (within_if (bytes_eq name (codes "asm")) _ _ (alone-within assemble operands tt)
    (within_if (bytes_eq name (codes "show")) _ _ (alone-within show operands tt)
    (within_if (bytes_eq name (codes "gen")) _ _ (generate-within operands) tt)))))))))

words-within : (words : List (List ℕ)) → Within (word_of words)
unfolding word_of
words-within [] = tt
words-within (name ∷ operands) = within_if (bytes_eq name (codes "put")) (put_of operands) (plain_of name operands) (put-within operands) (plain-within name operands)

-- words that ask for serving ask for a number of frames within the limit
pub frames_within : (words : List (List ℕ)) (word : Word) → Some word ≡ word_of words → (frames : ℕ) → word ≡ serve frames → frames ≤ 16384
frames_within words word is frames same =
    let e : word_of words ≡ Some (serve frames) = sym is ∙ ap (λ w. Some w) same in
    subst Within e (words-within words)

-- a key that words name is of the first namespace, and a value that they ask to store is not too long
pub short_within : (words : List (List ℕ)) (word : Word) → Some word ≡ word_of words → (task : Task) → word ≡ ask task → IsAllowedTask task
short_within words word is task same =
    let e : word_of words ≡ Some (ask task) = sym is ∙ ap (λ w. Some w) same in
    subst Within e (words-within words)
