-- The words of the program, and what each form of them asks for.
use Rattle.std.specs.Prelude.{ℕ, Bool, true, false, nat_le, nat_lt, length, if◌then◌else◌, List, [], ◌∷◌, Option, Some, None, option_map, option_and_then, codes, bytes_eq}
use Rattle.std.specs.Result.{result_ok}
use Rattle.pk_base.specs.Shape.{Shape, checked, limit}
use Rattle.pk_space.specs.Limits.{limits_checked}
use Rattle.pk_nvme.specs.Text.{number_of, bytes_of}
use Rattle.pk_asm.specs.Words.{key_of}
use Rattle.pk_words.specs.Question.{Question, put, get, delete, has, stat}
use Rattle.pk_wordrun.specs.Tasks.{Task, answer, list, generate}
use Rattle.pk_top.specs.declared.words.TheConstants.{MOST_FRAMES, VALUE_LENGTHS}

-- what the words ask for
pub data Word : Type 0 where
  -- an image of this shape, and the limits of its namespaces
  make : Shape → List ℕ → Word
  serve : ℕ → Word
  ask : Task → Word
  assemble : Word
  show : Word

-- the words of one command each
abbrev pub question : Question → Word
question q = ask (answer q)

infixl 10 ◌>>=◌
abbrev pub ◌>>=◌ : {A B : Type 0} → Option A → (A → Option B) → Option B
o >>= f = option_and_then f o

-- the numbers that these words are
abbrev pub numbers_of : List (List ℕ) → Option (List ℕ)
numbers_of [] = Some []
numbers_of (w ∷ ws) = do
  n ← number_of w
  ns ← numbers_of ws
  Some (n ∷ ns)

-- the limits of namespaces that these words are, if a drive of the shape may have them; the one limit of the shape if there is no word
abbrev pub limits_in_words : Shape → List (List ℕ) → Option (List ℕ)
limits_in_words shape [] = Some (limit shape ∷ [])
limits_in_words shape (w ∷ ws) = numbers_of (w ∷ ws) >>= λ limits. result_ok (limits_checked shape limits)

module _ (words : List (List ℕ)) where
  -- an allowed shape, and the limits that these words are
  abbrev pub make_with : ℕ → ℕ → ℕ → Option Word
  make_with page_bytes block_pages blocks = do
    shape ← result_ok (checked (record { page_bytes = page_bytes; block_pages = block_pages; blocks = blocks }))
    limits ← limits_in_words shape words
    Some (make shape limits)

  abbrev pub make_if : Option ℕ → Option ℕ → Option ℕ → Option Word
  make_if (Some page_bytes) (Some block_pages) (Some blocks) = make_with page_bytes block_pages blocks
  make_if (Some page_bytes) (Some block_pages) None = None
  make_if (Some page_bytes) None blocks = None
  make_if None block_pages blocks = None

abbrev pub make_of : List (List ℕ) → Option Word
make_of (p ∷ n ∷ m ∷ limits) = make_if limits (number_of p) (number_of n) (number_of m)
make_of _ = None

abbrev pub serve_with : ℕ → Option Word
serve_with frames = if nat_le frames MOST_FRAMES then Some (serve frames) else None

abbrev pub serve_of : List (List ℕ) → Option Word
serve_of (n ∷ []) = number_of n >>= serve_with
serve_of _ = None

-- a value whose length is a field of an entry
abbrev pub put_with : List ℕ → List ℕ → Option Word
put_with key bytes = if nat_lt (length bytes) VALUE_LENGTHS then Some (question (put key bytes)) else None

abbrev pub put_of : List (List ℕ) → Option Word
put_of (k ∷ b ∷ []) = do
  key ← key_of k
  bytes ← bytes_of b
  put_with key bytes
put_of _ = None

-- the one key of a form
abbrev pub only_key : List (List ℕ) → Option (List ℕ)
only_key (k ∷ []) = key_of k
only_key _ = None

abbrev pub list_word : List (List ℕ) → Option Word
list_word [] = Some (ask (list None))
list_word (k ∷ []) = option_map (λ key. ask (list (Some key))) (key_of k)
list_word _ = None

-- a form of the name alone
abbrev pub alone : Word → List (List ℕ) → Option Word
alone word [] = Some word
alone word _ = None

abbrev pub generate_of : List (List ℕ) → Option Word
generate_of (s ∷ c ∷ []) = do
  start ← number_of s
  count ← number_of c
  Some (ask (generate start count))
generate_of _ = None

-- the forms without a value
unfoldable pub plain_of : List ℕ → List (List ℕ) → Option Word
plain_of name operands =
    if bytes_eq name (codes "make") then make_of operands else
    if bytes_eq name (codes "serve") then serve_of operands else
    if bytes_eq name (codes "get") then option_map (λ key. question (get key)) (only_key operands) else
    if bytes_eq name (codes "del") then option_map (λ key. question (delete key)) (only_key operands) else
    if bytes_eq name (codes "has") then option_map (λ key. question (has key)) (only_key operands) else
    if bytes_eq name (codes "list") then list_word operands else
    if bytes_eq name (codes "stat") then alone (question stat) operands else
    if bytes_eq name (codes "asm") then alone assemble operands else
    if bytes_eq name (codes "show") then alone show operands else
    if bytes_eq name (codes "gen") then generate_of operands else None

-- what these words ask for; nothing if they are none of the table
unfoldable pub word_of : List (List ℕ) → Option Word
word_of [] = None
word_of (name ∷ operands) = if bytes_eq name (codes "put") then put_of operands else plain_of name operands
