-- What a line of a text script says.
use Rattle.std.specs.Prelude.{ℕ, ◌==◌, ◌||◌, nat_lt, if◌then◌else◌, List, [], ◌∷◌, length, slice_index, Option, Some, None, option_map, option_and_then, codes, bytes_eq}
use Rattle.pk_nvme.{specs.declared.options.TheConstants.IF_EXISTS, specs.declared.options.TheConstants.IF_ABSENT, specs.declared.options.TheConstants.BOTH, specs.Text.number_of, specs.Text.bytes_of}
use Rattle.pk_asm.{specs.Words.words, specs.Words.key_of, specs.Words.hex_entry, specs.Form.form_entry, specs.declared.sizes.TheConstants.MOST_LINE_BYTES, specs.declared.form.Form.Form}
use Rattle.pk_asm.specs.declared.form.Form.TheVariants.{Store, Retrieve, Delete, Exist, ListFrom, Flush, Report, Tick}

infixl 10 ◌>>=◌
abbrev pub ◌>>=◌ : {A B : Type 0} → Option A → (A → Option B) → Option B
o >>= f = option_and_then f o

-- ---- named lines without bytes, by the words after the name

abbrev pub retrieve_of : List (List ℕ) → Option Form
retrieve_of (k ∷ n ∷ []) = do
  key ← key_of k
  size ← number_of n
  Some (Retrieve key size)
retrieve_of _ = None

abbrev pub delete_of : List (List ℕ) → Option Form
delete_of (k ∷ []) = option_map Delete (key_of k)
delete_of _ = None

abbrev pub exist_of : List (List ℕ) → Option Form
exist_of (k ∷ []) = option_map Exist (key_of k)
exist_of _ = None

-- the key from which to list; `-` is no key
abbrev pub from_of : List ℕ → Option (Option (List ℕ))
from_of word = if bytes_eq word (codes "-") then Some None else option_map Some (key_of word)

abbrev pub list_form : List (List ℕ) → Option Form
list_form (k ∷ n ∷ []) = do
  from ← from_of k
  size ← number_of n
  Some (ListFrom from size)
list_form _ = None

abbrev pub flush_of : List (List ℕ) → Option Form
flush_of [] = Some Flush
flush_of _ = None

abbrev pub report_of : List (List ℕ) → Option Form
report_of [] = Some Report
report_of _ = None

abbrev pub tick_of : List (List ℕ) → Option Form
tick_of (n ∷ []) = option_map Tick (number_of n)
tick_of _ = None

unfoldable pub plain_of : List ℕ → List (List ℕ) → Option Form
plain_of name operands =
    if bytes_eq name (codes "retrieve") then retrieve_of operands else
    if bytes_eq name (codes "delete") then delete_of operands else
    if bytes_eq name (codes "exist") then exist_of operands else
    if bytes_eq name (codes "list") then list_form operands else
    if bytes_eq name (codes "flush") then flush_of operands else
    if bytes_eq name (codes "report") then report_of operands else
    if bytes_eq name (codes "tick") then tick_of operands else None

-- ---- lines with bytes

-- the option bits of a Store
abbrev pub options_of : List ℕ → Option ℕ
options_of word =
    if bytes_eq word (codes "if-exists") then Some IF_EXISTS else
    if bytes_eq word (codes "if-absent") then Some IF_ABSENT else
    if bytes_eq word (codes "both") then Some BOTH else None

-- a Store with its bytes
abbrev pub store_with : Option (List ℕ) → Option (List ℕ) → Option ℕ → Option (Form × List ℕ)
store_with k b o = do
  key ← k
  bytes ← b
  options ← o
  Some (Store key (length bytes) options, bytes)

abbrev pub store_of : List (List ℕ) → Option (Form × List ℕ)
store_of (k ∷ b ∷ []) = store_with (key_of k) (bytes_of b) (Some 0)
store_of (k ∷ b ∷ o ∷ []) = store_with (key_of k) (bytes_of b) (options_of o)
store_of _ = None

-- an entry as it is, and the bytes after it
abbrev pub raw_with : Option (List ℕ) → Option (List ℕ) → Option (List ℕ × List ℕ)
raw_with e b = do
  entry ← e
  bytes ← b
  Some (entry, bytes)

abbrev pub raw_of : List (List ℕ) → Option (List ℕ × List ℕ)
raw_of (e ∷ b ∷ []) = raw_with (hex_entry e) (bytes_of b)
raw_of _ = None

-- ---- whole lines

-- the form and the bytes of a named line
abbrev pub named_of : List ℕ → List (List ℕ) → Option (Form × List ℕ)
named_of name operands =
    if bytes_eq name (codes "store") then store_of operands
    else option_map (λ form. (form, [])) (plain_of name operands)

-- the entry and the bytes of the line with these words, which is of this number among the entries of its script
unfoldable pub entry_said : ℕ → List (List ℕ) → Option (List ℕ × List ℕ)
entry_said number [] = None
entry_said number (name ∷ operands) =
    if bytes_eq name (codes "raw") then raw_of operands
    else option_map (λ named. (form_entry number named.0, named.1)) (named_of name operands)

-- a line gives nothing, or an entry and the bytes after it
pub data Line : Type 0 where
  nothing : Line
  entry : List ℕ → List ℕ → Line

-- what a line says, if it is in the grammar; an empty line and one that begins with `#` give nothing
unfoldable pub says : ℕ → List ℕ → Option Line
says number line =
    if nat_lt MOST_LINE_BYTES (length line) then None else
    if length line == 0 || slice_index line 0 == 35 then Some nothing else option_map (λ said. entry said.0 said.1) (entry_said number (words line))

-- the parts of what is said
abbrev pub entry_in : Line → Option (List ℕ)
entry_in nothing = None
entry_in (entry e bytes) = Some e

abbrev pub line_bytes : Option Line → List ℕ
line_bytes None = []
line_bytes (Some nothing) = []
line_bytes (Some (entry e bytes)) = bytes

-- the bytes that come with something, if there is something
abbrev pub brought : {A : Type 0} → Option (A × List ℕ) → List ℕ
brought None = []
brought (Some (x, bytes)) = bytes
