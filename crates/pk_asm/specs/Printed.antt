-- The line that is printed for an entry and its bytes.
use Rattle.std.specs.Prelude.{◌≡◌, ℕ, ◌+◌, ◌≤◌, ◌<◌, ◌^◌, Bool, ◌==◌, ◌&&◌, not, nat_le, if◌then◌else◌, List, [], ◌∷◌, ◌++◌, length, take, Option, Some, None, option_map, codes, bytes_eq}
use Rattle.std.specs.List.{flat_map}
use Rattle.pk_base.{specs.declared.sizes.TheConstants.KEY_BYTES, specs.Key.Key, specs.Key.bytes_of}
use Rattle.pk_nvme.{specs.declared.limits.TheConstants.NAMESPACE, specs.Bytes.RoomyList, specs.Command.Command, specs.Command.command}
use Rattle.pk_nvme.specs.declared.opcode.TheConstants.{FLUSH, STORE, RETRIEVE, LIST, DELETE, EXIST, TICK, REPORT}
use Rattle.pk_nvme.specs.declared.options.TheConstants.{IF_EXISTS, IF_ABSENT, BOTH}
use Rattle.pk_nvme.specs.Text.{number_text, hex_text, bytes_text}
use Rattle.pk_asm.{specs.Form.form_entry, specs.Words.blank, specs.Line.says, specs.Line.named_of, specs.Line.entry, specs.declared.sizes.TheConstants.MOST_LINE_BYTES, specs.declared.form.Form.Form}
use Rattle.pk_asm.specs.declared.form.Form.TheVariants.{Store, Retrieve, Delete, Exist, ListFrom, Flush, Report, Tick}

-- ---- how words and lines are spelled

-- words, each after a blank
abbrev pub behind_blanks : List (List ℕ) → List ℕ
behind_blanks words = flat_map (λ word. blank ∷ word) words

-- the line of these words, divided by single blanks
abbrev pub line_of : List (List ℕ) → List ℕ
line_of [] = []
line_of (word ∷ words) = word ++ behind_blanks words

-- the word after a Store with these option bits, if it has one
abbrev pub option_words : ℕ → List (List ℕ)
option_words options =
    if options == IF_EXISTS then codes "if-exists" ∷ [] else
    if options == IF_ABSENT then codes "if-absent" ∷ [] else
    if options == BOTH then codes "both" ∷ [] else []

abbrev pub from_text : Option Key → List ℕ
from_text None = codes "-"
from_text (Some key) = hex_text (bytes_of key)

-- the words of a named line
abbrev pub form_words : Form → List ℕ → List (List ℕ)
form_words (Store key size options) bytes = codes "store" ∷ hex_text (bytes_of key) ∷ bytes_text bytes ∷ option_words options
form_words (Retrieve key size) bytes = codes "retrieve" ∷ hex_text (bytes_of key) ∷ number_text size ∷ []
form_words (Delete key) bytes = codes "delete" ∷ hex_text (bytes_of key) ∷ []
form_words (Exist key) bytes = codes "exist" ∷ hex_text (bytes_of key) ∷ []
form_words (ListFrom from size) bytes = codes "list" ∷ from_text from ∷ number_text size ∷ []
form_words Flush bytes = codes "flush" ∷ []
form_words Report bytes = codes "report" ∷ []
form_words (Tick steps) bytes = codes "tick" ∷ number_text steps ∷ []

abbrev pub form_line : Form → List ℕ → List ℕ
form_line form bytes = line_of (form_words form bytes)

abbrev pub raw_line : List ℕ → List ℕ → List ℕ
raw_line e bytes = line_of (codes "raw" ∷ hex_text e ∷ bytes_text bytes ∷ [])

-- ---- which line an entry has

-- the key in the key's place, if its length is that of a key
abbrev pub key_at : ℕ → List ℕ → Option Key
key_at size place = if nat_le 1 size && nat_le size KEY_BYTES then Some (NAMESPACE ∷ take size place) else None

-- the forms with these fields of a command: the bytes of the key, its place, the size
abbrev pub store_candidate : ℕ → List ℕ → ℕ → ℕ → ℕ → Option Form
store_candidate key_len place size options bytes =
    if size == bytes && nat_le options BOTH then option_map (λ key. Store key size options) (key_at key_len place) else None

abbrev pub retrieve_candidate : ℕ → List ℕ → ℕ → Option Form
retrieve_candidate key_len place size = option_map (λ key. Retrieve key size) (key_at key_len place)

abbrev pub delete_candidate : ℕ → List ℕ → Option Form
delete_candidate key_len place = option_map Delete (key_at key_len place)

abbrev pub exist_candidate : ℕ → List ℕ → Option Form
exist_candidate key_len place = option_map Exist (key_at key_len place)

abbrev pub list_candidate : ℕ → List ℕ → ℕ → Option Form
list_candidate key_len place size =
    if key_len == 0 then Some (ListFrom None size) else option_map (λ key. ListFrom (Some key) size) (key_at key_len place)

-- the form with the fields of a command, whatever else its entry holds; a Store alone brings bytes
unfoldable pub candidate : Command → Option Form
candidate c =
    if c.opcode == STORE then store_candidate c.key_len c.key_bytes c.size c.options (length c.value) else
    if not (length c.value == 0) then None else
    if c.opcode == RETRIEVE then retrieve_candidate c.key_len c.key_bytes c.size else
    if c.opcode == DELETE then delete_candidate c.key_len c.key_bytes else
    if c.opcode == EXIST then exist_candidate c.key_len c.key_bytes else
    if c.opcode == LIST then list_candidate c.key_len c.key_bytes c.size else
    if c.opcode == FLUSH then Some Flush else
    if c.opcode == REPORT then Some Report else
    if c.opcode == TICK then Some (Tick c.size) else None

-- the form, if its entry is this one
abbrev pub that_gives : ℕ → List ℕ → Option Form → Option Form
that_gives number e None = None
that_gives number e (Some form) = if bytes_eq (form_entry number form) e then Some form else None

unfoldable pub form_that_gives : ℕ → List ℕ → List ℕ → Option Form
form_that_gives number e bytes = that_gives number e (candidate (command e bytes))

abbrev pub line_for : Option Form → List ℕ → List ℕ → List ℕ
line_for None e bytes = raw_line e bytes
line_for (Some form) e bytes = form_line form bytes

-- the line of an entry of this number and its bytes
abbrev pub printed : ℕ → List ℕ → List ℕ → List ℕ
printed number e bytes = line_for (form_that_gives number e bytes) e bytes

-- a named line says this form and these bytes, fewer than 2 ^ 32
pub record IsSaid (form : Form) (bytes : List ℕ) : Type 0 where
  pub name : List ℕ
  pub operands : List (List ℕ)
  pub said : named_of name operands ≡ Some (form, bytes)
  pub few : length bytes < 2 ^ 32

-- The line is the named one exactly if a named line of this number gives the same entry and bytes, and it gives
-- this entry and these bytes.
pub record Prints (number : ℕ) (e bytes line : List ℕ) : Type 0 where
  pub named : (form : Form) → IsSaid form bytes → form_entry number form ≡ e → line ≡ form_line form bytes
  pub raw : ((form : Form) → IsSaid form bytes → ¬ (form_entry number form ≡ e)) → line ≡ raw_line e bytes
  pub same : length line ≤ MOST_LINE_BYTES → says number line ≡ Some (entry e bytes)

-- the line and its line feed are written if they fit, otherwise nothing
pub record WritesLine (line : List ℕ) (old new : RoomyList) (is_written : Bool) : Type 0 where
  pub fits : is_written ≡ (nat_le (length line) MOST_LINE_BYTES && nat_le (length old.items + (length line + 1)) old.room)
  pub written : new ≡ record old { items = if is_written then old.items ++ (line ++ 10 ∷ []) else old.items }
