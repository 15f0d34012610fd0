-- Answer records as lines of text.
use Rattle.std.specs.Prelude.{ℕ, zero, suc, nat_le, nat_lt, if◌then◌else◌, List, [], ◌∷◌, ◌++◌, length, take, drop, codes}
use Rattle.pk_nvme.{specs.declared.sizes.TheConstants.RECORD_HEAD_BYTES, specs.Reply.data_bytes_at, specs.Text.hex_text}
use Rattle.pk_show.specs.Shown.{shown_head}
use Rattle.pk_text.specs.Written.{Written, ended, before, most}
use Rattle.pk_text.specs.declared.end.TextEnd.TheVariants.{Done, Truncated, TooMany}

-- data that are cut short give the digits that they have
abbrev pub cut_short : List ℕ → Written
cut_short bytes = record { bytes = hex_text bytes; end = Truncated }

-- the digits of n bytes of data and a line feed, and then what follows
abbrev pub data_shown : ℕ → (List ℕ → Written) → List ℕ → Written
data_shown size more bytes =
    if nat_lt (length bytes) size then cut_short bytes
    else before (hex_text (take size bytes) ++ codes "\n") (more (drop size bytes))

-- the line of a record with this head, from its data on, and then what follows
abbrev pub head_shown : List ℕ → (List ℕ → Written) → List ℕ → Written
head_shown head more bytes = before (shown_head head) (data_shown (data_bytes_at head) more bytes)

-- the line of the record that begins here, and then what follows; a record that ends within its head gives nothing
abbrev pub record_shown : (List ℕ → Written) → List ℕ → Written
record_shown more bytes = if nat_lt (length bytes) RECORD_HEAD_BYTES then ended Truncated else head_shown (take RECORD_HEAD_BYTES bytes) more (drop RECORD_HEAD_BYTES bytes)

-- the lines of at most n records, after this many others
abbrev pub records_shown : ℕ → ℕ → List ℕ → Written
records_shown zero taken bytes = ended Done
records_shown (suc n) taken [] = ended Done
records_shown (suc n) taken (byte ∷ bytes) =
    if nat_le most taken then ended TooMany else record_shown (λ rest. records_shown n (suc taken) rest) (byte ∷ bytes)

-- the lines of all the records that are in the bytes, after this many others
abbrev pub shown_from : ℕ → List ℕ → Written
shown_from taken bytes = records_shown (length bytes) taken bytes

-- what a whole input of records is shown as
abbrev pub shown : List ℕ → Written
shown input = shown_from 0 input
