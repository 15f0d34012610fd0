-- Records as lines of text.
use Rattle.std.specs.Prelude.{ℕ, ◌==◌, if◌then◌else◌, List, [], ◌∷◌, ◌++◌, codes}
use Rattle.pk_nvme.specs.Reply.{cid_at, status_at, result_at, reads_at, data_bytes_at}
use Rattle.pk_nvme.specs.Text.{number_text, hex_text, bytes_text}
use Rattle.pk_show.specs.declared.head.Head.{Head}

-- the fields of a record's head that are shown
abbrev pub head_of : List ℕ → Head
head_of head = record {
  cid = cid_at head;
  status = status_at head;
  result = result_at head;
  reads = reads_at head;
  data_len = data_bytes_at head;
}

-- the words of a line before its data
abbrev pub words : Head → List ℕ
words h =
    codes "cid=" ++ number_text h.cid ++ codes " status=" ++ hex_text (h.status ∷ []) ++ codes " result=" ++ number_text h.result
    ++ codes " reads=" ++ number_text h.reads ++ codes " data="

-- the line of a record, from its head and its data
abbrev pub shown : List ℕ → List ℕ → List ℕ
shown head bytes = words (head_of head) ++ bytes_text bytes ++ codes "\n"

-- the start of a line that is known from the head alone: all before the digits of the data
abbrev pub front : Head → List ℕ
front h = words h ++ (if h.data_len == 0 then codes "-" else [])

abbrev pub shown_head : List ℕ → List ℕ
shown_head head = front (head_of head)
