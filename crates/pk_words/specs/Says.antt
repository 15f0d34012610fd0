-- What each word says, from the map that it finds to the one that it leaves.
use Rattle.std.{specs.Prelude.◌≡◌, specs.Prelude.◌⊎◌, specs.Prelude.ℕ, specs.Prelude.List, specs.Prelude.◌++◌, specs.Prelude.length, specs.Prelude.Option, specs.FinMap.get}
use Rattle.pk_base.{specs.Key.Key, specs.Shape.Shape, specs.Map.Map, specs.Map.keys_from}
use Rattle.pk_nvme.{specs.Command.Command, specs.Command.key_or_none, specs.Reply.Reply, specs.declared.status.TheConstants.UNRECOVERED_ERROR}
use Rattle.pk_model.{specs.Answer.report_bytes, specs.Run.Step, specs.Spaces.one_space}
use Rattle.pk_words.specs.Lines.{failed_line, status_line, value_line, key_lines, report_lines}

-- a text from one map of a namespace to another, on a drive of this shape, this limit of live pages and this many frames; and what holds if a read
-- failed
abbrev pub Saying : Type 1
Saying = Type 0 → Shape → ℕ → ℕ → Map → List ℕ → Map → Type 0

-- How the one command of a word was answered.
pub record SaysStatus (c : Command) (failed : Type 0) (shape : Shape) (most frames : ℕ) (m : Map) (text : List ℕ) (m' : Map) : Type 0 where
  pub reply : Reply
  pub stepped : Step shape (one_space frames most) m c reply m'
  pub unread : reply.status ≡ UNRECOVERED_ERROR → failed
  pub spelled : text ≡ status_line reply.status

-- a text that was found, or that a read failed
abbrev pub SaysFound : Type 0 → List ℕ → List ℕ → Type 0
SaysFound failed found text = (text ≡ found) ⊎ (failed × (text ≡ failed_line))

-- the whole value of a key
abbrev pub SaysValue : Key → Saying
SaysValue key failed shape most frames m text m' = (m' ≡ m) × SaysFound failed (value_line (get m key)) text

-- the keys of a map that are not below this one, or all of them
abbrev pub wanted_keys : Option Key → Map → List Key
wanted_keys from m = keys_from (key_or_none from) m

-- all keys that are requested, or a prefix of them and that a read failed
abbrev pub ListsKeys : Type 0 → List Key → List ℕ → Type 0
ListsKeys failed wanted text =
    (text ≡ key_lines wanted)
    ⊎ ((front : List Key) × (behind : List Key) × (wanted ≡ front ++ behind) × failed × (text ≡ key_lines front ++ failed_line))

abbrev pub SaysKeys : Option Key → Saying
SaysKeys from failed shape most frames m text m' = (m' ≡ m) × ListsKeys failed (wanted_keys from m) text

-- The numbers of a Report.
pub record SaysNumbers (failed : Type 0) (shape : Shape) (most frames : ℕ) (m : Map) (text : List ℕ) (m' : Map) : Type 0 where
  pub same : m' ≡ m
  pub own : List ℕ
  pub eleven : length own ≡ 11
  pub found : SaysFound failed (report_lines (report_bytes shape most frames m own)) text
