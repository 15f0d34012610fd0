-- The words of a pair of drives: what each says of the first drive's map, and which map it leaves.
use Rattle.std.specs.Prelude.{ℕ, ◌<◌, ◌^◌, List, length, codes, Option, Some, None, [], ◌∷◌}
use Rattle.std.specs.FinMap.{get as value_at, keys}
use Rattle.pk_base.{specs.Key.Key, specs.Shape.Shape, specs.Map.Map}
use Rattle.pk_nvme.{specs.Command.Command, specs.declared.status.TheConstants.SUCCESSFUL_COMPLETION}
use Rattle.pk_model.specs.Answer.{refused, map_after}
use Rattle.pk_host.{specs.Calls.IsOwnKey, specs.Calls.store_of, specs.Calls.delete_of, specs.declared.types.StoreRule.TheVariants.Any}
use Rattle.pk_words.specs.Lines.{status_line, value_line, key_lines}
use Rattle.pk_mirrorwords.specs.declared.task.PairTask.{PairTask as Code}
use Rattle.pk_mirrorwords.specs.declared.task.PairTask.TheVariants.{Put, Get, Delete, List as Listed, Resync}

pub data PairTask : Type 0 where
  put : Key → List ℕ → PairTask
  get : Key → PairTask
  delete : Key → PairTask
  list : PairTask
  resync : PairTask

abbrev pub seen : Code → PairTask
seen (Put key value) = put key value.items
seen (Get key) = get key
seen (Delete key) = delete key
seen Listed = list
seen Resync = resync

-- a key of the namespace in which commands are passed, and a value whose length is a field of an entry
abbrev pub IsAllowed : PairTask → Type 0
IsAllowed (put key value) = IsOwnKey key × (length value < 2 ^ 32)
IsAllowed (get key) = IsOwnKey key
IsAllowed (delete key) = IsOwnKey key
IsAllowed list = Unit {0}
IsAllowed resync = Unit {0}

-- the command that changes the maps, if one does
abbrev pub change_of : PairTask → Option Command
change_of (put key value) = Some (store_of key value Any)
change_of (get key) = None
change_of (delete key) = Some (delete_of key)
change_of list = None
change_of resync = None

abbrev pub after_change : Shape → List ℕ → Map → Option Command → Map
after_change shape limits m None = m
after_change shape limits m (Some c) = map_after shape limits m c

-- the map that a word leaves, on a drive with these limits
abbrev pub map_left : Shape → List ℕ → PairTask → Map → Map
map_left shape limits task m = after_change shape limits m (change_of task)

-- the status of a command by the definition
abbrev pub status_by : Option ℕ → ℕ
status_by None = SUCCESSFUL_COMPLETION
status_by (Some status) = status

abbrev pub answered_line : Shape → ℕ → Map → Command → List ℕ
answered_line shape most m c = status_line (status_by (refused shape (most ∷ []) m c))

-- what a word says if no read fails
abbrev pub text_of : Shape → ℕ → PairTask → Map → List ℕ
text_of shape most (put key value) m = answered_line shape most m (store_of key value Any)
text_of shape most (get key) m = value_line (value_at m key)
text_of shape most (delete key) m = answered_line shape most m (delete_of key)
text_of shape most list m = key_lines (keys m)
text_of shape most resync m = codes "ok\n"
