-- The words for a pair of images, and what each form of them asks for.
use Rattle.std.specs.Prelude.{ℕ, List, [], ◌∷◌, Bool, false, if◌then◌else◌, Option, Some, None, option_and_then, codes, bytes_eq}
use Rattle.pk_words.specs.Question.{put, get, delete}
use Rattle.pk_wordrun.specs.Tasks.{answer, list}
use Rattle.pk_mirrorwords.specs.PairTasks.{PairTask, put as put_both, get as get_either, delete as delete_both, list as list_all, resync}
use Rattle.pk_top.specs.Words.{Word, ask, word_of}

-- what a word of a drive asks of a pair: to store, to find or to delete a value, or for all keys
abbrev pub for_pair : Word → Option PairTask
for_pair (ask (answer (put key value))) = Some (put_both key value)
for_pair (ask (answer (get key))) = Some (get_either key)
for_pair (ask (answer (delete key))) = Some (delete_both key)
for_pair (ask (list None)) = Some list_all
for_pair _ = None

-- the word `resync` and no other
abbrev pub is_resync : List (List ℕ) → Bool
is_resync (name ∷ []) = bytes_eq name (codes "resync")
is_resync _ = false

-- what these words ask for; nothing where they are none of the table
abbrev pub pair_task_of : List (List ℕ) → Option PairTask
pair_task_of words = if is_resync words then Some resync else option_and_then for_pair (word_of words)
