-- The words of one command each: what they ask for, their command, and what they say.
use Rattle.std.specs.Prelude.{ℕ, ◌<◌, ◌^◌, List, length}
use Rattle.pk_base.{specs.Key.Key, specs.Shape.Shape, specs.Shape.greatest}
use Rattle.pk_nvme.specs.Command.{Command}
use Rattle.pk_host.specs.Calls.{IsOwnKey, store_of, retrieve_of, delete_of, exist_of, report}
use Rattle.pk_host.specs.declared.types.StoreRule.TheVariants.{Any}
use Rattle.pk_words.{specs.Says.Saying, specs.Says.SaysStatus, specs.Says.SaysValue, specs.Says.SaysNumbers, specs.declared.question.Question.Question as Code}
use Rattle.pk_words.specs.declared.question.Question.TheVariants.{Put, Get, Delete, Has, Stat}

-- what a word of one command asks for
pub data Question : Type 0 where
  put : Key → List ℕ → Question
  get : Key → Question
  delete : Key → Question
  has : Key → Question
  stat : Question

abbrev pub seen : Code → Question
seen (Put key value) = put key value.items
seen (Get key) = get key
seen (Delete key) = delete key
seen (Has key) = has key
seen Stat = stat

-- its command, on a drive of this shape: the whole value of a key has at most the greatest size
abbrev pub command_of : Shape → Question → Command
command_of shape (put key value) = store_of key value Any
command_of shape (get key) = retrieve_of key (greatest shape)
command_of shape (delete key) = delete_of key
command_of shape (has key) = exist_of key
command_of shape stat = report

-- a key of the namespace in which commands are passed, and a value whose length is a field of an entry
abbrev pub IsAllowed : Question → Type 0
IsAllowed (put key value) = IsOwnKey key × (length value < 2 ^ 32)
IsAllowed (get key) = IsOwnKey key
IsAllowed (delete key) = IsOwnKey key
IsAllowed (has key) = IsOwnKey key
IsAllowed stat = Unit {0}

-- what it says of the map that it finds, and which map it leaves
abbrev pub QuestionAnswers : Question → Saying
QuestionAnswers (put key value) = SaysStatus (store_of key value Any)
QuestionAnswers (get key) = SaysValue key
QuestionAnswers (delete key) = SaysStatus (delete_of key)
QuestionAnswers (has key) = SaysStatus (exist_of key)
QuestionAnswers stat = SaysNumbers
