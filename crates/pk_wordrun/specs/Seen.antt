-- How contracts see what the words ask of a drive.
use Rattle.std.specs.Prelude.{◌<◌, ◌^◌, IfSome}
use Rattle.pk_host.specs.Calls.{IsOwnKey}
use Rattle.pk_words.specs.Question.{IsAllowed, seen as seen_question}
use Rattle.pk_wordrun.{specs.Tasks.Task, specs.Tasks.answer, specs.Tasks.list, specs.Tasks.generate, specs.declared.task.Task.Task as Code}
use Rattle.pk_wordrun.specs.declared.task.Task.TheVariants.{Answer, List as Listed, Generate}

abbrev pub seen : Code → Task
seen (Answer question) = answer (seen_question question)
seen (Listed from) = list from
seen (Generate series) = generate series.start series.count

-- a key of the namespace in which commands are passed, a value whose length is a field of an entry, and a number of commands below 2^32
abbrev pub IsAllowedTask : Task → Type 0
IsAllowedTask (answer question) = IsAllowed question
IsAllowedTask (list from) = IfSome from IsOwnKey
IsAllowedTask (generate begin count) = count < 2 ^ 32
