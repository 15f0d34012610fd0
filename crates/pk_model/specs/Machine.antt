-- A machine over a map in memory: what it holds, and what it answers.
use Rattle.std.specs.Prelude.{◌≡◌, ℕ, List, replicate}
use Rattle.pk_base.{specs.Shape.Shape, specs.Shape.limit, specs.Map.Map}
use Rattle.pk_nvme.{specs.Command.Command, specs.Reply.Reply}
use Rattle.pk_model.{specs.Spaces.Terms, specs.Spaces.one_space, specs.Answer.reply, specs.Answer.map_after, specs.declared.answer.Answer.Answer}

pub record Machine : Type 0 where
  pub shape : Shape
  pub map : Map

-- the reply that an answer is
abbrev pub replied : Answer → Reply
replied a = record { status = a.status; result = a.result; data_bytes = a.bytes.items }

-- a machine in memory has no numbers of its own
abbrev pub no_numbers : List ℕ
no_numbers = replicate 11 0

-- it has no frames, and one namespace with the limit of its shape
abbrev pub machine_terms : Shape → Terms
machine_terms shape = one_space 0 (limit shape)

-- The command was answered as the definition says, and left the map that it says.
pub record Answers (old new : Machine) (c : Command) (a : Answer) : Type 0 where
  pub reply_is : replied a ≡ reply old.shape (machine_terms old.shape) old.map no_numbers c
  pub map_is : new ≡ record old { map = map_after old.shape (machine_terms old.shape).limits old.map c }
