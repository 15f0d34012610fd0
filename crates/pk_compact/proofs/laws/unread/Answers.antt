use Rattle.pk_compact.proofs.Touching.{program_unread, erase_unread}
use Rattle.pk_compact.proofs.laws.unread.Goals as goal

pub returns-clause-programs : goal.returns-clause-programs
returns-clause-programs c = program_unread

pub returns-clause-erases : goal.returns-clause-erases
returns-clause-erases c = erase_unread
