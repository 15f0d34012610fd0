use Rattle.pk_law_isolation.proofs.Together.{same_replies}
use Rattle.pk_law_isolation.proofs.laws.same_replies.Goals as goal

pub returns : goal.returns
returns c = same_replies
