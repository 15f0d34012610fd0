use Rattle.std.proofs.Common.{◌∙◌, take}
use Rattle.pk_core.proofs.Replies.{least_of_none, least_of_some}
use Rattle.pk_core.proofs.list.first_key.Goals as goal

pub returns-then-is_empty : goal.returns-then-is_empty
returns-then-is_empty c =
    c.of.ensures ∙ least_of_none c.args.request.now.namespace (take c.args.request.now.key_len c.args.request.now.key) (c.if-is_empty.ensures {u = tt})

pub returns-else-is_empty : goal.returns-else-is_empty
returns-else-is_empty c =
    c.of-else-is_empty.ensures ∙ least_of_some c.args.request.now.namespace (take c.args.request.now.key_len c.args.request.now.key) (c.if-is_empty.ensures {u = tt})
