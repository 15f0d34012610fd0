use Rattle.pk_serve.{proofs.Giving.posts_one, proofs.Giving.post-breaks, proofs.Blaming.quiet-post}
use Rattle.pk_serve.proofs.step.give.Goals as goal

pub returns-in-Ok-clause-posts : goal.returns-in-Ok-clause-posts
returns-in-Ok-clause-posts g c = posts_one _ _ _ c.in-Ok.ensures.ok

pub returns-in-Err-clause-breaks : goal.returns-in-Err-clause-breaks
returns-in-Err-clause-breaks g c = post-breaks _ _ _ c.in-Err.ensures.err

pub returns-in-Ok-clause-quiet : goal.returns-in-Ok-clause-quiet
returns-in-Ok-clause-quiet g c = quiet-post _ _ _ c.in-Ok.ensures.ok
