use Rattle.pk_serve.proofs.Closing.{keeps_script, keeps_some, answers_all, calls_within, causes_all, none_left}
use Rattle.pk_serve.{proofs.Consuming.says_of_script, proofs.Completing.completes}
use Rattle.pk_serve.proofs.server.Server.serve.Goals as goal

pub returns : goal.returns
returns g c =
    let none = none_left _ _ _ c.serve_all.ensures.none in
    let e = c.serve_all.ensures.runs in
    record {
      blames = e.blames;
      says = says_of_script _ _ _ e.consumes;
      kept = keeps_script _ _ _ _ _ e.ends;
      kept_untold = keeps_some _ _ _ _ _ e.ends;
      served = answers_all _ _ _ _ _ e.ends none;
      calls = calls_within _ _ _ _ _ e.ends;
      causes = causes_all _ _ _ _ _ e.ends none;
      complete = completes _ _ _ _ _ e.ends none;
    }
