use Rattle.std.proofs.Common.{◌≡◌, ℕ, ◌+◌, List, [], ◌∷◌, ◌++◌, arith, ap, sym, ◌∙◌, subst}
use Rattle.std.proofs.lemmas.List.{map-append}
use Rattle.pk_redo.specs.declared.batch.TheConstants.{FIRST_BATCH}
use Rattle.pk_redo.specs.Bytes.{bytes_at}
use Rattle.pk_redo.specs.Log.{Walks, bodies, body_at, next_at}
use Rattle.pk_redo.proofs.Batches.{walks_on}
use Rattle.pk_redo.proofs.reader.find_batches.Goals as goal

pub loop-len-preserved : goal.loop-len-preserved
loop-len-preserved c =
    let log = c.args.log.now in
    let at = c.loop-len.at in
    let is = c.in-Some.ensures in
    let more = walks_on log FIRST_BATCH (bodies log c.loop-len.found.items) at c.loop-len.invariant.walks is.0 in
    let own : bytes_at log (at + 9) c.in-Some.len ≡ body_at log at = ap (bytes_at log (at + 9)) is.1 in
    let pushed = ap (bodies log) c.in_ok-push.ensures.items ∙ map-append (λ (it : ℕ × ℕ). bytes_at log it.0 it.1) c.loop-len.found.items ((at + 9, c.in-Some.len) ∷ []) in
    let next : next_at log at ≡ at + (9 + c.in-Some.len) = omega (arith, is.1) in
    let there : Walks log FIRST_BATCH (bodies log c.loop-len.found.items ++ (bytes_at log (at + 9) c.in-Some.len ∷ [])) (at + (9 + c.in-Some.len)) = rw (own, ← next) more in
    record {
      «open» = c.loop-len.invariant.open;
      walks = subst (λ (bs : List (List ℕ)). Walks log FIRST_BATCH bs (at + (9 + c.in-Some.len))) (sym pushed) there;
      within = omega (arith, is.0.within, is.1);
    }
