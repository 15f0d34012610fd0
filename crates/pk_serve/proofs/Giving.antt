-- Commits, and the posts after them.
use Rattle.std.proofs.Common.{◌≡◌, ℕ, List, [], ◌++◌, refl, sym, subst, append_assoc, ap, arith}
use Rattle.pk_base.{specs.Shape.Shape, specs.Map.Map}
use Rattle.pk_nand.{specs.BoardState.BoardState, specs.Calls.Rose, specs.Operations.after_post, specs.Operations.PostFailed, specs.Effects.OnlyFlash, proofs.Effects.rose_from}
use Rattle.pk_model.{specs.Run.Exchange, specs.Wear.roots, specs.Crashes.commit, specs.Spaces.Terms}
use Rattle.pk_call.{specs.Sight.Sight, specs.Call.KeepsMap, specs.Call.CallReaches, specs.Call.CallGoes, specs.Commit.CommitPrograms}
use Rattle.pk_serve.{specs.Calling.owed, specs.Serving.Serving, specs.Serving.Flushed, specs.Serving.ServingBroken, specs.Serving.Posts, specs.Serving.PostBreaks, specs.declared.end.End.End}
use Rattle.pk_serve.{specs.declared.end.End.TheVariants.Output, specs.declared.end.End.TheVariants.Flash, proofs.Calling.commit_calls}
use Rattle.pk_serve.proofs.Serves.{Serving-commit, Cutoff-commit, Serving-post, Cutoff-post}

-- ---- posts

pub posts_one : (b c : BoardState) (bytes : List ℕ) → c ≡ after_post b bytes → Posts b c bytes
posts_one b c bytes is drive idle shape terms start a behind all m w =
    subst (λ s. Serving shape terms start a s drive behind all m) (sym is) (Serving-post shape terms start a b drive (bytes ++ behind) all m w bytes behind idle refl)

pub post-breaks : (b c : BoardState) (bytes : List ℕ) → PostFailed b c bytes → PostBreaks b c bytes Output
post-breaks b c bytes failed drive idle shape terms start a behind all m w =
    (Cutoff-post shape terms start a b drive (bytes ++ behind) all m w c bytes behind idle refl failed, rose_from w.no_faults.output failed.faults)

-- two consecutive posts
pub posts_both : (b c d : BoardState) (xs ys whole : List ℕ) → whole ≡ xs ++ ys → Posts b c xs → Posts c d ys → Posts b d whole
posts_both b c d xs ys whole is p q drive idle shape terms start a behind all m w =
    q drive idle shape terms start a behind all m (p drive idle shape terms start a (ys ++ behind) all m (rw (is, append_assoc) at w))

-- the second failed
pub breaks_second : (b c d : BoardState) (xs ys more whole : List ℕ) (end : End) → whole ≡ xs ++ (ys ++ more) → Posts b c xs → PostBreaks c d ys end → PostBreaks b d whole end
breaks_second b c d xs ys more whole end is p q drive idle shape terms start a behind all m w =
    q drive idle shape terms start a (more ++ behind) all m (rw append_assoc at (p drive idle shape terms start a ((ys ++ more) ++ behind) all m (rw (is, append_assoc) at w)))

-- ---- a commit

pub commit-breaks : (b c : BoardState) (drive : Sight) (heads : List ℕ) → CallGoes b c drive commit → c.read_faults ≡ b.read_faults → c.reads ≡ b.reads → Rose b.stop_faults c.stop_faults
    → (drive.pending ≡ [] → c ≡ b) → CommitPrograms 1 b c drive → ServingBroken b c drive heads Flash
commit-breaks b c drive heads went reading read rose idle programs shape terms start a behind all m w =
    let calls = commit_calls b c drive.pending idle (programs shape terms m w.stands) in
    (Cutoff-commit shape terms start a b drive (heads ++ behind) all m w c (went shape terms m w.stands) reading read calls, rose_from w.no_faults.stop rose)

module _ (b c : BoardState) (drive after : Sight) (reaches : CallReaches b c drive commit) (stands : KeepsMap b c drive after)
    (rest : OnlyFlash b c) (reading : c.read_faults ≡ b.read_faults) (no_stop : c.stop_faults ≡ b.stop_faults) (read : c.reads ≡ b.reads) (same : roots c ≡ roots b)
    (idle : drive.pending ≡ [] → c ≡ b) (programs : CommitPrograms 1 b c drive) (none : after.pending ≡ []) where
  committed : (shape : Shape) (terms : Terms) (start : Map) (a : BoardState) (unposted : List ℕ) (all : List Exchange) (m : Map)
      → Serving shape terms start a b drive unposted all m → Serving shape terms start a c after unposted all m
  committed shape terms start a unposted all m w =
      let calls = commit_calls b c drive.pending idle (programs shape terms m w.stands) in
      let nothing = ap owed none in
      Serving-commit shape terms start a b drive unposted all m w c after (reaches shape terms m w.stands)
      (stands shape terms m w.stands) rest reading no_stop read same (omega (arith, calls, nothing))

  pub flushes : (d : BoardState) (heads : List ℕ) → Posts c d heads → Flushed b d drive after heads
  flushes d heads posts shape terms start a behind all m w = posts after none shape terms start a behind all m (committed shape terms start a (heads ++ behind) all m w)

  pub flush-breaks : (d : BoardState) (heads : List ℕ) (end : End) → PostBreaks c d heads end → ServingBroken b d drive heads end
  flush-breaks d heads end breaks shape terms start a behind all m w = breaks after none shape terms start a behind all m (committed shape terms start a (heads ++ behind) all m w)
