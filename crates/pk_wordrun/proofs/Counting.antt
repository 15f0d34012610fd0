-- The counters of a workload, one command after another.
use Rattle.std.proofs.Common.{◌≡◌, ℕ, ◌+◌, ◌<◌, ◌≤◌, ◌==◌, max, if◌then◌else◌, List, [], ◌∷◌, ◌++◌, length, Bool, true, false, sym, ◌∙◌, ap, arith}
use Rattle.std.proofs.lemmas.List.{length_push}
use Rattle.pk_nvme.{specs.declared.request.Request.Request, specs.declared.opcode.TheConstants.RETRIEVE}
use Rattle.pk_nvme.specs.declared.status.TheConstants.{SUCCESSFUL_COMPLETION, KEY_DOES_NOT_EXIST, INVALID_VALUE_SIZE, CAPACITY_EXCEEDED, UNRECOVERED_ERROR}
use Rattle.pk_call.specs.declared.types.Outcome.{Outcome}
use Rattle.pk_model.specs.Run.{Exchange}
use Rattle.pk_wordrun.{specs.Summary.answered, specs.Summary.retrieve_reads, specs.Summary.most_read, specs.Sums.Sums, specs.Sums.IsOf, specs.declared.summary.Summary.Summary}

abbrev one : Bool → ℕ
one b = if b then 1 else 0

answered-push : (status : ℕ) (all : List Exchange) (x : Exchange) → answered status (all ++ x ∷ []) ≡ answered status all + one (x.reply.status == status)
answered-push status [] x = omega arith
answered-push status (y ∷ ys) x = let e = answered-push status ys x in omega (arith, e)

answered-few : (status : ℕ) (all : List Exchange) → answered status all ≤ length all
answered-few status [] = omega arith
answered-few status (y ∷ ys) = let h = by (y.reply.status == status) (answered-few status ys) in omega (arith, h)
  where
    by : (b : Bool) → answered status ys ≤ length ys → one b + answered status ys ≤ 1 + length ys
    by true e = omega (arith, e)
    by false e = omega (arith, e)

most-push : (all : List Exchange) (x : Exchange) → most_read (all ++ x ∷ []) ≡ max (most_read all) (retrieve_reads x)
most-push [] x = omega arith
most-push (y ∷ ys) x = let e = most-push ys x in omega (arith, e)

module _ (s : Summary) (all : List Exchange) (x : Exchange) (few : length all < 4294967295) (sums : Sums s all) where
  count-more : (status before after : ℕ) (b : Bool) → before ≡ answered status all → b ≡ (x.reply.status == status)
      → (before < 4294967295 → after ≡ before + one b) → after ≡ answered status (all ++ x ∷ [])
  count-more status before after b is same more =
      let small = answered-few status all in
      let pushed = answered-push status all x in
      let now = more (omega (arith, is, small, few)) in
      now ∙ (ap (λ n. n + one b) is ∙ (ap (λ c. answered status all + one c) same ∙ sym pushed))

  pub sums-more : (r : Request) (o : Outcome) → IsOf r o x → (next : Summary)
      → (s.commands < 4294967295 → next.commands ≡ s.commands + one true)
      → (s.ok < 4294967295 → next.ok ≡ s.ok + one (o.status == SUCCESSFUL_COMPLETION))
      → (s.missing < 4294967295 → next.missing ≡ s.missing + one (o.status == KEY_DOES_NOT_EXIST))
      → (s.large < 4294967295 → next.large ≡ s.large + one (o.status == INVALID_VALUE_SIZE))
      → (s.full < 4294967295 → next.full ≡ s.full + one (o.status == CAPACITY_EXCEEDED))
      → (s.failed < 4294967295 → next.failed ≡ s.failed + one (o.status == UNRECOVERED_ERROR))
      → next.most ≡ max s.most (if r.opcode == RETRIEVE then o.reads else 0)
      → Sums next (all ++ x ∷ [])
  sums-more r o is next commands ok missing large full failed most = record {
    commands = (let has = sums.commands in let e = commands (omega (arith, has, few)) in e ∙ (ap (λ n. n + 1) has ∙ sym (length_push all x)));
    ok = count-more SUCCESSFUL_COMPLETION s.ok next.ok _ sums.ok (ap (λ n. n == SUCCESSFUL_COMPLETION) (sym is.status)) ok;
    missing = count-more KEY_DOES_NOT_EXIST s.missing next.missing _ sums.missing (ap (λ n. n == KEY_DOES_NOT_EXIST) (sym is.status)) missing;
    large = count-more INVALID_VALUE_SIZE s.large next.large _ sums.large (ap (λ n. n == INVALID_VALUE_SIZE) (sym is.status)) large;
    full = count-more CAPACITY_EXCEEDED s.full next.full _ sums.full (ap (λ n. n == CAPACITY_EXCEEDED) (sym is.status)) full;
    failed = count-more UNRECOVERED_ERROR s.failed next.failed _ sums.failed (ap (λ n. n == UNRECOVERED_ERROR) (sym is.status)) failed;
    most = most ∙ (ap (λ n. max n (if r.opcode == RETRIEVE then o.reads else 0)) sums.most
        ∙ (ap (λ op. max (most_read all) (if op == RETRIEVE then o.reads else 0)) (sym is.opcode)
        ∙ (ap (λ n. max (most_read all) (if x.command.opcode == RETRIEVE then n else 0)) (sym is.reads) ∙ sym (most-push all x))));
  }
