use Rattle.std.proofs.Common.{◌∙◌, ℕ, List, [], Ok, nat_lt, length, sym, ap}
use Rattle.std.specs.Option.{option_copied}
use Rattle.pk_nvme.specs.Command.{key_or_none}
use Rattle.pk_host.{specs.Calls.of_bytes, proofs.CallLemmas.ok_if}
use Rattle.pk_host.proofs.PageLemmas.{for_start, start_short, page_read, follows_read, knows_keys, took_lists, ok_only, ok_never, all_read, none_read}
use Rattle.pk_host.proofs.host.Host.page_from.Goals.{in-Ok+in-0, in-Ok+in_default, in-Err}
use Rattle.pk_base.specs.Key.{Key}
use Rattle.pk_host.proofs.host.Host.page_from.Goals as goal

pub returns-clause-pages : goal.returns-clause-pages
returns-clause-pages g c = elim c.match-ask.branch [
  | in-Ok+in-0 w ↦ ok_if c.match-ask.result _ (page_read _ _ (key_or_none (option_copied c.args.from)) _ c.match-ask.page
      (start_short (key_or_none (option_copied c.args.from)) _ c.start_bytes.ensures.bytes c.start_bytes.ensures.short) c.start_bytes.ensures.key
      (for_start _ _ (key_or_none (option_copied c.args.from)) _ _ c.start_bytes.ensures.bytes w.in-Ok.ensures.replies) w.in-0.is (w.page-is ∙ w.read_keys.ensures))
  | in-Ok+in_default w ↦ ok_only c.match-ask.result _ _ w.result-is
  | in-Err w ↦ ok_only c.match-ask.result _ _ w.result-is
]

pub returns-clause-follows : goal.returns-clause-follows
returns-clause-follows g c = elim c.match-ask.branch [
  | in-Ok+in-0 w ↦ follows_read _ _ (key_or_none (option_copied c.args.from)) _ c.match-ask.page c.match-ask.result
      (start_short (key_or_none (option_copied c.args.from)) _ c.start_bytes.ensures.bytes c.start_bytes.ensures.short) c.start_bytes.ensures.key
      (for_start _ _ (key_or_none (option_copied c.args.from)) _ _ c.start_bytes.ensures.bytes w.in-Ok.ensures.replies) w.in-0.is (w.page-is ∙ w.read_keys.ensures)
      (w.result-is ∙ ap (λ (n : ℕ). Ok (nat_lt 0 n)) (w.len.ensures.count ∙ ap (λ (ks : List Key). length ks) (sym w.page-is)))
  | in-Ok+in_default w ↦ ok_never c.match-ask.result _ _ w.result-is
  | in-Err w ↦ ok_never c.match-ask.result _ _ w.result-is
]

pub returns-clause-known : goal.returns-clause-known
returns-clause-known g c = elim c.match-ask.branch [
  | in-Ok+in-0 w ↦ ok_if c.match-ask.result _ (knows_keys _ _ _ _ w.in-Ok.ensures.replies)
  | in-Ok+in_default w ↦ ok_only c.match-ask.result _ _ w.result-is
  | in-Err w ↦ ok_only c.match-ask.result _ _ w.result-is
]

pub returns-clause-above : goal.returns-clause-above
returns-clause-above g c = elim c.match-ask.branch [
  | in-Ok+in-0 w ↦ all_read (key_or_none (option_copied c.args.from)) c.match-ask.page _ (w.page-is ∙ w.read_keys.ensures)
  | in-Ok+in_default w ↦ none_read (key_or_none (option_copied c.args.from)) c.match-ask.page (w.page-is ∙ c.clear.ensures)
  | in-Err w ↦ none_read (key_or_none (option_copied c.args.from)) c.match-ask.page (w.page-is ∙ c.clear.ensures)
]

pub returns-clause-leaves : goal.returns-clause-leaves
returns-clause-leaves g c =
    took_lists _ _ _ (g.met.P.Port.took_state _ _ _ c.ask.ensures.took)
    ((key_or_none (option_copied c.args.from), ap (λ (q : List ℕ). of_bytes 0x06 q 65536 0 []) c.start_bytes.ensures.bytes), tt)
