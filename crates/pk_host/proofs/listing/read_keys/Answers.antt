use Rattle.std.{proofs.Common.◌∙◌, proofs.Common.ℕ, proofs.Common.List, proofs.Common.length, proofs.Common.sym, proofs.Common.ap, proofs.Common.arith, specs.Option.option_copied}
use Rattle.pk_nvme.specs.Command.{key_or_none}
use Rattle.pk_model.specs.Answer.{item_bytes}
use Rattle.pk_host.proofs.ReadLemmas.{stops, goes_on, too_short}
use Rattle.pk_host.proofs.listing.read_keys.Goals as goal

pub returns-then-bytes : goal.returns-then-bytes
returns-then-bytes c = c.clear.ensures ∙ sym (too_short c.args.bytes.now (key_or_none (option_copied c.args.from)) (let short = c.if-bytes.true in omega arith))

pub returns-in-None : goal.returns-in-None
returns-in-None c = stops _ _ _ _ _ _ c.loop-i.invariant (sym c.in-None.ensures.value)

pub loop-i-preserved : goal.loop-i-preserved
loop-i-preserved c = goes_on _ _ _ _ _ _ _ _ _ c.loop-i-test.true c.loop-i.invariant (sym c.in-Some.ensures.value)
    (c.listed_size-at.ensures.size ∙ ap (λ (bytes : List ℕ). length (item_bytes bytes)) c.bytes.ensures.value) c.listed_size-at.ensures.most c.offer.ensures.keys c.offer.ensures.most
