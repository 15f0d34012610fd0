use Rattle.std.specs.Option.{option_copied}
use Rattle.pk_nvme.specs.Command.{key_or_none}
use Rattle.pk_host.{proofs.CauseLemmas.list_causes, proofs.PageLemmas.start_short}
use Rattle.pk_host.proofs.host.Host.list_page.Goals as goal

pub returns-clause-causes : goal.returns-clause-causes
returns-clause-causes g c =
    list_causes _ _ (key_or_none (option_copied c.args.from)) c.page_from.new.page c.page_from.result
    (start_short (key_or_none (option_copied c.args.from)) _ c.start_bytes.ensures.bytes c.start_bytes.ensures.short) c.page_from.ensures.gives
