use Rattle.std.proofs.lemmas.List.{map-set}
use Rattle.pk_nand.specs.Seen.{state}
use Rattle.pk_flash.proofs.pages.choose.Goals as goal

pub returns-then-at-len : goal.returns-then-at-len
returns-then-at-len c = rw c.in-Some.is (map-set state c.args.pages.now.items c.args.at c.in-Some.page)
