use Rattle.std.proofs.Common.{sym, ◌∙◌}
use Rattle.pk_root.proofs.Scanning.{passed_over, taken}
use Rattle.pk_root.proofs.scan.newer.Goals as goal

pub returns-then-is_older-clause-newer : goal.returns-then-is_older-clause-newer
returns-then-is_older-clause-newer g c =
    passed_over c.args.best c.args.page c.args.into.now.shape c.args.into.now.root c.args.bytes.now c.number.result c.get_u64.result c.number.ensures c.get_u64.ensures
    (sym c.is_older.ensures ∙ c.if-is_older.true)

pub returns-in-Ok-clause-newer : goal.returns-in-Ok-clause-newer
returns-in-Ok-clause-newer g c =
    taken c.args.best c.args.page c.args.into.now.shape c.args.into.now.root c.decode.new.self.root c.args.bytes.now c.number.result c.get_u64.result c.number.ensures c.get_u64.ensures
    (sym c.is_older.ensures ∙ c.if-is_older.false) c.in-Ok.ensures.found
