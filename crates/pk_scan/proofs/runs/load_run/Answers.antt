use Rattle.pk_scan.proofs.Loading.{room_for_blocks, empty_stands, awaits_pages, loads_behind}
use Rattle.pk_scan.proofs.runs.load_run.Goals as goal

pub add_blocks-requires : goal.add_blocks-requires
add_blocks-requires g c = room_for_blocks c.args.into.now c.args.blocks.now c.args.count c.known.ensures.shape c.requires.may.is_empty c.requires.may.few c.requires.may.places

pub read_pages-requires-clause-awaits : goal.read_pages-requires-clause-awaits
read_pages-requires-clause-awaits g c =
    awaits_pages c.args.into.now c.add_blocks.new.into c.args.blocks.now c.args.pins c.args.count _ c.args.arena.now c.known.ensures.shape
    c.requires.may.is_empty c.add_blocks.ensures.added c.requires.may.exist c.requires.may.few c.requires.may.places c.requires.may.page_bytes c.requires.may.free
    (c.add_blocks.ensures.stands _ _ _ (empty_stands c.args.into.now _ _ c.known.ensures.shape c.requires.may.is_empty))

pub returns-clause-loads : goal.returns-clause-loads
returns-clause-loads g c = loads_behind c.args.pins _ c.args.blocks.now c.args.arena.now c.read_pages.new.arena c.args.into.now
    c.add_blocks.new.into c.read_pages.new.into c.requires.may.is_empty c.add_blocks.ensures.added c.read_pages.ensures.loads
