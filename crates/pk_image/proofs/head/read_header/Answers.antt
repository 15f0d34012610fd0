use Rattle.pk_image.proofs.HeaderLemmas.{found, only}
use Rattle.pk_image.proofs.head.read_header.Goals as goal

pub returns-clause-found : goal.returns-clause-found
returns-clause-found c = found c.args.bytes.now c.args.file_len c.shape_of.result c.fits-bytes c.told-bytes c.shape_of.ensures

pub returns-clause-only : goal.returns-clause-only
returns-clause-only c shape is = only c.args.bytes.now c.args.file_len c.shape_of.result c.shape_of.ensures shape is
