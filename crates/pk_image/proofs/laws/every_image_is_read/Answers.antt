use Rattle.pk_image.proofs.ImageLemmas.{image_again}
use Rattle.pk_image.proofs.laws.every_image_is_read.Goals as goal

pub returns : goal.returns
returns c = image_again
