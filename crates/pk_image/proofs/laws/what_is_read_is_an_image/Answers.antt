use Rattle.pk_image.proofs.ImageLemmas.{image_of}
use Rattle.pk_image.proofs.laws.what_is_read_is_an_image.Goals as goal

pub returns : goal.returns
returns c = image_of
