use Rattle.pk_dump.proofs.ReadPages.{page_read, full_page}
use Rattle.pk_dump.proofs.pages.read_page.Goals as goal

pub returns-in-Ok-page_of-clause-found : goal.returns-in-Ok-page_of-clause-found
returns-in-Ok-page_of-clause-found g c = page_read _ _ _ _ _ c.in-Ok.ensures.found c.in-Ok.ensures.bytes c.in-Ok-page_of.ensures

pub returns-in-Ok-page_of-clause-full : goal.returns-in-Ok-page_of-clause-full
returns-in-Ok-page_of-clause-full g c =
    full_page _ _ _ _ c.requires.ready.flash (page_read _ _ _ _ _ c.in-Ok.ensures.found c.in-Ok.ensures.bytes c.in-Ok-page_of.ensures)
