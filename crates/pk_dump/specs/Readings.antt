-- How reading a flash ends.
use Rattle.pk_base.{specs.Shape.Shape, specs.Page.Flash, specs.Refusal.not_formatted, specs.Refusal.damaged}
use Rattle.pk_model.specs.Reading.{Refuses}
use Rattle.pk_scan.specs.Opened.{FoundOnFlash}
use Rattle.pk_dump.specs.declared.reading.Reading.{Reading}
use Rattle.pk_dump.specs.declared.reading.Reading.TheVariants.{Map, NoRoot, Fails}

-- The flash is opened with all that is found, or refused, as the definition of its reading has it.
abbrev pub IsReadingOf : Shape → Flash → Reading → Type 0
IsReadingOf shape flash (Map found) = FoundOnFlash shape flash 0 found
IsReadingOf shape flash NoRoot = Refuses shape flash not_formatted
IsReadingOf shape flash (Fails page) = Refuses shape flash (damaged page)
