use Rattle.std.proofs.Common.{rules, ◌≡◌}
use Rattle.pk_dump.specs.Findings.{IsFindingOf}
use Rattle.pk_dump.proofs.telling.find.Goals as goal

pub returns-clause-found : goal.returns-clause-found
returns-clause-found g c = record {
  shape_is = search rules;
  pages_are = search rules;
  newest_is = rw (c.in-Ok-new.ensures, c.read_pages.ensures.board.pages) at c.in_ok-newest.ensures.found;
  reading_is = search rules;
}
