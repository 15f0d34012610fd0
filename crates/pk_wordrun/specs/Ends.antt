-- How a word ends if a command was not answered.
use Rattle.pk_port.{specs.declared.halt.Halt.Halt, specs.declared.halt.Halt.TheVariants.Stopped, specs.declared.halt.Halt.TheVariants.Worn as UsedUp}
use Rattle.pk_wordrun.{specs.declared.end.WordEnd.WordEnd, specs.declared.end.WordEnd.TheVariants.Flash, specs.declared.end.WordEnd.TheVariants.Worn}

abbrev pub end_of : Halt → WordEnd
end_of Stopped = Flash
end_of UsedUp = Worn
