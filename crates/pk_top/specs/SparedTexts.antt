-- How contracts see words that ask for a flash with spare blocks.
use Rattle.std.specs.Prelude.{map}
use Rattle.pk_top.{specs.Spared.SparedForm, specs.declared.spared_words.Spared.Spared}

abbrev pub seen_spared : Spared → SparedForm
seen_spared s = record { spares = s.spares; rest = map (λ w. w.now) s.rest.now }
