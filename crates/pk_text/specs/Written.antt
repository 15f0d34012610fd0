-- What an input is turned into.
use Rattle.std.specs.Prelude.{ℕ, List, [], ◌++◌}
use Rattle.pk_text.specs.declared.end.TextEnd.{TextEnd}

-- the bytes that are posted, and how the run ends
pub record Written : Type 0 where
  pub bytes : List ℕ
  pub end : TextEnd

-- nothing more is posted
abbrev pub ended : TextEnd → Written
ended end = record { bytes = []; end = end }

-- these bytes come before
abbrev pub before : List ℕ → Written → Written
before bytes w = record { bytes = bytes ++ w.bytes; end = w.end }

-- the most lines or records of a run
abbrev pub most : ℕ
most = 4294967295
