use Rattle.std.proofs.Common.{◌≡◌, ◌++◌, take}
use Rattle.pk_nvme.specs.Text.{hex_text}
use Rattle.pk_nvme.proofs.bytes.Bytes.push_hex.Given as goal

abbrev pub invariant-loop-byte : goal.invariant-loop-byte
invariant-loop-byte l = l.self ≡ record l.initial.self { items = l.initial.self.items ++ hex_text (take l.byte-index l.bytes) }
