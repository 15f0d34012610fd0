-- Which entries are of namespaces that a drive has.
use Rattle.std.{specs.Prelude.ℕ, specs.Prelude.List, specs.Prelude.Bool, specs.Prelude.nat_le, specs.List.list_all}
use Rattle.pk_base.{specs.Key.space_of, specs.Entry.Entry}

-- each of these entries is of one of the first `spaces` namespaces
abbrev pub in_spaces : ℕ → List Entry → Bool
in_spaces spaces es = list_all (λ e. nat_le (space_of e.0) spaces) es
