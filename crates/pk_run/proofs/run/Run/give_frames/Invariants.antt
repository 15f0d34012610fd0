use Rattle.std.proofs.Common.{◌≡◌, ℕ, List, ◌++◌, length}
use Rattle.pk_run.specs.Leases.{AreLeased, given_all}
use Rattle.pk_run.proofs.run.Run.give_frames.Given as goal

-- the frames that are left are leased, and the others were given back
abbrev pub invariant-loop-lease : goal.invariant-loop-lease
invariant-loop-lease g l = record {
  leased : AreLeased l.arena l.self.leases;
  others : List ℕ;
  row : l.initial.self.leases ≡ l.self.leases ++ others;
  given : l.arena ≡ given_all l.initial.arena others;
  rest : l.self ≡ record l.initial.self { leases = l.self.leases };
}

abbrev pub decreases-loop-lease : goal.decreases-loop-lease
decreases-loop-lease g l = length l.self.leases
