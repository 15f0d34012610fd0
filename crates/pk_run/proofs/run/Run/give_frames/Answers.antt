use Rattle.std.proofs.Common.{◌≡◌, ◌∙◌, refl, sym, ap, ◌∷◌, ◌++◌, List, ℕ, subst, length}
use Rattle.pk_pin.specs.Frames.{Frames, given}
use Rattle.pk_run.{specs.Kept.Kept, specs.Kept.RunOnFlash, specs.Leases.given_all, specs.Leases.LeavesOthers, specs.Leases.LeavesOtherLeases, proofs.Standing.RunOnFlash-bare}
use Rattle.pk_run.proofs.Leasing.{last_leased, still_leased, row_next, stands_back, leases_back, given_bytes, given_size}
use Rattle.pk_run.proofs.run.Run.give_frames.Goals as goal

pub give-requires : goal.give-requires
give-requires g c = last_leased c.loop-lease.arena c.loop-lease.self.leases c.pop_lease.new.self.leases c.in-Some.lease c.in-Some.ensures.taken c.loop-lease.invariant.leased

pub loop-lease-preserved : goal.loop-lease-preserved
loop-lease-preserved g c = record {
  leased = still_leased c.loop-lease.arena c.give.new.self c.loop-lease.self.leases c.pop_lease.new.self.leases c.in-Some.lease c.in-Some.ensures.taken c.give.ensures c.loop-lease.invariant.leased;
  others = c.in-Some.lease ∷ c.loop-lease.invariant.others;
  row = row_next c.args.self.now.leases c.loop-lease.self.leases c.pop_lease.new.self.leases c.loop-lease.invariant.others c.in-Some.lease c.loop-lease.invariant.row c.in-Some.ensures.taken;
  given = c.give.ensures ∙ ap (λ a. given a c.in-Some.lease) c.loop-lease.invariant.given;
  rest = c.in-Some.ensures.kept ∙ ap (λ (r : Kept). record r { leases = c.pop_lease.new.self.leases }) c.loop-lease.invariant.rest;
}

pub returns-clause-given : goal.returns-clause-given
returns-clause-given g c =
    let all : c.args.self.now.leases ≡ c.loop-lease.invariant.others = c.loop-lease.invariant.row ∙ ap (λ (xs : List ℕ). xs ++ c.loop-lease.invariant.others) c.in_default.ensures.taken in
    c.loop-lease.invariant.given ∙ ap (given_all c.args.arena.now) (sym all)

pub returns-clause-bare : goal.returns-clause-bare
returns-clause-bare g c =
    c.in_default.ensures.none refl ∙ c.loop-lease.invariant.rest ∙ ap (λ (ls : List ℕ). record c.args.self.now { leases = ls }) c.in_default.ensures.taken

pub returns-clause-stands : goal.returns-clause-stands
returns-clause-stands g c flash es s =
    let bare = c.in_default.ensures.none refl ∙ c.loop-lease.invariant.rest ∙ ap (λ (ls : List ℕ). record c.args.self.now { leases = ls }) c.in_default.ensures.taken in
    subst (λ (r : Kept). RunOnFlash r flash c.loop-lease.arena es) (sym bare) (RunOnFlash-bare c.args.self.now flash c.args.arena.now c.loop-lease.arena es s)

pub returns-clause-others : goal.returns-clause-others
returns-clause-others g c =
    let all : c.args.self.now.leases ≡ c.loop-lease.invariant.others = c.loop-lease.invariant.row ∙ ap (λ (xs : List ℕ). xs ++ c.loop-lease.invariant.others) c.in_default.ensures.taken in
    subst (LeavesOthers c.args.self.now.leases c.args.arena.now) (sym (c.loop-lease.invariant.given ∙ ap (given_all c.args.arena.now) (sym all))) (stands_back c.args.arena.now c.args.self.now.leases)

pub returns-clause-leases : goal.returns-clause-leases
returns-clause-leases g c =
    let all : c.args.self.now.leases ≡ c.loop-lease.invariant.others = c.loop-lease.invariant.row ∙ ap (λ (xs : List ℕ). xs ++ c.loop-lease.invariant.others) c.in_default.ensures.taken in
    subst (LeavesOtherLeases c.args.self.now.leases c.args.arena.now)
    (sym (c.loop-lease.invariant.given ∙ ap (given_all c.args.arena.now) (sym all))) (leases_back c.args.arena.now c.args.self.now.leases)

pub returns-clause-same_bytes : goal.returns-clause-same_bytes
returns-clause-same_bytes g c = ap (λ (a : Frames). a.page_bytes) c.loop-lease.invariant.given ∙ given_bytes c.args.arena.now c.loop-lease.invariant.others

pub returns-clause-same_size : goal.returns-clause-same_size
returns-clause-same_size g c = ap (λ (a : Frames). length a.used) c.loop-lease.invariant.given ∙ given_size c.args.arena.now c.loop-lease.invariant.others
