-- Counts of flash operations.
use Rattle.std.proofs.Common.{◌≡◌, ◌≢◌, ℕ, zero, suc, ◌+◌, ◌≤◌, List, [], ◌∷◌, ◌++◌, take, Some, refl, ap, subst, arith}
use Rattle.pk_base.{specs.Shape.Shape, specs.Shape.commit_programs, specs.Entry.Entry}
use Rattle.pk_nvme.specs.Command.{Command}
use Rattle.pk_nand.{specs.BoardState.BoardState, specs.BoardState.shape_of, specs.BoardState.shape_or_none, specs.Counts.counted_by}
use Rattle.pk_call.{specs.Calling.FewCalls, specs.Calling.most_calls_of, specs.Commit.ProgramsOfCommit}
use Rattle.pk_serve.specs.Calling.{calls_of, owed, most_calls_of_all}

-- ---- one call of the drive

counted_most : (k n : ℕ) → counted_by k n ≤ n + k
counted_most zero n = omega arith
counted_most (suc k) n = let rest = counted_most k n in omega (arith, rest)

few_made : (most : ℕ) (b c : BoardState) → FewCalls most b c → calls_of c ≤ calls_of b + most
few_made most b c f =
    omega (arith, counted_most f.reads_made b.reads, counted_most f.programs_made b.programs, counted_most f.erases_made b.erases, f.few, f.reads, f.programs, f.erases)

-- a command on a board of this shape
pub command_calls : (shape : Shape) (b c : BoardState) (opcode size : ℕ) → b.shape ≡ Some shape
    → FewCalls (most_calls_of (shape_of b) opcode size) b c → calls_of c ≤ calls_of b + most_calls_of shape opcode size
command_calls shape b c opcode size has f =
    few_made (most_calls_of shape opcode size) b c (subst (λ s. FewCalls (most_calls_of s opcode size) b c) (ap shape_or_none has) f)

-- a commit, of what is pending
pub commit_calls : (b c : BoardState) (pending : List Entry) → (pending ≡ [] → c ≡ b) → (pending ≢ [] → ProgramsOfCommit 1 b c) → calls_of c ≤ calls_of b + owed pending
commit_calls b c [] idle made = let same = ap calls_of (idle refl) in omega (arith, same)
commit_calls b c (entry ∷ more) idle made =
    let few = made (λ e. cc) in
    omega (arith, few.most, counted_most few.made b.programs, few.reads, few.programs, few.erases)

pub owed_most : (pending : List Entry) → owed pending ≤ commit_programs
owed_most [] = omega arith
owed_most (entry ∷ more) = omega arith

-- ---- lists of commands

pub most_calls-append : (shape : Shape) (xs ys : List Command) → most_calls_of_all shape (xs ++ ys) ≡ most_calls_of_all shape xs + most_calls_of_all shape ys
most_calls-append shape [] ys = omega arith
most_calls-append shape (c ∷ xs) ys = let rest = most_calls-append shape xs ys in omega (arith, rest)

-- a prefix of them
pub most_calls-front : (shape : Shape) (xs ys : List Command) → most_calls_of_all shape (xs ++ take 1 ys) ≤ most_calls_of_all shape (xs ++ ys)
most_calls-front shape xs ys = omega (arith, most_calls-append shape xs (take 1 ys), most_calls-append shape xs ys, first shape ys)
  where
    first : (shape : Shape) (ys : List Command) → most_calls_of_all shape (take 1 ys) ≤ most_calls_of_all shape ys
    first shape [] = omega arith
    first shape (c ∷ ys) = omega arith

pub most_calls-more : (shape : Shape) (xs ys more : List Command) → most_calls_of_all shape (xs ++ take 1 ys) ≤ most_calls_of_all shape (xs ++ take 1 (ys ++ more))
most_calls-more shape xs ys more = omega (arith, most_calls-append shape xs (take 1 ys), most_calls-append shape xs (take 1 (ys ++ more)), first shape ys more)
  where
    first : (shape : Shape) (ys more : List Command) → most_calls_of_all shape (take 1 ys) ≤ most_calls_of_all shape (take 1 (ys ++ more))
    first shape [] more = omega arith
    first shape (c ∷ ys) more = omega arith
