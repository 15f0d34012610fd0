-- How many flash operations consecutive calls make, and how many roots they install.
use Rattle.std.proofs.Common.{◌≡◌, ◌≢◌, ℕ, zero, suc, ◌+◌, ◌≤◌, refl, sym, ap, subst, ◌∙◌, arith, List, [], ◌∷◌}
use Rattle.pk_nand.{specs.BoardState.BoardState, specs.Calls.counted, specs.Counts.counted_by}
use Rattle.pk_nand.specs.Effects.{AtMostOneCall, OneProgram, made_no_call, made_read, made_program, made_erase}
use Rattle.pk_model.specs.Wear.{roots}
use Rattle.pk_law_work.specs.Calls.{commit_calls}
use Rattle.pk_call.{specs.Calling.FewCalls, specs.Commit.ProgramsOfCommit}
use Rattle.pk_background.specs.Costs.{Spends}

-- ---- counts

pub counted_more : (m k n : ℕ) → counted_by m (counted_by k n) ≡ counted_by (k + m) n
counted_more zero k n = let same : k ≡ k + zero = omega arith in ap (λ (x : ℕ). counted_by x n) same
counted_more (suc m) k n = let same : suc (k + m) ≡ k + suc m = omega arith in ap counted (counted_more m k n) ∙ ap (λ (x : ℕ). counted_by x n) same

-- ---- flash operations

pub few_none : (old : BoardState) → FewCalls 0 old old
few_none old = record { reads_made = 0; programs_made = 0; erases_made = 0; few = omega arith; reads = refl; programs = refl; erases = refl }

pub few_within : (n k : ℕ) (old new : BoardState) → n ≤ k → FewCalls n old new → FewCalls k old new
few_within n k old new less f = record {
  reads_made = f.reads_made;
  programs_made = f.programs_made;
  erases_made = f.erases_made;
  few = (let few = f.few in omega (arith, few, less));
  reads = f.reads;
  programs = f.programs;
  erases = f.erases;
}

-- ---- calls after calls

raised_then : (j k a b c : ℕ) → b ≡ counted_by j a → c ≡ counted_by k b → c ≡ counted_by (j + k) a
raised_then j k a b c first second = second ∙ ap (counted_by k) first ∙ counted_more k j a

pub few_then : (m n : ℕ) (a b c : BoardState) → FewCalls m a b → FewCalls n b c → FewCalls (m + n) a c
few_then m n a b c f g = record {
  reads_made = f.reads_made + g.reads_made;
  programs_made = f.programs_made + g.programs_made;
  erases_made = f.erases_made + g.erases_made;
  few = (let first = f.few in let second = g.few in omega (arith, first, second));
  reads = raised_then f.reads_made g.reads_made a.reads b.reads c.reads f.reads g.reads;
  programs = raised_then f.programs_made g.programs_made a.programs b.programs c.programs f.programs g.programs;
  erases = raised_then f.erases_made g.erases_made a.erases b.erases c.erases f.erases g.erases;
}

-- one call
pub few_one : (a b : BoardState) → AtMostOneCall a b → FewCalls 1 a b
few_one a b (made_no_call none) = record { reads_made = 0; programs_made = 0; erases_made = 0; few = omega arith; reads = none.0; programs = none.1; erases = none.2 }
few_one a b (made_read read) = record { reads_made = 1; programs_made = 0; erases_made = 0; few = omega arith; reads = read.0; programs = read.1; erases = read.2 }
few_one a b (made_program program) = record { reads_made = 0; programs_made = 1; erases_made = 0; few = omega arith; reads = program.0; programs = program.1; erases = program.2 }
few_one a b (made_erase erase) = record { reads_made = 0; programs_made = 0; erases_made = 1; few = omega arith; reads = erase.0; programs = erase.1; erases = erase.2 }

-- one more
pub few_more : (n : ℕ) (a b c : BoardState) → FewCalls n a b → AtMostOneCall b c → FewCalls (n + 1) a c
few_more n a b c f one = few_then n 1 a b c f (few_one b c one)

-- nothing was done
pub few_same : (n : ℕ) (a b : BoardState) → b ≡ a → FewCalls n a b
few_same n a b same = subst (λ (s : BoardState). FewCalls n a s) (sym same) (few_within 0 n a a (omega arith) (few_none a))

pub few_program : (a b : BoardState) → OneProgram a b → FewCalls 1 a b
few_program a b one = record { reads_made = 0; programs_made = 1; erases_made = 0; few = omega arith; reads = one.reads; programs = one.programs; erases = one.erases }

few_programs : (n : ℕ) (a b : BoardState) → ProgramsOfCommit n a b → FewCalls commit_calls a b
few_programs n a b p = record { reads_made = 0; programs_made = p.made; erases_made = 0; few = (let most = p.most in omega (arith, most)); reads = p.reads; programs = p.programs; erases = p.erases }

-- a commit makes its programs if entries are pending, and nothing is done if none is
pub few_commit : {X P Q : Type 0} (es : List X) (a b : BoardState) → (es ≢ [] → ProgramsOfCommit 1 a b) → (es ≡ [] → P × Q × (b ≡ a)) → FewCalls commit_calls a b
few_commit [] a b programs idle = few_same commit_calls a b (idle refl).2
few_commit (e ∷ es) a b programs idle = few_programs 1 a b (programs (λ none. cc))

-- ---- calls and roots

-- nothing was done
pub spends_same : (n k : ℕ) (a b : BoardState) → b ≡ a → Spends n k a b
spends_same n k a b same = record { calls = few_same n a b same; installs = (let still = ap (λ (s : BoardState). roots s) same in omega (arith, still)) }

-- no root was installed
pub spends_still : (n k : ℕ) (a b : BoardState) → FewCalls n a b → roots b ≡ roots a → Spends n k a b
spends_still n k a b calls still = record { calls = calls; installs = omega (arith, still) }

pub spends_within : (m n p q : ℕ) (a b : BoardState) → m ≤ n → p ≤ q → Spends m p a b → Spends n q a b
spends_within m n p q a b less fewer s = record { calls = few_within m n a b less s.calls; installs = (let most = s.installs in omega (arith, most, fewer)) }

-- one after the other
pub spends_then : (m n most p q all : ℕ) (a b c : BoardState) → m + n ≤ most → p + q ≤ all → Spends m p a b → Spends n q b c → Spends most all a c
spends_then m n most p q all a b c less fewer first second = record {
  calls = few_within (m + n) most a c less (few_then m n a b c first.calls second.calls);
  installs = (let one = first.installs in let two = second.installs in omega (arith, one, two, fewer));
}
