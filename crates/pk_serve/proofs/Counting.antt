-- Counts of faults, and lists of exchanges that grow by one.
use Rattle.std.proofs.Common.{◌≢◌, ◌⊎◌, inl, inr, ◌≡◌, ℕ, suc, ◌+◌, ◌-◌, ◌≤◌, ◌<◌, List, [], ◌∷◌, ◌++◌, length, Option, Some, None, refl, sym, ◌∙◌, ap, arith, append_assoc, append-nil, Bool, true}
use Rattle.std.proofs.Common.{false, ◌==◌, if◌then◌else◌, nat_le}
use Rattle.std.proofs.lemmas.Bool.Decides.{nat_tests}
use Rattle.pk_nand.{specs.Calls.Rose, specs.BoardState.BoardState}
use Rattle.pk_nvme.specs.Reply.{reply_record}
use Rattle.pk_model.{specs.Kept.AtMost, specs.Kept.rise, specs.Run.Exchange, specs.Run.commands, specs.Run.records, specs.Run.faults, specs.Wear.is_worn, specs.Wear.roots}
use Rattle.pk_call.specs.Meter.{Meter, MeteredAll}
use Rattle.pk_serve.specs.Answered.{installs}

pub at_most-zero : (n : Option ℕ) → AtMost n 0
at_most-zero None = tt
at_most-zero (Some n) = omega arith

-- the two cases of a bound
at_most-by : (before now k : ℕ) → (now < 18446744073709551615 → k ≤ now - before) → AtMost (rise before now) k
at_most-by before now k h = by (nat_le 18446744073709551615 now) refl
  where
    by : (b : Bool) → nat_le 18446744073709551615 now ≡ b → AtMost (if b then None else Some (now - before)) k
    by true e = tt
    by false e = h (grind (arith, nat_tests, e))

at_most-read : (before now k : ℕ) → now < 18446744073709551615 → AtMost (rise before now) k → k ≤ now - before
at_most-read before now k less = by (nat_le 18446744073709551615 now) refl
  where
    by : (b : Bool) → nat_le 18446744073709551615 now ≡ b → AtMost (if b then None else Some (now - before)) k → k ≤ now - before
    by true e h = absurd (grind (arith, nat_tests, e, less))
    by false e h = h

pub at_most-more : (before now later k : ℕ) → now ≤ later → AtMost (rise before now) k → AtMost (rise before later) k
at_most-more before now later k more h = at_most-by before later k (λ less. let few : k ≤ now - before = at_most-read before now k (omega arith) h in omega arith)

-- one more fault
pub at_most-one : (before now later k : ℕ) → before ≤ now → Rose now later → AtMost (rise before now) k → AtMost (rise before later) (k + 1)
at_most-one before now later k up rose h = at_most-by before later (k + 1) (λ less. let few : k ≤ now - before = at_most-read before now k (omega arith) h in omega arith)

-- ---- one more exchange

pub commands-push : (xs : List Exchange) (x : Exchange) → commands (xs ++ x ∷ []) ≡ commands xs ++ x.command ∷ []
commands-push [] x = refl
commands-push (y ∷ xs) x = ap (λ l. y.command ∷ l) (commands-push xs x)

pub records-push : (taken : ℕ) (xs : List Exchange) (x : Exchange) (n : ℕ) → n ≡ taken + length xs
    → records taken (xs ++ x ∷ []) ≡ records taken xs ++ reply_record (suc n) x.command.cid x.reply x.reads
records-push taken [] x n e =
    let same : taken ≡ n = omega arith in
    append-nil (reply_record (suc taken) x.command.cid x.reply x.reads) ∙ ap (λ k. reply_record (suc k) x.command.cid x.reply x.reads) same
records-push taken (y ∷ xs) x n e =
    let rest : n ≡ suc taken + length xs = omega arith in
    ap (λ t. reply_record (suc taken) y.command.cid y.reply y.reads ++ t) (records-push (suc taken) xs x n rest)
    ∙ sym (append_assoc (reply_record (suc taken) y.command.cid y.reply y.reads) (records (suc taken) xs) (reply_record (suc n) x.command.cid x.reply x.reads))

pub faults-push : (xs : List Exchange) (x : Exchange) → faults (xs ++ x ∷ []) ≡ faults xs + faults (x ∷ [])
faults-push [] x = omega arith
faults-push (y ∷ xs) x = let rest : faults (xs ++ x ∷ []) ≡ faults xs + faults (x ∷ []) = faults-push xs x in omega arith

-- whether its read failed
pub faults-one : (x : Exchange) → ((x.reply.status ≢ 0x88) × (faults (x ∷ []) ≡ 0)) ⊎ ((x.reply.status ≡ 0x88) × (faults (x ∷ []) ≡ 1))
faults-one x = by (x.reply.status == 0x88) refl
  where
    by : (b : Bool) → (x.reply.status == 0x88) ≡ b → ((x.reply.status ≢ 0x88) × ((if b then 1 else 0) + 0 ≡ 0)) ⊎ ((x.reply.status ≡ 0x88) × ((if b then 1 else 0) + 0 ≡ 1))
    by true e = inr (grind (arith, nat_tests, e), refl)
    by false e = inl (grind (arith, nat_tests, e), refl)

-- ---- counts of roots

-- the roots that commands installed, and what they began with
pub metered-roots : (xs : List Exchange) (before after : Meter) → MeteredAll before xs after → after.roots ≤ before.roots + installs (commands xs)
metered-roots [] before after same = omega (arith, ap (λ (m : Meter). m.roots) same)
metered-roots (x ∷ xs) before after all =
    let rest = metered-roots xs all.0 after all.2 in
    omega (arith, rest, all.1.installs)

pub metered-unworn : (xs : List Exchange) (before after : Meter) → xs ≢ [] → MeteredAll before xs after → before.roots < 9223372036854775808
metered-unworn [] before after some all = absurd (some refl)
metered-unworn (x ∷ xs) before after some all = all.1.unworn

-- a board on which the numbers of roots are not used up
pub unworn_few : (a b : BoardState) → is_worn a ≡ false → roots b ≡ roots a → roots b < 9223372036854775808
unworn_few a b unworn same =
    let few : roots a < 9223372036854775808 = grind (arith, nat_tests, unworn) in
    omega (arith, few, same)

pub few_unworn : (a : BoardState) → roots a < 9223372036854775808 → is_worn a ≡ false
few_unworn a few = grind (arith, nat_tests, few)
