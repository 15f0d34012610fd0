use Rattle.std.proofs.Common.{◌≡◌, ◌<◌, ◌≤◌, ◌∙◌, ℕ, List, [], length, map, take, get_or, Some, None, sym, ap, arith}
use Rattle.std.proofs.lemmas.List.{get_or-map, length-map, length-set}
use Rattle.pk_nvme.specs.Text.{number_of}
use Rattle.pk_top.proofs.Numbers.{numbers-all, numbers-more, numbers-none}
use Rattle.pk_top.proofs.words.read_numbers.Goals as goal

pub returns-in-None-clause-numbers : goal.returns-in-None-clause-numbers
returns-in-None-clause-numbers c =
    let words = c.args.words.now in
    let ws = map (λ w. w.now) words in
    let i : ℕ = c.loop-i.i in
    let less : i < length words = omega (arith, c.loop-i-test.true, c.loop-i.auto.i-end) in
    let size = length-map words (λ w. w.now) in
    let within : i < length ws = omega (arith, less, size) in
    let none : number_of (get_or ws i []) ≡ None = ap number_of (get_or-map (λ w. w.now) words i _ [] less ∙ sym c.as_bytes.ensures.value) ∙ sym c.number.ensures ∙ c.in-None.is in
    sym (numbers-none ws i within none)

pub loop-i-preserved : goal.loop-i-preserved
loop-i-preserved c =
    let words = c.args.words.now in
    let ws = map (λ w. w.now) words in
    let i : ℕ = c.loop-i.i in
    let n : ℕ = c.in-Some.n in
    let less : i < length words = omega (arith, c.loop-i-test.true, c.loop-i.auto.i-end) in
    let within : i < length c.loop-i.into = omega (arith, less, c.requires, c.loop-i.invariant.0) in
    let one : number_of (get_or ws i []) ≡ Some n = ap number_of (get_or-map (λ w. w.now) words i _ [] less ∙ sym c.as_bytes.ensures.value) ∙ sym c.number.ensures ∙ c.in-Some.is in
    (length-set c.loop-i.into i n ∙ c.loop-i.invariant.0, numbers-more ws c.loop-i.into i n within c.loop-i.invariant.1 one)

pub returns-clause-numbers : goal.returns-clause-numbers
returns-clause-numbers c =
    let words = c.args.words.now in
    let ws = map (λ w. w.now) words in
    let size = length-map words (λ w. w.now) in
    let few : length ws ≤ length c.loop-i.into = omega (arith, size, c.requires, c.loop-i.invariant.0) in
    let all : (k : ℕ) → k < length ws → number_of (get_or ws k []) ≡ Some (get_or c.loop-i.into k 0) =
    λ k less. c.loop-i.invariant.1 k (omega (arith, less, size, c.loop-i-test.false, c.loop-i.auto.i-end)) in
    ap (λ n. Some (take n c.loop-i.into)) (sym size) ∙ sym (numbers-all ws c.loop-i.into few all)
