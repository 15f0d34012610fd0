-- Values are as long as their entries say.
use Rattle.std.proofs.Common.{◌≡◌, ℕ, ◌+◌, ◌-◌, ◌%◌, Bool, true, false, ◌==◌, ◌≤◌, List, [], ◌++◌, length, length-append, refl, ap, ◌∙◌, arith}
use Rattle.std.specs.Prelude.{if◌then◌else◌, nat_lt, codes}
use Rattle.pk_nvme.{specs.Command.IsWhole, specs.Command.value_size, specs.Seen.command_of, specs.Text.number_text, specs.declared.request.Request.Request}
use Rattle.pk_gen.specs.Workload.{Generator, value_len, value_text, opening, letters, request, tick, request_of, value_of, is_store, a_of, b_of, c_of}
use Rattle.pk_gen.{proofs.Keys.few_digits, proofs.Values.length-letters}

length-opening : (b : ℕ) → length (opening b) ≡ 14 + length (number_text (b % 5000))
length-opening b = simp length-append (omega arith)

length-value_text : (b c : ℕ) → length (value_text b c) ≡ value_len c
length-value_text b c =
    let few : length (number_text (b % 5000)) ≤ 4 = few_digits (b % 5000) (omega arith) in
    let n : ℕ = value_len c - (length (opening b) + 2) in
    length-append (opening b ++ letters c n) (codes "\"}")
    ∙ ap (λ (k : ℕ). k + 2) (length-append (opening b) (letters c n) ∙ ap (λ (k : ℕ). length (opening b) + k) (length-letters c n))
    ∙ filled (length (opening b)) (length (number_text (b % 5000))) (value_len c) (length-opening b) few (omega arith)
  where
    filled : (front digits len : ℕ) → front ≡ 14 + digits → digits ≤ 4 → 200 ≤ len → front + (len - (front + 2)) + 2 ≡ len
    filled front digits len e few long = omega arith

abbrev chosen : Bool → Bool → Bool → Bool → Bool → ℕ → ℕ → ℕ → Request
chosen store retrieve delete exist ticks cid b c =
    if store then request 0x01 cid b (value_len c)
    else if retrieve then request 0x02 cid b 4096
    else if delete then request 0x10 cid b 0
    else if exist then request 0x14 cid b 0
    else if ticks then tick cid
    else request 0x06 cid b 1024

whole_by : (store retrieve delete exist ticks : Bool) (cid b c : ℕ) (value : List ℕ)
    → length (if store then value_text b c else []) ≡ value_size (command_of (chosen store retrieve delete exist ticks cid b c) value)
whole_by true retrieve delete exist ticks cid b c value = length-value_text b c
whole_by false true delete exist ticks cid b c value = refl
whole_by false false true exist ticks cid b c value = refl
whole_by false false false true ticks cid b c value = refl
whole_by false false false false true cid b c value = refl
whole_by false false false false false cid b c value = refl

pub all_whole : (g : Generator) → IsWhole (command_of (request_of g) (value_of g))
all_whole g = record {
  whole = whole_by (is_store (a_of g)) (nat_lt (a_of g % 10) 7) (a_of g % 10 == 7) (a_of g % 10 == 8) (b_of g % 2 == 1) g.cid (b_of g) (c_of g) (value_of g);
}
