-- The generated workload: draws from a start, and the command of each turn.
use Rattle.std.specs.Prelude.{ℕ, zero, suc, ◌+◌, ◌-◌, ◌*◌, ◌/◌, ◌%◌, ◌^◌, ◌==◌, nat_lt, if◌then◌else◌, Bool, List, [], ◌∷◌, ◌++◌, length, replicate, codes}
use Rattle.pk_base.specs.declared.sizes.TheConstants.{KEY_BYTES}
use Rattle.pk_nvme.{specs.declared.limits.TheConstants.NAMESPACE, specs.Command.Command, specs.Seen.command_of, specs.Text.number_text, specs.Text.padded_number}
use Rattle.pk_nvme.specs.declared.opcode.TheConstants.{STORE, RETRIEVE, LIST, DELETE, EXIST, TICK}
use Rattle.pk_nvme.specs.declared.request.Request.{Request}
use Rattle.pk_gen.specs.declared.numbers.TheConstants.{KEYS, KEY_DIGITS, LEAST_VALUE_BYTES, VALUE_LENGTHS, LETTERS, RETRIEVE_BYTES, LIST_BYTES, TICK_STEPS}

-- a generator before a turn: its state of 31 bits, and the turn's command identifier
pub record Generator : Type 0 where
  pub state : ℕ
  pub cid : ℕ

-- the next state
abbrev pub step : ℕ → ℕ
step x = (x * 1103515245 + 12345) % 2 ^ 31

-- the number of 0 to 32767 that a state gives
abbrev pub drawn : ℕ → ℕ
drawn x = x / 65536

-- each turn draws a and b, and a Store draws c
abbrev pub a_of : Generator → ℕ
a_of g = drawn (step g.state)

abbrev pub b_of : Generator → ℕ
b_of g = drawn (step (step g.state))

abbrev pub c_of : Generator → ℕ
c_of g = drawn (step (step (step g.state)))

abbrev pub is_store : ℕ → Bool
is_store a = nat_lt (a % 10) 5

abbrev pub key_text : ℕ → List ℕ
key_text b = codes "key:" ++ padded_number KEY_DIGITS (b % KEYS)

-- the bytes of a Store's value
abbrev pub value_len : ℕ → ℕ
value_len c = LEAST_VALUE_BYTES + c % VALUE_LENGTHS

-- the first letters of a value, each the next of the alphabet
abbrev pub letters : ℕ → ℕ → List ℕ
letters c zero = []
letters c (suc j) = letters c j ++ (97 + (c + j) % LETTERS) ∷ []

abbrev pub opening : ℕ → List ℕ
opening b = codes "{\"id\":" ++ number_text (b % KEYS) ++ codes ",\"pad\":\""

-- a value of the length, with as many letters as make it
abbrev pub value_text : ℕ → ℕ → List ℕ
value_text b c = opening b ++ letters c (value_len c - (length (opening b) + 2)) ++ codes "\"}"

abbrev pub request : ℕ → ℕ → ℕ → ℕ → Request
request opcode cid b size = record { opcode = opcode; cid = cid; namespace = NAMESPACE; key_len = KEY_BYTES; key = key_text b; size = size; options = 0 }

abbrev pub tick : ℕ → Request
tick cid = record { opcode = TICK; cid = cid; namespace = NAMESPACE; key_len = 0; key = replicate KEY_BYTES 0; size = TICK_STEPS; options = 0 }

-- the command of a turn by its draws: Store, Retrieve, Delete, Exist, and Tick or List
abbrev pub drawn_request : ℕ → ℕ → ℕ → ℕ → Request
drawn_request cid a b c =
    if is_store a then request STORE cid b (value_len c)
    else if nat_lt (a % 10) 7 then request RETRIEVE cid b RETRIEVE_BYTES
    else if a % 10 == 7 then request DELETE cid b 0
    else if a % 10 == 8 then request EXIST cid b 0
    else if b % 2 == 1 then tick cid
    else request LIST cid b LIST_BYTES

abbrev pub request_of : Generator → Request
request_of g = drawn_request g.cid (a_of g) (b_of g) (c_of g)

abbrev pub value_of : Generator → List ℕ
value_of g = if is_store (a_of g) then value_text (b_of g) (c_of g) else []

-- the generator after a turn
abbrev pub after : Generator → Generator
after g = record {
  state = if is_store (a_of g) then step (step (step g.state)) else step (step g.state);
  cid = (g.cid + 1) % 65536;
}

abbrev pub begin : ℕ → Generator
begin start = record { state = start % 2 ^ 31; cid = 1 }

-- the generator after n turns
abbrev pub generator : ℕ → ℕ → Generator
generator start zero = begin start
generator start (suc turns) = after (generator start turns)

-- the first commands of the workload of a start
abbrev pub workload : ℕ → ℕ → List Command
workload start zero = []
workload start (suc turns) = workload start turns ++ command_of (request_of (generator start turns)) (value_of (generator start turns)) ∷ []
