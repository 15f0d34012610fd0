-- The fields of a request, read from the entry that is made of them.
use Rattle.std.proofs.Common.{◌≡◌, ℕ, ◌<◌, ◌^◌, List, [], ◌∷◌, ◌++◌, length, take, drop, get_or, refl, ap, ◌∙◌, arith, length-drop}
use Rattle.std.proofs.lemmas.List.{length-take-le, take_all, take_at, take-append-drop}
use Rattle.pk_base.specs.Fields.{u16, u32, zeros, number_at}
use Rattle.pk_base.proofs.Tables.{spelled_stand, stands_byte, stands_number, Stand, AreSized}
use Rattle.pk_nvme.{specs.Command.Command, specs.Command.command, specs.Seen.command_of, specs.Seen.entry_of, specs.declared.request.Request.Request}

abbrev table : Request → List (ℕ × List ℕ)
table r =
    (1, r.opcode ∷ []) ∷ (1, zeros 1) ∷ (2, u16 r.cid) ∷ (4, u32 r.namespace) ∷ (8, take 8 r.key) ∷ (24, zeros 24) ∷ (4, u32 r.size)
    ∷ (1, r.key_len ∷ []) ∷ (1, r.options ∷ []) ∷ (10, zeros 10) ∷ (8, take 8 (drop 8 r.key)) ∷ []

sized : (r : Request) → length r.key ≡ 16 → AreSized (table r)
sized r h =
    let low : length (take 8 r.key) ≡ 8 = length-take-le 8 r.key (omega (arith, h)) in
    let high : length (take 8 (drop 8 r.key)) ≡ 8 = length-take-le 8 (drop 8 r.key) (omega (arith, h, length-drop 8 r.key)) in
    (refl, (refl, (refl, (refl, (low, (refl, (refl, (refl, (refl, (refl, (high, tt)))))))))))

stands : (r : Request) → length r.key ≡ 16 → Stand 0 (table r) (entry_of r)
stands r h = spelled_stand 0 (table r) (entry_of r) (sized r h) refl

-- the two halves of the key
halves : (entry key : List ℕ) → length key ≡ 16 → drop 8 entry ≡ take 8 key ++ drop 16 entry → drop 56 entry ≡ take 8 (drop 8 key) ++ drop 64 entry
    → take 8 (drop 8 entry) ++ take 8 (drop 56 entry) ≡ key
halves entry key h low high =
    let low_size : length (take 8 key) ≡ 8 = length-take-le 8 key (omega (arith, h)) in
    let rest : length (drop 8 key) ≡ 8 = omega (arith, h, length-drop 8 key) in
    let high_size : length (take 8 (drop 8 key)) ≡ 8 = length-take-le 8 (drop 8 key) (omega arith) in
    let first : take 8 (drop 8 entry) ≡ take 8 key = ap (λ (xs : List ℕ). take 8 xs) low ∙ take_at (take 8 key) (drop 16 entry) 8 low_size in
    let second : take 8 (drop 56 entry) ≡ drop 8 key = ap (λ (xs : List ℕ). take 8 xs) high ∙ take_at (take 8 (drop 8 key)) (drop 64 entry) 8 high_size ∙ take_all 8 (drop 8 key) (omega arith) in
    ap (λ (xs : List ℕ). xs ++ take 8 (drop 56 entry)) first ∙ ap (λ (xs : List ℕ). take 8 key ++ xs) second ∙ take-append-drop 8 key

-- commands with the same fields
same_fields : (o o' c c' n n' l l' s s' p p' : ℕ) (k k' value : List ℕ) → o ≡ o' → c ≡ c' → n ≡ n' → l ≡ l' → s ≡ s' → p ≡ p' → k ≡ k'
    → (let a : Command = record { opcode = o; cid = c; namespace = n; key_len = l; key_bytes = k; size = s; options = p; value = value } in a)
    ≡ record { opcode = o'; cid = c'; namespace = n'; key_len = l'; key_bytes = k'; size = s'; options = p'; value = value }
same_fields o o' c c' n n' l l' s s' p p' k k' value eo ec en el es ep ek = cc

-- the command of a request's entry is that of the request
pub command-entry_of : (r : Request) (value : List ℕ) → length r.key ≡ 16 → r.cid < 2 ^ 16 → r.namespace < 2 ^ 32 → r.size < 2 ^ 32
    → command (entry_of r) value ≡ command_of r value
command-entry_of r value h cid namespace size =
    let e : List ℕ = entry_of r in
    let st = stands r h in
    let cid_is : number_at 2 2 e ≡ r.cid = stands_number 2 2 r.cid (drop 4 e) e st.1.1.0 cid in
    let namespace_is : number_at 4 4 e ≡ r.namespace = stands_number 4 4 r.namespace (drop 8 e) e st.1.1.1.0 namespace in
    let size_is : number_at 4 40 e ≡ r.size = stands_number 4 40 r.size (drop 44 e) e st.1.1.1.1.1.1.0 size in
    let key_len_is : get_or e 44 0 ≡ r.key_len = stands_byte 44 r.key_len (drop 45 e) e st.1.1.1.1.1.1.1.0 in
    let options_is : get_or e 45 0 ≡ r.options = stands_byte 45 r.options (drop 46 e) e st.1.1.1.1.1.1.1.1.0 in
    let key_is : take 8 (drop 8 e) ++ take 8 (drop 56 e) ≡ r.key = halves e r.key h st.1.1.1.1.0 st.1.1.1.1.1.1.1.1.1.1.0 in
    same_fields (get_or e 0 0) r.opcode (number_at 2 2 e) r.cid (number_at 4 4 e) r.namespace (get_or e 44 0) r.key_len (number_at 4 40 e) r.size (get_or e 45 0) r.options
    (take 8 (drop 8 e) ++ take 8 (drop 56 e)) r.key value refl cid_is namespace_is key_len_is size_is options_is key_is

-- requests with the same fields
same_parts : (o o' c c' n n' l l' s s' p p' : ℕ) (k k' : List ℕ) → o ≡ o' → c ≡ c' → n ≡ n' → l ≡ l' → s ≡ s' → p ≡ p' → k ≡ k'
    → (let a : Request = record { opcode = o; cid = c; namespace = n; key_len = l; key = k; size = s; options = p } in a)
    ≡ record { opcode = o'; cid = c'; namespace = n'; key_len = l'; key = k'; size = s'; options = p' }
same_parts o o' c c' n n' l l' s s' p p' k k' eo ec en el es ep ek = cc

-- a request is what its command says of its fields
pub same_request : (a b : Request) (value : List ℕ) → command_of a value ≡ command_of b value → a ≡ b
same_request a b value e =
    same_parts a.opcode b.opcode a.cid b.cid a.namespace b.namespace a.key_len b.key_len a.size b.size a.options b.options a.key b.key
    (ap (λ (c : Command). c.opcode) e) (ap (λ (c : Command). c.cid) e) (ap (λ (c : Command). c.namespace) e) (ap (λ (c : Command). c.key_len) e)
    (ap (λ (c : Command). c.size) e) (ap (λ (c : Command). c.options) e) (ap (λ (c : Command). c.key_bytes) e)
