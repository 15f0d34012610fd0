-- What the machine in memory answers, and the live pages of its map.
use Rattle.std.proofs.Common.{◌≡◌, ℕ, zero, suc, ◌+◌, ◌-◌, ◌*◌, ◌/◌, ◌%◌, ◌==◌, ◌≤◌, ◌&&◌, ◌||◌, not, nat_le, min, refl, sym, ap, subst, cond, ◌∙◌, arith, List, [], ◌∷◌, ◌++◌, length, take, replicate}
use Rattle.std.proofs.Common.{flat_map, Bool, true, false, Option, Some, None, Result, Ok, Err, IfOk, is_some, unwrap_or, if◌then◌else◌, div-add-mod'}
use Rattle.std.{proofs.lemmas.List.nil_from_length, proofs.lemmas.List.take_min, proofs.lemmas.Bool.leb-true, specs.Int.div_ceil, specs.declared.cmp.Ordering.Ordering, specs.Cmp.tied_itself}
use Rattle.std.specs.declared.cmp.Ordering.TheVariants.{Less, Equal, Greater}
use Rattle.std.specs.Ordering.{is_eq, eq_by_cmp}
use Rattle.std.specs.FinMap.{get, contains_key, insert, remove, empty, entries, len, len-entries, len-empty, get-insert, get-remove, same_map}
use Rattle.pk_base.{specs.Choices.or_else, specs.Key.Key, specs.Key.key_cmp, specs.Fields.u32, specs.Shape.Shape, specs.Shape.limit, specs.Shape.charge, specs.Shape.need, specs.Shape.pinned}
use Rattle.pk_base.specs.Map.{Map, live, pages_in, pages_of, pages_if_some}
use Rattle.pk_nvme.{specs.declared.request.Request.Request, specs.Seen.command_of, specs.Command.Command, specs.Command.key, specs.Reply.refusal, specs.Opcode.op_of}
use Rattle.pk_nvme.{specs.declared.opcode.Opcode.Opcode, specs.declared.opcode.Opcode.TheVariants.Store}
use Rattle.pk_model.{specs.Spaces.limit_of, specs.Spaces.in_space, specs.Machine.Machine, specs.Machine.replied, specs.Machine.no_numbers, specs.Machine.machine_terms, specs.Machine.Answers}
use Rattle.pk_model.specs.Answer.{check, early, late_of, reply_of, effect, success, report_bytes}
use Rattle.pk_model.{specs.declared.answer.Answer.Answer, proofs.MapLemmas.key_total, proofs.MapLemmas.key_antisymm, proofs.MapLemmas.live-insert}
use Rattle.pk_model.proofs.Answering.{IsAlone, refuses_early, refuses_alone, serves, serves_alone}

pub live-empty : (shape : Shape) → live shape empty ≡ 0
live-empty shape = ap (pages_in shape) (nil_from_length (entries {R = key_cmp} empty) (sym (len-entries empty) ∙ len-empty key_cmp (List ℕ)))

-- a command that was served, whatever it says of the map of its namespace
pub served_here : (old new : Machine) (r : Request) (k : Opcode) → op_of r.opcode ≡ Some k → ((v : List ℕ) → early 1 old.shape (command_of r v) ≡ None) → (a : Answer) (v : List ℕ)
    → late_of old.shape (limit_of (limit old.shape ∷ []) r.namespace) (in_space r.namespace old.map) (command_of r v) (Some k) ≡ None
    → replied a ≡ reply_of old.shape (limit_of (limit old.shape ∷ []) r.namespace) 0 (in_space r.namespace old.map) no_numbers (command_of r v) (Some k)
    → new ≡ record old { map = effect old.map (command_of r v) (Some k) } → Answers old new (command_of r v) a
served_here old new r k is passes a v late answer left =
    let serves_it = serves old.shape (machine_terms old.shape) old.map no_numbers (command_of r v) k is (passes v) late in
    record { reply_is = answer ∙ sym serves_it.replied; map_is = left ∙ ap (λ (m : Map). record old { map = m }) (sym serves_it.leaves) }

module _ (old : Machine) (whole : in_space 1 old.map ≡ old.map) (r : Request) (k : Opcode) where
  alone : IsAlone (machine_terms old.shape) (limit old.shape) old.map
  alone = record { one = refl; whole = whole }

  -- the command of the request passed its early checks, whatever value follows
  abbrev pub Passes : Type 0
  Passes = (v : List ℕ) → early 1 old.shape (command_of r v) ≡ None

  pub refused_answer : (status : ℕ) → op_of r.opcode ≡ Some k → Passes → ((v : List ℕ) → late_of old.shape (limit old.shape) old.map (command_of r v) (Some k) ≡ Some status)
      → (a : Answer) → replied a ≡ refusal status → (v : List ℕ) → Answers old old (command_of r v) a
  refused_answer status is passes late a answer v =
      let refuses = refuses_alone old.shape (machine_terms old.shape) (limit old.shape) old.map alone (command_of r v) no_numbers k status is (passes v) (late v) in
      record { reply_is = answer ∙ sym refuses.replied; map_is = ap (λ (m : Map). record old { map = m }) (sym refuses.leaves) }

  pub served_answer : (new : Machine) → op_of r.opcode ≡ Some k → Passes → (a : Answer) (v : List ℕ) → late_of old.shape (limit old.shape) old.map (command_of r v) (Some k) ≡ None
      → replied a ≡ reply_of old.shape (limit old.shape) 0 old.map no_numbers (command_of r v) (Some k)
      → new ≡ record old { map = effect old.map (command_of r v) (Some k) } → Answers old new (command_of r v) a
  served_answer new is passes a v late answer left =
      let serves_it = serves_alone old.shape (machine_terms old.shape) (limit old.shape) old.map alone (command_of r v) no_numbers k is (passes v) late in
      record { reply_is = answer ∙ sym serves_it.replied; map_is = left ∙ ap (λ (m : Map). record old { map = m }) (sym serves_it.leaves) }

-- what was found of a key in a map
pub found_some : (m : Map) (q : Key) (o : Option (List ℕ)) (v : List ℕ) → o ≡ get m q → o ≡ Some v → contains_key m q ≡ true
found_some m q o v e is = ap is_some (sym e ∙ is)

pub found_none : (m : Map) (q : Key) (o : Option (List ℕ)) → o ≡ get m q → o ≡ None → contains_key m q ≡ false
found_none m q o e is = ap is_some (sym e ∙ is)

pub early_answer : (old : Machine) (c : Command) (status : ℕ) → early 1 old.shape c ≡ Some status → (a : Answer) → replied a ≡ refusal status → Answers old old c a
early_answer old c status e a answer =
    let refuses = refuses_early old.shape (machine_terms old.shape) old.map no_numbers c status e in
    record { reply_is = answer ∙ sym refuses.replied; map_is = ap (λ (m : Map). record old { map = m }) (sym refuses.leaves) }

pub turned : (b x : Bool) → not b ≡ x → b ≡ not x
turned true x e = ap not e
turned false x e = ap not e

-- two facts of a value, and what follows from both
pub both_ok : {X E : Type 0} (r : Result X E) (P Q R : X → Type 0) → IfOk r P → IfOk r Q → ((x : X) → P x → Q x → R x) → IfOk r R
both_ok (Ok x) P Q R p q f = f x p q
both_ok (Err e) P Q R p q f = tt

-- ---- the live pages

equal : (r : Ordering) → is_eq r ≡ true → r ≡ Equal
equal Less e = cc
equal Equal e = refl
equal Greater e = cc

-- a key that is put back if it was taken away
put_back : (m : Map) (k : Key) (v : List ℕ) → get m k ≡ Some v → insert (remove m k) k v ≡ m
put_back m k v there = same_map key_total key_antisymm _ _ (λ q.
    get-insert key_total (remove m k) k v q ∙ ap (cond (eq_by_cmp key_cmp q k) (Some v)) (get-remove key_total m k q) ∙ by_tie q)
  where
    by_tie : (q : Key) → cond (eq_by_cmp key_cmp q k) (Some v) (cond (eq_by_cmp key_cmp q k) None (get m q)) ≡ get m q
    by_tie q =
        elim (eq_by_cmp key_cmp q k) as (λ b. eq_by_cmp key_cmp q k ≡ b → cond b (Some v) (cond b None (get m q)) ≡ get m q) [
          | true ↦ λ e. sym there ∙ ap (get m) (sym (key_antisymm q k (equal (key_cmp q k) e)))
          | false ↦ λ e. refl
        ] refl

-- a key that is missing takes nothing away
remove-missing : (m : Map) (k : Key) → get m k ≡ None → remove m k ≡ m
remove-missing m k missing = same_map key_total key_antisymm _ _ (λ q. get-remove key_total m k q ∙ by_tie q)
  where
    by_tie : (q : Key) → cond (eq_by_cmp key_cmp q k) None (get m q) ≡ get m q
    by_tie q =
        elim (eq_by_cmp key_cmp q k) as (λ b. eq_by_cmp key_cmp q k ≡ b → cond b None (get m q) ≡ get m q) [
          | true ↦ λ e. sym missing ∙ ap (get m) (sym (key_antisymm q k (equal (key_cmp q k) e)))
          | false ↦ λ e. refl
        ] refl

pub live-remove : (shape : Shape) (m : Map) (k : Key) → live shape (remove m k) + pages_if_some shape (get m k) ≡ live shape m
live-remove shape m k =
    elim (get m k) as (λ o. get m k ≡ o → live shape (remove m k) + pages_if_some shape o ≡ live shape m) [
      | None ↦ λ e. let same = ap (live shape) (remove-missing m k e) in omega (arith, same)
      | Some v ↦ λ e.
          let back = ap (live shape) (put_back m k v e) in
          let put_in = live-insert shape (remove m k) k v in
          let gone : get (remove m k) k ≡ None = get-remove key_total m k k ∙ ap (λ b. cond b None (get m k)) (ap is_eq (tied_itself key_total k)) in
          let none = ap (pages_if_some shape) gone in
          omega (arith, back, put_in, none)
    ] refl

pub found_most : (shape : Shape) (m : Map) (k : Key) (o : Option (List ℕ)) (v : List ℕ) → o ≡ get m k → o ≡ Some v → pages_of shape v ≤ live shape m
found_most shape m k o v e is =
    let whole = live-remove shape m k in
    let found : pages_if_some shape (get m k) ≡ pages_of shape v = ap (pages_if_some shape) (sym e ∙ is) in
    omega (arith, whole, found)

pub live_stored : (shape : Shape) (m : Map) (k : Key) (v : List ℕ) (before held charged : ℕ) → before ≡ live shape m → held ≡ pages_if_some shape (get m k) → charged ≡ pages_of shape v
    → before - held + charged ≡ live shape (insert m k v)
live_stored shape m k v before held charged b h n =
    let put_in = live-insert shape m k v in
    let whole = live-remove shape m k in
    omega (arith, put_in, whole, b, h, n)

pub live_removed : (shape : Shape) (m : Map) (k : Key) (before held : ℕ) → before ≡ live shape m → held ≡ pages_if_some shape (get m k) → before - held ≡ live shape (remove m k)
live_removed shape m k before held b h = let whole = live-remove shape m k in omega (arith, whole, b, h)

ceil_some : (x y : ℕ) → 1 ≤ x → 1 ≤ div_ceil x y
ceil_some x y some =
    let whole = div-add-mod' x y in
    elim (x / y) as (λ q. q * y + x % y ≡ x → 1 ≤ q + min 1 (x % y)) [
      | zero ↦ λ e. omega (arith, e, some)
      | suc q ↦ λ e. omega arith
    ] whole

length-pages : (shape : Shape) (es : List (Key × List ℕ)) → length es ≤ pages_in shape es
unfolding charge
length-pages shape [] = omega arith
length-pages shape (e ∷ es) =
    let rest = length-pages shape es in
    let first = ceil_some (32 + length e.1) (2 * shape.page_bytes) (omega arith) in
    omega (arith, rest, first)

-- a value has a page
pub len-live : (shape : Shape) (m : Map) → len m ≤ live shape m
len-live shape m = subst (λ n. n ≤ live shape m) (sym (len-entries m)) (length-pages shape (entries m))

-- ---- the checks of a Store on the map

abbrev pub store_check : ℕ → Bool → ℕ → ℕ → Option ℕ
store_check options is_there live_pages most =
    or_else (check (not (options % 2 == 1) || is_there) 0x87) (or_else (check (not (options / 2 % 2 == 1 && is_there)) 0x89) (check (nat_le live_pages most) 0x81))

pub store_late : (shape : Shape) (m : Map) (r : Request) (v : List ℕ) (is_there : Bool) (before held charged most : ℕ)
    → is_there ≡ contains_key m (key (command_of r v)) → before ≡ live shape m → held ≡ pages_if_some shape (get m (key (command_of r v))) → charged ≡ charge shape r.size → most ≡ limit shape
    → store_check r.options is_there (before - held + charged) most ≡ late_of shape (limit shape) m (command_of r v) (Some Store)
store_late shape m r v is_there before held charged most t b h n l = λ i. store_check r.options (t i) (b i - h i + n i) (l i)

-- ---- the replies

pub retrieved : (m : Map) (q : Key) (o : Option (List ℕ)) (v bytes : List ℕ) (n size wanted : ℕ) → o ≡ get m q → o ≡ Some v → bytes ≡ v → n ≡ length v → size ≡ min wanted (length bytes)
    → success n (take size bytes) ≡ success (length (unwrap_or (get m q) [])) (take wanted (unwrap_or (get m q) []))
retrieved m q o v bytes n size wanted e is same n_is size_is =
    let found : v ≡ unwrap_or (get m q) [] = ap (λ (x : Option (List ℕ)). unwrap_or x []) (sym is ∙ e) in
    (λ i. success (n_is i) (take (size_is i) bytes)) ∙ ap (success (length v)) (take_min wanted bytes ∙ ap (take wanted) same) ∙ ap (λ (x : List ℕ). success (length x) (take wanted x)) found

none_pinned : (b : Bool) (n : ℕ) → nat_le n 0 ≡ b → 1 ≤ n → b ≡ false
none_pinned false n e some = refl
none_pinned true n e some = let small = leb-true n 0 e in absurd (omega (arith, small, some))

pinned-none : (shape : Shape) → pinned shape 0 ≡ 0
pinned-none shape = ap (λ b. if b then 4 else 0) (none_pinned (nat_le (need shape 4) 0) (need shape 4) refl (omega arith))

pub reported : (shape : Shape) (m : Map) (before most keys : ℕ) → before ≡ live shape m → most ≡ limit shape → keys ≡ len m
    → flat_map u32 (before ∷ most ∷ keys ∷ []) ++ replicate 52 0 ≡ report_bytes shape (limit shape) 0 m no_numbers
reported shape m before most keys b l k =
    (λ i. flat_map u32 (b i ∷ l i ∷ k i ∷ 0 ∷ 0 ∷ no_numbers)) ∙ ap (λ p. flat_map u32 (live shape m ∷ limit shape ∷ len m ∷ p ∷ 0 ∷ no_numbers)) (sym (pinned-none shape))
