-- Which reply a command has and which map it leaves, by the first check that fails.
use Rattle.std.proofs.Common.{◌≡◌, ℕ, ◌≤◌, List, [], ◌∷◌, length, Bool, true, false, ◌&&◌, nat_le, IsTrue, Option, Some, None, refl, sym, ap, ◌∙◌, arith}
use Rattle.std.proofs.lemmas.Bool.{leb-true}
use Rattle.pk_base.{specs.Choices.or_else, specs.Shape.Shape, specs.Shape.greatest, specs.Map.Map, proofs.Logic.both_true}
use Rattle.pk_nvme.{specs.Command.Command, specs.Reply.refusal, specs.Opcode.op_of, specs.declared.opcode.Opcode.Opcode}
use Rattle.pk_nvme.specs.declared.opcode.Opcode.TheVariants.{Flush, Store, Retrieve, List as ListKeys, Delete, Exist, Tick, Report}
use Rattle.pk_model.specs.Spaces.{Terms, limit_of, is_space, in_space}
use Rattle.pk_model.specs.Answer.{check, is_namespace, is_key_length, size_fault, fault_of, early, late_of, refused, reply, reply_of, map_after, effect}

module _ (shape : Shape) (terms : Terms) (m : Map) (own : List ℕ) (c : Command) where
  -- it is refused
  pub record Refuses (status : ℕ) : Type 0 where
    pub replied : reply shape terms m own c ≡ refusal status
    pub leaves : map_after shape terms.limits m c ≡ m

  -- it is served as a command of this kind
  pub record Serves (k : Opcode) : Type 0 where
    pub replied : reply shape terms m own c ≡ reply_of shape (limit_of terms.limits c.namespace) terms.frames (in_space c.namespace m) own c (Some k)
    pub leaves : map_after shape terms.limits m c ≡ effect m c (Some k)

  -- the checks on the map of its namespace
  abbrev late_here : Option Opcode → Option ℕ
  late_here o = late_of shape (limit_of terms.limits c.namespace) (in_space c.namespace m) c o

  pub refuses_with : (status : ℕ) → refused shape terms.limits m c ≡ Some status → Refuses status
  unfolding reply map_after
  refuses_with status e = record { replied = rw e refl; leaves = rw e refl }

  pub refuses_early : (status : ℕ) → early (length terms.limits) shape c ≡ Some status → Refuses status
  refuses_early status e = refuses_with status (ap (λ f. or_else f (late_here (op_of c.opcode))) e)

  by_kind : (k : Opcode) → op_of c.opcode ≡ Some k → early (length terms.limits) shape c ≡ None → refused shape terms.limits m c ≡ late_here (Some k)
  by_kind k is e = ap (λ f. or_else f (late_here (op_of c.opcode))) e ∙ ap late_here is

  pub refuses_late : (k : Opcode) (status : ℕ) → op_of c.opcode ≡ Some k → early (length terms.limits) shape c ≡ None → late_here (Some k) ≡ Some status → Refuses status
  refuses_late k status is e late = refuses_with status (by_kind k is e ∙ late)

  pub serves : (k : Opcode) → op_of c.opcode ≡ Some k → early (length terms.limits) shape c ≡ None → late_here (Some k) ≡ None → Serves k
  unfolding reply map_after
  serves k is e late = record { replied = rw (by_kind k is e ∙ late, is) refl; leaves = rw (by_kind k is e ∙ late, is) refl }

-- ---- what an early check that passed says

first_none : (p q : Option ℕ) → or_else p q ≡ None → (p ≡ None) × (q ≡ None)
first_none None q h = (refl, h)
first_none (Some s) q h = cc

check_none : (b : Bool) (s : ℕ) → check b s ≡ None → IsTrue b
check_none true s h = refl
check_none false s h = cc

-- the size of a command that passed has the bounds of its kind
passed_size : (spaces : ℕ) (shape : Shape) (c : Command) (k : Opcode) → op_of c.opcode ≡ Some k → early spaces shape c ≡ None → size_fault shape k c.size ≡ None
passed_size spaces shape c k is e =
    let faults : fault_of spaces shape c (Some k) ≡ None = ap (fault_of spaces shape c) (sym is) ∙ e in
    let behind = first_none (check (is_namespace spaces k c.namespace) 0x0B) (or_else (check (is_key_length k c.key_len) 0x86) (size_fault shape k c.size)) faults in
    (first_none (check (is_key_length k c.key_len) 0x86) (size_fault shape k c.size) behind.1).1

-- the key of a command that passed has a key's length
passed_key : (spaces : ℕ) (shape : Shape) (c : Command) (k : Opcode) → op_of c.opcode ≡ Some k → early spaces shape c ≡ None → is_key_length k c.key_len ≡ true
passed_key spaces shape c k is e =
    let faults : fault_of spaces shape c (Some k) ≡ None = ap (fault_of spaces shape c) (sym is) ∙ e in
    let behind = first_none (check (is_namespace spaces k c.namespace) 0x0B) (or_else (check (is_key_length k c.key_len) 0x86) (size_fault shape k c.size)) faults in
    check_none (is_key_length k c.key_len) 0x86 (first_none (check (is_key_length k c.key_len) 0x86) (size_fault shape k c.size) behind.1).0

-- the commands with a key
abbrev pub WantsKey : Opcode → Type 0
WantsKey k = (n : ℕ) → is_key_length k n ≡ (nat_le 1 n && nat_le n 16)

pub record IsKeyLength (n : ℕ) : Type 0 where
  pub some : 1 ≤ n
  pub most : n ≤ 16

pub key_sized : (spaces : ℕ) (shape : Shape) (c : Command) (k : Opcode) → WantsKey k → op_of c.opcode ≡ Some k → early spaces shape c ≡ None → IsKeyLength c.key_len
key_sized spaces shape c k wants is e =
    let both = both_true (nat_le 1 c.key_len) (nat_le c.key_len 16) (sym (wants c.key_len) ∙ passed_key spaces shape c k is e) in
    record { some = leb-true 1 c.key_len both.0; most = leb-true c.key_len 16 both.1 }

-- and the namespace of a command that passed is one of the drive
pub record IsSpace (spaces n : ℕ) : Type 0 where
  pub some : 1 ≤ n
  pub most : n ≤ spaces

-- the commands that name one namespace
abbrev pub NamesSpace : Opcode → Type 0
NamesSpace k = (spaces n : ℕ) → is_namespace spaces k n ≡ is_space spaces n

pub key_spaced : (spaces : ℕ) (shape : Shape) (c : Command) (k : Opcode) → NamesSpace k → op_of c.opcode ≡ Some k → early spaces shape c ≡ None → IsSpace spaces c.namespace
key_spaced spaces shape c k names is e =
    let faults : fault_of spaces shape c (Some k) ≡ None = ap (fault_of spaces shape c) (sym is) ∙ e in
    let passed = check_none (is_namespace spaces k c.namespace) 0x0B
    (first_none (check (is_namespace spaces k c.namespace) 0x0B) (or_else (check (is_key_length k c.key_len) 0x86) (size_fault shape k c.size)) faults).0 in
    let both = both_true (nat_le 1 c.namespace) (nat_le c.namespace spaces) (sym (names spaces c.namespace) ∙ passed) in
    record { some = leb-true 1 c.namespace both.0; most = leb-true c.namespace spaces both.1 }

pub store_sized : (spaces : ℕ) (shape : Shape) (c : Command) → op_of c.opcode ≡ Some Store → early spaces shape c ≡ None → c.size ≤ greatest shape
store_sized spaces shape c is e = leb-true c.size (greatest shape) (check_none (nat_le c.size (greatest shape)) 0x85 (passed_size spaces shape c Store is e))

pub record IsListSize (c : Command) : Type 0 where
  pub key_most : c.key_len ≤ 16
  pub least : 4 ≤ c.size

pub list_sized : (spaces : ℕ) (shape : Shape) (c : Command) → op_of c.opcode ≡ Some ListKeys → early spaces shape c ≡ None → IsListSize c
list_sized spaces shape c is e = record {
  key_most = leb-true c.key_len 16 (passed_key spaces shape c ListKeys is e);
  least = leb-true 4 c.size (check_none (nat_le 4 c.size) 0x02 (passed_size spaces shape c ListKeys is e));
}

-- ---- a drive with one namespace

-- It has one namespace with this limit, and each key of the map is of it.
pub record IsAlone (terms : Terms) (most : ℕ) (m : Map) : Type 0 where
  pub one : terms.limits ≡ most ∷ []
  pub whole : in_space 1 m ≡ m

module _ (shape : Shape) (terms : Terms) (most : ℕ) (m : Map) (alone : IsAlone terms most m) (c : Command) where
  passes_one : early (length terms.limits) shape c ≡ None → early 1 shape c ≡ None
  passes_one e = ap (λ (limits : List ℕ). early (length limits) shape c) (sym alone.one) ∙ e

  module _ (first : c.namespace ≡ 1) where
    limit_alone : limit_of terms.limits c.namespace ≡ most
    limit_alone = λ i. limit_of (alone.one i) (first i)

    map_alone : in_space c.namespace m ≡ m
    map_alone = ap (λ n. in_space n m) first ∙ alone.whole

    late_first : (k : Opcode) → late_of shape (limit_of terms.limits c.namespace) (in_space c.namespace m) c (Some k) ≡ late_of shape most m c (Some k)
    late_first k = λ i. late_of shape (limit_alone i) (map_alone i) c (Some k)

    reply_first : (own : List ℕ) (k : Opcode)
        → reply_of shape (limit_of terms.limits c.namespace) terms.frames (in_space c.namespace m) own c (Some k) ≡ reply_of shape most terms.frames m own c (Some k)
    reply_first own k = λ i. reply_of shape (limit_alone i) terms.frames (map_alone i) own c (Some k)

  first_only : (k : Opcode) → NamesSpace k → op_of c.opcode ≡ Some k → early (length terms.limits) shape c ≡ None → c.namespace ≡ 1
  first_only k names is e = let spaced = key_spaced 1 shape c k names is (passes_one e) in omega (arith, spaced.some, spaced.most)

  pub late_alone : (k : Opcode) → op_of c.opcode ≡ Some k → early (length terms.limits) shape c ≡ None
      → late_of shape (limit_of terms.limits c.namespace) (in_space c.namespace m) c (Some k) ≡ late_of shape most m c (Some k)
  late_alone Flush is e = refl
  late_alone Store is e = late_first (first_only Store (λ n k. refl) is e) Store
  late_alone Retrieve is e = late_first (first_only Retrieve (λ n k. refl) is e) Retrieve
  late_alone ListKeys is e = refl
  late_alone Delete is e = late_first (first_only Delete (λ n k. refl) is e) Delete
  late_alone Exist is e = late_first (first_only Exist (λ n k. refl) is e) Exist
  late_alone Tick is e = refl
  late_alone Report is e = refl

  pub reply_alone : (own : List ℕ) (k : Opcode) → op_of c.opcode ≡ Some k → early (length terms.limits) shape c ≡ None
      → reply_of shape (limit_of terms.limits c.namespace) terms.frames (in_space c.namespace m) own c (Some k) ≡ reply_of shape most terms.frames m own c (Some k)
  reply_alone own Flush is e = refl
  reply_alone own Store is e = refl
  reply_alone own Retrieve is e = reply_first (first_only Retrieve (λ n k. refl) is e) own Retrieve
  reply_alone own ListKeys is e = reply_first (first_only ListKeys (λ n k. refl) is e) own ListKeys
  reply_alone own Delete is e = refl
  reply_alone own Exist is e = refl
  reply_alone own Tick is e = refl
  reply_alone own Report is e = reply_first (first_only Report (λ n k. refl) is e) own Report

  -- its reply, and the map that it leaves
  pub record ServesAlone (own : List ℕ) (k : Opcode) : Type 0 where
    pub replied : reply shape terms m own c ≡ reply_of shape most terms.frames m own c (Some k)
    pub leaves : map_after shape terms.limits m c ≡ effect m c (Some k)

  pub serves_alone : (own : List ℕ) (k : Opcode) → op_of c.opcode ≡ Some k → early (length terms.limits) shape c ≡ None → late_of shape most m c (Some k) ≡ None → ServesAlone own k
  serves_alone own k is e late =
      let served = serves shape terms m own c k is e (late_alone k is e ∙ late) in
      record { replied = served.replied ∙ reply_alone own k is e; leaves = served.leaves }

  pub refuses_alone : (own : List ℕ) (k : Opcode) (status : ℕ) → op_of c.opcode ≡ Some k → early (length terms.limits) shape c ≡ None
      → late_of shape most m c (Some k) ≡ Some status → Refuses shape terms m own c status
  refuses_alone own k status is e late = refuses_late shape terms m own c k status is e (late_alone k is e ∙ late)
