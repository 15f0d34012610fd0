-- One key on both drives: what each has of it, and what a delete or a store makes of it on the second.
use Rattle.std.proofs.Common.{◌≡◌, inl, inr, ℕ, ◌≤◌, ◌==◌, min, nat_le, if◌then◌else◌, List, [], ◌∷◌, length, take, Bool, true, false, not, ◌&&◌, Option, Some, None, is_some, Result, Ok, Err}
use Rattle.std.proofs.Common.{MatchBool, refl, sym, ap, subst, ◌∙◌, arith}
use Rattle.std.{proofs.lemmas.Bool.le-leb, proofs.lemmas.List.take_all, specs.FinMap.get, specs.FinMap.contains_key, specs.FinMap.insert, specs.FinMap.remove}
use Rattle.pk_base.{specs.Choices.or_else, specs.Key.Key, specs.Key.IsKey, specs.Key.bytes_of, specs.Key.space_of, specs.Shape.Shape, specs.Shape.greatest, specs.Shape.charge}
use Rattle.pk_base.specs.Map.{Map, live, pages_if_some}
use Rattle.pk_nvme.{specs.Command.Command, specs.Command.key, specs.Reply.Reply, specs.declared.opcode.TheConstants.STORE}
use Rattle.pk_nvme.specs.declared.opcode.Opcode.TheVariants.{Store, Retrieve, Delete, Exist, List as ListKeys}
use Rattle.pk_nvme.specs.declared.status.TheConstants.{CAPACITY_EXCEEDED, INVALID_VALUE_SIZE, INVALID_KEY_SIZE, KEY_DOES_NOT_EXIST}
use Rattle.pk_model.{specs.Answer.check, specs.Answer.late_of, specs.Answer.live_after, specs.Answer.refused, specs.Spaces.in_space, proofs.Machines.live_stored}
use Rattle.pk_host.{specs.declared.types.HostError.HostError, specs.declared.types.HostError.TheVariants.Refused as HostRefused, specs.declared.types.HostError.TheVariants.Port as HostPort}
use Rattle.pk_host.{specs.declared.types.StoreRule.TheVariants.Any, specs.Port.PortState, specs.Port.Took, specs.Calls.store_of, specs.Calls.retrieve_of, specs.Calls.delete_of, specs.Calls.exist_of}
use Rattle.pk_host.specs.Outcomes.{Gives, list_of, stored, retrieved, existed, Fetches, IsFront, Tests, Deletes, Leaves}
use Rattle.pk_host.proofs.CommandLemmas.{keyed_fault, delete_by, exist_by, key-of_key}
use Rattle.pk_mirror.{specs.declared.error.Side.Side, specs.declared.error.Side.TheVariants.First, specs.declared.error.Side.TheVariants.Second, specs.declared.error.MirrorError.MirrorError}
use Rattle.pk_mirror.{specs.Pair.Alike, specs.Causes.IsOn, specs.Causes.IsCause, specs.Causes.IsReadError, specs.Visits.Visits, specs.Visits.OnlyReadsFail}
use Rattle.pk_mirror.{specs.Agreement.NoOther, specs.Agreement.HaveSame, specs.Agreement.AreAny, specs.Agreement.IsPart, proofs.AskLemmas.OnlyUnread, proofs.AskLemmas.one_keeps}
use Rattle.pk_mirror.{proofs.ReplyLemmas.Tells, proofs.ReplyLemmas.unless_refused, proofs.ReplyLemmas.stored_tells, proofs.WriteLemmas.by_side, proofs.WriteLemmas.refused_by}
use Rattle.pk_mirror.proofs.MapLemmas.{value_fits, by_key, get_removed, get_removed_other, get_inserted, get_inserted_other, missing_key, part_insert, live_of_part}

-- ---- what a Retrieve found

pub found_none : (o : Option (List ℕ)) (into : List ℕ) → IsFront o None into → o ≡ None
found_none None into e = refl
found_none (Some value) into e = absurd (let clash : ◌≡◌ {A = Option ℕ} None (Some (length value)) = e.0 in cc)

pub found_some : (o : Option (List ℕ)) (len : ℕ) (into : List ℕ) → IsFront o (Some len) into → (value : List ℕ) × (o ≡ Some value) × (length value ≤ length into → take len into ≡ value)
found_some None len into e = absurd (let clash : ◌≡◌ {A = Option ℕ} (Some len) None = e in cc)
found_some (Some value) len into e = (
  value,
  refl,
  λ fits.
      let is : len ≡ length value = cc in
      ap (λ (n : ℕ). take n into) (let n : len ≡ min (length value) (length into) = omega (arith, is, fits) in n) ∙ e.1 ∙ take_all (length into) value fits,
)

-- the drive's values are no longer than a buffer of the greatest size
pub fits_told : {X : Type 0} (old new : PortState) (c : Command) (of : Reply → Result X HostError) (x : X) (room : ℕ) (k : Key) → Gives old new c of (Ok x) → greatest old.shape ≤ room
    → (m : Map) → old.map ≡ Some m → (v : List ℕ) → get m k ≡ Some v → length v ≤ room
fits_told {X} old new c of x room k (inr fault) wide m told v e = absurd (let clash : ◌≡◌ {A = Result X HostError} (Ok x) (Err HostPort) = fault.0 in cc)
fits_told old new c of x room k (inl (a, r, is)) wide m told v e = let most = value_fits old.shape m (r.answers m told).within.sized k v e in omega (arith, most, wide)

-- a drive whose map is within its limit
pub within_limit : {X : Type 0} (old new : PortState) (c : Command) (of : Reply → Result X HostError) (x : X) → Gives old new c of (Ok x) → (m : Map) → old.map ≡ Some m → live old.shape m ≤ old.limit
within_limit {X} old new c of x (inr fault) m told = absurd (let clash : ◌≡◌ {A = Result X HostError} (Ok x) (Err HostPort) = fault.0 in cc)
within_limit old new c of x (inl (a, r, is)) m told = (r.answers m told).within.few

-- ---- has the second another value?

pub no_other_none : (q : PortState) (k : Key) (into : List ℕ) → Fetches q k None into → (a b : Map) → q.map ≡ Some b → NoOther a b k
no_other_none q k into f a b eb = inl (found_none (get b k) into (f b eb))

pub no_other_same : (p q : PortState) (k : Key) (one two : List ℕ) (wanted held : ℕ) (same : Bool) → Fetches p k (Some wanted) one → Fetches q k (Some held) two
    → ((m : Map) → p.map ≡ Some m → (v : List ℕ) → get m k ≡ Some v → length v ≤ length one) → ((m : Map) → q.map ≡ Some m → (v : List ℕ) → get m k ≡ Some v → length v ≤ length two)
    → MatchBool same (take wanted one ≡ take held two) (take wanted one ≡ take held two → ⊥) → (a b : Map) → p.map ≡ Some a → q.map ≡ Some b → not same ≡ false → NoOther a b k
no_other_same p q k one two wanted held false f g fits fits2 h a b ea eb is = absurd (let clash : true ≡ false = is in cc)
no_other_same p q k one two wanted held true f g fits fits2 h a b ea eb is =
    let (v, ev, front) = found_some (get a k) wanted one (f a ea) in
    let (w, ew, front2) = found_some (get b k) held two (g b eb) in
    let vx = front (fits a ea v ev) in
    let wy = front2 (fits2 b eb w ew) in
    inr (ew ∙ ap (λ (z : List ℕ). Some z) (sym wy ∙ sym h ∙ vx) ∙ sym ev)

-- ---- a visit that deletes

pub visits_kept : (p q q' : PortState) (k : Key) → q'.map ≡ q.map → ((a b : Map) → p.map ≡ Some a → q.map ≡ Some b → NoOther a b k) → Visits AreAny NoOther p q q' (k ∷ [])
visits_kept p q q' k same h a b ea eb any = (b, same ∙ eb, record { keeps = tt; done = (h a b ea eb, tt); still = λ key d. d })

pub visits_deleted : (p q q1 q' : PortState) (k : Key) (there : Bool) → q1.map ≡ q.map → Tests q1 k there → Deletes q1 q' k there → Visits AreAny NoOther p q q' (k ∷ [])
visits_deleted p q q1 q' k true same tests deletes a b ea eb any = (
  remove b k,
  deletes b (same ∙ eb),
  record {
    keeps = tt;
    done = (inl (get_removed b k), tt);
    still = λ key d. by_key key k (NoOther a (remove b k) key)
        (λ is. inl (ap (get (remove b k)) is ∙ get_removed b k))
        (λ other. elim d as (λ x. NoOther a (remove b k) key) [
          | inl none ↦ inl (get_removed_other b k key other ∙ none)
          | inr alike ↦ inr (get_removed_other b k key other ∙ alike)
        ]);
  },
)
visits_deleted p q q1 q' k false same tests deletes a b ea eb any = (
  b,
  deletes b (same ∙ eb),
  record { keeps = tt; done = (inl (missing_key b k (sym (tests b (same ∙ eb)))), tt); still = λ key d. d },
)

-- ---- a visit that stores

pub visits_there : (p q q' : PortState) (k : Key) (there : Bool) → there ≡ true → Tests q k there → q'.map ≡ q.map → Visits IsPart HaveSame p q q' (k ∷ [])
visits_there p q q' k there yes_there tests same a b ea eb part = (
  b,
  same ∙ eb,
  record {
    keeps = part;
    done = (
      elim (part k) as (λ x. HaveSame a b k) [
        | inl none ↦ absurd (let clash : true ≡ false = sym yes_there ∙ tests b eb ∙ ap is_some none in cc)
        | inr alike ↦ alike
      ],
      tt,
    );
    still = λ key d. d;
  },
)

pub visits_lacking : (p q q' : PortState) (k : Key) (into : List ℕ) → Fetches p k None into
    → ((b : Map) → q.map ≡ Some b → contains_key b k ≡ false) → q'.map ≡ q.map → Visits IsPart HaveSame p q q' (k ∷ [])
visits_lacking p q q' k into f lacked same a b ea eb part = (
  b,
  same ∙ eb,
  record { keeps = part; done = (missing_key b k (lacked b eb) ∙ sym (found_none (get a k) into (f a ea)), tt); still = λ key d. d },
)

pub visits_stored : (p q q' : PortState) (k : Key) (into value : List ℕ) (len : ℕ) → Fetches p k (Some len) into
    → ((m : Map) → p.map ≡ Some m → (v : List ℕ) → get m k ≡ Some v → length v ≤ length into)
    → value ≡ take len into → Leaves q q' (λ m. insert m k value) → Visits IsPart HaveSame p q q' (k ∷ [])
visits_stored p q q' k into value len f fits is leaves a b ea eb part =
    let (v, ev, front) = found_some (get a k) len into (f a ea) in
    let whole : value ≡ v = is ∙ front (fits a ea v ev) in
    let there : get a k ≡ Some value = ev ∙ ap (λ (z : List ℕ). Some z) (sym whole) in (
      insert b k value,
      leaves b eb,
      record {
        keeps = part_insert a b k value there part;
        done = (get_inserted b k value ∙ sym there, tt);
        still = λ key d. by_key key k (HaveSame a (insert b k value) key)
            (λ same. ap (get (insert b k value)) same ∙ get_inserted b k value ∙ sym there ∙ ap (get a) (sym same))
            (λ other. get_inserted_other b k key value other ∙ d);
      },
    )

-- ---- why a visit fails

module _ {X : Type 0} (of : Reply → Result X HostError) (tells : Tells of) (c : Command) (p p' q q' : PortState) (error : HostError) (e : MirrorError) where
  pub first_cause : Gives p p' c of (Err error) → IsOn First error e → IsCause p p' q q' e
  first_cause g on = by_side of tells p p' c (IsCause p p' q q') First error e g on (λ a r err same fails. refused_by of tells p p' c a r fails) (λ rose. rose)

  pub second_cause : Gives q q' c of (Err error) → IsOn Second error e → IsCause p p' q q' e
  second_cause g on = by_side of tells q q' c (IsCause p p' q q') Second error e g on (λ a r err same fails. refused_by of tells q q' c a r fails) (λ rose. rose)

-- if the map of the side is known, its drive could not read
pub side_unread : {X : Type 0} (of : Reply → Result X HostError) (tells : Tells of) (c : Command) (side : Side) (old new : PortState) (error : HostError) (e : MirrorError) → OnlyUnread c of
    → Gives old new c of (Err error) → IsOn side error e → (m : Map) → old.map ≡ Some m → IsReadError e
side_unread of tells c side old new error e unread g on m told =
    by_side of tells old new c IsReadError side error e g on (λ a r err same fails. unread old new a error r err m told) (λ rose. tt)

-- a Delete or an Exist that has no answer met a failed read
no_there : (b d : Bool) (s : ℕ) (e : HostError) → ◌≡◌ {A = Result Bool HostError} (if b then Ok true else if d then Ok false else Err (HostRefused s)) (Err e) → (b ≡ false) × (d ≡ false)
no_there true d s e h = absurd (let clash : ◌≡◌ {A = Result Bool HostError} (Ok true) (Err e) = h in cc)
no_there false true s e h = absurd (let clash : ◌≡◌ {A = Result Bool HostError} (Ok false) (Err e) = h in cc)
no_there false false s e h = (refl, refl)

pub delete_unread : (k : Key) → IsKey k → OnlyUnread (delete_of k) existed
delete_unread k is old new a e r err m told =
    let s = r.answers m told in
    let neither = no_there (a.status == 0) (a.status == KEY_DOES_NOT_EXIST) a.status e err in
    keyed_fault old.shape old.limit s.frames m (delete_of k) Delete refl s.within.alone a s.left refl (delete_by old.shape old.limit m k is s.within.alone) (λ own. refl) neither.0 neither.1 s.stepped

pub exist_unread : (k : Key) → IsKey k → OnlyUnread (exist_of k) existed
exist_unread k is old new a e r err m told =
    let s = r.answers m told in
    let neither = no_there (a.status == 0) (a.status == KEY_DOES_NOT_EXIST) a.status e err in
    keyed_fault old.shape old.limit s.frames m (exist_of k) Exist refl s.within.alone a s.left refl (exist_by old.shape old.limit m k is s.within.alone) (λ own. refl) neither.0 neither.1 s.stepped

-- ---- a Store that fits is not refused

key_length : (k : Key) → IsKey k → (nat_le 1 (length (bytes_of k)) && nat_le (length (bytes_of k)) 16) ≡ true
key_length k h = rw (le-leb 1 (length (bytes_of k)) h.some, le-leb (length (bytes_of k)) 16 h.most) refl

store_fits : (shape : Shape) (most : ℕ) (m : Map) (k : Key) (v : List ℕ) → in_space 1 m ≡ m → IsKey k → space_of k ≡ 1
    → length v ≤ greatest shape → live shape (insert m k v) ≤ most → refused shape (most ∷ []) m (store_of k v Any) ≡ None
store_fits shape most m k v alone is first_space small fits =
    let c : Command = store_of k v Any in
    let named : key c ≡ k = key-of_key STORE k (length v) 0 v (is, first_space) in
    let pages : live_after shape m c ≡ live shape (insert m k v) =
    live_stored shape m k v (live shape m) (pages_if_some shape (get m (key c))) (charge shape (length v)) refl (ap (λ (q : Key). pages_if_some shape (get m q)) named) refl in
    let first : refused shape (most ∷ []) m c ≡ or_else (check (nat_le (length v) (greatest shape)) INVALID_VALUE_SIZE) (late_of shape most m c (Some Store)) =
    ap (λ b. or_else (or_else (check b INVALID_KEY_SIZE) (check (nat_le (length v) (greatest shape)) INVALID_VALUE_SIZE)) (late_of shape most (in_space 1 m) c (Some Store))) (key_length k is)
    ∙ ap (λ (n : Map). or_else (check (nat_le (length v) (greatest shape)) INVALID_VALUE_SIZE) (late_of shape most n c (Some Store))) alone in
    first
    ∙ ap (λ b. or_else (check b INVALID_VALUE_SIZE) (late_of shape most m c (Some Store))) (le-leb (length v) (greatest shape) small)
    ∙ ap (λ b. check b CAPACITY_EXCEEDED) (le-leb (live_after shape m c) most (omega (arith, pages, fits)))

-- a value of the first that the second lacks is not refused, but for a failed read
pub store_unread : (p p1 q q' : PortState) (k : Key) (into value : List ℕ) (len size : ℕ) (x : Option ℕ) (error : HostError) (e : MirrorError)
    → IsKey k → space_of k ≡ 1 → Alike p q → Gives p p1 (retrieve_of k size) retrieved (Ok x)
    → greatest p.shape ≤ length into → Fetches p k (Some len) into → value ≡ take len into → Gives q q' (store_of k value Any) stored (Err error) → IsOn Second error e → OnlyReadsFail IsPart p q e
store_unread p p1 q q' k into value len size x error e is first_space alike found wide f front g on a b ea eb part =
    by_side stored stored_tells q q' (store_of k value Any) IsReadError Second error e g on
    (λ r replies err same fails.
    let s = replies.answers b eb in
    unless_refused q.shape q.limit b (store_of k value Any) Store refl s.frames r s.left (λ most frames m own. refl) (fits s.within.alone) fails s.stepped)
    (λ rose. tt)
  where
    room : (v : List ℕ) → get a k ≡ Some v → length v ≤ length into
    room v ev = fits_told p p1 (retrieve_of k size) retrieved x (length into) k found wide a ea v ev

    there : get a k ≡ Some value
    there = let (v, ev, whole) = found_some (get a k) len into (f a ea) in ev ∙ ap (λ (z : List ℕ). Some z) (sym (front ∙ whole (room v ev)))

    small : length value ≤ greatest q.shape
    small =
        let fits : length value ≤ greatest p.shape = fits_told p p1 (retrieve_of k size) retrieved x (greatest p.shape) k found (omega arith) a ea value there in
        subst (λ (z : Shape). length value ≤ greatest z) (sym alike.shape) fits

    few : live q.shape (insert b k value) ≤ q.limit
    few =
        let most = within_limit p p1 (retrieve_of k size) retrieved x found a ea in
        let less = live_of_part p.shape a (insert b k value) (part_insert a b k value there part) in
        let here : live p.shape (insert b k value) ≤ q.limit = omega (arith, most, less, alike.limit) in
        subst (λ (z : Shape). live z (insert b k value) ≤ q.limit) (sym alike.shape) here

    fits : in_space 1 b ≡ b → refused q.shape (q.limit ∷ []) b (store_of k value Any) ≡ None
    fits alone = store_fits q.shape q.limit b k value alone is first_space small few

-- ---- the same from states that have the same map

pub fetched_as : (p : PortState) (k : Key) (into : List ℕ) (o o' : Option ℕ) → o ≡ o' → Fetches p k o into → Fetches p k o' into
fetched_as p k into o o' e h = subst (λ (x : Option ℕ). Fetches p k x into) e h

pub lacked : (q q1 : PortState) (k : Key) (there : Bool) → there ≡ false → Tests q k there → q1.map ≡ q.map → (b : Map) → q1.map ≡ Some b → contains_key b k ≡ false
lacked q q1 k there not_there tests same b e = sym (tests b (sym same ∙ e)) ∙ not_there

pub visits_from : (Keeps : Map → Map → Type 0) (Done : Map → Map → Key → Type 0) (p q q1 q' : PortState) (ks : List Key) → q1.map ≡ q.map → Visits Keeps Done p q1 q' ks → Visits Keeps Done p q q' ks
visits_from Keeps Done p q q1 q' ks same h a b ea eb keeps = h a b ea (same ∙ eb) keeps

pub retrieve_keeps : (old new : PortState) (k : Key) (size : ℕ) → Took old new (retrieve_of k size ∷ []) → new.map ≡ old.map
retrieve_keeps old new k size t = one_keeps old new (retrieve_of k size) Retrieve (retrieve_of k size ∷ []) refl (λ m. refl) (inr refl) t

pub exist_keeps : (old new : PortState) (k : Key) → Took old new (exist_of k ∷ []) → new.map ≡ old.map
exist_keeps old new k t = one_keeps old new (exist_of k) Exist (exist_of k ∷ []) refl (λ m. refl) (inr refl) t

pub list_keeps : (old new : PortState) (from : Key) → Took old new (list_of from ∷ []) → new.map ≡ old.map
list_keeps old new from t = one_keeps old new (list_of from) ListKeys (list_of from ∷ []) refl (λ m. refl) (inr refl) t

-- a key that the first lacks, of a second that has nothing else
pub lacks_both : (a b : Map) → IsPart a b → (k : Key) → get a k ≡ None → HaveSame a b k
lacks_both a b part k none = elim (part k) as (λ x. HaveSame a b k) [ inl gone ↦ gone ∙ sym none | inr same ↦ same ]
