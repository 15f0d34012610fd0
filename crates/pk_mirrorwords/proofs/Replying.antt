-- What a pair's word says, from how each drive answered its command.
use Rattle.std.proofs.Common.{◌≡◌, ◌≢◌, inl, inr, ℕ, ◌≤◌, ◌==◌, if◌then◌else◌, List, length, take, Bool, true, false, Option, Some, None, Result, Ok, Err, refl, sym, ap, subst, ◌∙◌, [], ◌∷◌}
use Rattle.std.{proofs.lemmas.Bool.eqb-true, specs.FinMap.get}
use Rattle.pk_base.{specs.Key.Key, specs.Shape.Shape, specs.Shape.greatest, specs.Map.Map, specs.Map.IsMap, specs.Map.live}
use Rattle.pk_nvme.{specs.Command.Command, specs.Reply.Reply, specs.Reply.refusal, specs.Opcode.op_of, specs.declared.opcode.Opcode.Opcode}
use Rattle.pk_nvme.specs.declared.status.TheConstants.{SUCCESSFUL_COMPLETION, KEY_DOES_NOT_EXIST, UNRECOVERED_ERROR}
use Rattle.pk_model.{specs.Spaces.one_space, specs.Spaces.limit_of, specs.Spaces.in_space, specs.Answer.refused, specs.Answer.reply, specs.Answer.reply_of, specs.Answer.map_after, specs.Answer.Answer}
use Rattle.pk_host.{specs.declared.types.HostError.HostError, specs.Port.PortState, specs.Outcomes.Fetches, specs.Outcomes.IsFront, specs.Outcomes.stored, specs.Outcomes.existed}
use Rattle.pk_host.{proofs.CallLemmas.found_cases}
use Rattle.pk_host.specs.declared.types.HostError.TheVariants.{Refused as HostRefused, Port as HostPort, Memory}
use Rattle.pk_words.specs.Lines.{status_line, value_line}
use Rattle.pk_mirror.{specs.declared.error.Side.Side, specs.declared.error.Side.TheVariants.First, specs.declared.error.Side.TheVariants.Second, specs.declared.error.MirrorError.MirrorError}
use Rattle.pk_mirror.specs.declared.error.MirrorError.TheVariants.{Refused, Port, Split}
use Rattle.pk_mirror.{specs.Pair.Mirrored, specs.Pair.IsPair, specs.Causes.IsOn, specs.Causes.Decides, specs.Causes.IsCause, specs.Causes.IsReadError, specs.Asks.Asks, specs.Asks.KeepsMaps}
use Rattle.pk_mirror.{specs.Writes.Writes, specs.Writes.Mirrors, specs.Writes.FirstKept, specs.Writes.SecondReadFailed, proofs.ReplyLemmas.Tells, proofs.MapLemmas.value_fits}
use Rattle.pk_mirror.proofs.WriteLemmas.{refused_or_port, on_refused, on_port, true_false}
use Rattle.pk_mirror.proofs.KeyLemmas.{found_some, found_none}
use Rattle.pk_mirrorwords.specs.PairTasks.{PairTask, status_by, answered_line, text_of, map_left}
use Rattle.pk_mirrorwords.{specs.PairAnswers.PairDone, specs.PairAnswers.PairFails, proofs.Paging.failed_so}

refused_same : (s t : Side) (n k : ℕ) → Refused s n ≡ Refused t k → n ≡ k
refused_same s t n k e = cc

-- ---- the status of a reply

module _ (shape : Shape) (most : ℕ) (m : Map) (c : Command) (k : Opcode) (is : op_of c.opcode ≡ Some k)
    (zero : (most frames : ℕ) (m : Map) (own : List ℕ) → (reply_of shape most frames m own c (Some k)).status ≡ 0) where
  answer_status : (frames : ℕ) (a : Reply) (left : Map) → Answer shape (one_space frames most) m c a left → a.status ≡ status_by (refused shape (most ∷ []) m c)
  unfolding reply
  answer_status frames a left x = elim (refused shape (most ∷ []) m c) as (λ r. refused shape (most ∷ []) m c ≡ r → a.status ≡ status_by r) [
    | Some s ↦ λ e. (let replied : a ≡ refusal s = x.replied ∙ rw e refl in ap (λ (b : Reply). b.status) replied)
    | None ↦ λ e. (
        let replied : a ≡ reply_of shape (limit_of (most ∷ []) c.namespace) frames (in_space c.namespace m) x.own c (Some k) = x.replied ∙ rw (e, is) refl in
        ap (λ (b : Reply). b.status) replied ∙ zero (limit_of (most ∷ []) c.namespace) frames (in_space c.namespace m) x.own)
  ] refl

-- ---- a command that changes the maps

stored_zero : (a : Reply) → ◌≡◌ {A = Result (Unit {0}) HostError} (stored a) (Ok tt) → a.status ≡ 0
stored_zero a e = elim (a.status == 0) as (λ b. (a.status == 0) ≡ b → ◌≡◌ {A = Result (Unit {0}) HostError} (if b then Ok tt else Err (HostRefused a.status)) (Ok tt) → a.status ≡ 0) [
  | true ↦ λ t h. eqb-true a.status 0 t
  | false ↦ λ t h. absurd (let clash : ◌≡◌ {A = Result (Unit {0}) HostError} (Err (HostRefused a.status)) (Ok tt) = h in cc)
] refl e

-- the line of a Delete's answer
abbrev pub there_line : Bool → List ℕ
there_line there = status_line (if there then SUCCESSFUL_COMPLETION else KEY_DOES_NOT_EXIST)

existed_line : (a : Reply) (there : Bool) → ◌≡◌ {A = Result Bool HostError} (existed a) (Ok there) → a.status ≡ (if there then 0 else KEY_DOES_NOT_EXIST)
existed_line a there e = found_cases true false a (Ok there) (λ b. a.status ≡ (if b then 0 else KEY_DOES_NOT_EXIST)) (sym e) (λ z. z) (λ z. z)

module _ {X : Type 0} (old new : Mirrored) (p p' q q' : PortState) (c : Command) (k : Opcode) (of : Reply → Result X HostError) (tells : Tells of) (is : op_of c.opcode ≡ Some k)
    (plain : (shape : Shape) (most frames : ℕ) (m : Map) (own : List ℕ) → (reply_of shape most frames m own c (Some k)).status ≡ 0)
    (step : old.split ≡ false) (pair : IsPair old p q) (m : Map) (told : p.map ≡ Some m)
    (task : PairTask) (text_is : text_of p.shape p.limit task m ≡ answered_line p.shape p.limit m c) (left_is : map_left p.shape (p.limit ∷ []) task m ≡ map_after p.shape (p.limit ∷ []) m c) where
  -- the first's answer, if both did it
  done_reply : (x : X) → Writes old new p p' q q' c of (Ok x) → (a : Reply) × (of a ≡ Ok x) × (a.status ≡ status_by (refused p.shape (p.limit ∷ []) m c))
  done_reply x w = elim w [
    | inl s ↦ true_false old.split s.split step
    | inr (inl f) ↦ absurd (let clash : ◌≡◌ {A = Result X MirrorError} (Ok x) (Err f.decides.0) = f.decides.1 in cc)
    | inr (inr (inl f)) ↦ absurd (let clash : ◌≡◌ {A = Result X MirrorError} (Ok x) (Err f.decides.0) = f.decides.1 in cc)
    | inr (inr (inr b)) ↦
        let same : b.done ≡ x = (let h = b.answer in cc) in
        elim b.gives_first as (λ g. (a : Reply) × (of a ≡ Ok x) × (a.status ≡ status_by (refused p.shape (p.limit ∷ []) m c))) [
          | inl (a, r, e) ↦
              let ok : of a ≡ Ok x = sym e ∙ ap (λ (y : X). Ok y) same in
              let s = r.answers m told in
              elim s.stepped as (λ t. (a : Reply) × (of a ≡ Ok x) × (a.status ≡ status_by (refused p.shape (p.limit ∷ []) m c))) [
                | inl t ↦ (a, ok, answer_status p.shape p.limit m c k is (λ most frames m own. plain p.shape most frames m own) s.frames a s.left t)
                | inr u ↦ absurd (tells.answer a x ok (ap (λ (b : Reply). b.status) u.replied))
              ]
          | inr fault ↦ absurd (let clash : ◌≡◌ {A = Result X HostError} (Ok b.done) (Err HostPort) = fault.0 in cc)
        ]
  ]

  pub write_done : (x : X) (line : List ℕ) → ((a : Reply) → of a ≡ Ok x → line ≡ status_line a.status)
      → Writes old new p p' q q' c of (Ok x) → Mirrors p p' q' c (Ok x) m → PairDone task p p' q' m line
  write_done x line by w mirrors =
      let (a, ok, status) = done_reply x w in record {
        spelled = by a ok ∙ ap status_line status ∙ sym text_is;
        first_left = mirrors.first_done ∙ ap (λ (n : Map). Some n) (sym left_is);
        second_left = mirrors.second_done ∙ ap (λ (n : Map). Some n) (sym left_is);
      }

  -- what is refused by the first alone
  first_refuses : (status : ℕ) → Writes old new p p' q q' c of (Err (Refused First status)) → p'.map ≡ p.map → q' ≡ q → PairFails task p p' q q' m (Refused First status)
  first_refuses status w kept same = elim w [
    | inl s ↦ true_false old.split s.split step
    | inr (inl f) ↦ refused_or_port of tells p p' c f.error (PairFails task p p' q q' m (Refused First status)) f.gives
        (λ a r err is_refused fails.
        let e : Refused First status ≡ Refused First a.status = mirror_same (Refused First status) f.decides.0 f.decides.1 ∙ on_refused First f.error a.status f.decides.0 is_refused f.decides.2 in
        let n : status ≡ a.status = refused_same First First status a.status e in
        let s = r.answers m told in
        elim s.stepped as (λ t. PairFails task p p' q q' m (Refused First status)) [
          | inl t ↦
              let after : p'.map ≡ Some (map_after p.shape (p.limit ∷ []) m c) = s.told ∙ ap (λ (x : Map). Some x) t.leaves in inl (record {
                spelled = ap status_line (n ∙ answer_status p.shape p.limit m c k is (λ most frames m own. plain p.shape most frames m own) s.frames a s.left t) ∙ sym text_is;
                first_left = after ∙ ap (λ (x : Map). Some x) (sym left_is);
                second_left = ap (λ (x : PortState). x.map) same ∙ pair.in_step step ∙ sym kept ∙ after ∙ ap (λ (x : Map). Some x) (sym left_is);
              })
          | inr u ↦
              let unread : a.status ≡ UNRECOVERED_ERROR = ap (λ (b : Reply). b.status) u.replied in inr (inl (r.unread unread), n ∙ unread)
        ])
        (λ is_port rose. absurd (
        let clash : Refused First status ≡ Port First = mirror_same (Refused First status) f.decides.0 f.decides.1 ∙ on_port First f.error f.decides.0 is_port f.decides.2 in cc))
    | inr (inr (inl f)) ↦ absurd (first_second f.error f.decides.0 f.decides.2 (mirror_same (Refused First status) f.decides.0 f.decides.1))
    | inr (inr (inr b)) ↦ absurd (let clash : ◌≡◌ {A = Result X MirrorError} (Err (Refused First status)) (Ok b.done) = b.answer in cc)
  ]
    where
      mirror_same : (x y : MirrorError) → ◌≡◌ {A = Result X MirrorError} (Err x) (Err y) → x ≡ y
      mirror_same x y e = cc

      first_second : (error : HostError) (e : MirrorError) → IsOn Second error e → Refused First status ≡ e → ⊥
      first_second (HostRefused s) e on same = let clash : Refused First status ≡ Refused Second s = same ∙ on in cc
      first_second HostPort e on same = let clash : Refused First status ≡ Port Second = same ∙ on in cc
      first_second Memory e on same = on

  pub write_fails : (e : MirrorError) → Writes old new p p' q q' c of (Err e) → (◌≡◌ {A = Result X MirrorError} (Err e) (Err Split) → old.split ≡ true)
      → (e ≢ Split → IsCause p p' q q' e) → FirstKept old new p p' q q' e → SecondReadFailed e
      → PairFails task p p' q q' m e
  write_fails (Refused First status) w split causes kept second = first_refuses status w kept.1 kept.2
  write_fails (Refused Second status) w split causes kept second = let h = causes (λ e. cc) in inr (inr (h.unread second), second)
  write_fails (Port First) w split causes kept second = inl (causes (λ e. cc))
  write_fails (Port Second) w split causes kept second = inr (causes (λ e. cc))
  write_fails Split w split causes kept second = true_false old.split (split refl) step

pub stored_line : (a : Reply) → ◌≡◌ {A = Result (Unit {0}) HostError} (stored a) (Ok tt) → status_line SUCCESSFUL_COMPLETION ≡ status_line a.status
stored_line a ok = ap status_line (sym (stored_zero a ok))

pub deleted_line : (there : Bool) (a : Reply) → ◌≡◌ {A = Result Bool HostError} (existed a) (Ok there) → there_line there ≡ status_line a.status
deleted_line there a ok = ap status_line (sym (existed_line a there ok))

pub true_line : (a : Reply) (there : Bool) → there ≡ true → ◌≡◌ {A = Result Bool HostError} (existed a) (Ok there) → status_line SUCCESSFUL_COMPLETION ≡ status_line a.status
true_line a there is ok = ap there_line (sym is) ∙ deleted_line there a ok

pub false_line : (a : Reply) (there : Bool) → there ≡ false → ◌≡◌ {A = Result Bool HostError} (existed a) (Ok there) → status_line KEY_DOES_NOT_EXIST ≡ status_line a.status
false_line a there is ok = ap there_line (sym is) ∙ deleted_line there a ok

-- ---- a command that only asks

-- if a read failed, or a port
pub asked_fails : (task : PairTask) (p p' q q' : PortState) (m : Map) (e : MirrorError) → (e ≡ Split → ⊥) → (e ≢ Split → IsCause p p' q q' e) → IsReadError e → PairFails task p p' q q' m e
asked_fails task p p' q q' m (Refused side status) off causes unread = inr (failed_so p p' q q' (Refused side status) (causes (λ e. cc)) unread)
asked_fails task p p' q q' m (Port side) off causes unread = failed_so p p' q q' (Port side) (causes (λ e. cc)) unread
asked_fails task p p' q q' m Split off causes unread = absurd (off refl)

-- a drive that answered has a map of its shape, within its limit
pub asks_within : {X : Type 0} (old new : Mirrored) (p p' q q' : PortState) (c : Command) (of : Reply → Result X HostError) (x : X)
    → Asks old new p p' q q' c of (Ok x) → IsPair old p q → (m : Map) → p.map ≡ Some m
    → IsMap p.shape m × (live p.shape m ≤ p.limit)
asks_within {X} old new p p' q q' c of x w pair m told = elim w [
  | inl s ↦ absurd (let clash : ◌≡◌ {A = Result X MirrorError} (Ok x) (Err Split) = s.answer in cc)
  | inr (inl f) ↦ elim f.gives [
    | inl (a, r, e) ↦ let s = r.answers m told in (s.within.sized, s.within.few)
    | inr fault ↦ absurd (let h = subst (λ (y : Result X HostError). Decides First y (Ok x)) fault.0 f.decides in let clash : ◌≡◌ {A = Result X MirrorError} (Ok x) (Err h.0) = h.1 in cc)
  ]
  | inr (inr f) ↦ elim f.gives [
    | inl (a, r, e) ↦
        let s = r.answers m (pair.in_step f.in_step ∙ told) in
        let same : q.shape ≡ p.shape = pair.second_shape ∙ sym pair.first_shape in
        (subst (λ (y : Shape). IsMap y m) same s.within.sized, subst (λ (n : ℕ). live p.shape m ≤ n) pair.limit (subst (λ (y : Shape). live y m ≤ q.limit) same s.within.few))
    | inr fault ↦ absurd (let h = subst (λ (y : Result X HostError). Decides Second y (Ok x)) fault.0 f.decides in let clash : ◌≡◌ {A = Result X MirrorError} (Ok x) (Err h.0) = h.1 in cc)
  ]
]

-- both drives have the map that they had
pub both_kept : (old : Mirrored) (p p' q q' : PortState) → IsPair old p q → old.split ≡ false → KeepsMaps p p' q q' → (m : Map) → p.map ≡ Some m → (p'.map ≡ Some m) × (q'.map ≡ Some m)
both_kept old p p' q q' pair step keeps m told = (keeps.first_keeps ∙ told, keeps.second_keeps ∙ pair.in_step step ∙ told)

-- the value of a key, from its first bytes in a buffer of the greatest value
pub value_found : (p : PortState) (key : Key) (o : Option ℕ) (len : ℕ) (into text : List ℕ) (m : Map) → o ≡ Some len
    → Fetches p key o into → length into ≡ greatest p.shape → IsMap p.shape m → p.map ≡ Some m → text ≡ value_line (Some (take len into))
    → text ≡ value_line (get m key)
value_found p key o len into text m is fetches wide sized told spelled =
    let (v, ev, whole) = found_some (get m key) len into (subst (λ (x : Option ℕ). IsFront (get m key) x into) is (fetches m told)) in
    let small = value_fits p.shape m sized key v ev in
    let fits : length v ≤ length into = subst (λ (n : ℕ). length v ≤ n) (sym wide) small in
    spelled ∙ ap value_line (ap (λ (x : List ℕ). Some x) (whole fits) ∙ sym ev)

pub value_missing : (p : PortState) (key : Key) (o : Option ℕ) (into text : List ℕ) (m : Map) → o ≡ None
    → Fetches p key o into → p.map ≡ Some m → text ≡ value_line None → text ≡ value_line (get m key)
value_missing p key o into text m is fetches told spelled =
    let none = found_none (get m key) into (subst (λ (x : Option ℕ). IsFront (get m key) x into) is (fetches m told)) in spelled ∙ ap value_line (sym none)
