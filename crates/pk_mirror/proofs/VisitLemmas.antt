-- One visit after another.
use Rattle.std.proofs.Common.{◌≡◌, ◌≢◌, ℕ, List, [], ◌∷◌, ◌++◌, Result, Ok, Err, OnOk, IfErr, refl, sym, subst, ◌∙◌}
use Rattle.std.specs.List.{AllByRecursion}
use Rattle.pk_base.{specs.Key.Key, specs.Map.Map}
use Rattle.pk_nvme.specs.Command.{Command}
use Rattle.pk_host.{specs.Port.PortState, specs.Port.Took, specs.TookLaws.took_both, specs.Outcomes.TookSome}
use Rattle.pk_mirror.{specs.declared.error.Side.TheVariants.First, specs.declared.error.Side.TheVariants.Second, specs.declared.error.MirrorError.MirrorError}
use Rattle.pk_mirror.{specs.Spending.Spending, specs.Spending.OnlyLooks, specs.Progress.Looked, specs.Progress.Progress, specs.Progress.Failure}
use Rattle.pk_mirror.specs.declared.error.MirrorError.TheVariants.{Refused, Port, Split}
use Rattle.pk_mirror.proofs.SpendLemmas.{IsOther, spent_none, spent_looks, spending_looks, took_spent, took_spending, took_settled, goes_same}
use Rattle.pk_mirror.{specs.Causes.RefusedBy, specs.Causes.IsCause, specs.Causes.OnlyAsks, specs.Causes.AreAsking, specs.Causes.NotEmpty, specs.Visits.Visits, specs.Visits.OnlyReadsFail}
use Rattle.pk_mirror.{proofs.PairLemmas.rose_later}

pub all_map : (P Q : Key → Type 0) → ((k : Key) → P k → Q k) → (ks : List Key) → AllByRecursion P ks → AllByRecursion Q ks
all_map P Q f [] h = tt
all_map P Q f (k ∷ ks) h = (f k h.0, all_map P Q f ks h.1)

pub all_append : (P : Key → Type 0) (ks ls : List Key) → AllByRecursion P ks → AllByRecursion P ls → AllByRecursion P (ks ++ ls)
all_append P [] ls h g = g
all_append P (k ∷ ks) ls h g = (h.0, all_append P ks ls h.1 g)

-- ---- visits

module _ (Keeps : Map → Map → Type 0) (Done : Map → Map → Key → Type 0) where
  pub visits_none : (first second : PortState) → Visits Keeps Done first second second []
  visits_none first second a b ea eb keeps = (b, eb, record { keeps = keeps; done = tt; still = λ k h. h })

  pub visits_more : (first first1 second second1 second' : PortState) (ks ls : List Key) → first1.map ≡ first.map
      → Visits Keeps Done first second second1 ks → Visits Keeps Done first1 second1 second' ls
      → Visits Keeps Done first second second' (ks ++ ls)
  visits_more first first1 second second1 second' ks ls same h g a b ea eb keeps =
      let v = h a b ea eb keeps in
      let w = g a v.0 (same ∙ ea) v.1 v.2.keeps in (
        w.0,
        w.1,
        record {
          keeps = w.2.keeps;
          done = all_append (Done a w.0) ks ls (all_map (Done a v.0) (Done a w.0) w.2.still ks v.2.done) w.2.done;
          still = λ k d. w.2.still k (v.2.still k d);
        },
      )

-- ---- causes

refused_later : (start old new : PortState) (cs : List Command) (status : ℕ) → Took start old cs → RefusedBy old new status → RefusedBy start new status
refused_later start old new cs status t r = record {
  before = cs ++ r.before;
  asked = r.asked;
  took = took_both start cs old r.before r.asked t r.took;
  command = r.command;
  reply = r.reply;
  replies = r.replies;
  status_is = r.status_is;
  no_success = r.no_success;
  unread = λ s. rose_later start.read_faults old.read_faults new.read_faults t.read_faults (r.unread s);
}

-- a cause in a later call is one of both
pub cause_later : (first first1 first' second second1 second' : PortState) (cs ds : List Command) (e : MirrorError)
    → Took first first1 cs → Took second second1 ds → IsCause first1 first' second1 second' e
    → IsCause first first' second second' e
cause_later first first1 first' second second1 second' cs ds (Refused First status) t u h = refused_later first first1 first' cs status t h
cause_later first first1 first' second second1 second' cs ds (Refused Second status) t u h = refused_later second second1 second' ds status u h
cause_later first first1 first' second second1 second' cs ds (Port First) t u h = rose_later first.port_faults first1.port_faults first'.port_faults t.port_faults h
cause_later first first1 first' second second1 second' cs ds (Port Second) t u h = rose_later second.port_faults second1.port_faults second'.port_faults u.port_faults h
cause_later first first1 first' second second1 second' cs ds Split t u h = h

-- such a cause is none of a split pair
pub not_split : {X : Type 0} (first first' second second' : PortState) (e : MirrorError) → IsCause first first' second second' e → ◌≡◌ {A = Result X MirrorError} (Err e) (Err Split) → ⊥
not_split first first' second second' e h is = subst (IsCause first first' second second') (let same : e ≡ Split = cc in same) h

-- ---- commands

asking_append : (cs ds : List Command) → AreAsking cs → AreAsking ds → AreAsking (cs ++ ds)
asking_append [] ds h g = g
asking_append (c ∷ cs) ds h g = (h.0, asking_append cs ds h.1 g)

module _ {P : Type 0} (took : P → List Command → P → Type 0) (both : (p : P) (cs : List Command) (q : P) (ds : List Command) (r : P) → took p cs q → took q ds r → took p (cs ++ ds) r) where
  pub asking_more : (p q r : P) → TookSome took AreAsking p q → TookSome took AreAsking q r → TookSome took AreAsking p r
  asking_more p q r h g = (h.0 ++ g.0, asking_append h.0 g.0 h.1 g.1, both p h.0 q g.0 r h.2 g.2)

module _ {P : Type 0} (took : P → List Command → P → Type 0) where
  pub asking_none : (p : P) → took p [] p → TookSome took AreAsking p p
  asking_none p none = ([], tt, none)

  pub asking_one : (p q : P) (c : Command) → OnlyAsks c → took p (c ∷ []) q → TookSome took AreAsking p q
  asking_one p q c asks h = (c ∷ [], (asks, tt), h)

-- ---- at least one command

one_some : (c : Command) (cs : List Command) → (c ∷ cs) ≢ []
one_some c cs e = cc

some_then : (cs ds : List Command) → cs ≢ [] → (cs ++ ds) ≢ []
some_then [] ds some = absurd (some refl)
some_then (c ∷ cs) ds some = one_some c (cs ++ ds)

then_some : (cs ds : List Command) → ds ≢ [] → (cs ++ ds) ≢ []
then_some [] ds some = some
then_some (c ∷ cs) ds some = one_some c (cs ++ ds)

pub asked_one : {P : Type 0} (took : P → List Command → P → Type 0) (p q : P) (c : Command) → took p (c ∷ []) q → TookSome took NotEmpty p q
asked_one took p q c h = (c ∷ [], one_some c [], h)

module _ {P : Type 0} (took : P → List Command → P → Type 0) (both : (p : P) (cs : List Command) (q : P) (ds : List Command) (r : P) → took p cs q → took q ds r → took p (cs ++ ds) r) where
  -- at least one, and then any
  pub asked_before : (p q r : P) (ds : List Command) → TookSome took NotEmpty p q → took q ds r → TookSome took NotEmpty p r
  asked_before p q r ds h g = (h.0 ++ ds, some_then h.0 ds h.1, both p h.0 q ds r h.2 g)

  -- any, and then at least one
  pub asked_later : (p q r : P) (cs : List Command) → took p cs q → TookSome took NotEmpty q r → TookSome took NotEmpty p r
  asked_later p q r cs h g = (cs ++ g.0, then_some cs g.0 g.1, both p cs q g.0 r h g.2)

-- ---- how far a resync has come

-- the commands of one call and of the next are those of both
abbrev pub TakesBoth : {P : Type 0} → (P → List Command → P → Type 0) → Type 0
TakesBoth {P} took = (p : P) (cs : List Command) (q : P) (ds : List Command) (r : P) → took p cs q → took q ds r → took p (cs ++ ds) r

abbrev pub TellsTook : {P : Type 0} → (P → PortState) → (P → List Command → P → Type 0) → Type 0
TellsTook {P} state took = (p : P) (cs : List Command) (q : P) → took p cs q → Took (state p) (state q) cs

module _ {P Q : Type 0} {stateP : P → PortState} {tookP : P → List Command → P → Type 0} {stateQ : Q → PortState} {tookQ : Q → List Command → Q → Type 0}
    {Keeps : Map → Map → Type 0} {Wanted : Map → Map → Key → Type 0} {opcode : ℕ} where
  -- after a look at both
  module _ (other : (c : Command) → OnlyLooks c → IsOther opcode c) (first first' : P) (second second' : Q) (h : Looked stateP tookP stateQ tookQ first first' second second') where
    pub looked_goes : Progress stateP tookP stateQ tookQ Keeps Wanted opcode first first' second second'
    looked_goes = record {
      took_first = h.took_first;
      took_second = (
        h.took_second.0,
        spent_looks Keeps Wanted opcode other (stateP first) (stateQ second) (stateQ second') h.took_second.0 h.took_second.1 h.second_keeps,
        h.took_second.2,
      );
      same = h.first_keeps;
      goes = goes_same Keeps (stateP first) (stateQ second) (stateQ second') h.second_keeps;
    }

    pub looked_fails : (e : MirrorError) → IsCause (stateP first) (stateP first') (stateQ second) (stateQ second') e
        → OnlyReadsFail Keeps (stateP first) (stateQ second) e → Failure stateP tookP stateQ tookQ Keeps Wanted opcode first first' second second' e
    looked_fails e causes unread = record {
      took_first = h.took_first;
      took_second = (h.took_second.0, spending_looks Keeps Wanted opcode other (stateP first) (stateQ second) h.took_second.0 h.took_second.1, h.took_second.2);
      same = h.first_keeps;
      causes = causes;
      unread = unread;
    }

  -- after a part of the phase
  module _ (bothP : TakesBoth tookP) (bothQ : TakesBoth tookQ) (first mid first' : P) (second halfway second' : Q)
      (h : Progress stateP tookP stateQ tookQ Keeps Wanted opcode first mid second halfway) where
    pub goes_on : Progress stateP tookP stateQ tookQ Keeps Wanted opcode mid first' halfway second' → Progress stateP tookP stateQ tookQ Keeps Wanted opcode first first' second second'
    goes_on g = record {
      took_first = asking_more tookP bothP first mid first' h.took_first g.took_first;
      took_second = took_spent Keeps Wanted opcode stateQ tookQ bothQ (stateP first) (stateP mid) second halfway second' h.same h.goes h.took_second g.took_second;
      same = g.same ∙ h.same;
      goes = λ a b ea eb keeps. let (b1, e1, k1) = h.goes a b ea eb keeps in g.goes a b1 (h.same ∙ ea) e1 k1;
    }

    pub fails_on : TellsTook stateP tookP → TellsTook stateQ tookQ → (e : MirrorError) → Failure stateP tookP stateQ tookQ Keeps Wanted opcode mid first' halfway second' e
        → Failure stateP tookP stateQ tookQ Keeps Wanted opcode first first' second second' e
    fails_on tellsP tellsQ e g = record {
      took_first = asking_more tookP bothP first mid first' h.took_first g.took_first;
      took_second = took_spending Keeps Wanted opcode stateQ tookQ bothQ (stateP first) (stateP mid) second halfway second' h.same h.goes h.took_second g.took_second;
      same = g.same ∙ h.same;
      causes = cause_later (stateP first) (stateP mid) (stateP first') (stateQ second) (stateQ halfway) (stateQ second') h.took_first.0 h.took_second.0 e
          (tellsP first h.took_first.0 mid h.took_first.2) (tellsQ second h.took_second.0 halfway h.took_second.2) g.causes;
      unread = λ a b ea eb keeps. let (b1, e1, k1) = h.goes a b ea eb keeps in g.unread a b1 (h.same ∙ ea) e1 k1;
    }

-- ---- a page of visits

module _ {P Q : Type 0} (stateP : P → PortState) (tookP : P → List Command → P → Type 0) (stateQ : Q → PortState) (tookQ : Q → List Command → Q → Type 0)
    (Keeps : Map → Map → Type 0) (Wanted : Map → Map → Key → Type 0) (opcode : ℕ) where
  pub no_progress : (first : P) (second : Q) → tookP first [] first → tookQ second [] second → Progress stateP tookP stateQ tookQ Keeps Wanted opcode first first second second
  no_progress first second p q = record {
    took_first = asking_none tookP first p;
    took_second = ([], spent_none Keeps Wanted opcode (stateP first) (stateQ second), q);
    same = refl;
    goes = λ a b ea eb keeps. (b, eb, keeps);
  }

  -- at any exit
  pub any_exit : {X : Type 0} → TellsTook stateQ tookQ → (first first' : P) (second second' : Q) (r : Result X MirrorError)
      → OnOk r (Progress stateP tookP stateQ tookQ Keeps Wanted opcode first first' second second')
      → IfErr r (Failure stateP tookP stateQ tookQ Keeps Wanted opcode first first' second second')
      → ((stateP first').map ≡ (stateP first).map) × TookSome tookP AreAsking first first' × TookSome tookQ (Spending Keeps Wanted opcode (stateP first) (stateQ second)) second second'
  any_exit tells first first' second second' (Ok x) h g = (h.same, h.took_first, took_settled Keeps Wanted opcode stateQ tookQ tells (stateP first) second second' h.took_second)
  any_exit tells first first' second second' (Err e) h g = (g.same, g.took_first, g.took_second)

  module _ (Done : Map → Map → Key → Type 0) where
    -- These keys were visited, from two ports on to two others.
    pub record IsVisiting (first first' : P) (second second' : Q) (keys : List Key) : Type 0 where
      pub progress : Progress stateP tookP stateQ tookQ Keeps Wanted opcode first first' second second'
      pub visits : Visits Keeps Done (stateP first) (stateQ second) (stateQ second') keys

    pub visiting_begins : (first : P) (second : Q) → tookP first [] first → tookQ second [] second → IsVisiting first first second second []
    visiting_begins first second p q = record { progress = no_progress first second p q; visits = visits_none Keeps Done (stateP first) (stateQ second) }

    pub visiting_goes : TakesBoth tookP → TakesBoth tookQ → (first mid first' : P) (second halfway second' : Q) (keys : List Key) (k : Key) (more : List Key)
        → IsVisiting first mid second halfway keys → Progress stateP tookP stateQ tookQ Keeps Wanted opcode mid first' halfway second'
        → Visits Keeps Done (stateP mid) (stateQ halfway) (stateQ second') (k ∷ []) → more ≡ keys ++ k ∷ [] → IsVisiting first first' second second' more
    visiting_goes bothP bothQ first mid first' second halfway second' keys k more h g visits is = record {
      progress = goes_on bothP bothQ first mid first' second halfway second' h.progress g;
      visits = subst (Visits Keeps Done (stateP first) (stateQ second) (stateQ second')) (sym is)
          (visits_more Keeps Done (stateP first) (stateP mid) (stateQ second) (stateQ halfway) (stateQ second') keys (k ∷ []) h.progress.same h.visits visits);
    }

    -- all of them
    pub visiting_all : (first first' : P) (second second' : Q) (keys all : List Key) → keys ≡ all
        → IsVisiting first first' second second' keys → Visits Keeps Done (stateP first) (stateQ second) (stateQ second') all
    visiting_all first first' second second' keys all is h = subst (Visits Keeps Done (stateP first) (stateQ second) (stateQ second')) is h.visits
