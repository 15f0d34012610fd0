-- What a call of the port in memory leaves, and what it answers.
use Rattle.std.proofs.Common.{◌≡◌, inr, inl, ℕ, ◌≤◌, ◌<◌, ◌^◌, refl, sym, ap, subst, ◌∙◌, arith, List, [], ◌∷◌, length, take, Option, Some, Result, Ok, Err, IfOk, OnErr}
use Rattle.pk_base.{specs.Shape.limit, specs.Map.Map}
use Rattle.pk_nvme.{specs.Command.Command, specs.Reply.Reply, specs.Reply.completion}
use Rattle.pk_model.{specs.Answer.map_after, specs.Machine.Machine, specs.Machine.Answers, specs.Machine.no_numbers, specs.Machine.replied, specs.Machine.machine_terms}
use Rattle.pk_model.specs.declared.answer.Answer.{Answer}
use Rattle.pk_host.{specs.Port.PortState, specs.Port.PortSteps, specs.Port.Replies, specs.Port.Completes, specs.Port.Took, specs.Port.room_of, specs.declared.types.Completed.Completed}
use Rattle.pk_host.{specs.Good.IsGood, specs.Good.IsHanded, proofs.LeftLemmas.good_left, proofs.DataLemmas.data_fit, proofs.DataLemmas.no_read_error}
use Rattle.pk_test_commands.specs.Memory.{seen}

module _ (old new : Machine) (faults : ℕ) (c : Command) (a : Answer) (h : Answers old new c a) where
  some_map : (m n : Map) → ◌≡◌ {A = Option Map} (Some m) (Some n) → m ≡ n
  some_map m n e = cc

  map_is : new.map ≡ map_after old.shape (limit old.shape ∷ []) old.map c
  map_is = ap (λ (x : Machine). x.map) h.map_is

  shape_is : new.shape ≡ old.shape
  shape_is = ap (λ (x : Machine). x.shape) h.map_is

  -- the machine afterwards is good again
  pub good_again : IsGood old → IsHanded c → IsGood new
  good_again good handed = subst IsGood (sym h.map_is) (good_left old.shape (limit old.shape) old.map c good handed)

  -- the data of the answer fit the buffer
  pub answer_fits : length a.bytes.items ≤ room_of c
  answer_fits = subst (λ (r : Reply). length r.data_bytes ≤ room_of c) (sym h.reply_is) (data_fit old.shape (machine_terms old.shape) old.map no_numbers refl c)

  pub replies_so : IsGood old → a.status < 256 → a.result < 2 ^ 32 → Replies (seen old faults) (seen new faults) c (replied a)
  replies_so good status field = record {
    status_size = status;
    result_size = field;
    answers = λ m told. subst (λ (x : Map). PortSteps (seen old faults) (seen new faults) c (replied a) x) (some_map old.map m told) (record {
      within = record { sized = good.sized; alone = good.alone; few = good.few };
      frames = 0;
      frames_is = tt;
      left = map_after old.shape (limit old.shape ∷ []) old.map c;
      stepped = inl (record { own = no_numbers; eleven = refl; replied = h.reply_is; leaves = refl });
      told = ap (λ (x : Map). Some x) map_is;
    });
    unread = λ e. absurd (no_read_error old.shape (machine_terms old.shape) old.map c (sym (ap (λ (r : Reply). r.status) h.reply_is) ∙ e));
  }

  pub took_one : Took (seen old faults) (seen new faults) (c ∷ [])
  took_one = record {
    shape = shape_is;
    limit = ap limit shape_is;
    port_faults = omega arith;
    read_faults = omega arith;
    untold = λ e. cc;
    told = λ m told. (new.map, refl, inr (map_is ∙ ap (λ (x : Map). map_after old.shape (limit old.shape ∷ []) x c) (some_map old.map m told)));
  }

-- the machine is good again, whether the command was answered or memory was missing
pub good_by : {E : Type 0} (old new : Machine) (c : Command) (r : Result Answer E) → IfOk r (λ a. Answers old new c a) → OnErr r (new ≡ old) → IsGood old → IsHanded c → IsGood new
good_by old new c (Ok a) ok err good handed = good_again old new 0 c a ok good handed
good_by old new c (Err e) ok err good handed = subst IsGood (sym err) good

-- the completion of an answer whose data are at the start of the buffer
pub completes_so : (old new : PortState) (c : Command) (a : Answer) (cid taken : ℕ) (done : Completed) (bytes into into' : List ℕ)
    → done.entry ≡ completion cid taken a.status a.result → done.data_len ≡ length bytes → cid ≡ c.cid → bytes ≡ a.bytes.items → length a.bytes.items ≤ length into
    → take (length bytes) into' ≡ bytes → length into' ≡ length into → Replies old new c (replied a) → Completes old new c done into'
completes_so old new c a cid taken done bytes into into' entry len same are room front size replies =
    let few : length bytes ≡ length a.bytes.items = ap (λ (xs : List ℕ). length xs) are in
    record {
      head = taken;
      reply = replied a;
      entry = entry ∙ ap (λ (n : ℕ). completion n taken a.status a.result) same;
      fits = omega (arith, len, few, room, size);
      front = sym are ∙ sym front ∙ ap (λ (n : ℕ). take n into') (sym len);
      replies = replies;
    }

-- a call for which memory was missing leaves all but the count
pub took_fault : (machine : Machine) (faults faults' : ℕ) (c : Command) → faults ≤ faults' → Took (seen machine faults) (seen machine faults') (c ∷ [])
took_fault machine faults faults' c up = record {
  shape = refl;
  limit = refl;
  port_faults = up;
  read_faults = omega arith;
  untold = λ e. cc;
  told = λ m told. (m, told, inl refl);
}
