-- The numbers of a Report.
use Rattle.std.proofs.Common.{◌≡◌, inl, ℕ, ◌≤◌, List, [], ◌∷◌, length, take, false, ◌==◌, if◌then◌else◌, Some, None, Ok, Err, refl, sym, ap, ◌∙◌, arith}
use Rattle.std.{proofs.lemmas.List.length-take-le, proofs.lemmas.List.take_all, specs.FinMap.len as len_of}
use Rattle.pk_base.{specs.Map.live, specs.Shape.pinned}
use Rattle.pk_nvme.{specs.Reply.Reply, specs.declared.opcode.Opcode.TheVariants.Report}
use Rattle.pk_model.specs.Answer.{report_bytes}
use Rattle.pk_host.{specs.declared.types.HostError.TheVariants.Refused, specs.Port.PortState, specs.Port.Replies, specs.Calls.report, proofs.CallLemmas.leaves_map, proofs.DataLemmas.length-numbers}
use Rattle.pk_host.specs.Outcomes.{stored, Gives, IsRefusal, Numbers, Leaves}
use Rattle.pk_host.proofs.CommandLemmas.{success_served, only_fault, report_by}

whole : (len : ℕ) (into bytes : List ℕ) → length into ≡ 64 → len ≤ length into → take len into ≡ bytes → length bytes ≡ 64 → into ≡ bytes
whole len into bytes sized fits e all =
    let n : len ≡ 64 = sym (length-take-le len into fits) ∙ ap (λ (xs : List ℕ). length xs) e ∙ all in
    sym (take_all len into (omega (arith, n, sized))) ∙ e

module _ (old new : PortState) (a : Reply) (x : Replies old new report a) where
  pub report_numbers : (into : List ℕ) (len : ℕ) → a.status ≡ 0 → length into ≡ 64 → len ≤ length into → a.data_bytes ≡ take len into → Numbers old into
  report_numbers into len zero sized fits front m told =
      let s = x.answers m told in
      let served = success_served old.shape old.limit s.frames m report Report refl s.within.alone a s.left refl
      (λ e. let clash : None ≡ Some 0 = sym (report_by old.shape old.limit m) ∙ e in cc) zero s.stepped in
      let bytes = report_bytes old.shape old.limit s.frames m served.own in
      let all : length bytes ≡ 64 = omega (arith, length-numbers (live old.shape m ∷ old.limit ∷ len_of m ∷ pinned old.shape s.frames ∷ s.frames ∷ served.own), served.eleven) in
      (s.frames, s.frames_is, served.own, served.eleven, whole len into bytes sized fits (sym front ∙ ap (λ (r : Reply). r.data_bytes) served.replied) all)

  pub report_leaves : Leaves old new (λ m. m)
  report_leaves = leaves_map old new report Report a refl (λ m. refl) x

  pub report_done : a.status ≡ 0 → Gives old new report stored (Ok tt)
  report_done zero = inl (a, x, sym (ap (λ (n : ℕ). if n == 0 then Ok tt else Err (Refused a.status)) zero))

  pub report_refused : (a.status == 0) ≡ false → Gives old new report stored (Err (Refused a.status))
  report_refused z = inl (a, x, sym (ap (λ b. if b then Ok tt else Err (Refused a.status)) z))

  pub report_cause : (a.status == 0) ≡ false → IsRefusal old new stored a.status
  report_cause z = record {
    reply = a;
    refused = ap (λ b. if b then Ok tt else Err (Refused a.status)) z;
    unread = x.unread;
    told = λ m told. let s = x.answers m told in only_fault old.shape old.limit s.frames m report Report refl s.within.alone a s.left refl (report_by old.shape old.limit m) (λ own. refl) z s.stepped;
  }
