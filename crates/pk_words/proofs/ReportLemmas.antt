-- The lines of a Report one after another.
use Rattle.std.proofs.Common.{◌≡◌, inl, inr, ℕ, ◌+◌, ◌*◌, ◌≤◌, ◌<◌, List, [], ◌∷◌, ◌++◌, length, drop, slice_index_or, replicate, Err, refl, sym, ap, subst, ◌∙◌, arith, append_assoc, add-one}
use Rattle.std.{proofs.Math.Seq.drop-cons, proofs.lemmas.List.append-nil, proofs.lemmas.List.drop_all}
use Rattle.pk_base.specs.Fields.{u32_at}
use Rattle.pk_nvme.specs.Bytes.{RoomyList}
use Rattle.pk_host.{specs.declared.types.HostError.HostError, specs.declared.types.HostError.TheVariants.Refused, specs.Port.PortState}
use Rattle.pk_host.{specs.Calls.report, specs.Outcomes.stored, specs.Outcomes.Gives, specs.Outcomes.IsCause, specs.Outcomes.IsRefusal, specs.Outcomes.Numbers, specs.Outcomes.Leaves}
use Rattle.pk_host.proofs.ReportLemmas.{report_leaves}
use Rattle.pk_words.{specs.Lines.number_line, specs.Lines.number_lines, specs.Lines.report_names, specs.Lines.report_lines, specs.Lines.status_line, specs.Says.SaysNumbers, specs.Said.Said}

-- the lines so far, and those of the numbers that remain
pub record AreCounted (numbers : List ℕ) (text initial : RoomyList) (i : ℕ) : Type 0 where
  pub lines : text.items ++ number_lines (drop i report_names) numbers (4 * i) ≡ report_lines numbers
  pub room : text.room ≡ initial.room
  pub most : length text.items ≤ 18 * i

names_are : length report_names ≡ 16
unfolding report_names
names_are = refl

pub counted_more : (numbers : List ℕ) (text next initial : RoomyList) (i : ℕ) (name : List ℕ) → i < 16 → AreCounted numbers text initial i → name ≡ slice_index_or report_names i []
    → next ≡ record text { items = text.items ++ number_line name (u32_at numbers (4 * i)) } → length next.items ≤ length text.items + 18 → AreCounted numbers next initial (i + 1)
counted_more numbers text next initial i name less h is added short =
    let at : 4 * (i + 1) ≡ 4 * i + 4 = omega arith in
    let line : List ℕ = number_line (slice_index_or report_names i []) (u32_at numbers (4 * i)) in
    let rest : List ℕ = number_lines (drop (i + 1) report_names) numbers (4 * i + 4) in
    let split : drop i report_names ≡ slice_index_or report_names i [] ∷ drop (i + 1) report_names = rw add-one (drop-cons report_names i [] (omega (arith, less, names_are))) in
    record {
      lines =
          ap (λ (n : ℕ). next.items ++ number_lines (drop (i + 1) report_names) numbers n) at
          ∙ ap (λ (t : RoomyList). t.items ++ rest) added
          ∙ ap (λ (n : List ℕ). (text.items ++ number_line n (u32_at numbers (4 * i))) ++ rest) is
          ∙ append_assoc text.items line rest
          ∙ ap (λ (ns : List (List ℕ)). text.items ++ number_lines ns numbers (4 * i)) (sym split)
          ∙ h.lines;
      room = ap (λ (t : RoomyList). t.room) added ∙ h.room;
      most = omega (arith, h.most, short);
    }

same_text : (text initial : RoomyList) (items : List ℕ) → text.items ≡ items → text.room ≡ initial.room → text ≡ record initial { items = items }
same_text text initial items e f = λ i. record { items = e i; room = f i }

pub counted_all : (numbers : List ℕ) (text initial : RoomyList) (i : ℕ) → i ≡ 16 → AreCounted numbers text initial i → text ≡ record initial { items = report_lines numbers }
counted_all numbers text initial i last there =
    let h = subst (λ (n : ℕ). AreCounted numbers text initial n) last there in
    let behind : drop 16 report_names ≡ [] = drop_all 16 report_names (omega (arith, names_are)) in
    let items : text.items ≡ report_lines numbers = sym (append-nil text.items) ∙ ap (λ (ns : List (List ℕ)). text.items ++ number_lines ns numbers 64) (sym behind) ∙ h.lines in
    same_text text initial (report_lines numbers) items h.room

-- ---- what is said

module _ (old new : PortState) where
  pub said_numbers : (numbers text : List ℕ) → Numbers old numbers → Leaves old new (λ m. m) → text ≡ report_lines numbers → Said SaysNumbers old new text
  said_numbers numbers text read leaves spelled m told =
      let (frames, frames_is, own, eleven, bytes) = read m told in record {
        frames = frames;
        frames_is = frames_is;
        left = m;
        says = record {
          same = refl;
          own = own;
          eleven = eleven;
          found = inl (spelled ∙ ap report_lines bytes);
        };
        told = leaves m told;
      }

  pub refused_numbers : (error : HostError) (status : ℕ) (text : List ℕ) → error ≡ Refused status → Gives old new report stored (Err error) → IsCause old new stored error → text ≡ status_line status
      → Said SaysNumbers old new text
  refused_numbers error status text is (inr fault) cause spelled m told = absurd (cc (is, fault.0))
  refused_numbers error status text is (inl (a, x, e)) cause spelled m told =
      let s = x.answers m told in
      let refusal : IsRefusal old new stored status = subst (λ (f : HostError). IsCause old new stored f) is cause in
      let read = refusal.told m told in record {
        frames = s.frames;
        frames_is = s.frames_is;
        left = m;
        says = record {
          same = refl;
          own = replicate 11 0;
          eleven = refl;
          found = inr (refusal.unread read, spelled ∙ ap status_line read);
        };
        told = report_leaves old new a x m told;
      }
