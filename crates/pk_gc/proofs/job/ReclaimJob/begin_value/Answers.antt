use Rattle.std.proofs.Common.{◌≡◌, ℕ, List, [], ◌++◌, length, take, drop, sym, ap, subst, ◌∙◌, Result, Ok}
use Rattle.std.proofs.Math.Seq.{take-append_seam}
use Rattle.pk_base.{specs.Key.Key, specs.Shape.Shape, specs.Page.Flash, specs.Page.page_at, specs.Page.whole}
use Rattle.pk_nand.specs.BoardState.{BoardState}
use Rattle.pk_segfmt.{specs.Head.IsHead, specs.Value.head_bytes}
use Rattle.pk_seg.specs.Stored.{HasHead}
use Rattle.pk_gc.{specs.declared.course.Phase.TheVariants.Copies, specs.State.JobState, specs.Running.IsRunning, specs.Asking.begun_course, specs.Asking.begun_moves, proofs.Copying.begin_runs}
use Rattle.pk_gc.proofs.job.ReclaimJob.begin_value.Goals as goal

-- the head at the start of the page that was read
found_head : (shape : Shape) (flash : Flash) (page : ℕ) (key : Key) (len : ℕ) (bytes : List ℕ)
    → HasHead shape flash page key len → page_at flash page ≡ whole bytes
    → take 32 bytes ≡ head_bytes key len
found_head shape flash page key len bytes has read =
    let same : bytes ≡ has.bytes = (let w = sym read ∙ has.here in cc) in
    ap (λ (xs : List ℕ). take 32 xs) same ∙ has.front

ok_is : {X E : Type 0} (r : Result X E) (x y : X) → r ≡ Ok x → r ≡ Ok y → x ≡ y
ok_is r x y is too = cc

pub returns-in-Ok-head-clause-reads : goal.returns-in-Ok-head-clause-reads
returns-in-Ok-head-clause-reads g c =
    let job = c.args.self.now in
    let old = g.B.Nand.state c.args.board.now in
    let buf = c.read_page.new.buf in
    let size : c.self.inside.page.len ≡ length buf =
    sym (c.read_page.auto.buf ∙ c.deref_mut.ensures.len) in
    let bytes : take c.self.inside.page.len (buf ++ drop (length buf) c.self.inside.page.items) ≡ buf =
    ap (λ (n : ℕ). take n (buf ++ drop (length buf) c.self.inside.page.items)) size
    ∙ take-append_seam _ _ in
    let page : c.push.new.self.page ≡ buf = ap (λ (s : JobState). s.page) c.push.ensures ∙ bytes in
    record {
      job_is = λ es key place next.
          let found =
          found_head job.shape old.pages c.args.page key place.len buf next.head c.in-Ok.ensures.bytes in
          let is_head : IsHead c.self.inside.shape key place.len =
          subst (λ (s : JobState). IsHead s.shape key place.len) (sym c.self.view_is) next.head.is_head in
          let front : take 32 c.deref.result.now ≡ head_bytes key place.len =
          ap (λ (xs : List ℕ). take 32 xs) (c.deref.ensures.value ∙ bytes) ∙ found in
          let same : c.in-Ok-head.found ≡ record { key = key; len = place.len } =
          ok_is c.head.result _ _ c.in-Ok-head.is (c.head.ensures.only key place.len is_head front) in
          c.push.ensures ∙ (λ i. record {
            shape = (c.self.view_is i).shape;
            phase = Copies (begun_course c.args.course (c.self.view_is i).shape c.args.page (same i).len);
            moves = begun_moves c.args.course (c.self.view_is i) c.args.page (same i).key (same i).len;
            entries = [];
            page = sym (ap (λ (s : JobState). s.page) c.push.ensures) i;
          });
      board = c.in-Ok.ensures.ok;
      runs = λ es key place runs next.
          let done =
          begin_runs job.shape c.args.course old.pages es c.args.page key place next c.requires.may.whole job.moves job.page buf runs c.in-Ok.ensures.bytes in
          let c' = begun_course c.args.course job.shape c.args.page place.len in
          let ms = begun_moves c.args.course job c.args.page key place.len in
          rw page (subst (λ (b : BoardState). IsRunning job.shape c' ms buf b.pages es) (sym c.in-Ok.ensures.ok) done);
    }
