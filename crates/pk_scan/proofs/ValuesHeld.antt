-- Values that were accepted one after another, as the reading of a flash has them, and how many pages are read for them.
use Rattle.std.proofs.Common.{◌≡◌, ℕ, suc, ◌+◌, ◌-◌, ◌*◌, ◌≤◌, List, [], ◌∷◌, ◌++◌, length, refl, sym, ap, subst, ◌∙◌, arith, Option, Some, None, Result, Ok, Err, append-nil, append_assoc}
use Rattle.std.proofs.Common.{length-append}
use Rattle.std.{specs.List.AllByRecursion, proofs.Math.Nat.mul-le-mul_right}
use Rattle.pk_base.{specs.Key.Key, specs.Shape.Shape, specs.Shape.IsShape, specs.Shape.charge, specs.Shape.limit, specs.Shape.dense, specs.Shape.data_blocks, specs.EntryChecks.IsPlace, proofs.Logic.of_true}
use Rattle.pk_base.{specs.Entry.Entry, specs.Entry.Place, specs.declared.entry.Entry.Entry as RustEntry, specs.declared.entry.Entry.TheVariants.Put, specs.declared.entry.Entry.TheVariants.Gone}
use Rattle.pk_base.{specs.Page.Flash, specs.Page.page_at, specs.Refusal.Refusal, specs.Refusal.damaged, specs.Refusal.◌>>=◌}
use Rattle.pk_pin.specs.Frames.{Frames}
use Rattle.pk_run.specs.Kept.{Kept}
use Rattle.pk_walk.{specs.Visible.visible, specs.Visible.is_wanted, specs.Visible.wanted, proofs.Seeking.one_of_each}
use Rattle.pk_walk.specs.Walking.{Walk, IsLeft, WalkGives, ReadsAll, SkipsNone, pages_read, most_read}
use Rattle.pk_model.{proofs.ValueSets.fits_parts, specs.Values.all_pages, specs.Values.fits, specs.Values.fits_after, specs.Values.values_of}
use Rattle.pk_scan.{proofs.Boards.reads_both, proofs.Boards.reads_if, proofs.Boards.reads_sum, proofs.Boards.counted_behind, specs.Used.IsUseOf, proofs.Using.use_of_none, specs.Accepted.Accepted}
use Rattle.pk_scan.{specs.Accepted.NotAccepted, specs.Opening.OnlyReads, specs.OpeningParts.PartNotOpened, specs.OpeningParts.opening_of, specs.Reads.value_reads, specs.Taken.TakesValues}
use Rattle.pk_scan.specs.declared.errors.PageError.{PageError}
use Rattle.pk_scan.specs.declared.errors.PageError.TheVariants.{Damaged, Fault}
use Rattle.pk_live.{specs.Values.Values, specs.Lives.Lives}
use Rattle.pk_space.specs.Uses.{Use, nothing_used}
use Rattle.pk_nand.{specs.BoardState.BoardState, specs.Counts.after_reads}
use Rattle.pk_law_steps.proofs.Outputs.{values_most}

-- a value of n bytes begins at this page
abbrev pub place : ℕ → ℕ → Place
place page len = record { page = page; len = len }

abbrev pub Found : Type 0
Found = List (Key × List ℕ)

abbrev pub behind : Found → Result Found Refusal → Result Found Refusal
behind front others = others >>= (λ vs. Ok (front ++ vs))

abbrev ok_found : Found → Result Found Refusal
ok_found vs = Ok vs

behind_one : (front : Found) (v : Key × List ℕ) (others : Result Found Refusal) → behind front (others >>= (λ vs. Ok (v ∷ vs))) ≡ behind (front ++ v ∷ []) others
behind_one front v (Ok vs) = ap ok_found (sym (append_assoc front (v ∷ []) vs))
behind_one front v (Err e) = refl

behind_none : (others : Result Found Refusal) → others ≡ behind [] others
behind_none (Ok vs) = refl
behind_none (Err e) = refl

none_left : (shape : Shape) (flash : Flash) (limits named : List ℕ) (taken : List (Key × Place)) → values_of shape (page_at flash) limits named taken [] ≡ Ok []
unfolding values_of
none_left shape flash limits named taken = refl

few_blocks : (shape : Shape) → IsShape shape → data_blocks shape ≤ 4096
unfolding data_blocks
few_blocks shape is = let most = is.blocks_most in omega (arith, most)

pub limit_few : (shape : Shape) → IsShape shape → limit shape ≤ 1048576
unfolding limit
limit_few shape is =
    let few = few_blocks shape is in
    let pages = is.block_most in
    let part : dense shape ≤ 256 = omega (arith, pages) in
    let product : (data_blocks shape - 1) * dense shape ≤ 4096 * dense shape = mul-le-mul_right (dense shape) (omega (arith, few)) in
    omega (arith, product, part)

-- the pages of one more value
reads_one_more : (shape : Shape) (es : List (Key × Place)) (key : Key) (at : Place) → value_reads shape (es ++ (key, at) ∷ []) ≡ value_reads shape es + charge shape at.len
reads_one_more shape [] key at = omega arith
reads_one_more shape (e ∷ es) key at = let rest = reads_one_more shape es key at in omega (arith, rest)

-- If no page is skipped: those that the walk has passed since its start were read, and those of these values.
abbrev pub HaveRead : Shape → List Kept → Walk → Walk → List (Key × Place) → BoardState → BoardState → Type 0
HaveRead shape runs start walk taken old now =
    SkipsNone start → SkipsNone walk × (n : ℕ) × (n + pages_read runs start.cursors ≡ pages_read runs walk.cursors) × (now ≡ after_reads (n + value_reads shape taken) old)

-- ---- the walk over them

-- This many values were taken of those that the walk had at its start: it still has the rest to return, and the reading goes on with it.
pub record TakenTo (shape : Shape) (arena : Frames) (runs : List Kept) (active frozen : List Entry) (limits named : List ℕ)
    (start walk : Walk) (live : Values) (u : Use) (old now : BoardState) (k : ℕ) : Type 0 where
  pub es : List (Key × Place)
  pub taken : List (Key × Place)
  pub rest : List (Key × Place)
  pub front : Found
  pub starts : IsLeft start old.pages arena runs active frozen es
  pub split : taken ++ rest ≡ es
  pub all : AllByRecursion (λ e. IsPlace shape e.1) rest
  pub lives : Lives shape named live taken
  pub goes : values_of shape (page_at old.pages) limits named [] es ≡ behind front (values_of shape (page_at old.pages) limits named taken rest)
  pub uses : IsUseOf shape u taken
  pub left : IsLeft walk old.pages arena runs active frozen rest
  pub many : length taken ≡ k
  pub read : HaveRead shape runs start walk taken old now

pub TakenTo-start : {shape : Shape} {arena : Frames} {runs : List Kept} {active frozen : List Entry} {limits named : List ℕ} {start : Walk} {live : Values} {u : Use} {old : BoardState}
    → (es : List (Key × Place)) → IsLeft start old.pages arena runs active frozen es → AllByRecursion (λ e. IsPlace shape e.1) es → Lives shape named live [] → u ≡ nothing_used
    → TakenTo shape arena runs active frozen limits named start start live u old old 0
TakenTo-start {shape} {limits = limits} {named = named} {u = u} {old = old} es left all lives unused = record {
  es = es;
  taken = [];
  rest = es;
  front = [];
  starts = left;
  split = refl;
  all = all;
  lives = lives;
  goes = behind_none (values_of shape (page_at old.pages) limits named [] es);
  uses = use_of_none shape u unused;
  left = left;
  many = refl;
  read = λ none. (none, 0, omega arith, refl);
}

left_one : {flash : Flash} {arena : Frames} {runs : List Kept} {active frozen : List Entry} {w : Walk} {xs ys : List (Key × Place)}
    → IsLeft w flash arena runs active frozen xs → IsLeft w flash arena runs active frozen ys → xs ≡ ys
left_one {flash} {arena} {runs} {active} {frozen} {w} a b =
    a.is ∙ ap (λ (ess : List (List Entry)). wanted (is_wanted w.position) (visible (active ∷ frozen ∷ ess))) (one_of_each flash arena runs a.ess b.ess a.stand b.stand) ∙ sym b.is

-- what an answer of the walk says of what remained
pub gives_put : (key : Key) (page len : ℕ) (rest later : List (Key × Place)) → WalkGives (Some (Put key page len)) rest later → rest ≡ (key, place page len) ∷ later
gives_put key page len [] later g = let none : ◌≡◌ {A = Option RustEntry} (Some (Put key page len)) None = g.0 in cc
gives_put key page len (x ∷ rest) later g =
    let same_key : key ≡ x.0 = ap (λ (e : Entry). e.0) g.0 in
    let some : ◌≡◌ {A = Option Place} (Some (place page len)) (Some x.1) = ap (λ (e : Entry). e.1) g.0 in
    let same_place : place page len ≡ x.1 = cc in
    λ i. (sym same_key i, sym same_place i) ∷ sym g.1 i

pub gives_gone : (key : Key) (rest later : List (Key × Place)) → WalkGives (Some (Gone key)) rest later → ⊥
gives_gone key [] later g = let none : ◌≡◌ {A = Option RustEntry} (Some (Gone key)) None = g.0 in cc
gives_gone key (x ∷ rest) later g = let some : ◌≡◌ {A = Option Place} None (Some x.1) = ap (λ (e : Entry). e.1) g.0 in cc

pub gives_none : (rest later : List (Key × Place)) → WalkGives None rest later → rest ≡ []
gives_none [] later g = refl
gives_none (x ∷ rest) later g = absurd g

module _ {shape : Shape} {arena : Frames} {runs : List Kept} {active frozen : List Entry} {limits named : List ℕ} {start walk : Walk} {live : Values} {u : Use} {old now : BoardState} {k : ℕ}
    (t : TakenTo shape arena runs active frozen limits named start walk live u old now k) where
  abbrev left_after : Walk → Flash → List (Key × Place) → Type 0
  left_after w f rest = IsLeft w f arena runs active frozen rest

  abbrev reading_from : List (Key × Place) → List (Key × Place) → Result Found Refusal
  reading_from taken rest = values_of shape (page_at old.pages) limits named taken rest

  pub few_taken : IsShape shape → k ≤ limit shape
  few_taken is =
      let parts = fits_parts shape named (all_pages shape t.taken) (of_true (fits shape named (all_pages shape t.taken)) t.lives.placed_well) in
      let few = parts.few in
      let some = values_most shape is t.taken in
      let many = t.many in
      omega (arith, few, some, many)

  module _ (walk' : Walk) (before after : Flash) (same : before ≡ old.pages) where
    here : left_after walk before t.rest
    here = subst (λ (f : Flash). left_after walk f t.rest) (sym same) t.left

    pub put_next : (key : Key) (page len : ℕ) → after ≡ old.pages
        → ((rest : List (Key × Place)) → left_after walk before rest → (later : List (Key × Place)) × WalkGives (Some (Put key page len)) rest later × left_after walk' after later)
        → (later : List (Key × Place)) × (t.rest ≡ (key, place page len) ∷ later) × left_after walk' old.pages later
    put_next key page len still gives = let g = gives t.rest here in (g.0, gives_put key page len t.rest g.0 g.1, subst (λ (f : Flash). left_after walk' f g.0) still g.2)

    pub gone_next : (key : Key)
        → ((rest : List (Key × Place)) → left_after walk before rest → (later : List (Key × Place)) × WalkGives (Some (Gone key)) rest later × left_after walk' after later) → ⊥
    gone_next key gives = let g = gives t.rest here in gives_gone key t.rest g.0 g.1

    pub none_next : ((rest : List (Key × Place)) → left_after walk before rest → (later : List (Key × Place)) × WalkGives None rest later × left_after walk' after later) → t.rest ≡ []
    none_next gives = let g = gives t.rest here in gives_none t.rest g.0 g.1

  -- the walk went on
  walked : (walk' : Walk) (mid : BoardState) → (SkipsNone walk → SkipsNone walk')
      → (SkipsNone walk → ReadsAll (pages_read runs walk.cursors) (pages_read runs walk'.cursors) now mid) → HaveRead shape runs start walk' t.taken old mid
  walked walk' mid skips every none =
      let far = t.read none in
      let own = every far.0 in
      let count : own.0 + (far.1 + value_reads shape t.taken) ≡ own.0 + far.1 + value_reads shape t.taken = omega arith in (
        skips far.0,
        own.0 + far.1,
        (let h = own.1 in let e = far.2 in omega (arith, h, e)),
        reads_sum old now mid (far.1 + value_reads shape t.taken) own.0 (own.0 + far.1 + value_reads shape t.taken) count far.3 own.2,
      )

  -- ---- after the last of them

  module _ (none : t.rest ≡ []) (es : List (Key × Place)) (left : left_after start old.pages es) where
    all_taken : t.taken ≡ es
    all_taken = sym (append-nil t.taken) ∙ ap (λ (xs : List (Key × Place)). t.taken ++ xs) (sym none) ∙ t.split ∙ left_one t.starts left

    -- all were taken
    pub takes_all : TakesValues shape old.pages limits named live u k es
    takes_all = record {
      values = record {
        values = t.front;
        read = ap (reading_from []) (sym (left_one t.starts left)) ∙ t.goes ∙ ap (λ (xs : List (Key × Place)). behind t.front (reading_from t.taken xs)) none
            ∙ ap (behind t.front) (none_left shape old.pages limits named t.taken) ∙ ap ok_found (append-nil t.front);
        lives = subst (Lives shape named live) all_taken t.lives;
      };
      uses = subst (IsUseOf shape u) all_taken t.uses;
      keys_are = sym t.many ∙ ap length all_taken;
    }

    -- and all pages of the runs and of the values were read
    pub all_read : (walk' : Walk) (mid : BoardState) → (SkipsNone walk → SkipsNone walk') → (SkipsNone walk → ReadsAll (pages_read runs walk.cursors) (pages_read runs walk'.cursors) now mid)
        → (SkipsNone walk → pages_read runs walk'.cursors ≡ most_read runs) → SkipsNone start → pages_read runs start.cursors ≡ 0 → mid ≡ after_reads (most_read runs + value_reads shape es) old
    all_read walk' mid skips every ended first nothing =
        let far = walked walk' mid skips every first in
        let end = ended (t.read first).0 in
        let count : far.1 + value_reads shape t.taken ≡ most_read runs + value_reads shape es = (let e = far.2 in let own = ap (value_reads shape) all_taken in omega (arith, e, end, nothing, own)) in
        far.3 ∙ ap (λ (n : ℕ). after_reads n old) count

  -- ---- one more

  module _ (key : Key) (p : Place) (later : List (Key × Place)) (split : t.rest ≡ (key, p) ∷ later) where
    pub place_next : IsPlace shape p
    place_next = (subst (AllByRecursion (λ e. IsPlace shape e.1)) split t.all).0

    pub TakenTo-next : (walk' : Walk) (live' : Values) (u' : Use) (mid new : BoardState) → (SkipsNone walk → SkipsNone walk')
        → (SkipsNone walk → ReadsAll (pages_read runs walk.cursors) (pages_read runs walk'.cursors) now mid) → left_after walk' old.pages later → mid.pages ≡ old.pages
        → Accepted shape mid.pages limits named t.taken key p → Lives shape named live' (t.taken ++ (key, p) ∷ []) → IsUseOf shape u' (t.taken ++ (key, p) ∷ [])
        → new ≡ after_reads (charge shape p.len) mid → TakenTo shape arena runs active frozen limits named start walk' live' u' old new (k + 1)
    TakenTo-next walk' live' u' mid new skips every left still accepted lives uses ok =
        let a = subst (λ (f : Flash). Accepted shape f limits named t.taken key p) still accepted in
        let now_taken : List (Key × Place) = t.taken ++ (key, p) ∷ [] in
        record {
          es = t.es;
          taken = now_taken;
          rest = later;
          front = t.front ++ (key, a.value) ∷ [];
          starts = t.starts;
          split = append_assoc t.taken ((key, p) ∷ []) later ∙ ap (λ (xs : List (Key × Place)). t.taken ++ xs) (sym split) ∙ t.split;
          all = (subst (AllByRecursion (λ e. IsPlace shape e.1)) split t.all).1;
          lives = lives;
          goes = t.goes ∙ ap (λ (xs : List (Key × Place)). behind t.front (reading_from t.taken xs)) split
              ∙ ap (behind t.front) (a.goes_on later) ∙ behind_one t.front (key, a.value) (reading_from now_taken later);
          uses = uses;
          left = left;
          many = let more = length-append t.taken ((key, p) ∷ []) in let many = t.many in omega (arith, more, many);
          read = λ none.
              let far = walked walk' mid skips every none in
              let more = reads_one_more shape t.taken key p in
              let count : charge shape p.len + (far.1 + value_reads shape t.taken) ≡ far.1 + value_reads shape now_taken = omega (arith, more) in
              (far.0, far.1, far.2, reads_sum old mid new (far.1 + value_reads shape t.taken) (charge shape p.len) (far.1 + value_reads shape now_taken) count far.3 ok);
        }

    pub TakenTo-refused : (mid new : BoardState) (e : PageError) → OnlyReads old mid → mid.pages ≡ old.pages → NotAccepted shape mid new limits named t.taken key p e
        → (es : List (Key × Place)) → left_after start old.pages es → PartNotOpened (reading_from [] es) old new (opening_of e)
    TakenTo-refused mid new (Damaged page) reads still why es left = (
      ap (reading_from []) (sym (left_one t.starts left)) ∙ t.goes ∙ ap (λ (xs : List (Key × Place)). behind t.front (reading_from t.taken xs)) split
          ∙ ap (behind t.front) (subst (λ (f : Flash). values_of shape (page_at f) limits named t.taken ((key, p) ∷ later) ≡ Err (damaged page)) still (why.refusal later)),
      reads_both old mid new reads (reads_if (fits_after shape limits named t.taken (key, p)) (suc (page - p.page)) mid new why.board),
    )
    TakenTo-refused mid new Fault reads still why es left = counted_behind old mid new reads (why.1.reads.flash, why.1.reads.read)
