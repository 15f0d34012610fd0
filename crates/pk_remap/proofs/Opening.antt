-- How a flash with spare blocks opens its image, and makes one.
use Rattle.std.proofs.Common.{◌≡◌, ◌≢◌, ℕ, ◌+◌, ◌-◌, Bool, true, false, List, [], replicate, refl, sym, ap, subst, ◌∙◌, arith, Option, Some, None}
use Rattle.std.specs.Prelude.{Result, Ok, Err, IsOk, IsErr, OnOk, OnErr, IfOk, IsSome, if◌then◌else◌, unwrap_or}
use Rattle.std.proofs.lemmas.Option.{same_Some}
use Rattle.pk_base.{specs.declared.shape.ShapeError.ShapeError, specs.Page.Flash, specs.Page.page_at, specs.Page.erased, specs.Page.IsFlash, specs.Mark.Mark}
use Rattle.pk_base.specs.declared.shape.ShapeError.TheVariants.{BadPage, BadBlock, TooLarge, TooSmall}
use Rattle.pk_base.specs.Shape.{Shape, IsShape, page_count, checked, deepest, meta_blocks, has_bad_page, has_bad_block, is_too_large, is_too_small}
use Rattle.pk_nand.{specs.BoardState.BoardState, specs.Calls.IsReady, specs.Calls.Rose, specs.Calls.Loaded, specs.Calls.LoadFailed, specs.Calls.Made, specs.Calls.MakeFailed}
use Rattle.pk_nand.specs.declared.types.LoadFault.{LoadFault}
use Rattle.pk_nand.specs.declared.types.LoadFault.TheVariants.{Fault, BadImage, Memory}
use Rattle.pk_remap.{specs.declared.counts.BoardCounts.BoardCounts, specs.declared.relocation.Relocation.Relocation as InMemory, specs.Counting.HasTable, specs.Logged.told}
use Rattle.pk_remap.{specs.Places.inner_shape, specs.Places.through_by, specs.declared.image.Image.Image, specs.declared.mark_log.MarkLog.MarkLog, proofs.Standing.shows}
use Rattle.pk_remap.{specs.Causes.LoadCause, specs.Causes.inner_is_bad, specs.Causes.MakeCause, specs.Causes.inner_fault, specs.Causes.not_allowed, proofs.Counting.newest_is}
use Rattle.pk_remap.specs.declared.image.Image.TheVariants.{Unknown, Missing, Unsure, Sure}
use Rattle.pk_remap.specs.Remapped.{outer_pages, with_refusal, without_spares, remap_board, is_open, open_shape}
use Rattle.pk_remap.proofs.Remapping.{board_with, opened, board_is, no_bool}
use Rattle.pk_remap.{specs.Answers.LoadAnswers, specs.Answers.MakeAnswers, proofs.Placing.whole_through}

-- ---- shapes

if_ok : (s : Shape) (a b c d : Bool) (r : Result Shape ShapeError) → r ≡ (if a then Err BadPage else if b then Err BadBlock else if c then Err TooLarge else if d then Err TooSmall else Ok s)
    → IfOk r (λ t. t ≡ s)
if_ok s true b c d r e = rw e tt
if_ok s false true c d r e = rw e tt
if_ok s false false true d r e = rw e tt
if_ok s false false false true r e = rw e tt
if_ok s false false false false r e = rw e refl

named : (s : Shape) (r : Result Shape ShapeError) → r ≡ checked s → IfOk r (λ t. t ≡ s)
unfolding checked
named s r e = if_ok s (has_bad_page s) (has_bad_block s) (is_too_large s) (is_too_small s) r e

-- the numbers that are accepted are their own shape
pub named_ok : (s t : Shape) → Ok t ≡ checked s → t ≡ s
named_ok s t e = named s (Ok t) e

-- a shape without its spares, and with them again
pub with_spares : (found outer : Shape) (spares : ℕ) → Ok outer ≡ checked (without_spares found spares) → IsShape outer → inner_shape outer spares ≡ found
with_spares found outer spares e shape =
    let is : outer ≡ without_spares found spares = named_ok (without_spares found spares) outer e in
    let blocks : outer.blocks ≡ found.blocks - (spares + 2) = ap (λ (s : Shape). s.blocks) is in
    let some = shape.data_fits in
    let all : outer.blocks + spares + 2 ≡ found.blocks = omega (arith, blocks, some) in
    (λ i. record { page_bytes = (is i).page_bytes; block_pages = (is i).block_pages; blocks = all i })

abbrev small : Shape
small = record { page_bytes = 512; block_pages = 16; blocks = 64 }

pub small_is : checked small ≡ Ok small
unfolding checked deepest meta_blocks
small_is = refl

-- ---- the board without a table

abbrev pub closed : Bool → Option (List Mark) → BoardCounts → Option (List ℕ) → Option (List ℕ) → BoardState
closed bare trail counts input posted = board_with None bare [] trail counts input posted

no_shape_is : {X : Type 0} (shape : Shape) → None ≡ Some shape → X
no_shape_is shape e = absurd cc

-- a board whose pages fit its shape is ready
ready_as : (board : BoardState) (shape own : Shape) → board.shape ≡ Some shape → IsFlash shape board.pages → Some shape ≡ Some own → IsReady board own
ready_as board shape own is flash e = record { shape_is = is ∙ e; flash = subst (λ (s : Shape). IsFlash s board.pages) (same_Some shape own e) flash }

module _ (bare : Bool) (trail : Option (List Mark)) (counts : BoardCounts) (input posted : Option (List ℕ)) where
  abbrev before : BoardState
  before = closed bare trail counts input posted

  pub load_refused : (fault : LoadFault) → LoadAnswers before (Err fault) (closed false trail (with_refusal fault counts) input posted)
  load_refused Fault = record {
    ok = tt;
    err = record { held = λ is. no_bool is; rest = refl };
    fault = λ e. omega arith;
    no_fault = λ other. absurd (other refl);
    ready = λ shape e. no_shape_is shape e;
    bad = λ at e. cc;
  }
  load_refused (BadImage at) = record {
    ok = tt;
    err = record { held = λ is. no_bool is; rest = refl };
    fault = λ e. cc;
    no_fault = λ other. refl;
    ready = λ shape e. no_shape_is shape e;
    bad = λ at' e. cc;
  }
  load_refused Memory = record {
    ok = tt;
    err = record { held = λ is. no_bool is; rest = refl };
    fault = λ e. cc;
    no_fault = λ other. refl;
    ready = λ shape e. no_shape_is shape e;
    bad = λ at e. cc;
  }

  pub load_none : counts.bad ≡ None → LoadAnswers before (Ok None) (closed true trail counts input posted)
  load_none none = record {
    ok = record {
      shape_is = refl;
      none_bad = none;
      ready = λ shape e. no_shape_is shape e;
      bare = λ e. refl;
      held = λ is. no_bool is;
      rest = refl;
    };
    err = tt;
    fault = λ e. cc;
    no_fault = λ other. refl;
    ready = λ shape e. no_shape_is shape e;
    bad = λ at e. cc;
  }

  pub load_opened : (shape : Shape) (pages : Flash) → counts.bad ≡ None → IsFlash shape pages → LoadAnswers before (Ok (Some shape)) (opened shape pages trail counts input posted)
  load_opened shape pages none flash = record {
    ok = record {
      shape_is = refl;
      none_bad = none;
      ready = λ own e. ready_as (opened shape pages trail counts input posted) shape own refl flash e;
      bare = λ e. no_shape_is shape (sym e);
      held = λ is. no_bool is;
      rest = refl;
    };
    err = tt;
    fault = λ e. cc;
    no_fault = λ other. refl;
    ready = λ own e. ready_as (opened shape pages trail counts input posted) shape own refl flash e;
    bad = λ at e. cc;
  }

  pub make_refused : (bare' : Bool) (shape : Shape) (fault : LoadFault) → ((at : ℕ) → fault ≢ BadImage at)
      → MakeAnswers before shape (Err fault) (closed bare' trail (with_refusal fault counts) input posted)
  make_refused bare' shape Fault other = record {
    ok = tt;
    err = refl;
    fault = λ e. omega arith;
    no_fault = λ apart. absurd (apart refl);
    ready = λ own e. no_shape_is own e;
    bad = λ at e. cc;
  }
  make_refused bare' shape (BadImage at) other = absurd (other at refl)
  make_refused bare' shape Memory other = record {
    ok = tt;
    err = refl;
    fault = λ e. cc;
    no_fault = λ apart. refl;
    ready = λ own e. no_shape_is own e;
    bad = λ at e. cc;
  }

  pub make_done : (shape : Shape) (u : Unit) (pages : Flash) → pages ≡ replicate (page_count shape) erased → IsFlash shape pages
      → MakeAnswers before shape (Ok u) (opened shape pages trail counts input posted)
  make_done shape u pages all flash = record {
    ok = record { shape_is = refl; all_erased = all; not_bare = refl; rest = refl };
    err = tt;
    fault = λ e. cc;
    no_fault = λ other. refl;
    ready = λ own e. ready_as (opened shape pages trail counts input posted) shape own refl flash e;
    bad = λ at e. cc;
  }

-- ---- the outer flash

pub whole_table : (work : InMemory) (inner : BoardState) → HasTable work inner → IsFlash work.shape (outer_pages work.shape work.spares inner.pages)
whole_table work inner table =
    let own = newest_is work.shape work.spares inner.pages table.some in
    let shown : outer_pages work.shape work.spares inner.pages ≡ through_by work.shape own.1 (page_at inner.pages) =
    ap (λ (f : Option Flash). unwrap_or f []) (shows work.shape work.spares inner.pages own.0 own.1 own.2) in
    subst (λ (f : Flash). IsFlash work.shape f) (sym shown) (whole_through work.shape own.1 (page_at inner.pages) table.ready.flash.full)

-- ---- from the board before to the one on the way

-- a load that began over a board that differs only in what it knows of the image
pub load_from : (old mid new : BoardState) (result : Result (Option Shape) LoadFault) → old.shape ≡ None → mid ≡ record old { bare = mid.bare; bad = mid.bad }
    → LoadAnswers mid result new → LoadAnswers old result new
load_from old mid new result none is own = record {
  ok = ok_from result own.ok;
  err = err_from result own.err;
  fault = λ e. subst F (ap (λ s. s.flash_faults) is) (own.fault e);
  no_fault = λ e. own.no_fault e ∙ ap (λ s. s.flash_faults) is;
  ready = own.ready;
  bad = own.bad;
} where
  F : ℕ → Type 0
  F x = Rose x new.flash_faults

  no_shape : {X : Type 0} → IsSome old.shape → X
  no_shape some = let T : Option Shape → Type 0 = λ s. IsSome s in no_bool (subst T none some)

  ok_from : (r : Result (Option Shape) LoadFault) → IfOk r (λ found. Loaded mid new found) → IfOk r (λ found. Loaded old new found)
  ok_from (Ok found) l = record {
    shape_is = l.shape_is;
    none_bad = l.none_bad;
    ready = l.ready;
    bare = l.bare;
    held = λ some. no_shape some;
    rest = l.rest ∙ ap (λ (s : BoardState). record s { shape = new.shape; bare = new.bare; pages = new.pages; bad = new.bad }) is;
  }
  ok_from (Err e) l = tt

  err_from : (r : Result (Option Shape) LoadFault) → OnErr r (LoadFailed mid new) → OnErr r (LoadFailed old new)
  err_from (Ok found) l = tt
  err_from (Err e) l = record {
    held = λ some. no_shape some;
    rest = l.rest ∙ ap (λ (s : BoardState). record s { shape = new.shape; bare = new.bare; pages = new.pages; flash_faults = new.flash_faults; bad = new.bad }) is;
  }

-- and a make
pub make_from : (old mid new : BoardState) (shape : Shape) (result : Result Unit LoadFault) → mid ≡ record old { bare = mid.bare } → MakeAnswers mid shape result new → MakeAnswers old shape result new
make_from old mid new shape result is own = record {
  ok = ok_from result own.ok;
  err = err_from result own.err;
  fault = λ e. subst F (ap (λ s. s.flash_faults) is) (own.fault e);
  no_fault = λ e. own.no_fault e ∙ ap (λ s. s.flash_faults) is;
  ready = own.ready;
  bad = own.bad;
} where
  F : ℕ → Type 0
  F x = Rose x new.flash_faults

  ok_from : (r : Result Unit LoadFault) → OnOk r (Made mid new shape) → OnOk r (Made old new shape)
  ok_from (Ok u) m = record {
    shape_is = m.shape_is;
    all_erased = m.all_erased;
    not_bare = m.not_bare;
    rest = m.rest ∙ ap (λ (s : BoardState). record s { shape = new.shape; bare = new.bare; pages = new.pages }) is;
  }
  ok_from (Err e) m = tt

  err_from : (r : Result Unit LoadFault) → OnErr r (MakeFailed mid new) → OnErr r (MakeFailed old new)
  err_from (Ok u) m = tt
  err_from (Err e) m = m ∙ ap (λ (s : BoardState). record s { shape = new.shape; bare = new.bare; pages = new.pages; flash_faults = new.flash_faults }) is

-- ---- causes

pub load_cause_refused : (spares : ℕ) (old new : BoardState) (fault : LoadFault) (left : ℕ) (result : Result (Option Shape) LoadFault) → result ≡ Err fault
    → (result ≡ Err Fault → Rose old.flash_faults new.flash_faults) → ((at : ℕ) → result ≡ Err (BadImage at) → new.bad ≡ Some at) → LoadCause spares old (Err fault) left new
load_cause_refused spares old new Fault left result is fault bad = fault is
load_cause_refused spares old new (BadImage at) left result is fault bad = inner_is_bad (bad at is)
load_cause_refused spares old new Memory left result is fault bad = tt

pub load_cause_from : (spares : ℕ) (old mid new : BoardState) (result : Result (Option Shape) LoadFault) (left : ℕ) → mid.flash_faults ≡ old.flash_faults
    → LoadCause spares mid result left new → LoadCause spares old result left new
load_cause_from spares old mid new (Ok None) left same own = own
load_cause_from spares old mid new (Ok (Some shape)) left same own = own
load_cause_from spares old mid new (Err Fault) left same own = let F : ℕ → Type 0 = λ x. Rose x new.flash_faults in subst F same own
load_cause_from spares old mid new (Err (BadImage at)) left same own = own
load_cause_from spares old mid new (Err Memory) left same own = own

-- ---- a refusal, as `refuse` gives it back

pub load_refused_as : {first last now : BoardState} {fault result : LoadFault} → result ≡ fault → now ≡ last → LoadAnswers first (Err fault) last → LoadAnswers first (Err result) now
load_refused_as {first} {last} {now} {fault} {result} is same own =
    let T : LoadFault → Type 0 = λ f. LoadAnswers first (Err f) now in
    subst T (sym is) (subst (LoadAnswers first (Err fault)) (sym same) own)

pub load_cause_as : (spares : ℕ) (old : BoardState) {last now : BoardState} {fault result : LoadFault} → result ≡ fault → now ≡ last → (left : ℕ)
    → LoadCause spares old (Err fault) left last → LoadCause spares old (Err result) left now
load_cause_as spares old {last} {now} {fault} {result} is same left own =
    let T : LoadFault → Type 0 = λ f. LoadCause spares old (Err f) left now in
    subst T (sym is) (subst (LoadCause spares old (Err fault) left) (sym same) own)

pub make_refused_as : {first last now : BoardState} {shape : Shape} {fault result : LoadFault} → result ≡ fault → now ≡ last
    → MakeAnswers first shape (Err fault) last → MakeAnswers first shape (Err result) now
make_refused_as {first} {last} {now} {shape} {fault} {result} is same own =
    let T : LoadFault → Type 0 = λ f. MakeAnswers first shape (Err f) now in
    subst T (sym is) (subst (MakeAnswers first shape (Err fault)) (sym same) own)

pub make_cause_as : (spares : ℕ) (shape : Shape) (old : BoardState) {last now : BoardState} {fault result : LoadFault} → result ≡ fault → now ≡ last → (left : ℕ)
    → MakeCause spares shape old (Err fault) left last → MakeCause spares shape old (Err result) left now
make_cause_as spares shape old {last} {now} {fault} {result} is same left own =
    let T : LoadFault → Type 0 = λ f. MakeCause spares shape old (Err f) left now in
    subst T (sym is) (subst (MakeCause spares shape old (Err fault) left) (sym same) own)

-- ---- the steps of a load

-- over a board whose image is not known, by calls that leave the host alone
module _ (image : Image) (unknown : image ≡ Unknown) (work work' : InMemory) (log log' : MarkLog) (counts : BoardCounts) (old new : BoardState)
    (input : new.input ≡ old.input) (posted : new.posted ≡ old.posted) (noted : told log' ≡ told log) where
  abbrev first : BoardState
  first = remap_board image work log counts old

  -- refused
  pub unknown_refused : (fault : LoadFault) → LoadAnswers first (Err fault) (remap_board image work' log' (with_refusal fault counts) new)
  unknown_refused fault =
      let T : Image → Type 0 = λ i. LoadAnswers (remap_board i work log counts old) (Err fault) (remap_board i work' log' (with_refusal fault counts) new) in
      let U : BoardState → Type 0 = λ s. LoadAnswers (remap_board Unknown work log counts old) (Err fault) s in
      subst T (sym unknown) (subst U (λ i. closed false (sym noted i) (with_refusal fault counts) (sym input i) (sym posted i))
      (load_refused false (told log) counts old.input old.posted fault))

  -- there is no image
  pub unknown_none : counts.bad ≡ None → LoadAnswers first (Ok None) (remap_board Missing work' log' counts new)
  unknown_none none =
      let T : Image → Type 0 = λ i. LoadAnswers (remap_board i work log counts old) (Ok None) (remap_board Missing work' log' counts new) in
      let U : BoardState → Type 0 = λ s. LoadAnswers (remap_board Unknown work log counts old) (Ok None) s in
      subst T (sym unknown) (subst U (λ i. closed true (sym noted i) counts (sym input i) (sym posted i)) (load_none false (told log) counts old.input old.posted none))

  -- its table is in memory
  pub unknown_opened : counts.bad ≡ None → HasTable work' new → LoadAnswers first (Ok (Some work'.shape)) (remap_board Sure work' log' counts new)
  unknown_opened none table =
      let T : Image → Type 0 = λ i. LoadAnswers (remap_board i work log counts old) (Ok (Some work'.shape)) (remap_board Sure work' log' counts new) in
      let U : BoardState → Type 0 = λ s. LoadAnswers (remap_board Unknown work log counts old) (Ok (Some work'.shape)) s in
      let pages : Flash = outer_pages work'.shape work'.spares new.pages in
      subst T (sym unknown) (subst U (λ i. opened work'.shape pages (sym noted i) counts (sym input i) (sym posted i))
      (load_opened false (told log) counts old.input old.posted work'.shape pages none (whole_table work' new table)))

  -- a step on the way
  pub unknown_then : (result : Result (Option Shape) LoadFault) (last : BoardState) → LoadAnswers (remap_board image work' log' counts new) result last → LoadAnswers first result last
  unknown_then result last own =
      let T : Image → Type 0 = λ i. LoadAnswers (remap_board i work' log' counts new) result last → LoadAnswers (remap_board i work log counts old) result last in
      let U : BoardState → Type 0 = λ s. LoadAnswers s result last in
      subst T (sym unknown) (λ a. subst U (λ i. closed false (noted i) counts (input i) (posted i)) a) own

  -- ---- and of a make

  pub unknown_make_refused : (shape : Shape) (fault : LoadFault) → ((at : ℕ) → fault ≢ BadImage at)
      → MakeAnswers first shape (Err fault) (remap_board image work' log' (with_refusal fault counts) new)
  unknown_make_refused shape fault other =
      let T : Image → Type 0 = λ i. MakeAnswers (remap_board i work log counts old) shape (Err fault) (remap_board i work' log' (with_refusal fault counts) new) in
      let U : BoardState → Type 0 = λ s. MakeAnswers (remap_board Unknown work log counts old) shape (Err fault) s in
      subst T (sym unknown) (subst U (λ i. closed false (sym noted i) (with_refusal fault counts) (sym input i) (sym posted i))
      (make_refused false (told log) counts old.input old.posted false shape fault other))

  pub unknown_made : (u : Unit) → HasTable work' new → outer_pages work'.shape work'.spares new.pages ≡ replicate (page_count work'.shape) erased
      → MakeAnswers first work'.shape (Ok u) (remap_board Sure work' log' counts new)
  unknown_made u table all =
      let T : Image → Type 0 = λ i. MakeAnswers (remap_board i work log counts old) work'.shape (Ok u) (remap_board Sure work' log' counts new) in
      let U : BoardState → Type 0 = λ s. MakeAnswers (remap_board Unknown work log counts old) work'.shape (Ok u) s in
      let pages : Flash = outer_pages work'.shape work'.spares new.pages in
      subst T (sym unknown) (subst U (λ i. opened work'.shape pages (sym noted i) counts (sym input i) (sym posted i))
      (make_done false (told log) counts old.input old.posted work'.shape u pages all (whole_table work' new table)))

-- over a board that a load found without an image
module _ (image : Image) (missing : image ≡ Missing) (work : InMemory) (log : MarkLog) (counts : BoardCounts) (old : BoardState) where
  abbrev absent : BoardState
  absent = remap_board image work log counts old

  -- refused before a call
  pub missing_refused : (shape : Shape) (fault : LoadFault) → ((at : ℕ) → fault ≢ BadImage at)
      → MakeAnswers absent shape (Err fault) (remap_board image work log (with_refusal fault counts) old)
  missing_refused shape fault other =
      let T : Image → Type 0 = λ i. MakeAnswers (remap_board i work log counts old) shape (Err fault) (remap_board i work log (with_refusal fault counts) old) in
      subst T (sym missing) (make_refused true (told log) counts old.input old.posted true shape fault other)

  module _ (new : BoardState) (input : new.input ≡ old.input) (posted : new.posted ≡ old.posted) where
    -- refused by the inner flash
    pub missing_failed : (shape : Shape) (fault : LoadFault) → ((at : ℕ) → fault ≢ BadImage at)
        → MakeAnswers absent shape (Err fault) (remap_board Unknown work log (with_refusal fault counts) new)
    missing_failed shape fault other =
        let T : Image → Type 0 = λ i. MakeAnswers (remap_board i work log counts old) shape (Err fault) (remap_board Unknown work log (with_refusal fault counts) new) in
        let U : BoardState → Type 0 = λ s. MakeAnswers (remap_board Missing work log counts old) shape (Err fault) s in
        subst T (sym missing) (subst U (λ i. closed false (told log) (with_refusal fault counts) (sym input i) (sym posted i))
        (make_refused true (told log) counts old.input old.posted false shape fault other))

    -- a step on the way
    pub missing_then : (shape : Shape) (result : Result Unit LoadFault) (last : BoardState) → MakeAnswers (remap_board Unknown work log counts new) shape result last
        → MakeAnswers absent shape result last
    missing_then shape result last own =
        let T : Image → Type 0 = λ i. MakeAnswers (remap_board i work log counts old) shape result last in
        let U : BoardState → Type 0 = λ s. MakeAnswers s shape result last in
        subst T (sym missing) (make_from (closed true (told log) counts old.input old.posted) (closed false (told log) counts old.input old.posted) last shape result refl
        (subst U (λ i. closed false (told log) counts (input i) (posted i)) own))

-- ---- causes of a make

pub ok_or_err : {X E Y : Type 0} (r : Result X E) → IsOk r → IsErr r → Y
ok_or_err (Ok x) ok err = let no : false ≡ true = err in cc
ok_or_err (Err e) ok err = let no : false ≡ true = ok in cc

pub make_cause_from : (spares : ℕ) (shape : Shape) (old mid new : BoardState) (result : Result Unit LoadFault) (left : ℕ) → IsOk (checked (inner_shape shape spares))
    → mid.flash_faults ≡ old.flash_faults → MakeCause spares shape mid result left new → MakeCause spares shape old result left new
make_cause_from spares shape old mid new (Ok u) left allowed same own = own
make_cause_from spares shape old mid new (Err Fault) left allowed same (inner_fault ok rose) = inner_fault ok (let F : ℕ → Type 0 = λ x. Rose x new.flash_faults in subst F same rose)
make_cause_from spares shape old mid new (Err Fault) left allowed same (not_allowed err is) = ok_or_err (checked (inner_shape shape spares)) allowed err
make_cause_from spares shape old mid new (Err (BadImage at)) left allowed same own = own
make_cause_from spares shape old mid new (Err Memory) left allowed same own = own

pub make_cause_refused : (spares : ℕ) (shape : Shape) (old new : BoardState) (fault : LoadFault) (left : ℕ) (result : Result Unit LoadFault) → IsOk (checked (inner_shape shape spares))
    → result ≡ Err fault → (result ≡ Err Fault → Rose old.flash_faults new.flash_faults) → ((at : ℕ) → result ≢ Err (BadImage at)) → MakeCause spares shape old (Err fault) left new
make_cause_refused spares shape old new Fault left result allowed is fault bad = inner_fault allowed (fault is)
make_cause_refused spares shape old new (BadImage at) left result allowed is fault bad = bad at is
make_cause_refused spares shape old new Memory left result allowed is fault bad = allowed

-- ---- a load

module _ (image : Image) (work : InMemory) (log : MarkLog) (counts : BoardCounts) (inner : BoardState) where
  -- of a flash whose shape is known
  pub load_known : is_open image ≡ true → HasTable work inner
      → LoadAnswers (remap_board image work log counts inner) (Ok (Some work.shape)) (remap_board image work log (record counts { bad = None }) inner)
  load_known has_open table =
      let pages : Flash = outer_pages work.shape work.spares inner.pages in
      let is = board_is work log counts inner image has_open in
      let is' = board_is work log (record counts { bad = None }) inner image has_open in
      let ready : (own : Shape) → Some work.shape ≡ Some own → IsReady (opened work.shape pages (told log) (record counts { bad = None }) inner.input inner.posted) own =
      λ own e. ready_as (opened work.shape pages (told log) (record counts { bad = None }) inner.input inner.posted) work.shape own refl (whole_table work inner table) e in
      let A : BoardState → Type 0 = λ s. LoadAnswers s (Ok (Some work.shape)) (remap_board image work log (record counts { bad = None }) inner) in
      let B : BoardState → Type 0 = λ s. LoadAnswers (opened work.shape pages (told log) counts inner.input inner.posted) (Ok (Some work.shape)) s in
      subst A (sym is) (subst B (sym is') (record {
        ok = record {
          shape_is = refl;
          none_bad = refl;
          ready = ready;
          bare = λ e. no_shape_is work.shape (sym e);
          held = λ some. (refl, refl);
          rest = refl;
        };
        err = tt;
        fault = λ e. cc;
        no_fault = λ other. refl;
        ready = ready;
        bad = λ at e. cc;
      }))

  closed_mid : (i : Image) → is_open i ≡ false → remap_board Unknown work log (record counts { bad = None }) inner ≡ record (remap_board i work log counts inner) { bare = false; bad = None }
  closed_mid Unknown e = refl
  closed_mid Missing e = refl
  closed_mid Unsure e = no_bool (sym e)
  closed_mid Sure e = no_bool (sym e)

  -- of one whose image is not known yet
  pub load_closed : is_open image ≡ false → (result : Result (Option Shape) LoadFault) (last : BoardState)
      → LoadAnswers (remap_board Unknown work log (record counts { bad = None }) inner) result last → LoadAnswers (remap_board image work log counts inner) result last
  load_closed shut result last own =
      load_from (remap_board image work log counts inner) (remap_board Unknown work log (record counts { bad = None }) inner) last result
      (ap (λ (b : Bool). open_shape b work.shape) shut) (closed_mid image shut) own

  pub shut_none : {X : Type 0} → is_open image ≡ false → IsSome (remap_board image work log counts inner).shape → X
  shut_none shut some = let T : Option Shape → Type 0 = λ s. IsSome s in no_bool (subst T (ap (λ (b : Bool). open_shape b work.shape) shut) some)
