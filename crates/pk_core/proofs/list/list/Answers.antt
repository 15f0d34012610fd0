use Rattle.std.proofs.Common.{◌≡◌, ◌+◌, ◌-◌, [], min, arith, refl, ap, ◌∙◌, rules, List}
use Rattle.pk_base.specs.Entry.{Entry}
use Rattle.pk_level.specs.Levels.{RunsOnFlash}
use Rattle.pk_walk.specs.Walking.{Reads, ReadsFail, most_read}
use Rattle.pk_nvme.{specs.Opcode.op_of, specs.declared.opcode.Opcode.TheVariants.List as ListKeys, specs.Seen.command_of}
use Rattle.pk_core.{proofs.Early.request_space, proofs.Listing.from_first, proofs.Listing.at_first, proofs.Listing.walks_on, proofs.Listing.starts_may, proofs.Listing.starts_bytes}
use Rattle.pk_core.proofs.ListReads.{reads_between, reads_until, lists_read, lists_unread, few_listed, few_unlisted}
use Rattle.pk_core.{proofs.Doing.list_executes, proofs.Doing.list_only, specs.Listed.first_listed, proofs.list.list.Given.Over}
use Rattle.pk_core.proofs.list.list.Goals.{In-Ok, In-Err}
use Rattle.pk_core.proofs.list.list.Goals as goal

pub first_key-first-requires-clause-values : goal.first_key-first-requires-clause-values
first_key-first-requires-clause-values g c = request_space c.args.parts.now _ c.args.request.now ListKeys (λ n k. refl) (ap op_of c.requires.opcode) c.requires.servable

pub put_left-requires-clause-may : goal.put_left-requires-clause-may
put_left-requires-clause-may g c = starts_may c.args.parts.now c.start_keys.new.self
    (g.B.Nand.state c.args.board.now) _ c.start_keys.ensures.left c.start_keys.ensures.rest c.requires.servable.agrees c.start_keys.ensures.shape

pub put_left-requires-clause-none_read : goal.put_left-requires-clause-none_read
put_left-requires-clause-none_read g c = rw c.start_keys.ensures.rest c.start_keys.ensures.none_read

-- ---- the keys were written

-- what was read
read : (g : Over) (c : In-Ok g) → Reads 0 (most_read c.args.parts.now.levels.runs) (g.B.Nand.state c.args.board.now) (g.B.Nand.state c.put_left.new.board)
read g c = at_first c.args.parts.now c.start_keys.new.self (λ l a x. Reads 0 (most_read l.runs) (g.B.Nand.state c.args.board.now) (g.B.Nand.state c.put_left.new.board))
    c.start_keys.ensures.rest c.in-Ok.ensures.reads

pub reads_since-requires : goal.reads_since-requires
reads_since-requires g c =
    let between = reads_between _ _ _ c.reads_so_far-before.ensures.last c.start_keys.ensures.few (read g (goal.at.reads_since-requires g c).In-Ok) in
    record { up = omega (arith, between.0, c.reads_so_far-before.ensures.value); few = omega (arith, between.1, c.reads_so_far-before.ensures.value) }

pub returns-in-Ok : goal.returns-in-Ok
returns-in-Ok g c =
    let s = c.requires.servable in
    let old = g.B.Nand.state c.args.board.now in
    let new = g.B.Nand.state c.put_left.new.board in
    let made = read g (goal.at.returns-in-Ok g c).In-Ok in
    let up = (reads_between _ old new c.reads_so_far-before.ensures.last c.start_keys.ensures.few made).0 in
    let since : old.reads + c.reads_since.result ≡ new.reads = omega (arith, up, c.reads_since.ensures.reads, c.reads_so_far-before.ensures.value) in
    let bytes = starts_bytes c.args.parts.now c.start_keys.new.self old _ c.start_keys.ensures.left c.start_keys.ensures.rest c.args.request.now.namespace c.min-room.result
    c.args.request.now.size c.in-Ok.at c.put_left.new.into c.put_u32.new.bytes c.min-room.ensures c.in-Ok.ensures.lists.1 c.put_u32.ensures.front c.put_u32.ensures.back in
    let lists = from_first old new c.served.result c.put_u32.new.bytes (min c.args.request.now.size 65536 - 4) (RunsOnFlash old.pages c.args.parts.now.arena c.args.parts.now.levels.runs)
    c.args.parts.now.log.active.entries c.args.parts.now.log.frozen.entries c.args.request.now.namespace c.first_key-first.result
    (first_listed (command_of c.args.request.now [])) c.first_key-first.ensures
    (λ (ess : List (List Entry)) stand. lists_read _ old new _ _ _ _ _ c.served.ensures c.reads_since.ensures.count made since (bytes ess stand)) in
    let same = walks_on c.args.parts.now c.start_keys.new.self c.put_left.new.parts c.start_keys.ensures.rest c.in-Ok.ensures.rest in
    record {
      executes = list_executes c.args.parts.now old new c.args.request.now c.served.result c.put_u32.new.bytes s c.requires.opcode lists c.put_left.new.parts same;
      only = list_only c.args.parts.now old new c.args.request.now c.served.result c.put_u32.new.bytes s c.requires.opcode lists c.put_left.new.parts same
          (few_listed _ _ old new made c.start_keys.ensures.within);
      fits = search rules;
      room = c.put_u32.ensures.len ∙ c.put_left.ensures.len;
    }

-- ---- a read failed

read_until : (g : Over) (c : In-Err g) → ReadsFail 0 (most_read c.args.parts.now.levels.runs) (g.B.Nand.state c.args.board.now) (g.B.Nand.state c.put_left.new.board)
read_until g c = at_first c.args.parts.now c.start_keys.new.self (λ l a x. ReadsFail 0 (most_read l.runs) (g.B.Nand.state c.args.board.now) (g.B.Nand.state c.put_left.new.board))
    c.start_keys.ensures.rest c.in-Err.ensures.err

pub reads_since-requires-in-Err : goal.reads_since-requires-in-Err
reads_since-requires-in-Err g c =
    let between = reads_until _ _ _ c.reads_so_far-before.ensures.last c.start_keys.ensures.few (read_until g (goal.at.reads_since-requires-in-Err g c).In-Err) in
    record { up = omega (arith, between.0, c.reads_so_far-before.ensures.value); few = omega (arith, between.1, c.reads_so_far-before.ensures.value) }

pub returns-in-Err : goal.returns-in-Err
returns-in-Err g c =
    let s = c.requires.servable in
    let old = g.B.Nand.state c.args.board.now in
    let new = g.B.Nand.state c.put_left.new.board in
    let made = read_until g (goal.at.returns-in-Err g c).In-Err in
    let up = (reads_until _ old new c.reads_so_far-before.ensures.last c.start_keys.ensures.few made).0 in
    let since : old.reads + c.reads_since-in-Err.result ≡ new.reads = omega (arith, up, c.reads_since-in-Err.ensures.reads, c.reads_so_far-before.ensures.value) in
    let lists = λ (ess : List (List Entry)) (stand : RunsOnFlash old.pages c.args.parts.now.arena c.args.parts.now.levels.runs ess).
    lists_unread _ old new _ _ _ _ c.refusal.ensures c.reads_since-in-Err.ensures.count c.reads_so_far-before.ensures.faults made since in
    let same = walks_on c.args.parts.now c.start_keys.new.self c.put_left.new.parts c.start_keys.ensures.rest c.in-Err.ensures.rest in
    record {
      executes = list_executes c.args.parts.now old new c.args.request.now c.refusal.result c.put_left.new.into s c.requires.opcode lists c.put_left.new.parts same;
      only = list_only c.args.parts.now old new c.args.request.now c.refusal.result c.put_left.new.into s c.requires.opcode lists c.put_left.new.parts same
          (few_unlisted _ _ old new made c.start_keys.ensures.within);
      fits = rw c.refusal.ensures (omega arith);
      room = c.put_left.ensures.len;
    }
