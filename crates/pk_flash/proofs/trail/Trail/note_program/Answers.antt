use Rattle.pk_flash.proofs.trail.Trail.note_program.Goals as goal

pub copy_into_spare-copy-requires-clause-room : goal.copy_into_spare-copy-requires-clause-room
copy_into_spare-copy-requires-clause-room c = rw c.requires.full (c.copy_into_spare-own.ensures.rest c.args.self.now.page_bytes c.args.self.now.spare_room)

pub invariant_of-self-clause-spare_room : goal.invariant_of-self-clause-spare_room
invariant_of-self-clause-spare_room c =
    c.copy_into_spare-copy.ensures.rest c.args.self.now.page_bytes (c.copy_into_spare-own.ensures.rest c.args.self.now.page_bytes c.args.self.now.spare_room)
