use Rattle.pk_flash.proofs.trail.Trail.note_post.Goals as goal

pub invariant_of-self-clause-spare_room : goal.invariant_of-self-clause-spare_room
invariant_of-self-clause-spare_room c = c.copy_into_spare-copy.ensures.rest c.args.self.now.page_bytes c.args.self.now.spare_room
