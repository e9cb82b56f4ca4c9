-- Where there is room, the blocks at the front of the lists are linked.
use Rattle.std.proofs.Common.{refl}
use Rattle.flow.specs.Linked.{room}
use Rattle.flow.proofs.Linking.{targets_front, flags_front}
use Rattle.flow.proofs.link.Goals as goal

pub returns-then-has_room-clause-targets_after : goal.returns-then-has_room-clause-targets_after
unfolding room
returns-then-has_room-clause-targets_after c =
    let a = c.args in
    let l = c.if-has_room.ensures.lengths refl in
    rw (← c.if-has_room.ensures.value, c.link_all.ensures.targets_after) (targets_front a.n a.ids.now a.counts.now a.targets.now a.emitted.now l.1 l.3 l.4)

pub returns-then-has_room-clause-emitted_after : goal.returns-then-has_room-clause-emitted_after
unfolding room
returns-then-has_room-clause-emitted_after c =
    let a = c.args in
    let l = c.if-has_room.ensures.lengths refl in
    rw (← c.if-has_room.ensures.value, c.link_all.ensures.emitted_after) (flags_front a.n a.ids.now a.counts.now a.targets.now a.emitted.now l.1 l.3 l.4)

pub returns-else-has_room-clause-targets_after : goal.returns-else-has_room-clause-targets_after
unfolding room
returns-else-has_room-clause-targets_after c = rw (← c.if-has_room.ensures.value)

pub returns-else-has_room-clause-emitted_after : goal.returns-else-has_room-clause-emitted_after
unfolding room
returns-else-has_room-clause-emitted_after c = rw (← c.if-has_room.ensures.value)
