use Rattle.std.proofs.Common.{◌∙◌, ap, length, sym}
use Rattle.container_grants.proofs.AskedAway.{places_length}
use Rattle.container_grants.proofs.handing.ask_all.Goals as goal

pub ask_slice-requires-clause-len : goal.ask_slice-requires-clause-len
ask_slice-requires-clause-len c = places_length 0 c.args.f c.args.objects.now.items c.args.rooms.items
    c.requires.places ∙ ap length (sym c.deref_mut.ensures.value)
