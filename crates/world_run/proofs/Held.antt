-- What a world holds doesn't depend on what the objects in the boxes of its servers contain.
use Rattle.std.proofs.Common.{List, map}
use Rattle.object_core.specs.Content.{Content}
use Rattle.object_core.specs.Kinds.{Kind}
use Rattle.server_core.specs.declared.server.Seat.{Seat}
use Rattle.world_model.specs.World.{World}
use Rattle.world_safety.specs.Holding.{Holds, IsOf}
use Rattle.world_safety.proofs.Alike.{agrees_alike}
use Rattle.world_state.specs.declared.instance.Instance as held
use Rattle.world_state.specs.View.{seen_instance}
use Rattle.world_run.proofs.Alike.{acts_alike, lives_alike, many_alike, servers_alike, sessions_alike}

-- a world with these servers, seen so
module _ {X : Type 0} {V : X → Type 0} where
  abbrev pub With : World → List (held.Instance X V) → (Seat X V → Content) → List Kind → World
  With w xs c stock = record w { instances = map (seen_instance c) xs; stock = stock }

-- what it holds, whatever the objects in boxes are said to contain
module _ {X : Type 0} {V : X → Type 0} (c d : Seat X V → Content) where
  pub held_seen : (w : World) (xs : List (held.Instance X V)) (stock other : List Kind) → Holds (With w xs c stock)
      → Holds (With w xs d other)
  held_seen w xs stock other h = record {
    in_session = record {
      holds = h.in_session.holds;
      sent = h.in_session.sent;
      servers = sessions_alike c d (IsOf w.rec.session) xs h.in_session.servers;
    };
    agrees = agrees_alike _ _ _ _ _ _ _ _ (many_alike c d xs) (acts_alike c d xs) (lives_alike c d xs) h.agrees;
    files = record { counted_bounded = h.files.counted_bounded; filed = h.files.filed; commits = h.files.commits };
    numbers = record {
      recorded = h.numbers.recorded;
      sent = h.numbers.sent;
      servers = servers_alike c d _ xs h.numbers.servers;
    };
    taken_held = λ t a honest. (let g = h.taken_held t a honest in
        record {
          message = g.message;
          place = g.place;
          placed = g.placed;
          delivered = g.delivered;
          brings = g.brings;
          sent = g.sent;
          held_open = g.held_open;
          unasked = g.unasked;
        });
  }
