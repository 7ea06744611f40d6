-- Servers as they are seen: their objects by what they contain.
use Rattle.std.specs.Prelude.{◌≡◌, ◌≢◌, ℕ, cond, nat_eq, List, map, Option, Some, None, option_map, slice_index_or}
use Rattle.object_core.specs.Content.{Content}
use Rattle.server_core.specs.Kept.{whole}
use Rattle.server_core.specs.declared.seats.Owned.{Owned}
use Rattle.server_core.specs.declared.server.Seat.{Seat}
use Rattle.server_core.specs.declared.server.Activation as code
use Rattle.server_core.specs.declared.server.ServerCore.{ServerCore}
use Rattle.server_model.specs.Server.{Server, Activation}

module _ {X : Type 0} {V : X → Type 0} where
  -- a seat, where it is of this activation
  abbrev pub own : ℕ → Option (Owned X V) → Option (Seat X V)
  own act None = None
  own act (Some o) = cond (nat_eq o.act act) (Some o.seat) None

  -- the seat of an activation: the one at its key, where that is its own
  abbrev pub seat_at : List (Option (Owned X V)) → ℕ → Option ℕ → Option (Seat X V)
  seat_at slots act None = None
  seat_at slots act (Some key) = own act (slice_index_or slots key None)

  -- at each key, other activations have the seats that they had
  abbrev pub KeepsOthers : ℕ → List (Option (Owned X V)) → List (Option (Owned X V)) → Type 0
  KeepsOthers act old new = (other : ℕ) (key : Option ℕ) → other ≢ act → seat_at new other key ≡ seat_at old other key

-- Objects in boxes: `content` says what the one in a seat contains.
module _ {X : Type 0} {V : X → Type 0} (content : Seat X V → Content) where
  abbrev pub seen_activation : List (Option (Owned X V)) → ℕ × code.Activation → Activation
  seen_activation slots e = whole e.0 e.1.facts (option_map content (seat_at slots e.0 e.1.key))

  abbrev pub seen : ServerCore X V → Server
  seen v = record {
    session = v.session;
    inc = v.inc;
    numbers = v.numbers;
    acts = map (seen_activation v.seats.slab.slots) v.acts.entries;
  }
