-- Room that is taken before a step changes anything.
use Rattle.std.specs.Prelude.{◌≡◌, ◌+◌, ◌≤◌, ◌<◌, ◌^◌, ℕ, Bool, true, false, Option, [], ◌∷◌, ◌++◌, length, vec_len}
use Rattle.std.specs.Prelude.{vec_capacity}
use Rattle.container_model.specs.Record.{Record}
use Rattle.server_model.specs.declared.counted.Counted.{Counted}
use Rattle.message_values.specs.declared.message.Message.{Message}
use Rattle.world_model.specs.declared.event.Stop.{Stop}
use Rattle.world_model.specs.declared.event.Stop.TheVariants.{NotEnabled, OutOfStock, EventLimit, NoMemory}
use Rattle.world_model.specs.declared.logs.View.{View}
use Rattle.world_model.specs.declared.logs.EventAnswer.TheVariants as told
use Rattle.world_model.specs.World.{World, quiet_outcome, places, counted_by}
use Rattle.world_host.specs.declared.host.Host.{Host}
use Rattle.world_host.specs.declared.host.Room.{Room}

-- no step of the container asks for more actions
abbrev pub most : Record → ℕ
most r = length r.objects + length r.frames + 1

-- room in the logs for a step with so many actions; places of messages stay numbers of 32 bits
pub record HasLogRoom (n : ℕ) (l : Host) : Type 0 where
  pub sent : vec_len l.sent + n ≤ vec_capacity l.sent
  pub last : vec_len l.sent + n < 2 ^ 32
  pub answers : vec_len l.answers < vec_capacity l.answers
  pub counted : vec_len l.counted < vec_capacity l.counted

pub record IsRoom (n : ℕ) (r : Room) : Type 0 where
  pub no_ends : r.servers.ends.items ≡ []
  pub no_starts : r.servers.starts.items ≡ []
  pub no_commits : r.commits.items ≡ []
  pub no_places : r.places.items ≡ []
  pub ends : n ≤ vec_capacity r.servers.ends
  pub starts : n ≤ vec_capacity r.servers.starts
  pub commits : n ≤ vec_capacity r.commits
  pub places : n ≤ vec_capacity r.places

-- room for the reply to a call
pub record HasReplyRoom (l : Host) : Type 0 where
  pub sent : vec_len l.sent < vec_capacity l.sent
  pub last : vec_len l.sent + 1 < 2 ^ 32
  pub done : vec_len l.server_done < vec_capacity l.server_done

-- why an event that could happen isn't taken, by whether the world takes no more
abbrev pub IsBarred : Bool → Stop → Type 0
IsBarred full NotEnabled = ⊥
IsBarred full OutOfStock = ⊥
IsBarred full EventLimit = full ≡ true
IsBarred full NoMemory = full ≡ false

-- a world after a reply
abbrev pub replied : World → ℕ → Option View → Message → Option Counted → World
replied w inc view reply counted = record w {
  sent = w.sent ++ record { message = reply; view = view } ∷ [];
  answers = w.answers ++ told.Took (record quiet_outcome { sent = places w.sent 1 }) ∷ [];
  server_done = w.server_done ++ counted_by w inc counted;
}
