-- What happens to the links that a server is given.
use Rattle.std.specs.Prelude.{Bool, true, false, Option, Some}
use Rattle.server_links.specs.declared.links.Link.{Link}

-- A link came, or none, or a link was closed.
abbrev pub Event : (R W : Type 0) → Type 0
Event R W = Option (Link R W) × Bool

abbrev pub Came : {R W : Type 0} → Option (Link R W) → Event R W
Came link = (link, true)

abbrev pub Closed : {R W : Type 0} → Link R W → Event R W
Closed link = (Some link, false)
