-- What passed between the container and other servers.
use Rattle.std.specs.Prelude.{◌==◌, ℕ, List, if◌then◌else◌}
use Rattle.script_model.specs.Events.{Event}
use Rattle.script_model.specs.Origins.{Passed, passed, unlinked}

-- what passed between a server and the container, but for one server
abbrev pub beside : {D : Type 0} → ℕ → ℕ → List (Event D) → Passed
beside inc s es = if inc == s then unlinked else passed s es
