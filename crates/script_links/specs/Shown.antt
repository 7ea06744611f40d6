-- Which calls are pending on links.
use Rattle.std.specs.Prelude.{◌≡◌, ◌≤◌, ◌==◌, ◌&&◌, ◌||◌, ℕ, Bool, true, false, not, List, [], ◌∷◌, Option, Some, None}
use Rattle.std.specs.Prelude.{is_some, if◌then◌else◌}
use Rattle.container_model.specs.declared.record.Link.{Link as Activation}
use Rattle.container_model.specs.declared.record.Object.{Object}
use Rattle.script_links.specs.Links.{links_of}
use Rattle.script_links.specs.declared.links.Link.{Link}
use Rattle.script_model.specs.Errors.{is_asked}
pub use Rattle.script_container.specs.Shown.{Shows}

-- the server that an activation has a pending call for
abbrev pub pending_of : Option Activation → Option ℕ
pending_of None = None
pending_of (Some l) = if is_some l.pending then Some l.inc else None

-- whether a link is a server's, and isn't held
abbrev pub is_free_of : ℕ → Link → Bool
is_free_of s l = (l.inc == s) && not l.held

-- whether a server has a link that isn't held
abbrev pub has_free : ℕ → List Link → Bool
has_free s [] = false
has_free s (l ∷ ls) = is_free_of s l || has_free s ls

-- whether a call is pending on a link that isn't held: of an activation, of an object, of one of these objects
abbrev pub is_awaited_of : List Link → Option ℕ → Bool
is_awaited_of ls None = false
is_awaited_of ls (Some s) = has_free s ls

abbrev pub is_awaited : List Link → Object → Bool
is_awaited ls o = is_awaited_of ls (pending_of o.link)

abbrev pub is_any_awaited : List Link → List Object → Bool
is_any_awaited ls [] = false
is_any_awaited ls (o ∷ os) = is_awaited ls o || is_any_awaited ls os

-- No call is pending of a server that has a link which isn't held.
abbrev pub AreQuiet : List Object → List Link → Type 0
AreQuiet objects ls = (s : ℕ) → is_asked s objects ≡ true → has_free s ls ≡ false

-- A server has one of these links, and a call of it is pending.
pub record AreAsked (objects : List Object) (ls : List Link) : Type 0 where
  pub server : ℕ
  pub linked : 1 ≤ links_of server ls
  pub asked : is_asked server objects ≡ true
