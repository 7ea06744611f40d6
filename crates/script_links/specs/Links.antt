-- Links and the servers that run.
use Rattle.std.specs.Prelude.{◌≡◌, ◌+◌, ◌==◌, ◌++◌, ◌||◌, ℕ, Bool, false, List, [], ◌∷◌, if◌then◌else◌, slice_index_or}
use Rattle.std.specs.List.{AllByRecursion}
use Rattle.message_bytes.specs.Fronts.{Stands}
use Rattle.message_model.specs.declared.frame.Frame.{Frame}
use Rattle.message_values.specs.declared.message.Message.{Message}
use Rattle.script_model.specs.Events.{Event, running}
use Rattle.script_model.specs.Origins.{AreFirst, Passed, messages_of, passed}
pub use Rattle.script_container.specs.Beside.{beside}
use Rattle.script_links.specs.declared.links.Link.{Link}

-- how many of these links are a server's
abbrev pub links_of : ℕ → List Link → ℕ
links_of s [] = 0
links_of s (l ∷ ls) = links_of s ls + (if l.inc == s then 1 else 0)

-- The servers that run are those of the links.
abbrev pub AreLinked : {D : Type 0} → List (Event D) → List Link → Type 0
AreLinked es ls = (s : ℕ) → running s es ≡ links_of s ls

-- A link has what passed between its server and the container: its decoder was fed what came on the last link, and the
-- messages that were taken of it, behind those of earlier links, are those that the container was given, those that
-- wait, and these in hand. Where a link isn't held, none waits.
pub record IsServed (p : Passed) (l : Link) (hand : List Message) : Type 0 where
  pub fed : List ℕ
  pub earlier : List (List ℕ)
  pub before : List Message
  pub taken : List Frame
  pub came : p.came ≡ fed ∷ earlier
  pub first : AreFirst earlier before
  pub stands : Stands l.decoder fed taken
  pub messages : before ++ messages_of taken ≡ p.given ++ (l.waiting ++ hand)
  pub idle : l.held ≡ false → l.waiting ≡ []

-- The same of each link, where nothing is in hand.
abbrev pub EachServed : (ℕ → Passed) → List Link → Type 0
EachServed f ls = AllByRecursion (λ (l : Link). IsServed (f l.inc) l []) ls

abbrev pub AreServed : {D : Type 0} → List (Event D) → List Link → Type 0
AreServed es ls = EachServed (λ s. passed s es) ls

-- Whether each link holds what comes is told by its server.
abbrev pub HoldFor : (ℕ → Bool) → List Link → Type 0
HoldFor f ls = AllByRecursion (λ (l : Link). l.held ≡ f l.inc) ls

-- The links that hold what comes are those of these servers: of a server without a link nothing is held.
pub record AreHeld (f : ℕ → Bool) (ls : List Link) : Type 0 where
  pub each : HoldFor f ls
  pub none : (s : ℕ) → links_of s ls ≡ 0 → f s ≡ false

-- whether one of these links is held
abbrev pub is_any_held : List Link → Bool
is_any_held [] = false
is_any_held (l ∷ ls) = l.held || is_any_held ls

-- At a place of these links is a server's.
pub record IsLinkAt (ls : List Link) (place inc : ℕ) : Type 0 where
  pub link : Link
  pub stands : link ≡ slice_index_or ls place link
  pub server : link.inc ≡ inc
