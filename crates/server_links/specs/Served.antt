-- What a server makes of one link after another.
use Rattle.std.specs.Prelude.{◌≡◌, ◌+◌, ◌<◌, ◌≤◌, ◌||◌, ◌⊎◌, ℕ, Bool, true, false, List, ◌∷◌, Option, Some, None}
use Rattle.std.specs.Prelude.{Result, Ok, Err}
use Rattle.object_core.specs.Kinds.{Note, Table, Drawing}
use Rattle.server_model.specs.Server.{is_class}
use Rattle.server_links.specs.Links.{HasEnded, HasLacked, HasServed, Leaving, link_begun, turns_in}
use Rattle.server_links.specs.Turns.{Turn}
use Rattle.server_links.specs.View.{AreFirst, MOST_TURNS}
use Rattle.server_links.specs.declared.serving.End.{End}
use Rattle.server_links.specs.Events.{Came, Closed, Event}
use Rattle.server_links.specs.declared.kinds.Kind.{Kind}
use Rattle.server_links.specs.declared.kinds.Kind.TheVariants as kind
use Rattle.server_links.specs.declared.links.Link.{Link}
use Rattle.server_links.specs.declared.all_links.Stop.{Stop}
use Rattle.server_links.specs.declared.all_links.Stop.TheVariants.{NoLink, MostLinks, Long}

-- the classes of which an object is always at hand: notes, tables and drawings
abbrev pub is_made : (class : List ℕ) → Bool
is_made class = is_class Note class || (is_class Table class || is_class Drawing class)

abbrev pub IsKindOf : Kind → (class : List ℕ) → Type 0
IsKindOf kind.Note class = is_class Note class ≡ true
IsKindOf kind.Table class = is_class Table class ≡ true
IsKindOf kind.Drawing class = is_class Drawing class ≡ true
IsKindOf kind.Other class = is_made class ≡ false

-- the most links of a server
abbrev pub MOST_LINKS : ℕ
MOST_LINKS = 100

-- a server is left at this turn
abbrev pub IsLeft : Turn → Leaving
IsLeft left now fed taken = (now ≡ left) × AreFirst fed taken

-- Links that were served, the newest first, one after another, and how many. The first one found the server at a turn,
-- each other one as the one before left it. Each came and was closed, and in between it came to its end: what was read
-- and written of it in that time is what a server makes of a link. `remaining` and `contents` say what there is still
-- to be read, and what was written, where that is known.
pub data Served {R W : Type 0} (remaining : R → Option (List ℕ)) (contents : W → Option (List ℕ)) (first : Turn)
    (before : List (Event R W)) : List (Event R W) → ℕ → Turn → Type 0 where
  none : Served remaining contents first before before 0 first
  one_more : {told : List (Event R W)} {count : ℕ} {t : Turn} (u : Turn) (came closed : Link R W) (end : End)
      → Served remaining contents first before told count t
      → HasEnded end (IsLeft u) is_made (link_begun t) (remaining came.reader) (remaining closed.reader)
      (contents came.writer) (contents closed.writer)
      → Served remaining contents first before (Closed closed ∷ Came (Some came) ∷ told) (count + 1) u

module _ {R W : Type 0} (remaining : R → Option (List ℕ)) (contents : W → Option (List ℕ)) (first : Turn)
    (before told : List (Event R W)) where
  -- Behind the links that were served, which are fewer than may be, something came last.
  pub record HasServedFew (last : Option (Link R W)) : Type 0 where
    pub links : List (Event R W)
    pub count : ℕ
    pub left : Turn
    pub served : Served remaining contents first before links count left
    pub few : count < MOST_LINKS
    pub behind : told ≡ Came last ∷ links

  -- Behind the links that were served, which are fewer than may be, one came that was closed before its end. The server
  -- was at a turn as it came, and what was read and written of it until it was closed is so.
  pub record HasServedPart (Part : Turn → (unread_before unread held_before held : Option (List ℕ)) → Type 0) : Type
      0 where
    pub links : List (Event R W)
    pub count : ℕ
    pub left : Turn
    pub served : Served remaining contents first before links count left
    pub few : count < MOST_LINKS
    pub came : Link R W
    pub closed : Link R W
    pub behind : told ≡ Closed closed ∷ Came (Some came) ∷ links
    pub part : Part (link_begun left) (remaining came.reader) (remaining closed.reader) (contents came.writer)
        (contents closed.writer)

  -- Where memory was wanted: no link was asked for yet; or the last one was closed where memory was wanted on it.
  abbrev pub HasWanted : Type 0
  HasWanted = (told ≡ before) ⊎ HasServedPart (HasLacked is_made)

-- A link goes on, of which these frames were served.
abbrev pub GoesOn : Turn → (unread_before unread held_before held : Option (List ℕ)) → Type 0
GoesOn began unread_before unread held_before held =
    (s : HasServed (λ now. AreFirst) is_made began unread_before unread held_before held)
    × (turns_in s.taken < MOST_TURNS)

-- Why a server serves no other link: none came; it served the most; the last one, which was closed, goes on and on.
abbrev pub HasStopped : Stop → {R W : Type 0} (remaining : R → Option (List ℕ)) (contents : W → Option (List ℕ))
    (first : Turn) (before told : List (Event R W)) → Type 0
HasStopped NoLink remaining contents first before told = HasServedFew remaining contents first before told None
HasStopped MostLinks remaining contents first before told = (left : Turn)
    × Served remaining contents first before told MOST_LINKS left
HasStopped Long remaining contents first before told = HasServedPart remaining contents first before told GoesOn

-- The next link, behind so many that were served: one that came, or none did, or the most were served and none was
-- asked for.
abbrev pub IsNext : {R W : Type 0} → Result (Link R W) Stop → (count : ℕ) → (before told : List (Event R W)) → Type 0
IsNext (Ok link) count before told = (count < MOST_LINKS) × (told ≡ Came (Some link) ∷ before)
IsNext (Err NoLink) count before told = (count < MOST_LINKS) × (told ≡ Came None ∷ before)
IsNext (Err MostLinks) count before told = (MOST_LINKS ≤ count) × (told ≡ before)
IsNext (Err Long) count before told = ⊥
