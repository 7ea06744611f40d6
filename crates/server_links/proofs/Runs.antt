-- What a server has come to by one more link, or one more pause of it.
use Rattle.std.proofs.Common.{◌≡◌, ◌<◌, ◌≤◌, ◌+◌, ℕ, List, [], ◌∷◌, ◌++◌, Option, Some, Result, Ok, Err, Bool, true}
use Rattle.std.proofs.Common.{false, refl, sym, ap, subst, ◌∙◌, arith, inr}
use Rattle.std.specs.Prelude.{OnOk}
use Rattle.object_core.specs.Content.{Content}
use Rattle.object_core.specs.Kinds as embed
use Rattle.message_model.specs.declared.frame.Frame.TheVariants as frame
use Rattle.server_core.specs.declared.server.Seat.{Seat}
use Rattle.server_model.specs.Server.{is_class}
use Rattle.server_links.proofs.Lacking.{first, left_as, wait_lacked}
use Rattle.server_links.specs.Links.{And, HasEnded, HasLacked, HasServed, IsUnderway, IsWaiting, MayOffer, Pauses}
use Rattle.server_links.specs.Links.{link_begun}
use Rattle.server_links.specs.Turns.{Turn, turned}
use Rattle.server_links.specs.View.{AreFirst, IsAt, IsIn, IsStarted}
use Rattle.server_links.specs.declared.link.Pause.{Pause}
use Rattle.server_links.specs.declared.link.Pause.TheVariants as pause
use Rattle.server_links.specs.declared.serving.End.{End}
use Rattle.server_links.specs.declared.serving.End.TheVariants.{Faulty, LastRead, Unread, Closed as over_closed}
use Rattle.server_links.specs.declared.serving.End.TheVariants.{Unwritten, LastTurn}
use Rattle.server_links.specs.declared.serving.Serving.{Serving}
use Rattle.server_links.specs.Events.{Came, Closed, Event}
use Rattle.server_links.specs.Served.{GoesOn, HasServedPart, HasStopped, HasWanted, IsKindOf, IsLeft, IsNext}
use Rattle.server_links.specs.Served.{MOST_LINKS, Served, is_made}
use Rattle.server_links.specs.Served.Served.{none, one_more}
use Rattle.server_links.specs.declared.kinds.Kind.{Kind}
use Rattle.server_links.specs.declared.kinds.Kind.TheVariants as kinds
use Rattle.server_links.specs.declared.links.Link.{Link}
use Rattle.server_links.specs.declared.all_links.Stop.{Stop}
use Rattle.server_links.specs.declared.all_links.Stop.TheVariants.{NoLink, MostLinks, Long}

abbrev Is : Bool → Type 0
Is true = Unit {0}
Is false = ⊥

true_false : true ≡ false → ⊥
true_false e = subst Is e tt

module _ {X : Type 0} {V : X → Type 0} (content : Seat X V → Content) (v : Serving X V) (made : List ℕ → Bool)
    (began : Turn) (ub u hb h : Option (List ℕ)) where
  -- A link is over, and leaves the server at a turn.
  pub record Leaves (end : End) : Type 0 where
    pub left : Turn
    pub is : IsIn content v left
    pub gone : HasEnded end (IsLeft left) made began ub u hb h

  abbrev left_so : (s : HasServed (IsAt content v) made began ub u hb h) → HasServed (IsLeft s.now) made began ub u hb h
  left_so s = left_as (IsAt content v) (IsLeft s.now) made began ub u hb h s
      (refl, first v.decoder s.fed s.taken s.at.read)

  pub leaves : (end : End) → HasEnded end (IsAt content v) made began ub u hb h → Leaves end
  leaves (Faulty fault) e = record { left = e.0.now; is = e.0.at.turn; gone = (left_so e.0, e.1) }
  leaves LastRead e = record { left = e.0.now; is = e.0.at.turn; gone = (left_so e.0, e.1) }
  leaves Unread e = record { left = e.0.now; is = e.0.at.turn; gone = (left_so e.0, e.1) }
  leaves over_closed e = record { left = e.0.0.now; is = e.0.0.at.turn; gone = ((left_so e.0.0, e.0.1), e.1) }
  leaves LastTurn e = record { left = e.0.now; is = e.0.at.turn; gone = (left_so e.0, e.1) }
  leaves Unwritten e =
      let s = e.served in record {
        left = turned s.now;
        is = s.at.turn;
        gone = record {
          before = e.before;
          served = left_as (And (IsAt content v) frame.Turn turned) (And (IsLeft (turned s.now)) frame.Turn turned)
              made began ub u hb e.before s
              (refl, first v.decoder s.fed (s.taken ++ frame.Turn ∷ []) s.at.read);
          part = e.part;
          turns = e.turns;
        };
      }

module _ {X : Type 0} {V : X → Type 0} (content : Seat X V → Content) {R W : Type 0}
    (remaining : R → Option (List ℕ)) (contents : W → Option (List ℕ)) (begun : Turn)
    (before : List (Event R W)) where
  -- A link came behind so many that were served, and stands so; it goes on.
  pub record IsOn (v : Serving X V) (link : Link R W) (count : ℕ) (told : List (Event R W)) : Type 0 where
    pub came : Link R W
    pub links : List (Event R W)
    pub left : Turn
    pub served : Served remaining contents begun before links count left
    pub few : count < MOST_LINKS
    pub behind : told ≡ Came (Some came) ∷ links
    pub on : IsUnderway content v is_made (link_begun left) (remaining came.reader) (remaining link.reader)
        (contents came.writer) (contents link.writer)

  -- the first link
  pub on_first : (v : Serving X V) (link : Link R W) (told : List (Event R W)) → told ≡ Came (Some link) ∷ before
      → ((unread held : Option (List ℕ)) → IsUnderway content v is_made (link_begun begun) unread unread held held)
      → IsOn v link 0 told
  on_first v link told e on = record {
    came = link;
    links = before;
    left = begun;
    served = none;
    few = omega arith;
    behind = e;
    on = on (remaining link.reader) (contents link.writer);
  }

  module _ (v w : Serving X V) (link later : Link R W) (count : ℕ) (told : List (Event R W))
      (s : IsOn v link count told) where
    -- it was closed, and was served so
    abbrev closed_so : (Part : Turn → (unread_before unread held_before held : Option (List ℕ)) → Type 0)
        (now : List (Event R W)) → now ≡ Closed later ∷ told
        → Part (link_begun s.left) (remaining s.came.reader) (remaining later.reader) (contents s.came.writer)
        (contents later.writer) → HasServedPart remaining contents begun before now Part
    closed_so Part now e part = record {
      links = s.links;
      count = count;
      left = s.left;
      served = s.served;
      few = s.few;
      came = s.came;
      closed = later;
      behind = e ∙ ap (λ x. Closed later ∷ x) s.behind;
      part = part;
    }

    -- memory was wanted on it
    pub lacked_on : (now : List (Event R W)) → now ≡ Closed later ∷ told
        → HasLacked is_made (link_begun s.left) (remaining s.came.reader) (remaining later.reader)
        (contents s.came.writer) (contents later.writer) → HasWanted remaining contents begun before now
    lacked_on now e h = inr (closed_so (HasLacked is_made) now e h)

    -- it goes on
    abbrev pub still_on : IsUnderway content w is_made (link_begun s.left) (remaining s.came.reader)
        (remaining later.reader) (contents s.came.writer) (contents later.writer)
        → IsOn w later count told
    still_on on = record {
      came = s.came;
      links = s.links;
      left = s.left;
      served = s.served;
      few = s.few;
      behind = s.behind;
      on = on;
    }

    -- how it stands where the server paused
    abbrev pub PausedAs : Pause → Type 0
    PausedAs p =
        Pauses content p w is_made (link_begun s.left) (remaining s.came.reader) (remaining later.reader)
        (contents s.came.writer) (contents later.writer)

    -- the server stood still, and goes on
    pub long_on : (p : Pause) → p ≡ pause.Long → PausedAs p → IsOn w later count told
    long_on p e h = still_on ((subst PausedAs e h).0)

    -- memory was wanted for the object that a call wants
    pub wait_lacked_on : (p : Pause) (class : List ℕ) (now : List (Event R W)) → p ≡ pause.Wants class → PausedAs p
        → now ≡ Closed later ∷ told → HasWanted remaining contents begun before now
    wait_lacked_on p class now is h e =
        lacked_on now e (wait_lacked content is_made w (link_begun s.left) (remaining s.came.reader)
        (remaining later.reader) (contents s.came.writer) (contents later.writer) class
        ((subst PausedAs is h).1))

    -- what the server is left as where it goes on
    abbrev pub Stays : Serving X V → Type 0
    Stays x = IsStarted x × (count < MOST_LINKS) × IsOn x later count told

    -- a call wants an object of a class that isn't made
    pub passed_on : (x : Serving X V) (p : Pause) (class : List ℕ) (kind : Kind) → x ≡ w → IsStarted w
        → p ≡ pause.Wants class → kind ≡ kinds.Other → IsKindOf kind class → PausedAs p → Stays x
    passed_on x p class kind same started e is k h =
        subst Stays (sym same) (started, s.few, still_on ((subst PausedAs e h).0 (subst (λ x. IsKindOf x class) is k)))

    -- an object is offered to a call that wants one, by what an offer does
    pub offered_on : {A E : Type 0} (x y : Serving X V) (offered done : Result A E) (a : A) (p : Pause)
        (class : List ℕ) (kind : embed.Kind) → y ≡ x → IsStarted x → offered ≡ done → offered ≡ Ok a
        → p ≡ pause.Wants class → is_class kind class ≡ true → PausedAs p
        → ((began : Turn) (ub u hb h : Option (List ℕ)) (c : List ℕ) → IsWaiting content w is_made began ub u hb h c
        → MayOffer is_made kind c → OnOk done (IsUnderway content x is_made began ub u hb h))
        → Stays y
    offered_on x y offered done a p class kind same started e ok is of h offer =
        subst Stays (sym same) (
          started,
          s.few,
          record {
            came = s.came;
            links = s.links;
            left = s.left;
            served = s.served;
            few = s.few;
            behind = s.behind;
            on =
                subst (λ r. OnOk r (IsUnderway content x is_made (link_begun s.left) (remaining s.came.reader)
                (remaining later.reader) (contents s.came.writer) (contents later.writer))) (sym e ∙ ok)
                (offer (link_begun s.left) (remaining s.came.reader) (remaining later.reader)
                (contents s.came.writer) (contents later.writer) class
                ((subst PausedAs is h).1) (λ n. absurd (true_false (sym of ∙ n))));
          },
        )

    -- It is over. Behind its closing the next one came, or none.
    abbrev closed : (end : End) → PausedAs (pause.Over end)
        → Leaves content w is_made (link_begun s.left) (remaining s.came.reader) (remaining later.reader)
        (contents s.came.writer) (contents later.writer) end
    closed end h = leaves content w is_made (link_begun s.left) (remaining s.came.reader) (remaining later.reader)
        (contents s.came.writer) (contents later.writer) end h

    abbrev one : (end : End) (h : PausedAs (pause.Over end))
        → Served remaining contents begun before (Closed later ∷ told) (count + 1) (closed end h).left
    one end h = subst (λ x. Served remaining contents begun before (Closed later ∷ x) (count + 1)
        (closed end h).left) (sym s.behind) (one_more (closed end h).left s.came later end s.served
        (closed end h).gone)

    pub next_on : (x : Serving X V) (p : Pause) (end : End) (next : Link R W) (now : List (Event R W))
        → p ≡ pause.Over end → PausedAs p → IsNext (Ok next) (count + 1) (Closed later ∷ told) now
        → ((t : Turn) (unread held : Option (List ℕ)) → IsIn content w t
        → IsUnderway content x is_made (link_begun t) unread unread held held) → IsOn x next (count + 1) now
    next_on x p end next now e h n begin =
        let c = closed end (subst PausedAs e h) in record {
          came = next;
          links = Closed later ∷ told;
          left = c.left;
          served = one end (subst PausedAs e h);
          few = n.0;
          behind = n.1;
          on = begin c.left (remaining next.reader) (contents next.writer) c.is;
        }

    most : MOST_LINKS ≤ count + 1 → count + 1 ≡ MOST_LINKS
    most m = omega (arith, m, s.few)

    pub stopped : (p : Pause) (end : End) (stop : Stop) (now : List (Event R W)) → p ≡ pause.Over end → PausedAs p
        → IsNext (Err stop) (count + 1) (Closed later ∷ told) now
        → HasStopped stop remaining contents begun before now
    stopped p end NoLink now e h n = record {
      links = Closed later ∷ told;
      count = count + 1;
      left = (closed end (subst PausedAs e h)).left;
      served = one end (subst PausedAs e h);
      few = n.0;
      behind = n.1;
    }
    stopped p end MostLinks now e h n = (
      (closed end (subst PausedAs e h)).left,
      subst (λ x. Served remaining contents begun before x MOST_LINKS (closed end (subst PausedAs e h)).left) (sym n.1)
          (subst (λ k. Served remaining contents begun before (Closed later ∷ told) k
          (closed end (subst PausedAs e h)).left) (most n.0) (one end (subst PausedAs e h))),
    )
    stopped p end Long now e h n = absurd n

  -- it goes on and on, and was closed
  pub long_stopped : (v : Serving X V) (link : Link R W) (count : ℕ) (told now : List (Event R W))
      → IsOn v link count told → now ≡ Closed link ∷ told → HasStopped Long remaining contents begun before now
  long_stopped v link count told now s e =
      let u = s.on in
      closed_so v v link link count told s GoesOn now e (
        left_as (IsAt content v) (λ now. AreFirst) is_made (link_begun s.left) (remaining s.came.reader)
            (remaining link.reader) (contents s.came.writer) (contents link.writer) u.served
            (first v.decoder u.served.fed u.served.taken u.served.at.read),
        omega (arith, u.counted, u.more),
      )
