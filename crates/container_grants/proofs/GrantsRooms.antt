-- Room that was taken before a server ended still serves once its objects are passive and others are told of their
-- grants.
use Rattle.std.proofs.Common.{◌≡◌, ◌+◌, ◌++◌, ◌==◌, ℕ, suc, Bool, true, false, List, [], ◌∷◌, length, map, Option, Some}
use Rattle.std.proofs.Common.{None, refl, ap, ◌∙◌, subst, arith, if◌then◌else◌}
use Rattle.std.proofs.lemmas.List.{length-append}
use Rattle.message_values.specs.Found.{find, put}
use Rattle.message_values.specs.declared.operation.Operation.{Operation}
use Rattle.message_values.specs.declared.operation.Operation.TheVariants.{UiActivate}
use Rattle.object_state.specs.declared.grant_states.Claim.{Claim}
use Rattle.container_model.specs.declared.record.Frame.{Frame}
use Rattle.container_model.specs.declared.record.Link.{Link}
use Rattle.container_model.specs.declared.record.Object.{Object}
use Rattle.container_model.specs.Grants.{freed_frame}
use Rattle.container_model.specs.Messages.{reaped_object}
use Rattle.container_model.specs.Record.{ask_at, asked_link, asked_sent, is_object}
use Rattle.container_model.specs.Room.{IfLinked}
use Rattle.container_model.specs.Saves.{kept}
use Rattle.container_grants.specs.Granted.{asked_by, asked_in, sent_by, sent_in}
use Rattle.container_grants.specs.Places.{AllHavePlaces, HasPlace, HavePlaces, IsRoomyFor, free, free_at, free_link}
use Rattle.container_grants.specs.declared.rooms.FrameRooms.{FrameRooms}
use Rattle.container_grants.specs.declared.rooms.Room.{Room}
use Rattle.container_checks.proofs.LookupPlaces.{found_number}
use Rattle.container_grants.proofs.GrantsEach.{granted_objects, granted_sent}

-- an object of a server that has ended
reaped_place : (more f inc : ℕ) (o : Object) (room : Room) (link : Option Link) → o.link ≡ link
    → HasPlace more f o room → HasPlace more f (reaped_object inc o link) room
reaped_place more f inc o room None e h = h
reaped_place more f inc o room (Some l) e h =
    elim (l.inc == inc) as (λ b. HasPlace more f (if b then record o { work = kept o; link = None } else o) room) [
      | true ↦ (λ at. tt)
      | false ↦ h
    ]

reaped_places : (more f inc : ℕ) (os : List Object) (rooms : List Room) → HavePlaces more f os rooms
    → HavePlaces more f (map (λ o. reaped_object inc o o.link) os) rooms
reaped_places more f inc [] [] h = tt
reaped_places more f inc [] (room ∷ rooms) h = absurd h
reaped_places more f inc (o ∷ os) [] h = absurd h
reaped_places more f inc (o ∷ os) (room ∷ rooms) h =
    (reaped_place more f inc o room o.link refl h.0, reaped_places more f inc os rooms h.1)

-- an object that is told of its grant
asked_roomy : (more : ℕ) (op : Operation) (room : Room) (l : Link) (p : Option Operation) → l.pending ≡ p
    → IsRoomyFor (suc more) room l → IsRoomyFor more room (ask_at l op p).link
asked_roomy more op room l None e h = let place = h.place in let number = h.number in
    record { empty = h.empty; place = omega arith; number = omega arith }
asked_roomy more op room l (Some before) e h =
    let place = h.place in let number = h.number in
    let more_by : length (l.waiting ++ op ∷ []) ≡ length l.waiting + 1 = length-append l.waiting (op ∷ []) in
    record { empty = h.empty; place = omega arith; number = omega arith }

asked_linked : (more : ℕ) (op : Operation) (room : Room) (link : Option Link)
    → IfLinked (IsRoomyFor (suc more) room) link → IfLinked (IsRoomyFor more room) (asked_link op link)
asked_linked more op room None h = tt
asked_linked more op room (Some l) h = asked_roomy more op room l l.pending refl h

less_linked : (more : ℕ) (room : Room) (link : Option Link) → IfLinked (IsRoomyFor (suc more) room) link
    → IfLinked (IsRoomyFor more room) link
less_linked more room None h = tt
less_linked more room (Some l) h = let place = h.place in let number = h.number in
    record { empty = h.empty; place = omega arith; number = omega arith }

less_places : (more f : ℕ) (os : List Object) (rooms : List Room) → HavePlaces (suc more) f os rooms
    → HavePlaces more f os rooms
less_places more f [] [] h = tt
less_places more f [] (room ∷ rooms) h = absurd h
less_places more f (o ∷ os) [] h = absurd h
less_places more f (o ∷ os) (room ∷ rooms) h =
    ((λ at. less_linked more room o.link (h.0 at)), less_places more f os rooms h.1)

put_first : (more f : ℕ) (op : Operation) (test : Object → Bool) (x : Object) (os : List Object) (room : Room)
    (rooms : List Room) (o : Object) (b : Bool) → test x ≡ b
    → (find test os ≡ Some o → HavePlaces (suc more) f os rooms
    → HavePlaces more f (put test (record o { link = asked_link op o.link }) os) rooms)
    → (if b then Some x else find test os) ≡ Some o → HavePlaces (suc more) f (x ∷ os) (room ∷ rooms)
    → HavePlaces more f (if b then record o { link = asked_link op o.link } ∷ os
    else x ∷ put test (record o { link = asked_link op o.link }) os) (room ∷ rooms)
put_first more f op test x os room rooms o true t later found h =
    let same : x ≡ o = ap (λ p. elim p [ None ↦ x | Some y ↦ y ]) found in
    subst (λ y. HavePlaces more f (record y { link = asked_link op y.link } ∷ os) (room ∷ rooms)) same
    ((λ at. asked_linked more op room x.link (h.0 at)), less_places more f os rooms h.1)
put_first more f op test x os room rooms o false t later found h =
    ((λ at. less_linked more room x.link (h.0 at)), later found h.1)

put_places : (more f : ℕ) (op : Operation) (test : Object → Bool) (os : List Object) (rooms : List Room)
    (o : Object) → find test os ≡ Some o → HavePlaces (suc more) f os rooms
    → HavePlaces more f (put test (record o { link = asked_link op o.link }) os) rooms
put_places more f op test [] rooms o found h = absurd (cc)
put_places more f op test (x ∷ os) [] o found h = absurd h
put_places more f op test (x ∷ os) (room ∷ rooms) o found h = put_first more f op test x os room rooms o (test x)
    refl (put_places more f op test os rooms o) found h

asked_places : (more f n : ℕ) (op : Operation) (os : List Object) (rooms : List Room) (found : Option Object)
    → find (is_object n) os ≡ found → HavePlaces (suc more) f os rooms
    → HavePlaces more f (asked_in op os found) rooms
asked_places more f n op os rooms None e h = less_places more f os rooms h
asked_places more f n op os rooms (Some o) e h = put_places more f op (is_object o.number) os rooms o
    (ap (λ m. find (is_object m) os) (found_number n os o e) ∙ e) h

granted_places : (f : ℕ) (claims : List Claim) (os : List Object) (rooms : List Room)
    → HavePlaces (length claims) f os rooms → HavePlaces 0 f (granted_objects os claims) rooms
granted_places f [] os rooms h = h
granted_places f (claim ∷ claims) os rooms h =
    granted_places f claims (asked_by claim.object (UiActivate claim.g) os) rooms
    (asked_places (length claims) f claim.object (UiActivate claim.g) os rooms
    (find (is_object claim.object) os) refl h)

-- room for all frames
pub rooms_left : (f inc : ℕ) (all os : List Object) (claims : List Claim) (frames : List Frame)
    (qs : List FrameRooms) → AllHavePlaces (length claims) f frames os qs
    → AllHavePlaces 0 f (map (freed_frame inc all) frames)
    (granted_objects (map (λ o. reaped_object inc o o.link) os) claims) qs
rooms_left f inc all os claims [] [] h = tt
rooms_left f inc all os claims [] (q ∷ qs) h = absurd h
rooms_left f inc all os claims (frame ∷ frames) [] h = absurd h
rooms_left f inc all os claims (frame ∷ frames) (q ∷ qs) h = (
  (λ leaves. granted_places f claims (map (λ o. reaped_object inc o o.link) os) q.rooms.items
      (reaped_places (length claims) f inc os q.rooms.items (h.0 leaves))),
  rooms_left (f + 1) inc all os claims frames qs h.1,
)

-- ---- no more is sent than activations have no call pending
free_asked_at : (op : Operation) (l : Link) (p : Option Operation) → l.pending ≡ p
    → length (ask_at l op p).sent + free_at (ask_at l op p).link.pending ≡ free_at p
free_asked_at op l None e = refl
free_asked_at op l (Some before) e = rw e refl

free_asked : (op : Operation) (link : Option Link) → length (asked_sent op link) + free_link (asked_link op link)
    ≡ free_link link
free_asked op None = refl
free_asked op (Some l) = free_asked_at op l l.pending refl

free_first : (op : Operation) (test : Object → Bool) (x : Object) (os : List Object) (o : Object) (b : Bool)
    → test x ≡ b
    → (find test os ≡ Some o → length (asked_sent op o.link)
    + free (put test (record o { link = asked_link op o.link }) os) ≡ free os)
    → (if b then Some x else find test os) ≡ Some o
    → length (asked_sent op o.link) + free (if b then record o { link = asked_link op o.link } ∷ os
    else x ∷ put test (record o { link = asked_link op o.link }) os) ≡ free_link x.link + free os
free_first op test x os o true t later found =
    let same : x ≡ o = ap (λ p. elim p [ None ↦ x | Some y ↦ y ]) found in
    let one = free_asked op o.link in
    let links : free_link x.link ≡ free_link o.link = ap (λ (y : Object). free_link y.link) same in
    omega arith
free_first op test x os o false t later found = let rest = later found in omega arith

free_put : (op : Operation) (test : Object → Bool) (os : List Object) (o : Object) → find test os ≡ Some o
    → length (asked_sent op o.link) + free (put test (record o { link = asked_link op o.link }) os) ≡ free os
free_put op test [] o found = absurd (cc)
free_put op test (x ∷ os) o found = free_first op test x os o (test x) refl (free_put op test os o) found

free_by : (n : ℕ) (op : Operation) (os : List Object) (found : Option Object) → find (is_object n) os ≡ found
    → length (sent_in op found) + free (asked_in op os found) ≡ free os
free_by n op os None e = omega arith
free_by n op os (Some o) e = free_put op (is_object o.number) os o
    (ap (λ m. find (is_object m) os) (found_number n os o e) ∙ e)

pub free_granted : (claims : List Claim) (os : List Object)
    → length (granted_sent os claims) + free (granted_objects os claims) ≡ free os
free_granted [] os = omega arith
free_granted (claim ∷ claims) os =
    let one = free_by claim.object (UiActivate claim.g) os (find (is_object claim.object) os) refl in
    let rest = free_granted claims (asked_by claim.object (UiActivate claim.g) os) in
    let all : length (granted_sent os (claim ∷ claims)) ≡ length (sent_by claim.object (UiActivate claim.g) os)
    + length (granted_sent (asked_by claim.object (UiActivate claim.g) os) claims) =
    length-append (sent_by claim.object (UiActivate claim.g) os)
    (granted_sent (asked_by claim.object (UiActivate claim.g) os) claims) in
    omega arith
