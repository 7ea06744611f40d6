-- What passes on a link, and what its decoder and the messages that wait have of it.
use Rattle.std.proofs.Common.{◌≡◌, ⊎_elim, ◌≤◌, ◌<◌, ◌+◌, ◌-◌, ◌==◌, ◌++◌, ℕ, zero, suc, Bool, true, false, List, []}
use Rattle.std.proofs.Common.{◌∷◌, length, remove, if◌then◌else◌, Option, Some, Result, Ok, Err, OnOk, refl, sym, ap}
use Rattle.std.proofs.Common.{◌∙◌, subst, append_assoc, arith, slice_index_or, slice_set}
use Rattle.std.proofs.lemmas.Bool.{eqb-true, eq-eqb}
use Rattle.std.proofs.lemmas.Bool.Decides.{eqb_tells}
use Rattle.std.specs.List.{AllByRecursion}
use Rattle.message_values.specs.declared.message.Message.{Message}
use Rattle.message_model.specs.declared.fault.WireFault.{WireFault}
use Rattle.message_model.specs.declared.fault.WireFault.TheVariants as wire
use Rattle.message_model.specs.declared.frame.Frame.{Frame}
use Rattle.message_model.specs.declared.frame.Frame.TheVariants as frame
use Rattle.message_model.specs.Frames.{IsFrame}
use Rattle.message_model.specs.Spelling.{joined, spell}
use Rattle.message_bytes.specs.Fronts.{Feeds, HandsOut, Stands}
use Rattle.message_bytes.specs.declared.decoder.Decoder.{Decoder}
use Rattle.script_model.specs.Events.{Event, Started, Connected, Heard, Ended, running}
use Rattle.script_model.specs.Origins.{AreFirst, AreNext, Begins, Passed, fresh, giving, hearing, messages_of, passed}
use Rattle.script_model.specs.Origins.{relinked, unlinked}
use Rattle.script_links.specs.Links.{AreLinked, AreServed, EachServed, IsServed, beside, links_of}
use Rattle.script_links.specs.declared.links.Link.{Link}
use Rattle.script_links.proofs.Linked.{links_removed}

-- ---- frames

pub append_none : {A : Type 0} (xs : List A) → xs ++ [] ≡ xs
append_none [] = refl
append_none (x ∷ xs) = ap (λ ys. x ∷ ys) (append_none xs)

joined_both : (fs gs : List Frame) → joined (fs ++ gs) ≡ joined fs ++ joined gs
joined_both [] gs = refl
joined_both (f ∷ fs) gs = ap (λ bytes. spell f ++ bytes) (joined_both fs gs)
    ∙ sym (append_assoc (spell f) (joined fs) (joined gs))

pub messages_both : (fs gs : List Frame) → messages_of (fs ++ gs) ≡ messages_of fs ++ messages_of gs
messages_both [] gs = refl
messages_both (frame.Message m ∷ fs) gs = ap (λ ms. m ∷ ms) (messages_both fs gs)
messages_both (frame.Turn ∷ fs) gs = messages_both fs gs

first_each : (fs gs : List Frame) → AllByRecursion IsFrame (fs ++ gs) → AllByRecursion IsFrame fs
first_each [] gs all = tt
first_each (f ∷ fs) gs all = (all.0, first_each fs gs all.1)

-- What a decoder was fed begins with the frames that were taken.
begins : (d : Decoder) (fed : List ℕ) (taken : List Frame) → Stands d fed taken → Begins fed (messages_of taken)
begins d fed taken s = record {
  frames = taken;
  rest = joined d.waiting.items ++ s.rest;
  spelled = s.whole ∙ ap (λ bytes. bytes ++ s.rest) (joined_both taken d.waiting.items)
      ∙ append_assoc (joined taken) (joined d.waiting.items) s.rest;
  each = first_each taken d.waiting.items s.each;
  messages = refl;
}

-- ---- one link

-- the messages that were taken of all links of a served server
came_first : {p : Passed} {l : Link} {hand : List Message} (s : IsServed p l hand)
    → AreFirst (s.fed ∷ s.earlier) (s.before ++ messages_of s.taken)
came_first {l = l} s = (s.before, messages_of s.taken, refl, s.first, begins l.decoder s.fed s.taken s.stands)

-- What waits and is in hand comes next.
pub next_served : {p : Passed} {l : Link} {hand : List Message} → IsServed p l hand
    → AreFirst p.came (p.given ++ (l.waiting ++ hand))
next_served {p = p} {l = l} {hand = hand} s =
    subst (λ (bs : List (List ℕ)). AreFirst bs (p.given ++ (l.waiting ++ hand))) (sym s.came)
    (subst (λ (ms : List Message). AreFirst (s.fed ∷ s.earlier) ms) s.messages (came_first s))

-- what waits is next
pub waiting_next : (p : Passed) (l : Link) → IsServed p l [] → AreNext p l.waiting
waiting_next p l s = ([], next_served s)

-- of a link that isn't held, what is in hand is next
pub hand_next : (p : Passed) (l : Link) (m : Message) → l.held ≡ false → IsServed p l (m ∷ []) → AreNext p (m ∷ [])
hand_next p l m free s = (
  [],
  subst (λ (w : List Message). AreFirst p.came (p.given ++ (w ++ m ∷ []))) (s.idle free)
      (next_served s),
)

-- the first of several that are next
pub one_next : (p : Passed) (m : Message) (ms : List Message) → AreNext p (m ∷ ms) → AreNext p (m ∷ [])
one_next p m ms next = (ms ++ next.0, next.1)

-- and the others, once the container is given the first
rest_next : (p : Passed) (m : Message) (ms : List Message) → AreNext p (m ∷ ms) → AreNext (giving (m ∷ []) p) ms
rest_next p m ms next = (
  next.0,
  subst (λ (all : List Message). AreFirst p.came all)
      (sym (append_assoc p.given (m ∷ []) (ms ++ next.0))) next.1,
)

-- the container was given the first of what was to come: the others are next, and all of it is the same
pub others_next : (p now : Passed) (m : Message) (ms others : List Message) → ms ≡ m ∷ others
    → now ≡ giving (m ∷ []) p → AreNext p ms → AreNext now others
others_next p now m ms others is given next = subst (λ (q : Passed). AreNext q others) (sym given)
    (rest_next p m others (subst (λ (all : List Message). AreNext p all) is next))

giving_on : (p : Passed) (m : Message) (ms : List Message) → giving ms (giving (m ∷ []) p) ≡ giving (m ∷ ms) p
giving_on p m ms = ap (λ (all : List Message). record { came = p.came; given = all }) (append_assoc p.given (m ∷ []) ms)

pub others_given : (p now end : Passed) (m : Message) (ms others : List Message) → ms ≡ m ∷ others
    → now ≡ giving (m ∷ []) p → giving ms p ≡ end → giving others now ≡ end
others_given p now end m ms others is given all = ap (giving others) given ∙ giving_on p m others
    ∙ ap (λ (x : List Message). giving x p) (sym is) ∙ all

-- The container was given what is in hand.
pub hand_given : (p : Passed) (l : Link) (m : Message) → l.held ≡ false → IsServed p l (m ∷ [])
    → IsServed (giving (m ∷ []) p) l []
hand_given p l m free s = record {
  fed = s.fed;
  earlier = s.earlier;
  before = s.before;
  taken = s.taken;
  came = s.came;
  first = s.first;
  stands = s.stands;
  idle = s.idle;
  messages = s.messages ∙ ap (λ w. p.given ++ (w ++ m ∷ [])) (s.idle free) ∙ sym (append_assoc p.given (m ∷ []) [])
      ∙ ap (λ w. (p.given ++ m ∷ []) ++ (w ++ [])) (sym (s.idle free));
}

-- What is in hand is put to what waits.
pub hand_waits : (p : Passed) (l : Link) (m : Message) (w : List Message) → l.held ≡ true → w ≡ l.waiting ++ m ∷ []
    → IsServed p l (m ∷ []) → IsServed p (record l { waiting = w }) []
hand_waits p l m w held is s = record {
  fed = s.fed;
  earlier = s.earlier;
  before = s.before;
  taken = s.taken;
  came = s.came;
  first = s.first;
  stands = s.stands;
  idle = λ free. absurd (cc);
  messages = s.messages ∙ ap (λ ms. p.given ++ ms) (sym is ∙ sym (append_none w));
}

-- The container was given what waited, and the link holds nothing any more.
pub waiting_given : (p : Passed) (l : Link) → IsServed p l []
    → IsServed (giving l.waiting p) (record l { held = false; waiting = [] }) []
waiting_given p l s = record {
  fed = s.fed;
  earlier = s.earlier;
  before = s.before;
  taken = s.taken;
  came = s.came;
  first = s.first;
  stands = s.stands;
  idle = λ free. refl;
  messages = s.messages ∙ sym (append_assoc p.given l.waiting []);
}

-- The link is held.
pub held_served : (p : Passed) (l : Link) → IsServed p l [] → IsServed p (record l { held = true }) []
held_served p l s = record {
  fed = s.fed;
  earlier = s.earlier;
  before = s.before;
  taken = s.taken;
  came = s.came;
  first = s.first;
  stands = s.stands;
  messages = s.messages;
  idle = λ free. absurd (cc);
}

-- what a decoder's next frame leaves
abbrev pub Gives : Result (Option Frame) WireFault → Decoder → Decoder → Type 0
Gives r old new = (fed : List ℕ) (taken : List Frame) → Stands old fed taken → HandsOut r fed taken new

pub message_taken : (p : Passed) (l : Link) (d : Decoder) (m : Message) (r : Result (Option Frame) WireFault)
    → r ≡ Ok (Some (frame.Message m)) → Gives r l.decoder d → IsServed p l []
    → IsServed p (record l { decoder = d }) (m ∷ [])
message_taken p l d m r is gives s = record {
  fed = s.fed;
  earlier = s.earlier;
  before = s.before;
  taken = s.taken ++ frame.Message m ∷ [];
  came = s.came;
  first = s.first;
  stands = (subst (λ x. HandsOut x s.fed s.taken d) is (gives s.fed s.taken s.stands)).0;
  idle = s.idle;
  messages = ap (λ ms. s.before ++ ms) (messages_both s.taken (frame.Message m ∷ []))
      ∙ sym (append_assoc s.before (messages_of s.taken) (m ∷ []))
      ∙ ap (λ ms. ms ++ m ∷ []) (s.messages ∙ ap (λ ms. p.given ++ ms) (append_none l.waiting))
      ∙ append_assoc p.given l.waiting (m ∷ []);
}

pub turn_taken : (p : Passed) (l : Link) (d : Decoder) (r : Result (Option Frame) WireFault)
    → r ≡ Ok (Some frame.Turn) → Gives r l.decoder d → IsServed p l [] → IsServed p (record l { decoder = d }) []
turn_taken p l d r is gives s = record {
  fed = s.fed;
  earlier = s.earlier;
  before = s.before;
  taken = s.taken ++ frame.Turn ∷ [];
  came = s.came;
  first = s.first;
  stands = (subst (λ x. HandsOut x s.fed s.taken d) is (gives s.fed s.taken s.stands)).0;
  idle = s.idle;
  messages = ap (λ ms. s.before ++ ms) (messages_both s.taken (frame.Turn ∷ []) ∙ append_none (messages_of s.taken))
      ∙ s.messages;
}

-- A piece that came is fed.
fed_on : (p : Passed) (l : Link) (d : Decoder) (piece : List ℕ) (s : IsServed p l [])
    → Stands d (s.fed ++ piece) s.taken → IsServed (hearing piece p) (record l { decoder = d }) []
fed_on p l d piece s stands = record {
  fed = s.fed ++ piece;
  earlier = s.earlier;
  before = s.before;
  taken = s.taken;
  first = s.first;
  stands = stands;
  idle = s.idle;
  messages = s.messages;
  came = ap (λ bs. (hearing piece (record { came = bs; given = [] })).came) s.came;
}

abbrev pub Takes : Result (Unit {0}) WireFault → List ℕ → Decoder → Decoder → Type 0
Takes r piece old new = (fed : List ℕ) (taken : List Frame) → Stands old fed taken → Feeds r fed piece taken new

piece_fed : (p : Passed) (l : Link) (d : Decoder) (piece : List ℕ) (r : Result (Unit {0}) WireFault)
    → (r ≡ Err wire.NoMemory → ⊥) → Takes r piece l.decoder d → IsServed p l []
    → IsServed (hearing piece p) (record l { decoder = d }) []
piece_fed p l d piece (Ok u) some feeds s = fed_on p l d piece s (feeds s.fed s.taken s.stands).0
piece_fed p l d piece (Err e) some feeds s = ⊎_elim (λ was. absurd (some (ap Err was.0)))
    (λ took. fed_on p l d piece s took.0) (feeds s.fed s.taken s.stands)

-- Nothing came.
pub nothing_heard : (p : Passed) (l : Link) → IsServed p l [] → IsServed (hearing [] p) l []
nothing_heard p l s = record {
  fed = s.fed;
  earlier = s.earlier;
  before = s.before;
  taken = s.taken;
  first = s.first;
  stands = s.stands;
  idle = s.idle;
  messages = s.messages;
  came = ap (λ bs. (hearing [] (record { came = bs; given = [] })).came) s.came
      ∙ ap (λ bytes. bytes ∷ s.earlier) (append_none s.fed);
}

-- The link is made anew.
made_anew : (p : Passed) (l : Link) (d : Decoder) → Stands d [] [] → IsServed p l []
    → IsServed (relinked p) (record l { decoder = d }) []
made_anew p l d stands s = record {
  fed = [];
  earlier = s.fed ∷ s.earlier;
  before = s.before ++ messages_of s.taken;
  taken = [];
  first = came_first s;
  stands = stands;
  idle = s.idle;
  came = ap (λ bs. (relinked (record { came = bs; given = [] })).came) s.came;
  messages = append_none (s.before ++ messages_of s.taken) ∙ s.messages;
}

-- A link on which nothing came.
pub new_served : (s : ℕ) (d : Decoder) → Stands d [] []
    → IsServed fresh (record { inc = s; decoder = d; held = false; waiting = [] }) []
new_served s d stands = record {
  fed = [];
  earlier = [];
  before = [];
  taken = [];
  came = refl;
  first = refl;
  stands = stands;
  messages = refl;
  idle = λ free. refl;
}

-- ---- all links

eqb_same : (n : ℕ) → (n == n) ≡ true
eqb_same n = eq-eqb n n refl

eqb_other : (a b : ℕ) → (a == b) ≡ false → (b == a) ≡ false
eqb_other a b apart = ⊎_elim (λ is. let both : (a == b) ≡ true = eq-eqb a b (sym is.1) in absurd (cc))
    (λ not. not.0) (eqb_tells b a)

none_of : (b : Bool) (n : ℕ) → n + (if b then 1 else 0) ≡ 0 → (n ≡ 0) × (b ≡ false)
none_of true n is = absurd (omega (arith, is))
none_of false n is = (omega (arith, is), refl)

no_more : (b : Bool) (n : ℕ) → n + (if b then 1 else 0) ≤ 1 → b ≡ true → n ≡ 0
no_more true n few is = omega (arith, few)
no_more false n few is = absurd (cc)

pub not_this : (b : Bool) (n : ℕ) → n + (if b then 1 else 0) ≤ 1 → 1 ≤ n → b ≡ false
not_this true n few some = absurd (omega (arith, few, some))
not_this false n few some = refl

pub with_this : (b : Bool) (n : ℕ) → b ≡ true → 1 ≤ n + (if b then 1 else 0)
with_this true n is = omega arith
with_this false n is = absurd (cc)

chosen : (b : Bool) (x y : Passed) → b ≡ true → (if b then x else y) ≡ x
chosen true x y is = refl
chosen false x y is = absurd (cc)

left_out : (b : Bool) (x y : Passed) → b ≡ false → (if b then unlinked else x) ≡ (if b then unlinked else y) → x ≡ y
left_out true x y is same = absurd (cc)
left_out false x y is same = same

pub twice : (b : Bool) (x y : Passed) → (if b then unlinked else (if b then x else y)) ≡ (if b then unlinked else y)
twice true x y = refl
twice false x y = refl

-- What passed with the other servers is the same.
abbrev pub Apart : ℕ → (f g : ℕ → Passed) → Type 0
Apart inc f g = (s : ℕ) → (if inc == s then unlinked else g s) ≡ (if inc == s then unlinked else f s)

some_at : (ls : List Link) (place : ℕ) (d : Link) (inc : ℕ) → place < length ls
    → (slice_index_or ls place d).inc ≡ inc → 1 ≤ links_of inc ls
some_at [] place d inc within is = absurd (omega (arith, within))
some_at (x ∷ xs) zero d inc within is = with_this (x.inc == inc) (links_of inc xs) (eq-eqb x.inc inc is)
some_at (x ∷ xs) (suc place) d inc within is = let some = some_at xs place d inc (omega (arith, within)) is in
    omega (arith, some)

module _ (f g : ℕ → Passed) where
  -- what passed with each server is the same
  pub same_served : (ls : List Link) → ((s : ℕ) → g s ≡ f s) → EachServed f ls → EachServed g ls
  same_served [] same all = tt
  same_served (l ∷ ls) same all =
      (subst (λ (p : Passed). IsServed p l []) (sym (same l.inc)) all.0, same_served ls same all.1)

  one_apart : (inc : ℕ) (l : Link) → (l.inc == inc) ≡ false → Apart inc f g → IsServed (f l.inc) l []
      → IsServed (g l.inc) l []
  one_apart inc l other apart s = subst (λ (p : Passed). IsServed p l [])
      (sym (left_out (inc == l.inc) (g l.inc) (f l.inc) (eqb_other l.inc inc other) (apart l.inc))) s

  -- none of these links is this server's
  pub others_served : (inc : ℕ) (ls : List Link) → links_of inc ls ≡ 0 → Apart inc f g → EachServed f ls
      → EachServed g ls
  others_served inc [] none apart all = tt
  others_served inc (l ∷ ls) none apart all =
      let parts = none_of (l.inc == inc) (links_of inc ls) none in
      (one_apart inc l parts.1 apart all.0, others_served inc ls parts.0 apart all.1)

  -- the link at a place, which is the only one of its server, is served
  pub set_served : (ls : List Link) (place : ℕ) (l d : Link) → place < length ls → links_of l.inc ls ≤ 1
      → (slice_index_or ls place d).inc ≡ l.inc → Apart l.inc f g → IsServed (g l.inc) l [] → EachServed f ls
      → EachServed g (slice_set ls place l)
  set_served [] place l d within few is apart s all = absurd (omega (arith, within))
  set_served (x ∷ xs) zero l d within few is apart s all =
      (s, others_served l.inc xs (no_more (x.inc == l.inc) (links_of l.inc xs) few (eq-eqb x.inc l.inc is)) apart all.1)
  set_served (x ∷ xs) (suc place) l d within few is apart s all =
      let inside : place < length xs = omega (arith, within) in
      let other = not_this (x.inc == l.inc) (links_of l.inc xs) few (some_at xs place d l.inc inside is) in
      (one_apart l.inc x other apart all.0, set_served xs place l d inside (omega (arith, few)) is apart s all.1)

module _ (f : ℕ → Passed) where
  pub served_at : (ls : List Link) (place : ℕ) (d : Link) → place < length ls → EachServed f ls
      → IsServed (f (slice_index_or ls place d).inc) (slice_index_or ls place d) []
  served_at [] place d within all = absurd (omega (arith, within))
  served_at (x ∷ xs) zero d within all = all.0
  served_at (x ∷ xs) (suc place) d within all = served_at xs place d (omega (arith, within)) all.1

  pub remove_served : (ls : List Link) (place : ℕ) → EachServed f ls → EachServed f (remove ls place)
  remove_served [] zero all = tt
  remove_served [] (suc place) all = tt
  remove_served (x ∷ xs) zero all = all.1
  remove_served (x ∷ xs) (suc place) all = (all.0, remove_served xs place all.1)

  append_served : (ls : List Link) (l : Link) → EachServed f ls → IsServed (f l.inc) l [] → EachServed f (ls ++ l ∷ [])
  append_served [] l all s = (s, tt)
  append_served (x ∷ xs) l all s = (all.0, append_served xs l all.1 s)

-- ---- histories

pub reconnected : {D : Type 0} (es after : List (Event D)) (l : Link) (d : Decoder) (ok : Bool) → Stands d [] []
    → after ≡ Connected l.inc ok ∷ es → IsServed (passed l.inc es) l []
    → IsServed (passed l.inc after) (record l { decoder = d }) []
reconnected es after l d ok stands is s =
    let now : passed l.inc after ≡ relinked (passed l.inc es) = ap (passed l.inc) is
    ∙ chosen (l.inc == l.inc) (relinked (passed l.inc es)) (passed l.inc es) (eqb_same l.inc) in
    subst (λ (p : Passed). IsServed p (record l { decoder = d }) []) (sym now)
    (made_anew (passed l.inc es) l d stands s)

pub piece_heard : {D : Type 0} (es after : List (Event D)) (l : Link) (d : Decoder) (piece : List ℕ)
    (r : Result (Unit {0}) WireFault) → (r ≡ Err wire.NoMemory → ⊥) → Takes r piece l.decoder d
    → after ≡ Heard l.inc piece true ∷ es
    → IsServed (passed l.inc es) l [] → IsServed (passed l.inc after) (record l { decoder = d }) []
piece_heard es after l d piece r some feeds is s =
    let now : passed l.inc after ≡ hearing piece (passed l.inc es) = ap (passed l.inc) is
    ∙ chosen (l.inc == l.inc) (hearing piece (passed l.inc es)) (passed l.inc es) (eqb_same l.inc) in
    subst (λ (p : Passed). IsServed p (record l { decoder = d }) []) (sym now)
    (piece_fed (passed l.inc es) l d piece r some feeds s)

pub carried : {D : Type 0} (es after : List (Event D)) (ls new : List Link) → after ≡ es → new ≡ ls
    → AreServed es ls → AreServed after new
carried {D = D} es after ls new is same served = subst (λ (h : List (Event D)). AreServed h new) (sym is)
    (subst (λ (all : List Link). AreServed es all) (sym same) served)

-- Besides the link at this place none is its server's.
pub none_left : {D : Type 0} (es : List (Event D)) (ls : List Link) (place : ℕ) (l : Link) → place < length ls
    → l ≡ slice_index_or ls place l → ((s : ℕ) → running s es ≤ 1) → AreLinked es ls
    → links_of l.inc (remove ls place) ≡ 0
none_left es ls place l within is single linked =
    let few = single l.inc in
    let all = linked l.inc in
    let parts = links_removed l.inc ls place l within in
    let here : ((slice_index_or ls place l).inc == l.inc) ≡ true =
    eq-eqb (slice_index_or ls place l).inc l.inc (ap (λ (x : Link). x.inc) (sym is)) in
    no_more ((slice_index_or ls place l).inc == l.inc) (links_of l.inc (remove ls place))
    (omega (arith, few, all, parts)) here

-- The link at a place is another one of the same server.
pub placed_served : {D : Type 0} (es after : List (Event D)) (ls : List Link) (place : ℕ) (old new : Link)
    → place < length ls → old ≡ slice_index_or ls place old → ((s : ℕ) → running s es ≤ 1) → AreLinked es ls
    → new.inc ≡ old.inc
    → ((s : ℕ) → beside old.inc s after ≡ beside old.inc s es) → IsServed (passed new.inc after) new []
    → AreServed es ls → AreServed after (slice_set ls place new)
placed_served es after ls place old new within is single linked same apart s served =
    let few = single new.inc in
    let all = linked new.inc in
    set_served (λ n. passed n es) (λ n. passed n after) ls place new old within (omega (arith, few, all))
    (ap (λ (x : Link). x.inc) (sym is) ∙ sym same)
    (subst (λ (inc : ℕ). (n : ℕ) → beside inc n after ≡ beside inc n es) (sym same) apart) s served

-- The link at a place is held.
pub hold_served : (f : ℕ → Passed) (ls : List Link) (place : ℕ) (l : Link) → l ≡ slice_index_or ls place l
    → place < length ls → EachServed f ls → EachServed f (slice_set ls place (record l { held = true }))
hold_served f [] place l is within all = absurd (omega (arith, within))
hold_served f (x ∷ xs) zero l is within all =
    (held_served (f l.inc) l (subst (λ (y : Link). IsServed (f y.inc) y []) (sym is) all.0), all.1)
hold_served f (x ∷ xs) (suc place) l is within all = (all.0, hold_served f xs place l is (omega (arith, within)) all.1)

-- What waited of the link at a place comes next.
pub release_next : (f : ℕ → Passed) (ls : List Link) (place : ℕ) (l : Link) (ws : List Message) → place < length ls
    → l ≡ slice_index_or ls place l → ws ≡ (slice_index_or ls place l).waiting → EachServed f ls
    → AreNext (f l.inc) ws
release_next f ls place l ws within is waits all =
    let s = subst (λ (x : Link). IsServed (f x.inc) x []) (sym is) (served_at f ls place l within all) in
    subst (λ (ms : List Message). AreNext (f l.inc) ms) (ap (λ (x : Link). x.waiting) is ∙ sym waits)
    (waiting_next (f l.inc) l s)

remove_set : (ls : List Link) (place : ℕ) (l : Link) → place < length ls → remove (slice_set ls place l) place
    ≡ remove ls place
remove_set [] place l within = absurd (omega (arith, within))
remove_set (x ∷ xs) zero l within = refl
remove_set (x ∷ xs) (suc place) l within = ap (λ (ls : List Link). x ∷ ls)
    (remove_set xs place l (omega (arith, within)))

-- Of the link at a place, which is another one, more may be missing: the others are served.
pub others_placed : {D : Type 0} (es after : List (Event D)) (ls new : List Link) (place : ℕ) (old l : Link)
    → place < length ls → old ≡ slice_index_or ls place old → ((s : ℕ) → running s es ≤ 1) → AreLinked es ls
    → new ≡ slice_set ls place l
    → ((s : ℕ) → beside old.inc s after ≡ beside old.inc s es) → AreServed es ls → AreServed after (remove new place)
others_placed es after ls new place old l within is single linked set apart served =
    subst (λ (all : List Link). AreServed after all)
    (sym (ap (λ (all : List Link). remove all place) set ∙ remove_set ls place l within))
    (others_served (λ s. passed s es) (λ s. passed s after) old.inc (remove ls place)
    (none_left es ls place old within is single linked) apart
    (remove_served (λ s. passed s es) ls place served))

-- What waited was handed over.
pub release_served : {D : Type 0} (es after : List (Event D)) (ls new : List Link) (place : ℕ) (l : Link)
    (ws : List Message) → place < length ls → l ≡ slice_index_or ls place l
    → ws ≡ (slice_index_or ls place l).waiting
    → ((s : ℕ) → running s es ≤ 1) → AreLinked es ls
    → new ≡ slice_set ls place (record (slice_index_or ls place l) { held = false; waiting = [] })
    → ((s : ℕ) → beside l.inc s after ≡ beside l.inc s es) → passed l.inc after ≡ giving ws (passed l.inc es)
    → AreServed es ls → AreServed after new
release_served es after ls new place l ws within is waits single linked set apart given served =
    let s = subst (λ (x : Link). IsServed (passed x.inc es) x []) (sym is)
    (served_at (λ n. passed n es) ls place l within served) in
    let all : passed l.inc after ≡ giving l.waiting (passed l.inc es) = given
    ∙ ap (λ (ms : List Message). giving ms (passed l.inc es)) (waits ∙ ap (λ (x : Link). x.waiting) (sym is)) in
    subst (λ (all : List Link). AreServed after all)
    (sym (set ∙ ap (λ (x : Link). slice_set ls place (record x { held = false; waiting = [] })) (sym is)))
    (placed_served es after ls place l (record l { held = false; waiting = [] }) within is single linked refl apart
    (subst (λ (p : Passed). IsServed p (record l { held = false; waiting = [] }) []) (sym all)
    (waiting_given (passed l.inc es) l s)) served)

-- A server that ended has no link any more, and the others' are as they were.
pub ended_served : {D : Type 0} (es ended after : List (Event D)) (ls new : List Link) (place : ℕ) (l : Link)
    → place < length ls → l ≡ slice_index_or ls place l → new ≡ remove ls place → ((s : ℕ) → running s es ≤ 1)
    → AreLinked es ls
    → ended ≡ Ended l.inc ∷ es → ((s : ℕ) → passed s after ≡ passed s ended) → AreServed es (remove ls place)
    → AreServed after new
ended_served es ended after ls new place l within is rest single linked ends quiet served =
    subst (λ (all : List Link). AreServed after all) (sym rest)
    (same_served (λ s. passed s ended) (λ s. passed s after) (remove ls place) quiet
    (others_served (λ s. passed s es) (λ s. passed s ended) l.inc (remove ls place)
    (none_left es ls place l within is single linked)
    (λ s. ap (λ h. if l.inc == s then unlinked else passed s h) ends ∙ twice (l.inc == s) unlinked (passed s es))
    served))

pub unstarted_served : {D : Type 0} (es after : List (Event D)) (ls new : List Link) (session s : ℕ)
    → after ≡ Started session s false ∷ es → new ≡ ls → AreServed es ls → AreServed after new
unstarted_served es after ls new session s is same served =
    subst (λ (all : List Link). AreServed after all) (sym same)
    (same_served (λ n. passed n es) (λ n. passed n after) ls (λ n. ap (passed n) is) served)

-- A server that was started has a link, and had none.
pub started_served : {D : Type 0} (es after : List (Event D)) (ls new : List Link) (session s : ℕ) (l : Link)
    → links_of s ls ≡ 0 → l.inc ≡ s → IsServed fresh l [] → after ≡ Started session s true ∷ es → new ≡ ls ++ l ∷ []
    → AreServed es ls → AreServed after new
started_served es after ls new session s l none inc is started with_one served =
    let others = others_served (λ n. passed n es) (λ n. passed n after) s ls none
    (λ n. ap (λ h. if s == n then unlinked else passed n h) started ∙ twice (s == n) fresh (passed n es))
    served in
    let made : passed l.inc after ≡ fresh = ap (passed l.inc) started ∙ chosen (s == l.inc) fresh (passed l.inc es)
    (eq-eqb s l.inc (sym inc)) in
    subst (λ (all : List Link). AreServed after all) (sym with_one)
    (append_served (λ n. passed n after) ls l others (subst (λ (p : Passed). IsServed p l []) (sym made) is))

one_running : (b : Bool) (n : ℕ) → n ≤ 1 → (b ≡ true → n ≡ 0) → (if b then n + 1 else n) ≤ 1
one_running true n few none = let zero = none refl in omega (arith, zero)
one_running false n few none = few

pub started_single : {D : Type 0} (es : List (Event D)) (ls : List Link) (session s : ℕ) → links_of s ls ≡ 0
    → AreLinked es ls → ((n : ℕ) → running n es ≤ 1) → (n : ℕ) → running n (Started session s true ∷ es) ≤ 1
started_single es ls session s none linked single n = one_running (s == n) (running n es) (single n)
    (λ is. linked n ∙ subst (λ (m : ℕ). links_of m ls ≡ 0) (eqb-true s n is) none)

fewer : (b : Bool) (n : ℕ) → n ≤ 1 → (if b then n - 1 else n) ≤ 1
fewer true n few = omega (arith, few)
fewer false n few = few

pub ended_single : {D : Type 0} (es : List (Event D)) (s : ℕ) → ((n : ℕ) → running n es ≤ 1) → (n : ℕ)
    → running n (Ended s ∷ es) ≤ 1
ended_single es s single n = fewer (s == n) (running n es) (single n)

-- a call that does this whatever it answers
pub on_ok : {T E : Type 0} (r : Result T E) (P : Type 0) → P → OnOk r P
on_ok (Ok x) P fact = fact
on_ok (Err e) P fact = tt
