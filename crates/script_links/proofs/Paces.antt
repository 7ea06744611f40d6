-- What a command sends a server, how often its link is made anew, and how often it is read.
use Rattle.std.proofs.Common.{◌≡◌, ◌≤◌, ◌<◌, ◌+◌, ◌-◌, ◌==◌, ℕ, zero, suc, Bool, true, false, List, [], ◌∷◌, length}
use Rattle.std.proofs.Common.{remove, drop, if◌then◌else◌, Result, Ok, Err, OnOk, refl, sym, ap, ◌∙◌, subst, arith}
use Rattle.std.proofs.Common.{slice_index_or, slice_set}
use Rattle.std.specs.Prelude.{IfErr, IfOk, MatchResult, is_ok}
use Rattle.std.proofs.lemmas.Bool.{eqb-true, eq-eqb}
use Rattle.script_model.specs.Bounds.{IsWithin, Pace, linking, most_anew, pace, reading, resting, sending}
use Rattle.script_model.specs.Events.{Event, Connected, Heard, Sent, running}
use Rattle.container_model.specs.Record.{Record}
use Rattle.store_model.specs.declared.disk.Disk.{Ghosts as Disks}
use Rattle.script_links.specs.Links.{AreLinked, links_of}
use Rattle.script_links.specs.Ready.{AreDue, AreReady, GoesOn, HadTurn, HasLeft, HaveHad, IsReady, IsUnderway, MayLink}
use Rattle.script_links.specs.Ready.{pace_beside}
use Rattle.script_container.specs.Told.{IsTold}
use Rattle.script_container.specs.declared.fault.ScriptFault.{ScriptFault}
use Rattle.script_model.specs.declared.host.HostFault.{HostFault}
use Rattle.script_model.specs.declared.host.HostFault.TheVariants as host
use Rattle.script_links.specs.declared.links.Link.{Link}
use Rattle.script_links.proofs.Served.{none_left, not_this, with_this}

-- ---- one server

as_many : (n : ℕ) → n ≤ n
as_many n = omega arith

one_or_two : (b : Bool) → 1 ≤ (if b then 2 else 1)
one_or_two true = omega arith
one_or_two false = omega arith

-- a turn that isn't sent again
next_turn : (n : ℕ) (p : Pace) → p.is_anew ≡ false → p.turns ≤ n → IsReady (n + 1) p
next_turn n p sent few =
    let next : sending p ≡ record { turns = p.turns + 1; anew = 0; reads = 0; is_anew = false; links = p.links } =
    ap (λ b. if b then record {
      turns = p.turns;
      anew = p.anew;
      reads = p.reads;
      is_anew = false;
      links = p.links;
    } else record {
      turns = p.turns + 1;
      anew = 0;
      reads = 0;
      is_anew = false;
      links = p.links;
    }) sent in
    record {
      first = subst (λ (q : Pace). 1 ≤ q.turns) (sym next) (omega arith);
      turns = subst (λ (q : Pace). q.turns ≤ n + 1) (sym next) (omega (arith, few));
      anew = subst (λ (q : Pace). q.anew + 1 ≤ most_anew q.turns) (sym next) (one_or_two (p.turns + 1 == 1));
      reads = ap (λ (q : Pace). q.reads) next;
    }

pub had_turn : (n : ℕ) (before now : Pace) → HadTurn before now → IsReady n before → IsReady (n + 1) now
had_turn n before now had ready = next_turn n now had.sent (let few = ready.turns in let same = had.turns in
    omega (arith, same, few))

-- a turn that may come later may come now
pub sooner : (n m : ℕ) (p : Pace) → n ≤ m → IsReady n p → IsReady m p
sooner n m p le ready = record {
  first = ready.first;
  turns = let few = ready.turns in omega (arith, few, le);
  anew = ready.anew;
  reads = ready.reads;
}

pub rested : IsReady 1 resting
rested = record { first = omega arith; turns = omega arith; anew = omega arith; reads = refl }

-- ---- a turn of a server

sent_now : (b : Bool) (p q : Pace) → p.is_anew ≡ false → q.is_anew ≡ false → (if b then p else q).is_anew ≡ false
sent_now true p q one other = one
sent_now false p q one other = other

is_sent : (p : Pace) → (sending p).is_anew ≡ false
is_sent p = sent_now p.is_anew (record {
  turns = p.turns;
  anew = p.anew;
  reads = p.reads;
  is_anew = false;
  links = p.links;
}) (record { turns = p.turns + 1; anew = 0; reads = 0; is_anew = false; links = p.links }) refl
    refl

same_links_of : (b : Bool) (p q : Pace) (n : ℕ) → p.links ≡ n → q.links ≡ n → (if b then p else q).links ≡ n
same_links_of true p q n one other = one
same_links_of false p q n one other = other

-- a turn that is sent makes no link anew
sent_links : (p : Pace) → (sending p).links ≡ p.links
sent_links p = same_links_of p.is_anew
    (record { turns = p.turns; anew = p.anew; reads = p.reads; is_anew = false; links = p.links })
    (record { turns = p.turns + 1; anew = 0; reads = 0; is_anew = false; links = p.links }) p.links refl refl

-- its turn is sent
pub may_send : (p : Pace) → IsReady 1000 p → IsWithin (sending p)
may_send p ready = let few = ready.turns in let anew = ready.anew in let none = ready.reads in
    record { turns = few; anew = omega (arith, anew); reads = omega (arith, none) }

pub all_left : (n : ℕ) (p : Pace) → IsReady n p → HasLeft (sending p) 1000000
all_left n p ready = let none = ready.reads in omega (arith, none)

-- it was sent, and isn't read
pub none_heard : (p now : Pace) (left : ℕ) → now ≡ sending p → HasLeft (sending p) left → GoesOn (sending p) now left
none_heard p now left is has = subst (λ (q : Pace). GoesOn (sending p) q left) (sym is)
    (record { turns = refl; anew = refl; sent = is_sent p; reads = has; links = as_many (sending p).links })

pub sent_within : (p now : Pace) → now ≡ sending p → IsWithin (sending p) → IsWithin now
sent_within p now is within = subst (λ (q : Pace). IsWithin q) (sym is) within

pub may_hear : (p now : Pace) (left : ℕ) → now ≡ sending p → HasLeft (sending p) left → GoesOn now now left
may_hear p now left is has = subst (λ (q : Pace). GoesOn q q left) (sym is)
    (record { turns = refl; anew = refl; sent = is_sent p; reads = has; links = as_many (sending p).links })

pub heard_on : {T E : Type 0} (told : Result T E) (p now after : Pace) (left : ℕ) → now ≡ sending p
    → OnOk told (GoesOn now after left) → OnOk told (GoesOn (sending p) after left)
heard_on told p now after left is on = subst (λ (q : Pace). OnOk told (GoesOn q after left)) is on

-- what is carried out of what came leaves it as it is
pub paced_on : (before now after : Pace) (left : ℕ) → after ≡ now → GoesOn before now left → GoesOn before after left
paced_on before now after left is on = subst (λ (q : Pace). GoesOn before q left) (sym is) on

-- it is read once more
pub may_read : (before now : Pace) (left : ℕ) → IsWithin before → GoesOn before now left → 0 < left
    → IsWithin (reading now)
may_read before now left within on some =
    let few = within.turns in
    let turns = on.turns in
    let reads = on.reads in
    record {
      turns = omega (arith, few, turns);
      anew = subst (λ (t : ℕ). now.anew ≤ most_anew t) (sym on.turns)
          (subst (λ (a : ℕ). a ≤ most_anew before.turns) (sym on.anew) within.anew);
      reads = omega (arith, reads, some);
    }

pub read_on : (before now after : Pace) (left : ℕ) → after ≡ reading now → 0 < left → GoesOn before now left
    → GoesOn before after (left - 1)
read_on before now after left is some on =
    let reads = on.reads in
    subst (λ (q : Pace). GoesOn before q (left - 1)) (sym is)
    (record {
      turns = on.turns;
      anew = on.anew;
      sent = refl;
      reads = omega (arith, reads, some);
      links = on.links;
    })

-- its link is made anew, and its turn sent again
pub may_link : (p now : Pace) (left : ℕ) → IsReady 1000 p → GoesOn (sending p) now left → MayLink now
may_link p now left ready on = λ ok.
    let few = ready.turns in
    let turns = on.turns in
    let reads = on.reads in
    let anew = ready.anew in
    let same = on.anew in
    record {
      turns = omega (arith, few, turns);
      anew = subst (λ (t : ℕ). now.anew + 1 ≤ most_anew t) (sym on.turns) (omega (arith, anew, same));
      reads = omega (arith, reads);
    }

pub may_send_again : (p now after : Pace) (left : ℕ) (b : Bool) → b ≡ true → after ≡ linking b now → IsReady 1000 p
    → GoesOn (sending p) now left → IsWithin (sending after)
may_send_again p now after left b made is ready on =
    let may = may_link p now left ready on true in
    subst (λ (q : Pace). IsWithin (sending q)) (sym (is ∙ ap (λ (x : Bool). linking x now) made))
    (record { turns = may.turns; anew = may.anew; reads = may.reads })

pub left_again : (before now after : Pace) (left : ℕ) (b : Bool) → b ≡ true → after ≡ linking b now
    → GoesOn before now left → HasLeft (sending after) left
left_again before now after left b made is on = subst (λ (q : Pace). HasLeft (sending q) left)
    (sym (is ∙ ap (λ (x : Bool). linking x now) made)) on.reads

-- it had its turn
pub turn_over : (p now : Pace) (left : ℕ) → GoesOn (sending p) now left → HadTurn p now
turn_over p now left on = record {
  turns = on.turns;
  sent = on.sent;
  links = subst (λ (n : ℕ). n ≤ now.links) (sent_links p) on.links;
}

pub turn_unlinked : (p now after : Pace) (left : ℕ) (b : Bool) → b ≡ false → after ≡ linking b now
    → GoesOn (sending p) now left → HadTurn p after
turn_unlinked p now after left b made is on =
    let links = on.links in
    let same = sent_links p in
    subst (λ (q : Pace). HadTurn p q) (sym (is ∙ ap (λ (x : Bool). linking x now) made))
    (record { turns = on.turns; sent = refl; links = omega (arith, links, same) })

pub turn_again : (p now after end : Pace) (left more : ℕ) (b : Bool) → b ≡ true → after ≡ linking b now
    → GoesOn (sending p) now left → GoesOn (sending after) end more → HadTurn p end
turn_again p now after end left more b made is on again =
    let before = on.links in
    let same = sent_links p in
    let later = again.links in
    let kept = sent_links after in
    let one : after.links ≡ now.links + 1 = ap (λ (q : Pace). q.links) is in
    record {
      turns = again.turns ∙ ap (λ (q : Pace). (sending q).turns) (is ∙ ap (λ (x : Bool). linking x now) made)
          ∙ on.turns;
      sent = again.sent;
      links = omega (arith, before, same, later, kept, one);
    }

-- ---- calls

picked : (b : Bool) (x y : Pace) → b ≡ true → (if b then x else y) ≡ x
picked true x y is = refl
picked false x y is = absurd (cc)

pub sent_pace : {D : Type 0} (es after : List (Event D)) (inc : ℕ) (bytes : List ℕ) (ok : Bool)
    → after ≡ Sent inc bytes ok ∷ es → pace inc after ≡ sending (pace inc es)
sent_pace es after inc bytes ok is = ap (pace inc) is ∙ picked (inc == inc) (sending (pace inc es)) (pace inc es)
    (eq-eqb inc inc refl)

pub read_pace : {D : Type 0} (es after : List (Event D)) (inc : ℕ) (bytes : List ℕ) (ok : Bool)
    → after ≡ Heard inc bytes ok ∷ es → pace inc after ≡ reading (pace inc es)
read_pace es after inc bytes ok is = ap (pace inc) is ∙ picked (inc == inc) (reading (pace inc es)) (pace inc es)
    (eq-eqb inc inc refl)

-- whether a link was made anew, where the host's want of memory is told apart
pub made_so : (r : Result Bool ScriptFault) (answer : Result (Unit {0}) HostFault) (p now : Pace)
    → IfOk r (λ done. done ≡ is_ok answer) → IfErr r (λ _. answer ≡ Err host.NoMemory)
    → now ≡ linking (is_ok answer) p
    → MatchResult r (λ made. now ≡ linking made p) (λ _. now ≡ linking false p)
made_so (Ok done) answer p now is asked linked = linked ∙ ap (λ (b : Bool). linking b p) (sym is)
made_so (Err fault) answer p now is asked linked = linked
    ∙ ap (λ (a : Result (Unit {0}) HostFault). linking (is_ok a) p) asked

pub made_pace : {D : Type 0} (es after : List (Event D)) (inc : ℕ) (ok : Bool) → after ≡ Connected inc ok ∷ es
    → pace inc after ≡ linking ok (pace inc es)
made_pace es after inc ok is = ap (pace inc) is ∙ picked (inc == inc) (linking ok (pace inc es)) (pace inc es)
    (eq-eqb inc inc refl)

module _ {D : Type 0} {disks : Disks D} where
  pub connected_told : (es after : List (Event D)) (r : Record) (inc : ℕ) (ok : Bool)
      → after ≡ Connected inc ok ∷ es → MayLink (pace inc es) → IsTold disks es r → IsTold disks after r
  connected_told es after r inc ok is may t = subst (λ (h : List (Event D)). IsTold disks h r) (sym is)
      (record {
        recorded = t.recorded;
        sent = t.sent;
        bounded = (may ok, t.bounded);
        heard = t.heard;
        single = t.single;
        saved = t.saved;
        opened = t.opened;
        started = t.started;
        reaped = refl;
      })

-- ---- one server among others

left_out : (b : Bool) (x y : Pace) → b ≡ false → (if b then resting else x) ≡ (if b then resting else y) → x ≡ y
left_out true x y is same = absurd (cc)
left_out false x y is same = same

-- of this server, or of another one whose pace is the same
either : (b : Bool) (x y : Pace) (n : ℕ) → (if b then resting else x) ≡ (if b then resting else y)
    → (b ≡ true → IsReady n x) → (b ≡ false → IsReady n y) → IsReady n x
either true x y n same this other = this refl
either false x y n same this other = subst (λ (p : Pace). IsReady n p) (sym same) (other refl)

module _ {D : Type 0} where
  this_server : (inc s n : ℕ) (es : List (Event D)) → IsReady n (pace inc es) → (inc == s) ≡ true
      → IsReady n (pace s es)
  this_server inc s n es ready is = subst (λ (t : ℕ). IsReady n (pace t es)) (eqb-true inc s is) ready

  other_server : (inc s : ℕ) (es after : List (Event D)) → pace_beside inc s after ≡ pace_beside inc s es
      → (inc == s) ≡ false → pace s after ≡ pace s es
  other_server inc s es after same is = left_out (inc == s) (pace s after) (pace s es) is same

not_equal : (b : Bool) (inc s : ℕ) → (inc == s) ≡ b → (inc ≡ s → ⊥) → b ≡ false
not_equal true inc s is apart = absurd (apart (eqb-true inc s is))
not_equal false inc s is apart = refl

either_links : (b : Bool) (x y : Pace) → (if b then resting else x) ≡ (if b then resting else y)
    → (b ≡ true → y.links ≤ x.links) → y.links ≤ x.links
either_links true x y same this = this refl
either_links false x y same this = subst (λ (p : Pace). y.links ≤ p.links) (sym same) (as_many y.links)

-- a turn of one server makes no server's links fewer
pub links_on : {D : Type 0} (es after : List (Event D)) (i j : ℕ) → j ≡ i
    → ((s : ℕ) → pace_beside i s after ≡ pace_beside i s es) → HadTurn (pace i es) (pace j after) → (s : ℕ)
    → (pace s es).links ≤ (pace s after).links
links_on es after i j same aside had s =
    either_links (i == s) (pace s after) (pace s es) (aside s)
    (λ this. subst (λ (t : ℕ). (pace t es).links ≤ (pace t after).links) (eqb-true i s this)
    (subst (λ (t : ℕ). (pace i es).links ≤ (pace t after).links) same had.links))

-- nor do other calls
pub links_still : {D : Type 0} (first es after : List (Event D)) (s : ℕ) → pace s after ≡ pace s es
    → (pace s first).links ≤ (pace s es).links → (pace s first).links ≤ (pace s after).links
links_still first es after s paced less = subst (λ (p : Pace). (pace s first).links ≤ p.links) (sym paced) less

pub links_more : {D : Type 0} (first es after : List (Event D)) (s : ℕ) → (pace s es).links ≤ (pace s after).links
    → (pace s first).links ≤ (pace s es).links → (pace s first).links ≤ (pace s after).links
links_more first es after s more less = omega (arith, more, less)

-- a server without a link isn't one with a link
not_linked : (inc s : ℕ) (ls : List Link) → links_of inc ls ≡ 0 → 1 ≤ links_of s ls → (inc == s) ≡ false
not_linked inc s ls none some =
    not_equal (inc == s) inc s refl (λ same. let zero : links_of s ls ≡ 0 =
    subst (λ (t : ℕ). links_of t ls ≡ 0) same none in omega (arith, zero, some))

-- ---- links behind a place

-- whatever stands for a link that isn't there
pub any_at : (ls : List Link) (place : ℕ) (a b : Link) → place < length ls
    → slice_index_or ls place a ≡ slice_index_or ls place b
any_at [] place a b within = absurd (omega (arith, within))
any_at (x ∷ xs) zero a b within = refl
any_at (x ∷ xs) (suc place) a b within = any_at xs place a b (omega (arith, within))

pub set_at : (ls : List Link) (place : ℕ) (l d : Link) → place < length ls
    → slice_index_or (slice_set ls place l) place d ≡ l
set_at [] place l d within = absurd (omega (arith, within))
set_at (x ∷ xs) zero l d within = refl
set_at (x ∷ xs) (suc place) l d within = set_at xs place l d (omega (arith, within))

next : (place : ℕ) → place + 1 ≡ suc place
next place = omega arith

behind : (s : ℕ) (ls : List Link) (place : ℕ) (d : Link) → place < length ls
    → links_of s (drop place ls) ≡ links_of s (drop (suc place) ls)
    + (if (slice_index_or ls place d).inc == s then 1 else 0)
behind s [] place d within = absurd (omega (arith, within))
behind s (l ∷ ls) zero d within = refl
behind s (l ∷ ls) (suc place) d within = behind s ls place d (omega (arith, within))

fewer_behind : (s : ℕ) (ls : List Link) (place : ℕ) → links_of s (drop place ls) ≤ links_of s ls
fewer_behind s ls zero = omega arith
fewer_behind s [] (suc place) = omega arith
fewer_behind s (l ∷ ls) (suc place) = let few = fewer_behind s ls place in omega (arith, few)

behind_set : (ls : List Link) (place : ℕ) (l : Link) → drop (suc place) (slice_set ls place l) ≡ drop (suc place) ls
behind_set [] zero l = refl
behind_set [] (suc place) l = refl
behind_set (x ∷ xs) zero l = refl
behind_set (x ∷ xs) (suc place) l = behind_set xs place l

behind_removed : (ls : List Link) (place : ℕ) → place < length ls → drop place (remove ls place) ≡ drop (suc place) ls
behind_removed [] place within = absurd (omega (arith, within))
behind_removed (x ∷ xs) zero within = refl
behind_removed (x ∷ xs) (suc place) within = behind_removed xs place (omega (arith, within))

fewer_removed : (s : ℕ) (ls : List Link) (place : ℕ) → links_of s (remove ls place) ≤ links_of s ls
fewer_removed s [] zero = omega arith
fewer_removed s [] (suc place) = omega arith
fewer_removed s (l ∷ ls) zero = omega arith
fewer_removed s (l ∷ ls) (suc place) = let few = fewer_removed s ls place in omega (arith, few)

-- ---- a turn of all links

module _ {D : Type 0} where
  module _ (n : ℕ) (es after : List (Event D)) (ls : List Link) (place : ℕ) (within : place < length ls) where
    -- the link at the place is next
    pub is_next : (l : Link) → l ≡ slice_index_or ls place l → IsUnderway n es ls place → IsReady n (pace l.inc es)
    is_next l is u =
        let here : ((slice_index_or ls place l).inc == l.inc) ≡ true =
        eq-eqb (slice_index_or ls place l).inc l.inc (ap (λ (x : Link). x.inc) (sym is)) in
        u.later l.inc (subst (λ (k : ℕ). 1 ≤ k) (sym (behind l.inc ls place l within))
        (with_this ((slice_index_or ls place l).inc == l.inc) (links_of l.inc (drop (suc place) ls)) here))

    -- it had its turn
    pub turn_goes_on : (old new : Link) → old ≡ slice_index_or ls place old → ((s : ℕ) → links_of s ls ≤ 1)
        → new.inc ≡ old.inc → ((s : ℕ) → links_of s (slice_set ls place new) ≡ links_of s ls)
        → ((s : ℕ) → pace_beside old.inc s after ≡ pace_beside old.inc s es)
        → HadTurn (pace old.inc es) (pace new.inc after) → IsUnderway n es ls place
        → IsUnderway n after (slice_set ls place new) (place + 1)
    turn_goes_on old new is few same links aside had u = record {
      all = λ s some.
          either (old.inc == s) (pace s after) (pace s es) (n + 1) (aside s)
          (λ this. this_server old.inc s (n + 1) after
          (subst (λ (t : ℕ). IsReady (n + 1) (pace t after)) same
          (had_turn n (pace old.inc es) (pace new.inc after) had (is_next old is u))) this)
          (λ other. u.all s (subst (λ (k : ℕ). 1 ≤ k) (links s) some));
      later = λ s some.
          let parts = behind s ls place old within in
          let fewer = fewer_behind s ls place in
          let single = few s in
          let left : 1 ≤ links_of s (drop (suc place) ls) = subst (λ (all : List Link). 1 ≤ links_of s all)
          (ap (λ (k : ℕ). drop k (slice_set ls place new)) (next place) ∙ behind_set ls place new) some in
          let other : (old.inc == s) ≡ false = ap (λ (x : Link). x.inc == s) is
          ∙ not_this ((slice_index_or ls place old).inc == s) (links_of s (drop (suc place) ls))
          (omega (arith, parts, fewer, single)) left in
          subst (λ (p : Pace). IsReady n p) (sym (other_server old.inc s es after (aside s) other))
          (u.later s (omega (arith, parts, left)));
    }

    -- it was ended
    pub turn_without : (new : List Link) → new ≡ remove ls place → ((s : ℕ) → pace s after ≡ pace s es)
        → IsUnderway n es ls (place + 1) → IsUnderway n after new place
    turn_without new is paced u = record {
      all = λ s some.
          let few = fewer_removed s ls place in
          let left : 1 ≤ links_of s (remove ls place) = subst (λ (all : List Link). 1 ≤ links_of s all) is some in
          subst (λ (p : Pace). IsReady (n + 1) p) (sym (paced s)) (u.all s (omega (arith, few, left)));
      later = λ s some.
          let left : 1 ≤ links_of s (drop (suc place) ls) = subst (λ (all : List Link). 1 ≤ links_of s all)
          (ap (drop place) is ∙ behind_removed ls place within) some in
          subst (λ (p : Pace). IsReady n p) (sym (paced s))
          (u.later s (subst (λ (k : ℕ). 1 ≤ links_of s (drop k ls)) (sym (next place)) left));
    }

  -- ---- the beginning of a command

  pub all_rested : (es : List (Event D)) (ls : List Link) → ((s : ℕ) → pace s es ≡ resting) → AreReady 1 es ls
  all_rested es ls rests = λ s some. subst (λ (p : Pace). IsReady 1 p) (sym (rests s)) rested

  pub still_rested : (es after : List (Event D)) (ls : List Link) → ((s : ℕ) → pace s after ≡ pace s es)
      → ((s : ℕ) → pace s es ≡ resting) → AreReady 1 after ls
  still_rested es after ls paced rests = all_rested after ls (λ s. paced s ∙ rests s)

  pub rests_within : (es : List (Event D)) (inc : ℕ) → ((s : ℕ) → pace s es ≡ resting)
      → IsWithin (sending (pace inc es))
  rests_within es inc rests = may_send (pace inc es)
      (subst (λ (p : Pace). IsReady 1000 p) (sym (rests inc)) (sooner 1 1000 resting (omega arith) rested))

  -- a link that was sent a turn may be made anew
  pub cut_may : (es sent : List (Event D)) (inc : ℕ) → ((s : ℕ) → pace s es ≡ resting)
      → pace inc sent ≡ sending (pace inc es) → MayLink (pace inc sent)
  cut_may es sent inc rests is = λ ok. subst (λ (p : Pace). IsWithin (linking ok p))
      (sym (is ∙ ap sending (rests inc))) (record { turns = omega arith; anew = omega arith; reads = omega arith })

  module _ (es sent made : List (Event D)) (inc : ℕ) (rests : (s : ℕ) → pace s es ≡ resting)
      (send : (s : ℕ) → pace_beside inc s sent ≡ pace_beside inc s es)
      (make : (s : ℕ) → pace_beside inc s made ≡ pace_beside inc s sent) where
    others_rest : (s : ℕ) → (inc == s) ≡ false → pace s made ≡ resting
    others_rest s other = other_server inc s sent made (make s) other ∙ other_server inc s es sent (send s) other
        ∙ rests s

    -- it was made anew
    pub cut_ready : (ls : List Link) (b : Bool) → b ≡ true → pace inc sent ≡ sending (pace inc es)
        → pace inc made ≡ linking b (pace inc sent) → AreReady 1 made ls
    cut_ready ls b is first again = λ s some.
        let now : pace inc made ≡ linking true (sending resting) = again
        ∙ ap (λ (x : Bool). linking x (pace inc sent)) is
        ∙ ap (linking true) (first ∙ ap sending (rests inc)) in
        let ready : IsReady 1 (linking true (sending resting)) =
        record { first = omega arith; turns = omega arith; anew = omega arith; reads = refl } in
        either (inc == s) (pace s made) (pace s es) 1 (make s ∙ send s)
        (λ this. this_server inc s 1 made (subst (λ (p : Pace). IsReady 1 p) (sym now) ready) this)
        (λ other. subst (λ (p : Pace). IsReady 1 p) (sym (rests s)) rested)

    -- it couldn't be made, and its server was ended
    pub cut_ended : (ended : List (Event D)) (ls : List Link) → ((s : ℕ) → pace s ended ≡ pace s made)
        → links_of inc ls ≡ 0 → AreReady 1 ended ls
    cut_ended ended ls paced none = λ s some.
        let other : (inc == s) ≡ false = not_linked inc s ls none some in
        subst (λ (p : Pace). IsReady 1 p) (sym (paced s ∙ others_rest s other)) rested

-- Of each server there is one link at most.
pub single_linked : {D : Type 0} (es : List (Event D)) (ls : List Link) (s : ℕ) → ((n : ℕ) → running n es ≤ 1)
    → AreLinked es ls → links_of s ls ≤ 1
single_linked es ls s single linked = subst (λ (k : ℕ). k ≤ 1) (linked s) (single s)

-- The server of a link that was taken away has none.
pub none_ended : {D : Type 0} (es : List (Event D)) (ls new : List Link) (place inc : ℕ) (d : Link)
    → place < length ls → (slice_index_or ls place d).inc ≡ inc → ((s : ℕ) → running s es ≤ 1) → AreLinked es ls
    → new ≡ remove ls place → links_of inc new ≡ 0
none_ended es ls new place inc d within is single linked rest =
    ap (links_of inc) rest ∙ ap (λ (i : ℕ). links_of i (remove ls place)) (sym is)
    ∙ none_left es ls place (slice_index_or ls place d) within
    (any_at ls place d (slice_index_or ls place d) within) single linked

-- ---- turns that were had

-- a turn of a server is counted
next_of : (p : Pace) → p.is_anew ≡ false → sending p ≡ record {
  turns = p.turns + 1;
  anew = 0;
  reads = 0;
  is_anew = false;
  links = p.links;
}
next_of p sent = ap (λ b. if b then record {
  turns = p.turns;
  anew = p.anew;
  reads = p.reads;
  is_anew = false;
  links = p.links;
} else record { turns = p.turns + 1; anew = 0; reads = 0; is_anew = false; links = p.links })
    sent

sent_next : (p : Pace) → p.is_anew ≡ false → (sending p).turns ≡ p.turns + 1
sent_next p sent = ap (λ (q : Pace). q.turns) (next_of p sent)

had_next : (n : ℕ) (before now : Pace) → HadTurn before now → n ≤ (sending before).turns → n + 1 ≤ (sending now).turns
had_next n before now had least = let same = had.turns in let next = sent_next now had.sent in
    omega (arith, least, same, next)

few_more : (b : Bool) (n : ℕ) (p q : Pace) → p.turns ≡ n → q.turns ≡ n + 1 → (if b then p else q).turns ≤ n + 1
few_more true n p q one other = omega (arith, one)
few_more false n p q one other = omega (arith, other)

-- The turn that is sent next is at most one past those that were sent.
pub one_past : (p : Pace) → (sending p).turns ≤ p.turns + 1
one_past p = few_more p.is_anew p.turns
    (record { turns = p.turns; anew = p.anew; reads = p.reads; is_anew = false; links = p.links })
    (record { turns = p.turns + 1; anew = 0; reads = 0; is_anew = false; links = p.links }) refl refl

either_least : (b : Bool) (x y : Pace) (n : ℕ) → (if b then resting else x) ≡ (if b then resting else y)
    → (b ≡ true → n ≤ (sending x).turns) → (b ≡ false → n ≤ (sending y).turns) → n ≤ (sending x).turns
either_least true x y n same this other = this refl
either_least false x y n same this other = subst (λ (p : Pace). n ≤ (sending p).turns) (sym same) (other refl)

without : (b : Bool) (n : ℕ) → b ≡ false → n ≡ 0 → n + (if b then 1 else 0) ≡ 0
without true n is none = absurd (cc)
without false n is none = omega (arith, none)

nothing_behind : (s : ℕ) (ls : List Link) (place : ℕ) → length ls ≤ place → links_of s (drop place ls) ≡ 0
nothing_behind s [] zero past = refl
nothing_behind s [] (suc place) past = refl
nothing_behind s (l ∷ ls) zero past = absurd (omega (arith, past))
nothing_behind s (l ∷ ls) (suc place) past = nothing_behind s ls place (omega (arith, past))

module _ {D : Type 0} where
  pub due_first : (es : List (Event D)) (ls : List Link) → AreReady 1 es ls → AreDue 1 es ls
  due_first es ls ready = λ s some. (ready s some).first

  -- none had its turn yet
  pub had_none : (n : ℕ) (es : List (Event D)) (ls : List Link) (place : ℕ) → place ≡ 0 → AreDue n es ls
      → HaveHad n es ls place
  had_none n es ls place first due = record {
    all = due;
    before = λ s some none. let zero : links_of s ls ≡ 0 = subst (λ (k : ℕ). links_of s (drop k ls) ≡ 0) first
        none in absurd (omega (arith, zero, some));
  }

  -- all had their turn
  pub had_all : (n : ℕ) (es : List (Event D)) (ls : List Link) (place : ℕ) → length ls ≤ place
      → HaveHad n es ls place → AreDue (n + 1) es ls
  had_all n es ls place past u = λ s some. u.before s some (nothing_behind s ls place past)

  module _ (n : ℕ) (es after : List (Event D)) (ls : List Link) (place : ℕ) (within : place < length ls) where
    -- the link at the place had its turn
    pub had_on : (old new : Link) → old ≡ slice_index_or ls place old → new.inc ≡ old.inc
        → ((s : ℕ) → links_of s (slice_set ls place new) ≡ links_of s ls)
        → ((s : ℕ) → pace_beside old.inc s after ≡ pace_beside old.inc s es)
        → HadTurn (pace old.inc es) (pace new.inc after) → HaveHad n es ls place
        → HaveHad n after (slice_set ls place new) (place + 1)
    had_on old new is same links aside had u =
        let here : ((slice_index_or ls place old).inc == old.inc) ≡ true =
        eq-eqb (slice_index_or ls place old).inc old.inc (ap (λ (x : Link). x.inc) (sym is)) in
        let one = with_this ((slice_index_or ls place old).inc == old.inc) (links_of old.inc (drop (suc place) ls))
        here in
        let parts = behind old.inc ls place old within in
        let fewer = fewer_behind old.inc ls place in
        let own : 1 ≤ links_of old.inc ls = omega (arith, one, parts, fewer) in
        let now : n + 1 ≤ (sending (pace old.inc after)).turns =
        subst (λ (t : ℕ). n + 1 ≤ (sending (pace t after)).turns) same
        (had_next n (pace old.inc es) (pace new.inc after) had (u.all old.inc own)) in
        let this_one : (s : ℕ) → (old.inc == s) ≡ true → n + 1 ≤ (sending (pace s after)).turns =
        λ s this. subst (λ (t : ℕ). n + 1 ≤ (sending (pace t after)).turns) (eqb-true old.inc s this) now in
        record {
          all = λ s some.
              either_least (old.inc == s) (pace s after) (pace s es) n (aside s)
              (λ this. let more = this_one s this in omega (arith, more))
              (λ other. u.all s (subst (λ (k : ℕ). 1 ≤ k) (links s) some));
          before = λ s some none.
              either_least (old.inc == s) (pace s after) (pace s es) (n + 1) (aside s)
              (λ this. this_one s this)
              (λ other.
              let rest : links_of s (drop (suc place) ls) ≡ 0 =
              sym (ap (links_of s) (ap (λ (k : ℕ). drop k (slice_set ls place new)) (next place)
              ∙ behind_set ls place new)) ∙ none in
              let not_here : ((slice_index_or ls place old).inc == s) ≡ false =
              ap (λ (x : Link). x.inc == s) (sym is) ∙ other in
              u.before s (subst (λ (k : ℕ). 1 ≤ k) (links s) some)
              (behind s ls place old within ∙ without ((slice_index_or ls place old).inc == s)
              (links_of s (drop (suc place) ls)) not_here rest));
        }

    -- it was ended
    pub had_without : (new : List Link) → new ≡ remove ls place → ((s : ℕ) → pace s after ≡ pace s es)
        → HaveHad n es ls (place + 1) → HaveHad n after new place
    had_without new is paced u = record {
      all = λ s some.
          let few = fewer_removed s ls place in
          let left : 1 ≤ links_of s (remove ls place) = subst (λ (all : List Link). 1 ≤ links_of s all) is some in
          subst (λ (p : Pace). n ≤ (sending p).turns) (sym (paced s)) (u.all s (omega (arith, few, left)));
      before = λ s some none.
          let few = fewer_removed s ls place in
          let left : 1 ≤ links_of s (remove ls place) = subst (λ (all : List Link). 1 ≤ links_of s all) is some in
          let rest : links_of s (drop (suc place) ls) ≡ 0 =
          sym (ap (links_of s) (ap (drop place) is ∙ behind_removed ls place within)) ∙ none in
          subst (λ (p : Pace). n + 1 ≤ (sending p).turns) (sym (paced s))
          (u.before s (omega (arith, few, left)) (ap (λ (k : ℕ). links_of s (drop k ls)) (next place) ∙ rest));
    }
