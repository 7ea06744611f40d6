-- Which calls a history shows as not answered, and which links hold what comes.
use Rattle.std.proofs.Common.{◌≡◌, ◌≤◌, ◌<◌, ◌+◌, ◌==◌, ◌&&◌, ℕ, zero, suc, Bool, true, false, List, [], ◌∷◌, length}
use Rattle.std.proofs.Common.{remove, if◌then◌else◌, Option, Some, None, refl, sym, ap, ◌∙◌, subst, arith}
use Rattle.std.proofs.Common.{slice_index_or, slice_set}
use Rattle.std.specs.Prelude.{◌||◌, is_some, not}
use Rattle.std.proofs.lemmas.Bool.{eqb-true, eq-eqb}
use Rattle.container_model.specs.Record.{Record}
use Rattle.container_model.specs.declared.record.Link.{Link as Activation}
use Rattle.container_model.specs.declared.record.Object.{Object}
use Rattle.store_model.specs.declared.disk.Disk.{Ghosts as Disks}
use Rattle.script_model.specs.Bounds.{pace}
use Rattle.script_model.specs.Errors.{IsUnanswered, asks, is_asked}
use Rattle.script_model.specs.Events.{Event}
use Rattle.script_container.specs.Told.{IsTold}
use Rattle.script_links.specs.Links.{AreLinked, HoldFor, links_of}
use Rattle.script_links.specs.Ready.{AreDue}
use Rattle.script_links.specs.Shown.{AreAsked, AreQuiet, has_free, is_any_awaited, is_awaited, is_awaited_of}
use Rattle.script_links.specs.Shown.{pending_of}
use Rattle.script_links.specs.declared.links.Link.{Link}
use Rattle.script_links.proofs.Paces.{one_past}

-- ---- calls that aren't answered

asked_now : (b c : Bool) → b ≡ true → (b || c) ≡ true
asked_now true c is = refl
asked_now false c is = absurd (cc)

asked_later : (b c : Bool) → c ≡ true → (b || c) ≡ true
asked_later true c is = refl
asked_later false c is = is

asked_of : (s inc : ℕ) (b : Bool) → (if b then Some inc else None) ≡ Some s → (b && (inc == s)) ≡ true
asked_of s inc true is = let same : inc ≡ s = cc in eq-eqb inc s same
asked_of s inc false is = absurd (cc)

asks_it : (s : ℕ) (l : Option Activation) → pending_of l ≡ Some s → asks s l ≡ true
asks_it s None is = absurd (cc)
asks_it s (Some l) is = asked_of s l.inc (is_some l.pending) is

one_linked : (b : Bool) (n : ℕ) → b ≡ true → 1 ≤ n + (if b then 1 else 0)
one_linked true n is = omega arith
one_linked false n is = absurd (cc)

pub linked_at : (s : ℕ) (ls : List Link) (place : ℕ) (d : Link) → place < length ls
    → (slice_index_or ls place d).inc ≡ s → 1 ≤ links_of s ls
linked_at s [] place d within is = absurd (omega (arith, within))
linked_at s (l ∷ ls) zero d within is = one_linked (l.inc == s) (links_of s ls) (eq-eqb l.inc s is)
linked_at s (l ∷ ls) (suc place) d within is = let some = linked_at s ls place d (omega (arith, within)) is in
    omega (arith, some)

-- ---- calls on links that aren't held

one_free : (a held c : Bool) (n : ℕ) → (c ≡ true → 1 ≤ n) → ((a && not held) || c) ≡ true → 1 ≤ n + (if a then 1 else 0)
one_free true held c n more is = omega arith
one_free false held c n more is = let some = more is in omega (arith, some)

-- a server with a link that isn't held has one
free_linked : (s : ℕ) (ls : List Link) → has_free s ls ≡ true → 1 ≤ links_of s ls
free_linked s [] is = absurd (cc)
free_linked s (l ∷ ls) is = one_free (l.inc == s) l.held (has_free s ls) (links_of s ls) (free_linked s ls) is

awaited_from : (os : List Object) (ls : List Link) (o : Object) (pending : Option ℕ) → pending_of o.link ≡ pending
    → is_awaited_of ls pending ≡ true → AreAsked (o ∷ os) ls
awaited_from os ls o None pends is = absurd (cc)
awaited_from os ls o (Some s) pends is = record {
  server = s;
  linked = free_linked s ls is;
  asked = asked_now (asks s o.link) (is_asked s os) (asks_it s o.link pends);
}

awaited_here : (os : List Object) (ls : List Link) (o : Object) (b : Bool) → is_awaited ls o ≡ b
    → (is_any_awaited ls os ≡ true → AreAsked os ls) → (b || is_any_awaited ls os) ≡ true → AreAsked (o ∷ os) ls
awaited_here os ls o true here later is = awaited_from os ls o (pending_of o.link) refl here
awaited_here os ls o false here later is = let more = later is in
    record {
      server = more.server;
      linked = more.linked;
      asked = asked_later (asks more.server o.link) (is_asked more.server os) more.asked;
    }

-- a call is pending on a link that isn't held
pub some_awaited : (os : List Object) (ls : List Link) → is_any_awaited ls os ≡ true → AreAsked os ls
some_awaited [] ls is = absurd (cc)
some_awaited (o ∷ os) ls is = awaited_here os ls o (is_awaited ls o) refl (some_awaited os ls) is

not_asked : (s inc : ℕ) (ls : List Link) (b : Bool) → is_awaited_of ls (if b then Some inc else None) ≡ false
    → (b && (inc == s)) ≡ true → has_free s ls ≡ false
not_asked s inc ls true free is = subst (λ (n : ℕ). has_free n ls ≡ false) (eqb-true inc s is) free
not_asked s inc ls false free is = absurd (cc)

quiet_one : (s : ℕ) (ls : List Link) (l : Option Activation) → is_awaited_of ls (pending_of l) ≡ false
    → asks s l ≡ true → has_free s ls ≡ false
quiet_one s ls None free is = absurd (cc)
quiet_one s ls (Some l) free is = not_asked s l.inc ls (is_some l.pending) free is

none_first : (b c : Bool) → (b || c) ≡ false → b ≡ false
none_first true c is = absurd (cc)
none_first false c is = refl

none_later : (b c : Bool) → (b || c) ≡ false → c ≡ false
none_later true c is = absurd (cc)
none_later false c is = is

either_asked : (b c : Bool) (P : Type 0) → (b ≡ true → P) → (c ≡ true → P) → (b || c) ≡ true → P
either_asked true c P here later is = here refl
either_asked false c P here later is = later is

-- no call is pending on a link that isn't held
pub none_awaited : (os : List Object) (ls : List Link) → is_any_awaited ls os ≡ false → AreQuiet os ls
none_awaited [] ls none = λ s is. absurd (cc)
none_awaited (o ∷ os) ls none = λ s is.
    either_asked (asks s o.link) (is_asked s os) (has_free s ls ≡ false)
    (quiet_one s ls o.link (none_first (is_awaited ls o) (is_any_awaited ls os) none))
    (none_awaited os ls (none_later (is_awaited ls o) (is_any_awaited ls os) none) s) is

pub unanswered_by : {D : Type 0} {disks : Disks D} (es : List (Event D)) (r : Record) (ls : List Link) (turn : ℕ)
    → turn ≡ 1000 → IsTold disks es r → AreLinked es ls → AreDue (turn + 1) es ls → AreAsked r.objects ls
    → IsUnanswered es
unanswered_by es r ls turn all t linked due asked = record {
  server = asked.server;
  runs = subst (λ (n : ℕ). 1 ≤ n) (sym (linked asked.server)) asked.linked;
  turned = let least = due asked.server asked.linked in let past = one_past (pace asked.server es) in
      omega (arith, all, least, past);
  asked = ap (λ (q : Record). is_asked asked.server q.objects) t.recorded ∙ asked.asked;
}

-- ---- what is held

pub hold_set : (f : ℕ → Bool) (ls : List Link) (place : ℕ) (l d : Link) → place < length ls
    → l.inc ≡ (slice_index_or ls place d).inc → l.held ≡ (slice_index_or ls place d).held → HoldFor f ls
    → HoldFor f (slice_set ls place l)
hold_set f [] place l d within inc held hold = hold
hold_set f (x ∷ xs) zero l d within inc held hold = (held ∙ hold.0 ∙ sym (ap f inc), hold.1)
hold_set f (x ∷ xs) (suc place) l d within inc held hold =
    (hold.0, hold_set f xs place l d (omega (arith, within)) inc held hold.1)

hold_removed : (f : ℕ → Bool) (ls : List Link) (place : ℕ) → HoldFor f ls → HoldFor f (remove ls place)
hold_removed f [] zero hold = hold
hold_removed f [] (suc place) hold = hold
hold_removed f (x ∷ xs) zero hold = hold.1
hold_removed f (x ∷ xs) (suc place) hold = (hold.0, hold_removed f xs place hold.1)

pub hold_without : (f : ℕ → Bool) (ls new : List Link) (place : ℕ) → new ≡ remove ls place → HoldFor f ls
    → HoldFor f new
hold_without f ls new place is hold = subst (λ (all : List Link). HoldFor f all) (sym is) (hold_removed f ls place hold)
