-- Servers that are started and ended are those of the links.
use Rattle.std.proofs.Common.{◌≡◌, ◌<◌, ◌+◌, ◌-◌, ◌==◌, ◌++◌, ℕ, zero, suc, Bool, true, false, List, [], ◌∷◌, length}
use Rattle.std.proofs.Common.{remove, if◌then◌else◌, refl, sym, ap, ◌∙◌, arith, slice_index_or, slice_set}
use Rattle.script_model.specs.Events.{Event, Started, Ended, running}
use Rattle.script_links.specs.Links.{AreLinked, links_of}
use Rattle.script_links.specs.declared.links.Link.{Link}

links_end : (s : ℕ) (ls : List Link) (l : Link) → links_of s (ls ++ l ∷ []) ≡ links_of s ls
    + (if l.inc == s then 1 else 0)
links_end s [] l = refl
links_end s (x ∷ xs) l = omega (arith, links_end s xs l)

one_more : (b : Bool) (n : ℕ) → (if b then n + 1 else n) ≡ n + (if b then 1 else 0)
one_more true n = refl
one_more false n = omega arith

one_less : (b : Bool) (n m : ℕ) → n ≡ m + (if b then 1 else 0) → (if b then n - 1 else n) ≡ m
one_less true n m is = omega (arith, is)
one_less false n m is = omega (arith, is)

pub unstarted_linked : {D : Type 0} {es after : List (Event D)} (session s : ℕ) (ls : List Link)
    → after ≡ Started session s false ∷ es → AreLinked es ls → AreLinked after ls
unstarted_linked session s ls is linked = λ n. ap (running n) is ∙ linked n

pub started_linked : {D : Type 0} {es after : List (Event D)} (session s : ℕ) (l : Link) (ls new : List Link)
    → after ≡ Started session s true ∷ es → l.inc ≡ s → new ≡ ls ++ l ∷ [] → AreLinked es ls → AreLinked after new
started_linked {es = es} session s l ls new is inc with_one linked = λ n.
    ap (running n) is ∙ one_more (s == n) (running n es) ∙ ap (λ x. x + (if s == n then 1 else 0)) (linked n)
    ∙ ap (λ i. links_of n ls + (if i == n then 1 else 0)) (sym inc) ∙ sym (links_end n ls l)
    ∙ ap (links_of n) (sym with_one)

pub links_removed : (s : ℕ) (ls : List Link) (place : ℕ) (d : Link) → place < length ls
    → links_of s ls ≡ links_of s (remove ls place) + (if (slice_index_or ls place d).inc == s then 1 else 0)
links_removed s [] place d within = absurd (omega (arith, within))
links_removed s (l ∷ ls) zero d within = refl
links_removed s (l ∷ ls) (suc place) d within = omega (arith, links_removed s ls place d (omega (arith, within)))

ended_with : {D : Type 0} {es after : List (Event D)} (s : ℕ) (ls new : List Link) → after ≡ Ended s ∷ es
    → ((n : ℕ) → links_of n ls ≡ links_of n new + (if s == n then 1 else 0)) → AreLinked es ls → AreLinked after new
ended_with {es = es} s ls new is less linked = λ n. ap (running n) is
    ∙ one_less (s == n) (running n es) (links_of n new) (linked n ∙ less n)

pub ended_linked : {D : Type 0} {es after : List (Event D)} (ls new : List Link) (place : ℕ) (l : Link)
    → place < length ls → l ≡ slice_index_or ls place l → new ≡ remove ls place → after ≡ Ended l.inc ∷ es
    → AreLinked es ls → AreLinked after new
ended_linked ls new place l within is rest ended =
    ended_with l.inc ls new ended
    (λ n. links_removed n ls place l within
    ∙ ap (λ (x : Link). links_of n (remove ls place) + (if x.inc == n then 1 else 0)) (sym is)
    ∙ ap (λ all. links_of n all + (if l.inc == n then 1 else 0)) (sym rest))

pub popped_linked : {D : Type 0} {es after : List (Event D)} (ls new : List Link) (l : Link) → ls ≡ new ++ l ∷ []
    → after ≡ Ended l.inc ∷ es → AreLinked es ls → AreLinked after new
popped_linked ls new l is ended = ended_with l.inc ls new ended (λ n. ap (links_of n) is ∙ links_end n new l)

-- a history in which the same servers run
pub still_linked : {D : Type 0} (es after : List (Event D)) (ls : List Link)
    → ((s : ℕ) → running s after ≡ running s es) → AreLinked es ls → AreLinked after ls
still_linked es after ls still linked = λ s. still s ∙ linked s

-- a link that changed, but for its server
pub same_links : (s : ℕ) (ls : List Link) (place : ℕ) (l d : Link) → place < length ls
    → l.inc ≡ (slice_index_or ls place d).inc → links_of s (slice_set ls place l) ≡ links_of s ls
same_links s [] place l d within same = refl
same_links s (x ∷ xs) zero l d within same = ap (λ n. links_of s xs + (if n == s then 1 else 0)) same
same_links s (x ∷ xs) (suc place) l d within same = ap (λ n. n + (if x.inc == s then 1 else 0))
    (same_links s xs place l d (omega (arith, within)) same)
