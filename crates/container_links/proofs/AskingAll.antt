use Rattle.std.proofs.Common.{◌≡◌, ℕ, ◌+◌, ◌==◌, ◌<◌, ◌≤◌, Bool, true, false, List, Option, Some, None, map, zero, suc}
use Rattle.std.proofs.Common.{[], ◌∷◌, ◌++◌, length, get_or, option_to_list, take, drop, refl, ap, sym, ◌∙◌, arith}
use Rattle.std.proofs.lemmas.List.{append-nil, drop_all, take_all}
use Rattle.std.proofs.Math.ListN.{set}
use Rattle.std.proofs.Math.Numerals.{add-one}
use Rattle.message_values.specs.declared.operation.Operation.{Operation}
use Rattle.container_links.specs.declared.asking.Prepared.{Prepared}
use Rattle.container_links.specs.declared.asking.Prepared.TheVariants.{Nothing}
use Rattle.container_model.specs.declared.record.Link.{Link}
use Rattle.container_model.specs.declared.record.Object.{Object}
use Rattle.container_model.specs.Record.{ask_at, asked_link, asked_object, asked_sent, sends}
use Rattle.container_links.specs.Asking.{called, called_at, installed, installed_all, installed_link, prepared}
use Rattle.container_links.specs.Asking.{prepared_at, prepared_link}

-- what was prepared for an object makes of it what the definition says
installed_at : (op : Operation) (l : Link) (pending : Option Operation) → l.pending ≡ pending
    → installed_link (prepared_at op l pending) (Some l) ≡ Some (ask_at l op pending).link
installed_at op l None e = refl
installed_at op l (Some before) e = refl

installed_prepared_link : (op : Operation) (link : Option Link) → installed_link (prepared_link op link) link
    ≡ asked_link op link
installed_prepared_link op None = refl
installed_prepared_link op (Some l) = installed_at op l l.pending refl

pub installed_one : (op : Operation) (p : Prepared) (o next : Object) → next ≡ installed p o
    → p ≡ prepared_link op o.link → next ≡ record o { link = asked_link op o.link }
installed_one op p o next is e = is
    ∙ (ap (λ q. installed q o) e ∙ ap (λ link. record o { link = link }) (installed_prepared_link op o.link))

installed_nothing : (link : Option Link) → installed_link Nothing link ≡ link
installed_nothing None = refl
installed_nothing (Some l) = refl

installed_in : (f : ℕ) (op : Operation) (o : Object) (b : Bool) → o.frame == f ≡ b
    → installed (prepared f op o) o ≡ asked_object f op o
installed_in f op o true e = rw e (ap (λ link. record o { link = link }) (installed_prepared_link op o.link))
installed_in f op o false e = rw e (ap (λ link. record o { link = link }) (installed_nothing o.link))

pub installed_prepared : (f : ℕ) (op : Operation) (os : List Object) → installed_all (map (prepared f op) os) os
    ≡ map (asked_object f op) os
installed_prepared f op [] = refl
installed_prepared f op (o ∷ os) = rw (installed_in f op o (o.frame == f) refl)
    (ap (λ xs. asked_object f op o ∷ xs) (installed_prepared f op os))

-- one more object has taken up its own
more_at : (ps : List Prepared) (os : List Object) (i : ℕ) (p q : Prepared) (o : Object) → i < length os
    → length ps ≡ length os →
    take i os ++ installed_all (drop i ps) (drop i os)
    ≡ take (suc i) (set os i (installed (get_or ps i p) (get_or os i o)))
    ++ installed_all (drop (suc i) (set ps i q))
    (drop (suc i) (set os i (installed (get_or ps i p) (get_or os i o))))
more_at ps [] i p q o lt e = absurd (omega arith)
more_at [] (x ∷ os) i p q o lt e = absurd (omega arith)
more_at (r ∷ ps) (x ∷ os) zero p q o lt e = refl
more_at (r ∷ ps) (x ∷ os) (suc i) p q o lt e = ap (λ zs. x ∷ zs) (more_at ps os i p q o (omega arith) (omega arith))

pub installed_more : (ps : List Prepared) (os all : List Object) (i : ℕ) (p q t u : Prepared) (o n : Object)
    → i < length os → length ps ≡ length os →
    take i os ++ installed_all (drop i ps) (drop i os) ≡ all → t ≡ u → u ≡ get_or ps i p
    → n ≡ installed t (get_or os i o) →
    take (i + 1) (set os i n) ++ installed_all (drop (i + 1) (set ps i q)) (drop (i + 1) (set os i n)) ≡ all
installed_more ps os all i p q t u o n lt e h same at is =
    rw (is, same, at, add-one) (sym (more_at ps os i p q o lt e) ∙ h)

installed_end : (ps : List Prepared) → installed_all ps [] ≡ []
installed_end [] = refl
installed_end (p ∷ ps) = refl

pub installed_done : (ps qs : List Prepared) (xs os : List Object) (i f : ℕ) (op : Operation) → length xs ≤ i →
    take i xs ++ installed_all (drop i ps) (drop i xs) ≡ installed_all qs os → qs ≡ map (prepared f op) os
    → xs ≡ map (asked_object f op) os
installed_done ps qs xs os i f op le h e =
    let a : take i xs ++ installed_all (drop i ps) (drop i xs) ≡ xs =
    rw (drop_all i xs le, installed_end (drop i ps), append-nil (take i xs)) (take_all i xs le) in
    sym a ∙ (h ∙ (ap (λ rs. installed_all rs os) e ∙ installed_prepared f op os))

-- what is sent to one object
called_sent_at : (op : Operation) (l : Link) (pending : Option Operation)
    → option_to_list (called_at op l pending) ≡ sends (ask_at l op pending).sent
called_sent_at op l None = refl
called_sent_at op l (Some before) = refl

pub called_sent : (op : Operation) (link : Option Link) → option_to_list (called op link) ≡ sends (asked_sent op link)
called_sent op None = refl
called_sent op (Some l) = called_sent_at op l l.pending
