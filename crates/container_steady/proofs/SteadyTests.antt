-- What tests of a container tell.
use Rattle.std.proofs.Common.{◌≡◌, ℕ, Bool, true, false, not, List, [], ◌∷◌, Option, Some, None, refl, sym, ap, ◌∙◌}
use Rattle.std.proofs.Common.{if◌then◌else◌}
use Rattle.std.proofs.lemmas.Bool.{eqb-true}
use Rattle.std.specs.Prelude.{is_some}
use Rattle.message_values.specs.Found.{find}
use Rattle.message_values.specs.declared.operation.Operation.{Operation}
use Rattle.container_model.specs.declared.record.Link.{Link}
use Rattle.container_model.specs.declared.record.Object.{Object}
use Rattle.container_model.specs.declared.record.Phase.{Phase}
use Rattle.container_model.specs.declared.record.Phase.TheVariants.{Idle, InDoubt}
use Rattle.container_model.specs.Record.{is_object, is_saving, is_doubtful, ask, ask_at, asked_link}
use Rattle.container_steady.proofs.SteadyClaims.{LinkStays}
use Rattle.container_steady.proofs.SteadyRecords.{Follows}

pub idle_of : (phase : Phase) → is_doubtful phase ≡ false → is_saving phase ≡ false → phase ≡ Idle
idle_of Idle d s = refl
idle_of InDoubt d s = cc
idle_of _ d s = absurd (cc)

pub not_false : (b : Bool) → not b ≡ false → b ≡ true
not_false true e = refl
not_false false e = absurd (cc)

pub none_of : {A : Type 0} (o : Option A) → is_some o ≡ false → o ≡ None
none_of None e = refl
none_of (Some x) e = absurd (cc)

passes_at : {A : Type 0} (test : A → Bool) (y x : A) (rest : Option A) (b : Bool) → test y ≡ b
    → (if b then Some y else rest) ≡ Some x → (rest ≡ Some x → test x ≡ true) → test x ≡ true
passes_at test y x rest true t e f = (let yx : y ≡ x = cc in ap test (sym yx) ∙ t)
passes_at test y x rest false t e f = f e

-- an item that is found passes
pub find_passes : {A : Type 0} (test : A → Bool) (xs : List A) (x : A) → find test xs ≡ Some x → test x ≡ true
find_passes test [] x e = cc
find_passes test (y ∷ ys) x e = passes_at test y x (find test ys) (test y) refl e (find_passes test ys x)

pub found_numbered : (n : ℕ) (os : List Object) (o : Object) → find (is_object n) os ≡ Some o
    → find (is_object o.number) os ≡ Some o
found_numbered n os o e = (let same : n ≡ o.number = sym (eqb-true o.number n (find_passes (is_object n) os o e)) in
    ap (λ (m : ℕ). find (is_object m) os) (sym same) ∙ e)

-- an object is asked
ask_act : (l : Link) (op : Operation) (p : Option Operation) → (ask_at l op p).link.act ≡ l.act
ask_act l op None = refl
ask_act l op (Some before) = refl

pub asked_follows : (op : Operation) (link : Option Link) → Follows (asked_link op link) link
asked_follows op None l e = cc
asked_follows op (Some m) l e = (let same : (ask m op).link ≡ l = cc in
    (m, refl, sym (ap (λ (z : Link). z.act) same) ∙ ask_act m op m.pending))

pub link_asked : (op : Operation) (link : Option Link) → LinkStays link (asked_link op link)
link_asked op None l e = cc
link_asked op (Some m) l e =
    (let same : m ≡ l = cc in ((ask m op).link, refl, ask_act m op m.pending ∙ ap (λ (z : Link). z.act) same))
