-- Operations that are asked one after the other.
use Rattle.std.proofs.Common.{◌≡◌, ◌+◌, List, [], ◌∷◌, ◌++◌, Option, Some, None, is_some, true, false, refl, ap, sym}
use Rattle.std.proofs.Common.{◌∙◌, append_assoc}
use Rattle.std.proofs.lemmas.List.{append-nil}
use Rattle.message_values.specs.declared.operation.Operation.{Operation}
use Rattle.container_model.specs.declared.record.Link.{Link}
use Rattle.container_model.specs.Record.{Asked, ask_each, call}

-- behind those that wait
abbrev waits : Link → List Operation → Asked
waits l ops = record { link = record l { waiting = l.waiting ++ ops }; sent = [] }

waits_behind : (l : Link) (before : Operation) (ops : List Operation)
    → ask_each (record l { pending = Some before }) ops ≡ waits (record l { pending = Some before }) ops
waits_behind l before [] =
    λ t. record { link = record l { pending = Some before; waiting = sym (append-nil l.waiting) t }; sent = [] }
waits_behind l before (op ∷ ops) =
    rw (waits_behind (record l { waiting = l.waiting ++ op ∷ [] }) before ops, append_assoc l.waiting (op ∷ []) ops)
    refl

pub each_waits : (l : Link) (before : Operation) (ops : List Operation) → l.pending ≡ Some before
    → ask_each l ops ≡ waits l ops
each_waits l before ops e =
    ap (λ p. ask_each (record l { pending = p }) ops) e
    ∙ (waits_behind l before ops ∙ sym (ap (λ p. waits (record l { pending = p }) ops) e))

-- at once, and those behind it
pub each_begins : (l : Link) (op : Operation) (ops : List Operation) → l.pending ≡ None
    → ask_each l (op ∷ ops) ≡ record {
      link = record l { last = l.last + 1; pending = Some op; waiting = l.waiting ++ ops };
      sent = call l (l.last + 1) op ∷ [];
    }
each_begins l op ops e = rw (e, waits_behind (record l { last = l.last + 1 }) op ops) refl

-- what the code makes of an activation
waits_from : (l : Link) (ops : List Operation) (p : Option Operation) → l.pending ≡ p → is_some p ≡ true
    → ask_each l ops ≡ waits l ops
waits_from l ops None e h = absurd (cc)
waits_from l ops (Some before) e h = each_waits l before ops e

pub waits_link : (l next : Link) (waiting ops : List Operation) → is_some l.pending ≡ true
    → waiting ≡ l.waiting ++ ops → next ≡ record l { waiting = waiting } → next ≡ (ask_each l ops).link
waits_link l next waiting ops h e is = is
    ∙ (ap (λ w. record l { waiting = w }) e ∙ sym (ap (λ a. a.link) (waits_from l ops l.pending refl h)))

pub waits_sent : (l : Link) (ops : List Operation) → is_some l.pending ≡ true → (ask_each l ops).sent ≡ []
waits_sent l ops h = ap (λ a. a.sent) (waits_from l ops l.pending refl h)

begins_from : (l : Link) (op : Operation) (ops : List Operation) (p : Option Operation) → l.pending ≡ p
    → is_some p ≡ false → l.pending ≡ None
begins_from l op ops None e h = e
begins_from l op ops (Some before) e h = absurd (cc)

pub begins_link : (l next : Link) (waiting : List Operation) (op : Operation) (ops all : List Operation)
    → is_some l.pending ≡ false → waiting ≡ l.waiting ++ ops → all ≡ op ∷ ops
    → next ≡ record l { last = l.last + 1; pending = Some op; waiting = waiting } → next ≡ (ask_each l all).link
begins_link l next waiting op ops all h e a is =
    is ∙ (ap (λ w. record l { last = l.last + 1; pending = Some op; waiting = w }) e
    ∙ sym (ap (λ x. (ask_each l x).link) a ∙ ap (λ x. x.link)
    (each_begins l op ops (begins_from l op ops l.pending refl h))))

pub begins_sent : (l : Link) (op : Operation) (ops all : List Operation) → is_some l.pending ≡ false
    → all ≡ op ∷ ops → (ask_each l all).sent ≡ call l (l.last + 1) op ∷ []
begins_sent l op ops all h a = ap (λ x. (ask_each l x).sent) a
    ∙ ap (λ x. x.sent) (each_begins l op ops (begins_from l op ops l.pending refl h))
