use Rattle.std.proofs.Common.{◌≡◌, Result, Ok, OnOk, ap, subst, ◌∙◌, map, ◌++◌, ◌∷◌, [], option_map, nat_eq}
use Rattle.server_model.proofs.Known.{server}
use Rattle.indexmap.proofs.CallerLemmas.{insert_entry-new}
use Rattle.server_core.specs.Kept.{whole}
use Rattle.server_core.specs.View.{seen_activation}
use Rattle.server_core.proofs.Known.{new_if, pushes}
use Rattle.server_core.proofs.server.ServerCore.push.Goals as goal

of_ok : {T E : Type 0} (P : Type 0) (r : Result T E) (x : T) → r ≡ Ok x → OnOk r P → P
of_ok P r x e h = subst (λ r. OnOk r P) e h

pub returns : goal.returns
returns g c =
    let pushed = of_ok _ c.insert.result c.unwrap.result c.unwrap.ensures c.insert.ensures.entries
    ∙ insert_entry-new nat_eq c.args.self.now.acts c.args.act
    (record { facts = c.args.facts; key = c.put-key.result })
    (new_if (λ s. (goal.Embedded-dyn g (s.boxed.vtable, s.boxed.value)).content s.boxed.value)
    c.args.self.now.seats.slab.slots c.args.self.now.acts.entries c.args.act c.requires.unknown) in
    ap (server c.args.self.now.session c.args.self.now.inc c.args.self.now.numbers)
    (ap (map (seen_activation (λ s. (goal.Embedded-dyn g (s.boxed.vtable, s.boxed.value)).content s.boxed.value)
    c.put-key.new.self.slab.slots)) pushed
    ∙ (pushes (λ s. (goal.Embedded-dyn g (s.boxed.vtable, s.boxed.value)).content s.boxed.value)
    c.args.self.now.seats.slab.slots c.args.self.now.acts.entries c.args.act
    (record { facts = c.args.facts; key = c.put-key.result }) c.put-key.new.self.slab.slots
    c.put-key.ensures.others c.requires.unknown
    ∙ ap
    (λ s. map (seen_activation (λ s. (goal.Embedded-dyn g (s.boxed.vtable, s.boxed.value)).content
    s.boxed.value) c.args.self.now.seats.slab.slots) c.args.self.now.acts.entries
    ++ whole c.args.act c.args.facts
    (option_map (λ s. (goal.Embedded-dyn g (s.boxed.vtable, s.boxed.value)).content s.boxed.value) s) ∷ [])
    c.put-key.ensures.put))
