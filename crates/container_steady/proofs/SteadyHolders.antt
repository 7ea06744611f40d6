-- Whoever has a frame, as a message names it: by its server, its activation and its grant.
use Rattle.std.proofs.Common.{◌≡◌, ◌==◌, ℕ, true, Option, Some, None, refl, sym, eq-eqb}
use Rattle.std.proofs.lemmas.Bool.{eqb-true}
use Rattle.object_state.specs.Frames.{kept}
use Rattle.object_state.specs.Grants as grant
use Rattle.object_state.specs.Grants.{table}
use Rattle.object_state.specs.declared.grant_states.Claim.{Claim}
use Rattle.object_state.specs.declared.grant_states.Tools.{Tools}
use Rattle.object_state.specs.declared.grant_states.GrantState.{GrantState}
use Rattle.object_state.specs.declared.grant_states.GrantState.TheVariants as state
use Rattle.container_model.specs.declared.record.Link.{Link}
use Rattle.container_model.specs.Messages.{is_held_by}
use Rattle.container_model.specs.Record.{is_link}
use Rattle.container_steady.proofs.SteadyTells.{and_both}

pub held_by : (act g : ℕ) (s : GrantState) → is_held_by act g s ≡ true → (holder : Claim) × (tools : Tools)
    × (s ≡ state.Held holder tools) × (holder.act ≡ act) × (holder.g ≡ g)
held_by act g (state.Held holder tools) e = (let b = and_both (holder.act == act) (holder.g == g) e in
    (holder, tools, refl, eqb-true holder.act act b.0, eqb-true holder.g g b.1))
held_by act g state.Free e = absurd (cc)
held_by act g (state.Granting c) e = absurd (cc)
held_by act g (state.Revoking c next) e = absurd (cc)

pub linked_by : (inc act : ℕ) (link : Option Link) → is_link inc act link ≡ true → (l : Link) × (link ≡ Some l)
    × (l.inc ≡ inc) × (l.act ≡ act)
linked_by inc act None e = absurd (cc)
linked_by inc act (Some l) e = (let b = and_both (l.inc == inc) (l.act == act) e in
    (l, refl, eqb-true l.inc inc b.0, eqb-true l.act act b.1))

-- it is to give the frame up once it asks to be relieved
pub asked_state : (s : GrantState) (holder : Claim) (tools : Tools) (n act g : ℕ) → s ≡ state.Held holder tools
    → holder.act ≡ act → holder.g ≡ g → kept s (table s (grant.Ask (record { object = n; act = act; g = g })))
    ≡ state.Revoking holder None
asked_state s holder tools n act g e a b = rw (e, eq-eqb act holder.act (sym a), eq-eqb g holder.g (sym b)) refl
