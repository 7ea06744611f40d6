-- What a server sends of its own accord: an activation writes, or asks to be relieved of its frame.
use Rattle.std.proofs.Common.{◌≡◌, ◌==◌, ℕ, ◌+◌, Bool, true, false, Option, Some, None, is_some, option_map, Ok, Err}
use Rattle.std.proofs.Common.{refl, sym, ap, ◌∙◌, subst, nat_le, if◌then◌else◌}
use Rattle.std.specs.Prelude.{cond}
use Rattle.std.proofs.lemmas.Bool.{eqb-true}
use Rattle.message_values.specs.Found.{find, put}
use Rattle.message_values.specs.declared.message.Said.TheVariants.{Write, Ask}
use Rattle.object_state.specs.Persists.{may_write}
use Rattle.object_core.specs.Content.{Content}
use Rattle.server_model.specs.Server.{Server, Activation, Told, is_act, stored_of, writes, scribbled_open, asks, asked}
use Rattle.server_model.specs.Server.{from_server}
use Rattle.server_model.specs.Server as server
use Rattle.server_model.specs.declared.fault.ServerFault.TheVariants.{Ignored, NumbersSpent}
use Rattle.world_model.specs.World.{view_of}
use Rattle.world_facts.specs.Shapes.{IsAlike, Alike, IsOwn}
use Rattle.world_facts.specs.Views.{IsSentOpen}
use Rattle.world_facts.proofs.Lookups.{find_passes}
use Rattle.world_steps.proofs.Instances.{find_act_put}
use Rattle.world_steps.proofs.Taking.{normal_of}

-- What a server tells: its activations are as they were, but for the number of a write, and a write goes out under its
-- grant.
pub record IsTelling (v : Server) (act : ℕ) (t : Told) : Type 0 where
  pub alike : (x : ℕ) → Alike (find (is_act x) v.acts) (find (is_act x) t.server.acts)
  pub session : t.message.session ≡ v.session
  pub same : t.server.session ≡ v.session
  pub own : IsOwn t.message.said
  pub sent_open : IsSentOpen t.message.said (option_map view_of (find (is_act act) v.acts))

pub alike_same : (x : Option Activation) → Alike x x
alike_same None = tt
alike_same (Some a) = record {
  last = refl;
  reply = refl;
  states = refl;
  saved = refl;
  s = refl;
  g = refl;
  closed = λ h. h;
  opened = λ h. h;
  was_open = λ h. h;
}

alike_wrote : (a : Activation) → IsAlike a (record a { w = a.w + 1 })
alike_wrote a = record {
  last = refl;
  reply = refl;
  states = refl;
  saved = refl;
  s = refl;
  g = refl;
  closed = λ h. h;
  opened = λ h. h;
  was_open = λ h. h;
}

module _ (v : Server) (act : ℕ) where
  -- a write
  module _ (a : Activation) (c : Content) (f : find (is_act act) v.acts ≡ Some a) (o : a.content ≡ Some c)
      (m : may_write a.states.persist.state ≡ true) where
    abbrev after : Activation
    after = record a { w = a.w + 1 }

    abbrev wrote : Told
    wrote = record {
      server = record v { acts = put (is_act a.act) after v.acts };
      message = from_server v (Write v.inc a.act a.s (a.w + 1) (stored_of c));
    }

    own_act : a.act ≡ act
    own_act = eqb-true a.act act (find_passes (is_act act) v.acts a f)

    found : (x : ℕ) → find (is_act x) (put (is_act a.act) after v.acts)
        ≡ (if act == x then Some after else find (is_act x) v.acts)
    found x = ap (λ n. find (is_act x) (put (is_act n) after v.acts)) own_act
        ∙ find_act_put v.acts act x a after f own_act

    alike_here : (x : ℕ) → Alike (find (is_act x) v.acts) (if act == x then Some after else find (is_act x) v.acts)
    alike_here x = elim (act == x) as (λ b. (act == x) ≡ b
        → Alike (find (is_act x) v.acts) (if b then Some after else find (is_act x) v.acts)) [
          | true ↦
              (λ q. subst (λ y. Alike y (Some after))
              (sym (ap (λ n. find (is_act n) v.acts) (sym (eqb-true act x q)) ∙ f)) (alike_wrote a))
          | false ↦ (λ q. alike_same (find (is_act x) v.acts))
        ] refl

    wrote_tells : IsTelling v act wrote
    wrote_tells = record {
      alike = λ x. subst (Alike (find (is_act x) v.acts)) (sym (found x)) (alike_here x);
      session = refl;
      same = refl;
      own = tt;
      sent_open = (
        view_of a,
        ap (option_map view_of) f,
        record {
          opened = ap is_some o;
          storage = normal_of a.states.persist.state m;
          grant = refl;
        },
      );
    }

  module _ (t : Told) where
    writing_room : (a : Activation) (c : Content) (b : Bool) → find (is_act act) v.acts ≡ Some a
        → a.content ≡ Some c → may_write a.states.persist.state ≡ true
        → cond b (Err NumbersSpent)
        (Ok (record {
          server = record v { acts = put (is_act a.act) (record a { w = a.w + 1 }) v.acts };
          message = from_server v (Write v.inc a.act a.s (a.w + 1) (stored_of c));
        })) ≡ Ok t → IsTelling v act t
    writing_room a c true f o m e = cc
    writing_room a c false f o m e = (let is : wrote a c f o m ≡ t = cc in
        subst (IsTelling v act) is (wrote_tells a c f o m))

    writing_may : (a : Activation) (c : Content) (b : Bool) → find (is_act act) v.acts ≡ Some a → a.content ≡ Some c
        → may_write a.states.persist.state ≡ b → cond b (writes v a c) (Err Ignored) ≡ Ok t → IsTelling v act t
    writing_may a c true f o m e = writing_room a c (nat_le v.numbers a.w) f o m e
    writing_may a c false f o m e = cc

    writing_open : (a : Activation) (c : Option Content) → find (is_act act) v.acts ≡ Some a → a.content ≡ c
        → scribbled_open v a c ≡ Ok t → IsTelling v act t
    writing_open a None f o e = cc
    writing_open a (Some c) f o e = writing_may a c (may_write a.states.persist.state) f o refl e

    writing_at : (a : Option Activation) → find (is_act act) v.acts ≡ a → server.scribbled v a ≡ Ok t
        → IsTelling v act t
    writing_at None f e = cc
    writing_at (Some a) f e = writing_open a a.content f refl e

    pub writing_is : server.scribble v act ≡ Ok t → IsTelling v act t
    writing_is e = writing_at (find (is_act act) v.acts) refl e

    -- it asks to be relieved of its frame: nothing changes
    asking_by : (a : Activation) (g : Option ℕ) → asks v a g ≡ Ok t → IsTelling v act t
    asking_by a None e = cc
    asking_by a (Some g) e =
        let made : Told = record { server = v; message = from_server v (Ask v.inc a.act g) } in
        let is : made ≡ t = cc in
        subst (IsTelling v act) is (record {
          alike = λ x. alike_same (find (is_act x) v.acts);
          session = refl;
          same = refl;
          own = tt;
          sent_open = tt;
        })

    asking_at : (a : Option Activation) → asked v a ≡ Ok t → IsTelling v act t
    asking_at None e = cc
    asking_at (Some a) e = asking_by a a.g e

    pub asking_is : server.ask_deactivate v act ≡ Ok t → IsTelling v act t
    asking_is e = asking_at (find (is_act act) v.acts) e
