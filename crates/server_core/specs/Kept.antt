-- What a server keeps of an activation beside its number and its object.
use Rattle.std.specs.Prelude.{ℕ, List, Option}
use Rattle.object_state.specs.declared.both_states.States.{States}
use Rattle.tree_streams.specs.declared.stored.Stored.{Stored}
use Rattle.message_values.specs.declared.answer.Answer.{Answer}
use Rattle.object_core.specs.Content.{Content}
use Rattle.server_model.specs.Server.{Activation}

pub record Kept : Type 0 where
  pub class : List ℕ
  pub last : ℕ
  pub reply : Answer
  pub states : States
  pub saved : Option Stored
  pub s : ℕ
  pub w : ℕ
  pub g : Option ℕ

-- the activation of this number, with this content while it is open
abbrev pub whole : ℕ → Kept → Option Content → Activation
whole act k content =
    record {
      act = act;
      class = k.class;
      content = content;
      last = k.last;
      reply = k.reply;
      states = k.states;
      saved = k.saved;
      s = k.s;
      w = k.w;
      g = k.g;
    }
