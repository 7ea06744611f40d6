-- What a server makes of the frames of a turn: what it answers, and which activations then write of their own accord.
use Rattle.std.specs.Prelude.{ℕ, List, [], ◌∷◌, ◌++◌, ◌+◌, Option, Some, None, Result, Ok, Err, cond, nat_eq, nat_lt}
use Rattle.object_core.specs.Kinds.{Kind}
use Rattle.message_values.specs.declared.operation.Operation.TheVariants.{Edit}
use Rattle.message_values.specs.declared.answer.Answer.TheVariants.{Done}
use Rattle.message_values.specs.declared.message.Message.{Message}
use Rattle.message_values.specs.declared.message.Said.{Said}
use Rattle.message_values.specs.declared.message.Said.TheVariants.{Call, Reply}
use Rattle.message_values.specs.Found.{find}
use Rattle.message_model.specs.declared.frame.Frame.{Frame}
use Rattle.message_model.specs.declared.frame.Frame.TheVariants as frame
use Rattle.message_model.specs.Frames.{fits}
use Rattle.message_model.specs.Spelling.{spell}
use Rattle.server_model.specs.Server.{Activation, Server, Served, Told, is_act, on_call, reply_to, scribble}
use Rattle.server_model.specs.declared.fault.ServerFault.{ServerFault}

-- A turn under way: the server, what is to be written when the turn is given back, and the activations that were
-- edited, by rising number.
pub record Turn : Type 0 where
  pub server : Server
  pub out : List ℕ
  pub edited : List ℕ

-- the first turn of a server of this session: it has no activation
abbrev pub first_turn : (session inc numbers : ℕ) → Turn
first_turn session inc numbers =
    record { server = record { session = session; inc = inc; numbers = numbers; acts = [] }; out = []; edited = [] }

-- what is written of a frame: nothing where it may not be sent
abbrev pub sent : Frame → List ℕ
sent f = cond (fits f) (spell f) []

-- a number among rising ones, once
abbrev pub noted : ℕ → List ℕ → List ℕ
noted n [] = n ∷ []
noted n (x ∷ xs) = cond (nat_lt x n) (x ∷ noted n xs) (cond (nat_eq x n) (x ∷ xs) (n ∷ x ∷ xs))

abbrev pub edited_next : ℕ → ℕ → Option Activation → Option ℕ
edited_next act n None = None
edited_next act n (Some a) = cond (nat_eq n (a.last + 1)) (Some act) None

-- the activation that is edited by what a message says, where it is its next call
abbrev pub edited_by_said : Server → Said → Option ℕ
edited_by_said v (Call inc act n (Edit bytes)) = edited_next act n (find (is_act act) v.acts)
edited_by_said v said = None

-- the same of a message; the server's step refuses what is of another session or incarnation
abbrev pub edited_by : Server → Message → Option ℕ
edited_by v m = edited_by_said v m.said

abbrev pub noted_said : Option ℕ → Said → List ℕ → List ℕ
noted_said (Some act) (Reply inc other n Done) edited = noted act edited
noted_said edit said edited = edited

-- an edit whose reply says that it is done is noted
abbrev pub noted_done : Option ℕ → Message → List ℕ → List ℕ
noted_done edit m edited = noted_said edit m.said edited

abbrev pub answered : Turn → Message → Result Served ServerFault → Turn
answered t m (Err fault) = t
answered t m (Ok told) = record {
  server = told.server;
  out = t.out ++ sent (frame.Message (reply_to m told.answer));
  edited = noted_done (edited_by t.server m) (reply_to m told.answer) t.edited;
}

-- What a message makes of the turn, with an object handed in or none: the server's step, and its answer behind the
-- others. One that the server does nothing with makes nothing of it.
abbrev pub met : Turn → Message → Option Kind → Turn
met t m box = answered t m (on_call t.server m box)

abbrev pub written : Turn → Result Told ServerFault → Turn
written t (Err fault) = t
written t (Ok told) = record {
  server = told.server;
  out = t.out ++ sent (frame.Message told.message);
  edited = t.edited;
}

-- these activations write of their own accord, one after another
abbrev pub scribbled_all : Turn → List ℕ → Turn
scribbled_all t [] = t
scribbled_all t (act ∷ acts) = scribbled_all (written t (scribble t.server act)) acts

-- What is written as the turn is given back: the answers, what each edited activation writes of its own accord, and a
-- Turn.
abbrev pub given : Turn → List ℕ
given t = (scribbled_all t t.edited).out ++ sent frame.Turn

-- the next turn
abbrev pub turned : Turn → Turn
turned t = record { server = (scribbled_all t t.edited).server; out = []; edited = [] }
