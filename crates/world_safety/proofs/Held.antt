-- Every world that a run reaches is safe.
use Rattle.std.proofs.Common.{◌≡◌, ◌≢◌, ◌≤◌, ℕ, zero, suc, List, [], ◌∷◌, Option, Some, None, Ok, refl, sym, ap, ◌∙◌}
use Rattle.std.proofs.Common.{subst, inl, inr, arith}
use Rattle.object_core.specs.Kinds.{Kind}
use Rattle.tree_streams.specs.declared.stored.Stored.{Stored}
use Rattle.server_model.specs.Server.{Activation}
use Rattle.container_model.specs.declared.record.Link.{Link}
use Rattle.container_steady.proofs.SteadyRecords.{empty_steady}
use Rattle.world_model.specs.declared.event.Event.{Event}
use Rattle.world_model.specs.World.{World, empty_world, happened, Run, Choice, in_session}
use Rattle.world_model.specs.Safe.{Safe, acts_of, links_of, Among, WasSent, messages, sayings}
use Rattle.message_values.specs.declared.operation.Operation.{Operation}
use Rattle.message_values.specs.declared.operation.Operation.TheVariants.{SaveCompleted}
use Rattle.world_facts.specs.Words.{Issued, called, waits}
use Rattle.world_facts.specs.Facts.{HasSaved}
use Rattle.world_files.proofs.Kept.{empty_files, files_happened, limited_ok, commits_kept, images_make}
use Rattle.world_files.specs.Files.{MakesDocument}
use Rattle.container_numbers.specs.Sessions.{IsOf}
use Rattle.world_safety.specs.Holding.{AgreesIn, Holds, InOneSession}
use Rattle.world_safety.proofs.Events.{agrees_happened, said_in_log}
use Rattle.world_safety.proofs.Granting.{granted_happened}
use Rattle.world_safety.proofs.Holders.{holder, one_holder}
use Rattle.world_safety.proofs.Numbering.{empty_numbers, numbers_happened}
use Rattle.world_safety.proofs.Opened.{files_kept, files_opened_give, shared_kept}
use Rattle.world_safety.proofs.Once.{once_answered}
use Rattle.world_safety.proofs.Sessions.{empty_session, session_happened}
use Rattle.message_values.specs.declared.message.Message.{Message}
use Rattle.message_values.specs.declared.message.Said.{Said}
use Rattle.message_values.specs.declared.message.Said.TheVariants.{Reply}
use Rattle.world_model.specs.declared.logs.Sent.{Sent}

has_saved : (a : Option Activation) (c : Stored) → HasSaved c a → (b : Activation) × (a ≡ Some b) × (b.saved ≡ Some c)
has_saved None c h = absurd h
has_saved (Some b) c h = (b, refl, h)

-- what was sent in a session was said
said_of : (w : World) (s : ℕ) (x : Said) → WasSent w (in_session s x) → Among (sayings w.sent) x
said_of w s x g = said_in_log w.sent (in_session s x) g

-- a session that there is has a number from 1
numbered_of : (s session : ℕ) → IsOf s session → (session ≡ s) × (1 ≤ session)
numbered_of s session h = (h.0, from_one session (λ z. h.1 (sym h.0 ∙ z)))
  where
    from_one : (n : ℕ) → n ≢ 0 → 1 ≤ n
    from_one zero g = absurd (g refl)
    from_one (suc k) g = omega arith

all_in_session : (w : World) → InOneSession w → (m : Message) → WasSent w m → m.session ≡ w.rec.session
all_in_session w h m g = (h.sent m g).0

pub safe_held : (w : World) → Holds w → Safe w
safe_held w h = (let f = h.agrees.facts in record {
  acts_once = λ s inc act n op r next g e. once_answered w s inc act n op r h.agrees
      (said_of w s (Reply inc act n r) g) next e;
  one_reply = λ s inc act n r q g k. f.replies.one_reply inc act n r q (said_of w s (Reply inc act n r) g)
      (said_of w s (Reply inc act n q) k);
  kept_reply = λ inc act a r e g. (let k = f.replies.replies_kept inc act a.last r
      (said_of w w.rec.session (Reply inc act a.last r) g) in
      let is : a ≡ k.0 = (let z : Some a ≡ Some k.0 = sym e ∙ k.1 in cc) in
      k.3 (ap (λ (x : Activation). x.last) is) ∙ ap (λ (x : Activation). x.reply) (sym is));
  answered = λ n l content e honest s. has_saved (acts_of w.instances l.inc l.act) content
      (f.saved_same n l content e honest s);
  one_holder = one_holder w h.agrees;
  holder = holder w h.agrees (all_in_session w h.in_session);
  writes = h.taken_held;
  container_once = h.files.counted_bounded.counted_once;
  server_once = f.counts.server_once;
  agreed = λ e g honest. f.counts.server_counted e g honest;
  of_session = λ m g. numbered_of w.rec.session m.session (h.in_session.sent m g);
  servers = λ inc i e. numbered_of w.rec.session i.core.session (h.in_session.servers inc i e);
  numbered = h.numbers.sent;
  commits = h.files.commits.commits;
  counted = commits_kept w h.files;
  shared = λ e g honest. shared_kept w h.files e (f.counts.server_counted e g honest);
  files = λ f frame document at sure. files_kept w h.files f frame document at sure;
  opened = λ name given read. files_opened_give w h.files name given read;
})

-- the world in which nothing has happened
no_act : (inc act : ℕ) → acts_of [] inc act ≡ None
no_act zero act = refl
no_act (suc k) act = refl

absent : (inc act : ℕ) (a : Activation) → acts_of [] inc act ≡ Some a → ⊥
absent inc act a e = (let z : None ≡ Some a = sym (no_act inc act) ∙ e in cc)

no_link : (n : ℕ) (l : Link) → links_of [] n ≡ Some l → ⊥
no_link n l e = (let z : None ≡ Some l = e in cc)

none_issued : (inc act n : ℕ) (op : Operation) → Issued (links_of []) [] inc act n op → ⊥
none_issued inc act n op (called g) = g
none_issued inc act n op (waits o l i e ei ea at en) = no_link o l e

empty_agrees : (numbers : ℕ) (stock : List Kind) → AgreesIn (empty_world numbers stock)
empty_agrees numbers stock = record {
  steady = empty_steady numbers;
  servers = refl;
  facts = record {
    drawn = record {
      many = refl;
      acts_drawn = λ inc act a e. absurd (absent inc act a e);
      acts_called = λ inc act a e. absurd (absent inc act a e);
      calls_drawn = λ inc act n op h. absurd h;
      calls_named = λ o l e. absurd (no_link o l e);
      servers_told = λ o l e. absurd (no_link o l e);
      calls_told = λ inc act n op h. absurd h;
    };
    calls = record { bounded = λ o inc n op l e h. absurd h; pending = λ o inc op asked l e q h. absurd h };
    in_step = λ o l e. absurd (no_link o l e);
    one_ahead = λ inc act n op honest h. absurd h;
    unlinked = record {
      called = λ inc act n op honest runs h. absurd h;
      known = λ inc act a honest runs e. absurd (absent inc act a e);
    };
    replies = record {
      reply_numbered = λ inc act a e. absurd (absent inc act a e);
      replies_kept = λ inc act n r h. absurd h;
      one_reply = λ inc act n r q h. absurd h;
    };
    saved_same = λ o l c e. absurd (no_link o l e);
    counts = record {
      completed_counted = λ inc act n k s i. absurd (none_issued inc act n (SaveCompleted k s) i);
      completed_once = λ inc act n inc' act' n' k o s s' i. absurd (none_issued inc act n (SaveCompleted k s) i);
      completed_content = λ inc act n k o s a i. absurd (none_issued inc act n (SaveCompleted k s) i);
      server_called = λ e h. absurd h;
      server_once = tt;
      server_counted = λ e h. absurd h;
    };
  };
  views = record { writes_sent = λ x h. absurd h; closes_sent = λ o l a option e. absurd (no_link o l e) };
  grants = record {
    g_is_ui = λ inc act g a honest e. absurd (absent inc act a e);
    holder_named = λ o g l a e. absurd (no_link o l e);
    replied_called = λ inc act n r h. absurd h;
    held_told = λ o g tools l e. absurd (no_link o l e);
  };
}

pub empty_held : (numbers : ℕ) (stock : List Kind) → Holds (empty_world numbers stock)
empty_held numbers stock = record {
  in_session = empty_session numbers stock;
  agrees = empty_agrees numbers stock;
  files = empty_files numbers stock;
  numbers = empty_numbers numbers stock;
  taken_held = λ t h. absurd h;
}

pub held_happened : (w : World) (choice : Choice) (e : Event) (v : World) → Holds w → MakesDocument w choice e
    → happened w choice e ≡ Ok v → Holds v
held_happened w choice e v h im ok =
    let agrees = agrees_happened w choice e v h.files h.agrees ok in
    let files = files_happened w choice e v h.agrees.steady h.files im ok in
    record {
      in_session = session_happened w choice e v h.in_session ok;
      agrees = agrees;
      files = files;
      numbers = numbers_happened w choice e v h.agrees h.files h.numbers agrees files ok;
      taken_held = granted_happened w choice e v h.agrees (all_in_session w h.in_session) h.taken_held ok;
    }

pub held_run : (w : World) (es : List Event) (after : World) → Holds w → Run w es after → Holds after
held_run w [] after h r = subst Holds (sym r) h
held_run w (e ∷ es) after h r = held_run r.1 es after
    (held_happened w r.0 e r.1 h (images_make w r.0 e r.2) (limited_ok w (happened w r.0 e) r.1 r.3)) r.4
