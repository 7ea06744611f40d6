-- What happens at a server of an earlier run is an event of that run by itself.
use Rattle.std.proofs.Common.{◌≡◌, ◌≢◌, ℕ, List, [], ◌++◌, Option, Some, None, Result, Ok, Err, refl, sym, ◌∙◌, subst}
use Rattle.message_values.specs.Found.{nth}
use Rattle.container_model.specs.Record.{Record}
use Rattle.world_model.specs.declared.event.Event.{Event}
use Rattle.world_model.specs.declared.event.Event.TheVariants as event
use Rattle.world_model.specs.declared.event.Stop.{Stop}
use Rattle.world_model.specs.declared.event.Stop.TheVariants.{NotEnabled}
use Rattle.world_model.specs.declared.logs.File.{File}
use Rattle.world_model.specs.declared.logs.Sent.{Sent}
use Rattle.world_model.specs.World.{World, ask, crash, deliver, happened, no_choice, scribble}
use Rattle.world_files.specs.Files.{MakesDocument}
use Rattle.world_safety.specs.Holding.{Holds}
use Rattle.world_safety.proofs.Held.{held_happened}
use Rattle.world_model.specs.Story.{Epoch, as_of, goes_on, session_at, session_of}
use Rattle.world_stories.specs.Holding.{mirror_of, sent_in}
use Rattle.world_stories.specs.Steps.{HasGoneOn, left_of, twin}
use Rattle.world_stories.proofs.Elsewhere.{new_sent, reset}
use Rattle.world_stories.proofs.Following.{Follows, by_itself, follows_ask, follows_crash, follows_delivered}
use Rattle.world_stories.proofs.Following.{follows_here, follows_scribble, own_call}
use Rattle.world_stories.proofs.Members.{place_in}

-- the event of the run by itself
record IsFollowed (a : World) (rec : Record) (files : List File) (sent : List Sent) (v : World) : Type 0 where
  pub event : Event
  pub image : MakesDocument (by_itself a rec files sent) no_choice event
  pub follows : Follows a rec files sent (happened (by_itself a rec files sent) no_choice event) v

refused : (v : World) (A : Type 0) → ◌≡◌ {A = Result World Stop} (Err NotEnabled) (Ok v) → A
refused v A e = cc

module _ (w : World) (e : Epoch) (rec : Record) (files : List File) (v : World) where
  abbrev own : List Sent
  own = sent_in e.session w.sent

  abbrev u : World
  u = by_itself (as_of w e) rec files own

  abbrev Followed : Type 0
  Followed = IsFollowed (as_of w e) rec files own v

  delivered : (p : ℕ) (x : Option Sent) → nth w.sent p ≡ x → session_at w.rec.session x ≡ e.session
      → e.session ≢ w.rec.session
      → deliver (as_of w e) p x ≡ Ok v → Followed
  delivered p None at is apart ok = refused v Followed ok
  delivered p (Some x) at is apart ok =
      (let k = place_in e.session w.sent p x at
      (own_call w.rec.session e.session x.message x.message.said is apart) in
      record {
        event = event.Deliver k.0;
        image = tt;
        follows = follows_delivered (as_of w e) rec files own p k.0 x
            v k.1 (λ z. apart (sym is ∙ z)) ok;
      })

  followed : (x : Event) → session_of w x ≡ e.session → e.session ≢ w.rec.session → goes_on (as_of w e) x ≡ Ok v
      → Followed
  followed (event.Command c) is apart ok = refused v Followed ok
  followed (event.Deliver p) is apart ok = delivered p (nth w.sent p) refl is apart ok
  followed (event.Forge inc m) is apart ok = refused v Followed ok
  followed (event.Crash session inc) is apart ok = record {
    event = event.Crash rec.session inc;
    image = tt;
    follows = follows_here (as_of w e) rec files own (crash u inc (nth e.instances inc)) v
        (follows_crash (as_of w e) rec files own inc (nth e.instances inc) v ok);
  }
  followed (event.Reap inc) is apart ok = refused v Followed ok
  followed (event.Done f) is apart ok = refused v Followed ok
  followed (event.Fail f) is apart ok = refused v Followed ok
  followed (event.Resolve f is_kept) is apart ok = refused v Followed ok
  followed (event.Open name width height) is apart ok = refused v Followed ok
  followed (event.Scribble session inc act) is apart ok = record {
    event = event.Scribble rec.session inc act;
    image = tt;
    follows = follows_here (as_of w e) rec files own (scribble u inc act (nth e.instances inc)) v
        (follows_scribble (as_of w e) rec files own inc act (nth e.instances inc) v ok);
  }
  followed (event.Ask session inc act) is apart ok = record {
    event = event.Ask rec.session inc act;
    image = tt;
    follows = follows_here (as_of w e) rec files own (ask u inc act (nth e.instances inc)) v
        (follows_ask (as_of w e) rec files own inc act (nth e.instances inc) v ok);
  }

  goes : rec.session ≡ e.session → Holds (mirror_of w e rec files) → Followed → HasGoneOn w e v rec files
  goes same h k =
      let f = k.follows in
      let next : Holds f.next = held_happened (mirror_of w e rec files) no_choice k.event f.next h k.image f.is in
      let held : Holds (twin (record v { rec = rec }) files (own ++ f.more)) =
      subst Holds f.alike (reset f.next next) in
      record {
        more = f.more;
        sent = f.grown;
        of = λ m g. (held.in_session.sent m (new_sent own f.more m g)).0 ∙ same;
        stays = f.stays;
        holds = held;
      }

pub goes_on_held : (w : World) (e : Epoch) (x : Event) (rec : Record) (files : List File) (v : World)
    → rec.session ≡ e.session
    → Holds (mirror_of w e rec files) → session_of w x ≡ e.session → e.session ≢ w.rec.session
    → goes_on (as_of w e) x ≡ Ok v → HasGoneOn w e v rec files
goes_on_held w e x rec files v same h is apart ok = goes w e rec files v same h (followed w e rec files v x is apart ok)

-- it leaves the record, the files and most logs as they are
pub goes_left : (w : World) (e : Epoch) (x : Event) (v : World) → session_of w x ≡ e.session
    → e.session ≢ w.rec.session → goes_on (as_of w e) x ≡ Ok v
    → left_of (as_of w e) v ≡ v
goes_left w e x v is apart ok = (followed w e w.rec [] v x is apart ok).follows.stays
