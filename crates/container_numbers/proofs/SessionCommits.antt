-- A commit that is counted leaves all of a container in the session that its save raised the document to, if it raised
-- one.
use Rattle.std.proofs.Common.{◌≡◌, ◌≢◌, ◌+◌, ℕ, true, List, [], map, Option, Some, None, Ok, refl, sym, ◌∙◌, ap, subst}
use Rattle.std.proofs.Common.{arith}
use Rattle.message_values.specs.Found.{nth}
use Rattle.container_model.specs.declared.record.Frame.{Frame}
use Rattle.container_model.specs.declared.record.Link.{Link}
use Rattle.container_model.specs.Record.{Record, Took, asked_all}
use Rattle.container_model.specs.Saves.{commit_at, commit_done, commit_made, completed, completion, counted_session}
use Rattle.container_model.specs.Saves.{resolve, resolved_at, session_after, session_counted}
use Rattle.container_steady.proofs.Settling.{done_commits, kept_commits}
use Rattle.container_queues.proofs.SteadyLookups.{each_map, each_weaker}
use Rattle.container_numbers.specs.Sessions.{InSession, IsInSession, MayRaise}
use Rattle.container_numbers.proofs.SessionFrames.{AllRaise, RaisesIn, all_raise, raise_counted, raises_at}
use Rattle.container_numbers.proofs.SessionLinks.{ActsIn, AllIn, In, asks_all, completes, sends_in}

-- ---- what a save raises, it raises from no session
stays_by : (s f : ℕ) (frame : Frame) (raised : Option ℕ) → MayRaise s f frame raised → s ≢ 0
    → session_after s raised ≡ s
stays_by s f frame None k ne = refl
stays_by s f frame (Some n) k ne = absurd (ne k.0)

-- so no activation is left behind in another session
no_link : (s : ℕ) (link : Option Link) → s ≡ 0 → IsInSession s link → (later : ℕ) → IsInSession later link
no_link s None none h later = tt
no_link s (Some l) none h later = absurd (h.1 none)

link_after : (s f : ℕ) (frame : Frame) (raised : Option ℕ) (link : Option Link) → MayRaise s f frame raised
    → IsInSession s link → IsInSession (session_after s raised) link
link_after s f frame None link k h = h
link_after s f frame (Some n) link k h = no_link s link k.0 h n

-- and whoever raises it has a session then
none_after : {A : Type 0} (s f : ℕ) (frame : Frame) (raised : Option ℕ) (xs ys : List A) → MayRaise s f frame raised
    → (s ≡ 0 → xs ≡ ys) → session_after s raised ≡ 0 → xs ≡ ys
none_after s f frame None xs ys k h e = h e
none_after s f frame (Some n) xs ys k h e = (let next : n ≡ frame.session + 1 = k.2 in let zero : n ≡ 0 = e in
    absurd (omega arith))

-- ---- what a commit makes
module _ (r : Record) (f : ℕ) (frame : Frame) (h : InSession r) (at : nth r.frames f ≡ Some frame) where
  abbrev later : ℕ
  later = session_after r.session frame.raised

  may : RaisesIn r.session f frame
  may = h.raising f frame at

  links_after : AllIn later (map (completed f frame) r.objects)
  links_after = each_map (In later) (In later) (completed f frame) r.objects (completes later f frame)
      (each_weaker (In r.session) (In later) r.objects
      (λ o k. link_after r.session f frame frame.raised o.link may k) h.links)

  frames_after : AllRaise later (commit_made r f frame).rec.frames
  frames_after = raise_counted r.session f r.frames frame (all_raise r.session r.frames h.raising) may

  pub counted_holds : InSession (commit_made r f frame).rec
  counted_holds = record {
    links = links_after;
    servers = none_after r.session f frame frame.raised r.servers [] may h.servers;
    raising = λ i x e. raises_at later (commit_made r f frame).rec.frames i x frames_after e;
  }

  pub counted_stays : r.session ≢ 0 → later ≡ r.session
  counted_stays = stays_by r.session f frame frame.raised may

  pub counted_sends : ActsIn r.session (commit_made r f frame).answer.actions
  counted_sends = sends_in r.session (asked_all f (completion frame) r.objects)
      (asks_all r.session f (completion frame) r.objects h.links)

-- ---- a commit that is done, and one in doubt that is resolved as kept
pub record Counts (r : Record) (f : ℕ) (t : Took) : Type 0 where
  pub same : t.rec.session ≡ session_counted r f
  pub stays : r.session ≢ 0 → t.rec.session ≡ r.session
  pub holds : InSession t.rec
  pub sends : ActsIn r.session t.answer.actions

counted : (r : Record) (f : ℕ) (frame : Frame) (t : Took) → InSession r → nth r.frames f ≡ Some frame
    → commit_made r f frame ≡ t → Counts r f t
counted r f frame t h at made = subst (Counts r f) made (record {
  same = ap (counted_session r.session) (sym at);
  stays = counted_stays r f frame h at;
  holds = counted_holds r f frame h at;
  sends = counted_sends r f frame h at;
})

done_at : (r : Record) (f : ℕ) (found : Option Frame) (t : Took) → InSession r → nth r.frames f ≡ found
    → commit_at r f found ≡ Ok t → Counts r f t
done_at r f None t h at e = cc
done_at r f (Some frame) t h at e = (let c = done_commits r f frame at t (ap (commit_at r f) at ∙ e) in
    counted r f frame t h at c.1)

pub done_counts : (r : Record) (f : ℕ) (t : Took) → InSession r → commit_done r f ≡ Ok t → Counts r f t
done_counts r f t h e = done_at r f (nth r.frames f) t h refl e

kept_at : (r : Record) (f : ℕ) (found : Option Frame) (t : Took) → InSession r → nth r.frames f ≡ found
    → resolved_at r f true found ≡ Ok t → Counts r f t
kept_at r f None t h at e = cc
kept_at r f (Some frame) t h at e = (let c = kept_commits r f frame at t (ap (resolved_at r f true) at ∙ e) in
    counted r f frame t h at c.1)

pub kept_counts : (r : Record) (f : ℕ) (t : Took) → InSession r → resolve r f true ≡ Ok t → Counts r f t
kept_counts r f t h e = kept_at r f (nth r.frames f) t h refl e
