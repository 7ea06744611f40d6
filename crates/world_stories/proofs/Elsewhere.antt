-- What happens elsewhere leaves a run by itself as it is; and a run that begins, and one that is over.
use Rattle.std.proofs.Common.{◌≡◌, ◌≢◌, ◌⊎◌, ℕ, List, [], ◌++◌, Some, refl, sym, ap, ◌∙◌, subst}
use Rattle.std.proofs.lemmas.List.{map-append}
use Rattle.message_values.specs.Found.{nth}
use Rattle.message_values.specs.declared.message.Message.{Message}
use Rattle.message_values.specs.declared.message.Said.{Said}
use Rattle.message_values.specs.declared.message.Said.TheVariants.{Call, Reply, Write, Ask}
use Rattle.message_values.specs.declared.operation.Operation.TheVariants.{Close}
use Rattle.message_values.specs.declared.answer.Answer.TheVariants as told
use Rattle.object_state.specs.declared.operations.CloseOption.TheVariants.{SaveIfDirty}
use Rattle.object_core.specs.Kinds.{Kind}
use Rattle.container_model.specs.Record.{Record}
use Rattle.world_model.specs.declared.logs.File.{File}
use Rattle.world_model.specs.declared.logs.Sent.{Sent}
use Rattle.world_model.specs.declared.logs.Taken.{Taken}
use Rattle.world_model.specs.Safe.{Among, BringsBy, WasSent, messages}
use Rattle.world_model.specs.World.{World, in_session}
use Rattle.world_facts.proofs.Lookups.{among_join, among_new, among_old, nth_old}
use Rattle.world_safety.specs.Holding.{Holds}
use Rattle.world_safety.proofs.Held.{empty_held}
use Rattle.world_model.specs.SafeStory.{IsGrantedIn}
use Rattle.world_model.specs.Story.{Epoch, begun, epoch_of}
use Rattle.world_stories.specs.Holding.{CountsSession, HoldsPast, mirror, mirror_of, sent_in}
use Rattle.world_stories.specs.Steps.{quieted, twin}
use Rattle.world_stories.proofs.Members.{in_apart, in_none, message_in}

-- ---- what was sent
pub new_sent : (xs ys : List Sent) (m : Message) → Among (messages ys) m → Among (messages (xs ++ ys)) m
new_sent xs ys m g = subst (λ ms. Among ms m) (sym (map-append message_in xs ys))
    (among_new (messages xs) (messages ys) m g)

pub sent_grows : (w v : World) (more : List Sent) → v.sent ≡ w.sent ++ more → (m : Message) → WasSent v m
    → WasSent w m ⊎ Among (messages more) m
sent_grows w v more e m g = among_join (messages w.sent) (messages more) m
    (subst (λ ms. Among ms m) (ap messages e ∙ map-append message_in w.sent more) g)

sent_more : (w v : World) (more : List Sent) (m : Message) → v.sent ≡ w.sent ++ more → WasSent w m → WasSent v m
sent_more w v more m e g = subst (λ xs. Among xs m) (sym (ap messages e ∙ map-append message_in w.sent more))
    (among_old (messages w.sent) (messages more) m g)

brings_more : (w v : World) (more : List Sent) (session : ℕ) (x : Said) (t : Taken) → v.sent ≡ w.sent ++ more
    → BringsBy w session x t → BringsBy v session x t
brings_more w v more session (Call inc act n op) t e b = absurd b
brings_more w v more session (Reply inc act n told.Done) t e b = absurd b
brings_more w v more session (Reply inc act n (told.Refused why)) t e b = absurd b
brings_more w v more session (Reply inc act n (told.Content content)) t e b =
    (b.0, b.1, sent_more w v more (in_session session (Call inc act n (Close SaveIfDirty))) e b.2)
brings_more w v more session (Reply inc act n (told.Tools menus border)) t e b = absurd b
brings_more w v more session (Write inc act s number content) t e b = b
brings_more w v more session (Ask inc act g) t e b = absurd b

-- what was granted stays so
pub granted_grows : (w v : World) (more : List Sent) (session : ℕ) (t : Taken) → v.sent ≡ w.sent ++ more
    → IsGrantedIn w session t → IsGrantedIn v session t
granted_grows w v more session t e h = (let g = h.granted in let s = g.sent in record {
  granted = record {
    message = g.message;
    place = g.place;
    placed = g.placed;
    delivered = ap (λ xs. nth (messages xs) g.place) e
        ∙ (ap (λ xs. nth xs g.place) (map-append message_in w.sent more)
        ∙ nth_old (messages w.sent) (messages more) g.place g.message g.delivered);
    brings = brings_more w v more g.message.session g.message.said t e g.brings;
    sent = (
      s.0,
      subst (λ xs. Among xs (record { message = g.message; view = Some s.0 })) (sym e)
          (among_old w.sent more _ s.1),
      s.2,
      s.3,
      s.4,
    );
    held_open = g.held_open;
    unasked = g.unasked;
  };
  in_session = h.in_session;
})

-- ---- what holds of a world holds whatever its stock is and whatever it answered, and where nothing was taken
pub recast : (w : World) (stock : List Kind) → Holds w → Holds (record (quieted w) { stock = stock })
recast w stock h = record {
  in_session = record { holds = h.in_session.holds; sent = h.in_session.sent; servers = h.in_session.servers };
  agrees = h.agrees;
  files = record { counted_bounded = h.files.counted_bounded; filed = h.files.filed; commits = h.files.commits };
  numbers = record { recorded = h.numbers.recorded; sent = h.numbers.sent; servers = h.numbers.servers };
  taken_held = λ t g honest. absurd g;
}

pub reset : (w : World) → Holds w → Holds (quieted w)
reset w h = recast w w.stock h

-- A run by itself, without its files, its stock and what was sent, taken and answered in it.
abbrev pub alone : World → World
alone w = record w { files = []; stock = []; sent = []; taken = []; answers = [] }

pub moved : (w v : World) (files : List File) (xs ys : List Sent) → alone v ≡ alone w → ys ≡ xs
    → Holds (twin w files xs) → Holds (twin v files ys)
moved w v files xs ys same ex h = subst (λ a. Holds (record a { files = files; stock = v.stock; sent = ys })) (sym same)
    (subst (λ zs. Holds (record (alone w) { files = files; stock = v.stock; sent = zs })) (sym ex)
    (recast (twin w files xs) v.stock h))

-- ---- what happens elsewhere
pub elsewhere_now : (w v : World) (files : List File) (more : List Sent) → alone v ≡ alone w → v.sent ≡ w.sent ++ more
    → ((m : Message) → Among (messages more) m → m.session ≢ w.rec.session) → Holds (mirror w files)
    → Holds (mirror v files)
elsewhere_now w v files more same em apart h = moved w v files (sent_in w.rec.session w.sent)
    (sent_in v.rec.session v.sent) same
    (ap (λ (y : World). sent_in y.rec.session v.sent) same
    ∙ (ap (sent_in w.rec.session) em ∙ in_apart w.rec.session w.sent more apart)) h

pub elsewhere_past : (w v : World) (e : Epoch) (rec : Record) (files : List File) (more : List Sent)
    → v.rec.numbers ≡ w.rec.numbers → v.sent ≡ w.sent ++ more
    → ((m : Message) → Among (messages more) m → m.session ≢ e.session) → HoldsPast w e rec files
    → HoldsPast v e rec files
elsewhere_past w v e rec files more en em apart h = record {
  session = h.session;
  numbers = h.numbers ∙ sym en;
  raised = h.raised;
  bears = h.bears;
  holds = moved (mirror_of w e rec files) (mirror_of v e rec files) files (sent_in e.session w.sent)
      (sent_in e.session v.sent) refl
      (ap (sent_in e.session) em ∙ in_apart e.session w.sent more apart) h.holds;
}

-- ---- a run that begins, and one that is over
pub begun_held : (w : World) → ((m : Message) → WasSent w m → m.session ≢ 0) → Holds (mirror (begun w) [])
begun_held w raised = subst (λ xs. Holds (twin (begun w) [] xs)) (sym (in_none 0 w.sent raised))
    (empty_held w.rec.numbers w.stock)

pub over : (w : World) (files : List File) → Holds (mirror w files) → w.rec.session ≢ 0
    → CountsSession w.counted w.rec.session → (v : World)
    → v.sent ≡ w.sent → v.rec.numbers ≡ w.rec.numbers → HoldsPast v (epoch_of w) w.rec files
over w files h raised bears v es en = record {
  session = refl;
  numbers = sym en;
  raised = raised;
  bears = bears;
  holds =
      moved w (mirror_of v (epoch_of w) w.rec files) files (sent_in w.rec.session w.sent)
      (sent_in w.rec.session v.sent) refl (ap (sent_in w.rec.session) es) h;
}
