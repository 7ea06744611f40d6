-- A message that is taken, by the incarnation of its link alone.
use Rattle.std.proofs.Common.{◌≡◌, ◌≢◌, ◌==◌, ◌&&◌, ℕ, Bool, true, false, not, Result, Ok, Err, refl, ap, sym, ◌∙◌}
use Rattle.std.proofs.Common.{if◌then◌else◌, eq-eqb}
use Rattle.std.proofs.lemmas.Bool.{eqb-true, ne_eqb}
use Rattle.message_values.specs.declared.message.Message.{Message}
use Rattle.message_values.specs.declared.message.Said.{Said}
use Rattle.message_values.specs.declared.message.Said.TheVariants.{Call, Reply, Write, Ask}
use Rattle.container_model.specs.declared.server_link.ServerLink.{ServerLink}
use Rattle.container_model.specs.declared.fault.ContainerFault.{ContainerFault}
use Rattle.container_model.specs.declared.fault.ContainerFault.TheVariants.{Stale, WrongLink}
use Rattle.container_model.specs.Record.{Record, Took, unless}
use Rattle.container_model.specs.Messages.{is_on, is_said_by, on_ask, on_message, on_reply, on_write, said_to}

-- what is said on the link of a server of this incarnation
abbrev pub said_on : Record → ℕ → Said → Result Took ContainerFault
said_on r link (Call inc act n op) = Err WrongLink
said_on r link (Reply inc act n answer) = if inc == link then on_reply r inc act n answer else Err WrongLink
said_on r link (Write inc act s w content) = if inc == link then on_write r inc act s w content else Err WrongLink
said_on r link (Ask inc act g) = if inc == link then on_ask r inc act g else Err WrongLink

-- a message that is taken is of its link's session, which is the container's, and is said by its server
pub record IsSaidOn (r : Record) (link : ServerLink) (m : Message) (t : Took) : Type 0 where
  pub session : m.session ≡ link.session
  pub present : link.session ≡ r.session
  pub said : said_on r link.inc m.said ≡ Ok t

both_hold : (a b : Bool) → (a && b) ≡ true → (a ≡ true) × (b ≡ true)
both_hold true true e = (refl, refl)
both_hold true false e = cc
both_hold false b e = cc

taken_by : (a b : Bool) (x : Result Took ContainerFault) (t : Took)
    → unless (not a) WrongLink (unless (not b) Stale x) ≡ Ok t → (a ≡ true) × (b ≡ true) × (x ≡ Ok t)
taken_by true true x t e = (refl, refl, e)
taken_by true false x t e = cc
taken_by false b x t e = cc

said_same : (r : Record) (link : ℕ) (said : Said) → is_said_by link said ≡ true → said_on r link said ≡ said_to r said
said_same r link (Call inc act n op) e = refl
said_same r link (Reply inc act n answer) e = rw e refl
said_same r link (Write inc act s w content) e = rw e refl
said_same r link (Ask inc act g) e = rw e refl

pub is_said_on : (r : Record) (link : ServerLink) (m : Message) (t : Took) → on_message r link m ≡ Ok t
    → IsSaidOn r link m t
is_said_on r link m t e =
    let a = taken_by (is_on link m) (link.session == r.session) (said_to r m.said) t e in
    let b = both_hold (m.session == link.session) (is_said_by link.inc m.said) a.0 in
    record {
      session = eqb-true m.session link.session b.0;
      present = eqb-true link.session r.session a.1;
      said = said_same r link.inc m.said b.1 ∙ a.2;
    }

-- what is said on its own link, in the link's session: stale where that isn't the container's
pub own_stale : (r : Record) (s inc : ℕ) (said : Said) → is_said_by inc said ≡ true → said_to r said ≡ Err Stale
    → on_message r (record { session = s; inc = inc }) (record { session = s; said = said }) ≡ Err Stale
own_stale r s inc said own e =
    let same : (s == s) ≡ true = eq-eqb s s refl in
    rw (same, own) (elim (s == r.session) as (λ b. unless (not b) Stale (said_to r said) ≡ Err Stale) [
      | true ↦
          e
      | false ↦ refl
    ])

-- on a link of another session than the container's all is stale that is on its own link
pub earlier_stale : (r : Record) (link : ServerLink) (m : Message) → is_on link m ≡ true → link.session ≢ r.session
    → on_message r link m ≡ Err Stale
earlier_stale r link m own other = (let no : (link.session == r.session) ≡ false =
    ne_eqb link.session r.session other in rw (own, no) refl)

-- and what isn't on its own link is refused
pub other_refused : (r : Record) (link : ServerLink) (m : Message) → is_on link m ≡ false
    → on_message r link m ≡ Err WrongLink
other_refused r link m other = rw other refl

pub other_session_off : (link : ServerLink) (m : Message) → m.session ≢ link.session → is_on link m ≡ false
other_session_off link m h = (let no : (m.session == link.session) ≡ false = ne_eqb m.session link.session h in
    rw no refl)
