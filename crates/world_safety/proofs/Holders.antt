-- An activation that has a grant is named by its object's frame: so at most one has a frame.
use Rattle.std.proofs.Common.{◌≡◌, ◌≢◌, ℕ, Some, None, sym, ap, ◌∙◌, inl, inr, subst, refl}
use Rattle.message_values.specs.Found.{find, nth}
use Rattle.object_state.specs.declared.grant_states.Claim.{Claim}
use Rattle.object_state.specs.declared.grant_states.Tools.{Tools}
use Rattle.object_state.specs.declared.grant_states.GrantState.{GrantState}
use Rattle.object_state.specs.declared.grant_states.GrantState.TheVariants.{Free, Granting, Held, Revoking}
use Rattle.object_state.specs.Grants.{IsApart, waiting, who}
use Rattle.server_model.specs.Server.{Activation}
use Rattle.container_model.specs.declared.record.Link.{Link}
use Rattle.container_model.specs.declared.record.Object.{Object}
use Rattle.container_model.specs.declared.record.Frame.{Frame}
use Rattle.container_model.specs.Record.{is_object}
use Rattle.container_queues.specs.Roles.{Holding, IsClaim, role_in}
use Rattle.container_steady.proofs.SteadyRecords.{if_at}
use Rattle.world_model.specs.declared.life.Life.TheVariants.{Running}
use Rattle.world_model.specs.World.{World, nth_or_zero, owner}
use Rattle.world_model.specs.Safe.{link_at, links_of, act_at, acts_of, sayings, IsHonest, HoldsFrame, IsHolder}
use Rattle.world_model.specs.Safe.{WasAnswered}
use Rattle.world_facts.specs.Words.{life_at, lives_of, IsLinked, IsOpen}
use Rattle.world_grants.specs.Grants.{Names, WasTold, roles_of}
use Rattle.world_grants.proofs.Moving.{IsIn, in_frame}
use Rattle.world_grants.proofs.States.{named_is, is_holding}
use Rattle.world_safety.specs.Holding.{AgreesIn}
use Rattle.world_safety.proofs.Granting.{AllIn, sent_said}
use Rattle.message_values.specs.declared.message.Said.TheVariants.{Call, Reply}
use Rattle.message_values.specs.declared.operation.Operation.TheVariants.{UiActivate}
use Rattle.message_values.specs.declared.answer.Answer.TheVariants as told

claim_is : (c : Claim) (o a g : ℕ) → c.object ≡ o → c.act ≡ a → c.g ≡ g → c ≡ record { object = o; act = a; g = g }
claim_is c o a g eo ea eg = ap (λ x. record { object = x; act = c.act; g = c.g }) eo
    ∙ (ap (λ x. record { object = o; act = x; g = c.g }) ea ∙ ap (λ x. record { object = o; act = a; g = x }) eg)

-- whoever waits has another activation
waits_apart : (s : GrantState) (c next : Claim) → IsApart s → who s ≡ Some c → waiting s ≡ Some next → next.act ≢ c.act
waits_apart Free c next h e w = cc
waits_apart (Granting holder) c next h e w = cc
waits_apart (Held holder tools) c next h e w = cc
waits_apart (Revoking holder None) c next h e w = cc
waits_apart (Revoking holder (Some x)) c next h e w = (let xn : x ≡ next = cc in let hc : holder ≡ c = cc in
    λ q. h.1 (ap (λ (z : Claim). z.act) xn ∙ (q ∙ ap (λ (z : Claim). z.act) (sym hc))))

module _ (w : World) (h : AgreesIn w) where
  -- the frame's claim, and the link of its object
  record IsNamed (inc act g f : ℕ) : Type 0 where
    number : ℕ
    link : Link
    frame : Frame
    claim : Claim
    owned : owner w act ≡ number
    linked : links_of w.rec.objects number ≡ Some link
    inc_is : link.inc ≡ inc
    act_is : link.act ≡ act
    there : nth w.rec.frames f ≡ Some frame
    role : roles_of w.rec number ≡ role_in frame.ui.state number
    named : who frame.ui.state ≡ Some claim
    object_is : claim.object ≡ number
    claimed : claim.act ≡ act
    g_is : claim.g ≡ g

  -- the claim of a frame is of its object's activation
  claimed_by : (f o : ℕ) (l : Link) (frame : Frame) (c : Claim) → nth w.rec.frames f ≡ Some frame
      → links_of w.rec.objects o ≡ Some l → who frame.ui.state ≡ Some c → c.object ≡ o → c.act ≡ l.act
  claimed_by f o l frame c there e named object_is =
      of_claim (if_at (IsClaim w.rec f) (who frame.ui.state) c named (h.steady.grants f frame there).holder)
    where
      of_claim : IsClaim w.rec f c → c.act ≡ l.act
      of_claim claim =
          let here : links_of w.rec.objects c.object ≡ Some claim.link = ap link_at claim.found ∙ claim.linked in
          let z : Some claim.link ≡ Some l = sym here ∙ (ap (links_of w.rec.objects) object_is ∙ e) in
          let cl : claim.link ≡ l = cc in
          sym claim.act ∙ ap (λ (z : Link). z.act) cl

  -- the frame of an object, and the object's part in it
  framed : (o f : ℕ) (x : Object) → find (is_object o) w.rec.objects ≡ Some x → x.frame ≡ f → (frame : Frame)
      × (nth w.rec.frames f ≡ Some frame) × (roles_of w.rec o ≡ role_in frame.ui.state o)
  framed o f x found inside = of_frame (in_frame w.rec o x h.steady found)
    where
      of_frame : IsIn w.rec o → (frame : Frame) × (nth w.rec.frames f ≡ Some frame)
          × (roles_of w.rec o ≡ role_in frame.ui.state o)
      of_frame i =
          let z : Some i.object ≡ Some x = sym i.found ∙ found in
          let same : i.object ≡ x = cc in
          (i.frame, ap (nth w.rec.frames) (sym (ap (λ (z : Object). z.frame) same ∙ inside)) ∙ i.inside, i.role)

  named_at : (inc act g f o : ℕ) (l : Link) (frame : Frame) (c : Claim) → owner w act ≡ o
      → links_of w.rec.objects o ≡ Some l → l.inc ≡ inc → l.act ≡ act → nth w.rec.frames f ≡ Some frame
      → roles_of w.rec o ≡ role_in frame.ui.state o
      → who frame.ui.state ≡ Some c → c.object ≡ o → c.g ≡ g → IsNamed inc act g f
  named_at inc act g f o l frame c owned e ei ea there role named object_is g_is = record {
    number = o;
    link = l;
    frame = frame;
    claim = c;
    owned = owned;
    linked = e;
    inc_is = ei;
    act_is = ea;
    there = there;
    role = role;
    named = named;
    object_is = object_is;
    claimed = claimed_by f o l frame c there e named object_is ∙ ea;
    g_is = g_is;
  }

  named_by : (inc act g f o : ℕ) (l : Link) (frame : Frame) → owner w act ≡ o → links_of w.rec.objects o ≡ Some l
      → l.inc ≡ inc → l.act ≡ act → nth w.rec.frames f ≡ Some frame → roles_of w.rec o ≡ role_in frame.ui.state o
      → Names (roles_of w.rec o) g → IsNamed inc act g f
  named_by inc act g f o l frame owned e ei ea there role names =
      let c = named_is frame.ui.state o g (subst (λ r. Names r g) role names) in
      named_at inc act g f o l frame c.0 owned e ei ea there role c.1 c.2 c.3

  named_linked : (inc act g f : ℕ) (a : Activation) (x : Object) → IsHonest w.hostile inc
      → acts_of w.instances inc act ≡ Some a → a.g ≡ Some g → find (is_object (owner w act)) w.rec.objects ≡ Some x
      → x.frame ≡ f → IsLinked (links_of w.rec.objects) inc act → IsNamed inc act g f
  named_linked inc act g f a x honest at has found inside k = of_link k.0 k.1 k.2 k.3 k.4
    where
      of_link : (o : ℕ) (l : Link) → links_of w.rec.objects o ≡ Some l → l.inc ≡ inc → l.act ≡ act → IsNamed inc act g f
      of_link o l e ei ea =
          let owned : owner w act ≡ o =
          ap nth_or_zero (subst (λ a. nth w.owners a ≡ Some o) ea (h.facts.drawn.calls_named o l e)) in
          let names : Names (roles_of w.rec o) g = h.grants.holder_named o g l a e
          (subst (IsHonest w.hostile) (sym ei) honest) (ap (λ i. acts_of w.instances i l.act) ei
          ∙ (ap (acts_of w.instances inc) ea ∙ at)) has in
          let p = framed o f x (ap (λ n. find (is_object n) w.rec.objects) (sym owned) ∙ found) inside in
          named_by inc act g f o l p.0 owned e ei ea p.1 p.2 names

  -- an open activation of a server that runs is linked
  linked_open : (inc act : ℕ) (a : Activation) → IsHonest w.hostile inc → acts_of w.instances inc act ≡ Some a
      → lives_of w.instances inc ≡ Some Running → IsOpen a → IsLinked (links_of w.rec.objects) inc act
  linked_open inc act a honest at runs opened = elim (h.facts.unlinked.known inc act a honest runs at) [
    | inl k ↦ k
    | inr c ↦ absurd (let z : None ≡ Some opened.0 = sym c ∙ opened.1 in cc)
  ]

  named_in : (inc act g f : ℕ) → IsHonest w.hostile inc → HoldsFrame w inc act g f → IsNamed inc act g f
  named_in inc act g f honest x =
      let at : acts_of w.instances inc act ≡ Some x.activation = ap (act_at act) x.hosted ∙ x.known in
      let runs : lives_of w.instances inc ≡ Some Running = ap life_at x.hosted ∙ ap Some x.runs in
      named_linked inc act g f x.activation x.object honest at x.has_grant x.owned x.inside
      (linked_open inc act x.activation honest at runs
      (h.grants.g_is_ui inc act g x.activation honest at x.has_grant).0)

  answered : AllIn w → (inc act g f : ℕ) (honest : IsHonest w.hostile inc) (n : IsNamed inc act g f)
      (holder : Claim) (tools : Tools) → n.frame.ui.state ≡ Held holder tools → WasAnswered w inc act g tools
  answered all inc act g f honest n holder tools e =
      let hc : holder ≡ n.claim = (let z : Some holder ≡ Some n.claim = ap who (sym e) ∙ n.named in cc) in
      let role : roles_of w.rec n.number ≡ Holding g tools = n.role
      ∙ (ap (λ s. role_in s n.number) (e ∙ ap (λ c. Held c tools) hc)
      ∙ (ap (role_in (Held n.claim tools)) (sym n.object_is)
      ∙ (is_holding n.claim tools ∙ ap (λ x. Holding x tools) n.g_is))) in
      let t : WasTold (sayings w.sent) inc act g tools = subst (λ i. WasTold (sayings w.sent) i act g tools)
      n.inc_is (subst (λ a. WasTold (sayings w.sent) n.link.inc a g tools) n.act_is
      (h.grants.held_told n.number g tools n.link n.linked (subst (IsHonest w.hostile) (sym n.inc_is) honest)
      role)) in
      record {
        n = t.n;
        called = sent_said w w.rec.session (Call inc act t.n (UiActivate g)) all refl t.called;
        replied = sent_said w w.rec.session (Reply inc act t.n (told.Tools tools.menus tools.border)) all refl
            t.replied;
      }

  pub holder : AllIn w → (f inc act g : ℕ) → IsHonest w.hostile inc → HoldsFrame w inc act g f → IsHolder w inc act g f
  holder all f inc act g honest x =
      let n = named_in inc act g f honest x in
      record {
        frame = n.frame;
        there = n.there;
        named = n.named ∙ ap Some (claim_is n.claim (owner w act) act g (n.object_is ∙ sym n.owned) n.claimed n.g_is);
        unwaiting = λ claim e q. waits_apart n.frame.ui.state n.claim claim
            (h.steady.grants f n.frame n.there).apart n.named e (q ∙ sym n.claimed);
        told = λ holder tools e. answered all inc act g f honest n holder tools e;
      }

  pub one_holder : (f inc act g inc' act' g' : ℕ) → IsHonest w.hostile inc → IsHonest w.hostile inc'
      → HoldsFrame w inc act g f → HoldsFrame w inc' act' g' f → (inc ≡ inc') × (act ≡ act') × (g ≡ g')
  one_holder f inc act g inc' act' g' honest honest' x y =
      let n = named_in inc act g f honest x in
      let m = named_in inc' act' g' f honest' y in
      let frames : n.frame ≡ m.frame = (let z : Some n.frame ≡ Some m.frame = sym n.there ∙ m.there in cc) in
      let claims : n.claim ≡ m.claim = (let z : Some n.claim ≡ Some m.claim = sym n.named
      ∙ (ap (λ (k : Frame). who k.ui.state) frames ∙ m.named) in cc) in
      let numbers : n.number ≡ m.number = sym n.object_is ∙ (ap (λ (c : Claim). c.object) claims ∙ m.object_is) in
      let links : n.link ≡ m.link = (let z : Some n.link ≡ Some m.link = sym n.linked
      ∙ (ap (links_of w.rec.objects) numbers ∙ m.linked) in cc) in (
        sym n.inc_is ∙ (ap (λ (l : Link). l.inc) links ∙ m.inc_is),
        sym n.claimed ∙ (ap (λ (c : Claim). c.act) claims ∙ m.claimed),
        sym n.g_is ∙ (ap (λ (c : Claim). c.g) claims ∙ m.g_is),
      )
