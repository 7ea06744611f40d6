-- What happens on the link of one server, and what is known of the others.
use Rattle.std.proofs.Common.{◌≡◌, ◌==◌, ◌&&◌, ℕ, Bool, true, false, List, [], ◌∷◌, if◌then◌else◌, refl, sym, ap, ◌∙◌}
use Rattle.std.proofs.Common.{subst}
use Rattle.std.proofs.lemmas.Bool.{eq-eqb, eqb-true}
use Rattle.message_values.specs.declared.message.Message.{Message}
use Rattle.script_model.specs.Bounds.{linking, pace, reading, resting, sending}
use Rattle.script_model.specs.Courses.{course}
use Rattle.script_model.specs.Events.{Connected, Event, Heard, Sent, Stepped, running}
use Rattle.script_model.specs.Origins.{giving, hearing, passed, relinked, unlinked}
use Rattle.script_model.specs.declared.step.Step.TheVariants as step
use Rattle.script_container.specs.Beside.{beside}
use Rattle.script_container.specs.Handed.{handed}
use Rattle.script_container.specs.Servers.{servers, turned}
use Rattle.script_container.proofs.Handed.{handed_other}
use Rattle.script_container.proofs.Servers.{paced_of, quiet_of, turned_of}
use Rattle.script_links.specs.Apart.{Others, others, telling}
use Rattle.script_links.specs.Ready.{pace_beside}

twice : {X : Type 0} (b : Bool) (u x y : X) → (if b then u else (if b then x else y)) ≡ (if b then u else y)
twice true u x y = refl
twice false u x y = refl

done_twice : {X : Type 0} (ok b : Bool) (u x y : X) → (if b then u else (if ok && b then x else y))
    ≡ (if b then u else y)
done_twice true true u x y = refl
done_twice true false u x y = refl
done_twice false true u x y = refl
done_twice false false u x y = refl

taken : {X : Type 0} (b : Bool) (x y : X) → b ≡ true → (if b then x else y) ≡ x
taken true x y is = refl
taken false x y is = absurd (cc)

either_way : {X : Type 0} (b : Bool) (x y : X) → (b ≡ true → x ≡ y) → (if b then x else y) ≡ y
either_way true x y same = same refl
either_way false x y same = refl

-- a test that says this of a server already
told_same : (inc : ℕ) (held : Bool) (f : ℕ → Bool) → f inc ≡ held → telling inc held f ≡ f
told_same inc held f is =
    λ i. λ s. either_way (inc == s) held (f s) (λ this. sym is ∙ ap f (eqb-true inc s this)) i

-- ---- what is known, once `others` is opened

module _ {D : Type 0} {a b : Others D} (same : a ≡ b) where
  pub still_apart : (s : ℕ) → a.runs s ≡ b.runs s
  still_apart s = ap (λ (o : Others D). o.runs s) same

  pub apart_of : (s : ℕ) → a.passing s ≡ b.passing s
  apart_of s = ap (λ (o : Others D). o.passing s) same

  pub aside_of : (s : ℕ) → a.pacing s ≡ b.pacing s
  aside_of s = ap (λ (o : Others D). o.pacing s) same

  pub ordered_of : a.ordering ≡ b.ordering
  ordered_of = ap (λ (o : Others D). o.ordering) same

module _ {D : Type 0} (es after : List (Event D)) (inc : ℕ) (held : Bool) where
  pub handed_of : others inc held after ≡ others inc held es → (f : ℕ → Bool) → f inc ≡ held
      → handed f after ≡ handed f es
  unfolding others
  handed_of same f is = ap (λ (g : ℕ → Bool). handed g after) (sym (told_same inc held f is))
      ∙ ap (λ (o : Others D). o.handing f) same ∙ ap (λ (g : ℕ → Bool). handed g es) (told_same inc held f is)

  -- where all servers were left as they were
  pub by_servers : servers after ≡ servers es → course after ≡ course es → others inc held after ≡ others inc held es
  unfolding others servers turned
  by_servers same ordered = λ i. record {
    runs = λ s. (same i).runs s;
    passing = λ s. if inc == s then unlinked else (same i).passing s;
    pacing = λ s. if inc == s then resting else (same i).turns.pacing s;
    handing = λ f. (same i).turns.handing (telling inc held f);
    ordering = ordered i;
  }

-- calls of one link after another, which is of the same server
pub apart_then : {D : Type 0} (es mid new : List (Event D)) (i j : ℕ) (h k : Bool) → j ≡ i → k ≡ h
    → others j k new ≡ others j k mid → others i h mid ≡ others i h es → others i h new ≡ others i h es
apart_then es mid new i j h k same held last first =
    subst (λ (n : ℕ). others n h new ≡ others n h mid) same
    (subst (λ (b : Bool). others j b new ≡ others j b mid) held last) ∙ first

-- ---- what happens on one link

module _ {D : Type 0} (inc : ℕ) (held : Bool) (es : List (Event D)) where
  pub by_sent : (bytes : List ℕ) (ok : Bool) → others inc held (Sent inc bytes ok ∷ es) ≡ others inc held es
  unfolding others
  by_sent bytes ok = λ i. record {
    runs = λ s. running s es;
    passing = λ s. beside inc s es;
    pacing = λ s. twice (inc == s) resting (sending (pace s es)) (pace s es) i;
    handing = λ f. handed (telling inc held f) es;
    ordering = course es;
  }

  pub by_connected : (ok : Bool) → others inc held (Connected inc ok ∷ es) ≡ others inc held es
  unfolding others
  by_connected ok = λ i. record {
    runs = λ s. running s es;
    passing = λ s. twice (inc == s) unlinked (relinked (passed s es)) (passed s es) i;
    pacing = λ s. twice (inc == s) resting (linking ok (pace s es)) (pace s es) i;
    handing = λ f. handed (telling inc held f) es;
    ordering = course es;
  }

  pub by_heard : (bytes : List ℕ) (ok : Bool) → others inc held (Heard inc bytes ok ∷ es) ≡ others inc held es
  unfolding others
  by_heard bytes ok = λ i. record {
    runs = λ s. running s es;
    passing = λ s. done_twice ok (inc == s) unlinked (hearing bytes (passed s es)) (passed s es) i;
    pacing = λ s. twice (inc == s) resting (reading (pace s es)) (pace s es) i;
    handing = λ f. handed (telling inc held f) es;
    ordering = course es;
  }

-- ---- messages

by_message : {D : Type 0} (es : List (Event D)) (inc : ℕ) (m : Message)
    → others inc false (Stepped (step.Message inc m) ∷ es) ≡ others inc false es
unfolding others
by_message es inc m = λ i. record {
  runs = λ s. running s es;
  passing = λ s. twice (inc == s) unlinked (giving (m ∷ []) (passed s es)) (passed s es) i;
  pacing = λ s. pace_beside inc s es;
  handing = λ f. handed_other (telling inc false f) es (Stepped (step.Message inc m) ∷ es) inc m refl
      (taken (inc == inc) false (f inc) (eq-eqb inc inc refl)) i;
  ordering = course es;
}

module _ {D : Type 0} (es after : List (Event D)) (inc : ℕ) (m : Message)
    (given : servers after ≡ servers (Stepped (step.Message inc m) ∷ es)) where
  -- the container was given a message of a server whose link holds nothing
  pub message_apart : (held : Bool) → held ≡ false → course after ≡ course es
      → others inc held after ≡ others inc held es
  message_apart held free ordered = subst (λ (b : Bool). others inc b after ≡ others inc b es) (sym free)
      (by_servers (Stepped (step.Message inc m) ∷ es) after inc false given ordered ∙ by_message es inc m)

  pub message_given : passed inc after ≡ giving (m ∷ []) (passed inc es)
  unfolding servers
  message_given = quiet_of given inc
      ∙ taken (inc == inc) (giving (m ∷ []) (passed inc es)) (passed inc es) (eq-eqb inc inc refl)

  pub message_paced : (s : ℕ) → pace s after ≡ pace s es
  unfolding servers turned
  message_paced s = paced_of (turned_of given) s
