-- What stays of a course.
use Rattle.std.proofs.Common.{◌≡◌, List, [], ◌∷◌, Some, None, refl, ap, ◌∙◌}
use Rattle.container_model.specs.declared.command.Command.{Command}
use Rattle.script_model.specs.declared.step.Step.TheVariants as step
use Rattle.script_model.specs.Courses.{Course, behind_shut, but_opening, but_starts, course}
use Rattle.script_model.specs.Events.{Event, Started, Connected, Sent, Heard, Ended, Opened, Found, Shut, Stepped}
use Rattle.script_model.specs.Orders.{asked}

-- a disk that is given back begins no command
pub shut_begun : {D : Type 0} (disk : D) (es : List (Event D)) (k : Course D) → (behind_shut disk es k).begun ≡ k.begun
shut_begun disk [] k = refl
shut_begun disk (Found name (Some found) ∷ es) k = refl
shut_begun disk (Found name None ∷ es) k = refl
shut_begun disk (Stepped st ∷ es) k = refl
shut_begun disk (Started session inc ok ∷ es) k = refl
shut_begun disk (Connected inc ok ∷ es) k = refl
shut_begun disk (Sent inc bytes ok ∷ es) k = refl
shut_begun disk (Heard inc bytes ok ∷ es) k = refl
shut_begun disk (Ended inc ∷ es) k = refl
shut_begun disk (Opened name given ∷ es) k = refl
shut_begun disk (Shut name other ∷ es) k = refl

module _ {D : Type 0} (es after : List (Event D)) where
  pub asked_same : course after ≡ course es → asked after ≡ asked es
  asked_same same = ap (λ (k : Course D). k.asked) same

  pub begun_same : course after ≡ course es → (course after).begun ≡ (course es).begun
  begun_same same = ap (λ (k : Course D). k.begun) same

  pub unstarted_same : course after ≡ course es → (course after).unstarted ≡ (course es).unstarted
  unstarted_same same = ap (λ (k : Course D). k.unstarted) same

  pub opening_same : course after ≡ course es → (course after).opening ≡ (course es).opening
  opening_same same = ap (λ (k : Course D). k.opening) same

  pub starts_same : course after ≡ course es → but_starts (course after) ≡ but_starts (course es)
  starts_same same = ap but_starts same

  -- but for the servers that are to be started
  pub asked_but_starts : but_starts (course after) ≡ but_starts (course es) → asked after ≡ asked es
  asked_but_starts same = ap (λ (k : Course D). k.asked) same

  -- but for the file that is opened
  pub asked_but_opening : but_opening (course after) ≡ but_opening (course es) → asked after ≡ asked es
  asked_but_opening same = ap (λ (k : Course D). k.asked) same

  pub begun_but_opening : but_opening (course after) ≡ but_opening (course es)
      → (course after).begun ≡ (course es).begun
  begun_but_opening same = ap (λ (k : Course D). k.begun) same

  -- a command that the container is given
  pub asked_given : (c : Command) → but_starts (course after) ≡ but_starts (course (Stepped (step.Command c) ∷ es))
      → asked after ≡ step.Command c ∷ asked es
  asked_given c given = ap (λ (k : Course D). k.asked) given

  pub given_on : (mid : List (Event D)) (c : Command) → but_starts (course after) ≡ but_starts (course mid)
      → course mid ≡ course (Stepped (step.Command c) ∷ es) → but_starts (course after)
      ≡ but_starts (course (Stepped (step.Command c) ∷ es))
  given_on mid c same given = same ∙ ap but_starts given
