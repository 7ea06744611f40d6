-- The laws above the tables.
use Rattle.std.proofs.Common.{◌≡◌, ◌⊎◌, inl, inr, ℕ, suc, Bool, true, false, List, [], ◌∷◌, map, Option, Some, None}
use Rattle.std.proofs.Common.{Result, Ok, Err, refl, eqb-true, arith, rules, if◌then◌else◌, ap, sym, ◌∙◌, subst, IfSome}
use Rattle.object_state.specs.declared.operations.Op.{Op}
use Rattle.object_state.specs.declared.operations.Op.TheVariants.{InitNew, Load, Save, SaveCompleted, SaveDropped}
use Rattle.object_state.specs.declared.operations.Op.TheVariants as op
use Rattle.object_state.specs.declared.operations.CloseOption.{CloseOption}
use Rattle.object_state.specs.declared.persist_states.PersistState.{PersistState}
use Rattle.object_state.specs.declared.persist_states.PersistState.TheVariants.{Unset, Normal, NoScribble}
use Rattle.object_state.specs.declared.persist_states.PersistState.TheVariants as state
use Rattle.object_state.specs.declared.persist_states.Persist.{Persist}
use Rattle.object_state.specs.declared.object_states.ObjectState.{ObjectState}
use Rattle.object_state.specs.declared.object_states.ObjectState.TheVariants.{Passive}
use Rattle.object_state.specs.declared.verbs.Verb.{Verb}
use Rattle.object_state.specs.declared.verbs.Verb.TheVariants.{Primary}
use Rattle.object_state.specs.declared.verbs.Step.{Step}
use Rattle.object_state.specs.declared.faults.StateFault.{StateFault}
use Rattle.object_state.specs.declared.faults.StateFault.TheVariants.{WrongState}
use Rattle.object_state.specs.Persists.{may_write, ended_save, is_number, numbered, table}
use Rattle.object_state.specs.Persists as persist
use Rattle.object_state.specs.Verbs.{steps, close_steps, op_of}
use Rattle.object_state.specs.Laws.{EndsSave, NormalAgain, IsAway, AwayUntilEnded, kept, then_run, goal_of, VerbsLead}
use Rattle.object_state.specs.Laws.{ClosesEnd}

pub if_told : {A : Type 0} (P : A → Type 0) (b : Bool) (x y : A) → (b ≡ true → P x) → (b ≡ false → P y)
    → P (if b then x else y)
if_told P true x y p q = p refl
if_told P false x y p q = q refl

-- the last save has this number
numbered_last : (k : ℕ) (last : Option ℕ) → is_number k last ≡ true → last ≡ Some k
numbered_last k None e = cc
numbered_last k (Some j) e = ap Some (sym (eqb-true k j e))

-- a save that is taken as ended is the last one
ended : (last : Option ℕ) (k : ℕ) (x q : Persist) → (if is_number k last then Ok x else Err WrongState) ≡ Ok q
    → last ≡ Some k
ended last k x q = if_told (λ r. r ≡ Ok q → last ≡ Some k) (is_number k last) (Ok x) (Err WrongState)
    (λ t e. numbered_last k last t) (λ t e. cc)

abbrev back_to : Option ℕ → Persist
back_to last = record { state = Normal; last_save = last }

-- whether an outcome may write
abbrev writes : Result Persist StateFault → Bool
writes (Ok q) = may_write q.state
writes (Err refusal) = false

again : (s : PersistState) (last : Option ℕ) (q : Persist) (op : Op)
    → numbered (record { state = s; last_save = last }) op (table op s) ≡ Ok q → may_write s ≡ false
    → may_write q.state ≡ true → (s ≡ Unset) ⊎ EndsSave (record { state = s; last_save = last }) op
again Unset last q op e away back = inl refl
again Normal last q op e away back = cc
again NoScribble last q (SaveCompleted k true) e away back = inr (k, ended last k (back_to last) q e, refl)
again NoScribble last q (SaveCompleted k false) e away back = inr (k, ended last k (back_to last) q e, refl)
again NoScribble last q (SaveDropped k) e away back = inr (k, ended last k (back_to last) q e, refl)
again state.HandsOff last q (SaveCompleted k true) e away back = inr (k, ended last k (back_to last) q e, refl)
again state.HandsOff last q (SaveDropped k) e away back = inr (k, ended last k (back_to last) q e, refl)
again _ last q _ e away back = let forbidden = ap writes e ∙ back in cc

pub normal-again : NormalAgain
normal-again p q op e away back = again p.state p.last_save q op e away back

abbrev IsKept : Option ℕ → Persist → Type 0
IsKept last q = IsAway q.state × (q.last_save ≡ last)

-- where an operation would end another save than the last, nothing changes
not_ended : (s : PersistState) (last : Option ℕ) (k : ℕ) → IsAway s → ¬ (last ≡ Some k)
    → IsKept last (kept (record { state = s; last_save = last }) (if is_number k last then Ok (back_to last)
    else Err WrongState))
not_ended s last k away other =
    if_told (λ r. IsKept last (kept (record { state = s; last_save = last }) r)) (is_number k last)
    (Ok (back_to last)) (Err WrongState)
    (λ t. absurd (other (numbered_last k last t)))
    (λ t. (away, refl))

stays : (s : PersistState) (last : Option ℕ) (op : Op) → IsAway s
    → ¬ EndsSave (record { state = s; last_save = last }) op
    → IsKept last (kept (record { state = s; last_save = last })
    (persist.step (record { state = s; last_save = last }) op))
stays Unset last op (inl e) none = cc
stays Unset last op (inr e) none = cc
stays Normal last op (inl e) none = cc
stays Normal last op (inr e) none = cc
stays NoScribble last (SaveCompleted k true) away none = not_ended NoScribble last k (inl refl) (λ e. none (k, e, refl))
stays NoScribble last (SaveCompleted k false) away none = not_ended NoScribble last k (inl refl)
    (λ e. none (k, e, refl))
stays NoScribble last (SaveDropped k) away none = not_ended NoScribble last k (inl refl) (λ e. none (k, e, refl))
stays NoScribble last op.HandsOff away none = (inr refl, refl)
stays NoScribble last _ away none = (inl refl, refl)
stays state.HandsOff last (SaveCompleted k true) away none = not_ended state.HandsOff last k (inr refl)
    (λ e. none (k, e, refl))
stays state.HandsOff last (SaveDropped k) away none = not_ended state.HandsOff last k (inr refl)
    (λ e. none (k, e, refl))
stays state.HandsOff last _ away none = (inr refl, refl)

unwritten : (s : PersistState) → IsAway s → may_write s ≡ false
unwritten s (inl e) = ap may_write e
unwritten s (inr e) = ap may_write e

pub away-until_ended : AwayUntilEnded
away-until_ended p [] away none = (away, unwritten p.state away)
away-until_ended p (op ∷ ops) away none =
    let first : ¬ EndsSave p op = none 0 op (omega arith) in
    let next = stays p.state p.last_save op away first in
    away-until_ended (kept p (persist.step p op)) ops next.0
    (λ i d below (k, last, ends). none (suc i) d (omega arith) (k, sym next.1 ∙ last, ends))

leads : (s t : ObjectState) (g : ℕ) (entry : Option (List Step))
    → IfSome entry (λ us. then_run (map (op_of g) us) (Ok s) ≡ Ok t) → (ts : List Step) → entry ≡ Some ts
    → then_run (map (op_of g) ts) (Ok s) ≡ Ok t
leads s t g None h ts e = cc
leads s t g (Some us) h ts e =
    let Leads : List Step → Type 0 = λ vs. then_run (map (op_of g) vs) (Ok s) ≡ Ok t in
    let same : us ≡ ts = cc in
    subst Leads same h

verb_leads : (v : Verb) (s : ObjectState) (g : ℕ)
    → IfSome (steps v s) (λ us. then_run (map (op_of g) us) (Ok s) ≡ Ok (goal_of v))
verb_leads Primary Passive g = tt
verb_leads _ _ g = search rules

pub verbs-lead : VerbsLead
verbs-lead v s ts g e = leads s (goal_of v) g (steps v s) (verb_leads v s g) ts e

close_leads : (option : CloseOption) (s : ObjectState) (g : ℕ)
    → IfSome (close_steps option s) (λ us. then_run (map (op_of g) us) (Ok s) ≡ Ok Passive)
close_leads option Passive g = tt
close_leads option _ g = search rules

pub closes-end : ClosesEnd
closes-end option s ts g e = leads s Passive g (close_steps option s) (close_leads option s g) ts e
