-- Streams whose name and length came, by the field that has them.
use Rattle.std.proofs.Common.{◌≡◌, ℕ, ◌-◌, ◌+◌, ◌<◌, ◌≤◌, true, false, List, [], ◌∷◌, ◌++◌, length, take, Some, None}
use Rattle.tree_streams.specs.declared.streams.NamedStream.{NamedStream}
use Rattle.message_model.specs.Reading.{may_follow}
use Rattle.message_drafts.specs.declared.draft.Draft.{Draft}
use Rattle.message_drafts.specs.declared.draft.Phase.TheVariants.{Fields, Bad}
use Rattle.message_drafts.specs.Drafts.{Begins, IsField, IsFull, IsLong}
use Rattle.message_drafts.proofs.Bodies.{named_none, unfit_stream, above_stream, short_stream}
use Rattle.message_drafts.proofs.Taken.{begun_stream}

pub none_of : (d e : Draft) (h : List ℕ) → IsFull d → 0 < d.plan.left → take d.plan.len d.plan.held ≡ h → IsLong h
    → IsField None h
    → Bad ≡ e.plan.phase → d.opening ≡ e.opening → e.plan.to_come ≡ d.plan.to_come
    → d.streams.items ≡ e.streams.items → e.plan.len ≡ d.plan.len → Begins d e
none_of d e [] f some eq long field to_bad o same ss lens = absurd long
none_of d e (n ∷ rest) f some eq long field to_bad o same ss lens =
    named_none d e n rest f some eq field to_bad o same ss lens

pub unfit_of : (d e : Draft) (h nm : List ℕ) (len : ℕ) → IsFull d → 0 < d.plan.left
    → take d.plan.len d.plan.held ≡ h → IsLong h → IsField (Some (nm, len)) h
    → may_follow d.streams.items nm ≡ false
    → Bad ≡ e.plan.phase → d.opening ≡ e.opening → e.plan.to_come ≡ d.plan.to_come
    → d.streams.items ≡ e.streams.items → e.plan.len ≡ d.plan.len → Begins d e
unfit_of d e [] nm len f some eq long field unfit to_bad o same ss lens = absurd long
unfit_of d e (n ∷ rest) nm len f some eq long field unfit to_bad o same ss lens =
    unfit_stream d e n rest nm len f some eq field unfit to_bad o same ss lens

pub above_of : (d e : Draft) (h nm : List ℕ) (len : ℕ) → IsFull d → 0 < d.plan.left
    → take d.plan.len d.plan.held ≡ h → IsLong h → IsField (Some (nm, len)) h → d.plan.room < len
    → Bad ≡ e.plan.phase → d.opening ≡ e.opening → e.plan.to_come ≡ d.plan.to_come
    → d.streams.items ≡ e.streams.items → e.plan.len ≡ d.plan.len → Begins d e
above_of d e [] nm len f some eq long field above to_bad o same ss lens = absurd long
above_of d e (n ∷ rest) nm len f some eq long field above to_bad o same ss lens =
    above_stream d e n rest nm len f some eq field above to_bad o same ss lens

pub short_of : (d e : Draft) (h nm : List ℕ) (len : ℕ) → IsFull d → 0 < d.plan.left
    → take d.plan.len d.plan.held ≡ h → IsLong h → IsField (Some (nm, len)) h → d.plan.to_come < len
    → Bad ≡ e.plan.phase → d.opening ≡ e.opening → e.plan.to_come ≡ d.plan.to_come
    → d.streams.items ≡ e.streams.items → e.plan.len ≡ d.plan.len → Begins d e
short_of d e [] nm len f some eq long field short to_bad o same ss lens = absurd long
short_of d e (n ∷ rest) nm len f some eq long field short to_bad o same ss lens =
    short_stream d e n rest nm len f some eq field short to_bad o same ss lens

pub begun_of : (d e : Draft) (h nm : List ℕ) (len : ℕ) → IsFull d → 0 < d.plan.left
    → take d.plan.len d.plan.held ≡ h → IsLong h → IsField (Some (nm, len)) h → may_follow d.streams.items nm ≡ true
    → len ≤ d.plan.room → len ≤ d.plan.to_come
    → Fields ≡ e.plan.phase → e.plan.left ≡ d.plan.left - 1 → e.plan.room ≡ d.plan.room - len → e.plan.missing ≡ len
    → e.plan.to_come ≡ d.plan.to_come → e.plan.len ≡ 0
    → d.opening ≡ e.opening → e.streams.items ≡ d.streams.items ++ record { name = nm; bytes = [] } ∷ []
    → d.picture ≡ e.picture → Begins d e
begun_of d e [] nm len f some eq long field follows le there q left room missing same lens o ss pic = absurd long
begun_of d e (n ∷ rest) nm len f some eq long field follows le there q left room missing same lens o ss pic =
    begun_stream d e n rest nm len f some eq field follows le there q left room missing same lens o ss pic
