-- Streams that are listed of the entries that were met.
use Rattle.std.proofs.Common.{◌≡◌, ◌≢◌, ◌⊎◌, inl, inr, ◌<◌, ◌≤◌, ◌+◌, ◌++◌, ◌∙◌, ℕ, zero, suc, Bool, true, false}
use Rattle.std.proofs.Common.{List, [], ◌∷◌, arith, get_or, length, length-append, refl, subst, sym}
use Rattle.std.proofs.Math.ListN.{get_or-append}
use Rattle.std.proofs.Math.Seq.{get_or-append_seam}
use Rattle.std.proofs.lemmas.Bool.{cases_lt}
use Rattle.std.proofs.lemmas.List.Elements.{All-push}
use Rattle.std.specs.List.{All, Contains}
use Rattle.cfb_entries.specs.Entries.{entry_at, first_of, kind, size_of}
use Rattle.tell_chains.specs.Streams.{AreStreams, AreStreamsBelow, IsAmong, IsStream, IsStreamAt}
use Rattle.tell_chains.specs.declared.streams.Stream.{Stream}
use Rattle.tell_entries.specs.Searches.{AreAllMet}
use Rattle.tell_entries.specs.Ways.{IsWay, end_of}

among_left : (ss : List Stream) (s : Stream) (id : ℕ) → IsAmong ss id → IsAmong (ss ++ s ∷ []) id
among_left ss s id a = (
  a.0,
  omega (arith, a.1, length-append ss (s ∷ [])),
  λ d. subst (λ (x : Stream). x.id ≡ id) (sym (get_or-append ss (s ∷ []) d a.0 a.1)) (a.2 d),
)

among_last : (ss : List Stream) (s : Stream) → IsAmong (ss ++ s ∷ []) s.id
among_last ss s = (
  length ss,
  omega (arith, length-append ss (s ∷ [])),
  λ d. subst (λ (x : Stream). x.id ≡ s.id) (sym (get_or-append_seam ss s [] d)) refl,
)

pub at_bound : (n bound : ℕ) → n < bound + 1 → (n < bound) ⊎ (n ≡ bound)
at_bound n bound lt = elim (cases_lt n bound) [ inl less ↦ inl less | inr more ↦ inr (omega (arith, lt, more)) ]

module _ (dir ids : List ℕ) (seen : List Bool) where
  pub below_none : AreStreamsBelow dir ids seen 0 []
  below_none = record {
    each = λ k d lt. absurd (omega (arith, lt));
    every = λ id lt. absurd (omega (arith, lt));
  }

  -- an entry without a stream
  pub below_next : (bound : ℕ) (ss : List Stream) → AreStreamsBelow dir ids seen bound ss
      → (bound ≢ 0 → get_or seen bound true ≡ true → kind (entry_at dir bound) ≡ 2
      → 0 < size_of (entry_at dir bound) → ⊥)
      → AreStreamsBelow dir ids seen (bound + 1) ss
  below_next bound ss s none = record {
    each = s.each;
    every = λ id lt below met is some. elim (at_bound id bound lt) [
      | inl less ↦ s.every id less below met is some
      | inr same ↦
          absurd (none (λ z. below (same ∙ z)) (subst (λ (x : ℕ). get_or seen x true ≡ true) same met)
          (subst (λ (x : ℕ). kind (entry_at dir x) ≡ 2) same is)
          (subst (λ (x : ℕ). 0 < size_of (entry_at dir x)) same some))
    ];
  }

  -- an entry with one
  pub below_more : (bound : ℕ) (ss : List Stream) (s : Stream) → AreStreamsBelow dir ids seen bound ss
      → IsStream dir ids s → s.id ≡ bound → AreStreamsBelow dir ids seen (bound + 1) (ss ++ s ∷ [])
  below_more bound ss s old is at = record {
    each = All-push (IsStream dir ids) ss s old.each is;
    every = λ id lt below met two some. elim (at_bound id bound lt) [
      | inl less ↦ among_left ss s id (old.every id less below met two some)
      | inr same ↦ subst (IsAmong (ss ++ s ∷ [])) (at ∙ sym same) (among_last ss s)
    ];
  }

pub stream_is : (dir ids : List ℕ) (id : ℕ) (s : Stream) → Contains ids id → id ≢ 0
    → (s.id ≡ id) × (kind (entry_at dir id) ≡ 2) × (s.first ≡ first_of (entry_at dir id))
    × (s.size ≡ size_of (entry_at dir id)) × (0 < s.size) → IsStream dir ids s
stream_is dir ids id s met below e = record {
  met = subst (Contains ids) (sym e.0) met;
  below = λ z. below (sym e.0 ∙ z);
  kind_is = subst (λ (x : ℕ). kind (entry_at dir x) ≡ 2) (sym e.0) e.1;
  first = subst (λ (x : ℕ). s.first ≡ first_of (entry_at dir x)) (sym e.0) e.2;
  size = subst (λ (x : ℕ). s.size ≡ size_of (entry_at dir x)) (sym e.0) e.3;
  some = e.4;
}

-- all entries were looked at
pub all_streams : (dir ids parents : List ℕ) (seen : List Bool) (ss : List Stream) (bound : ℕ)
    → AreAllMet dir ids parents seen → AreStreamsBelow dir ids seen bound ss → length seen ≤ bound
    → AreStreams dir ids ss
all_streams dir ids parents seen ss bound met s whole = record {
  each = s.each;
  every = λ way at some.
      let m = met.reached way at.is_way at.below in
      s.every (end_of way) (omega (arith, m.0, whole)) at.below m.1 at.kind_is some;
}

pub stream_at : (dir ids way : List ℕ) (id place : ℕ) → IsWay dir way → end_of way ≡ get_or ids place 0
    → get_or ids place 0 ≡ id → id ≢ 0 → kind (entry_at dir id) ≡ 2 → IsStreamAt dir way × (end_of way ≡ id)
stream_at dir ids way id place w e at below is =
    let same : end_of way ≡ id = e ∙ at in (
      record {
        is_way = w;
        below = λ z. below (sym same ∙ z);
        kind_is = subst (λ (x : ℕ). kind (entry_at dir x) ≡ 2) (sym same) is;
      },
      same,
    )
