-- What is wrong with the FAT of a file, by the lists of its sectors.
use Rattle.std.proofs.Common.{◌≡◌, ◌≢◌, ◌<◌, ◌≤◌, ◌++◌, ◌∙◌, inl, inr, ℕ, List, Option, Some, None, IfNone, IfOk}
use Rattle.std.proofs.Common.{Result, Ok, Err, arith, get_or, length, refl, subst, sym, take}
use Rattle.std.proofs.lemmas.Bool.{cases_lt}
use Rattle.std.proofs.lemmas.List.{get_or-take, length-take, length-take-le}
use Rattle.std.proofs.lemmas.List.Elements.{All-contains}
use Rattle.std.specs.List.{All, Contains}
use Rattle.cfb_chains.specs.Chain.{AreDistinct, IsPresent}
use Rattle.cfb_chains.specs.Fat.{IsFat, sectors_of}
use Rattle.cfb_chains.proofs.Chains.{refused_not_fat}
use Rattle.cfb_header.specs.Header.{difat, fat_count, header_of, listed}
use Rattle.cfb_header.specs.declared.fault.ChainFault.{ChainFault}
use Rattle.cfb_header.specs.declared.fault.ChainFault.TheVariants as chain
use Rattle.cfb_faults.specs.Faults.{IsFatAtFault}
use Rattle.tell_faults.specs.Tables.{AreListsOf}

-- a front all of whose sectors are there is one of the longest front
pub front_once : (xs : List ℕ) (front count k : ℕ) → front ≤ length xs
    → (front < length xs → count ≤ get_or xs front 0) → AreDistinct (take front xs)
    → All (λ n. n < count) (take k xs) → AreDistinct (take k xs)
front_once xs front count k within longest once there = λ i j d lt below e.
    let long : length (take front xs) ≡ front = length-take-le front xs within in
    let cut : length (take k xs) ≤ k = omega (arith, length-take k xs) in
    let all : length (take k xs) ≤ length xs = omega (arith, length-take k xs) in
    let first : (n : ℕ) → n < length (take k xs) → n < front = λ n lt.
    elim (cases_lt n front) [
      | inl less ↦ less
      | inr more ↦
          let here : front < length (take k xs) = omega (arith, more, lt) in
          let outside : count ≤ get_or xs front 0 = longest (omega (arith, here, all)) in
          let inside : get_or (take k xs) front 0 < count = there front 0 here in
          absurd (omega (arith, outside, inside, get_or-take k xs front 0 (omega (arith, here, cut))))
    ] in
    let at : (n : ℕ) → n < length (take k xs) → get_or (take front xs) n d ≡ get_or (take k xs) n d = λ n lt.
    get_or-take front xs n d (first n lt) ∙ sym (get_or-take k xs n d (omega (arith, lt, cut))) in
    let i_less : i < length (take k xs) = omega (arith, lt, below) in
    once i j d lt (omega (arith, first j below, long)) (at i i_less ∙ e ∙ sym (at j below))

module _ (file fat dif table : List ℕ) (l : AreListsOf file fat dif table) (count : ℕ)
    (counted : count ≡ length table) where
  present : (n : ℕ) → n < count → IsPresent (sectors_of file (listed file)) n
  present n lt = (omega (arith, lt, l.few, counted), subst (λ (c : ℕ). n < c) (counted ∙ sym l.tabled.count) lt)

  below : (n : ℕ) → IsPresent (sectors_of file (listed file)) n → n < count
  below n p = subst (λ (c : ℕ). n < c) (l.tabled.count ∙ sym counted) p.1

  all_below : (ns : List ℕ) → All (IsPresent (sectors_of file (listed file))) ns → All (λ n. n < count) ns
  all_below ns h = λ k d lt. below (get_or ns k d) (h k d lt)

  all_present : (ns : List ℕ) → All (λ n. n < count) ns → All (IsPresent (sectors_of file (listed file))) ns
  all_present ns h = λ k d lt. present (get_or ns k d) (h k d lt)

  pub absent_told : (all : List ℕ) → all ≡ fat ++ dif → (n : ℕ) × Contains all n × (count ≤ n)
      → IsFatAtFault file chain.OutOfFile
  absent_told all is h = (
    h.0,
    subst (λ (x : List ℕ). Contains x h.0) (is ∙ (λ i. l.fat_is i ++ l.difat_is i)) h.1,
    (λ p. omega (arith, below h.0 p, h.2)),
  )

  pub absent_free : (all : List ℕ) → all ≡ fat ++ dif → All (λ n. n < count) all → IsFatAtFault file chain.OutOfFile → ⊥
  absent_free all is none h =
      h.2 (present h.0 (All-contains (λ n. n < count) (listed file ++ difat file) h.0
      (subst (All (λ n. n < count)) (is ∙ (λ i. l.fat_is i ++ l.difat_is i)) none) h.1))

  pub back_told : (d : List ℕ) → d ≡ dif → (k : ℕ) × All (λ n. n < count) (take k d) × (AreDistinct (take k d) → ⊥)
      → IsFatAtFault file chain.Cycle
  back_told d is h = record {
    count = h.0;
    present = subst (λ (x : List ℕ). All (IsPresent (sectors_of file (listed file))) (take h.0 x)) (is ∙ l.difat_is)
        (all_present (take h.0 d) h.1);
    again = λ o. h.2 (subst (λ (x : List ℕ). AreDistinct (take h.0 x)) (sym (is ∙ l.difat_is)) o);
  }

  pub back_free : (d : List ℕ) → d ≡ dif → ((k : ℕ) → All (λ n. n < count) (take k d) → AreDistinct (take k d))
      → IsFatAtFault file chain.Cycle → ⊥
  back_free d is never h =
      let there : All (IsPresent (sectors_of file (listed file))) (take h.count d) =
      subst (λ (x : List ℕ). All (IsPresent (sectors_of file (listed file))) (take h.count x))
      (sym (is ∙ l.difat_is)) h.present in
      h.again (subst (λ (x : List ℕ). AreDistinct (take h.count x)) (is ∙ l.difat_is)
      (never h.count (all_below (take h.count d) there)))

  pub crossed_told : (d all : List ℕ) → d ≡ dif → all ≡ fat ++ dif → All (λ n. n < count) d × AreDistinct d
      × (AreDistinct all → ⊥) → IsFatAtFault file chain.CrossLinked
  crossed_told d all same is h = record {
    present = subst (All (IsPresent (sectors_of file (listed file)))) (same ∙ l.difat_is) (all_present d h.0);
    once = subst AreDistinct (same ∙ l.difat_is) h.1;
    twice = λ o. h.2 (subst AreDistinct (sym (is ∙ (λ i. l.fat_is i ++ l.difat_is i))) o);
  }

  pub crossed_free : (d all : List ℕ) → d ≡ dif → all ≡ fat ++ dif
      → (All (λ n. n < count) d → AreDistinct d → AreDistinct all) → IsFatAtFault file chain.CrossLinked → ⊥
  crossed_free d all same is never h =
      h.twice (subst AreDistinct (is ∙ (λ i. l.fat_is i ++ l.difat_is i))
      (never (all_below d (subst (All (IsPresent (sectors_of file (listed file)))) (sym (same ∙ l.difat_is))
      h.present)) (subst AreDistinct (sym (same ∙ l.difat_is)) h.once)))

  pub short_told : length fat < fat_count file → IsFatAtFault file chain.ShortChain
  short_told h = subst (λ (x : List ℕ). length x < fat_count file) l.fat_is h

  pub short_free : fat_count file ≤ length fat → IsFatAtFault file chain.ShortChain → ⊥
  short_free h s = let less : length fat < fat_count file = subst (λ (x : List ℕ). length x < fat_count file)
      (sym l.fat_is) s in absurd (omega (arith, h, less))

-- a sound FAT has no fault
pub sound_fat : (file : List ℕ) (fault : ChainFault) → IsFat file (header_of file) → IsFatAtFault file fault → ⊥
sound_fat file chain.OutOfFile is h = absurd (cc (refused_not_fat file (header_of file) chain.OutOfFile is h))
sound_fat file chain.Cycle is h = absurd (cc (refused_not_fat file (header_of file) chain.Cycle is h))
sound_fat file chain.CrossLinked is h = absurd (cc (refused_not_fat file (header_of file) chain.CrossLinked is h))
sound_fat file chain.ShortChain is h = absurd (cc (refused_not_fat file (header_of file) chain.ShortChain is h))
sound_fat file chain.Truncated is h = h
sound_fat file chain.BadSignature is h = h
sound_fat file (chain.Unsupported n) is h = h
sound_fat file chain.TooBig is h = h
sound_fat file chain.NoMemory is h = h

-- what holds of none of the places, whatever a call gave
pub none_of : {A E : Type 0} (r : Result (Option A) E) (P : Type 0) → P → IfOk r (λ v. IfNone v P)
none_of (Ok None) P h = h
none_of (Ok (Some x)) P h = tt
none_of (Err e) P h = tt
