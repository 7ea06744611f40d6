use Rattle.std.proofs.Common.{length-append, ◌≡◌, ◌≤◌, ◌⊎◌, inl, inr, ◌∷◌, ◌++◌, [], ℕ, List, Bool, length, refl, sym}
use Rattle.std.proofs.Common.{◌∙◌, subst, get_or, arith}
use Rattle.std.proofs.lemmas.List.Elements.{All-push, Contains-append_left, Contains-append_right}
use Rattle.std.proofs.lemmas.Grind.{common_steps}
use Rattle.std.proofs.lemmas.List.{get_or_default}
use Rattle.std.specs.List.{Contains}
use Rattle.cfb_chains.specs.Chain.{Leads, END_OF_CHAIN}
use Rattle.cfb_chains.specs.Fat.{IsFree}
use Rattle.cfb_chains.proofs.Chains.{free_chain, leads_push, met_when_long}
use Rattle.read_chains.proofs.fat.Fat.count.Goals as goal
use Rattle.read_chains.proofs.fat.Fat.count.Goals.{then-count-turn, else-count-turn}

pub returns-clause-counted : goal.returns-clause-counted
returns-clause-counted c =
    let P : ℕ → Type 0 = λ x. Leads (λ n. get_or c.args.self.now.table n 0) c.args.start c.loop-at.invariant.0 x in
    let few : length c.args.self.now.table ≤ 0xFFFFFFF9 = rw (← c.self.view_is) c.self.invariant.1 in (
      c.loop-at.invariant.0,
      free_chain c.args.self.now few c.args.start c.loop-at.invariant.0
          (subst P c.loop-at-test.false c.loop-at.invariant.1) c.loop-at.invariant.2,
      c.loop-at.invariant.3,
    )

pub returns-then-count-len-clause-refused : goal.returns-then-count-len-clause-refused
returns-then-count-len-clause-refused c =
    let ns = c.loop-at.invariant.0 in
    met_when_long (λ n. get_or c.args.self.now.table n 0) (IsFree c.args.self.now) c.args.start ns c.loop-at.at
    (length c.args.self.now.table)
    c.loop-at.invariant.1
    c.loop-at.invariant.2
    (λ k d lt. (c.loop-at.invariant.2 k d lt).0)
    (rw (← c.self.view_is) (grind (arith, common_steps)))
    (rw (← c.self.view_is) (grind (arith, common_steps)))

-- the sector that is kept was met
met_further : (ns : List ℕ) (at met new : ℕ) → (met ≡ END_OF_CHAIN) ⊎ Contains ns met → (new ≡ at) ⊎ (new ≡ met)
    → (new ≡ END_OF_CHAIN) ⊎ Contains (ns ++ at ∷ []) new
met_further ns at met new h (inl e) =
    inr (subst (Contains (ns ++ at ∷ [])) (sym e) (Contains-append_right ns (at ∷ []) at (0, omega arith, refl)))
met_further ns at met new (inl m) (inr e) = inl (e ∙ m)
met_further ns at met new (inr c) (inr e) =
    inr (subst (Contains (ns ++ at ∷ [])) (sym e) (Contains-append_left ns (at ∷ []) met c))

pub loop-at-preserved : goal.loop-at-preserved
loop-at-preserved c =
    let ns = c.loop-at.invariant.0 in
    let e : c.entry-at.result ≡ get_or c.args.self.now.table c.loop-at.at 0 =
    grind (arith, common_steps, c.entry-at.ensures, c.self.view_is) in
    rw e (
      ns ++ c.loop-at.at ∷ [],
      leads_push _ _ _ _ c.loop-at.invariant.1,
      All-push (IsFree c.args.self.now) _ _ c.loop-at.invariant.2
          (rw (← c.self.view_is) (
            grind (arith, common_steps),
            grind
                (arith, common_steps, c.index.ensures, get_or_default {X = Bool}),
          )),
      omega (arith, length-append ns (c.loop-at.at ∷ []), c.loop-at.invariant.3),
      rw (← c.self.view_is) (grind (arith, common_steps)),
      met_further ns c.loop-at.at c.loop-at.met c.if-count-turn.met c.loop-at.invariant.5
          (elim c.if-count-turn.branch [ then-count-turn w ↦ inl w.met-is | else-count-turn w ↦ inr w.met-is ]),
    )
