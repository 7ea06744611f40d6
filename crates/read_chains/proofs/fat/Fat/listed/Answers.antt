use Rattle.std.proofs.Common.{ap, length-append, ◌≡◌, ◌≤◌, ◌∷◌, [], ℕ, refl, length, subst, get_or, arith}
use Rattle.std.proofs.lemmas.List.Elements.{All-push}
use Rattle.std.proofs.lemmas.Grind.{common_steps}
use Rattle.std.specs.List.{All}
use Rattle.cfb_chains.specs.Chain.{Leads, END_OF_CHAIN}
use Rattle.cfb_chains.specs.Fat.{FatValue, IsFree}
use Rattle.cfb_chains.proofs.Chains.{NextStep, ends_here, free_chain, next_step, leads_push}
use Rattle.read_chains.proofs.fat.Fat.listed.Goals as goal

none : (P : ℕ → Type 0) → All P []
none P k d l = absurd (omega arith)

pub loop-at-init : goal.loop-at-init
loop-at-init c =
    let h = c.requires.there in
    rw c.in_ok-sectors.ensures.items
    (h.0, refl, h.1.chain.linked, none (IsFree c.args.self.now), h.1.free.free, omega (arith, h.2))

pub loop-at-preserved : goal.loop-at-preserved
loop-at-preserved c =
    let i = c.loop-at.invariant in
    let g : NextStep (λ n. get_or c.args.self.now.table n 0) (IsFree c.args.self.now) c.loop-at.at i.0 =
    next_step (λ n. get_or c.args.self.now.table n 0) (IsFree c.args.self.now) c.loop-at.at i.0 i.2 i.4
    c.loop-at-test.true in
    let e : c.entry-at.result ≡ get_or c.args.self.now.table c.loop-at.at 0 =
    grind (arith, common_steps, c.entry-at.ensures, c.self.view_is) in
    rw (c.in_ok-push.ensures.items, e) (
      g.more,
      leads_push _ _ _ _ i.1,
      g.leads,
      All-push (IsFree c.args.self.now) _ _ i.3 g.here,
      g.every,
      omega (arith, length-append c.loop-at.sectors.items (c.loop-at.at ∷ []), i.5, g.longer),
    )

pub returns-clause-linked : goal.returns-clause-linked
returns-clause-linked c =
    let P : ℕ → Type 0 = λ x. Leads (λ n. get_or c.args.self.now.table n 0) c.args.start c.loop-at.sectors.items x in
    (free_chain c.args.self.now c.requires.few c.args.start c.loop-at.sectors.items
    (subst P c.loop-at-test.false c.loop-at.invariant.1) c.loop-at.invariant.3).chain

pub returns-clause-free : goal.returns-clause-free
returns-clause-free c =
    let P : ℕ → Type 0 = λ x. Leads (λ n. get_or c.args.self.now.table n 0) c.args.start c.loop-at.sectors.items x in
    (free_chain c.args.self.now c.requires.few c.args.start c.loop-at.sectors.items
    (subst P c.loop-at-test.false c.loop-at.invariant.1) c.loop-at.invariant.3).free

pub returns-clause-counted : goal.returns-clause-counted
returns-clause-counted c =
    let i = c.loop-at.invariant in
    let few : length c.args.self.now.table ≤ END_OF_CHAIN = omega (arith, c.requires.few) in
    let none : length i.0 ≡ 0 =
    ends_here (λ n. get_or c.args.self.now.table n 0) (length c.args.self.now.table) c.loop-at.at i.0 few i.2
    (λ k d l. (i.4 k d l).0) c.loop-at-test.false in
    omega (arith, none, i.5)

pub entry-at-requires : goal.entry-at-requires
entry-at-requires c =
    let i = c.loop-at.invariant in
    let g : NextStep (λ n. get_or c.args.self.now.table n 0) (IsFree c.args.self.now) c.loop-at.at i.0 =
    next_step (λ n. get_or c.args.self.now.table n 0) (IsFree c.args.self.now) c.loop-at.at i.0 i.2 i.4
    c.loop-at-test.true in
    let same = ap (λ (x : FatValue). length x.table) c.self.view_is in
    omega (arith, same, g.here.0)
