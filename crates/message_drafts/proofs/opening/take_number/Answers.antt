use Rattle.std.proofs.Common.{◌≡◌, ◌++◌, ◌<◌, length, sym, subst, List, ℕ, None, rules, arith}
use Rattle.message_model.specs.Reading.{number}
use Rattle.message_drafts.proofs.Opened.{number_on, number_zero}
use Rattle.message_drafts.proofs.opening.take_number.Goals as goal

pub returns-then-n-eq0-clause-given : goal.returns-then-n-eq0-clause-given
returns-then-n-eq0-clause-given c k ys =
    let a : List ℕ = c.split_at.result.0.now in
    let b : List ℕ = c.split_at.result.1.now in
    let parts : a ++ b ≡ c.args.xs.now = search rules in
    let four : length a ≡ 4 = search rules in
    subst (λ (x : List ℕ). number k (x ++ ys) ≡ None) parts
    (number_zero k a b ys c.number_in-n.result four (sym c.number_in-n.ensures) c.if-n-eq0.true)

pub returns-clause-given : goal.returns-clause-given
returns-clause-given c k ys =
    let a : List ℕ = c.split_at.result.0.now in
    let b : List ℕ = c.split_at.result.1.now in
    let parts : a ++ b ≡ c.args.xs.now = search rules in
    let four : length a ≡ 4 = search rules in
    let some : 0 < c.number_in-n.result = search rules in
    subst (λ (x : List ℕ). number k (x ++ ys) ≡ k c.number_in-n.result (b ++ ys)) parts
    (number_on k a b ys c.number_in-n.result four (sym c.number_in-n.ensures) some)
