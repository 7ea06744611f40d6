use Rattle.std.proofs.Common.{◌≡◌, ◌++◌, length, sym, subst, List, ℕ, rules}
use Rattle.message_model.specs.Reading.{bytes}
use Rattle.message_drafts.proofs.Opened.{bytes_on}
use Rattle.message_drafts.proofs.opening.take_class.Goals as goal

pub returns-clause-given : goal.returns-clause-given
returns-clause-given c k ys =
    let a : List ℕ = c.split_at.result.0.now in
    let b : List ℕ = c.split_at.result.1.now in
    let parts : a ++ b ≡ c.args.xs.now = search rules in
    let len : length a ≡ 16 = search rules in
    let same : c.from_bytes.result ≡ a = search rules in
    subst (λ (x : List ℕ). bytes 16 k (x ++ ys) ≡ k c.from_bytes.result (b ++ ys)) parts
    (subst (λ (z : List ℕ). bytes 16 k ((a ++ b) ++ ys) ≡ k z (b ++ ys)) (sym same) (bytes_on 16 k a b ys len))
