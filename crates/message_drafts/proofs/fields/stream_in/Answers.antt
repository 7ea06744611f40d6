use Rattle.std.proofs.Common.{◌≡◌, ◌++◌, length, sym, subst, List, ℕ, Some, None, Ok, Err, rules, arith}
use Rattle.cfb_names.specs.Names.{name_read}
use Rattle.message_model.specs.Frames.{number_in}
use Rattle.message_drafts.specs.Drafts.{IsStreamField}
use Rattle.message_drafts.proofs.Plans.{stream_field, stream_unnamed}
use Rattle.message_drafts.proofs.fields.stream_in.Goals as goal

pub returns-in-Ok : goal.returns-in-Ok
returns-in-Ok c =
    let a : List ℕ = c.split_at.result.0.now in
    let b : List ℕ = c.split_at.result.1.now in
    let parts : a ++ b ≡ c.args.rest.now = search rules in
    let len : length a ≡ c.args.n = search rules in
    let four : length b ≡ 4 = search rules in
    let f : IsStreamField (Some (c.in-Ok.name, number_in b)) c.args.n (a ++ b) =
    stream_field c.args.n a b c.in-Ok.name c.if-n-lt1.false c.if-n-gt31.false len four (sym c.in-Ok.ensures) in
    let g : IsStreamField (Some (c.in-Ok.name, number_in b)) c.args.n c.args.rest.now =
    subst (IsStreamField (Some (c.in-Ok.name, number_in b)) c.args.n) parts f in
    subst (λ (m : ℕ). IsStreamField (Some (c.in-Ok.name, m)) c.args.n c.args.rest.now) (sym c.number_in-len.ensures) g

pub returns-in-Err : goal.returns-in-Err
returns-in-Err c =
    let a : List ℕ = c.split_at.result.0.now in
    let b : List ℕ = c.split_at.result.1.now in
    let parts : a ++ b ≡ c.args.rest.now = search rules in
    let len : length a ≡ c.args.n = search rules in
    subst (IsStreamField None c.args.n) parts
    (stream_unnamed c.args.n a b c.in-Err.field-0 c.if-n-lt1.false c.if-n-gt31.false len (sym c.in-Err.ensures))
