use Rattle.std.proofs.Common.{◌≡◌, ◌∙◌, Result, Err, refl, sym, subst}
use Rattle.std.specs.Result.{IsOk}
use Rattle.cfb_header.specs.Header.{HeaderValue}
use Rattle.cfb_header.specs.declared.fault.ChainFault.{ChainFault}
use Rattle.tell_faults.specs.declared.place.FaultPlace.TheVariants as place
use Rattle.tell_faults.proofs.Places.{header_same, header_told, not_refused, nowhere_of, place_told}
use Rattle.tell_faults.proofs.finding.find_place.Goals as goal

pub find_in_fat-requires : goal.find_in_fat-requires
find_in_fat-requires c = record {
  same = header_same c.args.file.now c.in-Ok.header (sym c.read.ensures.read ∙ c.in-Ok.is)
      (c.read.ensures.whole.0 (subst (λ (r : Result HeaderValue ChainFault). IsOk r) (sym c.in-Ok.is) refl));
}

pub returns-in-Err-clause-there : goal.returns-in-Err-clause-there
returns-in-Err-clause-there c =
    place_told c.args.file.now c.args.fault c.place_if.result c.is_same.result place.Header c.place_if.ensures.only
    (λ t. let same : c.in-Err.other ≡ c.args.fault = (c.is_same.ensures.only t).0 in
    sym c.read.ensures.read ∙ c.in-Err.is ∙ (λ i. Err (same i)))

pub returns-in-Err-clause-header : goal.returns-in-Err-clause-header
returns-in-Err-clause-header c = λ refused some.
    let same : c.in-Err.other ≡ c.args.fault = header_told c.args.file.now c.read.result c.in-Err.other c.args.fault
    c.read.ensures.read c.in-Err.is refused in
    c.place_if.ensures.there (c.is_same.ensures.same same (λ z. some (sym same ∙ z)))

pub returns-in-Err-clause-nowhere : goal.returns-in-Err-clause-nowhere
returns-in-Err-clause-nowhere c =
    λ is. absurd (not_refused c.args.file.now c.in-Err.other is (sym c.read.ensures.read ∙ c.in-Err.is))

pub returns-clause-header : goal.returns-clause-header
returns-clause-header c = λ refused some. absurd (cc (c.read.ensures.read, c.in-Ok.is, refused))

pub returns-clause-nowhere : goal.returns-clause-nowhere
returns-clause-nowhere c = λ is.
    let e = c.find_in_fat.ensures in nowhere_of c.args.file.now c.args.fault c.find_in_fat.result is e.nowhere
    e.directory e.mini_fat e.mini_stream
