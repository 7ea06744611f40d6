use Rattle.store_model.proofs.LawProofs.{fit_below, fit_from, fit_rises}
use Rattle.store_model.proofs.Patched.{covered}
use Rattle.store_model.proofs.laws.fit_is.Goals as goal

pub returns : goal.returns
returns c = record {
  fits = λ size end bs fits. record {
    rise = fit_rises size 0 end bs fits;
    begin_below = fit_below size 0 end bs fits;
    cover = λ p small misses. covered size 0 end p bs fits small
        misses;
  };
  is_fit = λ size end bs is. fit_from size 0 end bs is.rise is.begin_below is.cover;
}
