use Rattle.std.proofs.Common.{◌+◌, inl, inr, refl, arith}
use Rattle.page_store.proofs.laws.frozen_is_stamped.Goals as goal

pub returns : goal.returns
returns c s is = record {
  present = λ page. omega (arith, is.present page);
  frozen = λ page. omega (arith, is.present page);
  saved = λ page. omega (arith, is.saved page);
  own = λ page lives. inl (inl (s.maps.conv + page, inr refl));
}
