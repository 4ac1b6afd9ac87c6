use Rattle.std.proofs.Common.{◌∙◌, inl, inr, refl, sym}
use Rattle.converter.specs.Maps.{block_of}
use Rattle.shown_maps.proofs.laws.a_store_is_in_area.Goals as goal

pub returns-clause-saved : goal.returns-clause-saved
returns-clause-saved c s sound own = record {
  long = sound.saved_long;
  own = own;
  high = λ q some. sound.high q (block_of s.maps.saved q) some (inr (inl refl));
  below = λ q. (sound.saved_small q).0;
  apart = λ p q some is. sym (sound.owned p (block_of s.maps.saved p) some (inr (inl refl))) ∙ sound.owned q (block_of s.maps.saved p) some (inr (inl (sym is)));
}

pub returns-clause-present : goal.returns-clause-present
returns-clause-present c s sound own = record {
  long = sound.present_long;
  own = own;
  high = λ q some. sound.high q (block_of s.maps.present q) some (inl refl);
  below = λ q. (sound.present_small q).0;
  apart = λ p q some is. sym (sound.owned p (block_of s.maps.present p) some (inl refl)) ∙ sound.owned q (block_of s.maps.present p) some (inl (sym is));
}
