use Rattle.std.proofs.Common.{◌≡◌, ◌∙◌, ◌+◌, ◌≤◌, inl, inr, ℕ, List, ap, sym, arith}
use Rattle.mdb_bytes.specs.declared.converter_pages.ConverterEntry.{ConverterEntry}
use Rattle.converter.specs.Maps.{Maps, entry_at}
use Rattle.page_store.specs.Store.{Store}
use Rattle.page_store.specs.Opens.{IsStoreOpened}
use Rattle.page_store.specs.Stamps.{page_entry, AreStamped}
use Rattle.converter.proofs.Sound.{none_there}
use Rattle.page_store.proofs.laws.opened_is_stamped.Goals as goal

opened : (s : Store) (sizes : List ℕ) (savepoint : ℕ) → IsStoreOpened s sizes savepoint → ((page : ℕ) → (entry_at s.maps.saved (s.maps.conv + page)).stamp ≤ savepoint) → AreStamped s
opened s sizes savepoint is small = record {
  present = λ page. omega (arith, is.next, same page, small page);
  frozen = λ page. omega (arith, is.next, none page);
  saved = λ page. omega (arith, is.next, small page);
  own = λ page lives. inl (inl (s.maps.conv + page, inl (sym (ap (λ (m : Maps). (entry_at m.present (s.maps.conv + page)).block) is.maps))));
}
  where
    same : (page : ℕ) → (page_entry s page).stamp ≡ (entry_at s.maps.saved (s.maps.conv + page)).stamp
    same page = ap (λ (m : Maps). (entry_at m.present (s.maps.conv + page)).stamp) is.maps

    none : (page : ℕ) → (entry_at s.maps.frozen (s.maps.conv + page)).stamp ≡ 0
    none page = ap (λ (m : Maps). (entry_at m.frozen (s.maps.conv + page)).stamp) is.maps ∙ ap (λ (e : ConverterEntry). e.stamp) (none_there _ (s.maps.conv + page))

pub returns : goal.returns
returns c s sizes savepoint is small = opened s sizes savepoint is small
