use Rattle.std.proofs.Common.{◌∙◌, List, subst}
use Rattle.mdb_bytes.specs.declared.converter_pages.ConverterEntry.{ConverterEntry}
use Rattle.converter.specs.Maps.{IsTracked}
use Rattle.converter.proofs.Followed.{frozen_on}
use Rattle.converter.proofs.maps.Converter.freeze.Goals as goal

pub invariant_of-self : goal.invariant_of-self
invariant_of-self c =
    frozen_on _ _ _ _ c.self.invariant c.catch_up.new.kept.entries.items c.catch_up.new.kept.behind c.args.savepoint (c.catch_up.ensures.same ∙ c.deref.ensures.value) c.catch_up.ensures.flags
    (subst (λ (l : List ConverterEntry). IsTracked c.self.inside.conv l c.catch_up.new.kept.entries.items c.catch_up.new.kept.behind) c.deref.ensures.value c.catch_up.ensures.tracked)
