use Rattle.std.proofs.Common.{refl, ◌∙◌}
use Rattle.page_store.specs.Steps.{MayWrite}
use Rattle.savepoint.proofs.StandsSteps.{slots_stay, holds_stays}
use Rattle.page_store.proofs.laws.last_savepoint_stays.Goals as goal

pub returns : goal.returns
returns c s restart pages before after big placed writes stands = record {
  force = (slots_stay s.sizes (MayWrite s) before after (λ b may. may.high) writes big).force ∙ stands.force;
  root = stands.root;
  map = holds_stays s.sizes (MayWrite s) s.maps.saved s.maps.conv pages before after placed (λ q may. may.unsaved q refl) writes stands.map;
}
