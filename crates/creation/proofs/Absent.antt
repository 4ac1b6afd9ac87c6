-- A device that is absent.
--     absent_same      it is so in each image of its size
--     none_size      what is told to be none is none
use Rattle.std.proofs.Common.{◌≡◌, refl, ℕ, true, false, is_some, List, Option, Some, None}
use Rattle.mdb_model.specs.Images.{size_of}
use Rattle.mdb_host.specs.Disk.{page_count}

-- a device that is absent is so in each image of its size
pub absent_same : (a b : Option (List ℕ)) → page_count a ≡ None → size_of b ≡ size_of a → b ≡ a
absent_same None None none same = refl
absent_same None (Some y) none same = absurd cc
absent_same (Some x) b none same = absurd cc

-- what is told to be none is none
pub none_size : (o : Option ℕ) → is_some o ≡ false → o ≡ None
none_size None is = refl
none_size (Some n) is = absurd (not_true is)
  where
    not_true : true ≡ false → ⊥
    not_true e = cc
