-- Numbers one after the other, as they stand in bytes.
--     number_step      a number and what stands after it
--     number_below      how great it may be
use Rattle.std.proofs.Common.{◌≡◌, sym, ap, ◌∙◌, ℕ, ◌+◌, ◌<◌, ◌≤◌, ◌^◌, List, ◌++◌, length, drop, arith}
use Rattle.std.proofs.lemmas.List.{drop-drop, length-drop}
use Rattle.byteorder.specs.Endian.{big_bytes, big_number}
use Rattle.byteorder.specs.Numbers.{big_from-lt}
use Rattle.mdb_bytes.specs.Fields.{number_at}
use Rattle.mdb_bytes.proofs.NumberBytes.{AreBytes, bytes-drop, number-then_rest}

pub number_step : (n at : ℕ) (bytes : List ℕ) → AreBytes bytes → at + n ≤ length bytes → drop at bytes ≡ big_bytes n (number_at n at bytes) ++ drop (at + n) bytes
unfolding number_at
number_step n at bytes all le =
    sym (number-then_rest n (drop at bytes) (bytes-drop at bytes all) (omega (arith, length-drop at bytes)))
    ∙ ap (λ t. big_bytes n (big_number n (drop at bytes)) ++ t) (drop-drop n at bytes)

pub number_below : (n at : ℕ) (bytes : List ℕ) → AreBytes bytes → number_at n at bytes < 256 ^ n
unfolding number_at
number_below n at bytes all = big_from-lt 0 n (drop at bytes) (bytes-drop at bytes all)
