-- The bytes of a number that was read are the bytes that it was read from.
use Rattle.std.proofs.Common.{◌≡◌, refl, sym, ap, ◌∙◌, ℕ, zero, suc, ◌+◌, ◌*◌, ◌^◌, ◌<◌, ◌≤◌, inl, inr, List, [], ◌∷◌, ◌++◌, length, take, drop, get_or, true, Fits, w8, arith}
use Rattle.std.specs.Prelude.{nat_lt, replicate}
use Rattle.std.specs.List.{list_all}
use Rattle.std.proofs.Math.Nat.{mul-le-mul_right, mod-lt}
use Rattle.std.proofs.lemmas.Bool.{cases_Bool, ltb-true, ltb-false, lt-ltb}
use Rattle.std.proofs.lemmas.List.{take-append-drop, take_all, append-nil, get_or-drop}
use Rattle.std.specs.Int.{byte_at, bytes_high_first}
use Rattle.byteorder.specs.Endian.{big_from, big_number, big_bytes}
use Rattle.byteorder.specs.Numbers.{big_from-cons, big_from-lt, big_number-reads_back, length-bytes_high_first}
use Rattle.mdb_bytes.proofs.Decoding.{and_left, and_right, and_both}
use Rattle.mdb_bytes.specs.Fields.{Field, Byte, Two, Four, Eight, Zeros, Text, field_bytes, field_fits, spelled}

-- each item is a byte
abbrev pub AreBytes : List ℕ → Type 0
AreBytes xs = (k : ℕ) → get_or xs k 0 < 256

pub bytes-tail : (x : ℕ) (xs : List ℕ) → AreBytes (x ∷ xs) → AreBytes xs
bytes-tail x xs all k = all (suc k)

-- a number has one highest digit and one rest
digits_same : (p a b r s : ℕ) → r < p → s < p → a * p + r ≡ b * p + s → (a ≡ b) × (r ≡ s)
digits_same p a b r s lr ls e =
    elim (cases_Bool (nat_lt a b)) [
      | inl lt ↦
          let less : a < b = ltb-true a b lt in
          let more : (a + 1) * p ≤ b * p = mul-le-mul_right p (omega arith) in
          absurd (omega arith)
      | inr not_less ↦
          elim (cases_Bool (nat_lt b a)) [
            | inl lt ↦
                let less : b < a = ltb-true b a lt in
                let more : (b + 1) * p ≤ a * p = mul-le-mul_right p (omega arith) in
                absurd (omega arith)
            | inr not_more ↦
                let at_least : b ≤ a = ltb-false a b not_less in
                let at_most : a ≤ b = ltb-false b a not_more in
                let same : a ≡ b = omega arith in
                let products : a * p ≡ b * p = ap (λ n. n * p) same in
                (same, omega arith)
          ]
    ]

-- bytes that read as one number are the same
same_number : (n : ℕ) (xs ys : List ℕ) → AreBytes xs → AreBytes ys → n ≤ length xs → n ≤ length ys → big_number n xs ≡ big_number n ys → take n xs ≡ take n ys
same_number zero [] [] all_x all_y in_x in_y e = refl
same_number zero [] (y ∷ ys) all_x all_y in_x in_y e = refl
same_number zero (x ∷ xs) [] all_x all_y in_x in_y e = refl
same_number zero (x ∷ xs) (y ∷ ys) all_x all_y in_x in_y e = refl
same_number (suc n) [] ys all_x all_y in_x in_y e = absurd (omega arith)
same_number (suc n) (x ∷ xs) [] all_x all_y in_x in_y e = absurd (omega arith)
same_number (suc n) (x ∷ xs) (y ∷ ys) all_x all_y in_x in_y e =
    let rest_x = big_from-lt 0 n xs (bytes-tail x xs all_x) in
    let rest_y = big_from-lt 0 n ys (bytes-tail y ys all_y) in
    let split : x * 256 ^ n + big_from 0 n xs ≡ y * 256 ^ n + big_from 0 n ys =
    ap (λ r. x * 256 ^ n + r) (sym (big_from-cons 0 n x xs)) ∙ e ∙ ap (λ r. y * 256 ^ n + r) (big_from-cons 0 n y ys) in
    let both = digits_same (256 ^ n) x y (big_from 0 n xs) (big_from 0 n ys) rest_x rest_y split in
    λ i. both.0 i ∷ same_number n xs ys (bytes-tail x xs all_x) (bytes-tail y ys all_y) (omega (arith, in_x)) (omega (arith, in_y)) both.1 i

byte_below : (k n : ℕ) → byte_at k n < 256
byte_below zero n = mod-lt n (omega arith)
byte_below (suc k) n = mod-lt _ (omega arith)

spelled_bytes : (n x : ℕ) → AreBytes (bytes_high_first n x)
spelled_bytes zero x k = omega arith
spelled_bytes (suc n) x zero = byte_below n x
spelled_bytes (suc n) x (suc k) = spelled_bytes n x k

-- a number that was read is spelled by the bytes that it was read from
pub number-spells : (n : ℕ) (xs : List ℕ) → AreBytes xs → n ≤ length xs → big_bytes n (big_number n xs) ≡ take n xs
number-spells n xs all le =
    let v = big_number n xs in
    let len : length (bytes_high_first n v) ≡ n = length-bytes_high_first n v in
    let again : big_number n (bytes_high_first n v) ≡ v =
    ap (big_number n) (sym (append-nil (bytes_high_first n v))) ∙ big_number-reads_back n v [] (big_from-lt 0 n xs all) in
    sym (take_all n (bytes_high_first n v) (omega arith)) ∙ same_number n (bytes_high_first n v) xs (spelled_bytes n v) all (omega arith) le again

pub number-then_rest : (n : ℕ) (xs : List ℕ) → AreBytes xs → n ≤ length xs → big_bytes n (big_number n xs) ++ drop n xs ≡ xs
number-then_rest n xs all le = ap (λ t. t ++ drop n xs) (number-spells n xs all le) ∙ take-append-drop n xs

pub bytes-drop : (n : ℕ) (xs : List ℕ) → AreBytes xs → AreBytes (drop n xs)
bytes-drop n xs all k = rw get_or-drop (all (n + k))

pub bytes-take : (n : ℕ) (xs : List ℕ) → AreBytes xs → AreBytes (take n xs)
bytes-take zero [] all k = omega arith
bytes-take zero (x ∷ xs) all k = omega arith
bytes-take (suc n) [] all k = omega arith
bytes-take (suc n) (x ∷ xs) all zero = all zero
bytes-take (suc n) (x ∷ xs) all (suc k) = bytes-take n xs (bytes-tail x xs all) k

-- the same as a test
pub bytes_pass : (xs : List ℕ) → AreBytes xs → list_all (λ b. nat_lt b 256) xs ≡ true
bytes_pass [] all = refl
bytes_pass (x ∷ xs) all = and_both (nat_lt x 256) (list_all (λ b. nat_lt b 256) xs) (lt-ltb x 256 (all zero)) (bytes_pass xs (bytes-tail x xs all))

-- what a slice of bytes has
pub as_bytes : (xs : List ℕ) → ((k : ℕ) → Fits w8 (get_or xs k 0)) → AreBytes xs
as_bytes xs fits k = let fit = fits k in omega arith

pub bytes-append : (xs ys : List ℕ) → AreBytes xs → AreBytes ys → AreBytes (xs ++ ys)
bytes-append [] ys all_x all_y k = all_y k
bytes-append (x ∷ xs) ys all_x all_y zero = all_x zero
bytes-append (x ∷ xs) ys all_x all_y (suc k) = bytes-append xs ys (bytes-tail x xs all_x) all_y k

zero_bytes : (n : ℕ) → AreBytes (replicate n 0)
zero_bytes zero k = omega arith
zero_bytes (suc n) zero = omega arith
zero_bytes (suc n) (suc k) = zero_bytes n k

text_bytes : (xs : List ℕ) → list_all (λ b. nat_lt b 256) xs ≡ true → AreBytes xs
text_bytes [] pass k = omega arith
text_bytes (x ∷ xs) pass zero = ltb-true x 256 (and_left (nat_lt x 256) _ pass)
text_bytes (x ∷ xs) pass (suc k) = text_bytes xs (and_right (nat_lt x 256) _ pass) k

field_is_bytes : (f : Field) → field_fits f ≡ true → AreBytes (field_bytes f)
field_is_bytes (Byte n) fit = spelled_bytes 1 n
field_is_bytes (Two n) fit = spelled_bytes 2 n
field_is_bytes (Four n) fit = spelled_bytes 4 n
field_is_bytes (Eight n) fit = spelled_bytes 8 n
field_is_bytes (Zeros n) fit = zero_bytes n
field_is_bytes (Text xs) fit = text_bytes xs fit

-- what fields spell are bytes
pub fields_are_bytes : (fs : List Field) → list_all field_fits fs ≡ true → AreBytes (spelled fs)
unfolding spelled
fields_are_bytes [] fit k = omega arith
fields_are_bytes (f ∷ fs) fit k =
    bytes-append (field_bytes f) (spelled fs) (field_is_bytes f (and_left (field_fits f) _ fit)) (fields_are_bytes fs (and_right (field_fits f) _ fit)) k
