-- Numbers and byte strings as they are spelled.
use Rattle.std.proofs.Common.{◌≡◌, ◌≢◌, ℕ, ◌+◌, ◌-◌, ◌*◌, ◌/◌, ◌<◌, ◌≤◌, List, [], ◌∷◌, ◌++◌, Bool, true, false, IsTrue, Option, Some, None, length, take, drop, get_or, fold, refl, sym, ap, ◌∙◌, subst, inl, inr, arith, append_assoc, append-nil, ◌&&◌, ◌||◌, if◌then◌else◌, MatchOption, Bor}
use Rattle.std.specs.List.{list_all}
use Rattle.std.proofs.lemmas.Bool.{and_parts}
use Rattle.std.proofs.lemmas.List.{append_cancel_left, append_cancel_right, take-append-drop, drop_more, at_drop_all}
use Rattle.std.proofs.lemmas.List.Folds.{list_all-append}
use Rattle.mdb_model.specs.Script.{Bytes, SpellsPart, is_digit, is_plain, is_within, number_of, hex_value, hex_bytes, join_digits}
use Rattle.dbm_script.specs.Spelling.{is_hex_digit, bytes_spelled, IsSpelled}
use Rattle.dbm_script.proofs.Cuts.{if_some, number-digits, hex_joined}

-- a number with one more digit
abbrev pub with_digit : ℕ → ℕ → ℕ
with_digit n b = 10 * n + (b - 48)

-- digits make a number no smaller
grows : (text : List ℕ) (n : ℕ) → n ≤ fold with_digit n text
grows [] n = omega arith
grows (b ∷ text) n = omega (arith, grows text (with_digit n b))

-- the digits in front are read first
splits : (front back : List ℕ) (n : ℕ) → fold with_digit n (front ++ back) ≡ fold with_digit (fold with_digit n front) back
splits [] back n = refl
splits (b ∷ front) back n = splits front back (with_digit n b)

-- past some digits a number is too large already
large : (front : List ℕ) (b : ℕ) (back : List ℕ) (limit n : ℕ)
    → (IsTrue (is_digit b) → limit ≤ with_digit (fold with_digit 0 front) b) → n < limit → number_of (front ++ b ∷ back) ≡ Some n → ⊥
large front b back limit n over small e =
    let t = if_some (list_all is_digit (front ++ b ∷ back) && is_within 1 20 (length (front ++ b ∷ back))) (fold with_digit 0 (front ++ b ∷ back)) n e in
    let d : (list_all is_digit front && list_all is_digit (b ∷ back)) ≡ true = sym (list_all-append is_digit front (b ∷ back)) ∙ number-digits (front ++ b ∷ back) n e in
    let one = (and_parts (is_digit b) (list_all is_digit back) (and_parts (list_all is_digit front) (list_all is_digit (b ∷ back)) d).1).0 in
    omega (arith, over one, grows back (with_digit (fold with_digit 0 front) b), splits front (b ∷ back) 0, t.1)

-- a number does not fit that does not fit past a digit
pub number_large : (text : List ℕ) (i b v limit n : ℕ) → i < length text → b ≡ get_or text i 0 → v ≡ fold with_digit 0 (take i text)
    → (IsTrue (is_digit b) → limit ≤ with_digit v b) → n < limit → number_of text ≡ Some n → ⊥
number_large text i b v limit n lt same value over small e =
    let cut : take i text ++ b ∷ drop (i + 1) text ≡ text =
    ap (λ (x : ℕ). take i text ++ x ∷ drop (i + 1) text) same ∙ ap (λ (t : List ℕ). take i text ++ t) (sym (drop_more text i 0 lt)) ∙ take-append-drop i text in
    large (take i text) b (drop (i + 1) text) limit n (λ d. subst (λ (x : ℕ). limit ≤ with_digit x b) value (over d)) small
    (subst (λ (t : List ℕ). number_of t ≡ Some n) (sym cut) e)

-- bytes in front of those that digits stand for
abbrev pub joined : List ℕ → Option (List ℕ) → Option (List ℕ)
joined front (Some more) = Some (front ++ more)
joined front None = None

-- two more digits are one more byte in front
pub joined-more : (front digits : List ℕ) (high low x y : ℕ) → hex_value high ≡ Some x → hex_value low ≡ Some y
    → joined front (hex_bytes (high ∷ low ∷ digits)) ≡ joined (front ++ (16 * x + y) ∷ []) (hex_bytes digits)
joined-more front digits high low x y h l = rw (h, l) (pushed front (hex_bytes digits) (16 * x + y)) where
  pushed : (front : List ℕ) (o : Option (List ℕ)) (b : ℕ) → joined front (join_digits (Some x) (Some y) o) ≡ joined (front ++ (16 * x + y) ∷ []) o
  pushed front (Some more) b = ap (λ (t : List ℕ). Some t) (sym (append_assoc front ((16 * x + y) ∷ []) more))
  pushed front None b = refl

-- there are two digits for each byte
pub hex-length : (digits bytes : List ℕ) → hex_bytes digits ≡ Some bytes → length digits ≡ 2 * length bytes
hex-length [] bytes e = let none : [] ≡ bytes = cc in omega (arith, ap length none)
hex-length (high ∷ []) bytes e = absurd (cc)
hex-length (high ∷ low ∷ digits) bytes e =
    let j = hex_joined (hex_value high) (hex_value low) (hex_bytes digits) bytes e in
    omega (arith, ap length j.6, hex-length digits j.2 j.5)

-- one of three choices that holds gives a value
choice_some : (p q r : Bool) (x y z : ℕ) → IsTrue (p || q || r) → (v : ℕ) × ((if p then Some x else (if q then Some y else (if r then Some z else None))) ≡ Some v)
choice_some true q r x y z h = (x, refl)
choice_some false true r x y z h = (y, refl)
choice_some false false true x y z h = (z, refl)
choice_some false false false x y z h = absurd (cc)

-- and a value comes from one that holds
some_choice : (p q r : Bool) (x y z v : ℕ) → (if p then Some x else (if q then Some y else (if r then Some z else None))) ≡ Some v → IsTrue (p || q || r)
some_choice true q r x y z v e = refl
some_choice false true r x y z v e = refl
some_choice false false true x y z v e = refl
some_choice false false false x y z v e = absurd (cc)

-- a hexadecimal digit has a value
value-hex_digit : (b : ℕ) → IsTrue (is_hex_digit b) → (v : ℕ) × (hex_value b ≡ Some v)
value-hex_digit b h = choice_some (is_digit b) (is_within 65 70 b) (is_within 97 102 b) (b - 48) (b - 55) (b - 87) h

-- and what has one is a hexadecimal digit
hex_digit-value : (b v : ℕ) → hex_value b ≡ Some v → IsTrue (is_hex_digit b)
hex_digit-value b v e = some_choice (is_digit b) (is_within 65 70 b) (is_within 97 102 b) (b - 48) (b - 55) (b - 87) v e

-- pairs of digits stand for bytes
pub hex_some : (digits : List ℕ) (n : ℕ) → length digits ≡ 2 * n → IsTrue (list_all is_hex_digit digits) → (bytes : List ℕ) × (hex_bytes digits ≡ Some bytes)
hex_some [] n l d = ([], refl)
hex_some (high ∷ []) n l d = absurd (omega arith)
hex_some (high ∷ low ∷ digits) n l d =
    let p = and_parts (is_hex_digit high) (list_all is_hex_digit (low ∷ digits)) d in
    let q = and_parts (is_hex_digit low) (list_all is_hex_digit digits) p.1 in
    let x = value-hex_digit high p.0 in
    let y = value-hex_digit low q.0 in
    let z = hex_some digits (n - 1) (omega arith) q.1 in
    ((16 * x.0 + y.0) ∷ z.0, rw (x.1, y.1, z.1) refl)

-- and what stands for bytes is all digits
pub hex_digits-some : (digits bytes : List ℕ) → hex_bytes digits ≡ Some bytes → IsTrue (list_all is_hex_digit digits)
hex_digits-some [] bytes e = refl
hex_digits-some (high ∷ []) bytes e = absurd (cc)
hex_digits-some (high ∷ low ∷ digits) bytes e =
    let j = hex_joined (hex_value high) (hex_value low) (hex_bytes digits) bytes e in
    rw (hex_digit-value high j.0 j.3, hex_digit-value low j.1 j.4, hex_digits-some digits j.2 j.5) refl

-- digits that stand for few bytes
pub IsSpelled-paired : (digits bytes : List ℕ) → hex_bytes digits ≡ Some bytes → length digits ≤ 3000 → IsSpelled true digits
IsSpelled-paired digits bytes e l =
    let two = hex-length digits bytes e in
    let few : length bytes ≤ 1500 = omega arith in
    rw e (refl, few)

-- digits are two for each byte that they spell
pub length-spelled : (in_digits : Bool) (text bytes : List ℕ) → in_digits ≡ true → IsSpelled in_digits text → bytes_spelled in_digits text ≡ bytes → length text / 2 ≡ length bytes
length-spelled true text bytes t s e = omega (arith, hex-length text (bytes_spelled true text) s.0, ap length e)
length-spelled false text bytes t s e = absurd (cc)

-- What a byte string between quotes, or in hexadecimal, may spell

-- equal texts begin with the same byte
front_byte : (xs ys : List ℕ) (x y : ℕ) → x ∷ xs ≡ y ∷ ys → x ≡ y
front_byte xs ys x y e = cc

-- the text between quotes is the only one that it spells
pub quoted-spells : (text inner bytes : List ℕ) → text ≡ 39 ∷ inner ++ 39 ∷ [] → SpellsPart (Bytes bytes) text → IsTrue (list_all is_plain inner) × (bytes ≡ inner)
quoted-spells text inner bytes q (inl s) =
    let same : 39 ∷ bytes ++ 39 ∷ [] ≡ 39 ∷ inner ++ 39 ∷ [] = sym s.1 ∙ q in
    let tails : bytes ++ 39 ∷ [] ≡ inner ++ 39 ∷ [] = cc in
    let e = append_cancel_right bytes inner (39 ∷ []) tails in
    (subst (λ (t : List ℕ). IsTrue (list_all is_plain t)) e s.0, e)
quoted-spells text inner bytes q (inr s) =
    let same : 120 ∷ 39 ∷ s.0 ++ 39 ∷ [] ≡ 39 ∷ inner ++ 39 ∷ [] = sym s.2 ∙ q in
    absurd (omega (arith, front_byte (39 ∷ s.0 ++ 39 ∷ []) (inner ++ 39 ∷ []) 120 39 same))

-- the bytes of the digits are the only ones that they spell
pub hex-spells : (text digits bytes : List ℕ) → text ≡ 120 ∷ 39 ∷ digits ++ 39 ∷ [] → SpellsPart (Bytes bytes) text → hex_bytes digits ≡ Some bytes
hex-spells text digits bytes q (inl s) =
    let same : 39 ∷ bytes ++ 39 ∷ [] ≡ 120 ∷ 39 ∷ digits ++ 39 ∷ [] = sym s.1 ∙ q in
    absurd (omega (arith, front_byte (bytes ++ 39 ∷ []) (39 ∷ digits ++ 39 ∷ []) 39 120 same))
hex-spells text digits bytes q (inr s) =
    let same : 120 ∷ 39 ∷ s.0 ++ 39 ∷ [] ≡ 120 ∷ 39 ∷ digits ++ 39 ∷ [] = sym s.2 ∙ q in
    let tails : s.0 ++ 39 ∷ [] ≡ digits ++ 39 ∷ [] = cc in
    let e = append_cancel_right s.0 digits (39 ∷ []) tails in
    ap hex_bytes (sym e) ∙ s.1

-- a text in neither form spells no bytes
pub none-spells : (text bytes : List ℕ) → ((inner : List ℕ) → text ≡ 39 ∷ inner ++ 39 ∷ [] → ⊥) → ((digits : List ℕ) → text ≡ 120 ∷ 39 ∷ digits ++ 39 ∷ [] → ⊥) → SpellsPart (Bytes bytes) text → ⊥
none-spells text bytes q h (inl s) = q bytes s.1
none-spells text bytes q h (inr s) = h s.0 s.2

-- what stands after a front and before an end
pub between_cases : (text front rest end : List ℕ) (r : Option (Bor (List ℕ))) → text ≡ front ++ rest
    → MatchOption r ((inner : List ℕ) → rest ≢ inner ++ end) (λ x. rest ≡ x.now ++ end)
    → MatchOption r ((inner : List ℕ) → text ≢ front ++ (inner ++ end)) (λ x. text ≡ front ++ (x.now ++ end))
between_cases text front rest end None e h = λ inner f. h inner (append_cancel_left front rest (inner ++ end) (sym e ∙ f))
between_cases text front rest end (Some x) e h = e ∙ ap (λ (t : List ℕ). front ++ t) h

-- the next two digits
two_more : (digits : List ℕ) (i : ℕ) → 2 * i + 1 < length digits → drop (2 * i) digits ≡ get_or digits (2 * i) 0 ∷ get_or digits (2 * i + 1) 0 ∷ drop (2 * (i + 1)) digits
two_more digits i lt =
    let n : (2 * i + 1) + 1 ≡ 2 * (i + 1) = omega arith in
    drop_more digits (2 * i) 0 (omega arith)
    ∙ ap (λ (t : List ℕ). get_or digits (2 * i) 0 ∷ t) (drop_more digits (2 * i + 1) 0 lt)
    ∙ ap (λ (m : ℕ). get_or digits (2 * i) 0 ∷ get_or digits (2 * i + 1) 0 ∷ drop m digits) n

-- the bytes read so far, with one more
pub hex_more : (digits front : List ℕ) (i b : ℕ) → 2 * i + 1 < length digits → hex_bytes digits ≡ joined front (hex_bytes (drop (2 * i) digits))
    → (x : ℕ) × (y : ℕ) × (hex_value (get_or digits (2 * i) 0) ≡ Some x) × (hex_value (get_or digits (2 * i + 1) 0) ≡ Some y) × (b ≡ 16 * x + y)
    → hex_bytes digits ≡ joined (front ++ b ∷ []) (hex_bytes (drop (2 * (i + 1)) digits))
hex_more digits front i b lt e (x, y, h, l, v) =
    e ∙ ap (λ (t : List ℕ). joined front (hex_bytes t)) (two_more digits i lt)
    ∙ joined-more front (drop (2 * (i + 1)) digits) (get_or digits (2 * i) 0) (get_or digits (2 * i + 1) 0) x y h l
    ∙ ap (λ (n : ℕ). joined (front ++ n ∷ []) (hex_bytes (drop (2 * (i + 1)) digits))) (sym v)

-- all that the digits stand for was read
pub hex_all : (digits bytes front : List ℕ) (i : ℕ) → hex_bytes digits ≡ Some bytes → length digits / 2 ≤ i → hex_bytes digits ≡ joined front (hex_bytes (drop (2 * i) digits))
    → hex_bytes digits ≡ Some front
hex_all digits bytes front i some past e =
    e ∙ at_drop_all (λ (t : List ℕ). joined front (hex_bytes t)) digits (2 * i) (omega (arith, hex-length digits bytes some))
    ∙ ap (λ (t : List ℕ). Some t) (append-nil front)
