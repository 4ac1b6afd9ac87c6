-- Places of the ring's positions on the log volume.
use Rattle.std.proofs.Common.{◌≡◌, inl, inr, ℕ, suc, ◌+◌, ◌-◌, ◌*◌, ◌/◌, ◌%◌, ◌≤◌, ◌<◌, List, length, get_or, take, drop, length-drop, length-append, ◌++◌, [], ◌∷◌, refl, subst, sym, ◌∙◌, ap, arith}
use Rattle.std.proofs.lemmas.Bool.{cases_lt, cases_order}
use Rattle.std.proofs.lemmas.List.{get_or-drop, take_all, get_or_append_left, get_or-append_right, append-nil}
use Rattle.std.proofs.lemmas.Nat.{div-add-mod', mod_below, mod-mul-add}
use Rattle.std.proofs.Math.Nat.{mul-le-mul_right, suc-mul}
use Rattle.mdb_model.specs.declared.fault.Device.TheVariants.{Log}
use Rattle.mdb_host.proofs.Moments.{widen, onward}
use Rattle.mdb_model.specs.Images.{Image, size_of, byte_at}
use Rattle.mdb_host.specs.Disk.{Disk, Goes, Calls, Synced, Torn, Agree, Outside, Has}
use Rattle.mdb_bytes.specs.Rings.{ring_byte}
use Rattle.mdb_host.specs.declared.host.Host as host
use Rattle.redo_ring.specs.Ring.{Beside, RingTorn, HasBytesAt}
use Rattle.redo_ring.specs.Writes.{WritesRing}
-- crates above cite it from here
pub use Rattle.mdb_host.proofs.Moments.{agree_on}

-- a further whole turn is a product more
turn : (a b s : ℕ) → a < b → a * s + s ≤ b * s
turn a b s lt =
    let le : suc a * s ≤ b * s = mul-le-mul_right s (omega arith) in
    omega (arith, suc-mul a s, le)

-- two positions less than a turn apart have one place only if they are one
pub near : (s x y : ℕ) → 0 < s → x ≤ y → y < x + s → x % s ≡ y % s → x ≡ y
near s x y some le lt same = elim (cases_order (x / s) (y / s)) [
  | inl eq ↦
      let e : x / s * s ≡ y / s * s = ap (λ (n : ℕ). n * s) eq in
      omega (arith, div-add-mod' x s, div-add-mod' y s, e, same)
  | inr (inl up) ↦ absurd (omega (arith, div-add-mod' x s, div-add-mod' y s, turn (x / s) (y / s) s up, same))
  | inr (inr down) ↦ absurd (omega (arith, div-add-mod' x s, div-add-mod' y s, turn (y / s) (x / s) s down, same))
]

-- without a turn between, places go on like positions
pub further : (s x j : ℕ) → x % s + j < s → (x + j) % s ≡ x % s + j
further s x j lt =
    let e : x + j ≡ x / s * s + (x % s + j) = omega (arith, div-add-mod' x s) in
    ap (λ (n : ℕ). n % s) e ∙ mod-mul-add (x / s) s (x % s + j) lt

-- the place of a position beside a piece is outside it
pub place_outside : (s x n q : ℕ) → 0 < s → x % s + n ≤ s → Beside s x n q → Outside (16384 + x % s) n (16384 + q % s)
place_outside s x n q some fits beside = elim (cases_lt (q % s) (x % s)) [
  | inl lt ↦ inl (omega arith)
  | inr ge ↦ elim (cases_lt (q % s) (x % s + n)) [
    | inl in_it ↦
        let j = q % s - x % s in
        let at : (x + j) % s ≡ q % s = further s x j (omega (arith, mod_below q s some)) ∙ (omega arith) in
        absurd (elim beside [
          | inl below ↦ let is : q ≡ x + j = near s q (x + j) some (omega (arith, below.0)) (omega (arith, below.1)) (sym at) in omega (arith, below.0)
          | inr above ↦ let is : x + j ≡ q = near s (x + j) q some (omega (arith, above.0)) (omega (arith, above.1)) at in omega (arith, above.0)
        ])
    | inr past ↦ inr (omega arith)
  ]
]

-- a write of one piece, by positions
pub torn_piece : (s x n : ℕ) (old new : Image) → 0 < s → x % s + n ≤ s → Torn Log (16384 + x % s) n old new → RingTorn s x n old new
torn_piece s x n old new some fits torn = record {
  others = torn.others;
  same_size = torn.size;
  front = λ k lt. torn.outside k (inl (omega arith));
  beside = λ q beside. torn.outside (16384 + q % s) (place_outside s x n q some fits beside);
}

pub torn_wider : (s a total x n : ℕ) (old new : Image) → a ≤ x → x + n ≤ a + total → total ≤ s → RingTorn s x n old new → RingTorn s a total old new
torn_wider s a total x n old new from to fits torn = record {
  others = torn.others;
  same_size = torn.same_size;
  front = torn.front;
  beside = λ q beside. torn.beside q (narrower q beside);
}
  where
    narrower : (q : ℕ) → Beside s a total q → Beside s x n q
    narrower q (inl below) = inl (omega (arith, below.0), omega (arith, below.1))
    narrower q (inr above) = inr (omega (arith, above.0), omega (arith, above.1))

pub torn_trans : (s x n : ℕ) (a b c : Image) → RingTorn s x n a b → RingTorn s x n b c → RingTorn s x n a c
torn_trans s x n a b c one two = record {
  others = λ e other. two.others e other ∙ one.others e other;
  same_size = two.same_size ∙ one.same_size;
  front = λ k lt. two.front k lt ∙ one.front k lt;
  beside = λ q beside. two.beside q beside ∙ one.beside q beside;
}

pub torn_refl : (s x n : ℕ) (a : Image) → RingTorn s x n a a
torn_refl s x n a = record { others = λ e other. refl; same_size = refl; front = λ k lt. refl; beside = λ q beside. refl }

pub torn_calm : (s x n : ℕ) (a b c : Image) → RingTorn s x n a b → Agree b c → RingTorn s x n a c
torn_calm s x n a b c torn same = record {
  others = λ e other. same e ∙ torn.others e other;
  same_size = ap size_of (same Log) ∙ torn.same_size;
  front = λ k lt. ap (λ o. byte_at o k) (same Log) ∙ torn.front k lt;
  beside = λ q beside. ap (λ o. byte_at o (16384 + q % s)) (same Log) ∙ torn.beside q beside;
}

-- bytes of a piece, by positions
pub piece_byte : (s x : ℕ) (image : Image) (bytes : List ℕ) (i : ℕ) → x % s + length bytes ≤ s → Has image Log (16384 + x % s) bytes → i < length bytes → ring_byte s image (x + i) ≡ get_or bytes i 0
piece_byte s x image bytes i fits has lt =
    let e : 16384 + (x + i) % s ≡ 16384 + x % s + i = omega (arith, further s x i (omega arith)) in
    ap (λ (k : ℕ). byte_at (image Log) k) e ∙ has i lt

module _ (s x total n : ℕ) (old new : Disk) (some : 0 < s) (shorter : n ≤ total) (fits : total ≤ s) (within : x % s + n ≤ s) (calls : Calls old new (Torn Log (16384 + x % s) n)) where
  wider : (a b : Image) → Torn Log (16384 + x % s) n a b → RingTorn s x total a b
  wider a b torn = torn_wider s x total x n a b (omega arith) (omega arith) fits (torn_piece s x n a b some within torn)

  pub piece_goes : Goes old new (RingTorn s x total)
  piece_goes = widen old new _ _ calls.goes (λ a b left torn. wider a b torn)

  pub piece_seen : RingTorn s x total old.seen new.seen
  piece_seen = wider old.seen new.seen calls.seen

-- the pieces after one more
module _ (s x done n : ℕ) (bytes rest : List ℕ) (is : rest ≡ drop done bytes) (within : done ≤ length bytes) (fits : length bytes ≤ s) where
  rest_len : done + length rest ≡ length bytes
  rest_len = omega (arith, ap length is, length-drop done bytes)

  pub rest_torn : (a b : Image) → RingTorn s (x + done) (length rest) a b → RingTorn s x (length bytes) a b
  rest_torn a b torn = torn_wider s x (length bytes) (x + done) (length rest) a b (omega arith) (omega (arith, rest_len)) fits torn

  pub goes_more : (old mid new : Disk) → Goes old mid (RingTorn s x (length bytes)) → Goes mid new (RingTorn s (x + done) (length rest)) → Goes old new (RingTorn s x (length bytes))
  goes_more old mid new so_far piece = onward old mid new _ (torn_trans s x (length bytes)) so_far (widen mid new _ _ piece (λ a b left torn. rest_torn a b torn))

  -- the devices after one more
  pub ring_more : {H : Type 0} (h : host.Ghosts H) (old mid new : H) → WritesRing h s x (length bytes) old mid → WritesRing h s (x + done) (length rest) mid new → WritesRing h s x (length bytes) old new
  ring_more h old mid new so_far piece = record {
    goes = λ told. goes_more (h.disk old) (h.disk mid) (h.disk new) (so_far.goes told) (piece.goes told);
    seen = λ told. torn_trans s x (length bytes) (h.disk old).seen (h.disk mid).seen (h.disk new).seen (so_far.seen told) (rest_torn (h.disk mid).seen (h.disk new).seen (piece.seen told));
    say_faults = piece.say_faults ∙ so_far.say_faults;
  }

  pub written_more : (old new : Image) → ((i : ℕ) → i < done → ring_byte s old (x + i) ≡ get_or bytes i 0)
      → RingTorn s (x + done) (length rest) old new
      → ((i : ℕ) → i < n → ring_byte s new (x + done + i) ≡ get_or rest i 0)
      → (i : ℕ) → i < done + n → ring_byte s new (x + i) ≡ get_or bytes i 0
  written_more old new before torn here i lt = elim (cases_lt i done) [
    | inl earlier ↦ torn.beside (x + i) (inl (omega arith, omega (arith, rest_len))) ∙ before i earlier
    | inr later ↦
        let j = i - done in
        let at : x + i ≡ x + done + j = omega arith in
        let same : done + j ≡ i = omega arith in
        ap (λ (q : ℕ). ring_byte s new q) at ∙ here j (omega arith) ∙ ap (λ (l : List ℕ). get_or l j 0) is ∙ get_or-drop done bytes j 0 ∙ ap (λ (k : ℕ). get_or bytes k 0) same
  ]

-- the rest of a slice
pub rest_is : (done : ℕ) (bytes : List ℕ) → take (length bytes - done) (drop done bytes) ≡ drop done bytes
rest_is done bytes = take_all (length bytes - done) (drop done bytes) (omega (arith, length-drop done bytes))

-- after a sync each image has what was written
pub stands_kept : (s x : ℕ) (bytes : List ℕ) (mid new : Disk) → HasBytesAt (ring_byte s mid.seen) x bytes → Agree mid.seen new.seen → Synced new Log → (image : Image) → new.may_leave new.now image → HasBytesAt (ring_byte s image) x bytes
stands_kept s x bytes mid new spells same synced image left i lt = ap (λ o. byte_at o (16384 + (x + i) % s)) (synced image left ∙ same Log) ∙ spells i lt

-- Reading

-- bytes of one piece stand there
pub piece_stands : (s x : ℕ) (image : Image) (bytes : List ℕ) → x % s + length bytes ≤ s → Has image Log (16384 + x % s) bytes → HasBytesAt (ring_byte s image) x bytes
piece_stands s x image bytes fits has i lt = piece_byte s x image bytes i fits has lt

-- where the ring turns
turned : (s x n : ℕ) → 0 < s → x % s + n ≡ s → (x + n) % s ≡ 0
turned s x n some whole =
    let e : x + n ≡ suc (x / s) * s + 0 = omega (arith, div-add-mod' x s, suc-mul (x / s) s) in
    ap (λ (k : ℕ). k % s) e ∙ mod-mul-add (suc (x / s)) s 0 some

-- a first part and a second one
pub stands_joined : (ring : ℕ → ℕ) (x : ℕ) (a b : List ℕ) → HasBytesAt ring x a → HasBytesAt ring (x + length a) b → HasBytesAt ring x (a ++ b)
stands_joined ring x a b one two i lt = elim (cases_lt i (length a)) [
  | inl first ↦ one i first ∙ sym (get_or_append_left a b 0 i first)
  | inr later ↦
      let e : x + i ≡ x + length a + (i - length a) = omega arith in
      ap ring e ∙ two (i - length a) (omega (arith, length-append a b)) ∙ sym (get_or-append_right a b (length a) i 0 (omega arith) later)
]

module _ (s x : ℕ) (old mid : Image) (a b : List ℕ) (some : 0 < s) (short : length a + length b ≤ s) (whole : x % s + length a ≡ s) (same : Agree old mid) (first : Has old Log (16384 + x % s) a) (second : Has mid Log 16384 b) where
  -- the piece before the turn and the one after it
  pub both_stand : HasBytesAt (ring_byte s old) x (a ++ b)
  both_stand = stands_joined (ring_byte s old) x a b (piece_stands s x old a (omega arith) first) (λ i lt.
      let at : (x + length a) % s ≡ 0 = turned s x (length a) some whole in
      let place : 16384 + (x + length a + i) % s ≡ 16384 + i = omega (arith, further s (x + length a) i (omega arith)) in
      ap (λ (k : ℕ). byte_at (old Log) k) place ∙ ap (λ o. byte_at o (16384 + i)) (sym (same Log)) ∙ second i lt)

-- nothing after the first part
pub whole_front : (s x : ℕ) (image : Image) (a b : List ℕ) → length b ≡ 0 → HasBytesAt (ring_byte s image) x a → HasBytesAt (ring_byte s image) x (a ++ b)
whole_front s x image a [] none stands = subst (λ (l : List ℕ). HasBytesAt (ring_byte s image) x l) (sym (append-nil a)) stands
whole_front s x image a (y ∷ b) none stands = absurd (omega arith)
