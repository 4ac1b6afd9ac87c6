-- Words that are numbers.
--     gains_none, gains_one, gains_on, gains_all      numbers that were read
--     lacks_one, lacks_front, lacks_behind      words that are not all numbers within limits
--     creates      a database is asked for within the limits
--     asks_by_birth, asks_by_log, asks_by_counts, asks_by_site      none is, by what breaks them
use Rattle.std.proofs.Common.{◌≡◌, ◌≢◌, refl, sym, ap, ap₂, subst, ◌∙◌, ◌&&◌, ◌+◌, ◌-◌, ◌^◌, ◌<◌, ◌≤◌, ℕ, zero, suc, Bool, true, false, List, [], ◌∷◌, ◌++◌, Option, Some, None, arith, append_assoc, append-nil, length, sum, get_or}
use Rattle.std.specs.Prelude.{nat_le}
use Rattle.std.specs.List.{list_all}
use Rattle.std.proofs.lemmas.Bool.Decides.{nat_tests}
use Rattle.std.proofs.lemmas.List.Sums.{sum_by-append, sum_by-cons}
use Rattle.std.proofs.lemmas.Bool.{and_parts, and_from}
use Rattle.mdb_model.specs.Script.{Create, create_of, is_within, number_of, numbers_of}
use Rattle.standing.specs.Standing.{IsSite}
use Rattle.call_words.specs.Words.{Gains, Lacks, with_front}

-- Numbers of words

front_is : (number : Option ℕ) (numbers : Option (List ℕ)) (ns : List ℕ) → with_front number numbers ≡ Some ns
    → (n : ℕ) × (rest : List ℕ) × (number ≡ Some n) × (numbers ≡ Some rest) × (ns ≡ n ∷ rest)
front_is None numbers ns is = cc
front_is (Some n) None ns is = cc
front_is (Some n) (Some rest) ns is = let e : ns ≡ n ∷ rest = cc in (n, rest, refl, refl, e)

numbers-append : (a b : List (List ℕ)) (ns ms : List ℕ) → numbers_of a ≡ Some ns → numbers_of b ≡ Some ms → numbers_of (a ++ b) ≡ Some (ns ++ ms)
numbers-append [] b ns ms is more = let e : [] ≡ ns = cc in more ∙ ap (λ (l : List ℕ). Some (l ++ ms)) e
numbers-append (text ∷ a) b ns ms is more =
    let f = front_is (number_of text) (numbers_of a) ns is in
    ap₂ with_front f.2 (numbers-append a b f.1 ms f.3 more) ∙ ap (λ (l : List ℕ). Some (l ++ ms)) (sym f.4)

numbers-split : (a b : List (List ℕ)) (ns : List ℕ) → numbers_of (a ++ b) ≡ Some ns
    → (x : List ℕ) × (y : List ℕ) × (numbers_of a ≡ Some x) × (numbers_of b ≡ Some y) × (ns ≡ x ++ y)
numbers-split [] b ns is = ([], ns, refl, is, refl)
numbers-split (text ∷ a) b ns is =
    let f = front_is (number_of text) (numbers_of (a ++ b)) ns is in
    let s = numbers-split a b f.1 f.3 in
    (f.0 ∷ s.0, s.1, ap₂ with_front f.2 s.2, s.3, f.4 ∙ ap (λ (l : List ℕ). f.0 ∷ l) s.4)

sum-append : (x y : List ℕ) → sum (x ++ y) ≡ sum x + sum y
sum-append x y = sum_by-append (λ n. n) x y

sum-cons : (n : ℕ) (x : List ℕ) → sum (n ∷ x) ≡ n + sum x
sum-cons n x = sum_by-cons (λ n. n) n x

pub gains_none : (l : List ℕ) → Gains [] l l
gains_none l = ([], refl, sym (append-nil l))

pub gains_one : (text : List ℕ) (n : ℕ) (l : List ℕ) → number_of text ≡ Some n → Gains (text ∷ []) l (l ++ n ∷ [])
gains_one text n l is = (n ∷ [], ap (λ (o : Option ℕ). with_front o (Some [])) is, refl)

pub gains_on : (a b : List (List ℕ)) (x y z : List ℕ) → Gains a x y → Gains b y z → Gains (a ++ b) x z
gains_on a b x y z first second =
    (first.0 ++ second.0, numbers-append a b first.0 second.0 first.1 second.1, second.2 ∙ ap (λ (l : List ℕ). l ++ second.0) first.2 ∙ append_assoc x first.0 second.0)

-- from none on
pub gains_all : (texts : List (List ℕ)) (l : List ℕ) → Gains texts [] l → numbers_of texts ≡ Some l
gains_all texts l gains = gains.1 ∙ ap (λ (x : List ℕ). Some x) (sym gains.2)

pub lacks_one : (text : List ℕ) → ((n : ℕ) → n < 2 ^ 32 → number_of text ≢ Some n) → Lacks (text ∷ [])
lacks_one text none ns small is =
    let f = front_is (number_of text) (Some []) ns is in
    let e : sum ns ≡ f.0 + sum f.1 = ap sum f.4 ∙ sum-cons f.0 f.1 in
    none f.0 (omega (arith, small, e)) f.2

pub lacks_front : (a b : List (List ℕ)) → Lacks a → Lacks (a ++ b)
lacks_front a b none ns small is =
    let s = numbers-split a b ns is in
    let e : sum ns ≡ sum s.0 + sum s.1 = ap sum s.4 ∙ sum-append s.0 s.1 in
    none s.0 (omega (arith, small, e)) s.2

pub lacks_behind : (a b : List (List ℕ)) → Lacks b → Lacks (a ++ b)
lacks_behind a b none ns small is =
    let s = numbers-split a b ns is in
    let e : sum ns ≡ sum s.0 + sum s.1 = ap sum s.4 ∙ sum-append s.0 s.1 in
    none s.1 (omega (arith, small, e)) s.3

-- Limits

within_is : (low high n : ℕ) → is_within low high n ≡ true → (low ≤ n) × (n ≤ high)
within_is low high n h = let both = and_parts (nat_le low n) (nat_le n high) h in (grind (arith, nat_tests, both.0), grind (arith, nat_tests, both.1))

within_from : (low high n : ℕ) → low ≤ n → n ≤ high → is_within low high n ≡ true
within_from low high n p q = and_from (nat_le low n) (nat_le n high) (grind (arith, nat_tests)) (grind (arith, nat_tests))

least_is : (n : ℕ) → nat_le 64 n ≡ true → 64 ≤ n
least_is n h = grind (arith, nat_tests)

least_from : (n : ℕ) → 64 ≤ n → nat_le 64 n ≡ true
least_from n h = grind (arith, nat_tests)

each_from : (volumes : List ℕ) → list_all (nat_le 64) volumes ≡ true → (i : ℕ) → i < length volumes → 64 ≤ get_or volumes i 0
each_from [] all i lt = absurd (omega arith)
each_from (n ∷ volumes) all zero lt = least_is n (and_parts (nat_le 64 n) (list_all (nat_le 64) volumes) all).0
each_from (n ∷ volumes) all (suc i) lt = each_from volumes (and_parts (nat_le 64 n) (list_all (nat_le 64) volumes) all).1 i (omega arith)

each_is : (volumes : List ℕ) → ((i : ℕ) → i < length volumes → 64 ≤ get_or volumes i 0) → list_all (nat_le 64) volumes ≡ true
each_is [] each = refl
each_is (n ∷ volumes) each = and_from (nat_le 64 n) (list_all (nat_le 64) volumes) (least_from n (each 0 (omega arith))) (each_is volumes (λ i lt. each (suc i) (omega arith)))

abbrev pub is_site : (birth log_pages : ℕ) → List ℕ → Bool
is_site birth log_pages volumes =
    is_within 1 (2 ^ 61 - 1) birth && is_within 4 65536 log_pages && is_within 1 8 (length volumes)
    && list_all (nat_le 64) volumes && is_within 512 65536 (sum volumes)

site_from : (birth log_pages : ℕ) (volumes : List ℕ) → is_site birth log_pages volumes ≡ true → IsSite (record { birth = birth; volumes = volumes; log_pages = log_pages })
site_from birth log_pages volumes h =
    let a = is_within 1 (2 ^ 61 - 1) birth in
    let b = is_within 4 65536 log_pages in
    let l = is_within 1 8 (length volumes) in
    let e = list_all (nat_le 64) volumes in
    let s = is_within 512 65536 (sum volumes) in
    let h1 = and_parts (a && b && l && e) s h in
    let h2 = and_parts (a && b && l) e h1.0 in
    let h3 = and_parts (a && b) l h2.0 in
    let h4 = and_parts a b h3.0 in
    let wa = within_is 1 (2 ^ 61 - 1) birth h4.0 in
    let wb = within_is 4 65536 log_pages h4.1 in
    let wl = within_is 1 8 (length volumes) h3.1 in
    let ws = within_is 512 65536 (sum volumes) h1.1 in
    record {
      low = wa.0;
      high = omega (arith, wa.1);
      volumes = record { some = wl.0; few = wl.1; each = each_from volumes h2.1; least = ws.0; most = ws.1 };
      least = wb.0;
      most = wb.1;
    }

site_is : (birth log_pages : ℕ) (volumes : List ℕ) → IsSite (record { birth = birth; volumes = volumes; log_pages = log_pages }) → is_site birth log_pages volumes ≡ true
site_is birth log_pages volumes site =
    let a = is_within 1 (2 ^ 61 - 1) birth in
    let b = is_within 4 65536 log_pages in
    let l = is_within 1 8 (length volumes) in
    let e = list_all (nat_le 64) volumes in
    let s = is_within 512 65536 (sum volumes) in
    and_from (a && b && l && e) s
    (and_from (a && b && l) e
    (and_from (a && b) l
    (and_from a b (within_from 1 (2 ^ 61 - 1) birth site.low (omega (arith, site.high))) (within_from 4 65536 log_pages site.least site.most))
    (within_from 1 8 (length volumes) site.volumes.some site.volumes.few))
    (each_is volumes site.volumes.each))
    (within_from 512 65536 (sum volumes) site.volumes.least site.volumes.most)

-- What is asked for

pub creates : (folder : List ℕ) (birth log_pages : ℕ) (volumes : List ℕ) → IsSite (record { birth = birth; volumes = volumes; log_pages = log_pages })
    → create_of folder (Some (birth ∷ log_pages ∷ volumes)) ≡ Some (Create folder birth log_pages volumes)
creates folder birth log_pages volumes site = rw (site_is birth log_pages volumes site) refl

-- no database, where the numbers are not within the limits
pub asks_none : (folder : List ℕ) (numbers : Option (List ℕ))
    → ((birth log_pages : ℕ) (volumes : List ℕ) → numbers ≡ Some (birth ∷ log_pages ∷ volumes) → IsSite (record { birth = birth; volumes = volumes; log_pages = log_pages }) → ⊥)
    → create_of folder numbers ≡ None
asks_none folder None none = refl
asks_none folder (Some []) none = refl
asks_none folder (Some (birth ∷ [])) none = refl
asks_none folder (Some (birth ∷ log_pages ∷ volumes)) none = by_test (is_site birth log_pages volumes) refl where
  by_test : (b : Bool) → is_site birth log_pages volumes ≡ b → create_of folder (Some (birth ∷ log_pages ∷ volumes)) ≡ None
  by_test true is = absurd (none birth log_pages volumes refl (site_from birth log_pages volumes is))
  by_test false is = rw is refl

-- so it is where one of the words is no number within its limits
pub asks_by_birth : (folder : List ℕ) (birth : Option ℕ) (rest : Option (List ℕ)) → ((n : ℕ) → n < 2 ^ 64 → birth ≢ Some n) → create_of folder (with_front birth rest) ≡ None
asks_by_birth folder birth rest none = asks_none folder (with_front birth rest) (λ b l v is site.
    let f = front_is birth rest (b ∷ l ∷ v) is in
    let e : b ≡ f.0 = cc (f.4) in
    none f.0 (omega (arith, e, site.high)) f.2)

pub asks_by_log : (folder : List ℕ) (birth log_pages : Option ℕ) (rest : Option (List ℕ)) → ((n : ℕ) → n < 2 ^ 32 → log_pages ≢ Some n)
    → create_of folder (with_front birth (with_front log_pages rest)) ≡ None
asks_by_log folder birth log_pages rest none = asks_none folder (with_front birth (with_front log_pages rest)) (λ b l v is site.
    let f = front_is birth (with_front log_pages rest) (b ∷ l ∷ v) is in
    let f2 = front_is log_pages rest f.1 f.3 in
    let e : l ≡ f2.0 = cc (f.4, f2.4) in
    none f2.0 (omega (arith, e, site.most)) f2.2)

pub asks_by_counts : (folder : List ℕ) (birth log_pages : Option ℕ) (counts : List (List ℕ)) → Lacks counts
    → create_of folder (with_front birth (with_front log_pages (numbers_of counts))) ≡ None
asks_by_counts folder birth log_pages counts none = asks_none folder (with_front birth (with_front log_pages (numbers_of counts))) (λ b l v is site.
    let f = front_is birth (with_front log_pages (numbers_of counts)) (b ∷ l ∷ v) is in
    let f2 = front_is log_pages (numbers_of counts) f.1 f.3 in
    let e : v ≡ f2.1 = cc (f.4, f2.4) in
    none f2.1 (subst (λ (w : List ℕ). sum w ≤ 65536) e site.volumes.most) f2.3)

pub asks_by_site : (folder : List ℕ) (birth log_pages : ℕ) (volumes : List ℕ) → (IsSite (record { birth = birth; volumes = volumes; log_pages = log_pages }) → ⊥)
    → create_of folder (Some (birth ∷ log_pages ∷ volumes)) ≡ None
asks_by_site folder birth log_pages volumes none = asks_none folder (Some (birth ∷ log_pages ∷ volumes)) (λ b l v is site.
    let e1 : birth ≡ b = cc in
    let e2 : log_pages ≡ l = cc in
    let e3 : volumes ≡ v = cc in
    none (subst (λ (n : ℕ). IsSite (record { birth = n; volumes = volumes; log_pages = log_pages })) (sym e1)
    (subst (λ (n : ℕ). IsSite (record { birth = b; volumes = volumes; log_pages = n })) (sym e2)
    (subst (λ (w : List ℕ). IsSite (record { birth = b; volumes = w; log_pages = l })) (sym e3) site))))
