-- The pages that a view shows.
use Rattle.std.proofs.Common.{◌≡◌, ◌≢◌, inl, inr, ℕ, zero, suc, ◌+◌, ◌<◌, ◌≤◌, List, [], length, Bool, true, false, cond, ◌&&◌, ◌||◌, not, Option, Some, None, refl, ap, sym, subst, ◌∙◌, arith, eq-eqb}
use Rattle.std.specs.Prelude.{is_some, nat_lt, if◌then◌else◌}
use Rattle.std.specs.Ordering.{nat_cmp, eq_by_cmp}
use Rattle.std.specs.Cmp.{unsigned_tied}
use Rattle.std.proofs.lemmas.Cmp.{nat_cmp_total}
use Rattle.std.specs.FinMap.{get, insert, remove, same_map, get-insert, get-remove, get-empty, nat_cmp-IsAntisymmetric}
use Rattle.std.specs.FinSet as set
use Rattle.std.proofs.lemmas.Bool.{cases_eq, cases_lt, false≢true, lt-ltb, ne_eqb, false_from_ne_true, and_from, and_parts, not_from_false, not-true, both_ways}
use Rattle.std.proofs.lemmas.List.{get_or_past}
use Rattle.mdb_model.specs.Images.{Image}
use Rattle.mdb_host.specs.Disk.{Agree}
use Rattle.mdb_host.proofs.Moments.{same_image}
use Rattle.mdb_bytes.specs.Paged.{PageBytes, PaidPages, is_live, AsLive, is_paid, price, KeepsAllPages, WritesPage, IsNew}
use Rattle.mdb_bytes.specs.declared.converter_pages.ConverterEntry.{ConverterEntry}
use Rattle.mdb_bytes.specs.Firsts.{no_entry}
use Rattle.free_blocks.specs.Free.{free_count}
use Rattle.converter.specs.Maps.{IsSoundMaps}
use Rattle.page_store.specs.Store.{Store, block_count, page_block, block_bytes, IsHeld, IsKnown, spare_of}
use Rattle.page_store.specs.LogicalPages.{live_pages_below, store_pages, lives_in, is_held, is_owned, numbers_below, paid_pages}
use Rattle.page_store.specs.Steps.{OnePage}
use Rattle.page_store.proofs.Answering.{held_true, held_some}
use Rattle.page_store.proofs.PageSteps.{other_block, held_back}
use Rattle.page_store.proofs.Spares.{spare_less, some_free}

-- a key is the one that was set, or another
at_key : (k q : ℕ) → q ≡ k → eq_by_cmp nat_cmp q k ≡ true
at_key k q is = unsigned_tied q k ∙ eq-eqb q k is

off_key : (k q : ℕ) → q ≢ k → eq_by_cmp nat_cmp q k ≡ false
off_key k q is = unsigned_tied q k ∙ ne_eqb q k is

pub get_here : (m : PageBytes) (k : ℕ) (v : List ℕ) (q : ℕ) → q ≡ k → get (insert m k v) q ≡ Some v
get_here m k v q is = get-insert nat_cmp_total m k v q ∙ ap (λ (t : Bool). cond t (Some v) (get m q)) (at_key k q is)

pub get_off : (m : PageBytes) (k : ℕ) (v : List ℕ) (q : ℕ) → q ≢ k → get (insert m k v) q ≡ get m q
get_off m k v q is = get-insert nat_cmp_total m k v q ∙ ap (λ (t : Bool). cond t (Some v) (get m q)) (off_key k q is)

pub gone_at : (m : PageBytes) (k q : ℕ) → q ≡ k → get (remove m k) q ≡ None
gone_at m k q is = get-remove nat_cmp_total m k q ∙ ap (λ (t : Bool). cond t None (get m q)) (at_key k q is)

pub gone_off : (m : PageBytes) (k q : ℕ) → q ≢ k → get (remove m k) q ≡ get m q
gone_off m k q is = get-remove nat_cmp_total m k q ∙ ap (λ (t : Bool). cond t None (get m q)) (off_key k q is)

-- the page of a table
abbrev page_or : (lives : ℕ → Bool) (bytes : ℕ → List ℕ) → ℕ → Option (List ℕ)
page_or lives bytes q = if lives q then Some (bytes q) else None

get_below : (lives : ℕ → Bool) (bytes : ℕ → List ℕ) (n q : ℕ) → (q < n → get (live_pages_below lives bytes n) q ≡ page_or lives bytes q) × (n ≤ q → get (live_pages_below lives bytes n) q ≡ None)
get_below lives bytes zero q = (λ lt. absurd (omega arith), λ le. get-empty nat_cmp q)
get_below lives bytes (suc n) q =
    let before = get_below lives bytes n q in
    elim (lives n) as (λ t. lives n ≡ t → (q < suc n → get (if t then insert (live_pages_below lives bytes n) n (bytes n) else live_pages_below lives bytes n) q ≡ page_or lives bytes q) × (suc n ≤ q → get (if t then insert (live_pages_below lives bytes n) n (bytes n) else live_pages_below lives bytes n) q ≡ None)) [
      | true ↦ λ live. (
        λ lt. elim (cases_eq q n) [
          | inl is ↦ get_here (live_pages_below lives bytes n) n (bytes n) q is ∙ sym (ap (page_or lives bytes) is ∙ ap (λ (t : Bool). if t then Some (bytes n) else None) live)
          | inr other ↦ get_off (live_pages_below lives bytes n) n (bytes n) q other ∙ before.0 (omega (arith, lt, other))
        ],
        λ le. get_off (live_pages_below lives bytes n) n (bytes n) q (λ is. omega (arith, is, le)) ∙ before.1 (omega (arith, le)),
      )
      | false ↦ λ dead. (
        λ lt. elim (cases_eq q n) [
          | inl is ↦ before.1 (omega (arith, is)) ∙ sym (ap (page_or lives bytes) is ∙ ap (λ (t : Bool). if t then Some (bytes n) else None) dead)
          | inr other ↦ before.0 (omega (arith, lt, other))
        ],
        λ le. before.1 (omega (arith, le)),
      )
    ] refl

-- the pages past the area are dead
pub past_dead : (s : Store) (p : ℕ) → IsSoundMaps s.maps → block_count s ≤ p → page_block s p ≡ 0
past_dead s p sound le = ap (λ (e : ConverterEntry). e.block) (get_or_past s.maps.present (s.maps.conv + p) no_entry (omega (arith, sound.present_long, le)))

pub live_true : (s : Store) (p : ℕ) → 0 < page_block s p → lives_in s p ≡ true
live_true s p lives = lt-ltb 0 (page_block s p) lives

zero_is : (n : ℕ) → n ≤ 0 → n ≡ 0
zero_is n le = omega (arith, le)

pub live_is : (s : Store) (p : ℕ) → lives_in s p ≡ true → 0 < page_block s p
live_is s p lives = elim (cases_lt 0 (page_block s p)) [
  | inl lt ↦ lt
  | inr none ↦ absurd (false≢true (sym (ap (nat_lt 0) (zero_is (page_block s p) none)) ∙ lives))
]

pub dead_false : (s : Store) (p : ℕ) → page_block s p ≡ 0 → lives_in s p ≡ false
dead_false s p none = ap (nat_lt 0) none

abbrev pub shows : Store → Image → ℕ → Option (List ℕ)
shows s seen p = page_or (lives_in s) (λ page. block_bytes s seen (page_block s page)) p

-- a page of the map
pub get_page : (s : Store) (seen : Image) (p : ℕ) → IsSoundMaps s.maps → get (store_pages s seen) p ≡ shows s seen p
get_page s seen p sound =
    let below = get_below (lives_in s) (λ page. block_bytes s seen (page_block s page)) (block_count s) p in
    elim (cases_lt p (block_count s)) [
      | inl lt ↦ below.0 lt
      | inr past ↦ below.1 past ∙ sym (ap (λ (t : Bool). if t then Some (block_bytes s seen (page_block s p)) else None) (dead_false s p (past_dead s p sound past)))
    ]

some_if : (t : Bool) (x : List ℕ) → is_some (if t then Some x else None) ≡ t
some_if true x = refl
some_if false x = refl

pub live_page : (s : Store) (seen : Image) (p : ℕ) → IsSoundMaps s.maps → is_live (store_pages s seen) p ≡ lives_in s p
live_page s seen p sound = ap is_some (get_page s seen p sound) ∙ some_if (lives_in s p) (block_bytes s seen (page_block s p))

-- the page is one of those that pass
paid_below : (test : ℕ → Bool) (n q : ℕ) → (q < n → set.contains (numbers_below test n) q ≡ test q) × (n ≤ q → set.contains (numbers_below test n) q ≡ false)
paid_below test zero q = (λ lt. absurd (omega arith), λ le. set.contains-empty nat_cmp q)
paid_below test (suc n) q =
    let before = paid_below test n q in
    elim (test n) as (λ t. test n ≡ t → (q < suc n → set.contains (if t then set.insert (numbers_below test n) n else numbers_below test n) q ≡ test q) × (suc n ≤ q → set.contains (if t then set.insert (numbers_below test n) n else numbers_below test n) q ≡ false)) [
      | true ↦ λ on. (
        λ lt. elim (cases_eq q n) [
          | inl is ↦ set.contains-insert nat_cmp_total (numbers_below test n) n q ∙ ap (λ (t : Bool). t || set.contains (numbers_below test n) q) (at_key n q is) ∙ sym (ap test is ∙ on)
          | inr other ↦ set.contains-insert nat_cmp_total (numbers_below test n) n q ∙ ap (λ (t : Bool). t || set.contains (numbers_below test n) q) (off_key n q other) ∙ before.0 (omega (arith, lt, other))
        ],
        λ le. set.contains-insert nat_cmp_total (numbers_below test n) n q ∙ ap (λ (t : Bool). t || set.contains (numbers_below test n) q) (off_key n q (λ is. omega (arith, is, le))) ∙ before.1 (omega (arith, le)),
      )
      | false ↦ λ off. (
        λ lt. elim (cases_eq q n) [
          | inl is ↦ before.1 (omega (arith, is)) ∙ sym (ap test is ∙ off)
          | inr other ↦ before.0 (omega (arith, lt, other))
        ],
        λ le. before.1 (omega (arith, le)),
      )
    ] refl

pub paid_page : (s : Store) (p : ℕ) → IsSoundMaps s.maps → is_paid (paid_pages s) p ≡ is_owned s p
paid_page s p sound =
    let below = paid_below (is_owned s) (block_count s) p in
    elim (cases_lt p (block_count s)) [
      | inl lt ↦ below.0 lt
      | inr past ↦ below.1 past ∙ sym (ap (λ (t : Bool). t && not (is_held s (page_block s p))) (dead_false s p (past_dead s p sound past)))
    ]

pub owned_true : (s : Store) (p : ℕ) → 0 < page_block s p → (IsHeld s (page_block s p) → ⊥) → is_owned s p ≡ true
owned_true s p lives owned =
    and_from _ _ (live_true s p lives) (not_from_false _ (false_from_ne_true (is_held s (page_block s p)) (λ held. owned (held_some s (page_block s p) held))))

pub owned_is : (s : Store) (p : ℕ) → is_owned s p ≡ true → (0 < page_block s p) × (IsHeld s (page_block s p) → ⊥)
owned_is s p is =
    let both = and_parts (lives_in s p) (not (is_held s (page_block s p))) is in
    let lives = live_is s p both.0 in
    (lives, λ held. both_ways _ (not-true _ both.1) (held_true s (page_block s p) lives held))

-- the price of a page whose block is kept, and of one whose block is not
pub price_held : (s : Store) (p : ℕ) → IsSoundMaps s.maps → 0 < page_block s p → IsHeld s (page_block s p) → price (paid_pages s) p ≡ 1
price_held s p sound lives held = ap (λ (t : Bool). if t then 0 else 1) (paid_page s p sound ∙ false_from_ne_true (is_owned s p) (λ owned. (owned_is s p owned).1 held))

pub price_any : (paid : PaidPages) (p : ℕ) → price paid p ≤ 1
price_any paid p = elim (is_paid paid p) as (λ t. (if t then 0 else 1) ≤ 1) [ true ↦ omega arith | false ↦ omega arith ]

pub price_owned : (s : Store) (p : ℕ) → IsSoundMaps s.maps → 0 < page_block s p → (IsHeld s (page_block s p) → ⊥) → price (paid_pages s) p ≡ 0
price_owned s p sound lives owned = ap (λ (t : Bool). if t then 0 else 1) (paid_page s p sound ∙ owned_true s p lives owned)

-- What a step of one page leaves

module _ (T : Type 0) (a b : Store) (page : ℕ) (seen seen2 : Image) (agree : T → Agree seen seen2) (sa : IsSoundMaps a.maps) (sb : IsSoundMaps b.maps) (one : OnePage T a b page seen) where
  pub still_known : IsKnown T a seen → IsKnown T b seen2
  still_known known = subst (λ (x : Image). IsKnown T b x) (same_image seen seen2 (agree known.told)) (one.known known)

  same_seen : IsKnown T a seen → seen2 ≡ seen
  same_seen known = sym (same_image seen seen2 (agree known.told))

  pub other_lives : (p : ℕ) → p ≢ page → lives_in b p ≡ lives_in a p
  other_lives p away = ap (nat_lt 0) (other_block one p away)

  -- another page shows what it did
  pub other_shows : IsKnown T a seen → (p : ℕ) → p ≢ page → get (store_pages b seen2) p ≡ get (store_pages a seen) p
  other_shows known p away =
      get_page b seen2 p sb
      ∙ ap (λ (x : Image). shows b x p) (same_seen known)
      ∙ ap (λ (t : Bool). if t then Some (block_bytes b seen (page_block b p)) else None) (other_lives p away)
      ∙ elim (lives_in a p) as (λ t. lives_in a p ≡ t → (if t then Some (block_bytes b seen (page_block b p)) else None) ≡ (if t then Some (block_bytes a seen (page_block a p)) else None)) [
        | true ↦ λ lives. ap Some (ap (block_bytes b seen) (other_block one p away) ∙ one.elsewhere known (page_block a p) (live_is a p lives, inr (p, away, refl)))
        | false ↦ λ dead. refl
      ] refl
      ∙ sym (get_page a seen p sa)

  pub other_paid : (p : ℕ) → p ≢ page → is_paid (paid_pages a) p ≡ true → is_paid (paid_pages b) p ≡ true
  other_paid p away paid =
      let was = owned_is a p (sym (paid_page a p sa) ∙ paid) in
      paid_page b p sb ∙ owned_true b p (omega (arith, other_block one p away, was.0))
      (λ held. was.1 (subst (λ (x : ℕ). IsHeld a x) (other_block one p away) (held_back a b (page_block b p) one.keeps held)))

  pub all_live : lives_in b page ≡ lives_in a page → AsLive (store_pages b seen2) (store_pages a seen)
  all_live same p = live_page b seen2 p sb ∙ elim (cases_eq p page) [
    | inl is ↦ ap (lives_in b) is ∙ same ∙ ap (lives_in a) (sym is)
    | inr away ↦ other_lives p away
  ] ∙ sym (live_page a seen p sa)

  -- where the page is as it was
  pub view_kept : (most : ℕ) → lives_in b page ≡ lives_in a page → (IsKnown T a seen → get (store_pages b seen2) page ≡ get (store_pages a seen) page)
      → (is_paid (paid_pages a) page ≡ true → is_paid (paid_pages b) page ≡ true) → free_count a.free ≤ free_count b.free + most
      → KeepsAllPages (IsKnown T a seen) (IsKnown T b seen2) most (store_pages a seen) (store_pages b seen2) (paid_pages a) (paid_pages b) (spare_of a) (spare_of b)
  view_kept most same shown paid less = record {
    same = λ known. (
      still_known known,
      same_map nat_cmp_total nat_cmp-IsAntisymmetric (store_pages b seen2) (store_pages a seen) (λ p. elim (cases_eq p page) [
        | inl is ↦ subst (λ (x : ℕ). get (store_pages b seen2) x ≡ get (store_pages a seen) x) (sym is) (shown known)
        | inr away ↦ other_shows known p away
      ]),
    );
    living = all_live same;
    stay_paid = λ p is. elim (cases_eq p page) [
      | inl at ↦ subst (λ (x : ℕ). is_paid (paid_pages b) x ≡ true) (sym at) (paid (subst (λ (x : ℕ). is_paid (paid_pages a) x ≡ true) at is))
      | inr away ↦ other_paid p away is
    ];
    left = spare_less a b most one.keeps less;
  }

  -- where the page has other bytes
  pub inserted : (bytes : List ℕ) → 0 < page_block b page → IsKnown T a seen → block_bytes b seen (page_block b page) ≡ bytes → store_pages b seen2 ≡ insert (store_pages a seen) page bytes
  inserted bytes lives known is = same_map nat_cmp_total nat_cmp-IsAntisymmetric (store_pages b seen2) (insert (store_pages a seen) page bytes) (λ p. elim (cases_eq p page) [
    | inl at ↦
        get_page b seen2 p sb ∙ ap (shows b seen2) at
        ∙ ap (λ (t : Bool). if t then Some (block_bytes b seen2 (page_block b page)) else None) (live_true b page lives)
        ∙ ap (λ (x : Image). Some (block_bytes b x (page_block b page))) (same_seen known) ∙ ap Some is ∙ sym (get_here (store_pages a seen) page bytes p at)
    | inr away ↦ other_shows known p away ∙ sym (get_off (store_pages a seen) page bytes p away)
  ])

  pub view_written : (bytes : List ℕ) → 0 < page_block a page → 0 < page_block b page → (IsHeld b (page_block b page) → ⊥) → block_bytes b seen (page_block b page) ≡ bytes
      → free_count a.free ≤ free_count b.free + price (paid_pages a) page
      → WritesPage page bytes (IsKnown T a seen) (IsKnown T b seen2) (store_pages a seen) (store_pages b seen2) (paid_pages a) (paid_pages b) (spare_of a) (spare_of b)
  view_written bytes was lives owned is less =
      let now_paid = paid_page b page sb ∙ owned_true b page lives owned in
      record {
        written = λ known. (still_known known, inserted bytes lives known is);
        living = all_live (live_true b page lives ∙ sym (live_true a page was));
        stay_paid = λ p paid. elim (cases_eq p page) [
          | inl at ↦ subst (λ (x : ℕ). is_paid (paid_pages b) x ≡ true) (sym at) now_paid
          | inr away ↦ other_paid p away paid
        ];
        is_paid_now = now_paid;
        left = spare_less a b (price (paid_pages a) page) one.keeps less;
      }

  pub view_new : (bytes : List ℕ) → page ≤ 65535 → page_block a page ≡ 0 → 0 < page_block b page → (IsHeld b (page_block b page) → ⊥) → block_bytes b seen (page_block b page) ≡ bytes → length bytes ≡ 8192
      → IsNew page (IsKnown T a seen) (IsKnown T b seen2) (store_pages a seen) (store_pages b seen2) (paid_pages a) (paid_pages b)
  view_new bytes small dead lives owned is long =
      let now_paid = paid_page b page sb ∙ owned_true b page lives owned in
      record {
        small = small;
        fresh = live_page a seen page sa ∙ dead_false a page dead;
        added = λ known. (still_known known, (bytes, long, inserted bytes lives known is));
        living = λ p. elim (cases_eq p page) [
          | inl at ↦ live_page b seen2 p sb ∙ ap (lives_in b) at ∙ live_true b page lives ∙ sym (ap is_some (get_here (store_pages a seen) page [] p at))
          | inr away ↦ live_page b seen2 p sb ∙ other_lives p away ∙ sym (live_page a seen p sa) ∙ sym (ap is_some (get_off (store_pages a seen) page [] p away))
        ];
        stay_paid = λ p paid. elim (cases_eq p page) [
          | inl at ↦ subst (λ (x : ℕ). is_paid (paid_pages b) x ≡ true) (sym at) now_paid
          | inr away ↦ other_paid p away paid
        ];
        is_paid_now = now_paid;
      }

  -- where the page is gone
  pub removed : IsKnown T a seen → page_block b page ≡ 0 → store_pages b seen2 ≡ remove (store_pages a seen) page
  removed known gone = same_map nat_cmp_total nat_cmp-IsAntisymmetric (store_pages b seen2) (remove (store_pages a seen) page) (λ p. elim (cases_eq p page) [
    | inl at ↦
        get_page b seen2 p sb ∙ ap (shows b seen2) at
        ∙ ap (λ (t : Bool). if t then Some (block_bytes b seen2 (page_block b page)) else None) (dead_false b page gone)
        ∙ sym (gone_at (store_pages a seen) page p at)
    | inr away ↦ other_shows known p away ∙ sym (gone_off (store_pages a seen) page p away)
  ])

  pub live_but : page_block b page ≡ 0 → AsLive (store_pages b seen2) (remove (store_pages a seen) page)
  live_but gone p = elim (cases_eq p page) [
    | inl at ↦ live_page b seen2 p sb ∙ ap (lives_in b) at ∙ dead_false b page gone ∙ sym (ap is_some (gone_at (store_pages a seen) page p at))
    | inr away ↦ live_page b seen2 p sb ∙ other_lives p away ∙ sym (live_page a seen p sa) ∙ sym (ap is_some (gone_off (store_pages a seen) page p away))
  ]

-- What a caller's condition says

pub live_needs : (s : Store) (seen : Image) (p : ℕ) → is_live (store_pages s seen) p ≡ true → (0 < page_block s p) × (p < block_count s)
live_needs s seen p live =
    let below = get_below (lives_in s) (λ page. block_bytes s seen (page_block s page)) (block_count s) p in
    elim (cases_lt p (block_count s)) [
      | inl lt ↦ (live_is s p (sym (some_if (lives_in s p) (block_bytes s seen (page_block s p))) ∙ ap is_some (sym (below.0 lt)) ∙ live), lt)
      | inr past ↦ absurd (false≢true (ap is_some (sym (below.1 past)) ∙ live))
    ]

pub price_in : (s : Store) (p : ℕ) → p < block_count s → 0 < page_block s p → IsHeld s (page_block s p) → price (paid_pages s) p ≡ 1
price_in s p lt lives held = ap (λ (t : Bool). if t then 0 else 1) ((paid_below (is_owned s) (block_count s) p).0 lt ∙ false_from_ne_true (is_owned s p) (λ owned. (owned_is s p owned).1 held))

-- some block is free where the price of a kept page can be paid
pub spare_for : (s : Store) (seen : Image) (page : ℕ) → is_live (store_pages s seen) page ≡ true → price (paid_pages s) page ≤ spare_of s → IsHeld s (page_block s page) → 0 < free_count s.free
spare_for s seen page live room held =
    let at = live_needs s seen page live in
    omega (arith, some_free s (omega (arith, room, price_in s page at.1 at.0 held)))

pub lives_test : (s : Store) (seen : Image) (p : ℕ) (t : Bool) → IsSoundMaps s.maps → (t ≡ true → 0 < page_block s p) → (0 < page_block s p → t ≡ true) → t ≡ is_live (store_pages s seen) p
lives_test s seen p true sound there back = sym (live_page s seen p sound ∙ live_true s p (there refl))
lives_test s seen p false sound there back = sym (live_page s seen p sound ∙ false_from_ne_true (lives_in s p) (λ lives. false≢true (back (live_is s p lives))))
