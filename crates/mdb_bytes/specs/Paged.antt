-- What the pages of a store are, and what the calls on them leave.
--     PageBytes      the bytes of each live page
--     is_live, AsLive      whether a page lives; the same pages live
--     PaidPages, is_paid, price, StayPaid      the pages to which a write needs no new block
--     KeepsAllPages      what a call leaves that writes no page
--     WritesPage      what a page leaves that was lent to be written
--     IsNew      what a new page leaves
--     AreEdited      what an edit of two pages leaves
--     MayEdit      an edit is fit for the bytes of two pages
use Rattle.std.specs.Prelude.{◌≡◌, ℕ, ◌+◌, ◌≤◌, List, [], Bool, true, false, Some, is_some, if◌then◌else◌, length}
use Rattle.std.specs.Ordering.{nat_cmp}
use Rattle.std.specs.FinMap.{FinMap, get, insert}
use Rattle.std.specs.FinSet.{FinSet, contains}

-- the bytes of each live page, by its number. Where bytes are not known, it says no more than which
-- pages live
abbrev pub PageBytes : Type 0
PageBytes = FinMap nat_cmp (List ℕ)

abbrev pub is_live : PageBytes → ℕ → Bool
is_live pages page = is_some (get pages page)

-- the same pages live in both
abbrev pub AsLive : PageBytes → PageBytes → Type 0
AsLive a b = (page : ℕ) → is_live a page ≡ is_live b page

abbrev pub PaidPages : Type 0
PaidPages = FinSet nat_cmp

abbrev pub is_paid : PaidPages → ℕ → Bool
is_paid paid page = contains paid page

-- how many spare pages a write to a page may take
abbrev pub price : PaidPages → ℕ → ℕ
price paid page = if is_paid paid page then 0 else 1

abbrev pub StayPaid : PaidPages → PaidPages → Type 0
StayPaid old new = (page : ℕ) → is_paid old page ≡ true → is_paid new page ≡ true

-- The pages are as they were where their bytes were known, the same pages live, and paid ones stay
-- paid. At most so many spare pages are taken.
pub record KeepsAllPages (known known2 : Type 0) (most : ℕ) (pages pages2 : PageBytes)
    (paid paid2 : PaidPages) (spare spare2 : ℕ) : Type 0 where
  pub same : known → known2 × (pages2 ≡ pages)
  pub living : AsLive pages2 pages
  pub stay_paid : StayPaid paid paid2
  pub left : spare ≤ spare2 + most

-- One page has these bytes where the bytes were known, and every other is as it was. The same pages
-- live, paid ones stay paid, and this one is. A spare page is taken at most where it was not paid.
pub record WritesPage (page : ℕ) (bytes : List ℕ) (known known2 : Type 0) (pages pages2 : PageBytes)
    (paid paid2 : PaidPages) (spare spare2 : ℕ) : Type 0 where
  pub written : known → known2 × (pages2 ≡ insert pages page bytes)
  pub living : AsLive pages2 pages
  pub stay_paid : StayPaid paid paid2
  pub is_paid_now : is_paid paid2 page ≡ true
  pub left : spare ≤ spare2 + price paid page

-- A page lives that did not, with some bytes, and is paid. Every other is as it was.
pub record IsNew (page : ℕ) (known known2 : Type 0) (pages pages2 : PageBytes)
    (paid paid2 : PaidPages) : Type 0 where
  pub small : page ≤ 65535
  pub fresh : is_live pages page ≡ false
  pub added : known → known2 × ((bytes : List ℕ) × (length bytes ≡ 8192)
      × (pages2 ≡ insert pages page bytes))
  pub living : AsLive pages2 (insert pages page [])
  pub stay_paid : StayPaid paid paid2
  pub is_paid_now : is_paid paid2 page ≡ true

-- whatever the bytes of the two pages can be: those of the map where they are known, and else any
abbrev pub MayEdit : (known : Type 0) → PageBytes → (a b : ℕ) → (may : List ℕ → List ℕ → Type 0)
    → Type 0
MayEdit known pages a b may =
    (x y : List ℕ) → length x ≡ 8192 → length y ≡ 8192
    → (known → (get pages a ≡ Some x) × (get pages b ≡ Some y))
    → may x y

-- The two pages have what the edit makes of their bytes where these were known, and every other is
-- as it was. The same pages live.
pub record AreEdited (does : List ℕ → List ℕ → List ℕ → List ℕ
    → Type 0) (a b : ℕ) (known known2 : Type 0) (pages pages2 : PageBytes) (paid paid2 : PaidPages)
    : Type 0 where
  pub edited :
      known
      → known2
      × ((x y x2 y2 : List ℕ)
      × (get pages a ≡ Some x)
      × (get pages b ≡ Some y)
      × does x y x2 y2
      × (pages2 ≡ insert (insert pages a x2) b y2))
  pub living : AsLive pages2 pages
  pub are_paid : (is_paid paid2 a ≡ true) × (is_paid paid2 b ≡ true)
