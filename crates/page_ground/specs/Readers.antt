-- That a reader is in order has one proof.
--     ring_size_prop, reader_prop      of a ring's size; of a reader
use Rattle.std.proofs.Common.{◌≡◌, ℕ, ◌*◌, ◌≤◌, subst, arith}
use Rattle.std.proofs.Math.Nat.{ℕ_set}
use Rattle.std.specs.Coded.{le_prop}
use Rattle.mdb_bytes.specs.Rings.{IsRingSize}
use Rattle.redo_ring.specs.declared.reader.RingReader.{RingReader}
use Rattle.redo_ring.specs.Reading.{IsReader}

-- the same pages, with other proofs
same_pages : (size : ℕ) (a : IsRingSize size) (pages : ℕ) → a.pages ≡ pages
    → (is : size ≡ pages * 8192) (least : 2 ≤ pages) (most : pages ≤ 65534)
    → a ≡ record { pages = pages; is = is; least = least; most = most }
same_pages size a pages same =
    subst
    (λ (n : ℕ). (is : size ≡ n * 8192) (least : 2 ≤ n) (most : n ≤ 65534)
    → a ≡ record { pages = n; is = is; least = least; most = most }) same
    (λ is least most i.
    record {
      pages = a.pages;
      is = ℕ_set size (a.pages * 8192) a.is is i;
      least = le_prop a.least least i;
      most = le_prop a.most most i;
    })

pub ring_size_prop : (size : ℕ) → IsProp (IsRingSize size)
ring_size_prop size a b =
    same_pages size a b.pages (omega (arith, a.is, b.is)) b.is b.least b.most

pub reader_prop : (reader : RingReader) → IsProp (IsReader reader)
reader_prop reader a b = λ i. record {
  size = ring_size_prop reader.size a.size b.size i;
  from = le_prop a.from b.from i;
  upto = le_prop a.upto b.upto i;
  low = le_prop a.low b.low i;
  count = le_prop a.count b.count i;
}
