-- Readers of one log, one after the other.
--     reads_itself, reads_further      nothing was read; read twice
--     less_left      no more is left to be read
use Rattle.std.proofs.Common.{ℕ, ◌+◌, ◌-◌, ◌≤◌, refl, ◌∙◌, subst, sym}
use Rattle.std.proofs.Math.Nat.{le_refl, le_trans, sub-le-sub_left}
use Rattle.mdb_model.specs.Images.{Image}
use Rattle.redo_ring.specs.declared.reader.RingReader.{RingReader}
use Rattle.page_ground.specs.LogKnown.{ReadsOn}

pub reads_itself : (tells : Type 0) (reader : RingReader) (seen : Image)
    → ReadsOn tells reader reader seen seen
reads_itself tells reader seen = record {
  name = refl;
  size = refl;
  start = refl;
  on = le_refl reader.position;
  known = λ known. known;
  ends = λ known. refl;
  count = λ known. refl;
}

pub reads_further : (tells : Type 0) (a b c : RingReader) (x y z : Image) → ReadsOn tells a b x y
    → ReadsOn tells b c y z → ReadsOn tells a c x z
reads_further tells a b c x y z one two = record {
  name = two.name ∙ one.name;
  size = two.size ∙ one.size;
  start = two.start ∙ one.start;
  on = le_trans one.on two.on;
  known = λ known. two.known (one.known known);
  ends = λ known. two.ends (one.known known) ∙ one.ends known;
  count = λ known. two.count (one.known known) ∙ one.count known;
}

pub less_left : {tells : Type 0} {a b : RingReader} {x y : Image} → ReadsOn tells a b x y
    → (b.start + b.size) - b.position ≤ (a.start + a.size) - a.position
less_left {a = a} {b = b} reads =
    subst (λ (end : ℕ). end - b.position ≤ (a.start + a.size) - a.position)
    (sym (λ i. reads.start i + reads.size i)) (sub-le-sub_left reads.on (a.start + a.size))
