-- The first pages, written one by one.
--     write_more      one block more
--     written_more      it has its bytes, and the others have theirs
--     pages_kept      and keep them
use Rattle.std.proofs.Common.{◌≡◌, inl, inr, sym, ap, subst, ◌∙◌, ℕ, ◌+◌, ◌<◌, ◌≤◌, List, sum, arith}
use Rattle.std.proofs.lemmas.Bool.{cases_lt}
use Rattle.mdb_model.specs.Images.{Image}
use Rattle.mdb_host.specs.Disk.{Disk, Goes, Agree}
use Rattle.mdb_host.proofs.Moments.{onward, widen, calmly, same_image}
use Rattle.mdb_bytes.specs.Firsts.{first_block}
use Rattle.volume_disk.specs.Blocks.{block_at, Writes, IsDurable}
use Rattle.volume_disk.proofs.Writes.{writes_on, writes_more, writes_agree}
use Rattle.creation.specs.Making.{Each, HasFirstPages}

-- one block more
pub write_more : (d0 d1 d2 : Disk) (volumes : List ℕ) (block : ℕ) → 2 ≤ block → Goes d0 d1 (Writes volumes (λ b. 2 ≤ b)) → Goes d1 d2 (Writes volumes (λ b. b ≡ block)) → Goes d0 d2 (Writes volumes (λ b. 2 ≤ b))
write_more d0 d1 d2 volumes block low one two =
    onward d0 d1 d2 (Writes volumes (λ b. 2 ≤ b)) (writes_on volumes (λ b. 2 ≤ b)) one
    (widen d1 d2 (Writes volumes (λ b. b ≡ block)) (Writes volumes (λ b. 2 ≤ b)) two (λ a b left step. writes_more volumes (λ c. c ≡ block) (λ c. 2 ≤ c) a b (λ k is. omega (arith, is, low)) step))

pub seen_more : (a b c : Image) (volumes : List ℕ) (block : ℕ) → 2 ≤ block → Writes volumes (λ b. 2 ≤ b) a b → Writes volumes (λ b. b ≡ block) b c → Writes volumes (λ b. 2 ≤ b) a c
seen_more a b c volumes block low one two =
    writes_on volumes (λ k. 2 ≤ k) a b c one (writes_more volumes (λ k. k ≡ block) (λ k. 2 ≤ k) b c (λ k is. omega (arith, is, low)) two)

-- it has its bytes, and the others have theirs
pub written_more : (a b : Image) (volumes : List ℕ) (blocks block : ℕ) (bytes : List ℕ) → blocks ≡ sum volumes → block < sum volumes → Writes volumes (λ k. k ≡ block) a b → block_at volumes b block ≡ bytes → bytes ≡ first_block blocks block
    → ((k : ℕ) → 2 ≤ k → k < block → block_at volumes a k ≡ first_block (sum volumes) k) → (k : ℕ) → 2 ≤ k → k < block + 1 → block_at volumes b k ≡ first_block (sum volumes) k
written_more a b volumes blocks block bytes counted inside writes has are before k low small = elim (cases_lt k block) [
  | inl less ↦ writes.outside k (omega (arith, less, inside)) (λ is. absurd (omega (arith, is, less))) ∙ before k low less
  | inr more ↦
      let here : block ≡ k = omega (arith, more, small) in
      subst (λ (n : ℕ). block_at volumes b n ≡ first_block (sum volumes) n) here (has ∙ are ∙ ap (λ (n : ℕ). first_block n block) counted)
]

-- over a sync
pub synced_goes : (d0 d1 d2 : Disk) (volumes : List ℕ) → Goes d0 d1 (Writes volumes (λ b. 2 ≤ b)) → Goes d1 d2 Agree → Goes d0 d2 (Writes volumes (λ b. 2 ≤ b))
synced_goes d0 d1 d2 volumes one two =
    calmly d0 d1 d2 (Writes volumes (λ b. 2 ≤ b)) (λ a b c step same. writes_on volumes (λ k. 2 ≤ k) a b c step (writes_agree volumes (λ k. 2 ≤ k) b c same)) one two

-- each image keeps them
pub pages_kept : (volumes : List ℕ) (d1 d2 : Disk) → 512 ≤ sum volumes → Agree d1.seen d2.seen → HasFirstPages volumes d1.seen → IsDurable volumes d2 → Each d2 (HasFirstPages volumes)
pages_kept volumes d1 d2 least same pages settled image left block low high =
    settled image left block (omega (arith, high, least))
    ∙ ap (λ (i : Image). block_at volumes i block) (sym (same_image d1.seen d2.seen same)) ∙ pages block low high
