use Rattle.std.proofs.Common.{◌≡◌, ◌+◌, ◌++◌, ◌∙◌, List, ℕ, ap, length, take, arith}
use Rattle.log_backup.proofs.Pages.{packs_more}
use Rattle.log_backup.proofs.packing.Packing.put_some.Goals as goal

pub returns-clause-packs : goal.returns-clause-packs
returns-clause-packs g c told before packs =
    let count = c.min-count.result in
    let first = c.split_at.result.0.now in
    let long : count ≡ length first = omega (arith, c.split_at.ensures.front_len, c.min-count.ensures) in
    let put : take (c.args.self.now.used + count) c.put_at.new.page ≡ take c.args.self.now.used c.args.page.now ++ take count c.args.bytes.now =
    ap (λ (n : ℕ). take (c.args.self.now.used + n) c.put_at.new.page) long ∙ c.put_at.ensures ∙ ap (λ (l : List ℕ). take c.args.self.now.used c.args.page.now ++ l) c.split_at.ensures.front in
    c.in_ok-append_full.ensures.packs told _ (packs_more c.args.self.now (c.args.self.now.used + count) c.args.page.now c.put_at.new.page before (take count c.args.bytes.now) _ put packs)
