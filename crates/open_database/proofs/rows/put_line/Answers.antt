use Rattle.std.proofs.Common.{◌≡◌, rules}
use Rattle.open_database.proofs.rows.put_line.Goals as goal

pub returns-clause-answered : goal.returns-clause-answered
returns-clause-answered g c area known w served counted =
    let store_is : c.new.result.pages.store.now ≡ c.args.store.now = search rules in
    let host_is : c.new.result.pages.host.now ≡ c.args.host.now = search rules in
    let store_after : c.put_row.new.rows.pages.store.now ≡ c.store-1.given.0 = search rules in
    let host_after : c.put_row.new.rows.pages.host.now ≡ c.host-1.given.0 = search rules in
    (rw (store_is, host_is, store_after, host_after) at (c.put_row.ensures.answered area)) known w served counted
