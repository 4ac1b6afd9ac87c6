use Rattle.space_rule.proofs.space.calls.place_open.Goals as goal

pub put_open-requires-clause-table : goal.put_open-requires-clause-table
put_open-requires-clause-table c = c.requires.table (c.in-Some.table, c.in-Some.key) c.in-Some.is
