use Rattle.run_forms.proofs.PageCounts.{count_is, count_within, entry_within, same_count}
use Rattle.run_forms.proofs.laws.pages_are_counted.Goals as goal

pub returns-clause-count : goal.returns-clause-count
returns-clause-count c pages catalogue area is = count_is pages area catalogue is

pub returns-clause-table : goal.returns-clause-table
returns-clause-table c pages table entry area low high has = entry_within pages area table entry low high has

pub returns-clause-within : goal.returns-clause-within
returns-clause-within c = count_within

pub returns-clause-stampless : goal.returns-clause-stampless
returns-clause-stampless c = same_count
