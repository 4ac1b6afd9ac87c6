use Rattle.std.proofs.Common.{codes, ◌++◌}
use Rattle.clap.specs.Words.{found_of, rows_of}
use Rattle.call_words.specs.Words.{Gains, Lacks, last_counts, word_in}
use Rattle.call_words.proofs.Counts.{lacks_front}
use Rattle.call_words.proofs.MatchReads.{gains_four, lacks_fourth, lacks_second, lacks_third, on_none, on_option}
use Rattle.call_words.proofs.words.read_last_volumes.Goals as goal

pub returns-in_err-read_volume : goal.returns-in_err-read_volume
returns-in_err-read_volume c =
    let rows = rows_of (found_of c.args.matches.now) in
    on_none c.from_residual.result (Lacks (last_counts rows)) (λ done. Gains (last_counts rows) c.args.volumes.now.items c.read_volume.new.volumes.items) c.from_residual.ensures
    (lacks_front (word_in (codes "DATAPAGES5") rows) ((word_in (codes "DATAPAGES6") rows) ++ ((word_in (codes "DATAPAGES7") rows) ++ (word_in (codes "DATAPAGES8") rows))) c.in_err-read_volume.ensures.gains)

pub returns-in_err-read_volume-2 : goal.returns-in_err-read_volume-2
returns-in_err-read_volume-2 c =
    let rows = rows_of (found_of c.args.matches.now) in
    on_none c.from_residual-in_err-read_volume-2.result (Lacks (last_counts rows)) (λ done. Gains (last_counts rows) c.args.volumes.now.items c.read_volume-2.new.volumes.items) c.from_residual-in_err-read_volume-2.ensures
    (lacks_second (word_in (codes "DATAPAGES5") rows) (word_in (codes "DATAPAGES6") rows) ((word_in (codes "DATAPAGES7") rows) ++ (word_in (codes "DATAPAGES8") rows)) c.in_err-read_volume-2.ensures.gains)

pub returns-in_err-read_volume-3 : goal.returns-in_err-read_volume-3
returns-in_err-read_volume-3 c =
    let rows = rows_of (found_of c.args.matches.now) in
    on_none c.from_residual-in_err-read_volume-3.result (Lacks (last_counts rows)) (λ done. Gains (last_counts rows) c.args.volumes.now.items c.read_volume-3.new.volumes.items) c.from_residual-in_err-read_volume-3.ensures
    (lacks_third (word_in (codes "DATAPAGES5") rows) (word_in (codes "DATAPAGES6") rows) (word_in (codes "DATAPAGES7") rows) (word_in (codes "DATAPAGES8") rows) c.in_err-read_volume-3.ensures.gains)

pub returns : goal.returns
returns c =
    let rows = rows_of (found_of c.args.matches.now) in
    on_option c.read_volume-4.result (Lacks (word_in (codes "DATAPAGES8") rows)) (Lacks (last_counts rows)) (λ done. Gains (word_in (codes "DATAPAGES8") rows) c.read_volume-3.new.volumes.items c.read_volume-4.new.volumes.items) (λ done. Gains (last_counts rows) c.args.volumes.now.items c.read_volume-4.new.volumes.items)
    (lacks_fourth (word_in (codes "DATAPAGES5") rows) (word_in (codes "DATAPAGES6") rows) (word_in (codes "DATAPAGES7") rows) (word_in (codes "DATAPAGES8") rows))
    (λ done gains. gains_four (word_in (codes "DATAPAGES5") rows) (word_in (codes "DATAPAGES6") rows) (word_in (codes "DATAPAGES7") rows) (word_in (codes "DATAPAGES8") rows) c.args.volumes.now.items c.read_volume.new.volumes.items c.read_volume-2.new.volumes.items c.read_volume-3.new.volumes.items c.read_volume-4.new.volumes.items c.in_ok-read_volume.ensures.gains c.in_ok-read_volume-2.ensures.gains c.in_ok-read_volume-3.ensures.gains gains) c.read_volume-4.ensures.gains
