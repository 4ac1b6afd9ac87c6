use Rattle.live_area.proofs.StoodFor.{rows_have_room, saved_commits}
use Rattle.live_area.proofs.Served.{ring_served, blocks_served, small_served, name_served, last_served, saved_served, unsaved_served}
use Rattle.live_area.proofs.KeyedRows.{keys_served}
use Rattle.live_area.proofs.laws.what_is_served.Goals as goal

pub returns-clause-ring : goal.returns-clause-ring
returns-clause-ring g c slots r s ring d w serves =
    ring_served g.H.Host.tells slots r s ring (g.H.Host.disk d) w serves (g.H.Host.disk d).seen (g.met.H.Host.seen_left d serves.service.told)

pub returns-clause-blocks : goal.returns-clause-blocks
returns-clause-blocks g c slots r s ring d w serves =
    blocks_served g.H.Host.tells slots r s ring (g.H.Host.disk d) w serves (g.H.Host.disk d).seen (g.met.H.Host.seen_left d serves.service.told)

pub returns-clause-small : goal.returns-clause-small
returns-clause-small g c slots r s ring d w serves =
    small_served g.H.Host.tells slots r s ring (g.H.Host.disk d) w serves (g.H.Host.disk d).seen (g.met.H.Host.seen_left d serves.service.told)

pub returns-clause-name : goal.returns-clause-name
returns-clause-name g c slots r s ring d w serves =
    name_served g.H.Host.tells slots r s ring (g.H.Host.disk d) w serves (g.H.Host.disk d).seen (g.met.H.Host.seen_left d serves.service.told)

pub returns-clause-last_commit : goal.returns-clause-last_commit
returns-clause-last_commit g c slots r s ring d w serves =
    last_served g.H.Host.tells slots r s ring (g.H.Host.disk d) w serves (g.H.Host.disk d).seen (g.met.H.Host.seen_left d serves.service.told)

pub returns-clause-saved_commit : goal.returns-clause-saved_commit
returns-clause-saved_commit g c slots r s ring d w serves =
    saved_served g.H.Host.tells slots r s ring (g.H.Host.disk d) w serves (g.H.Host.disk d).seen (g.met.H.Host.seen_left d serves.service.told)

pub returns-clause-unsaved_bytes : goal.returns-clause-unsaved_bytes
returns-clause-unsaved_bytes g c slots r s ring d w serves =
    unsaved_served g.H.Host.tells slots r s ring (g.H.Host.disk d) w serves (g.H.Host.disk d).seen (g.met.H.Host.seen_left d serves.service.told)

pub returns-clause-room : goal.returns-clause-room
returns-clause-room g c slots r s ring d w serves =
    rows_have_room (g.H.Host.disk d).seen w (serves.stand (g.H.Host.disk d).seen (g.met.H.Host.seen_left d serves.service.told))

pub returns-clause-keys : goal.returns-clause-keys
returns-clause-keys g c slots r s ring d w serves =
    keys_served g.H.Host.tells slots r s ring (g.H.Host.disk d) w serves

pub returns-clause-saved_low : goal.returns-clause-saved_low
returns-clause-saved_low g c slots r s ring d w serves =
    (saved_commits (g.H.Host.disk d).seen w (serves.stand (g.H.Host.disk d).seen (g.met.H.Host.seen_left d serves.service.told))).0

pub returns-clause-saved_high : goal.returns-clause-saved_high
returns-clause-saved_high g c slots r s ring d w serves =
    (saved_commits (g.H.Host.disk d).seen w (serves.stand (g.H.Host.disk d).seen (g.met.H.Host.seen_left d serves.service.told))).1
