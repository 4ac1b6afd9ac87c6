use Rattle.std.proofs.Common.{◌≡◌, sym, ap, subst, ◌∙◌, ℕ, ◌+◌, ◌^◌, ◌<◌, true, arith}
use Rattle.mdb_model.specs.History.{tables_of}
use Rattle.mdb_model.specs.Space.{has_room, table_cost, kept_for_snapshots, kept_for_backup}
use Rattle.mdb_model.specs.Tables.{Tables}
use Rattle.mdb_model.specs.Worlds.{World}
use Rattle.mdb_model.specs.declared.fault.PageFault.TheVariants as page
use Rattle.mdb_model.specs.declared.name.Name.{Name}
use Rattle.kept_worlds.specs.InService.{AtEachMoment}
use Rattle.page_ground.proofs.Passing.{err_passed}
use Rattle.page_ground.specs.AimLaws.{at_both, keeps_through}
use Rattle.space_rule.specs.KnownCosts.{KnownCosts}
use Rattle.space_rule.specs.Spaces.{known_costs}
use Rattle.known_needs.specs.KnownNeeds.{IsKnownOf, nothing_known}
use Rattle.live_area.specs.declared.area.LiveArea.{LiveArea}
use Rattle.live_area.specs.Serving.{ServesWorld}
use Rattle.open_database.specs.declared.database.Database.{Database}
use Rattle.open_database.specs.Opened.{OpenDoes, opened_world}
use Rattle.open_database.specs.Outside.{StandsFor}
use Rattle.open_database.specs.Serving.{Serves}
use Rattle.open_database.proofs.Kept.{kept_none}
use Rattle.open_database.proofs.Loading.{nothing_open, nothing_long, loaded_blocks, loaded_kept, loaded_none, loaded_tables, loaded_numbers}
use Rattle.open_database.proofs.Opens.{not_opened, at_rest, no_sessions, no_backup, served_opened}
use Rattle.open_database.proofs.database.Database.open.Goals as goal

pub returns-in_err-area-clause-opens : goal.returns-in_err-area-clause-opens
returns-in_err-area-clause-opens g c told w is_off found =
    let d = g.H.Host.disk c.args.host.now in
    let e = g.H.Host.disk c.open.new.host in
    let serves : LiveArea → Type 0 = λ area. ServesWorld g.H.Host.tells area.in_force.slots area.in_force.record area.store area.ring e w in
    let gives : Database → Type 0 = λ database. Serves g.H.Host.tells database e (opened_world c.args.access w) in
    err_passed (OpenDoes d e w gives) c.in_err-area.field-0.0 c.from_residual.result c.from_residual.ensures.1
    (not_opened d e w serves gives c.in_err-area.field-0.0 (c.in_err-area.ensures.opens told w found))

pub returns-in_default-clause-opens : goal.returns-in_default-clause-opens
returns-in_default-clause-opens g c told w is_off found = at_rest c.args.in_force.record c.args.start.now (g.H.Host.disk c.args.host.now) w found

pub load_costs-requires-clause-none : goal.load_costs-requires-clause-none
load_costs-requires-clause-none g c session = nothing_open (known_costs c.new-space.result) c.args.blocks c.new-space.ensures session

pub load_costs-requires-clause-long : goal.load_costs-requires-clause-long
load_costs-requires-clause-long g c = nothing_long (known_costs c.new-space.result) c.args.blocks c.new-space.ensures

pub most_bytes-requires : goal.most_bytes-requires
most_bytes-requires g c = omega (arith, c.in_ok-area.ensures.sound.order.size.is, c.in_ok-area.ensures.sound.order.size.least)

pub returns-in-Ok-load_costs-clause-sound : goal.returns-in-Ok-load_costs-clause-sound
returns-in-Ok-load_costs-clause-sound g c =
    let area = c.in_ok-area.area in
    let call = c.load_costs in
    record {
      area = c.calls_keep_serving.ensures.sound area.in_force.slots area.in_force.record area.store call.new.store area.ring c.open.new.host call.new.host c.in_ok-area.ensures.sound call.ensures.keeps;
      blocks = loaded_blocks (known_costs c.new-space.result) (known_costs call.new.space) c.args.blocks c.new-space.ensures call.ensures.kept
          ∙ c.requires.blocks ∙ sym c.in_ok-area.ensures.blocks ∙ sym call.ensures.keeps.maps.area;
      birth = subst (λ (n : Name). n.birth < 2 ^ 61) (sym c.in_ok-area.ensures.log.0) c.requires.birth;
      generation = subst (λ (n : Name). n.generation < 2 ^ 61) (sym c.in_ok-area.ensures.log.0) c.requires.generation;
    }

pub returns-in-Ok-load_costs-clause-opens : goal.returns-in-Ok-load_costs-clause-opens
returns-in-Ok-load_costs-clause-opens g c told w is_off found =
    let d = g.H.Host.disk c.args.host.now in
    let e = g.H.Host.disk c.open.new.host in
    let f = g.H.Host.disk c.load_costs.new.host in
    let area = c.in_ok-area.area in
    let slots = area.in_force.slots in
    let r = area.in_force.record in
    let call = c.load_costs in
    let law = c.calls_keep_serving.ensures in
    let what = c.what_is_served.ensures in
    let leaves = c.in_ok-area.ensures.opens told w found in
    let moments : AtEachMoment e f (λ image. StandsFor image w) = law.at_each_moment slots r area.store call.new.store area.ring c.open.new.host call.new.host w leaves.1 call.ensures.keeps in
    let same = c.in-Ok-load_costs.ensures.same leaves.1.rows in
    let serves : ServesWorld g.H.Host.tells slots r call.new.store area.ring f w =
    law.serves slots r area.store call.new.store area.ring c.open.new.host call.new.host w leaves.1 call.ensures.keeps same.0 same.1 in
    let database : Database = record { access = c.args.access; area = record area { store = call.new.store }; space = call.new.space; transactions = c.new-transactions.result; group = c.open.new.group } in
    let v : World = opened_world c.args.access w in
    let known : KnownCosts = known_costs call.new.space in
    let first : known_costs c.new-space.result ≡ nothing_known c.args.blocks = c.new-space.ensures in
    let blocks : known.blocks ≡ w.blocks =
    loaded_blocks (known_costs c.new-space.result) known c.args.blocks first call.ensures.kept ∙ c.requires.blocks ∙ sym c.in_ok-area.ensures.blocks ∙ sym call.ensures.keeps.maps.area
    ∙ sym (what.blocks slots r call.new.store area.ring call.new.host w serves) in
    let known_of : IsKnownOf known v =
    c.what_is_loaded_is_known.ensures known v blocks (loaded_kept (known_costs c.new-space.result) known c.args.blocks first call.ensures.kept) serves.plain.no_snapshots (no_backup w is_off) (no_sessions w is_off)
    (λ table from upto. c.in-Ok-load_costs.ensures.loaded leaves.1.rows table from upto ∙ ap (λ (rows : Tables). table_cost rows rows table) leaves.1.all_set)
    (loaded_none (known_costs c.new-space.result) known c.args.blocks first call.ensures.kept) in
    let room : has_room (tables_of w.history) (tables_of w.history) 0 (kept_for_snapshots v + kept_for_backup v) w.blocks ≡ true =
    subst (λ (k : ℕ). has_room (tables_of w.history) (tables_of w.history) 0 k w.blocks ≡ true) (sym (kept_none v serves.plain.no_snapshots (no_backup w is_off)))
    (what.room slots r call.new.store area.ring call.new.host w serves) in (
      at_both d e f (λ image. StandsFor image w) leaves.0 moments,
      served_opened w is_off g.H.Host.tells database f serves (what.keys slots r call.new.store area.ring call.new.host w serves) (what.ring slots r call.new.store area.ring call.new.host w serves)
          (c.new-transactions.ensures.most ∙ c.most_bytes.ensures) c.new-transactions.ensures.locks c.new-transactions.ensures.changes
          (c.a_world_without_sessions_is_counted.ensures known v known_of (no_sessions w is_off)
          (loaded_tables (known_costs c.new-space.result) known c.args.blocks first call.ensures.kept) (loaded_numbers (known_costs c.new-space.result) known c.args.blocks first call.ensures.kept) room),
      λ image left.
          let has = c.a_fresh_record_has_the_rows.ensures slots r call.new.store area.ring call.new.host w serves c.in_ok-area.ensures.fresh image left in
          record { rows = has.0; no_images = has.1 },
    )

pub returns-in-Err-Failed-clause-opens : goal.returns-in-Err-Failed-clause-opens
returns-in-Err-Failed-clause-opens g c told w is_off found =
    let d = g.H.Host.disk c.args.host.now in
    let e = g.H.Host.disk c.open.new.host in
    let f = g.H.Host.disk c.load_costs.new.host in
    let area = c.in_ok-area.area in
    let leaves = c.in_ok-area.ensures.opens told w found in
    at_both d e f (λ image. StandsFor image w) leaves.0
    (c.calls_keep_serving.ensures.at_each_moment area.in_force.slots area.in_force.record area.store c.load_costs.new.store area.ring c.open.new.host c.load_costs.new.host w leaves.1 c.load_costs.ensures.keeps)

pub returns-clause-opens : goal.returns-clause-opens
returns-clause-opens g c told w is_off found =
    let leaves = c.in_ok-area.ensures.opens told w found in
    let none : c.in-Err-Damaged.field-0 ≡ page.Failed = c.in-Err-Damaged.ensures.whole leaves.1.rows in
    absurd (cc (none, c.in-Err-Damaged.field-0-is))

pub returns-in-Ok-load_costs-clause-keeps : goal.returns-in-Ok-load_costs-clause-keeps
returns-in-Ok-load_costs-clause-keeps g c told =
    keeps_through (g.H.Host.disk c.args.host.now) (g.H.Host.disk c.open.new.host) (g.H.Host.disk c.load_costs.new.host) (c.open.ensures.keeps told) (c.load_costs.ensures.keeps.goes told).keeps

pub returns-in-Err-Failed-clause-keeps : goal.returns-in-Err-Failed-clause-keeps
returns-in-Err-Failed-clause-keeps g c told =
    keeps_through (g.H.Host.disk c.args.host.now) (g.H.Host.disk c.open.new.host) (g.H.Host.disk c.load_costs.new.host) (c.open.ensures.keeps told) (c.load_costs.ensures.keeps.goes told).keeps

pub returns-clause-keeps : goal.returns-clause-keeps
returns-clause-keeps g c told =
    keeps_through (g.H.Host.disk c.args.host.now) (g.H.Host.disk c.open.new.host) (g.H.Host.disk c.load_costs.new.host) (c.open.ensures.keeps told) (c.load_costs.ensures.keeps.goes told).keeps
