use Rattle.std.proofs.Common.{◌∙◌, sym, ap, List, ℕ, arith}
use Rattle.gate_slots.specs.Slots.{decoded_body}
use Rattle.gate_slots.proofs.Places.{body_read}
use Rattle.gate_slots.proofs.Chosen.{page_gate}
use Rattle.gate_slots.proofs.gates.read_slot.Goals as goal

pub returns-clause-page : goal.returns-clause-page
returns-clause-page g c told =
    let seen = (g.H.Host.disk c.args.host.now).seen in
    record {
      gate = page_gate seen c.args.place c.args.slot c.start.result c.read.new.into c.split_at.result.1.now c.start.ensures (omega arith) (c.in_ok-read.ensures.bytes told) c.split_at.ensures.by_index.2;
      body = c.decode_body.ensures.value ∙ ap (λ (bytes : List ℕ). decoded_body c.args.place.device bytes)
          (sym (body_read seen c.args.place c.args.slot c.start.result c.read.new.into c.split_at.result.0.now (c.requires.within told) c.start.ensures (omega (arith, c.split_at.ensures.back_len))
          c.split_at.ensures.front_len (c.in_ok-read.ensures.bytes told) c.split_at.ensures.by_index.1));
    }
