use Rattle.std.proofs.Common.{◌≡◌, ℕ, ◌<◌, List, length, map, drop, sym, ap, subst, ◌∙◌}
use Rattle.link.specs.Turns.{StationState}
use Rattle.link.specs.Holding.{IsFitting, outstanding_from}
use Rattle.link.specs.Carried.{station_doubted}
use Rattle.link.proofs.Doubting.{doubted_count, front_of_list}
use Rattle.link.proofs.Fitting.{doubted_fits}
use Rattle.link.proofs.master.Master.doubt.Goals as goal

pub invariant_of-self : goal.invariant_of-self
invariant_of-self c =
    let f = c.self.invariant.fits in
    let size = c.self.inside.settings.size in
    let ss = c.self.inside.stations.items in
    let new : c.doubt_all.new.stations ≡ map station_doubted ss =
    c.doubt_all.ensures ∙ ap (map station_doubted) c.deref_mut.ensures.value in
    let count : length c.doubt_all.new.stations ≡ c.self.inside.stations.len =
    ap length new ∙ doubted_count ss ∙ sym (ap length c.deref_mut.ensures.value)
    ∙ c.deref_mut.ensures.len in
    record {
      size = c.self.invariant.size;
      fits = subst (λ (stations : List StationState). IsFitting (record {
        settings = c.self.inside.settings;
        stations = stations;
        turn = c.self.inside.turn;
        phase = c.self.inside.phase;
        again = c.self.inside.again;
        outstanding = outstanding_from c.self.inside.outstanding c.self.inside.assembler.so_far;
        spoilt = c.self.inside.spoilt;
      })) (sym (front_of_list c.self.inside.stations.len c.doubt_all.new.stations
          (drop (length c.doubt_all.new.stations) ss) count ∙ new)) (record {
            turn = subst (λ (n : ℕ). c.self.inside.turn < n) (sym (doubted_count ss)) f.turn;
            stations = doubted_fits size ss f.stations;
            outstanding = f.outstanding;
          });
    }
