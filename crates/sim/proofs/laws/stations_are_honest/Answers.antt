use Rattle.gateway.specs.Setups.{setup_of}
use Rattle.sim.proofs.Below.{Laws}
use Rattle.sim.proofs.Served.{SessionsKnown, Steadied, all_served}
use Rattle.sim.proofs.laws.stations_are_honest.Goals as goal

pub returns : goal.returns
returns c =
    let laws : Laws = record {
      right = c.front_is_computed.ensures.right;
      nothing = c.front_is_computed.ensures.nothing;
      whole = c.front_is_computed.ensures.whole;
      spelled = c.front_is_computed.ensures.spelled;
      spoils = c.spoilt_lines_are_no_lines.ensures.front;
      run = c.station_is_an_outstation.ensures.run;
      class1 = c.station_is_an_outstation.ensures.class1;
      class2 = c.station_is_an_outstation.ensures.class2;
      accepted = c.station_is_an_outstation.ensures.accepted;
      given = c.station_is_an_outstation.ensures.given;
      address = c.station_is_an_outstation.ensures.address;
      size = c.station_is_an_outstation.ensures.size;
    } in
    let known : SessionsKnown = λ p log i turns faithful lt honest. record {
      each_report = c.each_session_is_known.ensures.reports p log i turns faithful lt honest;
      each_command = c.each_session_is_known.ensures.commands p log i turns faithful lt honest;
      joined = c.each_session_is_known.ensures.joined p log i turns faithful lt honest;
    } in
    let steadies : Steadied = λ settings log i rules faithful lt held life never.
    c.silence_is_no_reset.ensures.held (setup_of settings) log i faithful lt held never
    (c.silence_is_no_reset.ensures.one_life (setup_of settings) log i life)
    (c.silence_is_no_reset.ensures.none_asked settings log i rules faithful life) in
    λ settings ds log answers stations tallies rules played are few faithful.
    all_served laws c.nothing_is_lost.ensures steadies known
    c.each_session_is_known.ensures.before c.losses_have_gaps.ensures.lost settings ds log answers
    stations tallies
    rules played are few faithful
