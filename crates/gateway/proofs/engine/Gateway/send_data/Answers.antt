use Rattle.std.proofs.Common.{ap, ◌∙◌, rules, [], ◌∷◌}
use Rattle.session.specs.Session.{Session, is_open}
use Rattle.gateway.specs.Log.{Went, TcpOut, with_news}
use Rattle.gateway.proofs.Put.{logged_sent, sends_data, data_sent}
use Rattle.gateway.proofs.Confirming.{data_confirmed, data_in_time}
use Rattle.gateway.proofs.Put.{unsent_faithful}
use Rattle.gateway.proofs.Confirming.{stays_after}
use Rattle.gateway.proofs.engine.Gateway.send_data.Goals as goal

pub returns-then-not-hand-clause-kept : goal.returns-then-not-hand-clause-kept
returns-then-not-hand-clause-kept g c = λ p unjudged phase flushing ready h.
    unsent_faithful p _ _ c.loop-count.self unjudged phase c.if-not-hand.ensures.logged
    (c.loop-count.invariant.kept p unjudged phase flushing ready h)

pub loop-count-preserved : goal.loop-count-preserved
loop-count-preserved g c =
    let sends = c.in-Some.ensures.some in
    let made = data_sent c.loop-count.self sends.frame c.write_data.new.self sends.holds in
    record {
      kept = λ p unjudged phase flushing ready h. logged_sent p _ _ c.loop-count.self
          c.write_data.new.self sends.frame
          _ unjudged phase
          (c.if-not-hand.ensures.logged
          ∙ ap (λ octets. with_news (g.P.Port.log c.loop-count.port)
          (Went c.write_data.new.self.moment (TcpOut octets)
          ∷ []))
          sends.spelled) made.1.moment
          (sends_data c.loop-count.self sends.frame c.write_data.new.self sends.holds
          (c.loop-count.invariant.confirmed ready) p unjudged phase flushing)
          (c.loop-count.invariant.kept p unjudged phase flushing ready h);
      confirmed = λ h. data_confirmed c.calls_come_to_an_end.ensures.confirmed_sent
          c.loop-count.self
          c.write_data.new.self made.0 made.1 (c.loop-count.invariant.confirmed h);
      in_time = stays_after c.args.self.now c.loop-count.self c.write_data.new.self
          c.loop-count.invariant.in_time
          (data_in_time c.calls_come_to_an_end.ensures.in_time_sent c.loop-count.self
          c.write_data.new.self made.0
          made.1);
      on = ap (λ (x : Session). is_open x) made.1.session ∙ c.loop-count.invariant.on;
      events = c.if-not-hand.ensures.puts.events ∙ c.loop-count.invariant.events;
      script = c.if-not-hand.ensures.puts.script ∙ c.loop-count.invariant.script;
      cause = search rules;
    }
