use Rattle.std.proofs.Common.{◌≡◌, Some, true, ap, sym, subst, ◌∙◌}
use Rattle.gateway.specs.Setups.{setup_of}
use Rattle.gateway.specs.Traffic.{HasRested, IsFaithful}
use Rattle.words.specs.Scribing.{Climbing, Scribing}
use Rattle.words.specs.Ladders.{IsLadder}
use Rattle.words.specs.declared.ladder.rungs.Style.{Style}
use Rattle.sim.specs.Calls.{calls_in}
use Rattle.sim.specs.Lives.{Plan, plan_of}
use Rattle.sim.specs.Losses.{turns_of}
use Rattle.sim.specs.Played.{Simulated, Stands}
use Rattle.sim.proofs.SimulationLemmas.{at_turns, at_finish, at_first_call, run_turns, ended_calls}
use Rattle.telegate.specs.Manners.{style_of}
use Rattle.telegate.specs.Printed.{IsPoured}
use Rattle.traces.proofs.Poured.{appends_none, poured_begun}
use Rattle.telegate.proofs.SimInWordsLemmas.{words_of_all, words_stopped}
use Rattle.telegate.proofs.simulating_in_words.simulate_in_words.Goals as goal

pub returns-in-Turns : goal.returns-in-Turns
returns-in-Turns g c =
    let settings = c.args.config.now in
    let ds = c.args.script.now in
    let p = setup_of settings in
    let began = c.new-ladder.result in
    let ladder = c.drive_in_words-end.new.ladder in
    let port = ladder.port in
    let scribe = ladder.scribe in
    let end = c.drive_in_words-end.result.0 in
    let before = g.W.Write.contents c.args.out.now in
    let fresh = ap (λ (l : Climbing Simulated). l.port) c.new-ladder.ensures ∙ c.in-Ok.ensures in
    let blank = ap (λ (l : Climbing Simulated). l.scribe) c.new-ladder.ensures
    ∙ c.new-scribe.ensures in
    let begun = at_first_call p c.in_ok-gateway.gateway (plan_of settings ds) began.port fresh
    c.in_ok-gateway.ensures.begins in
    let plan : port.plan ≡ plan_of settings ds =
    c.drive_in_words-end.ensures.course ∙ ap (λ (s : Simulated). s.plan) fresh in
    let calls : calls_in port.log ≡ turns_of ds =
    run_turns c.turns-turns.result (turns_of ds) began.port.log port.log c.turns-turns.ensures
    (ap (λ (s : Simulated). s.log) fresh) (c.drive_in_words-end.ensures.turns c.in-Turns.is) in
    let style : scribe.style ≡ style_of settings c.args.is_coloured =
    c.drive_in_words-end.ensures.style
    ∙ ap (λ (s : Scribing). s.style) blank ∙ c.style_of.ensures in
    let is : port ≡ c.port-in-Turns.result.now = sym c.port-in-Turns.ensures in
    c.close.ensures settings ds c.args.is_coloured before scribe.logged
    (subst (λ (s : Simulated). s.plan ≡ plan_of settings ds) is plan)
    c.stations-stations.ensures.rules
    (subst (λ (s : Simulated). calls_in s.log ≡ turns_of ds) is calls)
    (subst (λ (s : Simulated). IsFaithful p s.log) is (c.drive_in_words-end.ensures.faithful p
    begun.0
    begun.1))
    (subst (λ (s : Simulated). HasRested p s.log) is
    (at_turns end (HasRested p port.log) c.in-Turns.is
    (c.drive_in_words-end.ensures.rests p begun.0 begun.1)))
    (subst (λ (s : Simulated). IsLadder (style_of settings c.args.is_coloured) s.log scribe.logged)
    is
    (words_of_all (style_of settings c.args.is_coloured) scribe port.log style
    (at_turns end (Some port.log
    ≡ Some scribe.poured) c.in-Turns.is c.drive_in_words-end.ensures.all)
    c.page-page_is_clear.ensures.poured))
    (c.drive_in_words-end.ensures.logged before
    (subst (λ (s : Scribing). IsPoured true before before s.logged) (sym blank)
    (appends_none before)))

pub returns-in-Finished : goal.returns-in-Finished
returns-in-Finished g c =
    let settings = c.args.config.now in
    let ds = c.args.script.now in
    let p = setup_of settings in
    let began = c.new-ladder.result in
    let ladder = c.drive_in_words-end.new.ladder in
    let port = ladder.port in
    let scribe = ladder.scribe in
    let end = c.drive_in_words-end.result.0 in
    let before = g.W.Write.contents c.args.out.now in
    let fresh = ap (λ (l : Climbing Simulated). l.port) c.new-ladder.ensures ∙ c.in-Ok.ensures in
    let blank = ap (λ (l : Climbing Simulated). l.scribe) c.new-ladder.ensures
    ∙ c.new-scribe.ensures in
    let begun = at_first_call p c.in_ok-gateway.gateway (plan_of settings ds) began.port fresh
    c.in_ok-gateway.ensures.begins in
    let plan : port.plan ≡ plan_of settings ds =
    c.drive_in_words-end.ensures.course ∙ ap (λ (s : Simulated). s.plan) fresh in
    let stands = subst (λ (s : Simulated). Stands s.plan s.log s.stations s.standing) c.port.ensures
    c.page-line_stands.ensures.stands in
    let calls : calls_in port.log ≡ turns_of ds =
    ended_calls port (c.drive_in_words-end.ensures.finished c.in-Finished.is) stands
    ∙ ap (λ (q : Plan). turns_of q.directives) plan in
    let style : scribe.style ≡ style_of settings c.args.is_coloured =
    c.drive_in_words-end.ensures.style
    ∙ ap (λ (s : Scribing). s.style) blank ∙ c.style_of.ensures in
    let is : port ≡ c.port-in-Finished.result.now = sym c.port-in-Finished.ensures in
    c.close-in-Finished.ensures settings ds c.args.is_coloured before scribe.logged
    (subst (λ (s : Simulated). s.plan ≡ plan_of settings ds) is plan)
    c.stations-stations.ensures.rules
    (subst (λ (s : Simulated). calls_in s.log ≡ turns_of ds) is calls)
    (subst (λ (s : Simulated). IsFaithful p s.log) is (c.drive_in_words-end.ensures.faithful p
    begun.0
    begun.1))
    (subst (λ (s : Simulated). HasRested p s.log) is
    (at_finish end (HasRested p port.log) c.in-Finished.is
    (c.drive_in_words-end.ensures.rests p begun.0 begun.1)))
    (subst (λ (s : Simulated). IsLadder (style_of settings c.args.is_coloured) s.log scribe.logged)
    is
    (words_of_all (style_of settings c.args.is_coloured) scribe port.log style
    (at_finish end (Some port.log ≡ Some scribe.poured) c.in-Finished.is
    c.drive_in_words-end.ensures.all)
    c.page-page_is_clear.ensures.poured))
    (c.drive_in_words-end.ensures.logged before
    (subst (λ (s : Scribing). IsPoured true before before s.logged) (sym blank)
    (appends_none before)))

pub returns : goal.returns
returns g c =
    let settings = c.args.config.now in
    let ds = c.args.script.now in
    let p = setup_of settings in
    let began = c.new-ladder.result in
    let ladder = c.drive_in_words-end.new.ladder in
    let port = ladder.port in
    let scribe = ladder.scribe in
    let before = g.W.Write.contents c.args.out.now in
    let after = g.W.Write.contents c.drive_in_words-end.new.out in
    let fresh = ap (λ (l : Climbing Simulated). l.port) c.new-ladder.ensures ∙ c.in-Ok.ensures in
    let blank = ap (λ (l : Climbing Simulated). l.scribe) c.new-ladder.ensures
    ∙ c.new-scribe.ensures in
    let begun = at_first_call p c.in_ok-gateway.gateway (plan_of settings ds) began.port fresh
    c.in_ok-gateway.ensures.begins in
    let plan : port.plan ≡ plan_of settings ds =
    c.drive_in_words-end.ensures.course ∙ ap (λ (s : Simulated). s.plan) fresh in
    let stands = subst (λ (s : Simulated). Stands s.plan s.log s.stations s.standing) c.port.ensures
    c.page-line_stands.ensures.stands in
    let style : scribe.style ≡ style_of settings c.args.is_coloured =
    c.drive_in_words-end.ensures.style
    ∙ ap (λ (s : Scribing). s.style) blank ∙ c.style_of.ensures in
    let log : Some port.log ≡ Some scribe.log = c.page-page_is_clear.ensures.log in
    let same : port.log ≡ scribe.log = cc in
    let behind = c.page-page_is_clear.ensures.behind in
    words_stopped settings ds c.args.is_coloured port plan stands
    (c.drive_in_words-end.ensures.faithful p begun.0 begun.1)
    scribe.poured behind.0 scribe.logged before after (same ∙ behind.1)
    (subst (λ (s : Style). IsLadder s scribe.poured scribe.logged) style
    c.page-page_is_clear.ensures.poured)
    (poured_begun c.drive_in_words-end.result.1 before after scribe.logged
    (c.drive_in_words-end.ensures.logged before
    (subst (λ (s : Scribing). IsPoured true before before s.logged) (sym blank)
    (appends_none before))))
