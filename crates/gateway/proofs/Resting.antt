-- A step has done all that it could, and comes to rest.
use Rattle.std.proofs.Common.{◌≡◌, ℕ, ◌<◌, ◌&&◌, Bool, true, false, nat_lt, List, [], ◌∷◌, ◌++◌}
use Rattle.std.proofs.Common.{length, refl, ap, sym, ◌∙◌, subst, arith, Option, Some, None, inl}
use Rattle.std.proofs.Common.{inr}
use Rattle.std.specs.Prelude.{if◌then◌else◌, ◌⊎◌}
use Rattle.std.proofs.lemmas.List.{append-nil}
use Rattle.std.proofs.lemmas.Bool.{lt-ltb}
use Rattle.link.specs.Primary.{Primary, Outstanding}
use Rattle.link.specs.Primary as primary
use Rattle.session.specs.Session.{is_transferring}
use Rattle.gateway.specs.Log.{Log, latest}
use Rattle.gateway.specs.Reports.{Setup, address_at, exchanges_of, exchanges_with}
use Rattle.gateway.specs.Gaps.{gaps_reported, gap_for}
use Rattle.gateway.specs.Traffic.{IsAtRest}
use Rattle.command.specs.State as tasks
use Rattle.gateway.specs.Serial as serial
use Rattle.gateway.specs.Serial.{Serial, waiting_in, next_request}
use Rattle.gateway.specs.State.{State}
use Rattle.gateway.specs.Works.{Works, settled_works, unasked_works}
use Rattle.gateway.specs.Line.{IsServed, done_in}
use Rattle.link.specs.Leave.{holds_poll, IsLeftToPolls}
use Rattle.link.specs.declared.turn.StationState.{StationState}
use Rattle.link.specs.Turns.{station_at}
use Rattle.link.specs.Procedure.{link_after}
use Rattle.link.specs.declared.procedure.Link.{Link}
use Rattle.link.specs.declared.procedure.Link.TheVariants.{Down, Available, Next, Held}
use Rattle.link.specs.Flags.{clear, flags_after}
use Rattle.link.specs.Matching as logging
use Rattle.ft12.specs.Fronts.{front_of}
use Rattle.command.specs.State.{octets_waiting}
use Rattle.gateway.specs.Course.{here_of, room_in}
use Rattle.gateway.specs.Phases.{Asked, IsOut}
use Rattle.session.specs.History.{frame_due, has_timed_out}
use Rattle.gateway.specs.Agrees.{Agrees, IsSpent, IsQuiet}
use Rattle.gateway.proofs.Working.{gap_in}
use Rattle.gateway.proofs.Talking.{all_taken, confirmed_by, due_by, late_by}
use Rattle.gateway.proofs.Sound.{no_room_means}
use Rattle.link.specs.LineLaws.{LineLaws}
use Rattle.gateway.proofs.Stations.{line_rests}
use Rattle.gateway.proofs.Phases.{sent_all}
use Rattle.gateway.proofs.Agreement.{is_full, same_room}
use Rattle.gateway.proofs.Closing.{stands_now}

-- what is left to a station at rest
left_at_rest : (s : StationState) (command : Option (List ℕ)) → IsLeftToPolls s command s.link
    → (command ≡ None) ⊎ (s.dfc ≡ true) ⊎ (holds_poll s.link ≡ true)
left_at_rest s command left = by_link s.link refl left
  where
    by_link : (l : Link) → s.link ≡ l → IsLeftToPolls s command l
        → (command ≡ None) ⊎ (s.dfc ≡ true) ⊎ (holds_poll s.link ≡ true)
    by_link Down e h = absurd h
    by_link Available e h = absurd h
    by_link (Next fcb) e (inl h) = inl h
    by_link (Next fcb) e (inr h) = inr (inl h)
    by_link (Held fcb service missed) e h = inr (inr (ap holds_poll e ∙ h))

-- if nothing can be sent any more, the step has done all that it could
pub rested : (laws : LineLaws) (p : Setup) (s : State) (log : Log) (a : Agrees p s log [] Asked)
    → IsSpent s
    → IsQuiet s → IsAtRest p log
rested laws p s log a spent quiet = record {
  course = a.course;
  course_runs = a.talk.course_runs;
  are = record { open_one = stands_now p s log Asked a; earlier = a.before.are };
  settled = a.settled;
  placed = a.stands.placed;
  eager = λ on started room. sent_all p s log [] Asked a
      (spent (can (is_transferring s.centre.session) (a.here.tied.transferring
      ∙ started) (omega (arith, room, a.here.tied.unconfirmed.count, a.k))));
  gaps = λ i. sym (append-nil (gaps_reported i log))
      ∙ ap (λ g. gaps_reported i log ++ gap_for i g) (sym all_logged) ∙ a.gaps i;
  line = line_rests laws p s.serial.line log a.course (room_in p log a.course)
      (waiting_in s.serial.commands) a.line
      (none_left a.course.works.is_due refl) (here_of a.course ∷ a.course.earlier)
      (λ none. is_full p s log [] Asked a
      (no_room_means s.centre.queue (sym (same_room p s log [] Asked a) ∙ none)))
      served;
  asked = record {
    logged = a.stands.asks.2;
    in_time = a.stands.answered;
    none = a.stands.asks.0;
  };
  talk = record {
    all = all_taken log a.course a.here.so_far a.here.joined a.here.waits;
    confirmed = sym (confirmed_by p s.centre.session log a.course a.talk) ∙ quiet.confirmed;
    none_due = subst (λ m. frame_due p.session.w p.session.t2 p.session.t3 m a.course.talk ≡ None)
        a.clock
        (sym (due_by p s.centre.session log a.course a.talk s.moment) ∙ quiet.pulled_all);
    in_time = subst (λ m. has_timed_out p.session.t1 m a.course.talk ≡ false) a.clock
        (sym (late_by p s.centre.session log a.course a.talk s.moment) ∙ quiet.in_time);
  };
}
  where
    can : (b : Bool) → b ≡ true → length s.centre.session.unacknowledged < s.centre.session.k
        → (b && nat_lt (length s.centre.session.unacknowledged) s.centre.session.k) ≡ true
    can true h lt = lt-ltb (length s.centre.session.unacknowledged) s.centre.session.k lt
    can false h lt = cc

    w : Works
    w = a.course.works

    room : Bool
    room = room_in p log a.course

    all_logged : s.serial.gap ≡ None
    all_logged = ap (λ (z : Serial). z.gap) a.stands.does ∙ gap_in Asked (latest log) room w
        ∙ a.stands.asks.2

    -- a step that is done is asked in vain again, or a request is out
    none_left : (b : Bool) → w.is_due ≡ b → next_request room s.serial ≡ None
    none_left true due =
        let r : Serial = (settled_works (latest log) w).serial in
        let is : s.serial ≡ serial.asked (latest log) room None r = a.stands.does
        ∙ ap (λ b. (if b then unasked_works (latest log) room (settled_works (latest log) w)
        else w).serial)
        due in
        subst (λ (z : Serial). next_request room z ≡ None) (sym is)
        (laws.over r.line (latest log) room (waiting_in r.commands) (a.stands.asks.0 due))
    none_left false due =
        let is : s.serial ≡ w.serial = a.stands.does
        ∙ ap (λ b. (if b then unasked_works (latest log) room (settled_works (latest log) w)
        else w).serial)
        due in
        subst (λ (z : Serial). next_request room z ≡ None) (sym is)
        (out_none w.serial.line.outstanding (a.stands.asks.1 due))
      where
        out_none : (o : Option Outstanding) → IsOut o
            → primary.sending_from w.serial.line o room (waiting_in w.serial.commands) ≡ None
        out_none None h = absurd h
        out_none (Some o) h = refl

    served : s.serial.line.outstanding ≡ None → (i : ℕ) → i < length p.addresses
        → IsServed p log (done_in p log a.course) i
    served out i within =
        let left = laws.left s.serial.line room (waiting_in s.serial.commands) a.line.fits out
        (none_left w.is_due refl) i (omega (arith, within, a.line.count)) in
        let link : link_after p.link (address_at p.addresses i) Down (exchanges_with p i log)
        ≡ (station_at s.serial.line.stations i).link =
        subst (λ (o : Option primary.Outstanding). logging.AreLinks
        (front_of p.link.size) p.link p.addresses s.serial.line.stations
        (logging.past o (exchanges_of p log))) out
        a.line.links i in
        let flags = a.line.flags i in
        let here = left_at_rest (station_at s.serial.line.stations i)
        (octets_waiting i s.serial.commands) left in
        subst (λ (c : tasks.State). (octets_waiting i c ≡ None)
        ⊎ ((flags_after (address_at p.addresses i) clear (exchanges_with p i log)).dfc ≡ true)
        ⊎ (holds_poll (link_after p.link (address_at p.addresses i) Down (exchanges_with p i log))
        ≡ true))
        (ap (λ (z : Serial). z.commands) a.stands.does)
        (by_exchanges link flags here)
      where
        by_exchanges : link_after p.link (address_at p.addresses i) Down (exchanges_with p i log)
            ≡ (station_at s.serial.line.stations i).link
            → flags_after (address_at p.addresses i) clear (exchanges_with p i log)
            ≡ logging.flags_of (station_at s.serial.line.stations i) →
            (octets_waiting i s.serial.commands ≡ None) ⊎ ((station_at s.serial.line.stations i).dfc
            ≡ true)
            ⊎ (holds_poll (station_at s.serial.line.stations i).link ≡ true) →
            (octets_waiting i s.serial.commands ≡ None)
            ⊎ ((flags_after (address_at p.addresses i) clear (exchanges_with p i log)).dfc ≡ true)
            ⊎ (holds_poll (link_after p.link (address_at p.addresses i) Down
            (exchanges_with p i log)) ≡ true)
        by_exchanges link flags (inl none) = inl none
        by_exchanges link flags (inr (inl full)) = inr (inl (ap (λ f. f.dfc) flags ∙ full))
        by_exchanges link flags (inr (inr held)) = inr (inr (ap holds_poll link ∙ held))
