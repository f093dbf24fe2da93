-- The primary's state is what the exchanges make it: kept as octets come.
use Rattle.std.proofs.Common.{◌≡◌, ℕ, ◌<◌, ◌||◌, slice_index, Bool, true, false, List, [], ◌∷◌}
use Rattle.std.proofs.Common.{◌++◌, Option, Some, None, option_and_then, refl, sym, ap, subst, ◌∙◌}
use Rattle.std.proofs.Common.{inr, if◌then◌else◌}
use Rattle.std.proofs.lemmas.List.{length-set}
use Rattle.ft12.specs.declared.frame.Front.{Front}
use Rattle.ft12.specs.declared.frame.Front.TheVariants.{Whole, More, Never}
use Rattle.link.specs.Answers.{Frame, Single, Fixed, Data, Asked, Answer, answer_of}
use Rattle.std.specs.Io.Iter.{u64_saturate}
use Rattle.link.specs.Exchanges.{OpenExchange, whole_of, received_octets, received_current}
use Rattle.link.specs.Flags.{flags_in}
use Rattle.link.specs.Procedure.{LinkSettings, Link, Down, MaySend, after_outcome, after_answer}
use Rattle.link.specs.Requests.{FitsAsked}
use Rattle.link.specs.Turns.{StationState, station_at}
use Rattle.link.specs.Primary.{Outstanding, Primary, acd_of, dfc_of, session_answered}
use Rattle.link.specs.Primary.{station_answered, awaits, answer_at, said_by, open_octets, took}
use Rattle.link.specs.Primary.{with_octets, received_after, received_from, received}
use Rattle.link.specs.Holding.{FitsOutstanding}
use Rattle.link.specs.Matching.{IsStable, IsSaid, IsAllowed, IsReceived, IsCurrent, AreKept}
use Rattle.link.specs.Matching.{AreLinks, AreFlags, AreSpoilt}
use Rattle.link.proofs.Fitting.{station_fits, set_fits, answered_fits}
use Rattle.link.proofs.Links.{set_view, grown_keeps, ended_links, alike_links}
use Rattle.link.proofs.Flagging.{unanswered_flags, alike_flags, answered_flags}
use Rattle.link.proofs.OneMore.{alike_sessions, answered_sessions}
use Rattle.link.proofs.Spoilt.{open_push, answered_push, more_octets}
use Rattle.link.proofs.Matching.{SaysBy, said_now, grown, said_later, received_open}
use Rattle.link.proofs.Matching.{received_frozen, neither, over_said, same_state, links_said}
use Rattle.link.proofs.Matching.{unreceived, answered_front}

-- `octets`

-- the machine reads the flags as the control octet has them
flags_are : (frame : Frame) → flags_in frame ≡ record { acd = acd_of frame; dfc = dfc_of frame }
unfolding acd_of dfc_of
flags_are Single = refl
flags_are (Fixed control address) = refl
flags_are (Data control address body) = refl

pub receive_says : (front : List ℕ → Front) (settings : LinkSettings) (addresses : List ℕ)
    (p : Primary)
    (ended : List OpenExchange) (cur : Option OpenExchange) (octets : List ℕ) →
    IsStable front → SaysBy front settings addresses p (record { ended = ended; current = cur }) →
    SaysBy front settings addresses (received front p octets)
    (record { ended = ended; current = received_current octets cur })
receive_says front settings addresses p ended cur octets stable t =
    go p.outstanding cur refl t t.current
  where
    go : (o : Option Outstanding) (c : Option OpenExchange) → p.outstanding ≡ o
        → SaysBy front settings addresses p (record { ended = ended; current = c }) →
        IsCurrent front addresses p.turn o c →
        SaysBy front settings addresses (received_from front p o octets)
        (record { ended = ended; current = received_current octets c })
    go None None is t c = t
    go (Some o) None is t c = absurd c
    go None (Some x) is t over = by_frozen (x.closed || x.given_up) refl
      where
        links : AreLinks front settings addresses p.stations (ended ++ x ∷ [])
        links = links_said front settings addresses p (record { ended = ended; current = Some x })
            None is t

        answered_case : (a : (answer : Answer)
            × IsSaid front (slice_index addresses x.station) x (Some answer)) →
            SaysBy front settings addresses p
            (record { ended = ended; current = Some (grown x octets) })
        answered_case a =
            let before = said_now front (slice_index addresses x.station) x (Some a.0) a.1 in
            same_state front settings addresses p ended (Some x) (Some (grown x octets)) None is t
            (inr (inr
            (a.0, said_later front (slice_index addresses x.station) x octets (Some a.0) a.1)))
            (grown_keeps front settings addresses ended x (grown x octets) refl refl t.keeps)
            (λ i. alike_links front settings addresses ended x (grown x octets) refl
            (λ (l : Link). ap (λ (m : Option Answer). if x.given_up then Down
            else after_outcome settings m x.request x.closed l) (a.1 octets ∙ sym before)) i
            ∙ links i)
            (λ i. alike_flags front addresses ended x (grown x octets) refl refl
            (answered_front front (slice_index addresses x.station) x octets a.0 stable before) i
            ∙ t.flags i)
            (λ i. alike_sessions front addresses ended x (grown x octets) refl refl (a.1 octets
            ∙ sym before) i
            ∙ t.sessions i)
            (answered_push front (λ i. slice_index addresses i) ended (grown x octets) a.0
            (a.1 octets)
            ∙ sym (answered_push front (λ i. slice_index addresses i) ended x a.0 before))

        by_frozen : (b : Bool) → (x.closed || x.given_up) ≡ b
            → SaysBy front settings addresses p
            (record { ended = ended; current = Some (received_octets octets x) })
        by_frozen true e =
            subst (λ (z : OpenExchange). SaysBy front settings addresses p
            (record { ended = ended; current = Some z })) (sym (received_frozen octets x e)) t
        by_frozen false e =
            let both = neither x.closed x.given_up e in
            subst (λ (z : OpenExchange). SaysBy front settings addresses p
            (record { ended = ended; current = Some z }))
            (sym (received_open octets x both.0 both.1))
            (answered_case (over_said front (slice_index addresses x.station) x over e))
    go (Some q) (Some x) is t w =
        subst (λ (z : OpenExchange). SaysBy front settings addresses
        (received_from front p (Some q) octets)
        (record { ended = ended; current = Some z }))
        (sym (received_open octets x w.waits w.stands)) (by_received q.arrived refl w.arrived)
      where
        here : ℕ
        here = slice_index addresses p.turn

        links : AreLinks front settings addresses p.stations ended
        links = links_said front settings addresses p (record { ended = ended; current = Some x })
            (Some q) is t

        keeps : AreKept front settings addresses (ended ++ grown x octets ∷ [])
        keeps = grown_keeps front settings addresses ended x (grown x octets) refl refl t.keeps

        may : MaySend (station_at p.stations p.turn).link q.request
        may = subst (λ (r : Option Outstanding). IsAllowed p.stations p.turn r) is t.allowed

        asked_fits' : FitsAsked p.settings.size q.request
        asked_fits' = subst (λ (r : Option Outstanding). FitsOutstanding p.settings.size r) is
            t.fits.outstanding

        -- before its answer the flags are those of the exchanges that ended
        before_it : AreFlags front addresses p.stations ended
        before_it i =
            sym (unanswered_flags front addresses ended x
            (subst (λ (j : ℕ). option_and_then (answer_of (slice_index addresses j) x.request)
            (whole_of (front x.octets)) ≡ None) (sym w.station)
            (unreceived front here x q.arrived w.arrived)) i)
            ∙ t.flags i

        spoilt : AreSpoilt front addresses p.spoilt (ended ++ grown x octets ∷ [])
        spoilt =
            t.spoilt
            ∙ ap u64_saturate (open_push front (λ i. slice_index addresses i) ended x w.waits)
            ∙ ap u64_saturate
            (sym (open_push front (λ i. slice_index addresses i) ended (grown x octets) w.waits))

        waits : (arrived : Option (List ℕ))
            → IsReceived front (slice_index addresses p.turn) (grown x octets) arrived →
            SaysBy front settings addresses (awaits p (with_octets octets q) arrived)
            (record { ended = ended; current = Some (grown x octets) })
        waits arrived so = record {
          settings_are = t.settings_are;
          fits = record {
            turn = t.fits.turn;
            stations = t.fits.stations;
            outstanding =
                asked_fits';
          };
          count = t.count;
          address = t.address;
          allowed = may;
          current = record {
            station = w.station;
            request = w.request;
            since = w.since;
            waits = w.waits;
            stands = w.stands;
            arrived = so;
            has_octets = more_octets x.octets octets q.has_octets w.has_octets;
          };
          keeps = keeps;
          links = links;
          flags = λ i.
              unanswered_flags front addresses ended (grown x octets)
              (subst (λ (j : ℕ). option_and_then (answer_of (slice_index addresses j) x.request)
              (whole_of (front (x.octets ++ octets))) ≡ None) (sym w.station)
              (unreceived front here (grown x octets) arrived so)) i
              ∙ before_it i;
          sessions = λ i.
              alike_sessions front addresses ended x (grown x octets) refl refl
              (subst (λ (j : ℕ). option_and_then (answer_of (slice_index addresses j) x.request)
              (whole_of (front (x.octets ++ octets)))
              ≡ option_and_then (answer_of (slice_index addresses j) x.request)
              (whole_of (front x.octets)))
              (sym w.station)
              (unreceived front here (grown x octets) arrived so
              ∙ sym (unreceived front here x q.arrived w.arrived))) i
              ∙ t.sessions i;
          spoilt = spoilt;
        }

        by_front : (f : Front) → front (x.octets ++ octets) ≡ f →
            SaysBy front settings addresses
            (took p (with_octets octets q) (open_octets (x.octets ++ octets) f)
            (whole_of f)) (record { ended = ended; current = Some (grown x octets) })
        by_front More e = waits (Some (x.octets ++ octets)) (refl, e)
        by_front (Never place why) e = waits None
            (λ (more : List ℕ). ap
            (λ (f : Front). option_and_then (answer_of (slice_index addresses p.turn) x.request)
            (whole_of f)) (stable.never (x.octets ++ octets) more place why e))
        by_front (Whole frame n) e = say (answer_at p q frame) refl
          where
            outcome_for : (m : Option Answer) → answer_at p q frame ≡ m
                → answer_of (slice_index addresses p.turn) x.request frame ≡ m
            outcome_for m e' =
                ap (λ (a : ℕ). answer_of a x.request frame) (sym (t.address p.turn))
                ∙ ap (λ (r : Asked). answer_of (station_at p.stations p.turn).address r frame)
                w.request ∙ e'

            said : (m : Option Answer) → answer_at p q frame ≡ m
                → IsSaid front (slice_index addresses p.turn) (grown x octets) m
            said m e' more =
                ap
                (λ (f : Front). option_and_then (answer_of (slice_index addresses p.turn) x.request)
                (whole_of f))
                (stable.whole (x.octets ++ octets) more frame n e) ∙ outcome_for m e'

            say : (m : Option Answer) → answer_at p q frame ≡ m →
                SaysBy front settings addresses (said_by p (with_octets octets q) frame m)
                (record { ended = ended; current = Some (grown x octets) })
            say None e' = waits None (said None e')
            say (Some answer) e' =
                let s : StationState = station_answered (station_at p.stations p.turn) q.request
                frame answer in
                record {
                  settings_are = t.settings_are;
                  fits = record {
                    turn = subst (λ (n : ℕ). p.turn < n) (sym (length-set p.stations p.turn s))
                        t.fits.turn;
                    stations = set_fits p.settings.size p.stations p.turn s t.fits.turn
                        t.fits.stations
                        (answered_fits p.settings.size (station_at p.stations p.turn) q.request
                        frame answer
                        (station_fits p.settings.size p.stations p.turn t.fits.turn
                        t.fits.stations));
                    outstanding = tt;
                  };
                  count = length-set p.stations p.turn s ∙ t.count;
                  address = λ i. set_view (λ (r : StationState). r.address) p.stations p.turn s refl
                      i ∙ t.address i;
                  allowed = tt;
                  current = inr (inr (
                    answer,
                    subst (λ (i : ℕ). IsSaid front (slice_index addresses i) (grown x octets)
                        (Some answer))
                        (sym w.station) (said (Some answer) e'),
                  ));
                  keeps = keeps;
                  links = ended_links front settings addresses p.stations p.turn ended
                      (grown x octets) s t.fits.turn links w.station
                      (ap (λ (r : Asked). after_answer r answer (station_at p.stations p.turn).link)
                      (sym w.request)
                      ∙ ap (λ (m : Option Answer). after_outcome settings m x.request x.closed
                      (station_at p.stations p.turn).link)
                      (sym (said_now front (slice_index addresses p.turn) (grown x octets)
                      (Some answer)
                      (said (Some answer) e')))
                      ∙ ap (λ (g : Bool). if g then Down else after_outcome settings
                      (option_and_then (answer_of (slice_index addresses p.turn) x.request)
                      (whole_of (front (x.octets ++ octets)))) x.request x.closed
                      (station_at p.stations p.turn).link)
                      (sym w.stands));
                  flags = answered_flags front addresses p.stations p.turn ended
                      (grown x octets) s answer frame t.fits.turn before_it w.station
                      (subst
                      (λ (j : ℕ). option_and_then (answer_of (slice_index addresses j) x.request)
                      (whole_of (front (x.octets ++ octets))) ≡ Some answer) (sym w.station)
                      (said_now front here (grown x octets) (Some answer) (said (Some answer) e')))
                      (ap whole_of e) (flags_are frame);
                  sessions = answered_sessions front addresses p.stations p.turn ended x
                      (grown x octets) s answer t.fits.turn t.sessions w.station w.station refl
                      (unreceived front here x q.arrived w.arrived)
                      (said_now front here (grown x octets) (Some answer) (said (Some answer) e'))
                      (ap (λ (r : Asked). session_answered (station_at p.stations p.turn).session r
                      answer)
                      (sym w.request));
                  spoilt = spoilt;
                }

        by_received : (h : Option (List ℕ)) → q.arrived ≡ h
            → IsReceived front (slice_index addresses p.turn) x h →
            SaysBy front settings addresses (received_after front p (with_octets octets q) h octets)
            (record { ended = ended; current = Some (grown x octets) })
        by_received None at so =
            waits None (said_later front (slice_index addresses p.turn) x octets None so)
        by_received (Some before) at so =
            subst (λ (b : List ℕ). SaysBy front settings addresses
            (received_after front p (with_octets octets q) (Some b) octets)
            (record { ended = ended; current = Some (grown x octets) })) (sym so.0)
            (by_front (front (x.octets ++ octets)) refl)
