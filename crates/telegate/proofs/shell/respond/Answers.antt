use Rattle.std.proofs.Common.{ap, inl, subst, sym, Bool, List, ℕ, ◌∷◌, [], ◌∙◌}
use Rattle.telegate.specs.Shell.{ReplaysFile, Responds, files_of}
use Rattle.telegate.specs.declared.command_line.CommandRequest.{CommandRequest}
use Rattle.telegate.specs.Manners.{manner_of}
use Rattle.telegate.specs.declared.manner.Manner.{Manner}
use Rattle.telegate.proofs.Files.{first_of_more, has_checked, has_replayed, has_run, has_shown}
use Rattle.telegate.proofs.Files.{have_played}
use Rattle.telegate.proofs.Files.{unanswered}
use Rattle.telegate.proofs.shell.respond.Goals as goal

pub returns-in-Check-clause-responds : goal.returns-in-Check-clause-responds
returns-in-Check-clause-responds g c =
    has_checked (g.H.Host.has c.args.host.now) (g.H.Host.lacks c.args.host.now)
    (g.H.Host.ran c.args.host.now c.args.host.now) (g.H.Host.answered c.args.host.now)
    (g.H.Host.silent c.args.host.now) (g.H.Host.played c.args.host.now)
    (g.H.Host.stands c.args.host.now) (g.H.Host.colours c.args.host.now)
    c.args.request.now c.in-Check.config c.in-Check.site c.in-Check.live c.in-Check.explain
    (g.W.Write.contents c.args.out.now) (g.W.Write.contents c.check_behind.new.out)
    c.check_behind.result c.in-Check.is c.check_behind.ensures

pub returns-in-Err-clause-responds : goal.returns-in-Err-clause-responds
returns-in-Err-clause-responds g c =
    unanswered (g.H.Host.has c.args.host.now) (g.H.Host.lacks c.args.host.now)
    (g.H.Host.ran c.args.host.now c.args.host.now) (g.H.Host.answered c.args.host.now)
    (g.H.Host.silent c.args.host.now) (g.H.Host.played c.args.host.now)
    (g.H.Host.stands c.args.host.now) (g.H.Host.colours c.args.host.now)
    c.args.request.now _ (g.W.Write.contents c.args.out.now) c.in-Err.status
    (ap files_of c.in-Replay.is)
    (first_of_more (g.H.Host.has c.args.host.now) (g.H.Host.lacks c.args.host.now)
    c.in-Replay.config.now
    (c.in-Replay.trace.now ∷ []) c.in-Err.status c.in-Err.ensures.unread)

pub returns-in-Err-read_files-clause-responds : goal.returns-in-Err-read_files-clause-responds
returns-in-Err-read_files-clause-responds g c =
    unanswered (g.H.Host.has c.args.host.now) (g.H.Host.lacks c.args.host.now)
    (g.H.Host.ran c.args.host.now c.args.host.now) (g.H.Host.answered c.args.host.now)
    (g.H.Host.silent c.args.host.now) (g.H.Host.played c.args.host.now)
    (g.H.Host.stands c.args.host.now) (g.H.Host.colours c.args.host.now)
    c.args.request.now _
    (g.W.Write.contents c.args.out.now) c.in-Err-read_files.status
    (ap files_of c.in-Sim.is) c.in-Err-read_files.ensures.unread

pub returns-in-Err-read_file-clause-responds : goal.returns-in-Err-read_file-clause-responds
returns-in-Err-read_file-clause-responds g c =
    unanswered (g.H.Host.has c.args.host.now) (g.H.Host.lacks c.args.host.now)
    (g.H.Host.ran c.args.host.now c.args.host.now) (g.H.Host.answered c.args.host.now)
    (g.H.Host.silent c.args.host.now) (g.H.Host.played c.args.host.now)
    (g.H.Host.stands c.args.host.now) (g.H.Host.colours c.args.host.now)
    c.args.request.now _ (g.W.Write.contents c.args.out.now) c.in-Err-read_file.status
    (ap files_of c.in-Audit.is)
    (first_of_more (g.H.Host.has c.args.host.now) (g.H.Host.lacks c.args.host.now)
    c.in-Audit.config.now
    (c.in-Audit.text.now ∷ []) c.in-Err-read_file.status c.in-Err-read_file.ensures.unread)

pub returns-in-Run-clause-responds : goal.returns-in-Run-clause-responds
returns-in-Run-clause-responds g c =
    has_run (g.H.Host.has c.args.host.now) (g.H.Host.lacks c.args.host.now)
    (g.H.Host.ran c.args.host.now c.run_wished.new.host) (g.H.Host.answered c.args.host.now)
    (g.H.Host.silent c.args.host.now) (g.H.Host.played c.args.host.now)
    (g.H.Host.stands c.args.host.now) (g.H.Host.colours c.args.host.now)
    c.args.request.now c.in-Run.config c.in-Run.words
    (g.W.Write.contents c.args.out.now) c.run_wished.result c.in-Run.is c.run_wished.ensures.runs

pub returns-in-Ok-clause-responds : goal.returns-in-Ok-clause-responds
returns-in-Ok-clause-responds g c =
    has_replayed (g.H.Host.has c.args.host.now) (g.H.Host.lacks c.args.host.now)
    (g.H.Host.ran c.args.host.now c.args.host.now) (g.H.Host.answered c.args.host.now)
    (g.H.Host.silent c.args.host.now) (g.H.Host.played c.args.host.now)
    (g.H.Host.stands c.args.host.now) (g.H.Host.colours c.args.host.now)
    c.args.request.now c.in-Replay.config c.in-Replay.trace c.in-Replay.left c.in-Replay.counts
    c.in-Replay.words
    c.in-Replay.color c.in-Ok.octets.items (g.W.Write.contents c.args.out.now)
    (g.W.Write.contents c.replay_file.new.out) c.replay_file.result c.in-Replay.is
    c.in-Ok.ensures.read
    (subst (λ (manner : Manner). ReplaysFile (g.H.Host.has c.args.host.now)
    (g.H.Host.lacks c.args.host.now)
    c.in-Replay.trace.now c.in-Ok.octets.items manner
    (record { left = c.in-Replay.left; counts = c.in-Replay.counts })
    (g.W.Write.contents c.args.out.now)
    (g.W.Write.contents c.replay_file.new.out) c.replay_file.result)
    (c.manner_of.ensures ∙ ap (λ (b : Bool). manner_of c.in-Replay.words c.in-Replay.color b)
    c.shows_colours-has_colours.ensures)
    (subst (λ (xs : List ℕ). ReplaysFile (g.H.Host.has c.args.host.now)
    (g.H.Host.lacks c.args.host.now)
    c.in-Replay.trace.now xs c.manner_of.result
    (record { left = c.in-Replay.left; counts = c.in-Replay.counts })
    (g.W.Write.contents c.args.out.now)
    (g.W.Write.contents c.replay_file.new.out) c.replay_file.result)
    c.as_slice.ensures.value
    c.replay_file.ensures))

pub returns-in-Err-read_file-2-clause-responds : goal.returns-in-Err-read_file-2-clause-responds
returns-in-Err-read_file-2-clause-responds g c =
    unanswered (g.H.Host.has c.args.host.now) (g.H.Host.lacks c.args.host.now)
    (g.H.Host.ran c.args.host.now c.args.host.now) (g.H.Host.answered c.args.host.now)
    (g.H.Host.silent c.args.host.now) (g.H.Host.played c.args.host.now)
    (g.H.Host.stands c.args.host.now) (g.H.Host.colours c.args.host.now)
    c.args.request.now _ (g.W.Write.contents c.args.out.now) c.in-Err-read_file-2.status
    (ap files_of c.in-Capture.is)
    (first_of_more (g.H.Host.has c.args.host.now) (g.H.Host.lacks c.args.host.now)
    c.in-Capture.config.now
    (c.in-Capture.text.now ∷ []) c.in-Err-read_file-2.status c.in-Err-read_file-2.ensures.unread)

pub returns-in-Stations-clause-responds : goal.returns-in-Stations-clause-responds
returns-in-Stations-clause-responds g c =
    have_played (g.H.Host.has c.args.host.now) (g.H.Host.lacks c.args.host.now)
    (g.H.Host.ran c.args.host.now c.args.host.now) (g.H.Host.answered c.args.host.now)
    (g.H.Host.silent c.args.host.now) (g.H.Host.played c.args.host.now)
    (g.H.Host.stands c.args.host.now) (g.H.Host.colours c.args.host.now)
    c.args.request.now c.in-Stations.config c.in-Stations.script c.in-Stations.words
    (g.W.Write.contents c.args.out.now) c.play_files.result c.in-Stations.is c.play_files.ensures

pub returns-in-State-clause-responds : goal.returns-in-State-clause-responds
returns-in-State-clause-responds g c =
    has_shown (g.H.Host.has c.args.host.now) (g.H.Host.lacks c.args.host.now)
    (g.H.Host.ran c.args.host.now c.args.host.now) (g.H.Host.answered c.args.host.now)
    (g.H.Host.silent c.args.host.now) (g.H.Host.played c.args.host.now)
    (g.H.Host.stands c.args.host.now) (g.H.Host.colours c.args.host.now)
    c.args.request.now c.in-State.directory c.in-State.config c.in-State.reports (g.W.Write.contents c.args.out.now)
    (g.W.Write.contents c.show_state.new.out) c.show_state.result c.in-State.is
    c.show_state.ensures

pub returns-in-Centre-clause-responds : goal.returns-in-Centre-clause-responds
returns-in-Centre-clause-responds g c =
    subst (λ (r : CommandRequest). Responds (g.H.Host.has c.args.host.now)
    (g.H.Host.lacks c.args.host.now)
    (g.H.Host.ran c.args.host.now c.args.host.now) (g.H.Host.answered c.args.host.now)
    (g.H.Host.silent c.args.host.now) (g.H.Host.played c.args.host.now)
    (g.H.Host.stands c.args.host.now) (g.H.Host.colours c.args.host.now)
    r (g.W.Write.contents c.args.out.now) (g.W.Write.contents c.be_centre.new.out)
    c.be_centre.result)
    (sym c.in-Centre.is) (inl c.be_centre.ensures)
