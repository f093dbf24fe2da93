use Rattle.std.proofs.Common.{rules, List, ℕ, ◌∷◌, ◌++◌, append_assoc, sym, ◌∙◌, ap, Option}
use Rattle.apci.specs.Assembly.{so_far_numbers}
use Rattle.session.specs.Restored.{session_lines}
use Rattle.events.specs.Restored.{queue_lines}
use Rattle.gateway.specs.declared.settings.LineSettings.{LineSettings}
use Rattle.gateway.proofs.ReadBack.{octets_in, centre_back, centre_taken}
use Rattle.gateway.proofs.engine.centre.CentreSide.read_state.Goals as goal

pub returns-clause-back : goal.returns-clause-back
returns-clause-back g c = λ s rest savable has none e.
    let o = octets_in s savable in
    let all : List (List ℕ) = (session_lines s.session ++ queue_lines s.queue) ++ rest in
    let k = c.in_ok-assembler.ensures.back o.0 all o.2 (e
    ∙ ap (λ (x : Option (List ℕ)). so_far_numbers x ∷ all) o.1) in
    let m = c.in_ok-session.ensures.back s.session _ savable.session has.session
    (k.2 ∙ append_assoc (session_lines s.session) (queue_lines s.queue) rest) in
    let t = c.in_ok-queue.ensures.same s.queue rest savable.queue (has.places
    ∙ ap (λ (l : LineSettings). l.queue) (sym c.line.ensures) ∙ sym c.from-places.ensures) m.1 in
    centre_back c.joined.result c.in_ok-session.session c.in_ok-assembler.assembler
    c.in_ok-queue.queue s _
    c.joined.ensures m.0 (k.0 ∙ sym o.1) k.1 t.0 none savable.whole.counted t.1

pub returns-clause-taken : goal.returns-clause-taken
returns-clause-taken g c = centre_taken c.joined.result c.in_ok-session.session
    c.in_ok-assembler.assembler
    c.in_ok-queue.queue c.joined.ensures c.in_ok-assembler.ensures.taken

pub returns-in_err-assembler-clause-back : goal.returns-in_err-assembler-clause-back
returns-in_err-assembler-clause-back g c = λ s rest savable has none e.
    let o = octets_in s savable in
    let all : List (List ℕ) = (session_lines s.session ++ queue_lines s.queue) ++ rest in
    let h = c.in_err-assembler.ensures.back o.0 all o.2
    (e ∙ ap (λ (x : Option (List ℕ)). so_far_numbers x ∷ all) o.1) in search rules

pub returns-in_err-session-clause-back : goal.returns-in_err-session-clause-back
returns-in_err-session-clause-back g c = λ s rest savable has none e.
    let o = octets_in s savable in
    let all : List (List ℕ) = (session_lines s.session ++ queue_lines s.queue) ++ rest in
    let k = c.in_ok-assembler.ensures.back o.0 all o.2 (e
    ∙ ap (λ (x : Option (List ℕ)). so_far_numbers x ∷ all) o.1) in
    let h = c.in_err-session.ensures.back s.session _ savable.session has.session
    (k.2 ∙ append_assoc (session_lines s.session) (queue_lines s.queue) rest) in search rules

pub returns-in_err-queue-clause-back : goal.returns-in_err-queue-clause-back
returns-in_err-queue-clause-back g c = λ s rest savable has none e.
    let o = octets_in s savable in
    let all : List (List ℕ) = (session_lines s.session ++ queue_lines s.queue) ++ rest in
    let k = c.in_ok-assembler.ensures.back o.0 all o.2 (e
    ∙ ap (λ (x : Option (List ℕ)). so_far_numbers x ∷ all) o.1) in
    let m = c.in_ok-session.ensures.back s.session _ savable.session has.session
    (k.2 ∙ append_assoc (session_lines s.session) (queue_lines s.queue) rest) in
    let h = c.in_err-queue.ensures.same s.queue rest savable.queue (has.places
    ∙ ap (λ (l : LineSettings). l.queue) (sym c.line.ensures) ∙ sym c.from-places.ensures) m.1 in
    search rules
