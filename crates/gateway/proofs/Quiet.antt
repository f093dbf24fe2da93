-- What a restart is in a course, and that nothing goes out at it.
use Rattle.std.proofs.Common.{◌≡◌, ℕ, Bool, true, false, ◌∷◌, refl, ap, sym, subst, ◌∙◌}
use Rattle.link.specs.Carried.{awaits_command}
use Rattle.link.specs.Turns.{station_at}
use Rattle.gateway.specs.Log.{Log, Restarted}
use Rattle.gateway.specs.Log.{Came, Went, Output, LineOut, TcpOut, Closed, GapOut, latest}
use Rattle.gateway.specs.Connections.{present}
use Rattle.gateway.specs.Reports.{Setup}
use Rattle.gateway.specs.Course.{Course, room_in, IsLeft, Runs}
use Rattle.gateway.specs.Carried.{without_commands}
use Rattle.gateway.specs.Works.{restarted_works}
use Rattle.gateway.specs.Restarts.{GivesUpCommands}
use Rattle.gateway.specs.Traffic.{IsFaithful}
use Rattle.gateway.proofs.Restarting.{restarted_serial, restarted_due, done_due}
use Rattle.gateway.proofs.Following.{fresh_due, fresh_shut}
use Rattle.gateway.proofs.Carrying as carrying
use Rattle.gateway.proofs.Carrying.{IsForOne}

-- The course of a restart

pub given_up : IsForOne → (p : Setup) (log : Log) (at : ℕ) (c : Course)
    → Runs p (Came at Restarted ∷ log) c
    → (before : Course) × (left : Course) × Runs p log before × IsLeft p log before left
    × (latest (Came at Restarted ∷ log) ≡ latest log) × GivesUpCommands (present log).is_open left c
given_up law p log at c r = (
  r.0,
  r.1,
  r.2,
  r.4,
  r.5.0,
  subst (GivesUpCommands (present log).is_open r.1) (sym r.5.1) (record {
    done = λ k lt.
        subst (λ s. awaits_command s.line k ≡ false) (sym is)
        (carrying.done law r.1.works.serial k lt);
    down = λ k lt e.
        ap (λ s. station_at s.line.stations k) is
        ∙ carrying.down law r.1.works.serial k lt e;
    others = λ k lt e.
        ap (λ s. station_at s.line.stations k) is ∙ carrying.others law r.1.works.serial k lt e;
    talk = refl;
    sent = refl;
    earlier = refl;
    waiting = refl;
    selections = refl;
    answers = refl;
    undue = restarted_due r.1.works ∙ ap (λ (d : Course). d.works.is_due) r.4.is
        ∙ done_due (latest log) (room_in p log r.0) r.0.works;
  }),
)
  where
    is : (restarted_works r.1.works).serial ≡ without_commands r.1.works.serial
    is = restarted_serial r.1.works

-- Nothing goes out, since nothing is due and no connection is open

not_due : (b : Bool) → b ≡ false → b ≡ true → ⊥
not_due b off on = let no : false ≡ true = sym off ∙ on in cc

pub nothing_goes : (p : Setup) (log : Log) (at now : ℕ) (action : Output)
    → IsFaithful p (Went now action ∷ Came at Restarted ∷ log) → ⊥
nothing_goes p log at now (LineOut octets) f =
    let r = f.course_runs in
    not_due r.0.works.is_due (fresh_due p (Came at Restarted ∷ log) r.0 tt r.1) r.2.due
nothing_goes p log at now (GapOut station session) f =
    let r = f.course_runs in
    not_due r.0.works.is_due (fresh_due p (Came at Restarted ∷ log) r.0 tt r.1) r.2.due
nothing_goes p log at now (Closed cause) f =
    let r = f.course_runs in
    not_due r.0.works.is_due (fresh_due p (Came at Restarted ∷ log) r.0 tt r.1) r.4
nothing_goes p log at now (TcpOut octets) f =
    fresh_shut (Came at Restarted ∷ log) tt f.acts.0.may.0
