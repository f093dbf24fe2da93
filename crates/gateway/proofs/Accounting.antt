-- What a state between two steps keeps and has counted.
use Rattle.std.proofs.Common.{◌≡◌, [], ◌∷◌, length, drop, refl, ap, sym, subst, ◌∙◌, Option, Some}
use Rattle.std.proofs.Common.{None}
use Rattle.std.specs.Prelude.{IfSome, Bool, true, false}
use Rattle.std.specs.List.{flat_map}
use Rattle.std.specs.Bool.{OnTrue}
use Rattle.std.proofs.Math.Seq.{drop-append_seam}
use Rattle.events.specs.Queue.{kept}
use Rattle.gateway.specs.Log.{Log, with_news}
use Rattle.gateway.specs.Runs.{UnlessDevice}
use Rattle.gateway.specs.declared.runs.End.{End}
use Rattle.gateway.specs.declared.runs.End.TheVariants.{Finished, Turns, Device}
use Rattle.gateway.specs.Objects.{objects}
use Rattle.gateway.specs.Reports.{Setup, taken_objects, taken_pieces, reports_in, parts_of_all}
use Rattle.gateway.specs.Course.{here_of}
use Rattle.gateway.specs.Serial.{Serial}
use Rattle.gateway.specs.Phases.{resting}
use Rattle.gateway.specs.State.{State}
use Rattle.gateway.specs.Agrees.{Agrees, Carries, Follows}
use Rattle.gateway.specs.Accounts.{IsAccounted}
use Rattle.gateway.specs.Traffic.{IsFaithful}
use Rattle.gateway.specs.Order.{KeepsOrder}
use Rattle.gateway.proofs.Agreement.{faithful}
use Rattle.gateway.proofs.Closing.{stands_now}
use Rattle.gateway.proofs.Learning.{at_rest_works}
use Rattle.gateway.proofs.Objects.{carries_end}

accounted_at : (p : Setup) (s : State) (log : Log) (a : Agrees p s log [] (resting log))
    → IsAccounted p s log
accounted_at p s log a = record {
  course = a.course;
  course_runs = a.talk.course_runs;
  are = record { open_one = stands_now p s log (resting log) a; earlier = a.before.are };
  left = sym (ap (λ n. drop n (taken_objects p log)) (sym all.front)
      ∙ ap (drop (length all.gone)) all.joined
      ∙ drop-append_seam all.gone (flat_map objects (kept s.centre.queue)));
  skipped = ap (λ (z : Serial). z.counts.skipped) (at_rest_works p s log a);
  mirrors = ap (λ (z : Serial). z.counts.mirrors) (at_rest_works p s log a);
  lost = ap (λ (z : Serial). z.counts.lost) (at_rest_works p s log a);
  spoilt = a.line.spoilt;
}
  where
    all : Carries (taken_objects p log) (parts_of_all p.sizes (reports_in p log))
        (taken_pieces p log)
        (here_of a.course ∷ a.course.earlier) [] (kept s.centre.queue)
    all = carries_end (taken_objects p log) (parts_of_all p.sizes (reports_in p log))
        (taken_pieces p log) a.course.earlier
        (here_of a.course) s.centre.session s.centre.queue.sent s.centre.queue.unsent a.here.tied
        a.carries

unlogged : (old : Option Log) → with_news old [] ≡ old
unlogged None = refl
unlogged (Some log) = refl

pub accounted : (p : Setup) (s : State) (logged : Option Log) → Follows p s logged
    → IfSome logged (IsAccounted p s)
accounted p s None h = tt
accounted p s (Some log) h = accounted_at p s log h.0

-- and so after a step, unless the device failed
pub step_accounted : (result : Bool) (p : Setup) (s : State) (logged : Option Log)
    → OnTrue result (Follows p s logged)
    → OnTrue result (IfSome logged (IsAccounted p s))
step_accounted true p s logged h = accounted p s logged h
step_accounted false p s logged h = tt

-- the actions of each step keep their order
pub ordered : (p : Setup) (s : State) (logged : Option Log)
    → ((log : Log) → IsFaithful p log → KeepsOrder log)
    → Follows p s logged → IfSome logged KeepsOrder
ordered p s None law h = tt
ordered p s (Some log) law h = law log (faithful p s log [] (resting log) h.0)

-- at the end of a run, when no more has come
pub ends_accounted : (e : End) (p : Setup) (s : State) (old new : Option Log) (news : Log)
    → Follows p s old
    → new ≡ with_news old news → news ≡ [] → UnlessDevice e (IfSome new (IsAccounted p s))
ends_accounted Finished p s old new news h logged none =
    accounted p s new (subst (Follows p s) (sym (logged ∙ ap (with_news old) none ∙ unlogged old))
    h)
ends_accounted Turns p s old new news h logged none = accounted p s new
    (subst (Follows p s) (sym (logged ∙ ap (with_news old) none ∙ unlogged old)) h)
ends_accounted Device p s old new news h logged none = tt

-- at the end of a run the log is the one of the last step
pub logged_same : (old new : Option Log) (news : Log) → new ≡ with_news old news → news ≡ []
    → new ≡ old
logged_same old new news logged none = logged ∙ ap (with_news old) none ∙ unlogged old

pub unless_device : (e : End) (P : Type 0) → P → UnlessDevice e P
unless_device Finished P h = h
unless_device Turns P h = h
unless_device Device P h = tt
