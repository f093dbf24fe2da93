-- How long the oldest report of the queue has waited at least (this gateway's own profile).
use Rattle.std.specs.Prelude.{ℕ, ◌+◌, ◌-◌, ◌==◌, max, nat_lt, Bool, List, [], ◌∷◌}
use Rattle.std.specs.Prelude.{◌++◌, length, Option, Some, None, if◌then◌else◌}
use Rattle.std.specs.Io.Iter.{u64_saturate}
use Rattle.gateway.specs.State.{State}
use Rattle.runlog.specs.Watching.{Watching}
use Rattle.runlog.specs.declared.traffic.Traffic.{Traffic}
use Rattle.status.specs.declared.lookout.oldest.Mark.{Mark}

-- so many reports, and those that have come from the stations
abbrev pub come_from : ℕ → List Traffic → ℕ
come_from n [] = n
come_from n (t ∷ traffic) = come_from (u64_saturate (n + t.reports)) traffic

-- A report is cut into pieces of 240 octets or more and a last one, so a shorter piece ends one.
abbrev pub ends_report : List ℕ → Bool
ends_report piece = nat_lt (length piece) 240

-- so many reports, and those of which the last one of these pieces is here
abbrev pub ended_from : ℕ → List (List ℕ) → ℕ
ended_from n [] = n
ended_from n (piece ∷ pieces) =
    ended_from (if ends_report piece then u64_saturate (n + 1) else n) pieces

-- the pieces that no connection has acknowledged
abbrev pub pieces_in : State → List (List ℕ)
pieces_in gateway = gateway.centre.queue.sent ++ gateway.centre.queue.unsent

-- so many reports are queued at least, if any is
abbrev pub queued : State → ℕ
queued gateway = max (ended_from 0 (pieces_in gateway)) 1

-- more reports are queued than have come since the mark, so one of them was queued then
abbrev pub holds : Mark → (come queued : ℕ) → Bool
holds mark come queued = nat_lt (come - mark.come) queued

abbrev pub set_anew : Watching → Mark
set_anew w = record { moment = w.moment; come = come_from 0 w.traffic }

-- a mark that holds stays, and else it is set anew
abbrev pub goes_on : State → Watching → Option Mark → Mark
goes_on gateway w None = set_anew w
goes_on gateway w (Some mark) =
    if holds mark (come_from 0 w.traffic) (queued gateway) then mark else set_anew w

-- the mark at a count of the queue: none if no place is taken
abbrev pub marked : State → Watching → (taken : ℕ) → Option Mark → Option Mark
marked gateway w taken mark = if taken == 0 then None else Some (goes_on gateway w mark)

-- so many ms have passed from the mark to the latest count
abbrev pub waited : (counted : Option ℕ) → Option Mark → Option ℕ
waited (Some counted) (Some mark) = Some (counted - mark.moment)
waited (Some counted) None = None
waited None mark = None
