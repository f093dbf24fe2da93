-- What has happened at ends in memory, which note it as entries of a log (profile).
use Rattle.std.specs.Prelude.{ℕ, List, [], ◌∷◌, Bool, true, false, ◌==◌, Some, Ok, Err}
use Rattle.std.specs.Prelude.{if◌then◌else◌}
use Rattle.gateway.specs.Log.{Log, Came, Went, LineIn, LineOut, TcpOut, Opened, CutOff, Ticked}
use Rattle.gateway.specs.Log.{WallIs}
use Rattle.live.specs.AllowLists.{Refusals}
use Rattle.live.specs.declared.ends.RefusedPeers.{RefusedPeers}
use Rattle.live.specs.OctetStreams.{Happening, Gave, WasQuiet, WasGone, Dropped, Wrote}
use Rattle.live.specs.Redial.{DialCall, Dialed, Asked}
use Rattle.live.specs.Streams.{Received, Sent, Sets, SystemCall}
use Rattle.live.specs.declared.stream.Setting.{Setting}
use Rattle.live.specs.declared.stream.Setting.TheVariants.{ReadsWithin, SendsAtOnce, Waiting}
use Rattle.live.specs.declared.stream.Setting.TheVariants.{WritesWithin}
use Rattle.std.specs.declared.io.Error.{Error}
use Rattle.std.specs.declared.net.ip_addr.IpAddr.{IpAddr}

-- At a stream: octets came, or a look found nothing, or found it gone; so many that had come were
-- dropped; or octets were put on it, with the number 1 if it took them.
abbrev pub happenings : Log → List Happening
happenings [] = []
happenings (Came now (LineIn octets) ∷ log) = Gave octets ∷ happenings log
happenings (Came now Ticked ∷ log) = WasQuiet ∷ happenings log
happenings (Came now CutOff ∷ log) = WasGone ∷ happenings log
happenings (Came now (WallIs count) ∷ log) = Dropped count ∷ happenings log
happenings (Went taken (LineOut octets) ∷ log) = Wrote octets (taken == 1) ∷ happenings log
happenings (entry ∷ log) = happenings log

-- at a listener: a connection was accepted, or none
abbrev pub attempts_in : Log → List Bool
attempts_in [] = []
attempts_in (Came now Opened ∷ log) = true ∷ attempts_in log
attempts_in (Came now Ticked ∷ log) = false ∷ attempts_in log
attempts_in (entry ∷ log) = attempts_in log

-- and those who connected from this address and were refused
abbrev pub refused_in : IpAddr → Log → List IpAddr
refused_in address [] = []
refused_in address (Came now CutOff ∷ log) = address ∷ refused_in address log
refused_in address (entry ∷ log) = refused_in address log

abbrev pub refusals_of : IpAddr → Log → RefusedPeers → Refusals
refusals_of address log said = record { peers = Some (refused_in address log); said = said }

-- at a dialler: a try was begun, with the number 1 if that reached a stream, or it was asked about
-- one
abbrev pub dial_calls_in : Log → List DialCall
dial_calls_in [] = []
dial_calls_in (Went reached (LineOut octets) ∷ log) = Dialed (reached == 1) ∷ dial_calls_in log
dial_calls_in (Went reached (TcpOut octets) ∷ log) = Asked (reached == 1) ∷ dial_calls_in log
dial_calls_in (entry ∷ log) = dial_calls_in log

-- at a clock: the moments that it gave
abbrev pub moments_in : Log → List ℕ
moments_in [] = []
moments_in (Came now Ticked ∷ log) = now ∷ moments_in log
moments_in (entry ∷ log) = moments_in log

-- and what its wall clock showed
abbrev pub shown_in : Log → List ℕ
shown_in [] = []
shown_in (Came now (WallIs shown) ∷ log) = shown ∷ shown_in log
shown_in (entry ∷ log) = shown_in log

-- How a stream of the system is set. At the moment 0 it is to wait at calls, with the number 1, or
-- not to. At 1 it is to read and at 2 to write within so many ms, and else to send at once.
abbrev pub setting_of : (moment number : ℕ) → Setting
setting_of moment number =
    if moment == 0 then Waiting (number == 1)
    else if moment == 1 then ReadsWithin number
    else if moment == 2 then WritesWithin number
    else SendsAtOnce

-- The calls of such a stream: so many octets came, or none with this fault; or so many of those
-- that were handed to it were taken; or it was set.
abbrev pub calls_in : Error → Log → List SystemCall
calls_in fault [] = []
calls_in fault (Went count (LineOut octets) ∷ log) =
    Received octets (Ok count) ∷ calls_in fault log
calls_in fault (Went count (TcpOut octets) ∷ log) = Sent octets (Ok count) ∷ calls_in fault log
calls_in fault (Came now Ticked ∷ log) = Received [] (Err fault) ∷ calls_in fault log
calls_in fault (Came now (WallIs number) ∷ log) =
    Sets (setting_of now number) true ∷ calls_in fault log
calls_in fault (entry ∷ log) = calls_in fault log
