-- The faults with which a live run doesn't begin, and with what it begins.
use Rattle.std.proofs.Common.{◌≡◌, ◌∙◌, Bool, true, false, ap, refl, sym, subst}
use Rattle.std.proofs.Common.{None, Option, Result, Ok, Err}
use Rattle.gateway.specs.Config.{Settings}
use Rattle.gateway.specs.Log.{Log}
use Rattle.runlog.specs.Logging.{Book}
use Rattle.sqlite_disk.specs.declared.Disk.{Ghosts}
use Rattle.state.specs.Beginnings.{moment_at}
use Rattle.state.specs.Origins.{IsBegun}
use Rattle.state.specs.declared.beginning.Origin.{Origin}
use Rattle.state.specs.declared.opened.Opened.{Opened}
use Rattle.state.specs.declared.start.Beginning.{Beginning}
use Rattle.telegate.specs.Asked.{Asked, UnclockedIfErr}
use Rattle.telegate.specs.Kept.{IsEndFault, IsKeptFault}
use Rattle.telegate.specs.Logged.{IsUnkept, LogsBeginning, LogsFound, LogsStart, LogsUnused}
use Rattle.telegate.specs.Logged.{LogsWithout, fault_of}
use Rattle.telegate.specs.Starts.{Found, IsWithout, StartsIn, Without}
use Rattle.telegate.specs.declared.fault.RunFault.{RunFault}
use Rattle.telegate.specs.declared.fault.RunFault.TheVariants.{NoMemory, StateInUse, StateUnusable}
use Rattle.telegate.specs.declared.host.Wishes.{Wishes}

pub end_is_kept : (fault : RunFault) → IsEndFault fault → IsKeptFault fault
end_is_kept StateInUse is = tt
end_is_kept (StateUnusable cause) is = tt
end_is_kept fault is = is

pub unkept_is_kept : (fault : RunFault) (old new : Book) → IsUnkept fault old new
    → IsKeptFault fault
unkept_is_kept StateInUse old new is = tt
unkept_is_kept (StateUnusable cause) old new is = tt
unkept_is_kept NoMemory old new is = tt
unkept_is_kept fault old new is = absurd is

pub memory_is_end : (fault : RunFault) → fault ≡ NoMemory → IsEndFault fault
memory_is_end fault is = subst IsEndFault (sym is) tt

pub memory_is_unkept : (fault : RunFault) (book : Book) → fault ≡ NoMemory
    → IsUnkept fault book book
memory_is_unkept fault book is = subst (λ (f : RunFault). IsUnkept f book book) (sym is) refl

by_memory : (is_memory : Bool) → IsEndFault (fault_of is_memory)
by_memory true = tt
by_memory false = tt

pub refused_is_end : (fault : RunFault) (is_memory : Bool) → fault ≡ fault_of is_memory
    → IsEndFault fault
refused_is_end fault is_memory is = subst IsEndFault (sym is) (by_memory is_memory)

-- no clock was given, whatever the error
pub still_unclocked : {A E : Type 0} (result : Result A E) (old new : Asked)
    → new.clocks ≡ old.clocks → UnclockedIfErr result old new
still_unclocked (Ok value) old new is = tt
still_unclocked (Err fault) old new is = is

-- with what a directory has, whose log so far goes by another name
pub found_in : {D : Type 0} (g : Ghosts D) (wishes : Wishes) (c : Settings) (one log : Log)
    (mark : Option Bool) (opened : Opened D g) (o : Origin) → one ≡ log
    → IsBegun c one mark opened o → StartsIn g wishes c log o
found_in g wishes c one log mark opened o same begun =
    Found (record {
      mark = mark;
      opened = opened;
      begun = subst (λ (l : Log). IsBegun c l mark opened o) same begun;
    })

-- or without that
pub without_in : {D : Type 0} (g : Ghosts D) (wishes : Wishes) (c : Settings) (log : Log)
    (o : Origin) → IsWithout wishes c o → StartsIn g wishes c log o
without_in g wishes c log o none = Without none

-- that is logged
pub logs_found : (marked : Type 0) (o : Origin) (old new : Book) → LogsBeginning o old new
    → LogsStart marked o old new
logs_found marked o old new logs = LogsFound logs

pub logs_unused : (marked : Type 0) (o : Origin) (old new : Book) → LogsWithout old new → marked
    → LogsStart marked o old new
logs_unused marked o old new logs is = LogsUnused logs is

-- the clock goes on if the gateway does
pub moment_in : {D : Type 0} (g : Ghosts D) (wishes : Wishes) (c : Settings) (log : Log)
    (o : Origin) → StartsIn g wishes c log o → o.moment ≡ moment_at o.beginning o.gateway.moment
moment_in g wishes c log o (Found begins) = begins.begun.moment
moment_in g wishes c log o (Without none) =
    none.moment ∙ sym (ap (λ (b : Beginning). moment_at b o.gateway.moment) none.anew)
