-- One address of a host after another is waited for.
use Rattle.std.proofs.Common.{◌≡◌, ℕ, ◌+◌, List, Option, Some, None, Result, Ok, Err}
use Rattle.std.proofs.Common.{IsErrAnd, refl, sym, ap, subst, ◌∙◌}
use Rattle.std.specs.Result.{is_ok}
use Rattle.std.specs.declared.io.Error.{Error}
use Rattle.std.specs.declared.net.socket_addr.SocketAddr.{SocketAddr}
use Rattle.live.specs.Reaching.{AllTried, Answers, Came, IsFault, IsThere, IsUsable, Known}
use Rattle.live.specs.Reaching.{LookedUp, NoMore, NotThere, OneAddress, Opened}
use Rattle.live.specs.Reaching.{ReachSteps, ReachesAt, ReachesHost, ReachesOne, Unknown}
use Rattle.live.specs.Reaching.{Waited, WaitedAt, WaitsInVain, step_noted}
use Rattle.live.specs.declared.reach.ReachedStream.{ReachedStream}

usable : {A : Type 0} (answer : Result A Error) → IsUsable answer (is_ok answer)
usable (Ok line) = refl
usable (Err fault) = refl

fault_is : {A : Type 0} (answer : Result A Error) (fault : Error)
    → IsErrAnd answer (λ y. y ≡ fault) → IsFault answer fault
fault_is (Ok line) fault is = absurd is
fault_is (Err it) fault is = is

-- one that was waited for in vain
waited : (between mid after : ReachSteps) (address : SocketAddr)
    (answer its : Result ReachedStream Error) → mid ≡ step_noted (Came (Some address)) between
    → answer ≡ its → after ≡ step_noted (Waited address 5000 answer) mid
    → after
    ≡ step_noted (Waited address 5000 its) (step_noted (Came (Some address)) between)
waited between mid after address answer its came was then =
    then ∙ (ap (λ a. step_noted (Waited address 5000 a) mid) was
    ∙ ap (λ m. step_noted (Waited address 5000 its) m) came)

pub waits_on : (before between mid after : ReachSteps) (count : ℕ) (address : SocketAddr)
    (last fault : Error) (answer : Result ReachedStream Error)
    → WaitsInVain before count last between → mid ≡ step_noted (Came (Some address)) between
    → answer ≡ Err fault → after ≡ step_noted (Waited address 5000 answer) mid
    → WaitsInVain before (count + 1) fault after
waits_on before between mid after count address last fault answer vain came was then =
    subst (λ s. WaitsInVain before (count + 1) fault s)
    (sym (waited between mid after address answer (Err fault) came was then))
    (OneAddress count between address last fault vain)

pub none_left : {A : Type 0} (before between after : ReachSteps) (count : ℕ) (last : Error)
    (came : Option SocketAddr) → WaitsInVain before count last between
    → after ≡ step_noted (Came came) between → came ≡ None
    → ReachesOne {A = A} (Err last) before after
none_left before between after count last came vain noted is =
    NoMore count between last vain refl (noted ∙ ap (λ c. step_noted (Came c) between) is)

pub one_answers : {A : Type 0} (before between mid on after : ReachSteps) (count : ℕ)
    (address : SocketAddr) (last : Error) (answer : Result ReachedStream Error)
    (stream : ReachedStream) (line : Result A Error) → WaitsInVain before count last between
    → mid ≡ step_noted (Came (Some address)) between → answer ≡ Ok stream
    → on ≡ step_noted (Waited address 5000 answer) mid
    → after ≡ step_noted (Opened stream (is_ok line)) on → ReachesOne line before after
one_answers before between mid on after count address last answer stream line vain came was then
    opened =
    Answers count between address last stream (is_ok line) vain (usable line)
    (opened ∙ ap (λ s. step_noted (Opened stream (is_ok line)) s)
    (waited between mid on address answer (Ok stream) came was then))

pub all_tried : {A : Type 0} (before after : ReachSteps) (count : ℕ) (last : Error) → count ≡ 32
    → WaitsInVain before count last after → ReachesOne {A = A} (Err last) before after
all_tried before after count last all vain =
    AllTried last (subst (λ n. WaitsInVain before n last after) all vain) refl

-- the socket at a path
pub not_there : {A : Type 0} (path its : List ℕ) (before after : ReachSteps)
    (answer : Result ReachedStream Error) (fault : Error) (line : Result A Error) → its ≡ path
    → after ≡ step_noted (WaitedAt its answer) before → answer ≡ Err fault
    → IsErrAnd line (λ y. y ≡ fault) → ReachesAt path line before after
not_there path its before after answer fault line is noted was so =
    NotThere fault (fault_is line fault so)
    (noted ∙ (ap (λ p. step_noted (WaitedAt p answer) before) is
    ∙ ap (λ a. step_noted (WaitedAt path a) before) was))

pub is_there : {A : Type 0} (path its : List ℕ) (before mid after : ReachSteps)
    (answer : Result ReachedStream Error) (stream : ReachedStream) (line : Result A Error)
    → its ≡ path → mid ≡ step_noted (WaitedAt its answer) before → answer ≡ Ok stream
    → after ≡ step_noted (Opened stream (is_ok line)) mid → ReachesAt path line before after
is_there path its before mid after answer stream line is noted was opened =
    IsThere stream (is_ok line) (usable line)
    (opened ∙ ap (λ m. step_noted (Opened stream (is_ok line)) m)
    (noted ∙ (ap (λ p. step_noted (WaitedAt p answer) before) is
    ∙ ap (λ a. step_noted (WaitedAt path a) before) was)))

-- a host
pub unknown : {A : Type 0} (host its : List ℕ) (before after : ReachSteps)
    (found : Result (Unit {0}) Error) (fault : Error) (line : Result A Error) → its ≡ host
    → after ≡ step_noted (LookedUp its found) before → found ≡ Err fault
    → IsErrAnd line (λ y. y ≡ fault) → ReachesHost host line before after
unknown host its before after found fault line is noted was so =
    Unknown fault (fault_is line fault so)
    (noted ∙ (ap (λ h. step_noted (LookedUp h found) before) is
    ∙ ap (λ f. step_noted (LookedUp host f) before) was))

pub known : {A : Type 0} (host its : List ℕ) (before mid after : ReachSteps)
    (found : Result (Unit {0}) Error) (it : Unit {0}) (line : Result A Error) → its ≡ host
    → mid ≡ step_noted (LookedUp its found) before → found ≡ Ok it
    → ReachesOne line mid after → ReachesHost host line before after
known host its before mid after found it line is noted was reaches =
    Known it (subst (λ m. ReachesOne line m after)
    (noted ∙ (ap (λ h. step_noted (LookedUp h found) before) is
    ∙ ap (λ f. step_noted (LookedUp host f) before) was)) reaches)
