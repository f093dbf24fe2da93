-- What waits for the line fits a frame.
use Rattle.std.proofs.Common.{◌≡◌, ℕ, zero, suc, ◌+◌, ◌-◌, ◌≤◌, Bool, true, false, All, List, []}
use Rattle.std.proofs.Common.{◌∷◌, ◌++◌, length, drop, Option, Some, None, refl, ap, sym, subst}
use Rattle.std.proofs.Common.{arith, length-append, if◌then◌else◌}
use Rattle.std.specs.Prelude.{◌==◌, ◌^◌, ◌/◌, slice_index}
use Rattle.std.specs.List.{AllByRecursion}
use Rattle.std.specs.Int.{byte_at, bytes_low_first}
use Rattle.std.proofs.lemmas.List.Elements.{All-cons, All-nil, All-append}
use Rattle.ft12.specs.declared.frame.LinkSize.{LinkSize}
use Rattle.ft12.specs.declared.frame.LinkSize.TheVariants as sizes_of_link
use Rattle.ft12.specs.Spelling.{address_len}
use Rattle.apci.specs.Spelling.{IsOctet}
use Rattle.asdu.specs.Asdu.{AsduValue, originator_octets}
use Rattle.asdu.specs.Sizes.{ca_len, ioa_len}
use Rattle.asdu.specs.declared.sizes.Sizes.{Sizes}
use Rattle.asdu.specs.declared.sizes.CauseSize.{CauseSize}
use Rattle.asdu.specs.declared.sizes.CauseSize.TheVariants as causes
use Rattle.asdu.specs.declared.sizes.CaSize.{CaSize}
use Rattle.asdu.specs.declared.sizes.CaSize.TheVariants as cas
use Rattle.asdu.specs.declared.sizes.IoaSize.{IoaSize}
use Rattle.asdu.specs.declared.sizes.IoaSize.TheVariants as ioas
use Rattle.link.specs.Requests.{IsUserData}
use Rattle.command.specs.declared.waiting.Waiting.{Waiting}
use Rattle.command.specs.declared.content.Command.{Command}
use Rattle.command.specs.declared.content.CommandElement.{CommandElement}
use Rattle.command.specs.declared.content.CommandElement.TheVariants.{Octet, SetPoint}
use Rattle.command.specs.declared.station.StationInfo.{StationInfo}
use Rattle.command.specs.Command.{is_tagged, line_kind, command_at, command_octets, element_octets}
use Rattle.command.specs.Command.{is_set_point}
use Rattle.command.specs.Stations.{is_addressed}
use Rattle.command.specs.State as tasks
use Rattle.command.specs.Octets.{negative}
use Rattle.command.specs.State.{State, oldest, oldest_for, without_oldest, put_out}
use Rattle.command.specs.State.{has_answer_place, first_answer}
use Rattle.command.specs.Judging.{judged, fault, by_fault, refused, admitted, placed, copies}
use Rattle.command.specs.Judging.{lacks_selection, lacks_place, ends_selection, without_selection}
use Rattle.command.specs.Judging.{makes_selection, selected, queued, forwarded}
use Rattle.command.specs.Mirrors.{mirrored}
use Rattle.command.specs.Calls.{Call, Judge, PutOnLine, Accept, Busy, Lose, Mirror, Own, SendOwn}
use Rattle.command.specs.Calls.{Cut, Due, Run, after_sending, after_answer, after_call}

-- Octets

octets_drop : (n : ℕ) (xs : List ℕ) → All IsOctet xs → All IsOctet (drop n xs)
octets_drop zero xs h = h
octets_drop (suc n) [] h = All-nil IsOctet
octets_drop (suc n) (x ∷ xs) h = octets_drop n xs (λ k d less. h (suc k) d (omega (arith, less)))

octet_at : (xs : List ℕ) (i : ℕ) → All IsOctet xs → IsOctet (slice_index xs i)
octet_at [] i h = omega arith
octet_at (x ∷ xs) zero h = h 0 0 (omega arith)
octet_at (x ∷ xs) (suc i) h = octet_at xs i (λ k d less. h (suc k) d (omega (arith, less)))

byte_is : (i n : ℕ) → IsOctet (byte_at i n)
byte_is zero n = omega arith
byte_is (suc i) n = let m = n / 256 ^ suc i in omega arith

bytes_are : (i k n : ℕ) → All IsOctet (bytes_low_first i k n)
bytes_are i zero n = All-nil IsOctet
bytes_are i (suc k) n = All-cons IsOctet (byte_at i n) (bytes_low_first (suc i) k n) (byte_is i n)
    (bytes_are (suc i) k n)

bytes_count : (i k n : ℕ) → length (bytes_low_first i k n) ≡ k
bytes_count i zero n = refl
bytes_count i (suc k) n = ap suc (bytes_count (suc i) k n)

originator_are : (size : CauseSize) (o : ℕ) → IsOctet o → All IsOctet (originator_octets size o)
originator_are causes.One o h = All-nil IsOctet
originator_are causes.Two o h = All-cons IsOctet o [] h (All-nil IsOctet)

originator_count : (size : CauseSize) (o : ℕ) → length (originator_octets size o) ≤ 1
originator_count causes.One o = omega arith
originator_count causes.Two o = omega arith

ca_most : (size : CaSize) → ca_len size ≤ 2
ca_most cas.One = omega arith
ca_most cas.Two = omega arith

ioa_most : (size : IoaSize) → ioa_len size ≤ 3
ioa_most ioas.One = omega arith
ioa_most ioas.Two = omega arith
ioa_most ioas.Three = omega arith

address_most : (size : LinkSize) → address_len size ≤ 2
address_most sizes_of_link.One = omega arith
address_most sizes_of_link.Two = omega arith

element_are : (b : Bool) (x y z : ℕ) → IsOctet x → IsOctet y → IsOctet z
    → All IsOctet (element_octets (if b then SetPoint x y z else Octet x))
element_are true x y z h k l = All-cons IsOctet x (y ∷ z ∷ []) h
    (All-cons IsOctet y (z ∷ []) k (All-cons IsOctet z [] l (All-nil IsOctet)))
element_are false x y z h k l = All-cons IsOctet x [] h (All-nil IsOctet)

element_count : (e : CommandElement) → length (element_octets e) ≤ 3
element_count (Octet x) = omega arith
element_count (SetPoint x y z) = omega arith

-- A command on the line

kind_is : (b : Bool) (n : ℕ) → IsOctet n → IsOctet (if b then n - 13 else n)
kind_is true n h = omega (arith, h)
kind_is false n h = h

command_are : (s : Sizes) (ca : ℕ) (xs : List ℕ) → All IsOctet xs
    → All IsOctet (command_octets s ca (command_at xs))
command_are s ca xs h =
    let c : Command = command_at xs in
    let code : ℕ = line_kind (slice_index xs 0) in
    let rest : List ℕ = drop 9 xs in
    let element = element_are (is_set_point code) (slice_index rest 0) (slice_index rest 1)
    (slice_index rest 2)
    (octet_at rest 0 (octets_drop 9 xs h)) (octet_at rest 1 (octets_drop 9 xs h))
    (octet_at rest 2 (octets_drop 9 xs h)) in
    let addressed = All-append IsOctet (bytes_low_first 0 (ioa_len s.ioa) c.address)
    (element_octets c.element)
    (bytes_are 0 (ioa_len s.ioa) c.address) element in
    let common = All-append IsOctet (bytes_low_first 0 (ca_len s.ca) ca)
    (bytes_low_first 0 (ioa_len s.ioa) c.address
    ++ element_octets c.element) (bytes_are 0 (ca_len s.ca) ca) addressed in
    let behind : List ℕ = originator_octets s.cause c.originator
    ++ (bytes_low_first 0 (ca_len s.ca) ca ++ (bytes_low_first 0 (ioa_len s.ioa) c.address
    ++ element_octets c.element)) in
    let all = All-append IsOctet (originator_octets s.cause c.originator)
    (bytes_low_first 0 (ca_len s.ca) ca
    ++ (bytes_low_first 0 (ioa_len s.ioa) c.address ++ element_octets c.element))
    (originator_are s.cause c.originator (octet_at xs 3 h)) common in
    All-cons IsOctet code (1 ∷ c.cause ∷ behind)
    (kind_is (is_tagged (slice_index xs 0)) (slice_index xs 0)
    (octet_at xs 0 h)) (All-cons IsOctet 1 (c.cause ∷ behind) (omega arith)
    (All-cons IsOctet c.cause behind (octet_at xs 2 h) all))

command_count : (s : Sizes) (ca : ℕ) (c : Command) → length (command_octets s ca c) ≤ 12
command_count s ca c =
    let o : List ℕ = originator_octets s.cause c.originator in
    let a : List ℕ = bytes_low_first 0 (ca_len s.ca) ca in
    let b : List ℕ = bytes_low_first 0 (ioa_len s.ioa) c.address in
    let e : List ℕ = element_octets c.element in
    let first = originator_count s.cause c.originator in
    let second = bytes_count 0 (ca_len s.ca) ca in
    let third = bytes_count 0 (ioa_len s.ioa) c.address in
    let fourth = element_count c.element in
    let most = ca_most s.ca in
    let most2 = ioa_most s.ioa in
    omega (arith, length-append o (a ++ (b ++ e)), length-append a (b ++ e), length-append b e)

command_fits : (size : LinkSize) (s : Sizes) (ca : ℕ) (xs : List ℕ) → All IsOctet xs
    → IsUserData size (command_octets s ca (command_at xs))
command_fits size s ca xs h = record {
  some = omega arith;
  fits = omega (arith, command_count s ca (command_at xs), address_most size);
  octets = command_are s ca xs h;
}

-- What waits

all_append : {X : Type 0} (P : X → Type 0) (xs ys : List X) → AllByRecursion P xs
    → AllByRecursion P ys
    → AllByRecursion P (xs ++ ys)
all_append {X} P [] ys h k = k
all_append {X} P (x ∷ xs) ys h k = (h.0, all_append P xs ys h.1 k)

abbrev pub AllFitLine : LinkSize → List Waiting → Type 0
AllFitLine size ws = AllByRecursion (λ (w : Waiting). IsUserData size w.octets) ws

copies_fit : (size : LinkSize) (s : Sizes) (xs : List ℕ) (i : ℕ) (stations : List StationInfo)
    → All IsOctet xs
    → AllFitLine size (copies s xs i stations)
copies_fit size s xs i [] h = tt
copies_fit size s xs i (station ∷ stations) h = go (is_addressed (command_at xs) station)
    (copies_fit size s xs (i + 1) stations h)
  where
    go : (b : Bool) → AllFitLine size (copies s xs (i + 1) stations) →
        AllFitLine size (if b then record {
          station = i;
          received = xs;
          octets =
              command_octets s station.ca (command_at xs);
        }
        ∷ copies s xs (i + 1) stations else copies s xs (i + 1) stations)
    go true ih = (command_fits size s station.ca xs h, ih)
    go false ih = ih

abbrev Fit : LinkSize → State → Type 0
Fit size s = AllFitLine size s.waiting

forwarded_fit : (size : LinkSize) (xs : List ℕ) (c : Command) (now : ℕ) (s : State) → All IsOctet xs
    → Fit size s
    → Fit size (forwarded xs c now s)
forwarded_fit size xs c now s h k = go (makes_selection s.stations c)
  where
    both : (t : State) → Fit size t → Fit size (queued xs t)
    both t f = all_append (λ (w : Waiting). IsUserData size w.octets) t.waiting
        (copies t.sizes xs 0 t.stations) f
        (copies_fit size t.sizes xs 0 t.stations h)

    go : (b : Bool) → Fit size (queued xs (if b then selected c now s else s))
    go true = both (selected c now s) k
    go false = both s k

placed_fit : (size : LinkSize) (xs : List ℕ) (c : Command) (now : ℕ) (s : State) → All IsOctet xs
    → Fit size s
    → Fit size (placed xs c now s).1
placed_fit size xs c now s h k = go (lacks_place c s)
  where
    go : (b : Bool) → Fit size (if b then refused (negative xs) xs s
        else (None, forwarded xs c now s)).1
    go true = k
    go false = forwarded_fit size xs c now s h k

admitted_fit : (size : LinkSize) (xs : List ℕ) (c : Command) (now : ℕ) (s : State) → All IsOctet xs
    → Fit size s
    → Fit size (admitted xs c now s).1
admitted_fit size xs c now s h k = go (lacks_selection c now s) (ends_selection c)
  where
    ending : (b : Bool) → Fit size (if b then without_selection c s else s)
    ending true = k
    ending false = k

    go : (b d : Bool)
        → Fit size (if b then refused (negative xs) xs (without_selection c s) else placed xs c now
        (if d then without_selection c s else s)).1
    go true d = k
    go false d = placed_fit size xs c now (if d then without_selection c s else s) h (ending d)

judged_fit : (size : LinkSize) (xs : List ℕ) (now : ℕ) (wall : Option ℕ) (s : State)
    → All IsOctet xs → Fit size s
    → Fit size (judged xs now wall s).1
judged_fit size xs now wall s h k = go (fault s.sizes s.stations s.max_age_ms wall xs)
  where
    go : (m : Option ℕ) → Fit size (by_fault m xs now s).1
    go (Some cause) = k
    go None = admitted_fit size xs (command_at xs) now s h k

without_fit : (size : LinkSize) (station : ℕ) (ws : List Waiting) → AllFitLine size ws
    → AllFitLine size (without_oldest station ws)
without_fit size station [] h = tt
without_fit size station (w ∷ ws) h = go (w.station == station) (without_fit size station ws h.1)
  where
    go : (b : Bool) → AllFitLine size (without_oldest station ws)
        → AllFitLine size (if b then ws else w ∷ without_oldest station ws)
    go true ih = h.1
    go false ih = (h.0, ih)

put_fit : (size : LinkSize) (k : ℕ) (s : State) (o : Option Waiting) → Fit size s
    → Fit size (put_out o k s)
put_fit size k s None h = h
put_fit size k s (Some w) h = without_fit size k s.waiting h

-- the ASDU of a judgement is octets
abbrev pub IsFitCall : Call → Type 0
IsFitCall (Judge xs now wall) = All IsOctet xs
IsFitCall call = Unit {0}

-- no station's answer changes what waits
abbrev pub AnswersStay : Type 0
AnswersStay = (v : AsduValue) (now : ℕ) (s : State) → (mirrored v now s).waiting ≡ s.waiting

pub call_fits : (stay : AnswersStay) (size : LinkSize) (call : Call) (r : Run) → IsFitCall call
    → AllFitLine size r.state.waiting → AllFitLine size (after_call call r).state.waiting
call_fits stay size (Judge xs now wall) r h k = judged_fit size xs now wall r.state h k
call_fits stay size (PutOnLine i) r h k = go (oldest_for i r.state)
  where
    go : (o : Option Waiting) → Fit size (after_sending o i r).state
    go None = k
    go (Some w) = put_fit size i r.state (oldest_for i r.state) k
call_fits stay size (Accept i) r h k = k
call_fits stay size (Busy i) r h k = k
call_fits stay size (Lose i) r h k = k
call_fits stay size (Mirror v now) r h k = subst (AllFitLine size) (sym (stay v now r.state)) k
call_fits stay size (Own octets) r h k = go (has_answer_place r.state)
  where
    go : (b : Bool) → Fit size (if b then tasks.kept octets r.state else r.state)
    go true = k
    go false = k
call_fits stay size SendOwn r h k = go (first_answer r.state.answers)
  where
    go : (o : Option (List ℕ)) → Fit size (after_answer o r).state
    go None = k
    go (Some octets) = k
call_fits stay size Cut r h k = tt
call_fits stay size (Due now) r h k = k

pub oldest_fits : (size : LinkSize) (station : ℕ) (ws : List Waiting) (w : Waiting)
    → AllFitLine size ws
    → oldest station ws ≡ Some w → IsUserData size w.octets
oldest_fits size station [] w h e = cc
oldest_fits size station (v ∷ ws) w h e =
    go (v.station == station) (λ f. oldest_fits size station ws w h.1 f) e
  where
    go : (b : Bool) → (oldest station ws ≡ Some w → IsUserData size w.octets)
        → (if b then Some v else oldest station ws) ≡ Some w → IsUserData size w.octets
    go true ih e = let same : v ≡ w = cc in
        subst (λ (x : Waiting). IsUserData size x.octets) same h.0
    go false ih e = ih e
