-- The lines of a state read back.
use Rattle.std.proofs.Common.{◌≡◌, ℕ, List, [], ◌∷◌, ◌++◌, Option, Some, None, Result, Ok, Err}
use Rattle.std.proofs.Common.{refl, sym, ap}
use Rattle.std.proofs.Common.{subst, ◌∙◌}
use Rattle.std.specs.Prelude.{length, IfSome, IfOk, is_some, true, MatchResult}
use Rattle.asdu.specs.declared.sizes.Sizes.{Sizes}
use Rattle.apci.specs.Assembly.{Assembly}
use Rattle.session.specs.Session.{Session, from_queue}
use Rattle.events.specs.Queue.{Queue}
use Rattle.checkpoint.specs.declared.StateFault.TheVariants.{Wrong}
use Rattle.apci.specs.Assembly.{IsResumable}
use Rattle.gateway.specs.Centre.{Centre}
use Rattle.apci.specs.declared.apdu.Apdu.{Apdu}
use Rattle.checkpoint.specs.declared.StateFault.{StateFault}
use Rattle.gateway.specs.declared.counts.Tally.{Tally}
use Rattle.gateway.specs.declared.walls.Wall.{Wall}
use Rattle.gateway.specs.declared.engine.restoring.ClockLine.{ClockLine}
use Rattle.link.specs.Primary.{Primary}
use Rattle.command.specs.State.{State as Tasks}
use Rattle.gateway.specs.Serial.{Serial}
use Rattle.gateway.specs.State.{State, HasPlaces, IsBetweenSteps}
use Rattle.gateway.specs.Restored.{wall_numbers, clock_line, clock_numbers, clock_of, clock_from}
use Rattle.gateway.specs.Restored.{tally_line, centre_lines, IsSaid, IsSerialSaid}
use Rattle.gateway.specs.Restored.{tally_from, IsSavableCentre}

by_wall : (moment : ℕ) (wall : Option Wall)
    → clock_from (moment ∷ wall_numbers wall) ≡ Some (record { moment = moment; wall = wall })
by_wall moment None = refl
by_wall moment (Some wall) = refl

pub clock_is : (s : State) (ns : List ℕ) (r : Option ClockLine) → ns ≡ clock_line s
    → r ≡ clock_from ns
    → r ≡ Some (clock_of s)
clock_is s ns r is e = e ∙ ap clock_from is ∙ by_wall s.moment s.wall

pub tally_is : (t : Tally) (ns : List ℕ) (r : Option Tally) → ns ≡ tally_line t → r ≡ tally_from ns
    → r ≡ Some t
tally_is t ns r is e = e ∙ ap tally_from is

-- ---- a line that comes

pub next_line : (x y : List ℕ) (xs ys all : List (List ℕ)) → all ≡ x ∷ xs → all ≡ y ∷ ys
    → (y ≡ x) × (ys ≡ xs)
next_line x y xs ys all e f = let g : y ∷ ys ≡ x ∷ xs = sym f ∙ e in (cc, cc)

pub same_clock : (a b : ClockLine) (r : Option ClockLine) → r ≡ Some a → r ≡ Some b → a ≡ b
same_clock a b r e f = cc

pub no_clock : (b : ClockLine) (r : Option ClockLine) → r ≡ None → r ≡ Some b → ⊥
no_clock b r e f = cc

-- the numbers that say this clock, and these counts
clock_of_numbers : (ns : List ℕ) (c : ClockLine) → clock_from ns ≡ Some c → ns ≡ clock_numbers c
clock_of_numbers (moment ∷ []) c is = let e : record { moment = moment; wall = None } ≡ c = cc in
    ap clock_numbers e
clock_of_numbers (moment ∷ since ∷ number ∷ []) c is =
    let e : record { moment = moment; wall = Some (record { moment = since; number = number }) }
    ≡ c =
    cc in
    ap clock_numbers e
clock_of_numbers [] c is = absurd (cc)
clock_of_numbers (a ∷ b ∷ []) c is = absurd (cc)
clock_of_numbers (a ∷ b ∷ d ∷ e ∷ ns) c is = absurd (cc)

tally_of_numbers : (ns : List ℕ) (t : Tally) → tally_from ns ≡ Some t → ns ≡ tally_line t
tally_of_numbers (a ∷ b ∷ c ∷ []) t is =
    let e : record { skipped = a; mirrors = b; lost = c } ≡ t = cc in ap tally_line e
tally_of_numbers [] t is = absurd (cc)
tally_of_numbers (a ∷ []) t is = absurd (cc)
tally_of_numbers (a ∷ b ∷ []) t is = absurd (cc)
tally_of_numbers (a ∷ b ∷ c ∷ d ∷ ns) t is = absurd (cc)

pub clock_said : (all rest : List (List ℕ)) (x ns : List ℕ) (r : Option ClockLine) (c : ClockLine)
    → all ≡ x ∷ rest → ns ≡ x → r ≡ clock_from ns → r ≡ Some c → all ≡ clock_numbers c ∷ rest
clock_said all rest x ns r c are same from is =
    are ∙ ap (λ (n : List ℕ). n ∷ rest)
    (sym same ∙ clock_of_numbers ns c (sym from ∙ is))

pub tally_said : (all rest : List (List ℕ)) (x ns : List ℕ) (r : Option Tally) (t : Tally)
    → all ≡ x ∷ rest → ns ≡ x → r ≡ tally_from ns → r ≡ Some t → all ≡ tally_line t ∷ rest
tally_said all rest x ns r t are same from is =
    are ∙ ap (λ (n : List ℕ). n ∷ rest)
    (sym same ∙ tally_of_numbers ns t (sym from ∙ is))

pub same_tally : (a b : Tally) (r : Option Tally) → r ≡ Some a → r ≡ Some b → a ≡ b
same_tally a b r e f = cc

pub no_tally : (b : Tally) (r : Option Tally) → r ≡ None → r ≡ Some b → ⊥
no_tally b r e f = cc

pub serial_back : (line : Primary) (commands : Tasks) (counts : Tally) (s : Serial)
    → line ≡ s.line → commands ≡ s.commands → counts ≡ s.counts
    → (s.silent ≡ None) × (s.gap ≡ None)
    → record { line = line; commands = commands; counts = counts; silent = None; gap = None } ≡ s
serial_back line commands counts s l t k none =
    ap (λ (x : Primary). record s {
      line = x;
      commands = commands;
      counts = counts;
      silent = None;
      gap = None;
    }) l
    ∙ ap (λ (x : Tasks). record s { commands = x; counts = counts; silent = None; gap = None }) t
    ∙ ap (λ (x : Tally). record s { counts = x; silent = None; gap = None }) k
    ∙ ap (λ x. record s { silent = x; gap = None }) (sym none.0)
    ∙ ap (λ x. record s { gap = x }) (sym none.1)

-- the lines before, between and behind two sides say the state that is joined of them
pub said_joined : (r : Result State StateFault) (sizes : Sizes) (clock : ClockLine)
    (serial : Serial) (centre : Centre) (lines first second rest : List (List ℕ)) (why : Type 0)
    → MatchResult r (λ s. s ≡ record {
      serial = serial;
      centre = centre;
      sizes = sizes;
      moment = clock.moment;
      wall = clock.wall;
    }) (λ fault. why)
    → lines ≡ clock_numbers clock ∷ first → IsSerialSaid serial first second
    → second ≡ centre_lines centre ++ rest → IfOk r (λ g. IsSaid g lines rest)
said_joined (Ok g) sizes clock serial centre lines first second rest why is begins said behind =
    subst (λ (s : State). IsSaid s lines rest) (sym is) (record {
      serial = first;
      clock = begins;
      said = subst (IsSerialSaid serial first) behind said;
    })
said_joined (Err fault) sizes clock serial centre lines first second rest why is begins said
    behind =
    tt

-- what is read is the state that was put, so what holds of that holds of it
pub holds_of : (P : State → Type 0) (s : State) (left : Type 0) (r : Result State StateFault)
    → MatchResult r (λ g. (g ≡ s) × left) (λ fault. fault ≡ Wrong → ⊥) → P s
    → MatchResult r (λ g. P g × left) (λ fault. fault ≡ Wrong → ⊥)
holds_of P s left (Ok g) h k = (subst P (sym h.0) k, h.1)
holds_of P s left (Err fault) h k = h

-- ---- the octets of an APDU

pub octets_in : (s : Centre) → IsSavableCentre s → (xs : List ℕ) × (s.so_far ≡ Some xs)
    × IsResumable xs
octets_in s sav = by_octets s.so_far sav.whole.listens sav.octets
  where
    by_octets : (o : Option (List ℕ)) → is_some o ≡ true → IfSome o IsResumable
        → (xs : List ℕ) × (o ≡ Some xs) × IsResumable xs
    by_octets (Some xs) h fits = (xs, refl, fits)
    by_octets None h fits = cc

-- ---- what is joined is the state that was put

abbrev centre_of : Session → Option (List ℕ) → Option Apdu → Queue → Centre
centre_of c so_far arrived q = record { session = c; so_far = so_far; arrived = arrived; queue = q }

pub centre_back : (r : Result Centre StateFault) (c : Session) (a : Assembly) (q : Queue)
    (s : Centre) (left : Type 0)
    → MatchResult r (λ d. d ≡ centre_of c a.so_far a.whole q)
    (λ fault. from_queue c.unacknowledged ≡ length q.sent → ⊥)
    → c ≡ s.session → a.so_far ≡ s.so_far → a.whole ≡ None → q ≡ s.queue → s.arrived ≡ None
    → from_queue s.session.unacknowledged ≡ length s.queue.sent → left
    → MatchResult r (λ d. (d ≡ s) × left) (λ fault. fault ≡ Wrong → ⊥)
centre_back (Ok d) c a q s left h e f g k none whole rest = (
  h ∙ ap (λ x. centre_of x a.so_far a.whole q) e ∙ ap (λ x. centre_of s.session x a.whole q) f
      ∙ ap (λ x. centre_of s.session s.so_far x q) (g ∙ sym none)
      ∙ ap (centre_of s.session s.so_far s.arrived) k,
  rest,
)
centre_back (Err fault) c a q s left h e f g k none whole rest = λ wrong.
    absurd (h (ap (λ (x : Session). from_queue x.unacknowledged) e ∙ whole
    ∙ ap (λ (x : Queue). length x.sent) (sym k)))

abbrev state_of : Serial → Centre → Sizes → ClockLine → State
state_of serial centre sizes clock =
    record {
      serial = serial;
      centre = centre;
      sizes = sizes;
      moment = clock.moment;
      wall =
          clock.wall;
    }

pub state_back : (r : Result State StateFault) (sizes : Sizes) (clock : ClockLine) (serial : Serial)
    (centre : Centre)
    (s : State) (left : Type 0) → MatchResult r (λ g. g ≡ state_of serial centre sizes clock)
    (λ fault. HasPlaces serial.line centre.queue → ⊥)
    → serial ≡ s.serial → centre ≡ s.centre → clock ≡ clock_of s → sizes ≡ s.sizes
    → HasPlaces s.serial.line s.centre.queue → left
    → MatchResult r (λ g. (g ≡ s) × left) (λ fault. fault ≡ Wrong → ⊥)
state_back (Ok g) sizes clock serial centre s left h e f k z places rest = (
  h ∙ ap (λ x. state_of x centre sizes clock) e ∙ ap (λ x. state_of s.serial x sizes clock) f
      ∙ ap (λ x. state_of s.serial s.centre x clock) z ∙ ap (state_of s.serial s.centre s.sizes) k,
  rest,
)
state_back (Err fault) sizes clock serial centre s left h e f k z places rest = λ wrong.
    absurd (h (subst (λ (x : Serial). HasPlaces x.line centre.queue) (sym e)
    (subst (λ (x : Centre). HasPlaces s.serial.line x.queue) (sym f) places)))

-- and it is between two steps
pub joined_between : (r : Result State StateFault) (sizes : Sizes) (clock : ClockLine)
    (serial : Serial)
    (centre : Centre)
    → MatchResult r (λ g. g ≡ state_of serial centre sizes clock)
    (λ fault. HasPlaces serial.line centre.queue → ⊥)
    → (serial.silent ≡ None) × (serial.gap ≡ None) → centre.arrived ≡ None → IfOk r IsBetweenSteps
joined_between (Ok g) sizes clock serial centre h logged taken = record {
  silent = ap (λ (x : State). x.serial.silent) h ∙ logged.0;
  gap = ap (λ (x : State). x.serial.gap) h ∙ logged.1;
  arrived = ap (λ (x : State). x.centre.arrived) h ∙ taken;
}
joined_between (Err fault) sizes clock serial centre h logged taken = tt

pub centre_taken : (r : Result Centre StateFault) (c : Session) (a : Assembly) (q : Queue)
    → MatchResult r (λ d. d ≡ centre_of c a.so_far a.whole q) (λ fault. from_queue c.unacknowledged
    ≡ length q.sent → ⊥)
    → a.whole ≡ None → IfOk r (λ d. d.arrived ≡ None)
centre_taken (Ok d) c a q h none = ap (λ (x : Centre). x.arrived) h ∙ none
centre_taken (Err fault) c a q h none = tt
