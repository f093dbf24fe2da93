-- Whose a request is, and a gap.
use Rattle.std.proofs.Common.{◌≡◌, ℕ, ◌+◌, ◌*◌, ◌/◌, ◌%◌, ◌≤◌, Bool, true, false, List, [], ◌∷◌}
use Rattle.std.proofs.Common.{◌++◌, length, Some, refl, ap, ◌∙◌, nat_lt, arith}
use Rattle.std.specs.Prelude.{if◌then◌else◌, ◌==◌, slice_get, sum}
use Rattle.ft12.specs.declared.frame.LinkSize.{LinkSize}
use Rattle.ft12.specs.declared.frame.LinkSize.TheVariants.{One, Two}
use Rattle.ft12.specs.Spelling.{address, spelling, user}
use Rattle.link.specs.declared.service.Asked.{Asked as Request}
use Rattle.link.specs.declared.service.Asked.TheVariants as request
use Rattle.link.specs.declared.service.Service.TheVariants as service
use Rattle.link.specs.declared.control.PrimaryFunction.TheVariants.{UserData}
use Rattle.link.specs.Requests.{counted_control, request_frame}
use Rattle.runlog.specs.Orders.{octet}
use Rattle.runlog.specs.Stations.{address_of}
use Rattle.runlog.specs.Stations.{control_place}

-- ---- The octets of a request

abbrev pub octets_of : LinkSize → (address : ℕ) → Request → List ℕ
octets_of size address r = spelling size (request_frame address r)

whole : (a : ℕ) → a % 256 + 256 * (a / 256) ≡ a
whole a = omega arith

-- a frame with data: its control octet stands behind two start octets and two lengths
abbrev pub behind_lengths : (n c : ℕ) → List ℕ → List ℕ
behind_lengths n c rest = 0x68 ∷ n ∷ n ∷ 0x68 ∷ c ∷ rest

pub begins : (n c : ℕ) (rest : List ℕ) → control_place (behind_lengths n c rest) ≡ 4
begins n c rest =
    let some : nat_lt 0 (length (behind_lengths n c rest)) ≡ true = grind arith in
    ap (λ b. if (if b then 0x68 else 0) == 16 then 1 else 4) some

pub fifth : (n c : ℕ) (rest : List ℕ) → octet (behind_lengths n c rest) 4 ≡ c
fifth n c rest =
    let some : nat_lt 4 (length (behind_lengths n c rest)) ≡ true = grind arith in
    ap (λ b. if b then c else 0) some

sixth : (n c a : ℕ) (rest : List ℕ) → octet (behind_lengths n c (a ∷ rest)) 5 ≡ a
sixth n c a rest =
    let some : nat_lt 5 (length (behind_lengths n c (a ∷ rest))) ≡ true = grind arith in
    ap (λ b. if b then a else 0) some

seventh : (n c a b : ℕ) (rest : List ℕ) → octet (behind_lengths n c (a ∷ b ∷ rest)) 6 ≡ b
seventh n c a b rest =
    let some : nat_lt 6 (length (behind_lengths n c (a ∷ b ∷ rest))) ≡ true = grind arith in
    ap (λ is. if is then b else 0) some

data_address_one : (n c a : ℕ) (rest : List ℕ)
    → address_of One (behind_lengths n c (a ∷ rest)) ≡ a
data_address_one n c a rest =
    ap (λ place. octet (behind_lengths n c (a ∷ rest)) (place + 1)) (begins n c (a ∷ rest))
    ∙ sixth n c a rest

data_address_two : (n c a : ℕ) (rest : List ℕ)
    → address_of Two (behind_lengths n c (a % 256 ∷ a / 256 ∷ rest)) ≡ a
data_address_two n c a rest =
    let all = behind_lengths n c (a % 256 ∷ a / 256 ∷ rest) in
    ap (λ place. octet all (place + 1) + 256 * octet all (place + 2))
    (begins n c (a % 256 ∷ a / 256 ∷ rest))
    ∙ ap (λ low. low + 256 * octet all 6) (sixth n c (a % 256) (a / 256 ∷ rest))
    ∙ ap (λ high. a % 256 + 256 * high) (seventh n c (a % 256) (a / 256) rest) ∙ whole a

-- the frame of a command, with its data and what stands behind them
abbrev pub command_control : (fcb : Bool) → ℕ
command_control fcb = counted_control fcb UserData

abbrev pub tail_of : LinkSize → (fcb : Bool) → (a : ℕ) → (asdu : List ℕ) → List ℕ
tail_of size fcb a asdu =
    asdu ++ sum (user size (command_control fcb) a asdu) % 256 ∷ 0x16 ∷ []

abbrev pub length_of : LinkSize → (fcb : Bool) → (a : ℕ) → (asdu : List ℕ) → ℕ
length_of size fcb a asdu = length (user size (command_control fcb) a asdu)

pub address_is : (size : LinkSize) (a : ℕ) (r : Request) → address_of size (octets_of size a r) ≡ a
address_is One a request.Status = refl
address_is One a request.Reset = refl
address_is One a (request.Counted fcb service.Class1) = refl
address_is One a (request.Counted fcb service.Class2) = refl
address_is One a (request.Counted fcb (service.Command asdu)) =
    data_address_one (length_of One fcb a asdu) (command_control fcb) a (tail_of One fcb a asdu)
address_is Two a request.Status = whole a
address_is Two a request.Reset = whole a
address_is Two a (request.Counted fcb service.Class1) = whole a
address_is Two a (request.Counted fcb service.Class2) = whole a
address_is Two a (request.Counted fcb (service.Command asdu)) =
    data_address_two (length_of Two fcb a asdu) (command_control fcb) a (tail_of Two fcb a asdu)

pub not_its : (a b : ℕ) → (a ≡ b → ⊥) → (a == b) ≡ false
not_its a b other = grind (arith, other)

pub its_own : (a : ℕ) → (a == a) ≡ true
its_own a = grind arith

pub at_its_place : {A : Type 0} (before behind : List A) (w : A)
    → slice_get (before ++ w ∷ behind) (length before) ≡ Some w
at_its_place [] behind w = refl
at_its_place (v ∷ before) behind w = at_its_place before behind w
