-- What is awaited of a request, and what comes in answer to it.
use Rattle.std.proofs.Common.{◌≡◌, ℕ, zero, suc, ◌+◌, ◌-◌, ◌≤◌, Bool, true, false, List, [], ◌∷◌}
use Rattle.std.proofs.Common.{◌++◌}
use Rattle.std.proofs.Common.{length, take, drop, min, Some, None, refl, sym, ap, ◌∙◌, arith}
use Rattle.std.proofs.Common.{nat_lt, ◌%◌, ◌/◌}
use Rattle.std.proofs.lemmas.List.{append_assoc, length-append, length-take, take_all}
use Rattle.std.proofs.Math.Seq.{take-append_seam}
use Rattle.std.specs.Prelude.{◌==◌, Option, option_and_then, sum, if◌then◌else◌}
use Rattle.std.specs.List.{slice_range, starts_with}
use Rattle.ft12.specs.Fronts.{front_of}
use Rattle.ft12.specs.Spelling.{address, user}
use Rattle.ft12.specs.declared.frame.Frame.{Frame}
use Rattle.ft12.specs.declared.frame.Frame.TheVariants.{Single, Fixed, Data}
use Rattle.ft12.specs.declared.frame.Why.{Why}
use Rattle.ft12.specs.declared.frame.Front.{Front}
use Rattle.ft12.specs.declared.frame.Front.TheVariants as front
use Rattle.ft12.specs.declared.frame.LinkSize.{LinkSize}
use Rattle.ft12.specs.declared.frame.LinkSize.TheVariants.{One, Two}
use Rattle.link.specs.Answers.{answer_of}
use Rattle.link.specs.declared.service.Asked.{Asked as Request}
use Rattle.link.specs.declared.service.Asked.TheVariants as request
use Rattle.link.specs.declared.service.Service.{Service}
use Rattle.link.specs.declared.service.Service.TheVariants.{Class1, Class2, Command}
use Rattle.runlog.specs.Answering.{awaited_for}
use Rattle.runlog.specs.Exchange.{RequestWatch, answer_in, answer_by, answered_by, awaited_by}
use Rattle.runlog.specs.Exchange.{awaited_of, received, request_for, spoiling_at, spoiling_of}
use Rattle.runlog.specs.Exchange.{user_data}
use Rattle.runlog.specs.Orders.{octet}
use Rattle.runlog.specs.declared.exchange.AwaitedAnswer.{AwaitedAnswer}
use Rattle.runlog.specs.declared.exchange.AwaitedAnswer.TheVariants as awaited
use Rattle.runlog.specs.declared.spoiling.Spoiling.{Spoiling}
use Rattle.runlog.specs.declared.spoiling.Spoiling.TheVariants.{Echo}
use Rattle.runlog.proofs.Addressed.{behind_lengths, begins, command_control, fifth, length_of}
use Rattle.runlog.proofs.Addressed.{octets_of, tail_of}

-- ---- What is awaited

data_awaited : (n c : ℕ) (rest : List ℕ) → awaited_of (behind_lengths n c rest) ≡ awaited_by c
data_awaited n c rest =
    ap (λ place. awaited_by (octet (behind_lengths n c rest) place)) (begins n c rest)
    ∙ ap awaited_by (fifth n c rest)

pub awaited_so : (size : LinkSize) (a : ℕ) (r : Request)
    → awaited_of (octets_of size a r) ≡ awaited_for r
awaited_so One a request.Status = refl
awaited_so Two a request.Status = refl
awaited_so One a request.Reset = refl
awaited_so Two a request.Reset = refl
awaited_so One a (request.Counted true Class1) = refl
awaited_so Two a (request.Counted true Class1) = refl
awaited_so One a (request.Counted false Class1) = refl
awaited_so Two a (request.Counted false Class1) = refl
awaited_so One a (request.Counted true Class2) = refl
awaited_so Two a (request.Counted true Class2) = refl
awaited_so One a (request.Counted false Class2) = refl
awaited_so Two a (request.Counted false Class2) = refl
awaited_so One a (request.Counted true (Command asdu)) =
    data_awaited (length_of One true a asdu) (command_control true)
    (address One a ++ tail_of One true a asdu)
awaited_so Two a (request.Counted true (Command asdu)) =
    data_awaited (length_of Two true a asdu) (command_control true)
    (address Two a ++ tail_of Two true a asdu)
awaited_so One a (request.Counted false (Command asdu)) =
    data_awaited (length_of One false a asdu) (command_control false)
    (address One a ++ tail_of One false a asdu)
awaited_so Two a (request.Counted false (Command asdu)) =
    data_awaited (length_of Two false a asdu) (command_control false)
    (address Two a ++ tail_of Two false a asdu)

-- ---- What comes

take_joined : (n : ℕ) (xs ys : List ℕ) → take n (xs ++ ys) ≡ take n xs ++ take (n - length xs) ys
take_joined zero [] ys = refl
take_joined zero (x ∷ xs) ys = ap (λ m. take m ys) (none (length (x ∷ xs)))
  where
    none : (m : ℕ) → 0 ≡ 0 - m
    none m = omega arith
take_joined (suc n) [] ys = ap (λ m. take m ys) (all (suc n))
  where
    all : (m : ℕ) → m ≡ m - 0
    all m = omega arith
take_joined (suc n) (x ∷ xs) ys = ap (λ zs. x ∷ zs) (take_joined n xs ys)
    ∙ ap (λ m. x ∷ take n xs ++ take m ys) (less (length xs))
  where
    less : (m : ℕ) → n - m ≡ suc n - suc m
    less m = omega arith

two_pieces : (n : ℕ) (had first second : List ℕ)
    → (had ++ take (n - length had) first)
    ++ take (n - length (had ++ take (n - length had) first)) second
    ≡ had ++ take (n - length had) (first ++ second)
two_pieces n had first second =
    let room = n - length had in
    ap (λ m. (had ++ take room first) ++ take (n - m) second)
    (length-append had (take room first) ∙ ap (λ m. length had + m) (length-take room first))
    ∙ ap (λ m. (had ++ take room first) ++ take m second) (left (length had) (length first))
    ∙ append_assoc had (take room first) (take (room - length first) second)
    ∙ ap (λ zs. had ++ zs) (sym (take_joined room first second))
  where
    left : (h f : ℕ) → n - (h + min (n - h) f) ≡ n - h - f
    left h f = omega arith

abbrev with_octets : LinkSize → (now : ℕ) → RequestWatch → List ℕ → RequestWatch
with_octets size now e octets =
    let v : RequestWatch = record e { octets = octets } in
    record v { spoiling = spoiling_at size now v }

-- what was told before of what came makes no difference
told_anew : (is_echo : Bool) (f : Front) (now : ℕ) (e : RequestWatch) (told : Spoiling)
    → (if is_echo then Echo else spoiling_of f now (record e { spoiling = told }))
    ≡ (if is_echo then Echo else spoiling_of f now e)
told_anew true f now e told = refl
told_anew false (front.Whole frame n) now e told = refl
told_anew false front.More now e told = refl
told_anew false (front.Never place why) now e told = refl

pub pieces_so : (size : LinkSize) (now before : ℕ) (e : RequestWatch) (first second : List ℕ)
    → received size second now (received size first before e)
    ≡ received size (first ++ second) now e
pieces_so size now before e first second =
    let w : RequestWatch = received size first before e in
    let both = w.octets ++ take (261 - length w.octets) second in
    ap (λ (s : Spoiling). record e { octets = both; spoiling = s })
    (told_anew (starts_with (λ a b. a == b) both e.request) (front_of size both) now
    (record e { octets = both }) w.spoiling)
    ∙ ap (with_octets size now e) (two_pieces 261 e.octets first second)

pub joined_so : (size : LinkSize) (now : ℕ) (e : RequestWatch) (octets : List ℕ)
    → length e.octets + length octets ≤ 261
    → (received size octets now e).octets ≡ e.octets ++ octets
joined_so size now e octets fits =
    ap (λ zs. e.octets ++ zs) (take_all (261 - length e.octets) octets (omega (arith, fits)))

-- ---- Its answer

-- by what is awaited, which no frame count bit changes
whole_so : (size : LinkSize) (station : ℕ) (fcb : Bool) (service : Service) (frame : Frame) (n : ℕ)
    (octets : List ℕ) → front_of size octets ≡ front.Whole frame n
    → answer_by (awaited_for (request.Counted fcb service)) size station octets
    ≡ Some (answer_of station (request.Counted fcb service) frame)
whole_so size station fcb Class1 frame n octets is =
    ap (answered_by station (request.Counted false Class2)) is
    ∙ ap (λ a. Some a) (same frame)
  where
    same : (f : Frame) → answer_of station (request.Counted false Class2) f
        ≡ answer_of station (request.Counted fcb Class1) f
    same Single = refl
    same (Fixed c a) = refl
    same (Data c a body) = refl
whole_so size station fcb Class2 frame n octets is =
    ap (answered_by station (request.Counted false Class2)) is
    ∙ ap (λ a. Some a) (same frame)
  where
    same : (f : Frame) → answer_of station (request.Counted false Class2) f
        ≡ answer_of station (request.Counted fcb Class2) f
    same Single = refl
    same (Fixed c a) = refl
    same (Data c a body) = refl
whole_so size station fcb (Command asdu) frame n octets is =
    ap (answered_by station (request.Counted false (Command []))) is
    ∙ ap (λ a. Some a) (same frame)
  where
    same : (f : Frame) → answer_of station (request.Counted false (Command [])) f
        ≡ answer_of station (request.Counted fcb (Command asdu)) f
    same Single = refl
    same (Fixed c a) = refl
    same (Data c a body) = refl

pub answer_so : (size : LinkSize) (station : ℕ) (fcb : Bool) (service : Service) (frame : Frame)
    (n : ℕ) (e : RequestWatch) → e.awaited ≡ awaited_for (request.Counted fcb service)
    → front_of size e.octets ≡ front.Whole frame n
    → answer_in size station e ≡ Some (answer_of station (request.Counted fcb service) frame)
answer_so size station fcb service frame n e what is =
    ap (λ w. answer_by w size station e.octets) what
    ∙ whole_so size station fcb service frame n e.octets is

pub not_yet_so : (size : LinkSize) (station : ℕ) (e : RequestWatch)
    → front_of size e.octets ≡ front.More → answer_in size station e ≡ None
not_yet_so size station e is = by (request_for e.awaited)
  where
    by : (r : Option Request)
        → option_and_then (λ r. answered_by station r (front_of size e.octets)) r ≡ None
    by None = refl
    by (Some r) = ap (answered_by station r) is

pub none_so : (size : LinkSize) (station place : ℕ) (why : Why) (e : RequestWatch)
    → (e.awaited ≡ awaited.Nothing → ⊥) → front_of size e.octets ≡ front.Never place why
    → answer_in size station e ≡ Some None
none_so size station place why e some is = by e.awaited refl
  where
    by : (what : AwaitedAnswer) → e.awaited ≡ what
        → answer_by what size station e.octets ≡ Some None
    by awaited.Nothing was = absurd (some was)
    by awaited.Status was = ap (answered_by station request.Status) is
    by awaited.Reset was = ap (answered_by station request.Reset) is
    by awaited.Poll was = ap (answered_by station (request.Counted false Class2)) is
    by awaited.Command was = ap (answered_by station (request.Counted false (Command []))) is

pub nothing_so : (size : LinkSize) (station : ℕ) (e : RequestWatch) → e.awaited ≡ awaited.Nothing
    → answer_in size station e ≡ None
nothing_so size station e is = ap (λ w. answer_by w size station e.octets) is

-- ---- A command

stated : (n c : ℕ) (rest : List ℕ) → octet (behind_lengths n c rest) 1 ≡ n
stated n c rest =
    let some : nat_lt 1 (length (behind_lengths n c rest)) ≡ true = grind arith in
    ap (λ b. if b then n else 0) some

-- of so many octets, behind so many others, and before two
at_place : (from : ℕ) (all asdu : List ℕ) (x y : ℕ) (is_end : ℕ)
    → drop from all ≡ asdu ++ x ∷ y ∷ [] → is_end ≡ from + length asdu
    → slice_range all (min from is_end) is_end ≡ asdu
at_place from all asdu x y is_end are is =
    ap (λ n. slice_range all (min from n) n) is
    ∙ ap (λ n. take (from + length asdu - n) (drop n all)) (least (length asdu))
    ∙ ap (λ n. take n (drop from all)) (left (length asdu))
    ∙ ap (take (length asdu)) are ∙ take-append_seam asdu (x ∷ y ∷ [])
  where
    least : (m : ℕ) → min from (from + m) ≡ from
    least m = omega arith

    left : (m : ℕ) → from + m - from ≡ m
    left m = omega arith

-- where its data end, by the length that is stated
end_of : (n : ℕ) (all : List ℕ) → octet all 1 ≡ n → length all ≡ 4 + n + 2
    → min (4 + octet all 1) (length all) ≡ 4 + n
end_of n all is long = omega (arith, is, long)

after_two : (m : ℕ) → 4 + suc (suc m) ≡ 6 + m
after_two m = omega arith

after_three : (m : ℕ) → 4 + suc (suc (suc m)) ≡ 7 + m
after_three m = omega arith

pub command_so : (size : LinkSize) (a : ℕ) (fcb : Bool) (asdu : List ℕ)
    → user_data size (octets_of size a (request.Counted fcb (Command asdu))) ≡ asdu
command_so One a fcb asdu =
    let c = command_control fcb in
    let s = sum (user One c a asdu) % 256 in
    let all = behind_lengths (suc (suc (length asdu))) c (a ∷ (asdu ++ s ∷ 0x16 ∷ [])) in
    let few = length-append asdu (s ∷ 0x16 ∷ []) in
    at_place 6 all asdu s 0x16 (min (4 + octet all 1) (length all)) refl
    (end_of (suc (suc (length asdu))) all
    (stated (suc (suc (length asdu))) c (a ∷ (asdu ++ s ∷ 0x16 ∷ []))) (omega (arith, few))
    ∙ after_two (length asdu))
command_so Two a fcb asdu =
    let c = command_control fcb in
    let s = sum (user Two c a asdu) % 256 in
    let all = behind_lengths (suc (suc (suc (length asdu)))) c (a % 256 ∷ a / 256
    ∷ (asdu ++ s ∷ 0x16 ∷ [])) in
    let few = length-append asdu (s ∷ 0x16 ∷ []) in
    at_place 7 all asdu s 0x16 (min (4 + octet all 1) (length all)) refl
    (end_of (suc (suc (suc (length asdu)))) all
    (stated (suc (suc (suc (length asdu)))) c (a % 256 ∷ a / 256 ∷ (asdu ++ s ∷ 0x16 ∷ [])))
    (omega (arith, few)) ∙ after_three (length asdu))
