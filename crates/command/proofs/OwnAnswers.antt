-- Own answers have no object that is passed on.
use Rattle.std.proofs.Common.{◌≡◌, ℕ, zero, suc, ◌/◌, ◌<◌, ◌≤◌, ◌&&◌, ◌||◌, Bool, true, false, not}
use Rattle.std.proofs.Common.{List, [], ◌∷◌, ◌++◌, length, drop, refl, sym, subst, ap, ◌∙◌, arith}
use Rattle.std.proofs.Common.{slice_index}
use Rattle.std.specs.Prelude.{◌==◌, Option, Some, None, if◌then◌else◌, option_map}
use Rattle.std.specs.List.{AllByRecursion}
use Rattle.elements.specs.declared.types.TypeId.{TypeId}
use Rattle.elements.specs.Types.{row, type_of}
use Rattle.asdu.specs.InformationObjects.{monitor_objects_of, objects_of, is_passed_on}
use Rattle.asdu.specs.InformationObjects.{is_typed_passed_on, only_if}
use Rattle.asdu.specs.Sizes.{tcp}
use Rattle.asdu.specs.declared.sizes.Sizes.{Sizes}
use Rattle.command.specs.declared.station.StationInfo.{StationInfo}
use Rattle.command.specs.declared.waiting.Line.{Line}
use Rattle.command.specs.declared.waiting.Line.TheVariants as line
use Rattle.command.specs.Octets.{answer, negative, refused_cause}
use Rattle.command.specs.Command.{is_command_type}
use Rattle.command.specs.State.{State, line_of, refusal_of}
use Rattle.command.specs.Judging.{judged}
use Rattle.command.specs.Standard.{operates, cause_of_fault, first_cause}
use Rattle.command.specs.Rules.{rules_for}
use Rattle.command.proofs.ReadAlike.{operates_read}
use Rattle.command.specs.History.{Judged, Sent, Accepted, Refused, GivenUp, Mirrored, Offered}
use Rattle.command.specs.History.{Answered, Ended, History, first, is_for, forwarded_to, sent_count}
use Rattle.command.specs.History.{next_for, on_line, GivesOwnAnswers}
use Rattle.command.specs.Calls.{Call, run}
use Rattle.command.proofs.Spelled.{Names, command_type}
use Rattle.command.proofs.Ruled.{first_rule}
use Rattle.command.proofs.Judged.{all_append}
use Rattle.command.proofs.Keeps.{held}
use Rattle.command.proofs.Runs.{run_holds}

-- ---- one answer

not_passed : (xs : List ℕ) → is_typed_passed_on (type_of (slice_index xs 0)) (slice_index xs 2)
    ≡ false
    → monitor_objects_of tcp xs ≡ []
unfolding monitor_objects_of
not_passed xs e = ap (λ (b : Bool). only_if b (objects_of tcp xs)) e

command_not_passed : (o : Option TypeId) (t : TypeId) (cause : ℕ) → o ≡ Some t → (row t).monitor
    ≡ false
    → is_typed_passed_on o cause ≡ false
command_not_passed o t cause is off = ap (λ (v : Option TypeId). is_typed_passed_on v cause) is
    ∙ rw off refl

first_stays : (cause : ℕ) (xs : List ℕ) → is_command_type (slice_index xs 0) ≡ true
    → slice_index (answer cause xs) 0 ≡ slice_index xs 0
first_stays cause [] is = cc
first_stays cause (x ∷ []) is = refl
first_stays cause (x ∷ y ∷ ys) is = refl

-- of a command's type
pub of_command : (cause : ℕ) (xs : List ℕ) → is_command_type (slice_index xs 0) ≡ true
    → monitor_objects_of tcp (answer cause xs) ≡ []
of_command cause xs is =
    let n : Names (slice_index xs 0) = command_type (slice_index xs 0) is in
    not_passed (answer cause xs)
    (command_not_passed (type_of (slice_index (answer cause xs) 0)) n.type
    (slice_index (answer cause xs) 2)
    (ap type_of (first_stays cause xs is) ∙ n.named) n.monitor)

cause_set : (cause : ℕ) (xs : List ℕ) → 9 ≤ length xs → slice_index (answer cause xs) 2
    ≡ refused_cause cause (slice_index xs 2)
cause_set cause [] long = absurd (omega (arith, long))
cause_set cause (x ∷ []) long = absurd (omega (arith, long))
cause_set cause (x ∷ y ∷ ys) long = refl

unknown_not_passed : (o : Option TypeId) (octet : ℕ) → octet < 256
    → is_typed_passed_on o (refused_cause 44 octet) ≡ false
unknown_not_passed None octet small = refl
unknown_not_passed (Some t) octet small = go (octet / 128) refl (omega (arith, small))
  where
    neither : (m a b : Bool) → (a && b) ≡ false → (m && a && b) ≡ false
    neither true a b e = e
    neither false a b e = refl

    go : (q : ℕ) → octet / 128 ≡ q → q < 2 → is_passed_on t (refused_cause 44 octet) ≡ false
    go zero e h = rw e (neither (row t).monitor false true refl)
    go (suc zero) e h = rw e (neither (row t).monitor true false refl)
    go (suc (suc q)) e h = absurd (omega (arith, h))

-- of an unknown type
of_unknown : (xs : List ℕ) → 9 ≤ length xs → slice_index xs 2 < 256
    → monitor_objects_of tcp (answer 44 xs) ≡ []
of_unknown xs long small =
    not_passed (answer 44 xs)
    (ap (λ (n : ℕ). is_typed_passed_on (type_of (slice_index (answer 44 xs) 0)) n)
    (cause_set 44 xs long)
    ∙ unknown_not_passed (type_of (slice_index (answer 44 xs) 0)) (slice_index xs 2) small)

-- ---- judging

pub of_judging : (xs : List ℕ) (now : ℕ) (wall : Option ℕ) (s : State) (a : List ℕ) → 9 ≤ length xs
    → slice_index xs 2 < 256 → (judged xs now wall s).0 ≡ Some a → monitor_objects_of tcp a ≡ []
of_judging xs now wall s a long small is = by_type (operates xs || slice_index xs 0 == 100) refl
    (sym (first_rule xs now wall s) ∙ is)
  where
    of_cause : is_command_type (slice_index xs 0) ≡ true → (o : Option ℕ)
        → option_map (λ (cause : ℕ). answer cause xs) o ≡ Some a → monitor_objects_of tcp a ≡ []
    of_cause known None e = cc
    of_cause known (Some cause) e =
        let same : answer cause xs ≡ a = cc in
        subst (λ (ys : List ℕ). monitor_objects_of tcp ys ≡ []) same (of_command cause xs known)

    by_type : (b : Bool) → (operates xs || slice_index xs 0 == 100) ≡ b
        → option_map (λ (cause : ℕ). answer cause xs) (first_cause (rules_for xs now wall s))
        ≡ Some a
        → monitor_objects_of tcp a ≡ []
    by_type true known e =
        of_cause (ap (λ (b : Bool). b || slice_index xs 0 == 100) (operates_read xs)
        ∙ known) (first_cause (rules_for xs now wall s)) e
    by_type false unknown e =
        let same : answer 44 xs ≡ a = (let given : Some (answer 44 xs) ≡ Some a = rw unknown at e in
        cc) in
        subst (λ (ys : List ℕ). monitor_objects_of tcp ys ≡ []) same (of_unknown xs long small)

-- ---- a busy station

first_of : (P : List ℕ → Type 0) (n : ℕ) (xss : List (List ℕ)) (xs : List ℕ) → AllByRecursion P xss
    → first (drop n xss) ≡ Some xs → P xs
first_of P zero [] xs all e = cc
first_of P zero (x ∷ xss) xs all e = (let same : x ≡ xs = cc in subst P same all.0)
first_of P (suc n) [] xs all e = cc
first_of P (suc n) (x ∷ xss) xs all e = first_of P n xss xs all.1 e

-- the type is known if there is no fault
typed : (sizes : Sizes) (stations : List StationInfo) (age : ℕ) (wall : Option ℕ) (xs : List ℕ)
    → cause_of_fault sizes stations age wall xs ≡ None → is_command_type (slice_index xs 0) ≡ true
typed sizes stations age wall xs e = ap (λ (b : Bool). b || slice_index xs 0 == 100)
    (operates_read xs)
    ∙ go (operates xs || slice_index xs 0 == 100) _ e
  where
    go : (b : Bool) (rest : Option ℕ) → (if not b then Some 44 else rest) ≡ None → b ≡ true
    go true rest e = refl
    go false rest e = cc

module _ (sizes : Sizes) (stations : List StationInfo) (ms age : ℕ) where
  abbrev IsKnown : List ℕ → Type 0
  IsKnown xs = is_command_type (slice_index xs 0) ≡ true

  one_more : (b : Bool) (xss : List (List ℕ)) (xs : List ℕ) → AllByRecursion IsKnown xss
      → IsKnown xs
      → AllByRecursion IsKnown (if b then xss ++ xs ∷ [] else xss)
  one_more true xss xs all one = all_append IsKnown xss xs all one
  one_more false xss xs all one = all

  -- what is forwarded is of a known type
  all_forwarded : (k : ℕ) (h : History) → GivesOwnAnswers sizes stations ms age h
      → AllByRecursion IsKnown (forwarded_to sizes stations ms age k h)
  all_forwarded k [] g = tt
  all_forwarded k (Judged now wall xs None ∷ h) g = one_more (is_for sizes stations ms age k xs)
      (forwarded_to sizes stations ms age k h) xs (all_forwarded k h g.1)
      (typed sizes stations age wall xs g.0)
  all_forwarded k (Judged now wall xs (Some a) ∷ h) g = all_forwarded k h g.1
  all_forwarded k (Sent j octets ∷ h) g = all_forwarded k h g
  all_forwarded k (Accepted j ∷ h) g = all_forwarded k h g
  all_forwarded k (Refused j a ∷ h) g = all_forwarded k h g.1
  all_forwarded k (GivenUp j b ∷ h) g = all_forwarded k h g.1
  all_forwarded k (Mirrored now v ∷ h) g = all_forwarded k h g
  all_forwarded k (Offered octets kept ∷ h) g = all_forwarded k h g
  all_forwarded k (Answered octets ∷ h) g = all_forwarded k h g
  all_forwarded k (Ended ∷ h) g = tt

  gone : (b : Bool) (o : Option (List ℕ)) (xs : List ℕ) → (o ≡ Some xs → IsKnown xs)
      → (if b then None else o) ≡ Some xs → IsKnown xs
  gone true o xs later e = cc
  gone false o xs later e = later e

  put : (b : Bool) (next o : Option (List ℕ)) (xs : List ℕ) → (next ≡ Some xs → IsKnown xs)
      → (o ≡ Some xs → IsKnown xs) → (if b then next else o) ≡ Some xs → IsKnown xs
  put true next o xs now later e = now e
  put false next o xs now later e = later e

  -- and so is what stands on a line
  on_line_known : (k : ℕ) (h : History) (xs : List ℕ) → GivesOwnAnswers sizes stations ms age h
      → on_line sizes stations ms age k h ≡ Some xs → IsKnown xs
  on_line_known k [] xs g e = cc
  on_line_known k (Judged now wall ys None ∷ h) xs g e = on_line_known k h xs g.1 e
  on_line_known k (Judged now wall ys (Some a) ∷ h) xs g e = on_line_known k h xs g.1 e
  on_line_known k (Sent j octets ∷ h) xs g e =
      put (k == j) (next_for sizes stations ms age k h) (on_line sizes stations ms age k h) xs
      (first_of IsKnown (sent_count sizes stations ms age k h)
      (forwarded_to sizes stations ms age k h) xs
      (all_forwarded k h g))
      (on_line_known k h xs g) e
  on_line_known k (Accepted j ∷ h) xs g e = gone (k == j) (on_line sizes stations ms age k h) xs
      (on_line_known k h xs g) e
  on_line_known k (Refused j a ∷ h) xs g e = gone (k == j) (on_line sizes stations ms age k h) xs
      (on_line_known k h xs g.1) e
  on_line_known k (GivenUp j b ∷ h) xs g e = gone (k == j) (on_line sizes stations ms age k h) xs
      (on_line_known k h xs g.1) e
  on_line_known k (Mirrored now v ∷ h) xs g e = on_line_known k h xs g e
  on_line_known k (Offered octets kept ∷ h) xs g e = on_line_known k h xs g e
  on_line_known k (Answered octets ∷ h) xs g e = on_line_known k h xs g e
  on_line_known k (Ended ∷ h) xs g e = cc

pub of_busy : (sizes : Sizes) (stations : List StationInfo) (ms age : ℕ) (calls : List Call) (k : ℕ)
    (a : List ℕ) →
    refusal_of (line_of k (run stations sizes ms age calls).state) ≡ Some a
    → monitor_objects_of tcp a ≡ []
of_busy sizes stations ms age calls k a is = go (line_of k (run stations sizes ms age calls).state)
    ((run_holds sizes stations ms age calls).keeps.on_lines.held k) is
  where
    go : (l : Line)
        → held l ≡ on_line sizes stations ms age k (run stations sizes ms age calls).history
        → refusal_of l ≡ Some a → monitor_objects_of tcp a ≡ []
    go line.Free h e = cc
    go (line.Holds xs) h e =
        let same : answer (negative xs) xs ≡ a = cc in
        subst (λ (ys : List ℕ). monitor_objects_of tcp ys ≡ []) same
        (of_command (negative xs) xs
        (on_line_known sizes stations ms age k (run stations sizes ms age calls).history xs
        (run_holds sizes stations ms age calls).keeps.rightly (sym h)))
    go line.CutOff h e = cc
