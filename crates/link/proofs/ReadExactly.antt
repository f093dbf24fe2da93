-- What the lines of a primary's state are read as is what they were put of.
use Rattle.std.proofs.Common.{◌≡◌, ℕ, ◌==◌, ◌&&◌, nat_lt, Bool, true, false}
use Rattle.std.proofs.Common.{if◌then◌else◌, List, [], ◌∷◌, ◌++◌, Option, Some, None, refl}
use Rattle.std.proofs.Common.{sym, ap, ◌∙◌, eqb-true, subst}
use Rattle.ft12.specs.Assembly.{so_far_numbers}
use Rattle.link.specs.Answers.{Asked, Status, Reset, Counted, Service, Class1, Class2, Command}
use Rattle.link.specs.Procedure.{LinkSettings, Link, Down, Available, Next, Held}
use Rattle.link.specs.Turns.{StationState, Phase, Starting, Commanding, Polling, Class1Polling}
use Rattle.link.specs.Turns.{Over}
use Rattle.link.specs.Primary.{Primary, Outstanding}
use Rattle.link.specs.Holding.{outstanding_from, outstanding_of, Awaited}
use Rattle.link.specs.declared.master.restoring.TurnLine.{TurnLine}
use Rattle.link.specs.Saved.{bit_number, bit_from, service_numbers, command_from, command_service}
use Rattle.link.specs.Saved.{bare_service, service_from, link_numbers, bare_link}
use Rattle.link.specs.Saved.{next_by, next_from, held_with, held_by, held_from}
use Rattle.link.specs.Saved.{link_from, flags_numbers, bare_station, flags_from}
use Rattle.link.specs.Saved.{StandBefore}
use Rattle.link.specs.Restored.{phase_numbers, phase_from, asked_numbers}
use Rattle.link.specs.Restored.{awaited_numbers, received_numbers, head_by, head_from, counted_by}
use Rattle.link.specs.Restored.{counted_from, bare_asked, asked_from, awaited_with}
use Rattle.link.specs.Restored.{some_awaited, no_awaited, awaited_from, octets_from}
use Rattle.link.specs.Restored.{listening, deaf_by, answered_with, primary_with}
use Rattle.link.specs.Restored.{IsStateOf}
use Rattle.link.specs.Saved.{held_number, held_of, held_as, unsure_numbers, unsure_from}
use Rattle.link.specs.Procedure.{Probed, Never, Once, Twice}

-- what is given only on a condition
where_it_holds : {X : Type 0} (b : Bool) (x y : X) → (if b then Some x else None) ≡ Some y → x ≡ y
where_it_holds true x y e = cc
where_it_holds false x y e = absurd cc

bit_by : (n : ℕ) (b p q : Bool) → (n == 0) ≡ p → (n == 1) ≡ q
    → (if p then Some false else if q then Some true else None) ≡ Some b → n ≡ bit_number b
bit_by n b true q is one e =
    eqb-true n 0 is ∙ ap bit_number (let same : false ≡ b = cc in same)
bit_by n b false true is one e =
    eqb-true n 1 one ∙ ap bit_number (let same : true ≡ b = cc in same)
bit_by n b false false is one e = absurd cc

bit_only : (n : ℕ) (b : Bool) → bit_from n ≡ Some b → n ≡ bit_number b
bit_only n b e = bit_by n b (n == 0) (n == 1) refl refl e

-- ---- A service

bare_only : {X : Type 0} (numbers : X → List ℕ) (bare : X → List ℕ → Option X) (kind : ℕ) (x y : X)
    (ns : List ℕ) → ((n : ℕ) (more : List ℕ) → bare x (n ∷ more) ≡ None) → bare x [] ≡ Some x
    → kind ∷ [] ≡ numbers x → bare x ns ≡ Some y → kind ∷ ns ≡ numbers y
bare_only numbers bare kind x y [] none some is e =
    is ∙ ap numbers (let same : x ≡ y = cc in same)
bare_only numbers bare kind x y (n ∷ ns) none some is e = let no = none n ns in absurd cc

command_only : (ns : List ℕ) (o : Option (List ℕ)) (s : Service) → command_from ns ≡ o
    → command_service o ≡ Some s → 3 ∷ ns ≡ service_numbers s
command_only ns None s is e = absurd cc
command_only ns (Some octets) s is e =
    ap (λ (l : List ℕ). 3 ∷ l) (where_it_holds _ ns octets is)
    ∙ ap service_numbers (let same : Command octets ≡ s = cc in same)

service_kind : (kind : ℕ) (ns : List ℕ) (s : Service) (p q r : Bool) → (kind == 1) ≡ p
    → (kind == 2) ≡ q → (kind == 3) ≡ r
    → (if p then bare_service Class1 ns
    else if q then bare_service Class2 ns
    else if r then command_service (command_from ns)
    else None) ≡ Some s
    → kind ∷ ns ≡ service_numbers s
service_kind kind ns s true q r one two three e =
    bare_only service_numbers bare_service kind Class1 s ns (λ n more. refl) refl
    (ap (λ (n : ℕ). n ∷ []) (eqb-true kind 1 one)) e
service_kind kind ns s false true r one two three e =
    bare_only service_numbers bare_service kind Class2 s ns (λ n more. refl) refl
    (ap (λ (n : ℕ). n ∷ []) (eqb-true kind 2 two)) e
service_kind kind ns s false false true one two three e =
    ap (λ (n : ℕ). n ∷ ns) (eqb-true kind 3 three) ∙ command_only ns (command_from ns) s refl e
service_kind kind ns s false false false one two three e = absurd cc

service_only : (ns : List ℕ) (s : Service) → service_from ns ≡ Some s → ns ≡ service_numbers s
service_only [] s e = absurd cc
service_only (kind ∷ ns) s e =
    service_kind kind ns s (kind == 1) (kind == 2) (kind == 3) refl refl refl e

-- ---- A link

next_only : (bit : ℕ) (ns : List ℕ) (l : Link) (o : Option Bool) → bit_from bit ≡ o
    → next_by o ns ≡ Some l → 2 ∷ bit ∷ ns ≡ link_numbers l
next_only bit ns l None is e = absurd cc
next_only bit [] l (Some fcb) is e =
    ap (λ (n : ℕ). 2 ∷ n ∷ []) (bit_only bit fcb is)
    ∙ ap link_numbers (let same : Next fcb ≡ l = cc in same)
next_only bit (n ∷ ns) l (Some fcb) is e = absurd cc

module _ (spent : Bool) (probed : Probed) where
  held_only : (fcb : Bool) (missed : ℕ) (ns : List ℕ) (l : Link) (b : Bool) (o : Option Service)
      → service_from ns ≡ o → (if b then held_with spent probed fcb missed o else None) ≡ Some l
      → held_number spent probed ∷ bit_number fcb ∷ missed ∷ ns ≡ link_numbers l
  held_only fcb missed ns l false o is e = absurd cc
  held_only fcb missed ns l true None is e = absurd cc
  held_only fcb missed ns l true (Some s) is e =
      ap (λ (m : List ℕ). held_number spent probed ∷ bit_number fcb ∷ missed ∷ m)
      (service_only ns s is)
      ∙ ap link_numbers (let same : Held fcb s (record {
        missed = missed;
        spent = spent;
        probed = probed;
      }) ≡ l = cc in same)

  held_bit : (bit : ℕ) (ns : List ℕ) (l : Link) (o : Option Bool) → bit_from bit ≡ o
      → held_by spent probed o ns ≡ Some l
      → held_number spent probed ∷ bit ∷ ns ≡ link_numbers l
  held_bit bit ns l None is e = absurd cc
  held_bit bit [] l (Some fcb) is e = absurd cc
  held_bit bit (missed ∷ ns) l (Some fcb) is e =
      ap (λ (n : ℕ). held_number spent probed ∷ n ∷ missed ∷ ns) (bit_only bit fcb is)
      ∙ held_only fcb missed ns l (nat_lt missed 65536) (service_from ns) refl e

  held_rest : (ns : List ℕ) (l : Link) → held_from spent probed ns ≡ Some l
      → held_number spent probed ∷ ns ≡ link_numbers l
  held_rest [] l e = absurd cc
  held_rest (bit ∷ ns) l e = held_bit bit ns l (bit_from bit) refl e

abbrev how_numbered : Bool × Probed → ℕ
how_numbered how = held_number how.0 how.1

-- the number of a held service is its number alone
kind_only : (kind : ℕ) (how : Bool × Probed) → held_of kind ≡ Some how → kind ≡ how_numbered how
kind_only kind how = go (kind == 3) (kind == 4) (kind == 5) (kind == 6) (kind == 7) (kind == 8)
    refl refl refl refl refl refl
  where
    same : (which : Bool × Probed) → Some which ≡ Some how → which ≡ how
    same which e = cc

    go : (a b c d f g : Bool) → (kind == 3) ≡ a → (kind == 4) ≡ b → (kind == 5) ≡ c
        → (kind == 6) ≡ d → (kind == 7) ≡ f → (kind == 8) ≡ g
        → (if a then Some (false, Never)
        else if b then Some (true, Never)
        else if c then Some (false, Once)
        else if d then Some (true, Once)
        else if f then Some (false, Twice)
        else if g then Some (true, Twice)
        else None) ≡ Some how → kind ≡ how_numbered how
    go true b c d f g ia ib ic id if_ ig e =
        eqb-true kind 3 ia ∙ ap how_numbered (same (false, Never) e)
    go false true c d f g ia ib ic id if_ ig e =
        eqb-true kind 4 ib ∙ ap how_numbered (same (true, Never) e)
    go false false true d f g ia ib ic id if_ ig e =
        eqb-true kind 5 ic ∙ ap how_numbered (same (false, Once) e)
    go false false false true f g ia ib ic id if_ ig e =
        eqb-true kind 6 id ∙ ap how_numbered (same (true, Once) e)
    go false false false false true g ia ib ic id if_ ig e =
        eqb-true kind 7 if_ ∙ ap how_numbered (same (false, Twice) e)
    go false false false false false true ia ib ic id if_ ig e =
        eqb-true kind 8 ig ∙ ap how_numbered (same (true, Twice) e)
    go false false false false false false ia ib ic id if_ ig e = absurd cc

held_kind : (kind : ℕ) (ns : List ℕ) (l : Link) (o : Option (Bool × Probed)) → held_of kind ≡ o
    → held_as o ns ≡ Some l → kind ∷ ns ≡ link_numbers l
held_kind kind ns l None is e = absurd cc
held_kind kind ns l (Some how) is e =
    ap (λ (n : ℕ). n ∷ ns) (kind_only kind how is) ∙ held_rest how.0 how.1 ns l e

link_rest : (ns : List ℕ) (l : Link) → next_from ns ≡ Some l → 2 ∷ ns ≡ link_numbers l
link_rest [] l e = absurd cc
link_rest (bit ∷ ns) l e = next_only bit ns l (bit_from bit) refl e

link_kind : (kind : ℕ) (ns : List ℕ) (l : Link) (p q r : Bool) → (kind == 0) ≡ p
    → (kind == 1) ≡ q → (kind == 2) ≡ r
    → (if p then bare_link Down ns
    else if q then bare_link Available ns
    else if r then next_from ns
    else held_as (held_of kind) ns) ≡ Some l
    → kind ∷ ns ≡ link_numbers l
link_kind kind ns l true q r is one two e =
    bare_only link_numbers bare_link kind Down l ns (λ n more. refl) refl
    (ap (λ (n : ℕ). n ∷ []) (eqb-true kind 0 is)) e
link_kind kind ns l false true r is one two e =
    bare_only link_numbers bare_link kind Available l ns (λ n more. refl) refl
    (ap (λ (n : ℕ). n ∷ []) (eqb-true kind 1 one)) e
link_kind kind ns l false false true is one two e =
    ap (λ (n : ℕ). n ∷ ns) (eqb-true kind 2 two) ∙ link_rest ns l e
link_kind kind ns l false false false is one two e = held_kind kind ns l (held_of kind) refl e

link_only : (ns : List ℕ) (l : Link) → link_from ns ≡ Some l → ns ≡ link_numbers l
link_only [] l e = absurd cc
link_only (kind ∷ ns) l e =
    link_kind kind ns l (kind == 0) (kind == 1) (kind == 2) refl refl refl e

-- ---- A station

-- what ends a line
unsure_only : (ns : List ℕ) (unsure : Bool) → unsure_from ns ≡ Some unsure
    → ns ≡ unsure_numbers unsure
unsure_only [] false e = refl
unsure_only [] true e = absurd cc
unsure_only (n ∷ []) unsure e = go (n == 1) refl unsure e
  where
    go : (b : Bool) → (n == 1) ≡ b → (u : Bool) → (if b then Some true else None) ≡ Some u
        → n ∷ [] ≡ unsure_numbers u
    go true is true e = ap (λ (m : ℕ). m ∷ []) (eqb-true n 1 is)
    go true is false e = absurd cc
    go false is u e = absurd cc
unsure_only (n ∷ m ∷ ns) unsure e = absurd cc

flags_by : (address acd dfc number gap : ℕ) (ns : List ℕ) (s : StationState)
    (a d g u : Option Bool)
    → bit_from acd ≡ a → bit_from dfc ≡ d → bit_from gap ≡ g → unsure_from ns ≡ u
    → bare_station address number a d g u ≡ Some s
    → address ∷ acd ∷ dfc ∷ number ∷ gap ∷ ns ≡ flags_numbers s
flags_by address acd dfc number gap ns s None d g u ia id ig iu e = absurd cc
flags_by address acd dfc number gap ns s (Some a) None g u ia id ig iu e = absurd cc
flags_by address acd dfc number gap ns s (Some a) (Some d) None u ia id ig iu e = absurd cc
flags_by address acd dfc number gap ns s (Some a) (Some d) (Some g) None ia id ig iu e = absurd cc
flags_by address acd dfc number gap ns s (Some a) (Some d) (Some g) (Some u) ia id ig iu e =
    ap (λ (n : ℕ). address ∷ n ∷ dfc ∷ number ∷ gap ∷ ns) (bit_only acd a ia)
    ∙ (ap (λ (n : ℕ). address ∷ bit_number a ∷ n ∷ number ∷ gap ∷ ns) (bit_only dfc d id)
    ∙ (ap (λ (n : ℕ). address ∷ bit_number a ∷ bit_number d ∷ number ∷ n ∷ ns)
    (bit_only gap g ig)
    ∙ (ap (λ (l : List ℕ). address ∷ bit_number a ∷ bit_number d ∷ number ∷ bit_number g ∷ l)
    (unsure_only ns u iu)
    ∙ ap flags_numbers (where_it_holds (nat_lt address 65536) _ s e))))

flags_only : (ns : List ℕ) (s : StationState) → flags_from ns ≡ Some s → ns ≡ flags_numbers s
flags_only [] s e = absurd cc
flags_only (a ∷ []) s e = absurd cc
flags_only (a ∷ b ∷ []) s e = absurd cc
flags_only (a ∷ b ∷ c ∷ []) s e = absurd cc
flags_only (a ∷ b ∷ c ∷ d ∷ []) s e = absurd cc
flags_only (a ∷ b ∷ c ∷ d ∷ g ∷ ns) s e =
    flags_by a b c d g ns s (bit_from b) (bit_from c) (bit_from g) (unsure_from ns) refl refl refl
    refl e

-- the two lines that a station was read of, and a third
pub station_exact : (bare : StationState) (link : Link) (b : Option StationState) (o : Option Link)
    (first second third was1 was2 : List ℕ) (all l1 l2 l3 : List (List ℕ))
    → b ≡ flags_from was1 → was1 ≡ first → b ≡ Some bare → o ≡ link_from was2 → was2 ≡ second
    → o ≡ Some link → all ≡ first ∷ l1 → l1 ≡ second ∷ l2 → l2 ≡ third ∷ l3
    → all ≡ flags_numbers bare ∷ link_numbers link ∷ third ∷ l3
station_exact bare link b o first second third was1 was2 all l1 l2 l3 ib w1 sb io w2 so e1 e2 e3 =
    let flags : first ≡ flags_numbers bare =
    sym w1 ∙ flags_only was1 bare (sym ib ∙ sb) in
    let links : second ≡ link_numbers link = sym w2 ∙ link_only was2 link (sym io ∙ so) in
    e1 ∙ (ap (λ (l : List ℕ). l ∷ l1) flags ∙ ap (λ (l : List (List ℕ)). flags_numbers bare ∷ l)
    (e2 ∙ (ap (λ (l : List ℕ). l ∷ l2) links
    ∙ ap (λ (l : List (List ℕ)). link_numbers link ∷ l) e3)))

-- one more station stands behind those that were read
pub stands_behind : (ss : List StationState) (t : StationState) (third : List ℕ)
    (lines mid rest : List (List ℕ)) → StandBefore ss lines mid
    → mid ≡ flags_numbers t ∷ link_numbers t.link ∷ third ∷ rest
    → StandBefore (ss ++ t ∷ []) lines rest
stands_behind [] t third lines mid rest are is = (third, rest, are ∙ is, refl)
stands_behind (s ∷ ss) t third lines mid rest are is =
    (are.0, are.1, are.2, stands_behind ss t third are.1 mid rest are.3 is)

pub then_is : (a b c : List StationState) → a ≡ b → b ≡ c → a ≡ c
then_is a b c is same = is ∙ same

pub before_none : (ss : List StationState) (lines : List (List ℕ)) → ss ≡ []
    → StandBefore ss lines lines
before_none ss lines is =
    subst (λ (ts : List StationState). StandBefore ts lines lines) (sym is) refl

pub one_more_stands : (old new : List StationState) (t : StationState)
    (lines mid rest : List (List ℕ)) → StandBefore old lines mid → new ≡ old ++ t ∷ []
    → (third : List ℕ) × (mid ≡ flags_numbers t ∷ link_numbers t.link ∷ third ∷ rest)
    → StandBefore new lines rest
one_more_stands old new t lines mid rest are is next =
    subst (λ (ts : List StationState). StandBefore ts lines rest) (sym is)
    (stands_behind old t next.0 lines mid rest are next.1)

-- ---- The first three lines

phase_kind : (kind : ℕ) (phase : Phase) (p q r t : Bool) → (kind == 0) ≡ p → (kind == 1) ≡ q
    → (kind == 2) ≡ r → (kind == 4) ≡ t
    → (if p then Some Starting
    else if q then Some Commanding
    else if r then Some Polling
    else if t then Some Over
    else None) ≡ Some phase
    → kind ∷ [] ≡ phase_numbers phase
phase_kind kind phase true q r t is one two four e =
    ap (λ (n : ℕ). n ∷ []) (eqb-true kind 0 is)
    ∙ ap phase_numbers (let same : Starting ≡ phase = cc in same)
phase_kind kind phase false true r t is one two four e =
    ap (λ (n : ℕ). n ∷ []) (eqb-true kind 1 one)
    ∙ ap phase_numbers (let same : Commanding ≡ phase = cc in same)
phase_kind kind phase false false true t is one two four e =
    ap (λ (n : ℕ). n ∷ []) (eqb-true kind 2 two)
    ∙ ap phase_numbers (let same : Polling ≡ phase = cc in same)
phase_kind kind phase false false false true is one two four e =
    ap (λ (n : ℕ). n ∷ []) (eqb-true kind 4 four)
    ∙ ap phase_numbers (let same : Over ≡ phase = cc in same)
phase_kind kind phase false false false false is one two four e = absurd cc

phase_sent : (kind sent : ℕ) (phase : Phase) (p q : Bool) → (kind == 3) ≡ p
    → (if p && q then Some (Class1Polling sent) else None) ≡ Some phase
    → kind ∷ sent ∷ [] ≡ phase_numbers phase
phase_sent kind sent phase true true is e =
    ap (λ (n : ℕ). n ∷ sent ∷ []) (eqb-true kind 3 is)
    ∙ ap phase_numbers (let same : Class1Polling sent ≡ phase = cc in same)
phase_sent kind sent phase true false is e = absurd cc
phase_sent kind sent phase false q is e = absurd cc

phase_only : (ns : List ℕ) (phase : Phase) → phase_from ns ≡ Some phase → ns ≡ phase_numbers phase
phase_only [] phase e = absurd cc
phase_only (kind ∷ []) phase e =
    phase_kind kind phase (kind == 0) (kind == 1) (kind == 2) (kind == 4) refl refl refl refl e
phase_only (kind ∷ sent ∷ []) phase e =
    phase_sent kind sent phase (kind == 3) (nat_lt sent 256) refl e
phase_only (kind ∷ sent ∷ n ∷ ns) phase e = absurd cc

-- the numbers of the first line
abbrev turn_numbers : TurnLine → List ℕ
turn_numbers h = h.turn ∷ bit_number h.again ∷ h.spoilt ∷ phase_numbers h.phase

head_with : (turn again spoilt : ℕ) (ns : List ℕ) (h : TurnLine) (a : Option Bool)
    (o : Option Phase) → bit_from again ≡ a → phase_from ns ≡ o
    → head_by turn spoilt a o ≡ Some h → turn ∷ again ∷ spoilt ∷ ns ≡ turn_numbers h
head_with turn again spoilt ns h None o ia io e = absurd cc
head_with turn again spoilt ns h (Some a) None ia io e = absurd cc
head_with turn again spoilt ns h (Some a) (Some phase) ia io e =
    ap (λ (n : ℕ). turn ∷ n ∷ spoilt ∷ ns) (bit_only again a ia)
    ∙ (ap (λ (l : List ℕ). turn ∷ bit_number a ∷ spoilt ∷ l) (phase_only ns phase io)
    ∙ ap turn_numbers
    (let same : record { turn = turn; again = a; spoilt = spoilt; phase = phase } ≡ h = cc in
    same))

head_only : (ns : List ℕ) (h : TurnLine) → head_from ns ≡ Some h → ns ≡ turn_numbers h
head_only [] h e = absurd cc
head_only (a ∷ []) h e = absurd cc
head_only (a ∷ b ∷ []) h e = absurd cc
head_only (a ∷ b ∷ c ∷ ns) h e = head_with a b c ns h (bit_from b) (phase_from ns) refl refl e

counted_only : (bit : ℕ) (ns : List ℕ) (asked : Asked) (b : Option Bool) (s : Option Service)
    → bit_from bit ≡ b → service_from ns ≡ s → counted_by b s ≡ Some asked
    → 2 ∷ bit ∷ ns ≡ asked_numbers asked
counted_only bit ns asked None s ib is e = absurd cc
counted_only bit ns asked (Some fcb) None ib is e = absurd cc
counted_only bit ns asked (Some fcb) (Some s) ib is e =
    ap (λ (n : ℕ). 2 ∷ n ∷ ns) (bit_only bit fcb ib)
    ∙ (ap (λ (l : List ℕ). 2 ∷ bit_number fcb ∷ l) (service_only ns s is)
    ∙ ap asked_numbers (let same : Counted fcb s ≡ asked = cc in same))

counted_rest : (ns : List ℕ) (asked : Asked) → counted_from ns ≡ Some asked
    → 2 ∷ ns ≡ asked_numbers asked
counted_rest [] asked e = absurd cc
counted_rest (bit ∷ ns) asked e =
    counted_only bit ns asked (bit_from bit) (service_from ns) refl refl e

asked_kind : (kind : ℕ) (ns : List ℕ) (asked : Asked) (p q r : Bool) → (kind == 0) ≡ p
    → (kind == 1) ≡ q → (kind == 2) ≡ r
    → (if p then bare_asked Status ns
    else if q then bare_asked Reset ns
    else if r then counted_from ns
    else None) ≡ Some asked
    → kind ∷ ns ≡ asked_numbers asked
asked_kind kind ns asked true q r is one two e =
    bare_only asked_numbers bare_asked kind Status asked ns (λ n more. refl) refl
    (ap (λ (n : ℕ). n ∷ []) (eqb-true kind 0 is)) e
asked_kind kind ns asked false true r is one two e =
    bare_only asked_numbers bare_asked kind Reset asked ns (λ n more. refl) refl
    (ap (λ (n : ℕ). n ∷ []) (eqb-true kind 1 one)) e
asked_kind kind ns asked false false true is one two e =
    ap (λ (n : ℕ). n ∷ ns) (eqb-true kind 2 two) ∙ counted_rest ns asked e
asked_kind kind ns asked false false false is one two e = absurd cc

asked_only : (ns : List ℕ) (asked : Asked) → asked_from ns ≡ Some asked → ns ≡ asked_numbers asked
asked_only [] asked e = absurd cc
asked_only (kind ∷ ns) asked e =
    asked_kind kind ns asked (kind == 0) (kind == 1) (kind == 2) refl refl refl e

-- the numbers of the third line
abbrev awaited_line : Option Awaited → List ℕ
awaited_line None = 0 ∷ []
awaited_line (Some a) = 1 ∷ a.since ∷ bit_number a.has_octets ∷ asked_numbers a.request

-- it was read for what came of the answer
abbrev IsDeaf : (deaf : Bool) → Option Awaited → Type 0
IsDeaf deaf None = Unit {0}
IsDeaf deaf (Some a) = deaf ≡ a.deaf

abbrev IsRead : (deaf : Bool) → List ℕ → Option Awaited → Type 0
IsRead deaf ns a = (ns ≡ awaited_line a) × IsDeaf deaf a

read_as : (deaf : Bool) (ns : List ℕ) (a b : Option Awaited) → a ≡ b → IsRead deaf ns a
    → IsRead deaf ns b
read_as deaf ns a b is read = subst (λ (o : Option Awaited). IsRead deaf ns o) is read

some_only : (deaf : Bool) (since bit : ℕ) (ns : List ℕ) (a : Option Awaited) (b : Option Bool)
    (o : Option Asked) → bit_from bit ≡ b → asked_from ns ≡ o
    → awaited_with deaf since b o ≡ Some a → IsRead deaf (1 ∷ since ∷ bit ∷ ns) a
some_only deaf since bit ns a None o ib io e = absurd cc
some_only deaf since bit ns a (Some b) None ib io e = absurd cc
some_only deaf since bit ns a (Some b) (Some asked) ib io e =
    let read : Awaited = record {
      request = asked;
      since = since;
      deaf = deaf;
      has_octets = b;
    } in
    let line : 1 ∷ since ∷ bit ∷ ns ≡ awaited_line (Some read) =
    ap (λ (n : ℕ). 1 ∷ since ∷ n ∷ ns) (bit_only bit b ib)
    ∙ ap (λ (l : List ℕ). 1 ∷ since ∷ bit_number b ∷ l) (asked_only ns asked io) in
    let same : Some read ≡ a = cc in
    let of_answer : deaf ≡ read.deaf = refl in
    read_as deaf (1 ∷ since ∷ bit ∷ ns) (Some read) a same (line, of_answer)

some_rest : (deaf : Bool) (ns : List ℕ) (a : Option Awaited) → some_awaited deaf ns ≡ Some a
    → IsRead deaf (1 ∷ ns) a
some_rest deaf [] a e = absurd cc
some_rest deaf (since ∷ []) a e = absurd cc
some_rest deaf (since ∷ bit ∷ ns) a e =
    some_only deaf since bit ns a (bit_from bit) (asked_from ns) refl refl e

none_rest : (deaf : Bool) (ns : List ℕ) (a : Option Awaited) → no_awaited ns ≡ Some a
    → IsRead deaf (0 ∷ ns) a
none_rest deaf [] a e =
    let none : Option Awaited = None in
    let line : 0 ∷ [] ≡ awaited_line none = refl in
    let same : none ≡ a = cc in
    read_as deaf (0 ∷ []) none a same (line, tt)
none_rest deaf (n ∷ ns) a e = absurd cc

awaited_kind : (deaf : Bool) (kind : ℕ) (ns : List ℕ) (a : Option Awaited) (p q : Bool)
    → (kind == 0) ≡ p → (kind == 1) ≡ q
    → (if p then no_awaited ns else if q then some_awaited deaf ns else None) ≡ Some a
    → IsRead deaf (kind ∷ ns) a
awaited_kind deaf kind ns a true q is one e =
    subst (λ (n : ℕ). IsRead deaf (n ∷ ns) a) (sym (eqb-true kind 0 is)) (none_rest deaf ns a e)
awaited_kind deaf kind ns a false true is one e =
    subst (λ (n : ℕ). IsRead deaf (n ∷ ns) a) (sym (eqb-true kind 1 one)) (some_rest deaf ns a e)
awaited_kind deaf kind ns a false false is one e = absurd cc

awaited_only : (deaf : Bool) (ns : List ℕ) (a : Option Awaited) → awaited_from deaf ns ≡ Some a
    → IsRead deaf ns a
awaited_only deaf [] a e = absurd cc
awaited_only deaf (kind ∷ ns) a e =
    awaited_kind deaf kind ns a (kind == 0) (kind == 1) refl refl e

-- the numbers of the second line
abbrev heard_numbers : Bool × List ℕ → List ℕ
heard_numbers x = if x.0 then 0 ∷ [] else 1 ∷ x.1

heard_octets : (ns : List ℕ) (o : Option (List ℕ)) (x : Bool × List ℕ) → octets_from ns ≡ o
    → listening o ≡ Some x → 1 ∷ ns ≡ heard_numbers x
heard_octets ns None x is e = absurd cc
heard_octets ns (Some octets) x is e =
    ap (λ (l : List ℕ). 1 ∷ l) (where_it_holds _ ns octets is)
    ∙ ap heard_numbers (let same : (false, octets) ≡ x = cc in same)

deaf_rest : (ns : List ℕ) (x : Bool × List ℕ) → deaf_by ns ≡ Some x → 0 ∷ ns ≡ heard_numbers x
deaf_rest [] x e =
    let none : List ℕ = [] in
    ap heard_numbers (let same : (true, none) ≡ x = cc in same)
deaf_rest (n ∷ ns) x e = absurd cc

heard_kind : (kind : ℕ) (ns : List ℕ) (x : Bool × List ℕ) (p q : Bool) → (kind == 0) ≡ p
    → (kind == 1) ≡ q
    → (if p then deaf_by ns else if q then listening (octets_from ns) else None) ≡ Some x
    → kind ∷ ns ≡ heard_numbers x
heard_kind kind ns x true q is one e =
    ap (λ (n : ℕ). n ∷ ns) (eqb-true kind 0 is) ∙ deaf_rest ns x e
heard_kind kind ns x false true is one e =
    ap (λ (n : ℕ). n ∷ ns) (eqb-true kind 1 one) ∙ heard_octets ns (octets_from ns) x refl e
heard_kind kind ns x false false is one e = absurd cc

heard_only : (ns : List ℕ) (x : Bool × List ℕ) → answered_with ns ≡ Some x → ns ≡ heard_numbers x
heard_only [] x e = absurd cc
heard_only (kind ∷ ns) x e = heard_kind kind ns x (kind == 0) (kind == 1) refl refl e

-- ---- The whole

third_is : (a : Option Awaited) (octets : List ℕ)
    → awaited_line a ≡ awaited_numbers (outstanding_from a (Some octets))
third_is None octets = refl
third_is (Some a) octets = refl

heard_is : (deaf : Bool) (octets : List ℕ)
    → heard_numbers (deaf, octets) ≡ so_far_numbers (if deaf then None else Some octets)
heard_is true octets = refl
heard_is false octets = refl

second_is : (a : Option Awaited) (deaf : Bool) (octets : List ℕ) → IsDeaf deaf a
    → (o : Outstanding) → outstanding_from a (Some octets) ≡ Some o
    → heard_numbers (deaf, octets) ≡ received_numbers (Some o)
second_is None deaf octets is o e = absurd cc
second_is (Some a) deaf octets is o e =
    heard_is deaf octets
    ∙ (ap (λ (d : Bool). so_far_numbers (if d then None else Some octets)) is
    ∙ ap (λ (x : Outstanding). received_numbers (Some x))
    (let same : outstanding_of a (Some octets) ≡ o = cc in same))

pub state_exact : (p : Primary) (settings : LinkSettings) (h : TurnLine) (a : Option Awaited)
    (deaf : Bool) (octets arrived first second third : List ℕ) (ss : List StationState)
    (all l1 l2 l3 rest : List (List ℕ))
    → p ≡ primary_with settings h (outstanding_from a (Some arrived)) ss → arrived ≡ octets
    → all ≡ first ∷ l1 → l1 ≡ second ∷ l2 → l2 ≡ third ∷ l3
    → head_from first ≡ Some h → answered_with second ≡ Some (deaf, octets)
    → awaited_from deaf third ≡ Some a → StandBefore ss l3 rest
    → IsStateOf p all rest
state_exact p settings h a deaf octets arrived first second third ss all l1 l2 l3 rest made same e1
    e2 e3 head heard awaited stand =
    let read = awaited_only deaf third a awaited in
    let outstanding : Option Outstanding = outstanding_from a (Some octets) in
    let made_so : p ≡ primary_with settings h outstanding ss =
    made ∙ ap (λ (x : List ℕ). primary_with settings h (outstanding_from a (Some x)) ss) same in
    subst (λ (q : Primary). IsStateOf q all rest) (sym made_so) (record {
      received = second;
      stations = l3;
      whole =
          e1 ∙ (ap (λ (l : List ℕ). l ∷ l1) (head_only first h head)
          ∙ ap (λ (l : List (List ℕ)). turn_numbers h ∷ l)
          (e2 ∙ ap (λ (l : List (List ℕ)). second ∷ l)
          (e3 ∙ ap (λ (l : List ℕ). l ∷ l3) (read.0 ∙ third_is a octets))));
      arrived = λ o is. heard_only second (deaf, octets) heard
          ∙ second_is a deaf octets read.1 o is;
      behind = stand;
    })
