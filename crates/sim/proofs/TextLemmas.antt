-- Text goes on.
use Rattle.std.proofs.Common.{◌≡◌, ℕ, ◌+◌, ◌<◌, ◌≤◌, List, [], ◌∷◌, ◌++◌, length, drop, get_or, map}
use Rattle.std.proofs.Common.{true, Bool, refl, sym, ap, ◌∙◌, append_assoc, arith}
use Rattle.std.proofs.lemmas.List.{append-nil, drop_more, drop_all}
use Rattle.asdu.specs.Asdu.{AsduValue, Info}
use Rattle.asdu.specs.InformationObjects.{InformationObject, object_in, only_if, is_passed_on}
use Rattle.asdu.specs.InformationObjects.{value_objects}
use Rattle.link.specs.Secondary.{Secondary}
use Rattle.sim.specs.declared.directive.Directive.{Directive}
use Rattle.sim.specs.Texts.{line_of_station, station_lines, connection_line, connection_lines}
use Rattle.sim.specs.Texts.{line_of_sessions, session_lines}
use Rattle.sim.specs.declared.tally.StationTally.{StationTally}

pub station_more : (ds : List Directive) (ss : List Secondary) (i : ℕ) (d : Secondary)
    (now new whole : List ℕ)
    → i < length ss → now ++ station_lines ds i (drop i ss) ≡ whole →
    new ≡ now ++ line_of_station ds i (get_or ss i d)
    → new ++ station_lines ds (i + 1) (drop (i + 1) ss) ≡ whole
station_more ds ss i d now new whole lt so e =
    ap (λ (l : List ℕ). l ++ station_lines ds (i + 1) (drop (i + 1) ss)) e
    ∙ append_assoc now (line_of_station ds i (get_or ss i d))
    (station_lines ds (i + 1) (drop (i + 1) ss))
    ∙ sym (ap (λ (l : List Secondary). now ++ station_lines ds i l) (drop_more ss i d lt)) ∙ so

pub station_end : (ds : List Directive) (ss : List Secondary) (i : ℕ) (now whole : List ℕ)
    → length ss ≤ i
    → now ++ station_lines ds i (drop i ss) ≡ whole → now ≡ whole
station_end ds ss i now whole le so = sym (append-nil now)
    ∙ sym (ap (λ (l : List Secondary). now ++ station_lines ds i l) (drop_all i ss le)) ∙ so

pub connection_more : (ns : List ℕ) (i d : ℕ) (now new whole : List ℕ) → i < length ns
    → now ++ connection_lines (i + 1) (drop i ns) ≡ whole
    → new ≡ now ++ connection_line (i + 1) (get_or ns i d)
    → new ++ connection_lines ((i + 1) + 1) (drop (i + 1) ns) ≡ whole
connection_more ns i d now new whole lt so e =
    ap (λ (l : List ℕ). l ++ connection_lines ((i + 1) + 1) (drop (i + 1) ns)) e
    ∙ append_assoc now (connection_line (i + 1) (get_or ns i d))
    (connection_lines ((i + 1) + 1) (drop (i + 1) ns))
    ∙ sym (ap (λ (l : List ℕ). now ++ connection_lines (i + 1) l) (drop_more ns i d lt)) ∙ so

pub connection_end : (ns : List ℕ) (i k : ℕ) (now whole : List ℕ) → length ns ≤ i
    → now ++ connection_lines k (drop i ns) ≡ whole → now ≡ whole
connection_end ns i k now whole le so = sym (append-nil now)
    ∙ sym (ap (λ (l : List ℕ). now ++ connection_lines k l) (drop_all i ns le)) ∙ so

pub session_more : (ts : List StationTally) (i : ℕ) (d : StationTally) (now new whole : List ℕ)
    → i < length ts
    → now ++ session_lines i (drop i ts) ≡ whole →
    new ≡ now ++ line_of_sessions i (get_or ts i d) → new ++ session_lines (i + 1) (drop (i + 1) ts)
    ≡ whole
session_more ts i d now new whole lt so e =
    ap (λ (l : List ℕ). l ++ session_lines (i + 1) (drop (i + 1) ts)) e
    ∙ append_assoc now (line_of_sessions i (get_or ts i d))
    (session_lines (i + 1) (drop (i + 1) ts))
    ∙ sym (ap (λ (l : List StationTally). now ++ session_lines i l) (drop_more ts i d lt)) ∙ so

pub session_end : (ts : List StationTally) (i : ℕ) (now whole : List ℕ) → length ts ≤ i
    → now ++ session_lines i (drop i ts) ≡ whole → now ≡ whole
session_end ts i now whole le so = sym (append-nil now)
    ∙ sym (ap (λ (l : List StationTally). now ++ session_lines i l) (drop_all i ts le)) ∙ so

length-objects : (u : AsduValue) (infos : List Info) → length (map (object_in u) infos)
    ≡ length infos
length-objects u [] = refl
length-objects u (i ∷ infos) = omega (arith, length-objects u infos)

-- all objects of an ASDU that is passed on
pub counted_objects : (u : AsduValue) (xs : List InformationObject) (n : ℕ) → n ≡ length u.infos
    → xs ≡ only_if (is_passed_on u.kind u.cause) (value_objects u) → is_passed_on u.kind u.cause
    ≡ true → n ≡ length xs
counted_objects u xs n e f is =
    let whole : xs ≡ value_objects u = f ∙ ap (λ (b : Bool). only_if b (value_objects u)) is in
    e ∙ sym (ap length whole ∙ length-objects u u.infos)
