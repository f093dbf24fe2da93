-- What is counted of a request doesn't depend on the octets of a command.
use Rattle.std.proofs.Common.{◌≡◌, ℕ, [], refl, sym, ap, ◌∙◌}
use Rattle.link.specs.declared.service.Service.TheVariants.{Class1, Class2, Command}
use Rattle.link.specs.declared.service.Asked.{Asked}
use Rattle.link.specs.declared.service.Asked.TheVariants.{Status, Reset, Counted}
use Rattle.link.specs.declared.answer.Answer.{Answer}
use Rattle.link.specs.declared.answer.Answer.TheVariants.{Ready, Confirmed, Busy, Report, NoData}
use Rattle.link.specs.declared.answer.Answer.TheVariants.{Unable}
use Rattle.link.specs.Received.{with_data}
use Rattle.sim.specs.declared.tally.StationTally.{StationTally}
use Rattle.sim.specs.Tallies.{tally_asked, tally_answered}

bare_asked : (given : ℕ) (t : StationTally) (r : Asked) → tally_asked (with_data [] r) given t
    ≡ tally_asked r given t
bare_asked given t Status = refl
bare_asked given t Reset = refl
bare_asked given t (Counted fcb Class1) = refl
bare_asked given t (Counted fcb Class2) = refl
bare_asked given t (Counted fcb (Command octets)) = refl

bare_answered : (answer : Answer) (t : StationTally) (r : Asked)
    → tally_answered (with_data [] r) answer t ≡ tally_answered r answer t
bare_answered answer t Status = refl
bare_answered answer t Reset = refl
bare_answered answer t (Counted fcb Class1) = refl
bare_answered answer t (Counted fcb Class2) = refl
bare_answered Ready t (Counted fcb (Command octets)) = refl
bare_answered Confirmed t (Counted fcb (Command octets)) = refl
bare_answered Busy t (Counted fcb (Command octets)) = refl
bare_answered (Report asdu) t (Counted fcb (Command octets)) = refl
bare_answered NoData t (Counted fcb (Command octets)) = refl
bare_answered Unable t (Counted fcb (Command octets)) = refl

pub asked_alike : (given : ℕ) (t : StationTally) (r s : Asked) → with_data [] r ≡ with_data [] s
    → tally_asked r given t ≡ tally_asked s given t
asked_alike given t r s e =
    sym (bare_asked given t r) ∙ ap (λ (q : Asked). tally_asked q given t) e ∙ bare_asked given t s

pub answered_alike : (answer : Answer) (t : StationTally) (r s : Asked) → with_data [] r
    ≡ with_data [] s
    → tally_answered r answer t ≡ tally_answered s answer t
answered_alike answer t r s e =
    sym (bare_answered answer t r) ∙ ap (λ (q : Asked). tally_answered q answer t) e
    ∙ bare_answered answer t s
