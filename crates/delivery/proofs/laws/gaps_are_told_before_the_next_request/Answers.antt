use Rattle.delivery.proofs.Told.{told, others, asked}
use Rattle.delivery.proofs.laws.gaps_are_told_before_the_next_request.Goals as goal

pub returns : goal.returns
returns c = record {
  told = λ p newer log now station session f. told p newer log now station session f.acts;
  others = λ p newer log now station session other f apart.
      others p newer log now station session f.acts other apart;
  asked = λ p newer log now octets station f. asked p newer log now octets station f.acts;
}
