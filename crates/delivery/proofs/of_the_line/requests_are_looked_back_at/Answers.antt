use Rattle.delivery.proofs.NextRequests.{latest_is, began_goes, row_goes, class2_row, class1_row}
use Rattle.delivery.proofs.NextRequests.{first_row, again_row, nothing_new}
use Rattle.std.proofs.Common.{refl}
use Rattle.delivery.proofs.of_the_line.requests_are_looked_back_at.Goals as goal

pub returns : goal.returns
returns c = record {
  answered = λ fcb. refl;
  latest = latest_is;
  turn = began_goes;
  command = λ p now station may_poll fcb waiting asdu row goes new.
      row_goes p now may_poll waiting station fcb asdu row goes new;
  class2 = λ p now station may_poll fcb waiting row goes new.
      class2_row p now may_poll waiting station fcb row goes new;
  class1 = λ p now station many may_poll fcb waiting goes new.
      class1_row p now may_poll waiting station many fcb goes new;
  first = λ p now station may_poll fcb waiting row goes new other.
      first_row p now may_poll waiting station fcb row goes new other;
  again = λ p now many may_poll waiting s goes held has.
      again_row p now many may_poll waiting s goes held has;
  out = nothing_new;
  others = λ p at station octets row latest began.
      ((refl, refl, refl), (refl, refl, refl), (refl, refl, refl));
}
