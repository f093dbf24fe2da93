use Rattle.std.proofs.Common.{List, ℕ, [], ◌++◌, drop, sym, ap, ◌∙◌, subst, length, ◌<◌}
use Rattle.std.proofs.lemmas.List.{append-nil, take-append-drop}
use Rattle.ft12.specs.Spelling.{spelling}
use Rattle.ft12.specs.Spoiling.{spoilt}
use Rattle.ft12.proofs.Spoiling.{no_line}
use Rattle.ft12.proofs.laws.spoilt_lines_are_no_lines.Goals as goal

pub returns : goal.returns
returns c = record {
  front = λ size f g x rest place n line lt front.
      no_line size f g place rest (drop n (spoilt place x ++ rest)) line.fits
      (subst (λ l. place < length l) line.spelled lt)
      (ap (λ (l : List ℕ). spoilt place l ++ rest) (sym line.spelled)
      ∙ sym (take-append-drop n (spoilt place x ++ rest))
      ∙ ap (λ (l : List ℕ). l ++ drop n (spoilt place x ++ rest)) front.0.spelled);
  beginning = λ size f g x rest place line lt other.
      no_line size f g place rest [] line.fits (subst (λ l. place < length l) line.spelled lt)
      (ap (λ (l : List ℕ). spoilt place l ++ rest) (sym line.spelled) ∙ other.spelled
      ∙ sym (append-nil (spelling size g)));
  neither = λ size f g x rest more place line lt e.
      no_line size f g place rest more line.fits (subst (λ l. place < length l) line.spelled lt)
      (ap (λ (l : List ℕ). spoilt place l ++ rest) (sym line.spelled) ∙ e);
}
