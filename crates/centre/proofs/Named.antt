-- Who gave nothing is named behind all that passed.
use Rattle.std.proofs.Common.{ℕ, List, [], ◌++◌, Option}
use Rattle.std.proofs.KnownBytes.{Appends-nil, Appends-trans}
use Rattle.centre.specs.Courses.{HasConversed, HasPursued, IsPrinted}
use Rattle.centre.specs.Desks.{Desk}
use Rattle.centre.specs.declared.errand.Outcome.{Outcome}

pub all_printed : (old new : Desk) (outcome : Outcome) (before mid after : Option (List ℕ))
    → HasConversed old outcome new before mid → IsPrinted mid after
    → HasPursued old outcome new before after
all_printed old new outcome before mid after h k = record {
  mid = mid;
  conversed = h;
  named = k;
  printed = (h.told.text ++ k.0, Appends-trans _ _ _ _ _ h.told.printed k.1);
}

pub nothing_printed : (known : Option (List ℕ)) → IsPrinted known known
nothing_printed known = ([], Appends-nil known)
