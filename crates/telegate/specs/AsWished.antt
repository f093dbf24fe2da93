-- That a live run was what it was wished to be (profile).
use Rattle.std.specs.Prelude.{◌≡◌, Bool, is_some}
use Rattle.record.specs.Recording.{Recording}
use Rattle.runlog.specs.Logging.{Book}
use Rattle.telegate.specs.declared.host.Wishes.{Wishes}

-- It was logged, recorded and shown if that was wished, and not otherwise. A log or a record that
-- was wished may have ended before the run, if no line was taken any more.
pub record IsAsWished (wishes : Wishes) (book : Book) (pen : Recording) (is_shown : Bool) :
    Type 0 where
  pub logged : book.is_wished ≡ wishes.log
  pub recorded : pen.is_wished ≡ wishes.record
  pub watched : book.is_watching ≡ is_some wishes.status
  pub shown : is_shown ≡ is_some wishes.status
