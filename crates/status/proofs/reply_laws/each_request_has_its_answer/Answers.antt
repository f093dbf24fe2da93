use Rattle.std.proofs.Common.{ap, true, false, Option}
use Rattle.status.specs.Request.{page_or}
use Rattle.status.specs.declared.request.View.{View}
use Rattle.status.proofs.ReplyLemmas.{no_view, other_method}
use Rattle.status.specs.Request.{path_of}
use Rattle.status.proofs.reply_laws.each_request_has_its_answer.Goals as goal

pub returns-clause-get : goal.returns-clause-get
returns-clause-get c target root json metrics table =
    let none = no_view (path_of target) root json metrics table in (
      ap (λ (v : Option View). page_or v true) none,
      ap (λ (v : Option View). page_or v false) none,
    )

pub returns-clause-other : goal.returns-clause-other
returns-clause-other c method target = other_method method target
