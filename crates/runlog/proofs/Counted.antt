-- What is counted of a station.
use Rattle.std.proofs.Common.{◌≡◌, ℕ, List, Option, Some, None, refl}
use Rattle.asdu.specs.declared.sizes.Sizes.{Sizes}
use Rattle.link.specs.declared.answer.Answer.{Answer}
use Rattle.link.specs.declared.answer.Answer.TheVariants as answer
use Rattle.runlog.specs.Answering.{IsCounted}
use Rattle.runlog.specs.Limits.{one_more}
use Rattle.runlog.specs.Traffic.{content_noted, content_of, late_line, mirrors_line, or_else}
use Rattle.runlog.specs.Traffic.{sent, skips_line, spoilt_line, suffered, traffic_line}
use Rattle.runlog.specs.Exchange.{traffic_after}
use Rattle.runlog.specs.declared.content.Content.{Content}
use Rattle.runlog.specs.declared.content.Content.TheVariants as content
use Rattle.runlog.specs.declared.fate.Mishap.{Mishap}
use Rattle.runlog.specs.declared.fate.Mishap.TheVariants as mishap
use Rattle.runlog.specs.declared.note.LogLine.{LogLine}
use Rattle.runlog.specs.declared.order.Order.{Order}
use Rattle.runlog.specs.declared.traffic.Traffic.{Traffic}

abbrev Same : (t v : Traffic) → Type 0
Same t v = IsCounted t.reports t.last_report t.skipped t.commands t v

same : (t : Traffic) → Same t t
same t = record { address = refl; reported = refl; at = refl; skips = refl; orders = refl }

pub mishap_so : (what : Mishap) (now : ℕ) (t : Traffic)
    → IsCounted t.reports t.last_report t.skipped t.commands t (suffered what now t)
mishap_so mishap.GivenUp now t = same t
mishap_so mishap.MirrorDropped now t =
    record { address = refl; reported = refl; at = refl; skips = refl; orders = refl }
mishap_so (mishap.Spoilt by) now t =
    record { address = refl; reported = refl; at = refl; skips = refl; orders = refl }
mishap_so (mishap.Late ms) now t =
    record { address = refl; reported = refl; at = refl; skips = refl; orders = refl }

pub command_so : (o : Option Order) (t : Traffic)
    → IsCounted t.reports t.last_report t.skipped (one_more t.commands) t (sent o t)
command_so o t =
    record { address = refl; reported = refl; at = refl; skips = refl; orders = refl }

abbrev counted : ℕ → Traffic → Traffic
counted now t = record t { reports = one_more t.reports; last_report = Some now }

noted_address : (what : Content) (now : ℕ) (octets : List ℕ) (t : Traffic)
    → (content_noted what now octets t).address ≡ t.address
noted_address content.Report now octets t = refl
noted_address content.Reply now octets t = refl
noted_address (content.Skipped why) now octets t = refl

pub answered_address : (answer : Option Answer) (sizes : Sizes) (now : ℕ) (t : Traffic)
    → (traffic_after answer sizes now t).address ≡ t.address
answered_address None sizes now t = refl
answered_address (Some (answer.Report octets)) sizes now t =
    noted_address (content_of sizes octets) now octets (counted now t)
answered_address (Some answer.Busy) sizes now t = refl
answered_address (Some answer.NoData) sizes now t = refl
answered_address (Some answer.Confirmed) sizes now t = refl
answered_address (Some answer.Ready) sizes now t = refl
answered_address (Some answer.Unable) sizes now t = refl

-- what is sought among its lines
or_else_address : (x : Traffic × Option LogLine) (f : Traffic → Traffic × Option LogLine) (n : ℕ)
    → x.0.address ≡ n → ((t : Traffic) → t.address ≡ n → (f t).0.address ≡ n)
    → (or_else x f).0.address ≡ n
or_else_address (t, Some line) f n is more = is
or_else_address (t, None) f n is more = more t is

pub line_address : (now : ℕ) (t : Traffic) → (traffic_line now t).0.address ≡ t.address
line_address now t =
    or_else_address (skips_line now t) _ t.address refl (λ u is.
    or_else_address (mirrors_line now u) _ t.address is (λ v so.
    or_else_address (spoilt_line now v) (late_line now) t.address so (λ x same. same)))
