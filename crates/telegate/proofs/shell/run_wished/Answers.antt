use Rattle.std.proofs.Common.{inl, inr}
use Rattle.telegate.proofs.Files.{at_site, without_site}
use Rattle.telegate.proofs.shell.run_wished.Goals as goal

pub returns-in-Ok-clause-runs : goal.returns-in-Ok-clause-runs
returns-in-Ok-clause-runs g c =
    at_site (g.H.Host.has c.args.host.now) (g.H.Host.lacks c.args.host.now)
    (g.H.Host.ran c.args.host.now c.run_at_site.new.host)
    c.args.config.now c.args.words.now c.in-Ok.site c.run_at_site.result c.in-Ok.ensures.site
    c.run_at_site.ensures.runs

pub returns-in-Err-clause-runs : goal.returns-in-Err-clause-runs
returns-in-Err-clause-runs g c =
    without_site (g.H.Host.has c.args.host.now) (g.H.Host.lacks c.args.host.now)
    (g.H.Host.ran c.args.host.now c.args.host.now)
    c.args.config.now c.args.words.now c.in-Err.status c.in-Err.ensures.none

pub returns-in-Ok-clause-alone : goal.returns-in-Ok-clause-alone
returns-in-Ok-clause-alone g c =
    elim c.run_at_site.ensures.alone [
      | inl same ↦ inl same
      | inr run ↦
          inr (record { site = c.in-Ok.site; is = c.in-Ok.ensures.site; run = run })
    ]
