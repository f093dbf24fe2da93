use Rattle.std.proofs.Common.{inl, inr}
use Rattle.telegate.proofs.shell.run_at_site.Goals as goal

pub returns-in-Ok-clause-runs : goal.returns-in-Ok-clause-runs
returns-in-Ok-clause-runs g c =
    elim c.run_file.ensures.runs [
      | inl live ↦
          inl
          (inl (record { wishes = c.in-Ok.wishes; wished = c.in-Ok.ensures.wishes; live = live }))
      | inr unread ↦ inr unread
    ]

pub returns-in-Ok-clause-alone : goal.returns-in-Ok-clause-alone
returns-in-Ok-clause-alone g c =
    elim c.run_file.ensures.alone [
      | inl same ↦ inl same
      | inr live ↦
          inr
          (record { wishes = c.in-Ok.wishes; wished = c.in-Ok.ensures.wishes; live = live })
    ]
