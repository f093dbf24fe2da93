use Rattle.std.proofs.Common.{◌≡◌, ◌∙◌, true, false, inl, inr, sym}
use Rattle.state.proofs.looking.look_from.Goals as goal

pub returns-in-LinksReset-clause-sight : goal.returns-in-LinksReset-clause-sight
returns-in-LinksReset-clause-sight g c =
    c.look_behind.ensures.sight c.args.is_stale (g.D.Disk.seen c.args.files.log)
    (g.D.Disk.seen c.args.files.db) c.in-Ok.ensures.placed
    (λ no. absurd (cc))
    (λ _. elim (c.found_in.ensures.reset (sym c.in-LinksReset.ensures)) [
      | inl stale ↦ inl stale
      | inr doubt ↦ inr (λ older. let no : true ≡ false = sym doubt
          ∙ c.in-Ok.ensures.only (c.requires.honest _, c.requires.honest _)
          (c.found_in.ensures.past (sym c.in-LinksReset.ensures)) older in
          absurd (cc))
    ])
