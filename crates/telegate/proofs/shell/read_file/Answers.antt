use Rattle.std.proofs.Common.{refl}
use Rattle.telegate.proofs.Files.{unread_first}
use Rattle.telegate.proofs.shell.read_file.Goals as goal

pub returns-in-Err-Unreadable-clause-unread : goal.returns-in-Err-Unreadable-clause-unread
returns-in-Err-Unreadable-clause-unread g c =
    unread_first (g.H.Host.has c.args.host.now) (g.H.Host.lacks c.args.host.now) c.args.name.now 3
    (c.in-Err-Unreadable.ensures.none c.in-Err-Unreadable.field-0-is) refl
