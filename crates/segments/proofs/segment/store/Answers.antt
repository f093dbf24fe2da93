use Rattle.segments.proofs.CrashLemmas.{written_text, written_blank, written_length}
use Rattle.segments.proofs.CrashLemmas.{length_kept, beginning_kept, no_other_kept}
use Rattle.segments.proofs.segment.store.Goals as goal

pub returns-in-Ok-clause-text : goal.returns-in-Ok-clause-text
returns-in-Ok-clause-text g c =
    written_text c.args.at _ _ _ c.write_at.ensures.others c.requires.within
    (c.in-Ok.ensures.written c.requires.some)

pub returns-in-Ok-clause-blank : goal.returns-in-Ok-clause-blank
returns-in-Ok-clause-blank g c =
    written_blank c.args.at _ _ _ c.write_at.ensures.others c.requires.within c.requires.blank

pub returns-in-Ok-clause-sized : goal.returns-in-Ok-clause-sized
returns-in-Ok-clause-sized g c = written_length c.args.at _ _ _ c.write_at.ensures.others
    c.requires.within

pub returns-in-Ok-clause-long : goal.returns-in-Ok-clause-long
returns-in-Ok-clause-long g c = length_kept c.args.at _ _ _ _ c.write_at.ensures.crash
    c.requires.within

pub returns-in-Ok-clause-kept : goal.returns-in-Ok-clause-kept
returns-in-Ok-clause-kept g c =
    λ n text most long. beginning_kept c.args.at _ _ _ _ c.write_at.ensures.crash c.requires.within
    long n text most

pub returns-in-Ok-clause-mixed : goal.returns-in-Ok-clause-mixed
returns-in-Ok-clause-mixed g c =
    λ text mixing long has. no_other_kept c.args.at _ _ text _ _
    (c.write_at.ensures.mixed mixing c.requires.small) c.requires.within long has

pub returns-in-Err-clause-sized : goal.returns-in-Err-clause-sized
returns-in-Err-clause-sized g c = written_length c.args.at _ _ _ c.write_at.ensures.others
    c.requires.within

pub returns-in-Err-clause-long : goal.returns-in-Err-clause-long
returns-in-Err-clause-long g c = length_kept c.args.at _ _ _ _ c.write_at.ensures.crash
    c.requires.within

pub returns-in-Err-clause-kept : goal.returns-in-Err-clause-kept
returns-in-Err-clause-kept g c =
    λ n text most long. beginning_kept c.args.at _ _ _ _ c.write_at.ensures.crash c.requires.within
    long n text most

pub returns-in-Err-clause-mixed : goal.returns-in-Err-clause-mixed
returns-in-Err-clause-mixed g c =
    λ text mixing long has. no_other_kept c.args.at _ _ text _ _
    (c.write_at.ensures.mixed mixing c.requires.small) c.requires.within long has
