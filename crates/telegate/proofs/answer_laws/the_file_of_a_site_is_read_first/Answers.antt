use Rattle.telegate.proofs.FileLaw.{only_lacks, site_lacks}
use Rattle.telegate.proofs.answer_laws.the_file_of_a_site_is_read_first.Goals as goal

pub returns-clause-site : goal.returns-clause-site
returns-clause-site c files config site live explain = only_lacks _ _ site.now

pub returns-clause-alone : goal.returns-clause-alone
returns-clause-alone c files config live explain = only_lacks _ _ config.now

pub returns-clause-run : goal.returns-clause-run
returns-clause-run c files config words site is = site_lacks _ _ _ site config.now is
