use Rattle.status.proofs.ReadingLemmas.{html_reads, json_reads, label_reads}
use Rattle.status.proofs.reading_laws.texts_are_read_back.Goals as goal

pub returns : goal.returns
returns c = record { json = json_reads; label = label_reads; html = html_reads }
