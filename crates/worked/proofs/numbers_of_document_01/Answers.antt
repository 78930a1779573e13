-- `worked::numbers_of_document_01` meets its contract: the theorem is `rows_hold` of proofs/Rows.antt.
use Rattle.worked.proofs.Rows.{rows_hold}
use Rattle.worked.proofs.numbers_of_document_01.Goals as goal

pub returns : goal.returns
returns c = rows_hold
