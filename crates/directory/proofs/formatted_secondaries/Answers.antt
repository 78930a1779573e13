-- Rests on `table_made`: each item is what the closure answers at its index.
use Rattle.std.proofs.Common.{rules}
use Rattle.directory.proofs.Table.{table_made}
use Rattle.directory.proofs.formatted_secondaries.Goals as goal

pub returns : goal.returns
returns c = table_made _ _ _ _ _ (λ i item f' below call. search rules) c.from_fn.ensures.items
