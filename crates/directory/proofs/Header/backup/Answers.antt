-- Rests on `next_live_found`: the card found above it, else the one found from 0 on.
use Rattle.std.proofs.Common.{◌+◌, ◌∙◌, rules}
use Rattle.directory.proofs.Live.{next_live_found, found_live_capped}
use Rattle.directory.proofs.Header.backup.Goals as goal

pub returns : goal.returns
returns c =
    let a = c.args in
    c.unwrap_or.ensures ∙ next_live_found a.self.live a.self.cards a.card c.first_live.result c.or_else.result
    (c.first_live.ensures ∙ rw c.saturating_add.ensures (found_live_capped a.self.live (a.card + 1) 4294967295 a.self.cards (search rules))) (search rules)
