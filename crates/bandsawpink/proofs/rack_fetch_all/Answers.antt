-- Rests on the batched call: the words that it is lent are the directory.
use mathlib.Core.Path.{◌∙◌, ap}
use Rattle.bandsawpink.proofs.Exported.{pages_exported}
use Rattle.bandsawpink.proofs.rack_fetch_all.Goals as goal

pub returns : goal.returns
returns c =
    let fetched =
    rw (c.lent_in-lent.ensures.header, c.lent_in-lent.ensures.primary, c.lent_in-lent.ensures.secondary) at
    c.fetch_all_lent-fetched.ensures
    in
    let pages = fetched.pages in
    record {
      answer = c.with_shown.ensures ∙ pages_exported _ _ fetched.answer (ap (λ p. p.shown) pages);
      buffer = ap (λ p. p.words) pages;
    }
