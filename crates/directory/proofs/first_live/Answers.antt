-- Rests on the laws of a turn: the search from here on finds what the whole search finds.
use Rattle.std.proofs.Common.{◌≡◌, ◌≤◌, length, sym, ◌∙◌, arith, rules}
use Rattle.laws.proofs.Prelude.{dec_lt}
use Rattle.laws.proofs.Search.{lowest_end, lowest_hit, lowest_skip}
use Rattle.directory.specs.Live.{live_at, first_live}
use Rattle.directory.proofs.Live.{found_live_some, found_live_none, first_live_past_marks}
use Rattle.directory.proofs.first_live.Goals as goal

pub returns-then-marks-card : goal.returns-then-marks-card
returns-then-marks-card c =
    found_live_some _ _ _ _
    (sym c.loop-card.invariant ∙ lowest_hit _ _ _ (omega arith) c.if-marks-card.true)
    (omega arith)

pub loop-card-preserved : goal.loop-card-preserved
loop-card-preserved c = lowest_skip _ _ _ (omega arith) c.if-marks-card.false ∙ c.loop-card.invariant

pub returns : goal.returns
returns c =
    let a = c.args in
    let card = c.loop-card.card in
    let marks : length a.marks.now ≡ 8 = search rules in
    let past : a.cards ≤ first_live a.marks.now card a.cards =
    elim (dec_lt card a.cards) [
      | yes below ↦ omega (arith, first_live_past_marks a.marks.now card a.cards (omega arith) (omega arith))
      | no end ↦ omega (arith, lowest_end (live_at a.marks.now) card a.cards (omega arith))
    ]
    in
    found_live_none _ _ _ (omega (arith, c.loop-card.invariant))
