-- `diff::merged_is_both` meets its contract: the theorems of proofs/Merges.antt.
use Rattle.diff.proofs.Merges.{merged_is_both, answers_merges, merges_either_way, empty_changes_nothing}
use Rattle.diff.proofs.merged_is_both.Goals as goal

pub returns : goal.returns
returns c =
    record {
      merged = merged_is_both;
      answered = answers_merges;
      three = merges_either_way;
      empty = empty_changes_nothing;
    }
