-- The part of the text that is lent on is all new.
use Rattle.std.proofs.Common.{◌≡◌, ◌+◌, ◌-◌, length, append_assoc, arith}
use Rattle.std.proofs.lemmas.List.{drop-drop}
use Rattle.std.proofs.lemmas.List.Edits.{sets-eq}
use Rattle.decimal.proofs.append_bytes.Goals as goal

pub returns-clause-text_after : goal.returns-clause-text_after
returns-clause-text_after c =
    let a = c.args in
    let count : a.end + length a.bytes.now - a.end ≡ length a.bytes.now = omega arith in
    rw (
      c.copy_from_slice.ensures.after,
      count,
      drop-drop (length a.bytes.now) a.end a.text.now,
      sets-eq a.bytes.now a.text.now a.end c.requires,
      append_assoc,
    )
