-- The directory's three parts, stored one after the other, are all its words.
use Rattle.std.specs.Prelude.{ℕ, ◌≡◌, List, ◌++◌, length}
use Rattle.laws.proofs.Prelude.{refl, sym, ◌∙◌, arith}
use lib.ListN.{length-append}
use lib.Seq.{sets}
use Rattle.laws.proofs.Lists.{sets-append, sets_whole}
use Rattle.directory.specs.declared.Directory.{Directory}
use Rattle.directory.specs.Directory.{table_from}
use Rattle.bandsawpink.specs.Words.{head_of}

pub parts_stored : (words head primary secondary : List ℕ) → length words ≡ 139 → length head ≡ 11
    → length primary ≡ 64
    → length secondary ≡ 64
    → sets (sets (sets words 0 head) 11 primary) 75 secondary ≡ head ++ (primary ++ secondary)
parts_stored words head primary secondary all eleven first second =
    let in_parts : sets words 0 (head ++ (primary ++ secondary))
    ≡ sets (sets (sets words 0 head) 11 primary) 75 secondary
    = rw (sets-append head (primary ++ secondary) words 0, eleven, sets-append primary secondary _ 11, first) in
    sym in_parts ∙ sets_whole _ words (simp length-append (omega arith))

pub head_length : (d : Directory) → length (head_of d) ≡ 11
unfolding table_from
head_length d = refl
