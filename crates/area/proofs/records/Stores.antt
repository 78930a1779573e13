-- The run that a record is stored as.
use Rattle.std.specs.Prelude.{ℕ, ◌+◌, ◌*◌, ◌%◌, ◌≡◌, List, ◌++◌, cond, eqb, length}
use Rattle.laws.proofs.Prelude.{ap, ◌∙◌, arith, ℕ_discrete, eq-eqb, ne_eqb}
use mathlib.Core.List.{append-nil, append_assoc}
use lib.ListN.{length-append}
use lib.Seq.{sets, sets-eq}
use Rattle.laws.proofs.Lists.{sets_front, sets-second}
use Rattle.memory.specs.Words.{index_of, store_run, zeros}
use Rattle.memory.proofs.Runs.{store_run_sets}
use Rattle.area.specs.Layout.{number_size, desk_size, record_size, desk_in_record}
use Rattle.area.specs.Numbers.{number_words, store_number}
use Rattle.area.specs.Releases.{release_of}
use Rattle.area.specs.Record.{settled_record}
use Rattle.area.proofs.NumberWords.{length_number, number_then}

module _ (number : ℕ) (desk : List ℕ) (long : length desk ≡ desk_size) where
  -- the desk in the room for two
  abbrev desks : List ℕ
  desks = cond (eqb (number % 2) 0) (desk ++ zeros desk_size) (zeros desk_size ++ desk)

  desk-stored : sets (zeros (2 * desk_size)) (desk_size * (number % 2)) desk ≡ desks
  unfolding zeros
  desk-stored =
      elim (ℕ_discrete (number % 2) 0) [
        | yes even ↦ rw (eq-eqb (number % 2) 0 even, even) (sets-eq desk _ 0 (omega arith) ∙ rw long)
        | no odd ↦
            let one : number % 2 ≡ 1 = omega arith in
            rw (ne_eqb (number % 2) 0 odd, one) (sets-eq desk _ desk_size (omega arith) ∙ rw (long, append-nil desk))
      ]

  -- stamp and done mark, and the room behind them
  abbrev marks : List ℕ
  marks = number_words number ++ number_words number

  length-marks : length marks ≡ 2 * number_size
  length-marks = simp length-append (omega (arith, length_number number))

  marks-stored : store_run record_size (zeros record_size) 0 0 marks ≡ marks ++ zeros (2 * desk_size)
  unfolding zeros
  marks-stored =
      store_run_sets record_size (zeros record_size) 0 0 marks
      ∙ sets_front marks (zeros record_size) (omega (arith, length-marks))
      ∙ rw length-marks

  -- a record: stamp, done mark and desk stored over a run that is 0
  pub record_words :
      store_run record_size
      (store_number record_size (store_number record_size (zeros record_size) 0 0 number) 0 number_size number)
      0 (desk_in_record number) desk
      ≡ settled_record (release_of number desk)
  unfolding settled_record
  record_words =
      let at : index_of record_size 0 (desk_in_record number) ≡ length marks + desk_size * (number % 2) =
      omega (arith, length-marks) in
      ap (λ m. store_run record_size m 0 (desk_in_record number) desk)
      (number_then record_size (zeros record_size) 0 0 number (number_words number) ∙ marks-stored)
      ∙ store_run_sets record_size (marks ++ zeros (2 * desk_size)) 0 (desk_in_record number) desk
      ∙ ap (λ i. sets (marks ++ zeros (2 * desk_size)) i desk) at
      ∙ sets-second marks (zeros (2 * desk_size)) (desk_size * (number % 2)) desk
      ∙ ap (λ l. marks ++ l) desk-stored
      ∙ append_assoc (number_words number) (number_words number) desks
