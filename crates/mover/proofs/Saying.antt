-- What a memory moved in says: numbers, releases and records as the old one.
use Rattle.std.specs.Prelude.{ℕ, ◌+◌, ◌*◌, ◌%◌, ◌<◌, ◌≤◌, ◌≡◌, List, true, length, get_or}
use Rattle.laws.proofs.Prelude.{sym, ap, ◌∙◌, arith}
use Rattle.directory.specs.declared.Directory.{Directory}
use Rattle.memory.proofs.Index.{area_in}
use Rattle.area.specs.Prelude.{AreaIn, load, load_run, number_at, load_number, desk_size, record_count, own_release}
use Rattle.area.specs.Prelude.{open_release, recorded_release, under_way, record_stamp, record_done, record_desk, own_stamp}
use Rattle.area.specs.Prelude.{release_number}
use Rattle.area.proofs.Prelude.{get_or-load_run, length-load_run, load_run_is}
use Rattle.protocol.specs.Release.{size_of}
use Rattle.protocol.specs.Result.{accepted}
use Rattle.protocol.proofs.checks.Limits.{within_limits}
use Rattle.mover.specs.Forms.{old_form, new_form, area_size_in, record_in, record_done_in, record_desks_in}
use Rattle.mover.specs.Areas.{SameArea, NoHighWords, old_own, old_open, old_recorded, old_under_way}
use Rattle.mover.specs.Move.{moved_in, move_in}
use Rattle.mover.proofs.MovedIn.{old_words, inside, area_same, area_high}

-- a number whose high word is 0 is its low word
low_number : (size : ℕ) (m : List ℕ) (c o low : ℕ) → load size m c o ≡ low → load size m c (o + 1) ≡ 0
    → load_number size m c o ≡ low
unfolding number_at
low_number size m c o low is none = rw (is, none) (omega arith)

-- a part of words that are the same
pub part_same : (size size' : ℕ) (m m' : List ℕ) (c o o' n : ℕ) → AreaIn (length m) size c → AreaIn (length m') size' c
    → o + n ≤ size → o' + n ≤ size' → load_run size m c o n ≡ load_run size' m' c o' n → (i k : ℕ) → i + k ≤ n
    → load_run size m c (o + i) k ≡ load_run size' m' c (o' + i) k
part_same size size' m m' c o o' n area area' fits fits' same i k inner =
    load_run_is size m c (o + i) k (load_run size' m' c (o' + i) k)
    (length-load_run size' m' c (o' + i) k area' (omega arith)) area (omega arith)
    (λ j within.
    let at : o + i + j ≡ o + (i + j) = omega arith in
    let at' : o' + i + j ≡ o' + (i + j) = omega arith in
    ap (λ x. load size m c x) at
    ∙ sym (get_or-load_run size m c o n (i + j) (omega arith))
    ∙ ap (λ (vs : List ℕ). get_or vs (i + j) 0) same
    ∙ get_or-load_run size' m' c o' n (i + j) (omega arith)
    ∙ ap (λ x. load size' m' c x) (sym at')
    ∙ sym (get_or-load_run size' m' c (o' + i) k j within))

module _ (d : Directory) (old new : List ℕ) (ok : accepted (move_in d old new).outcome ≡ true) where
  abbrev m : List ℕ
  m = moved_in d old

  abbrev size : ℕ
  size = area_size_in old_form d.pages

  module _ (c : ℕ) (real : c < d.cards) where
    abbrev same : SameArea old_form new_form d.pages old m c
    same = area_same d old new ok c real

    abbrev high : NoHighWords d.pages m c
    high = area_high d old new ok c real

    pub own_stamp_same : load_number (size_of d) m c own_stamp ≡ load size old c own_stamp
    own_stamp_same = low_number (size_of d) m c own_stamp _ same.at_own_stamp high.at_own_stamp

    pub own_same : own_release (size_of d) m c ≡ old_own d old c
    unfolding own_release
    own_same = rw (own_stamp_same, same.at_own_desk)

    pub open_same : open_release (size_of d) m c ≡ old_open d old c
    unfolding open_release
    open_same =
        rw (low_number (size_of d) m c release_number _ same.at_release_number high.at_release_number, same.at_release_desk)

    module _ (k : ℕ) (few : k < record_count) where
      pub stamp_same : load_number (size_of d) m c (record_stamp k) ≡ load size old c (record_in old_form k)
      stamp_same = low_number (size_of d) m c (record_stamp k) _ (same.at_record_stamp k few) (high.at_record_stamp k few)

      pub done_same : load_number (size_of d) m c (record_done k) ≡ load size old c (record_done_in old_form k)
      done_same = low_number (size_of d) m c (record_done k) _ (same.at_record_done k few) (high.at_record_done k few)

      desk_same : (number : ℕ)
          → load_run (size_of d) m c (record_desk k number) desk_size
          ≡ load_run size old c (record_desks_in old_form k + desk_size * (number % 2)) desk_size
      desk_same number =
          let here : AreaIn (length m) (size_of d) c =
          area_in _ real (within_limits _ _ _ (inside d old new ok)).whole in
          let there : AreaIn (length old) size c = area_in _ real (old_words d old new ok) in
          ap (λ o. load_run (size_of d) m c o desk_size) (at number)
          ∙ part_same (size_of d) size m old c (record_desks_in new_form k) (record_desks_in old_form k) (2 * desk_size) here
          there
          (omega arith) (omega arith) (same.record_desks k few) (desk_size * (number % 2)) desk_size (omega arith)
        where
          at : (number : ℕ) → record_desk k number ≡ record_desks_in new_form k + desk_size * (number % 2)
          at number = omega arith

      pub recorded_same : recorded_release (size_of d) m c k ≡ old_recorded d old c k
      unfolding recorded_release
      recorded_same = rw stamp_same (rw (desk_same (load size old c (record_in old_form k))))

      pub under_way_same : under_way (size_of d) m c k ≡ old_under_way d old c k
      unfolding under_way
      under_way_same = rw (stamp_same, done_same)
